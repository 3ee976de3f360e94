-- A free run becomes live again.
use Rattle.std.proofs.Common.{◌≡◌, ◌⊎◌, ℕ, ◌+◌, ◌<◌, ◌≤◌, List, [], ◌∷◌, length, get_or, take, drop, cond, true}
use Rattle.std.proofs.Common.{None, refl, sym, ap, subst, ◌∙◌, arith, inl, inr}
use Rattle.std.proofs.Math.ListN.{set}
use Rattle.std.proofs.lemmas.List.{length-map, length-set, get_or-set_same, get_or-set_other, get_or_default}
use Rattle.std.specs.FinMap.{get}
use Rattle.sd_runs.specs.Arena.{IsMember, HasNoCopies, free_of, with_list}
use Rattle.sd_runs.specs.Taking.{taken, taken_at}
use Rattle.sd_runs.specs.Fields.{chain, is_in, run_list, lists_of, stacks_of, lengths_of, filled_map, no_run}
use Rattle.sd_runs.specs.Stored.{AreMarked, AreRunsStored, HoldsRuns, IsFreeChain}
use Rattle.sd_runs.proofs.Arenas.{arena_of, same_arena, free_at}
use Rattle.sd_runs.proofs.Chains.{chain_kept, has_no}
use Rattle.sd_runs.proofs.Lists.{list_first, list_live}
use Rattle.sd_runs.proofs.Maps.{shown, filled_set, get_filled, with_list_some}
use Rattle.sd_runs.proofs.Marked.{lengths_set, marked_as, marked_one}
use Rattle.sd_runs.proofs.Places.{by_cases, placed, not_equal}
use Rattle.sd_runs.proofs.Steps.{free_inside, stored_reuse}
use Rattle.sd_runs.proofs.Told.{outside, list_other, stacks_are, lists_are, kept_from, kept_marks, arena_marks}
use Rattle.sd_runs.specs.Written.{put}
use Rattle.sd_runs.proofs.Written.{put_length, put_other, put_part}

module _ (elements : List (ℕ × ℕ)) (marks heads : List ℕ) (used bound s n : ℕ) (rest : List ℕ)
    (k : HoldsRuns elements marks heads used bound)
    (free : free_of (arena_of (lists_of elements marks heads) (stacks_of elements heads)
    (length elements) bound) n ≡ s ∷ rest) where
  -- the start is the first of the free ones of its length
  on_stack : get_or (stacks_of elements heads) n [] ≡ s ∷ rest
  on_stack =
      sym (free_at (lists_of elements marks heads) (stacks_of elements heads) (length elements) bound n) ∙ free

  first : IsMember s (get_or (stacks_of elements heads) n [])
  first = subst (IsMember s) (sym on_stack) (inl refl)

  run : get_or (lengths_of marks) s 0 ≡ n
  run = k.stored.sized n s first

  pub at_least_one : 0 < n
  at_least_one = k.stored.at_least_one n s first

  -- it lies within the elements
  pub inside : s + n ≤ length elements
  inside = free_inside k.stored n s first

  -- its length has a place
  pub has_head : n < length heads
  has_head = omega (arith, run, k.placed s (omega (arith, run, at_least_one)))

  -- the start is not that of a live run
  pub not_live : get (arena_of (lists_of elements marks heads) (stacks_of elements heads)
      (length elements) bound).live s ≡ None
  not_live = get_filled (lists_of elements marks heads) s ∙ ap shown (k.stored.free n s first)

  list_inside : s < length (lists_of elements marks heads)
  list_inside = omega (arith, inside, at_least_one, k.stored.covered)

  stack_inside : n < length (stacks_of elements heads)
  stack_inside = omega (arith, has_head, length-map heads (λ head. chain (length elements) elements head))

  alone : HasNoCopies (s ∷ rest)
  alone = subst HasNoCopies on_stack (k.stored.once n)

  chain_here : IsFreeChain elements (get_or heads n no_run) (s ∷ rest)
  chain_here = subst (IsFreeChain elements (get_or heads n no_run)) on_stack (k.chained n)

  module _ (new : List (ℕ × ℕ)) (list : List (ℕ × ℕ)) (size : length list ≡ n)
      (same_size : length new ≡ length elements)
      (same : (x : ℕ) → (x < s) ⊎ (s + n ≤ x) → get_or new x (0, 0) ≡ get_or elements x (0, 0))
      (with_it : take n (drop s new) ≡ list) where
    abbrev next : ℕ
    next = (get_or elements s (0, 0)).0

    abbrev starts : List (List ℕ)
    starts = set (stacks_of elements heads) n rest

    abbrev lists : List (List (ℕ × ℕ))
    lists = set (lists_of elements marks heads) s list

    stored : AreRunsStored lists (lengths_of marks) starts (used + n) (length new) bound
    stored =
        subst (λ e. AreRunsStored lists (lengths_of marks) starts (used + n) e bound) (sym same_size)
        (stored_reuse k.stored n s rest list on_stack size at_least_one stack_inside)

    -- the first elements of the other free runs stay
    other : (m x : ℕ) → IsMember x (get_or (stacks_of elements heads) m []) → ¬ (x ≡ s)
        → get_or new x (0, 0) ≡ get_or elements x (0, 0)
    other m x h ne =
        let there : get_or (lengths_of marks) x 0 ≡ m = k.stored.sized m x h in
        let pos : 0 < m = k.stored.at_least_one m x h in
        same x (by_cases inl (λ more. inr (omega (arith, more, run)))
        (outside k.stored s x x ne (omega (arith, run, at_least_one)) (omega (arith, there, pos)) (omega arith)
        (omega (arith, there, pos))))

    chained : (m : ℕ) → IsFreeChain new (get_or (set heads n next) m no_run) (get_or starts m [])
    chained m =
        placed (stacks_of elements heads) n rest [] m
        (IsFreeChain new (get_or (set heads n next) m no_run)) stack_inside
        (λ e. subst (λ at. IsFreeChain new at rest)
        (sym (ap (λ j. get_or (set heads n next) j no_run) e ∙ get_or-set_same heads n next no_run has_head))
        (chain_kept elements new next rest
        (λ x h. other n x (subst (IsMember x) (sym on_stack) (inr h))
        (λ same_start. alone.0 (subst (λ j. IsMember j rest) same_start h)))
        chain_here.1))
        (λ ne. subst (λ at. IsFreeChain new at (get_or (stacks_of elements heads) m []))
        (sym (get_or-set_other heads n m next no_run ne))
        (chain_kept elements new (get_or heads m no_run) (get_or (stacks_of elements heads) m [])
        (λ x h. other m x h (λ e. ne (sym (k.stored.sized m x h) ∙ ap (λ j. get_or (lengths_of marks) j 0) e ∙ run)))
        (k.chained m)))

    free_there : (t m : ℕ) → ¬ (t ≡ s) → is_in t (get_or starts m []) ≡ is_in t (get_or (stacks_of elements heads) m [])
    free_there t m ne =
        placed (stacks_of elements heads) n rest [] m
        (λ l. is_in t l ≡ is_in t (get_or (stacks_of elements heads) m [])) stack_inside
        (λ e. sym (ap (λ j. is_in t (get_or (stacks_of elements heads) j [])) e ∙ ap (is_in t) on_stack
        ∙ ap (λ b. cond b true (is_in t rest)) (not_equal t s ne)))
        (λ _. refl)

    listed : (t : ℕ) → get_or lists t [] ≡ run_list new starts t (get_or (lengths_of marks) t 0)
    listed t =
        placed (lists_of elements marks heads) s list [] t
        (λ l. l ≡ run_list new starts t (get_or (lengths_of marks) t 0)) list_inside
        (λ e. subst (λ j. list ≡ run_list new starts j (get_or (lengths_of marks) j 0)) (sym e)
        (sym (ap (run_list new starts s) run
        ∙ list_live new starts s n (λ h. alone.0 (subst (IsMember s)
        (get_or-set_same (stacks_of elements heads) n rest [] stack_inside) h))
        ∙ with_it)))
        (λ ne. list_first elements (stacks_of elements heads) (lengths_of marks) t
        ∙ sym (list_other k.stored elements new starts s t ne (omega (arith, run, at_least_one)) same_size
        (λ x away. same x (by_cases inl (λ more. inr (omega (arith, more, run))) away))
        (free_there t (get_or (lengths_of marks) t 0) ne)))

    places : length starts ≡ length (set heads n next)
    places =
        length-set (stacks_of elements heads) n rest
        ∙ length-map heads (λ head. chain (length elements) elements head) ∙ sym (length-set heads n next)

    placed_still : (t : ℕ) → 0 < get_or (lengths_of marks) t 0
        → get_or (lengths_of marks) t 0 < length (set heads n next)
    placed_still t h = omega (arith, k.placed t h, length-set heads n next)

    -- the lengths stay where the start is marked anew
    same_lengths : lengths_of (set marks s 1) ≡ lengths_of marks
    same_lengths = lengths_set marks s 1 (omega (arith, run, at_least_one)) (omega arith)

    -- the fields after the run was used again
    pub kept_after : HoldsRuns new (set marks s 1) (set heads n (get_or elements s (0, 0)).0) (used + n) bound
    kept_after =
        kept_marks new marks (set marks s 1) (set heads n next) same_lengths
        (kept_from new marks (set heads n next) stored places chained listed (k.filled ∙ sym same_size) placed_still)

    stacks_after : stacks_of new (set heads n next) ≡ starts
    stacks_after =
        stacks_are new marks (set heads n next) stored places chained listed (k.filled ∙ sym same_size) placed_still

    -- it is free no longer
    gone : ¬ IsMember s (get_or starts 2 [])
    gone =
        placed (stacks_of elements heads) n rest [] 2 (λ l. ¬ IsMember s l) stack_inside (λ _. alone.0)
        (λ ne h. ne (sym (k.stored.sized 2 s h) ∙ run))

    -- the marks after the run was used again
    pub marks_after : AreMarked marks (stacks_of elements heads) (length elements)
        → AreMarked (set marks s 1) (stacks_of new (set heads n (get_or elements s (0, 0)).0)) (length new)
    marks_after m =
        marked_as
        (marked_one m s 1 (omega (arith, inside, at_least_one)) (sym (has_no s (get_or starts 2 []) gone))
        (λ t ne. free_there t 2 ne))
        stacks_after same_size

    -- the arena after the run was used again
    pub arena_after : arena_of (lists_of new (set marks s 1) (set heads n (get_or elements s (0, 0)).0))
        (stacks_of new (set heads n (get_or elements s (0, 0)).0)) (length new) bound
        ≡ taken (arena_of (lists_of elements marks heads) (stacks_of elements heads) (length elements) bound) list
    arena_after =
        arena_marks new marks (set marks s 1) (set heads n next) same_lengths (length new) bound
        ∙ same_arena _ _ _ _ (length new) (length elements) bound
        (ap filled_map (lists_are new marks (set heads n next) stored places chained listed
        (k.filled ∙ sym same_size) placed_still)
        ∙ filled_set (lists_of elements marks heads) s list list_inside
        ∙ with_list_some (filled_map (lists_of elements marks heads)) s list (omega (arith, size, at_least_one)))
        (ap filled_map stacks_after
        ∙ filled_set (stacks_of elements heads) n rest stack_inside
        ∙ ap (λ m. with_list (filled_map (stacks_of elements heads)) m rest) (sym size))
        same_size
        ∙ ap (λ l. taken_at l (arena_of (lists_of elements marks heads) (stacks_of elements heads)
        (length elements) bound) list)
        (sym (ap (free_of (arena_of (lists_of elements marks heads) (stacks_of elements heads)
        (length elements) bound)) size ∙ free))

  module _ (new : List (ℕ × ℕ)) (list : List (ℕ × ℕ)) (e : ℕ × ℕ) (size : length list ≡ n)
      (reads : e ≡ get_or elements s e) (is : new ≡ put s elements list) where
    fits : s + length list ≤ length elements
    fits = omega (arith, inside, size)

    other_stays : (x : ℕ) → (x < s) ⊎ (s + n ≤ x) → get_or (put s elements list) x (0, 0) ≡ get_or elements x (0, 0)
    other_stays x away =
        put_other s elements list x (0, 0) fits
        (by_cases inl (λ more. inr (omega (arith, more, size))) away)

    next_is : e.0 ≡ (get_or elements s (0, 0)).0
    next_is = ap (λ (p : ℕ × ℕ). p.0) (reads ∙ get_or_default elements s e (0, 0) (omega (arith, inside, at_least_one)))

    -- the fields after the list was written over the free run
    pub kept_written : HoldsRuns new (set marks s 1) (set heads n e.0) (used + n) bound
    kept_written =
        subst (λ j. HoldsRuns new (set marks s 1) (set heads n j) (used + n) bound) (sym next_is)
        (subst (λ l. HoldsRuns l (set marks s 1) (set heads n (get_or elements s (0, 0)).0) (used + n) bound) (sym is)
        (kept_after (put s elements list) list size (put_length s elements list fits) other_stays
        (put_part s n elements list fits size)))

    -- the marks after the list was written over the free run
    pub marks_written : AreMarked marks (stacks_of elements heads) (length elements)
        → AreMarked (set marks s 1) (stacks_of new (set heads n e.0)) (length new)
    marks_written m =
        subst (λ j. AreMarked (set marks s 1) (stacks_of new (set heads n j)) (length new)) (sym next_is)
        (subst (λ l. AreMarked (set marks s 1) (stacks_of l (set heads n (get_or elements s (0, 0)).0)) (length l))
        (sym is)
        (marks_after (put s elements list) list size (put_length s elements list fits) other_stays
        (put_part s n elements list fits size) m))

    -- the arena after the list was written over the free run
    pub arena_written : arena_of (lists_of new (set marks s 1) (set heads n e.0)) (stacks_of new (set heads n e.0))
        (length new) bound
        ≡ taken (arena_of (lists_of elements marks heads) (stacks_of elements heads) (length elements) bound) list
    arena_written =
        ap (λ j. arena_of (lists_of new (set marks s 1) (set heads n j)) (stacks_of new (set heads n j)) (length new)
        bound)
        next_is
        ∙ ap (λ l. arena_of (lists_of l (set marks s 1) (set heads n (get_or elements s (0, 0)).0))
        (stacks_of l (set heads n (get_or elements s (0, 0)).0)) (length l) bound) is
        ∙ arena_after (put s elements list) list size (put_length s elements list fits) other_stays
        (put_part s n elements list fits size)
