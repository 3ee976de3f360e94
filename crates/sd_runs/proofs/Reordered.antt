-- The free runs of one length come in another order.
use Rattle.std.proofs.Common.{◌≡◌, ℕ, suc, ◌+◌, ◌*◌, ◌<◌, ◌≤◌, true, false, List, [], ◌∷◌, length, get_or, eqb}
use Rattle.std.proofs.Common.{refl, sym, ap, subst, ◌∙◌, arith, inl, inr}
use Rattle.std.proofs.Math.ListN.{set}
use Rattle.std.proofs.lemmas.Bool.{cases_eq, eqb-true}
use Rattle.std.proofs.lemmas.List.{length-map, length-set, get_or-set_same, get_or-set_other}
use Rattle.sd_runs.specs.Arena.{IsMember, HasNoCopies, free_of}
use Rattle.sd_runs.specs.Fields.{chain, is_in, run_list, lists_of, stacks_of, lengths_of, filled_map, no_run}
use Rattle.sd_runs.specs.Ordered.{IsRechained}
use Rattle.sd_runs.specs.Stored.{AreMarked, AreRunsStored, HoldsRuns, IsFreeChain}
use Rattle.sd_runs.specs.Taking.{IsReordered}
use Rattle.sd_runs.proofs.Arenas.{arena_of, free_at}
use Rattle.sd_runs.proofs.Chains.{chain_kept, has_yes, has_no, has_or_not}
use Rattle.sd_runs.proofs.Lists.{list_first, list_free, list_same, part_same}
use Rattle.sd_runs.proofs.Marked.{marked_as, marked_same}
use Rattle.sd_runs.proofs.Places.{by_cases, placed}
use Rattle.sd_runs.proofs.Told.{stacks_are, lists_are, kept_from}
use Rattle.sd_runs.proofs.Totals.{free_sum_set}

-- where the test says so a number is in the list
is_yes : (x : ℕ) (xs : List ℕ) → is_in x xs ≡ true → IsMember x xs
is_yes x xs e =
    by_cases (λ h. h) (λ none. let bad : true ≡ false = sym e ∙ has_no x xs none in absurd cc) (has_or_not x xs)

-- lists with the same numbers have the same tests
same_test : (x : ℕ) (xs ys : List ℕ) → (IsMember x xs → IsMember x ys) → (IsMember x ys → IsMember x xs)
    → is_in x xs ≡ is_in x ys
same_test x xs ys there back =
    by_cases
    (λ h. has_yes x xs h ∙ sym (has_yes x ys (there h)))
    (λ none. has_no x xs none ∙ sym (has_no x ys (λ h. none (back h))))
    (has_or_not x xs)

-- a list without one of its numbers is shorter by one, and has the other ones
one_less : (x : ℕ) (ys : List ℕ) → IsMember x ys
    → (zs : List ℕ) × (length ys ≡ suc (length zs)) × ((z : ℕ) → ¬ (z ≡ x) → IsMember z ys → IsMember z zs)
one_less x [] h = absurd h
one_less x (y ∷ ys) h =
    by_cases
    (λ e. (ys, refl, λ z ne. by_cases (λ same. absurd (ne (sym same ∙ e))) (λ i. i)))
    (λ i. let less = one_less x ys i in
    (y ∷ less.0, ap suc less.1, λ z ne. by_cases inl (λ j. inr (less.2 z ne j))))
    h

-- different numbers that are all in a list are no more than its length
no_more : (xs ys : List ℕ) → HasNoCopies xs → ((x : ℕ) → IsMember x xs → IsMember x ys) → length xs ≤ length ys
no_more [] ys once there = omega arith
no_more (x ∷ xs) ys once there =
    let less = one_less x ys (there x (inl refl)) in
    let rest : length xs ≤ length less.0 = no_more xs less.0 once.1
    (λ y h. less.2 y (λ e. once.0 (subst (λ j. IsMember j xs) e h)) (there y (inr h))) in
    omega (arith, rest, less.1)

-- what holds of the fields is kept when the free runs of a length come in another order
stored_order : {lists : List (List (ℕ × ℕ))} {lengths : List ℕ} {stacks : List (List ℕ)} {used extent bound : ℕ}
    → AreRunsStored lists lengths stacks used extent bound → (n : ℕ) (starts : List ℕ) → n < length stacks
    → HasNoCopies starts → ((s : ℕ) → IsMember s starts → IsMember s (get_or stacks n []))
    → length starts ≡ length (get_or stacks n [])
    → AreRunsStored lists lengths (set stacks n starts) used extent bound
stored_order {lists} {lengths} {stacks} {used} {extent} {bound} st n starts in_stacks once was count =
    record {
      same_length = st.same_length;
      held = st.held;
      within = st.within;
      apart = st.apart;
      sized = λ m t. placed stacks n starts [] m (λ l. IsMember t l → get_or lengths t 0 ≡ m) in_stacks
          (λ e h. st.sized n t (was t h) ∙ sym e) (λ _. st.sized m t);
      at_least_one = λ m t. placed stacks n starts [] m (λ l. IsMember t l → 0 < m) in_stacks
          (λ e h. omega (arith, e, st.at_least_one n t (was t h))) (λ _. st.at_least_one m t);
      free = λ m t. placed stacks n starts [] m (λ l. IsMember t l → get_or lists t [] ≡ []) in_stacks
          (λ _ h. st.free n t (was t h)) (λ _. st.free m t);
      once = λ m. placed stacks n starts [] m HasNoCopies in_stacks (λ _. once) (λ _. st.once m);
      uses = st.uses;
      fills = st.fills;
      whole = omega (
        arith,
        st.whole,
        free_sum_set 0 stacks n starts in_stacks,
        ap (λ c. (0 + n) * c) count,
      );
      covered = st.covered;
      bounded = st.bounded;
      bound_fits = st.bound_fits;
    }

module _ (elements : List (ℕ × ℕ)) (marks heads : List ℕ) (used bound n : ℕ)
    (k : HoldsRuns elements marks heads used bound) (has_head : n < length heads)
    (new : List (ℕ × ℕ)) (head : ℕ)
    (marked : (s : ℕ) → eqb (get_or marks s 0) 2 ≡ is_in s (get_or (stacks_of elements heads) n []))
    (r : IsRechained marks elements new head) where
  abbrev stacks : List (List ℕ)
  stacks = stacks_of elements heads

  abbrev after : List (List ℕ)
  after = set stacks n r.starts

  stack_inside : n < length stacks
  stack_inside = omega (arith, has_head, length-map heads (λ head. chain (length elements) elements head))

  -- the starts that were chained anew are those that were free
  was : (s : ℕ) → IsMember s r.starts → IsMember s (get_or stacks n [])
  was s h = is_yes s (get_or stacks n []) (sym (marked s) ∙ ap (λ m. eqb m 2) (r.marked s h))

  still : (s : ℕ) → IsMember s (get_or stacks n []) → IsMember s r.starts
  still s h = r.all s (omega arith) (eqb-true (get_or marks s 0) 2 (marked s ∙ has_yes s (get_or stacks n []) h))

  count : length r.starts ≡ length (get_or stacks n [])
  count = omega (
    arith,
    no_more r.starts (get_or stacks n []) r.once was,
    no_more (get_or stacks n []) r.starts (k.stored.once n) still,
  )

  -- the elements at other starts stay
  other : (x : ℕ) → ¬ IsMember x (get_or stacks n []) → get_or new x (0, 0) ≡ get_or elements x (0, 0)
  other x none =
      r.others x (λ e. let bad : true ≡ false =
      ap (λ m. eqb m 2) (sym e) ∙ marked x ∙ has_no x (get_or stacks n []) none in absurd cc)

  stored : AreRunsStored (lists_of elements marks heads) (lengths_of marks) after used (length new) bound
  stored =
      subst (λ e. AreRunsStored (lists_of elements marks heads) (lengths_of marks) after used e bound) (sym r.size)
      (stored_order k.stored n r.starts stack_inside r.once was count)

  chained : (m : ℕ) → IsFreeChain new (get_or (set heads n head) m no_run) (get_or after m [])
  chained m =
      placed stacks n r.starts [] m (IsFreeChain new (get_or (set heads n head) m no_run)) stack_inside
      (λ e. subst (λ at. IsFreeChain new at r.starts)
      (sym (ap (λ j. get_or (set heads n head) j no_run) e ∙ get_or-set_same heads n head no_run has_head))
      r.chained)
      (λ ne. subst (λ at. IsFreeChain new at (get_or stacks m []))
      (sym (get_or-set_other heads n m head no_run ne))
      (chain_kept elements new (get_or heads m no_run) (get_or stacks m [])
      (λ x h. other x (λ i. ne (sym (k.stored.sized m x h) ∙ k.stored.sized n x i)))
      (k.chained m)))

  free_there : (t m : ℕ) → is_in t (get_or after m []) ≡ is_in t (get_or stacks m [])
  free_there t m =
      placed stacks n r.starts [] m (λ l. is_in t l ≡ is_in t (get_or stacks m [])) stack_inside
      (λ e. same_test t r.starts (get_or stacks n []) (was t) (still t)
      ∙ ap (λ j. is_in t (get_or stacks j [])) (sym e))
      (λ _. refl)

  -- no free run starts within a live one
  within_live : (t x : ℕ) → ¬ IsMember t (get_or stacks (get_or (lengths_of marks) t 0) [])
      → t ≤ x → x < t + get_or (lengths_of marks) t 0 → ¬ IsMember x (get_or stacks n [])
  within_live t x live from to free =
      by_cases
      (λ e. let run : get_or (lengths_of marks) t 0 ≡ n =
      ap (λ j. get_or (lengths_of marks) j 0) (sym e) ∙ k.stored.sized n x free in
      live (subst (λ j. IsMember t (get_or stacks j [])) (sym run)
      (subst (λ j. IsMember j (get_or stacks n [])) e free)))
      (λ ne. let far : t + get_or (lengths_of marks) t 0 ≤ x = k.stored.apart t x (omega (arith, from, to))
      (omega (arith, k.stored.sized n x free, k.stored.at_least_one n x free)) (omega (arith, from, ne)) in
      omega (arith, far, to))
      (cases_eq x t)

  listed : (t : ℕ) → get_or (lists_of elements marks heads) t []
      ≡ run_list new after t (get_or (lengths_of marks) t 0)
  listed t =
      list_first elements stacks (lengths_of marks) t
      ∙ by_cases
      (λ free. list_free elements stacks t (get_or (lengths_of marks) t 0) free
      ∙ sym (list_free new after t (get_or (lengths_of marks) t 0)
      (is_yes t (get_or after (get_or (lengths_of marks) t 0) [])
      (free_there t (get_or (lengths_of marks) t 0)
      ∙ has_yes t (get_or stacks (get_or (lengths_of marks) t 0) []) free))))
      (λ live. sym (list_same elements new stacks after t (get_or (lengths_of marks) t 0)
      (free_there t (get_or (lengths_of marks) t 0))
      (λ _. part_same new elements t (get_or (lengths_of marks) t 0) r.size
      (λ x from to. other x (within_live t x live from to)))))
      (has_or_not t (get_or stacks (get_or (lengths_of marks) t 0) []))

  places : length after ≡ length (set heads n head)
  places =
      length-set stacks n r.starts
      ∙ length-map heads (λ head. chain (length elements) elements head) ∙ sym (length-set heads n head)

  placed_still : (t : ℕ) → 0 < get_or (lengths_of marks) t 0
      → get_or (lengths_of marks) t 0 < length (set heads n head)
  placed_still t h = omega (arith, k.placed t h, length-set heads n head)

  -- the fields after the free runs were put in order
  pub kept_after : HoldsRuns new marks (set heads n head) used bound
  kept_after =
      kept_from new marks (set heads n head) stored places chained listed (k.filled ∙ sym r.size) placed_still

  lists_after : lists_of new marks (set heads n head) ≡ lists_of elements marks heads
  lists_after =
      lists_are new marks (set heads n head) stored places chained listed (k.filled ∙ sym r.size) placed_still

  stacks_after : stacks_of new (set heads n head) ≡ after
  stacks_after =
      stacks_are new marks (set heads n head) stored places chained listed (k.filled ∙ sym r.size) placed_still

  -- the marks after the free runs were put in order
  pub marks_after : AreMarked marks stacks (length elements)
      → AreMarked marks (stacks_of new (set heads n head)) (length new)
  marks_after m = marked_as (marked_same m (λ s. free_there s 2)) stacks_after r.size

  free_after : (m : ℕ) → free_of (arena_of (lists_of new marks (set heads n head)) (stacks_of new (set heads n head))
      (length new) bound) m ≡ get_or after m []
  free_after m =
      free_at (lists_of new marks (set heads n head)) (stacks_of new (set heads n head)) (length new) bound m
      ∙ ap (λ s. get_or s m []) stacks_after

  free_before : (m : ℕ) → free_of (arena_of (lists_of elements marks heads) (stacks_of elements heads)
      (length elements) bound) m ≡ get_or stacks m []
  free_before m = free_at (lists_of elements marks heads) stacks (length elements) bound m

  free_here : free_of (arena_of (lists_of new marks (set heads n head)) (stacks_of new (set heads n head))
      (length new) bound) n ≡ r.starts
  free_here = free_after n ∙ get_or-set_same stacks n r.starts [] stack_inside

  -- the arena after the free runs were put in order
  pub arena_after : IsReordered
      (arena_of (lists_of elements marks heads) (stacks_of elements heads) (length elements) bound)
      (arena_of (lists_of new marks (set heads n head)) (stacks_of new (set heads n head)) (length new) bound) n
  arena_after =
      record {
        live = ap filled_map lists_after;
        extent = r.size;
        bound = refl;
        others = λ m ne. free_after m ∙ get_or-set_other stacks n m r.starts [] ne ∙ sym (free_before m);
        still_free = λ s h. subst (IsMember s) (sym free_here) (still s (subst (IsMember s) (free_before n) h));
        was_free = λ s h. subst (IsMember s) (sym (free_before n)) (was s (subst (IsMember s) free_here h));
        count = ap length free_here ∙ count ∙ ap length (sym (free_before n));
      }
