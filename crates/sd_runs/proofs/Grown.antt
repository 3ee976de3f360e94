-- A new run is added at the end of the arena.
use Rattle.std.proofs.Common.{◌≡◌, ℕ, suc, zero, ◌+◌, ◌<◌, ◌≤◌, List, [], ◌∷◌, ◌++◌, length, get_or, take, drop}
use Rattle.std.proofs.Common.{None, refl, sym, ap, subst, ◌∙◌, arith}
use Rattle.std.proofs.Math.ListN.{set}
use Rattle.std.proofs.lemmas.Bool.{cases_eq}
use Rattle.std.proofs.lemmas.List.{length-append, length-map, get_or-set_same, get_or-set_other, set_at}
use Rattle.std.proofs.lemmas.List.{get_or_append_left, drop_at, take_at, append-nil}
use Rattle.std.proofs.lemmas.List.Sums.{sum_by-append, sum_by-cons}
use Rattle.std.specs.List.{sum_by}
use Rattle.std.specs.FinMap.{get, insert}
use Rattle.sd_runs.specs.Arena.{free_of}
use Rattle.sd_runs.specs.Taking.{taken, taken_at}
use Rattle.sd_runs.specs.Fields.{chain, run_list, lists_of, stacks_of, lengths_of, filled_map, no_run}
use Rattle.sd_runs.specs.Stored.{AreMarked, AreRunsStored, HoldsRuns, IsFreeChain}
use Rattle.sd_runs.proofs.Arenas.{arena_of, same_arena}
use Rattle.sd_runs.proofs.Chains.{chain_kept}
use Rattle.sd_runs.proofs.Lists.{list_first, list_live, list_same, lists_length}
use Rattle.sd_runs.proofs.Maps.{shown, filled_set, filled_same, get_filled, with_list_some}
use Rattle.sd_runs.proofs.Marked.{zeros, block, marked_as}
use Rattle.sd_runs.proofs.Places.{by_cases, placed}
use Rattle.sd_runs.proofs.Steps.{free_inside, no_list, not_end, stored_grow}
use Rattle.sd_runs.proofs.Told.{stacks_are, lists_are, kept_from}

-- so many empty lists
abbrev pub blanks : ℕ → List (List (ℕ × ℕ))
blanks zero = []
blanks (suc n) = [] ∷ blanks n

blanks_length : (n : ℕ) → length (blanks n) ≡ n
blanks_length zero = refl
blanks_length (suc n) = ap suc (blanks_length n)

zeros_length : (n : ℕ) → length (zeros n) ≡ n
zeros_length zero = refl
zeros_length (suc n) = ap suc (zeros_length n)

block_length : (n : ℕ) → length (block n) ≡ n
block_length zero = refl
block_length (suc n) = ap suc (zeros_length n)

blanks_sum : (n : ℕ) → sum_by length (blanks n) ≡ 0
blanks_sum zero = refl
blanks_sum (suc n) = omega (arith, sum_by-cons length [] (blanks n), blanks_sum n)

zeros_sum : (n : ℕ) → sum_by (λ m. m) (zeros n) ≡ 0
zeros_sum zero = refl
zeros_sum (suc n) = omega (arith, sum_by-cons (λ m. m) 0 (zeros n), zeros_sum n)

-- what is read past the end stays what it was
blank_read : (xss : List (List (ℕ × ℕ))) (n k : ℕ) → get_or (xss ++ blanks n) k [] ≡ get_or xss k []
blank_read [] zero k = refl
blank_read [] (suc n) zero = refl
blank_read [] (suc n) (suc k) = blank_read [] n k
blank_read (x ∷ xss) n zero = refl
blank_read (x ∷ xss) n (suc k) = blank_read xss n k

zero_read : (xs : List ℕ) (n k : ℕ) → get_or (xs ++ zeros n) k 0 ≡ get_or xs k 0
zero_read [] zero k = refl
zero_read [] (suc n) zero = refl
zero_read [] (suc n) (suc k) = zero_read [] n k
zero_read (x ∷ xs) n zero = refl
zero_read (x ∷ xs) n (suc k) = zero_read xs n k

-- a block is zeros with the length at the first index
block_set : (xs : List ℕ) (n at : ℕ) → 0 < n → length xs ≡ at → set (xs ++ zeros n) at n ≡ xs ++ block n
block_set xs zero at pos e = absurd (omega arith)
block_set xs (suc n) at pos e = set_at xs 0 (zeros n) (suc n) at e

-- what holds of the fields holds with empty places behind
stored_blanks : {lists : List (List (ℕ × ℕ))} {lengths : List ℕ} {stacks : List (List ℕ)}
    {used extent bound : ℕ} (n : ℕ)
    → AreRunsStored lists lengths stacks used extent bound
    → AreRunsStored (lists ++ blanks n) (lengths ++ zeros n) stacks used extent bound
stored_blanks {lists} {lengths} {stacks} {used} {extent} {bound} n st =
    record {
      same_length = omega (
        arith,
        st.same_length,
        length-append lists (blanks n),
        length-append lengths (zeros n),
        blanks_length n,
        zeros_length n,
      );
      held = λ s. subst (λ l. 0 < length l → length l ≡ get_or (lengths ++ zeros n) s 0) (sym (blank_read lists n s))
          (subst (λ m. 0 < length (get_or lists s []) → length (get_or lists s []) ≡ m)
          (sym (zero_read lengths n s)) (st.held s));
      within = λ s. subst (λ m. 0 < m → s + m ≤ extent) (sym (zero_read lengths n s)) (st.within s);
      apart = λ s t. subst (λ m. 0 < m → 0 < get_or (lengths ++ zeros n) t 0 → s < t → s + m ≤ t)
          (sym (zero_read lengths n s))
          (subst (λ m. 0 < get_or lengths s 0 → 0 < m → s < t → s + get_or lengths s 0 ≤ t)
          (sym (zero_read lengths n t)) (st.apart s t));
      sized = λ m s h. zero_read lengths n s ∙ st.sized m s h;
      at_least_one = st.at_least_one;
      free = λ m s h. blank_read lists n s ∙ st.free m s h;
      once = st.once;
      uses = omega (arith, st.uses, sum_by-append length lists (blanks n), blanks_sum n);
      fills = omega (arith, st.fills, sum_by-append (λ m. m) lengths (zeros n), zeros_sum n);
      whole = st.whole;
      covered = omega (arith, st.covered, length-append lists (blanks n));
      bounded = st.bounded;
      bound_fits = st.bound_fits;
    }

-- no live run starts at the end
pub end_free : (elements : List (ℕ × ℕ)) (marks heads : List ℕ) (used bound : ℕ)
    → HoldsRuns elements marks heads used bound
    → get (arena_of (lists_of elements marks heads) (stacks_of elements heads)
    (length elements) bound).live (length elements) ≡ None
end_free elements marks heads used bound k =
    get_filled (lists_of elements marks heads) (length elements) ∙ ap shown (no_list k.stored)

module _ (elements : List (ℕ × ℕ)) (marks heads : List ℕ) (used bound n : ℕ) (list : List (ℕ × ℕ))
    (k : HoldsRuns elements marks heads used bound) (size : length list ≡ n) (at_least_one : 0 < n)
    (fits : length elements + n ≤ bound) (has_head : n < length heads) (more : List ℕ)
    (sizes_are : lengths_of more ≡ lengths_of marks ++ block n) where
  abbrev new : List (ℕ × ℕ)
  new = elements ++ list

  abbrev lists : List (List (ℕ × ℕ))
  lists = set (lists_of elements marks heads ++ blanks n) (length elements) list

  lists_size : length (lists_of elements marks heads) ≡ length elements
  lists_size = lists_length 0 elements (stacks_of elements heads) (lengths_of marks) ∙ k.filled

  new_size : length new ≡ length elements + n
  new_size = omega (arith, length-append elements list, size)

  list_inside : length elements < length (lists_of elements marks heads ++ blanks n)
  list_inside =
      omega (
        arith,
        length-append (lists_of elements marks heads) (blanks n),
        blanks_length n,
        lists_size,
        at_least_one,
      )

  sizes : set (lengths_of marks ++ zeros n) (length elements) n ≡ lengths_of more
  sizes = block_set (lengths_of marks) n (length elements) at_least_one k.filled ∙ sym sizes_are

  size_inside : length elements < length (lengths_of marks ++ zeros n)
  size_inside = omega (arith, length-append (lengths_of marks) (zeros n), zeros_length n, k.filled, at_least_one)

  size_here : get_or (lengths_of more) (length elements) 0 ≡ n
  size_here =
      ap (λ l. get_or l (length elements) 0) (sym sizes)
      ∙ get_or-set_same (lengths_of marks ++ zeros n) (length elements) n 0 size_inside

  size_there : (t : ℕ) → ¬ (t ≡ length elements)
      → get_or (lengths_of more) t 0 ≡ get_or (lengths_of marks) t 0
  size_there t ne =
      ap (λ l. get_or l t 0) (sym sizes)
      ∙ get_or-set_other (lengths_of marks ++ zeros n) (length elements) t n 0 ne ∙ zero_read (lengths_of marks) n t

  stored : AreRunsStored lists (lengths_of more) (stacks_of elements heads) (used + n) (length new) bound
  stored =
      subst (λ e. AreRunsStored lists (lengths_of more) (stacks_of elements heads) (used + n) e bound)
      (sym new_size)
      (subst (λ l. AreRunsStored lists l (stacks_of elements heads) (used + n) (length elements + n) bound) sizes
      (stored_grow (stored_blanks n k.stored) n list size at_least_one
      (omega (arith, length-append (lists_of elements marks heads) (blanks n), blanks_length n, lists_size)) fits))

  same : (x : ℕ) → x < length elements → get_or new x (0, 0) ≡ get_or elements x (0, 0)
  same x less = get_or_append_left elements list (0, 0) x less

  chained : (m : ℕ) → IsFreeChain new (get_or heads m no_run) (get_or (stacks_of elements heads) m [])
  chained m =
      chain_kept elements new (get_or heads m no_run) (get_or (stacks_of elements heads) m [])
      (λ x h. same x (omega (arith, free_inside k.stored m x h, k.stored.at_least_one m x h)))
      (k.chained m)

  -- the elements of a part that stands in the old ones
  old_part : (t m : ℕ) → t + m ≤ length elements → take m (drop t new) ≡ take m (drop t elements)
  old_part t zero inside = refl
  old_part t (suc m) inside = part_grown elements list t (suc m) inside
    where
      part_grown : (xs ys : List (ℕ × ℕ)) (t m : ℕ) → t + m ≤ length xs
          → take m (drop t (xs ++ ys)) ≡ take m (drop t xs)
      part_grown xs ys t zero h = refl
      part_grown [] ys t (suc m) h = absurd (omega arith)
      part_grown (x ∷ xs) ys zero (suc m) h = ap (λ l. x ∷ l) (part_grown xs ys 0 m (omega arith))
      part_grown (x ∷ xs) ys (suc t) (suc m) h = part_grown xs ys t (suc m) (omega arith)

  listed : (t : ℕ) → get_or lists t []
      ≡ run_list new (stacks_of elements heads) t (get_or (lengths_of more) t 0)
  listed t =
      placed (lists_of elements marks heads ++ blanks n) (length elements) list [] t
      (λ l. l ≡ run_list new (stacks_of elements heads) t (get_or (lengths_of more) t 0)) list_inside
      (λ e. subst (λ j. list ≡ run_list new (stacks_of elements heads) j (get_or (lengths_of more) j 0))
      (sym e)
      (sym (ap (run_list new (stacks_of elements heads) (length elements)) size_here
      ∙ list_live new (stacks_of elements heads) (length elements) n
      (λ h. not_end k.stored n (length elements) h refl)
      ∙ ap (take n) (drop_at elements list (length elements) refl)
      ∙ ap (take n) (sym (append-nil list)) ∙ take_at list [] n size)))
      (λ ne. blank_read (lists_of elements marks heads) n t
      ∙ list_first elements (stacks_of elements heads) (lengths_of marks) t
      ∙ sym (ap (run_list new (stacks_of elements heads) t) (size_there t ne)
      ∙ list_same elements new (stacks_of elements heads) (stacks_of elements heads) t
      (get_or (lengths_of marks) t 0) refl
      (λ pos. old_part t (get_or (lengths_of marks) t 0) (k.stored.within t pos))))

  places : length (stacks_of elements heads) ≡ length heads
  places = length-map heads (λ head. chain (length elements) elements head)

  filled : length (lengths_of more) ≡ length new
  filled = ap length sizes_are
      ∙ omega (arith, length-append (lengths_of marks) (block n), block_length n, new_size, k.filled)

  placed_still : (t : ℕ) → 0 < get_or (lengths_of more) t 0
      → get_or (lengths_of more) t 0 < length heads
  placed_still t h =
      by_cases
      (λ e. let here : get_or (lengths_of more) t 0 ≡ n =
      ap (λ j. get_or (lengths_of more) j 0) e ∙ size_here in
      omega (arith, here, has_head))
      (λ ne. omega (arith, size_there t ne, k.placed t (omega (arith, size_there t ne, h))))
      (cases_eq t (length elements))

  -- the fields after the run was added
  pub kept_after : HoldsRuns (elements ++ list) more heads (used + n) bound
  kept_after = kept_from new more heads stored places chained listed filled placed_still

  stacks_after : stacks_of new heads ≡ stacks_of elements heads
  stacks_after = stacks_are new more heads stored places chained listed filled placed_still

  -- the marks after the run was added
  pub marks_after : {end : ℕ} → AreMarked more (stacks_of elements heads) end → end ≡ length (elements ++ list)
      → AreMarked more (stacks_of (elements ++ list) heads) (length (elements ++ list))
  marks_after m is = marked_as m stacks_after (sym is)

  -- the arena after the run was added
  pub arena_after : free_of (arena_of (lists_of elements marks heads) (stacks_of elements heads)
      (length elements) bound) n ≡ []
      → arena_of (lists_of (elements ++ list) more heads) (stacks_of (elements ++ list) heads)
      (length (elements ++ list)) bound
      ≡ taken (arena_of (lists_of elements marks heads) (stacks_of elements heads) (length elements) bound) list
  arena_after none =
      same_arena _ _ _ _ (length new) (length elements + length list) bound
      (ap filled_map (lists_are new more heads stored places chained listed filled placed_still)
      ∙ filled_set (lists_of elements marks heads ++ blanks n) (length elements) list list_inside
      ∙ with_list_some (filled_map (lists_of elements marks heads ++ blanks n)) (length elements) list
      (omega (arith, size, at_least_one))
      ∙ ap (λ m. insert m (length elements) list)
      (filled_same _ _ (blank_read (lists_of elements marks heads) n)))
      (ap filled_map stacks_after)
      (length-append elements list)
      ∙ ap (λ l. taken_at l (arena_of (lists_of elements marks heads) (stacks_of elements heads)
      (length elements) bound) list)
      (sym (ap (free_of (arena_of (lists_of elements marks heads) (stacks_of elements heads)
      (length elements) bound)) size ∙ none))
