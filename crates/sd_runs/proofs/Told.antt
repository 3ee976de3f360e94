-- What the fields tell, and what holds of them.
use Rattle.std.proofs.Common.{◌≡◌, ◌⊎◌, ℕ, suc, zero, ◌+◌, ◌*◌, ◌<◌, ◌≤◌, List, [], ◌∷◌, length, get_or}
use Rattle.std.proofs.Common.{refl, sym, ap, subst, ◌∙◌, arith, inl, inr}
use Rattle.std.proofs.Math.Nat.{mul-le-mul_right}
use Rattle.std.proofs.lemmas.List.{length-map}
use Rattle.sd_runs.specs.Arena.{IsMember, HasNoCopies}
use Rattle.sd_runs.specs.Fields.{chain, is_in, run_list, lists_from, lists_of, stacks_of, lengths_of, free_sum, no_run}
use Rattle.sd_runs.specs.Padded.{IsPadded}
use Rattle.sd_runs.specs.Stored.{AreMarked, AreRunsStored, HoldsRuns, IsFreeChain}
use Rattle.sd_runs.proofs.Arenas.{arena_of, same_arena}
use Rattle.sd_runs.proofs.Chains.{chain_is, same_at, stack_at}
use Rattle.sd_runs.proofs.Lists.{list_first, list_same, lists_length, part_same}
use Rattle.sd_runs.proofs.Maps.{filled_same}
use Rattle.sd_runs.proofs.Marked.{marked_same}
use Rattle.sd_runs.proofs.Places.{by_cases}
use Rattle.sd_runs.proofs.Steps.{free_inside}
use Rattle.sd_runs.proofs.Totals.{free_sum_same}

-- the free runs of a length are no more than their sum
short_sum : (i : ℕ) (xss : List (List ℕ)) (n : ℕ) → 0 < i + n → length (get_or xss n []) ≤ free_sum i xss
short_sum i [] n pos = omega arith
short_sum i (xs ∷ xss) zero pos =
    let once : 1 * length xs ≤ i * length xs = mul-le-mul_right (length xs) (omega arith) in omega (arith, once)
short_sum i (xs ∷ xss) (suc n) pos = omega (arith, short_sum (i + 1) xss n (omega arith))

-- a number is below another or not
pub below_or_not : (a b : ℕ) → (a < b) ⊎ (b ≤ a)
below_or_not a zero = inr (omega arith)
below_or_not zero (suc b) = inl (omega arith)
below_or_not (suc a) (suc b) =
    by_cases (λ less. inl (omega (arith, less))) (λ more. inr (omega (arith, more))) (below_or_not a b)

module _ {lists : List (List (ℕ × ℕ))} {lengths : List ℕ} {stacks : List (List ℕ)} {used extent bound : ℕ}
    (st : AreRunsStored lists lengths stacks used extent bound) where
  -- no more runs of a length are free than there are elements
  pub short : (n : ℕ) → length (get_or stacks n []) ≤ extent
  short n = by_first (get_or stacks n []) refl
    where
      by_first : (xs : List ℕ) → get_or stacks n [] ≡ xs → length (get_or stacks n []) ≤ extent
      by_first [] e = omega (arith, ap length e)
      by_first (x ∷ xs) e =
          let pos : 0 < n = st.at_least_one n x (subst (IsMember x) (sym e) (inl refl)) in
          omega (arith, short_sum 0 stacks n (omega (arith, pos)), st.whole)

  -- a free run starts below the mark of no run
  pub below : (n x : ℕ) → IsMember x (get_or stacks n []) → x < no_run
  below n x h = omega (arith, free_inside st n x h, st.at_least_one n x h, st.bounded, st.bound_fits)

  -- two runs do not overlap
  pub outside : (s t k : ℕ) → ¬ (t ≡ s) → 0 < get_or lengths s 0 → 0 < get_or lengths t 0
      → t ≤ k → k < t + get_or lengths t 0 → (k < s) ⊎ (s + get_or lengths s 0 ≤ k)
  outside s t k ne here there from to =
      by_cases
      (λ less. let far : t + get_or lengths t 0 ≤ s = st.apart t s there here less in inl (omega arith))
      (λ more. let less : s < t = by_cases (λ (l : s < t). l)
      (λ (le : t ≤ s). absurd (ne (omega arith))) (below_or_not s t) in
      let far : s + get_or lengths s 0 ≤ t = st.apart s t here there less in inr (omega arith))
      (below_or_not t s)

  -- the list of another run stays where the elements of one run change
  pub list_other : (old new : List (ℕ × ℕ)) (after : List (List ℕ)) (s t : ℕ) → ¬ (t ≡ s) → 0 < get_or lengths s 0
      → length new ≡ length old
      → ((k : ℕ) → (k < s) ⊎ (s + get_or lengths s 0 ≤ k) → get_or new k (0, 0) ≡ get_or old k (0, 0))
      → (is_in t (get_or after (get_or lengths t 0) []) ≡ is_in t (get_or stacks (get_or lengths t 0) []))
      → run_list new after t (get_or lengths t 0) ≡ run_list old stacks t (get_or lengths t 0)
  list_other old new after s t ne here size same free =
      list_same old new stacks after t (get_or lengths t 0) free
      (λ there. part_same new old t (get_or lengths t 0) size
      (λ k from to. same k (outside s t k ne here there from to)))

  -- other starts of free runs stand in other lists
  pub stored_stacks : (new : List (List ℕ)) → ((n : ℕ) → get_or new n [] ≡ get_or stacks n [])
      → AreRunsStored lists lengths new used extent bound
  stored_stacks new same =
      record {
        same_length = st.same_length;
        held = st.held;
        within = st.within;
        apart = st.apart;
        sized = λ n s h. st.sized n s (subst (IsMember s) (same n) h);
        at_least_one = λ n s h. st.at_least_one n s (subst (IsMember s) (same n) h);
        free = λ n s h. st.free n s (subst (IsMember s) (same n) h);
        once = λ n. subst HasNoCopies (sym (same n)) (st.once n);
        uses = st.uses;
        fills = st.fills;
        whole = ap (λ n. used + n) (free_sum_same 0 new stacks same) ∙ st.whole;
        covered = st.covered;
        bounded = st.bounded;
        bound_fits = st.bound_fits;
      }

module _ (elements : List (ℕ × ℕ)) (marks heads : List ℕ) {lists : List (List (ℕ × ℕ))} {stacks : List (List ℕ)}
    {used bound : ℕ}
    (st : AreRunsStored lists (lengths_of marks) stacks used (length elements) bound)
    (places : length stacks ≡ length heads)
    (chained : (n : ℕ) → IsFreeChain elements (get_or heads n no_run) (get_or stacks n []))
    (listed : (k : ℕ) → get_or lists k [] ≡ run_list elements stacks k (get_or (lengths_of marks) k 0))
    (filled : length (lengths_of marks) ≡ length elements)
    (placed : (s : ℕ) → 0 < get_or (lengths_of marks) s 0 → get_or (lengths_of marks) s 0 < length heads) where
  -- the chains tell the starts of the free runs
  pub stacks_are : stacks_of elements heads ≡ stacks
  stacks_are =
      same_at _ _ (length-map heads (λ head. chain (length elements) elements head) ∙ sym places)
      (λ n. stack_at elements heads n
      ∙ chain_is (length elements) elements _ _ (chained n) (below st n) (short st n))

  -- the elements tell the lists of the live runs
  pub lists_are : lists_of elements marks heads ≡ lists
  lists_are =
      ap (λ s. lists_from 0 elements s (lengths_of marks)) stacks_are
      ∙ same_at _ _ (lists_length 0 elements stacks (lengths_of marks) ∙ sym st.same_length)
      (λ k. list_first elements stacks (lengths_of marks) k ∙ sym (listed k))

  -- so what holds of the plain lists holds of the fields
  pub kept_from : HoldsRuns elements marks heads used bound
  kept_from =
      record {
        stored = subst
            (λ l. AreRunsStored l (lengths_of marks) (stacks_of elements heads) used (length elements) bound)
            (sym lists_are)
            (subst (λ s. AreRunsStored lists (lengths_of marks) s used (length elements) bound) (sym stacks_are) st);
        filled = filled;
        chained = λ n. subst (IsFreeChain elements (get_or heads n no_run)) (ap (λ s. get_or s n []) (sym stacks_are))
            (chained n);
        placed = placed;
      }

module _ (elements : List (ℕ × ℕ)) (marks heads more : List ℕ) {used bound : ℕ}
    (k : HoldsRuns elements marks heads used bound) (p : IsPadded heads more) where
  -- further places for marks change no free run
  stacks_padded : (n : ℕ) → get_or (stacks_of elements more) n [] ≡ get_or (stacks_of elements heads) n []
  stacks_padded n =
      stack_at elements more n ∙ ap (chain (length elements) elements) (p.same n) ∙ sym (stack_at elements heads n)

  stored_padded : AreRunsStored (lists_of elements marks heads) (lengths_of marks) (stacks_of elements more)
      used (length elements) bound
  stored_padded = stored_stacks k.stored (stacks_of elements more) stacks_padded

  chained_padded : (n : ℕ) → IsFreeChain elements (get_or more n no_run) (get_or (stacks_of elements more) n [])
  chained_padded n =
      subst (λ at. IsFreeChain elements at (get_or (stacks_of elements more) n [])) (sym (p.same n))
      (subst (IsFreeChain elements (get_or heads n no_run)) (sym (stacks_padded n)) (k.chained n))

  listed_padded : (s : ℕ) → get_or (lists_of elements marks heads) s []
      ≡ run_list elements (stacks_of elements more) s (get_or (lengths_of marks) s 0)
  listed_padded s =
      list_first elements (stacks_of elements heads) (lengths_of marks) s
      ∙ sym (list_same elements elements (stacks_of elements heads) (stacks_of elements more) s
      (get_or (lengths_of marks) s 0) (ap (is_in s) (stacks_padded (get_or (lengths_of marks) s 0))) (λ pos. refl))

  placed_padded : (s : ℕ) → 0 < get_or (lengths_of marks) s 0 → get_or (lengths_of marks) s 0 < length more
  placed_padded s h = omega (arith, k.placed s h, p.longer)

  -- what holds of the fields holds with further places for marks
  pub kept_padded : HoldsRuns elements marks more used bound
  kept_padded =
      kept_from elements marks more stored_padded
      (length-map more (λ head. chain (length elements) elements head))
      chained_padded listed_padded k.filled placed_padded

  -- the marks are the same
  pub marks_padded : AreMarked marks (stacks_of elements heads) (length elements)
      → AreMarked marks (stacks_of elements more) (length elements)
  marks_padded m = marked_same m (λ s. ap (is_in s) (stacks_padded 2))

  -- and the arena is the same
  pub arena_padded : arena_of (lists_of elements marks more) (stacks_of elements more) (length elements) bound
      ≡ arena_of (lists_of elements marks heads) (stacks_of elements heads) (length elements) bound
  arena_padded =
      same_arena _ _ _ _ (length elements) (length elements) bound
      (filled_same _ _ (λ s. ap (λ l. get_or l s []) (lists_are elements marks more stored_padded
      (length-map more (λ head. chain (length elements) elements head))
      chained_padded listed_padded k.filled placed_padded)))
      (filled_same _ _ stacks_padded) refl

module _ (elements : List (ℕ × ℕ)) (marks more heads : List ℕ) (same : lengths_of more ≡ lengths_of marks) where
  -- other marks of the same lengths leave what holds of the fields
  pub kept_marks : {used bound : ℕ} → HoldsRuns elements marks heads used bound
      → HoldsRuns elements more heads used bound
  kept_marks {used} {bound} k =
      record {
        stored = subst (λ l. AreRunsStored (lists_from 0 elements (stacks_of elements heads) l) l
            (stacks_of elements heads) used (length elements) bound) (sym same) k.stored;
        filled = ap length same ∙ k.filled;
        chained = k.chained;
        placed = subst (λ l. (s : ℕ) → 0 < get_or l s 0 → get_or l s 0 < length heads) (sym same) k.placed;
      }

  -- and the arena
  pub arena_marks : (extent bound : ℕ) → arena_of (lists_of elements more heads) (stacks_of elements heads) extent bound
      ≡ arena_of (lists_of elements marks heads) (stacks_of elements heads) extent bound
  arena_marks extent bound =
      ap (λ l. arena_of (lists_from 0 elements (stacks_of elements heads) l) (stacks_of elements heads) extent bound)
      same
