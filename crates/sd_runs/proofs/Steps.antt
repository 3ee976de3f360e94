-- What holds of the fields is kept when a run is freed, used again or added.
use Rattle.std.proofs.Common.{◌≡◌, ℕ, suc, zero, ◌+◌, ◌*◌, ◌-◌, ◌<◌, ◌≤◌, List, [], ◌∷◌, length, get_or}
use Rattle.std.proofs.Common.{refl, sym, ap, subst, ◌∙◌, arith, inl, inr}
use Rattle.std.proofs.Math.ListN.{set}
use Rattle.std.proofs.lemmas.Bool.{cases_eq}
use Rattle.std.proofs.lemmas.List.{length-set, get_or-set_same, get_or-set_other}
use Rattle.std.proofs.lemmas.List.Sums.{sum_by-set}
use Rattle.sd_runs.specs.Arena.{IsMember, HasNoCopies}
use Rattle.sd_runs.specs.Stored.{AreRunsStored}
use Rattle.sd_runs.proofs.Places.{by_cases, placed, list_inside, no_elements, sum_below}
use Rattle.sd_runs.proofs.Totals.{free_sum_set, times_more}

module _ {lists : List (List (ℕ × ℕ))} {lengths : List ℕ} {stacks : List (List ℕ)}
    {used extent bound : ℕ}
    (st : AreRunsStored lists lengths stacks used extent bound) where
  -- the list at a start is no longer than the run there
  fits_each : (k : ℕ) → length (get_or lists k []) ≤ get_or lengths k 0
  fits_each k = by_held (length (get_or lists k [])) (st.held k)
    where
      by_held : (n : ℕ) → (0 < n → n ≡ get_or lengths k 0) → n ≤ get_or lengths k 0
      by_held zero h = omega arith
      by_held (suc n) h = let e : suc n ≡ get_or lengths k 0 = h (omega arith) in omega arith

  -- the live runs are together no longer than the arena
  pub used_fits : used ≤ extent
  used_fits = omega (arith, st.uses, st.fills, sum_below lists lengths st.same_length fits_each)

  -- a free run lies within the extent
  pub free_inside : (n s : ℕ) → IsMember s (get_or stacks n []) → s + n ≤ extent
  free_inside n s h =
      let size : get_or lengths s 0 ≡ n = st.sized n s h in
      let pos : 0 < n = st.at_least_one n s h in
      let fits : s + get_or lengths s 0 ≤ extent = st.within s (omega arith) in
      omega arith

  -- a live run has an element
  pub live_inside : (n s : ℕ) → length (get_or lists s []) ≡ n → 0 < n → s < length lists
  live_inside n s size pos = list_inside lists s (omega arith)

  -- what holds of the fields is kept when a run is freed
  pub stored_give : (n s : ℕ) → length (get_or lists s []) ≡ n → 0 < n → n < length stacks
      → AreRunsStored (set lists s []) lengths (set stacks n (s ∷ get_or stacks n [])) (used - n) extent bound
  stored_give n s size pos in_stacks =
      let inside : s < length lists = live_inside n s size pos in
      let size_is : length (get_or lists s []) ≡ get_or lengths s 0 = st.held s (omega arith) in
      record {
        same_length = length-set lists s [] ∙ st.same_length;
        held = λ t. placed lists s [] [] t (λ l. 0 < length l → length l ≡ get_or lengths t 0) inside
            (λ _ h. absurd (omega arith)) (λ _. st.held t);
        within = st.within;
        apart = st.apart;
        sized = λ m t. placed stacks n (s ∷ get_or stacks n []) [] m (λ l. IsMember t l → get_or lengths t 0 ≡ m)
            in_stacks
            (λ e. by_cases (λ same. ap (λ j. get_or lengths j 0) (sym same) ∙ sym size_is ∙ size ∙ sym e)
            (λ h. st.sized n t h ∙ sym e))
            (λ _. st.sized m t);
        at_least_one = λ m t. placed stacks n (s ∷ get_or stacks n []) [] m (λ l. IsMember t l → 0 < m) in_stacks
            (λ e _. omega arith) (λ _. st.at_least_one m t);
        free = λ m t. placed stacks n (s ∷ get_or stacks n []) [] m
            (λ l. IsMember t l → get_or (set lists s []) t [] ≡ []) in_stacks
            (λ e h. placed lists s [] [] t (λ l. l ≡ []) inside (λ _. refl)
            (λ ne. by_cases (λ same. absurd (ne (sym same))) (λ old. st.free n t old) h))
            (λ _ h. placed lists s [] [] t (λ l. l ≡ []) inside (λ _. refl) (λ _. st.free m t h));
        once = λ m. placed stacks n (s ∷ get_or stacks n []) [] m HasNoCopies in_stacks
            (λ _. (
              (λ h. let none : length (get_or lists s []) ≡ 0 = ap length (st.free n s h) in omega arith),
              st.once n,
            )) (λ _. st.once m);
        uses = omega (arith, st.uses, sum_by-set length lists s [] [] inside, size);
        fills = st.fills;
        whole = omega (
          arith,
          st.whole,
          sum_by-set length lists s [] [] inside,
          size,
          st.uses,
          free_sum_set 0 stacks n (s ∷ get_or stacks n []) in_stacks,
          times_more n (length (get_or stacks n [])),
        );
        covered = omega (arith, st.covered, length-set lists s []);
        bounded = st.bounded;
        bound_fits = st.bound_fits;
      }

  -- what holds of the fields is kept when a free run is used again
  pub stored_reuse : (n s : ℕ) (rest : List ℕ) (list : List (ℕ × ℕ)) → get_or stacks n [] ≡ s ∷ rest
      → length list ≡ n → 0 < n → n < length stacks
      → AreRunsStored (set lists s list) lengths (set stacks n rest) (used + n) extent bound
  stored_reuse n s rest list stack size pos in_stacks =
      let first : IsMember s (get_or stacks n []) = subst (IsMember s) (sym stack) (inl refl) in
      let inside : s < length lists = omega (arith, free_inside n s first, st.covered) in
      let empty : get_or lists s [] ≡ [] = st.free n s first in
      let size_is : get_or lengths s 0 ≡ n = st.sized n s first in
      let alone : HasNoCopies (s ∷ rest) = subst HasNoCopies stack (st.once n) in
      record {
        same_length = length-set lists s list ∙ st.same_length;
        held = λ t. placed lists s list [] t (λ l. 0 < length l → length l ≡ get_or lengths t 0) inside
            (λ e _. size ∙ sym size_is ∙ ap (λ j. get_or lengths j 0) (sym e)) (λ _. st.held t);
        within = st.within;
        apart = st.apart;
        sized = λ m t. placed stacks n rest [] m (λ l. IsMember t l → get_or lengths t 0 ≡ m) in_stacks
            (λ e h. st.sized n t (subst (IsMember t) (sym stack) (inr h)) ∙ sym e) (λ _. st.sized m t);
        at_least_one = λ m t. placed stacks n rest [] m (λ l. IsMember t l → 0 < m) in_stacks (λ e _. omega arith)
            (λ _. st.at_least_one m t);
        free = λ m t. placed stacks n rest [] m (λ l. IsMember t l → get_or (set lists s list) t [] ≡ []) in_stacks
            (λ e h. placed lists s list [] t (λ l. l ≡ []) inside
            (λ same. absurd (alone.0 (subst (λ j. IsMember j rest) same h)))
            (λ _. st.free n t (subst (IsMember t) (sym stack) (inr h))))
            (λ ne h. placed lists s list [] t (λ l. l ≡ []) inside
            (λ same. absurd (ne (sym (st.sized m t h) ∙ ap (λ j. get_or lengths j 0) same ∙ size_is)))
            (λ _. st.free m t h));
        once = λ m. placed stacks n rest [] m HasNoCopies in_stacks (λ _. alone.1) (λ _. st.once m);
        uses = omega (arith, st.uses, sum_by-set length lists s list [] inside, size, ap length empty);
        fills = st.fills;
        whole = omega (
          arith,
          st.whole,
          free_sum_set 0 stacks n rest in_stacks,
          times_more n (length rest),
          ap (λ l. n * length l) stack,
        );
        covered = omega (arith, st.covered, length-set lists s list);
        bounded = st.bounded;
        bound_fits = st.bound_fits;
      }

  -- no run starts at the end of the arena
  no_length : get_or lengths extent 0 ≡ 0
  no_length = none (get_or lengths extent 0) (st.within extent)
    where
      none : (n : ℕ) → (0 < n → extent + n ≤ extent) → n ≡ 0
      none zero h = refl
      none (suc n) h = let k : extent + suc n ≤ extent = h (omega arith) in absurd (omega arith)

  pub no_list : get_or lists extent [] ≡ []
  no_list = no_elements (get_or lists extent [])
      (λ h. let e : length (get_or lists extent []) ≡ get_or lengths extent 0 = st.held extent h in
      omega (arith, no_length))

  pub not_end : (m t : ℕ) → IsMember t (get_or stacks m []) → ¬ (t ≡ extent)
  not_end m t h e =
      let pos : 0 < m = st.at_least_one m t h in
      let size : get_or lengths t 0 ≡ m = st.sized m t h in
      omega (arith, ap (λ j. get_or lengths j 0) e, no_length)

  -- what holds of the fields is kept when a run is added at the end
  pub stored_grow : (n : ℕ) (list : List (ℕ × ℕ)) → length list ≡ n → 0 < n → extent + n ≤ length lists
      → extent + n ≤ bound
      → AreRunsStored (set lists extent list) (set lengths extent n) stacks (used + n) (extent + n) bound
  stored_grow n list size pos fits below =
      let inside : extent < length lists = omega arith in
      let here : extent < length lengths = omega (arith, st.same_length) in
      record {
        same_length = length-set lists extent list ∙ st.same_length ∙ sym (length-set lengths extent n);
        held = λ t. by_cases
            (λ e. subst (λ j. 0 < length (get_or (set lists extent list) j [])
            → length (get_or (set lists extent list) j []) ≡ get_or (set lengths extent n) j 0) (sym e)
            (λ _. ap length (get_or-set_same lists extent list [] inside) ∙ size
            ∙ sym (get_or-set_same lengths extent n 0 here)))
            (λ ne. subst (λ l. 0 < length l → length l ≡ get_or (set lengths extent n) t 0)
            (sym (get_or-set_other lists extent t list [] ne))
            (λ h. st.held t h ∙ sym (get_or-set_other lengths extent t n 0 ne)))
            (cases_eq t extent);
        within = λ t. placed lengths extent n 0 t (λ m. 0 < m → t + m ≤ extent + n) here
            (λ e _. omega arith) (λ _ h. let old : t + get_or lengths t 0 ≤ extent = st.within t h in omega arith);
        apart = λ t u. placed lengths extent n 0 t
            (λ m. 0 < m → 0 < get_or (set lengths extent n) u 0 → t < u → t + m ≤ u) here
            (λ e _. placed lengths extent n 0 u (λ m. 0 < m → t < u → t + n ≤ u) here
            (λ same _ less. absurd (omega arith))
            (λ _ h less. let old : u + get_or lengths u 0 ≤ extent = st.within u h in absurd (omega arith)))
            (λ _ h. placed lengths extent n 0 u (λ m. 0 < m → t < u → t + get_or lengths t 0 ≤ u) here
            (λ same _ less. let old : t + get_or lengths t 0 ≤ extent = st.within t h in omega arith)
            (λ _ k less. st.apart t u h k less));
        sized = λ m t h. get_or-set_other lengths extent t n 0 (not_end m t h) ∙ st.sized m t h;
        at_least_one = st.at_least_one;
        free = λ m t h. get_or-set_other lists extent t list [] (not_end m t h) ∙ st.free m t h;
        once = st.once;
        uses = omega (arith, st.uses, sum_by-set length lists extent list [] inside, size, ap length no_list);
        fills = omega (arith, st.fills, sum_by-set (λ n. n) lengths extent n 0 here, no_length);
        whole = omega (arith, st.whole);
        covered = omega (arith, fits, length-set lists extent list);
        bounded = below;
        bound_fits = st.bound_fits;
      }
