-- What roots hold as a list of diagrams, and the size of such a list.
use Rattle.std.proofs.Common.{◌≡◌, ◌≢◌, ◌⊎◌, inl, inr, ℕ, ◌+◌, ◌-◌, ◌≤◌, ◌<◌, Bool, true, false, cond, ltb}
use Rattle.std.proofs.Common.{List, [], ◌∷◌, ◌++◌, length, map, Some, refl, sym, ap, subst, ◌∙◌, arith}
use Rattle.std.specs.Prelude.{unwrap_or}
use Rattle.std.specs.Option.{option_map}
use Rattle.std.specs.Ordering.{nat_cmp}
use Rattle.std.specs.FinMap.{FinMap, get, get-entries, values, entries, find}
use Rattle.std.specs.Ordering.{eq_by_cmp}
use Rattle.std.specs.List.{AllZip, flat_map, sum_by}
use Rattle.std.proofs.lemmas.Bool.Decides.{nat_tests}
use Rattle.std.proofs.lemmas.Option.{same_Some}
use Rattle.std.proofs.lemmas.List.Sums.{sum_by-cons}
use Rattle.std.proofs.lemmas.List.Sorted.{sum_by-IsPermutation, length_permutation}
use Rattle.sd_model.specs.Tree.{AreDistinct}
use Rattle.sd_model.specs.Diagram.{Diagram, Bottom, Top, Literal, Decomposition, Elements, End, Pair}
use Rattle.sd_model.specs.Canonical.{AreDifferent}
use Rattle.sd_model.specs.Size.{walk, walk_elements, first_occurrences, completed, element_count, size_of}
use Rattle.sd_vtree.specs.Numbered.{IsNumbered}
use Rattle.sd_laws.specs.Shown.{ShowElements}
use Rattle.sd_laws.proofs.Codes.{one_diagram, literal_range}
use Rattle.sd_laws.proofs.Lists.{IsAmong, IsWithin, all_at, all_from, first_at, second_at}
use Rattle.sd_manager.specs.Table.{Table}
use Rattle.sd_manager.specs.Shown.{Shows, ShowsCanonical, IsNodeOf}
use Rattle.sd_manager.specs.Valid.{IsTable, total_length}
use Rattle.sd_manager.proofs.Reading.{pairs_count}
use Rattle.sd_sweep.specs.Reached.{AreHeldDiagrams}
use Rattle.sd_compile.specs.Total.{IsHeldDiagram}
use Rattle.sd_sweep.proofs.Below.{among_split, only}
use Rattle.sd_sweep.proofs.Fits.{amount_of, amounts_within}
use Rattle.sd_sweep.proofs.Orders.{same_permutation, occurs_within, within_occurs, occurs_different}
use Rattle.sd_sweep.proofs.Rooted.{key_of_value, flat_among, among_flat, shown_all}

-- ---- the values of a map

-- what is found in a list of entries is one of their values
found_among : {X : Type 0} (k : ℕ) (es : List (ℕ × X)) (v : X) → find nat_cmp k es ≡ Some v →
    IsAmong v (map (λ (e : ℕ × X). e.1) es)
found_among k [] v h = absurd cc
found_among {X} k (e ∷ es) v h = go (λ f. found_among k es v f) (eq_by_cmp nat_cmp k e.0) h
  where
    go : (find nat_cmp k es ≡ Some v → IsAmong v (map (λ (e : ℕ × X). e.1) es)) → (b : Bool) →
        cond b (Some e.1) (find nat_cmp k es) ≡ Some v → IsAmong v (map (λ (e : ℕ × X). e.1) (e ∷ es))
    go rest true f = inl (sym (same_Some e.1 v f))
    go rest false f = inr (rest f)

-- the value at a key is one of the values
pub value_among : {X : Type 0} (m : FinMap nat_cmp X) (k : ℕ) (v : X) → get m k ≡ Some v → IsAmong v (values m)
value_among m k v h = found_among k (entries m) v (sym (get-entries m k) ∙ h)

-- ---- the diagrams that roots hold

-- what a root holds is one of the held diagrams
pub held_among : (t : Table) → IsNumbered t.vtree → (ds : List Diagram) → AreHeldDiagrams t ds → (root c : ℕ)
    (d : Diagram) → get t.roots root ≡ Some c → ShowsCanonical t c d → IsAmong d ds
held_among t numbered ds h root c d held is =
    let w = second_at (ShowsCanonical t) (values t.roots) ds h c (value_among t.roots root c held) in
    subst (λ x. IsAmong x ds) (one_diagram t.vtree (get t.linked) numbered w.0 c d w.2.shows is.shows) w.1

-- each of the held diagrams is one that a root holds
pub among_held : (t : Table) (ds : List Diagram) → AreHeldDiagrams t ds → (d : Diagram) → IsAmong d ds →
    IsHeldDiagram t d
among_held t ds h d m =
    let w = first_at (ShowsCanonical t) (values t.roots) ds h d m in
    let k = key_of_value t.roots w.0 w.1 in
    record { root = k.0; code = w.0; held = k.1; is = w.2 }

-- where each root holds a node, there are held diagrams
pub held_list : (t : Table) → ((root c : ℕ) → get t.roots root ≡ Some c → IsNodeOf t c) →
    (ds : List Diagram) × AreHeldDiagrams t ds
held_list t h = shown_all t (values t.roots) (λ c m. let k = key_of_value t.roots c m in h k.0 c k.1)

-- ---- lists of the same diagrams have one size

-- lists within each other have the same under them
under_within : (xs ys : List Diagram) → IsWithin xs ys → IsWithin (flat_map walk xs) (flat_map walk ys)
under_within xs ys h x m = let k = flat_among xs x m in among_flat ys k.0 (h k.0 k.1) x k.2

occurs_both : (xs ys : List Diagram) → IsWithin xs ys → IsWithin (first_occurrences xs) (first_occurrences ys)
occurs_both xs ys h x m = within_occurs ys x (h x (occurs_within xs x m))

-- two lists of the same diagrams have one size
pub same_size : (xs ys : List Diagram) → IsWithin xs ys → IsWithin ys xs → size_of xs ≡ size_of ys
unfolding size_of completed
same_size xs ys there back =
    sym (sum_by-IsPermutation element_count (first_occurrences (flat_map walk xs))
    (first_occurrences (flat_map walk ys))
    (same_permutation (first_occurrences (flat_map walk xs)) (first_occurrences (flat_map walk ys))
    (occurs_different (flat_map walk xs)) (occurs_different (flat_map walk ys))
    (occurs_both (flat_map walk xs) (flat_map walk ys) (under_within xs ys there))
    (occurs_both (flat_map walk ys) (flat_map walk xs) (under_within ys xs back))))

-- ---- the size is no more than all lists together

-- some code shows the diagram
abbrev HasCode : Table → Diagram → Type 0
HasCode t x = (b : ℕ) × Shows t b x

mutual
  -- what stands under a diagram that is shown is shown
  below_shown : (t : Table) (d : Diagram) (c : ℕ) → Shows t c d → (x : Diagram) → IsAmong x (walk d) → HasCode t x
  below_shown t Bottom c h x m = (c, subst (Shows t c) (sym (only x Bottom m)) h)
  below_shown t Top c h x m = (c, subst (Shows t c) (sym (only x Top m)) h)
  below_shown t (Literal p v s) c h x m = (c, subst (Shows t c) (sym (only x (Literal p v s) m)) h)
  below_shown t (Decomposition p es) c h x m =
      go (λ k. elements_shown t es h.0 h.2 x k) (among_split x (walk_elements es) (Decomposition p es ∷ []) m)
    where
      go : (IsAmong x (walk_elements es) → HasCode t x) →
          IsAmong x (walk_elements es) ⊎ IsAmong x (Decomposition p es ∷ []) → HasCode t x
      go rest (inl k) = rest k
      go rest (inr k) = (c, subst (Shows t c) (sym (only x (Decomposition p es) k)) h)

  -- and so is what stands under elements
  elements_shown : (t : Table) (es : Elements) (l : List (ℕ × ℕ)) → ShowElements t.vtree (get t.linked) l es →
      (x : Diagram) → IsAmong x (walk_elements es) → HasCode t x
  elements_shown t End l h x m = absurd m
  elements_shown t (Pair p s rest) [] h x m = absurd h
  elements_shown t (Pair p s rest) (e ∷ l) h x m =
      go (λ k. below_shown t p e.0 h.0 x k) (λ k. below_shown t s e.1 h.1 x k)
      (λ k. elements_shown t rest l h.2 x k) (among_split x (walk p ++ walk s) (walk_elements rest) m)
    where
      inner : (IsAmong x (walk p) → HasCode t x) → (IsAmong x (walk s) → HasCode t x) →
          IsAmong x (walk p) ⊎ IsAmong x (walk s) → HasCode t x
      inner f g (inl k) = f k
      inner f g (inr k) = g k

      go : (IsAmong x (walk p) → HasCode t x) → (IsAmong x (walk s) → HasCode t x) →
          (IsAmong x (walk_elements rest) → HasCode t x) →
          IsAmong x (walk p ++ walk s) ⊎ IsAmong x (walk_elements rest) → HasCode t x
      go f g r (inl k) = inner f g (among_split x (walk p) (walk s) k)
      go f g r (inr k) = r k

-- different diagrams that are shown have different codes
record HasCodes (t : Table) (xs : List Diagram) : Type 0 where
  pub codes : List ℕ
  pub shown : AllZip (Shows t) codes xs
  pub distinct : AreDistinct codes

has_codes : (t : Table) → IsNumbered t.vtree → (xs : List Diagram) → AreDifferent xs →
    ((x : Diagram) → IsAmong x xs → HasCode t x) → HasCodes t xs
has_codes t numbered [] differ h = record { codes = []; shown = tt; distinct = tt }
has_codes t numbered (x ∷ xs) differ h =
    let c = h x (inl refl) in
    let r = has_codes t numbered xs differ.1 (λ y m. h y (inr m)) in
    record {
      codes = c.0 ∷ r.codes;
      shown = (c.1, r.shown);
      distinct = (all_from (λ b. c.0 ≢ b) r.codes (apart c.0 c.1 r.codes r.shown), r.distinct);
    }
  where
    apart : (c : ℕ) → Shows t c x → (bs : List ℕ) → AllZip (Shows t) bs xs → (b : ℕ) → IsAmong b bs → c ≢ b
    apart c is bs shown b m same =
        let w = second_at (Shows t) bs xs shown b m in
        let one : x ≡ w.0 =
        one_diagram t.vtree (get t.linked) numbered x b w.0 (subst (λ z. Shows t z x) same is) w.2 in
        all_at (λ y. x ≢ y) xs w.0 differ.0 w.1 one

-- the length of the list of a node
abbrev list_length : ℕ × List (ℕ × ℕ) → ℕ
list_length k = length k.1

-- the elements of a diagram are those in the list of its code
element_amount : (t : Table) → IsTable t → (d : Diagram) (c : ℕ) → Shows t c d →
    element_count d ≡ amount_of list_length t.linked c
element_amount t table d c h = go d h
  where
    low : c < 2050 → 0 ≡ amount_of list_length t.linked c
    low less =
        let first : ltb c 2050 ≡ true = grind (arith, nat_tests) in
        sym (ap (λ b. cond b 0 (unwrap_or (option_map list_length (get t.linked (c - 2050))) 0)) first)

    go : (e : Diagram) → Shows t c e → element_count e ≡ amount_of list_length t.linked c
    go Bottom k = low (omega (arith, k))
    go Top k = low (omega (arith, k))
    go (Literal p x s) k = low (literal_range t.vtree (get t.linked) table.numbered c p x s k).2
    go (Decomposition p es) k =
        let w = k.1 in
        let at = w.code in
        let high : ltb c 2050 ≡ false = grind (arith, nat_tests) in
        let number : c - 2050 ≡ w.number = omega (arith, at) in
        sym (pairs_count t.vtree (get t.linked) k.0 es k.2) ∙ length_permutation w.list k.0 w.order
        ∙ sym (ap (λ b. cond b 0 (unwrap_or (option_map list_length (get t.linked (c - 2050))) 0)) high
        ∙ ap (λ o. unwrap_or (option_map list_length o) 0) (ap (get t.linked) number ∙ w.stored))

elements_amount : (t : Table) → IsTable t → (codes : List ℕ) (ds : List Diagram) → AllZip (Shows t) codes ds →
    sum_by element_count ds ≡ sum_by (amount_of list_length t.linked) codes
elements_amount t table [] [] h = refl
elements_amount t table [] (d ∷ ds) h = absurd h
elements_amount t table (c ∷ codes) [] h = absurd h
elements_amount t table (c ∷ codes) (d ∷ ds) h =
    sum_by-cons element_count d ds ∙ ap (λ n. n + sum_by element_count ds) (element_amount t table d c h.0)
    ∙ ap (λ n. amount_of list_length t.linked c + n) (elements_amount t table codes ds h.1)
    ∙ sym (sum_by-cons (amount_of list_length t.linked) c codes)

-- The size of what roots hold is at most the lengths of all lists together.
pub size_within : (t : Table) → IsTable t → (ds : List Diagram) → AreHeldDiagrams t ds → size_of ds ≤ total_length t
unfolding size_of completed
size_within t table ds h =
    let xs : List Diagram = first_occurrences (flat_map walk ds) in
    let k = has_codes t table.numbered xs (occurs_different (flat_map walk ds))
    (λ x m. code x (flat_among ds x (occurs_within (flat_map walk ds) x m))) in
    let same = elements_amount t table k.codes xs k.shown in
    let all = amounts_within list_length t.linked k.codes k.distinct in
    omega (arith, same, all)
  where
    code : (x : Diagram) → (d : Diagram) × IsAmong d ds × IsAmong x (walk d) → HasCode t x
    code x w = let r = among_held t ds h w.0 w.1 in below_shown t w.0 r.code r.is.shows x w.2
