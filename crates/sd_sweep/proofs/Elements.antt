-- The elements of nodes: those of the diagrams that they show, and together no more than the arena's bound.
use Rattle.std.proofs.Common.{◌≡◌, ◌⊎◌, inl, inr, ℕ, ◌+◌, ◌*◌, ◌-◌, ◌^◌, ◌≤◌, ◌<◌, true, false, ltb, cond}
use Rattle.std.proofs.Common.{List, [], ◌∷◌, length, refl, sym, ap, subst, ◌∙◌, arith}
use Rattle.std.proofs.lemmas.Bool.Decides.{nat_tests}
use Rattle.std.proofs.lemmas.List.Sums.{sum_by-cons}
use Rattle.std.proofs.lemmas.List.Sorted.{length_permutation}
use Rattle.std.specs.FinMap.{get}
use Rattle.std.specs.Prelude.{unwrap_or}
use Rattle.std.specs.Option.{IsSome, option_map}
use Rattle.std.specs.List.{AllZip, sum_by}
use Rattle.sd_model.specs.Tree.{leaves, AreDistinct}
use Rattle.sd_model.specs.Diagram.{Diagram, Bottom, Top, Literal, Decomposition, Elements}
use Rattle.sd_model.specs.Size.{element_count}
use Rattle.sd_vtree.specs.Numbered.{plain_tree}
use Rattle.sd_laws.proofs.Codes.{literal_range}
use Rattle.sd_laws.proofs.Lists.{IsAmong}
use Rattle.sd_laws.proofs.Nodes.{code_of_node}
use Rattle.sd_manager.specs.Table.{Table}
use Rattle.sd_manager.specs.Shown.{Shows, ShowsCanonical}
use Rattle.sd_manager.specs.Valid.{IsTable}
use Rattle.sd_manager.specs.Views.{pairs_at}
use Rattle.sd_manager.proofs.Reading.{linked_key, pairs_node, pairs_count}
use Rattle.sd_sweep.specs.Chained.{elements_of}
use Rattle.sd_sweep.proofs.Fits.{amount_of, amounts_within}

-- constants and literals have no pairs
no_pairs : (t : Table) (c : ℕ) → c < 2050 → length (pairs_at t c) ≡ 0
no_pairs t c low = let first : ltb c 2050 ≡ true = grind (arith, nat_tests) in rw first refl

-- the number of pairs of a node is that of the elements of its diagram
pairs_counted : (t : Table) → IsTable t → (c : ℕ) (d : Diagram) → Shows t c d →
    length (pairs_at t c) ≡ element_count d
pairs_counted t table c Bottom h = no_pairs t c (omega (arith, h))
pairs_counted t table c Top h = no_pairs t c (omega (arith, h))
pairs_counted t table c (Literal p x s) h =
    let r = literal_range t.vtree (get t.linked) table.numbered c p x s h in no_pairs t c r.2
pairs_counted t table c (Decomposition p es) h =
    let k = h.1 in
    ap length (pairs_node t c k.number (k.place, k.list) k.code (linked_key t k.number (k.place, k.list) k.stored))
    ∙ sym (length_permutation k.list h.0 k.order) ∙ pairs_count t.vtree (get t.linked) h.0 es h.2

-- so are those of several
pub elements_counted : (t : Table) → IsTable t → (codes : List ℕ) (ds : List Diagram) →
    AllZip (ShowsCanonical t) codes ds → elements_of t codes ≡ sum_by element_count ds
elements_counted t table [] [] h = refl
elements_counted t table [] (d ∷ ds) h = absurd h
elements_counted t table (c ∷ codes) [] h = absurd h
elements_counted t table (c ∷ codes) (d ∷ ds) h =
    sum_by-cons (λ x. length (pairs_at t x)) c codes
    ∙ ap (λ n. n + elements_of t codes) (pairs_counted t table c d h.0.shows)
    ∙ ap (λ n. element_count d + n) (elements_counted t table codes ds h.1) ∙ sym (sum_by-cons element_count d ds)

-- a decomposition that shows something is linked
pub shown_linked : (t : Table) → IsTable t → (n : ℕ) (d : Diagram) → Shows t (2050 + n) d → IsSome (get t.linked n)
shown_linked t table n d h = go (code_of_node t.vtree (get t.linked) table.numbered (2050 + n) d h)
  where
    go : (2050 + n < 2 * leaves (plain_tree t.vtree) + 2)
        ⊎ ((k : ℕ) × (2050 + n ≡ 2050 + k) × IsSome (get t.linked k)) → IsSome (get t.linked n)
    go (inl low) = absurd (omega (arith, low, table.numbered.within_limit))
    go (inr k) =
        let same : k.0 ≡ n = omega (arith, k.1) in subst (λ x. IsSome (get t.linked x)) same k.2

-- what a code's pairs add to the lengths of all lists
pairs_amount : (t : Table) → IsTable t → (c : ℕ) (d : Diagram) → Shows t c d →
    length (pairs_at t c) ≡ amount_of (λ (k : ℕ × List (ℕ × ℕ)). length k.1) t.linked c
pairs_amount t table c d h = go d h
  where
    low : c < 2050 → length (pairs_at t c) ≡ amount_of (λ (k : ℕ × List (ℕ × ℕ)). length k.1) t.linked c
    low less =
        let first : ltb c 2050 ≡ true = grind (arith, nat_tests) in
        no_pairs t c less
        ∙ sym (ap (λ b. cond b 0 (unwrap_or (option_map (λ (k : ℕ × List (ℕ × ℕ)). length k.1)
        (get t.linked (c - 2050))) 0)) first)

    go : (e : Diagram) → Shows t c e →
        length (pairs_at t c) ≡ amount_of (λ (k : ℕ × List (ℕ × ℕ)). length k.1) t.linked c
    go Bottom k = low (omega (arith, k))
    go Top k = low (omega (arith, k))
    go (Literal p x s) k = low (literal_range t.vtree (get t.linked) table.numbered c p x s k).2
    go (Decomposition p es) k =
        let w = k.1 in
        let at = w.code in
        let high : ltb c 2050 ≡ false = grind (arith, nat_tests) in
        let number : c - 2050 ≡ w.number = omega (arith, at) in
        ap length (pairs_node t c w.number (w.place, w.list) w.code (linked_key t w.number (w.place, w.list) w.stored))
        ∙ sym (ap (λ b. cond b 0 (unwrap_or (option_map (λ (k : ℕ × List (ℕ × ℕ)). length k.1)
        (get t.linked (c - 2050))) 0)) high
        ∙ ap (λ o. unwrap_or (option_map (λ (k : ℕ × List (ℕ × ℕ)). length k.1) o) 0)
        (ap (get t.linked) number ∙ w.stored))

-- and those of several codes
elements_amounts : (t : Table) → IsTable t → (codes : List ℕ) →
    ((c : ℕ) → IsAmong c codes → (d : Diagram) × Shows t c d) →
    elements_of t codes ≡ sum_by (amount_of (λ (k : ℕ × List (ℕ × ℕ)). length k.1) t.linked) codes
elements_amounts t table [] h = refl
elements_amounts t table (c ∷ codes) h =
    let k = h c (inl refl) in
    sum_by-cons (λ x. length (pairs_at t x)) c codes
    ∙ ap (λ n. n + elements_of t codes) (pairs_amount t table c k.0 k.1)
    ∙ ap (λ n. amount_of (λ (k : ℕ × List (ℕ × ℕ)). length k.1) t.linked c + n)
    (elements_amounts t table codes (λ b m. h b (inr m)))
    ∙ sym (sum_by-cons (amount_of (λ (k : ℕ × List (ℕ × ℕ)). length k.1) t.linked) c codes)

-- different nodes have no more elements than the arena's bound
pub elements_fit : (t : Table) → IsTable t → (codes : List ℕ) → AreDistinct codes →
    ((c : ℕ) → IsAmong c codes → (d : Diagram) × Shows t c d) → elements_of t codes < 2 ^ 31
elements_fit t table codes once shown =
    let total = table.total in
    let bounded = table.bounded in
    let bound = table.bound_fits in
    let sums = elements_amounts t table codes shown in
    let within = amounts_within (λ (k : ℕ × List (ℕ × ℕ)). length k.1) t.linked codes once in
    omega (arith, sums, within, total, bounded, bound)

-- a decomposition has two elements or more
pub several_pairs : (t : Table) → IsTable t → (c p : ℕ) (es : Elements) → Shows t c (Decomposition p es) →
    2 ≤ length (pairs_at t c)
several_pairs t table c p es is =
    let k = is.1 in
    let key = linked_key t k.number (k.place, k.list) k.stored in
    let two = table.several k.number (k.place, k.list) key in
    omega (arith, two, ap length (pairs_node t c k.number (k.place, k.list) k.code key))
