-- The total of the nodes under the held roots is the size of the diagrams that the roots show.
use Rattle.std.proofs.Common.{◌≡◌, ◌≢◌, ◌⊎◌, inl, inr, ℕ, ◌+◌, ◌-◌, ◌<◌, ◌≤◌, true, false, ltb, List, [], ◌∷◌}
use Rattle.std.proofs.Common.{length, map, Some, unwrap_or, refl, sym, ap, subst, ◌∙◌, arith}
use Rattle.std.proofs.lemmas.Bool.Decides.{nat_tests}
use Rattle.std.proofs.lemmas.List.Sums.{sum_by-cons}
use Rattle.std.specs.List.{AllZip, sum_by, flat_map}
use Rattle.std.specs.Option.{option_map}
use Rattle.std.specs.FinMap.{get, values}
use Rattle.sd_runs.specs.Arena.{IsMember, HasNoCopies}
use Rattle.sd_model.specs.Tree.{AreDistinct}
use Rattle.sd_model.specs.Diagram.{Diagram, Bottom, Top, Literal, Decomposition, Elements}
use Rattle.sd_model.specs.Canonical.{IsElement}
use Rattle.sd_model.specs.Size.{walk, walk_elements, size_of}
use Rattle.sd_laws.specs.Values.{StandsIn}
use Rattle.sd_laws.proofs.Codes.{one_diagram, literal_range}
use Rattle.sd_laws.proofs.Lists.{IsAmong, IsWithin, all_from, first_at, second_at}
use Rattle.sd_laws.proofs.Nodes.{element_shown, pair_stored, elements_canonical}
use Rattle.sd_laws.proofs.Within.{prime_stands, sub_stands}
use Rattle.sd_counts.specs.Right.{IsReached, reached_held, reached_below}
use Rattle.sd_manager.specs.Table.{Table, key_at, uses_in}
use Rattle.sd_manager.specs.Counting.{counts_one}
use Rattle.sd_manager.specs.Shown.{Shows, ShowsCanonical}
use Rattle.sd_manager.specs.Stored.{held_count}
use Rattle.sd_manager.specs.Total.{list_of, IsTotal}
use Rattle.sd_manager.specs.Valid.{IsTable}
use Rattle.sd_manager.specs.Views.{pairs_at}
use Rattle.sd_manager.proofs.Reading.{linked_key}
use Rattle.sd_manager.proofs.Standing.{uses_stand, stands_uses}
use Rattle.sd_sweep.specs.Chained.{elements_of}
use Rattle.sd_sweep.specs.Reached.{AreHeldDiagrams}
use Rattle.sd_sweep.proofs.Below.{among_left, itself, element_within}
use Rattle.sd_sweep.proofs.Orders.{is_decomposition}
use Rattle.sd_sweep.proofs.Rooted.{among_sum, sum_among, flat_among, among_flat, flat_closed}
use Rattle.sd_sweep.proofs.Totals.{has_diagrams, diagrams_differ, size_of_decompositions}
use Rattle.sd_sweep.proofs.Throughout.{throughout}
use Rattle.sd_sweep.proofs.Elements.{elements_counted}

-- lists of nodes

-- the list of a linked node
list_is : (t : Table) (n place : ℕ) (list : List (ℕ × ℕ)) → get t.linked n ≡ Some (place, list) → list_of t n ≡ list
list_is t n place list at =
    ap (λ o. unwrap_or (option_map (λ (k : ℕ × List (ℕ × ℕ)). k.1) o) []) (linked_key t n (place, list) at)

-- a code stands in one of the pairs of a list
pair_of_code : (c : ℕ) (l : List (ℕ × ℕ)) → StandsIn c l → (e : ℕ × ℕ) × IsAmong e l × ((e.0 ≡ c) ⊎ (e.1 ≡ c))
pair_of_code c [] s = absurd s
pair_of_code c (e ∷ l) (inl h) = (e, inl refl, inl h)
pair_of_code c (e ∷ l) (inr (inl h)) = (e, inl refl, inr h)
pair_of_code c (e ∷ l) (inr (inr s)) = let r = pair_of_code c l s in (r.0, inr r.1, r.2)

-- under a root

-- a root holds the node, or the node stands under one that is held
abbrev IsUnderRoot : Table → ℕ → Type 0
IsUnderRoot t n = IsReached (list_of t) (held_count t.roots) n

-- what stands in the list of such a node is such a node
below_root : (t : Table) (m n place : ℕ) (list : List (ℕ × ℕ)) → get t.linked m ≡ Some (place, list) →
    IsUnderRoot t m → StandsIn (2050 + n) list → IsUnderRoot t n
below_root t m n place list at under stands =
    let more : 0 < uses_in (2050 + n) list = omega (arith, stands_uses (2050 + n) list stands) in
    reached_below under (subst (λ l. 0 < uses_in (2050 + n) l) (sym (list_is t m place list at)) more)

-- the node of a number shows one of what stands under some diagrams
abbrev ShowsUnder : Table → List Diagram → ℕ → Type 0
ShowsUnder t ds n = (d : Diagram) × IsAmong d (flat_map walk ds) × ShowsCanonical t (2050 + n) d

module _ (t : Table) (table : IsTable t) (ds : List Diagram) (held : AreHeldDiagrams t ds) where
  -- a held node shows a root's diagram
  shown_held : (n : ℕ) → 0 < held_count t.roots n → ShowsUnder t ds n
  shown_held n some =
      let more : 0 < sum_by (counts_one (2050 + n)) (values t.roots) = some in
      let m = sum_among (2050 + n) (values t.roots) (omega (arith, more)) in
      let r = second_at (ShowsCanonical t) (values t.roots) ds held (2050 + n) m in
      (r.0, among_flat ds r.0 r.1 r.0 (itself r.0), r.2)

  -- a node in the list of one that shows a diagram under them shows one too
  shown_below : (m n : ℕ) → ShowsUnder t ds m → 0 < uses_in (2050 + n) (list_of t m) → ShowsUnder t ds n
  shown_below m n r uses = go r.0 r.1 r.2
    where
      go : (d : Diagram) → IsAmong d (flat_map walk ds) → ShowsCanonical t (2050 + m) d → ShowsUnder t ds n
      go Bottom w is = let e : 2050 + m ≡ 0 = is.shows in absurd (omega (arith, e))
      go Top w is = let e : 2050 + m ≡ 1 = is.shows in absurd (omega (arith, e))
      go (Literal p x s) w is =
          let low = (literal_range t.vtree (get t.linked) table.numbered (2050 + m) p x s is.shows).2 in
          absurd (omega (arith, low))
      go (Decomposition p es) w is =
          let k = is.shows.1 in
          let number : k.number ≡ m = omega (arith, k.code) in
          let at : get t.linked m ≡ Some (k.place, k.list) = ap (get t.linked) (sym number) ∙ k.stored in
          let more : 0 < uses_in (2050 + n) k.list =
          subst (λ l. 0 < uses_in (2050 + n) l) (list_is t m k.place k.list at) uses in
          let e = pair_of_code (2050 + n) k.list (uses_stand (2050 + n) k.list (omega (arith, more))) in
          let r = element_shown t.vtree (get t.linked) (2050 + m) p es is.shows m k.place k.list refl at e.0 e.1 in
          side e.0 r.0 r.1 r.2 r.3 r.4 e.2
        where
          within : (x : Diagram) → IsWithin (walk x) (walk_elements es) → IsAmong x (flat_map walk ds)
          within x below =
              flat_closed ds (Decomposition p es) w x
              (among_left x (walk_elements es) (Decomposition p es ∷ []) (below x (itself x)))

          side : (e : ℕ × ℕ) (x y : Diagram) → IsElement x y es → Shows t e.0 x → Shows t e.1 y →
              (e.0 ≡ 2050 + n) ⊎ (e.1 ≡ 2050 + n) → ShowsUnder t ds n
          side e x y f a b (inl same) = (
            x,
            within x (element_within f).0,
            record { shows = subst (λ z. Shows t z x) same a; canonical = (elements_canonical is.canonical x y f).0 },
          )
          side e x y f a b (inr same) = (
            y,
            within y (element_within f).1,
            record { shows = subst (λ z. Shows t z y) same b; canonical = (elements_canonical is.canonical x y f).1 },
          )

  -- each node under a root shows a diagram under the roots' diagrams
  shown_reached : {n : ℕ} → IsUnderRoot t n → ShowsUnder t ds n
  shown_reached (reached_held {n = n} some) = shown_held n some
  shown_reached (reached_below {m = m} {n = n} r uses) = shown_below m n (shown_reached r) uses

-- A code shows the diagram, and where it is that of a node, the node is under a root.
record HasReached (t : Table) (d : Diagram) : Type 0 where
  pub code : ℕ
  pub is : ShowsCanonical t code d
  pub under : (n : ℕ) → code ≡ 2050 + n → IsUnderRoot t n

-- so have the primes and subs of its elements
children_reached : (t : Table) (p : ℕ) (es : Elements) → HasReached t (Decomposition p es) → (x y : Diagram) →
    IsElement x y es → HasReached t x × HasReached t y
children_reached t p es h x y m =
    let k = h.is.shows.1 in
    let e = pair_stored t.vtree (get t.linked) h.code p es h.is.shows k.number k.place k.list k.code k.stored x y m in
    let c = elements_canonical h.is.canonical x y m in
    let node = h.under k.number k.code in (
      record {
        code = e.0.0;
        is = record { shows = e.2; canonical = c.0 };
        under = λ n same.
            below_root t k.number n k.place k.list k.stored node (prime_stands k.list e.0 (2050 + n) e.1 same);
      },
      record {
        code = e.0.1;
        is = record { shows = e.3; canonical = c.1 };
        under = λ n same.
            below_root t k.number n k.place k.list k.stored node (sub_stands k.list e.0 (2050 + n) e.1 same);
      },
    )

-- so has all under the roots' diagrams
all_reached : (t : Table) (ds : List Diagram) → AreHeldDiagrams t ds → (x : Diagram) → IsAmong x (flat_map walk ds) →
    HasReached t x
all_reached t ds held x m =
    let f = flat_among ds x m in
    let c = first_at (ShowsCanonical t) (values t.roots) ds held f.0 f.1 in
    throughout (HasReached t) (children_reached t) f.0
    (record { code = c.0; is = c.2; under = λ n same. root c.0 c.1 n same }) x f.2
  where
    root : (c : ℕ) → IsAmong c (values t.roots) → (n : ℕ) → c ≡ 2050 + n → IsUnderRoot t n
    root c k n same =
        let once : 1 ≤ sum_by (counts_one (2050 + n)) (values t.roots) =
        among_sum (2050 + n) (values t.roots) (subst (λ z. IsAmong z (values t.roots)) same k) in
        let some : 0 < sum_by (counts_one (2050 + n)) (values t.roots) = omega (arith, once) in
        reached_held some

-- numbers and their codes

abbrev codes_of : List ℕ → List ℕ
codes_of ns = map (λ n. 2050 + n) ns

number_of_code : (ns : List ℕ) (c : ℕ) → IsAmong c (codes_of ns) → (n : ℕ) × (c ≡ 2050 + n) × IsMember n ns
number_of_code [] c m = absurd m
number_of_code (k ∷ ns) c (inl e) = (k, e, inl refl)
number_of_code (k ∷ ns) c (inr m) = let r = number_of_code ns c m in (r.0, r.1, inr r.2)

code_of_number : (ns : List ℕ) (n : ℕ) → IsMember n ns → IsAmong (2050 + n) (codes_of ns)
code_of_number [] n m = absurd m
code_of_number (k ∷ ns) n (inl e) = inl (ap (λ z. 2050 + z) (sym e))
code_of_number (k ∷ ns) n (inr m) = inr (code_of_number ns n m)

-- no code is twice there where no number is
codes_distinct : (ns : List ℕ) → HasNoCopies ns → AreDistinct (codes_of ns)
codes_distinct [] h = tt
codes_distinct (n ∷ ns) h = (all_from (λ c. 2050 + n ≢ c) (codes_of ns) differs, codes_distinct ns h.1)
  where
    differs : (c : ℕ) → IsAmong c (codes_of ns) → 2050 + n ≢ c
    differs c m e =
        let r = number_of_code ns c m in
        let same : r.0 ≡ n = omega (arith, e, r.1) in
        h.0 (subst (λ z. IsMember z ns) same r.2)

-- the pairs that are read of a node are its list
pairs_of_number : (t : Table) (c n : ℕ) → c ≡ 2050 + n → pairs_at t c ≡ list_of t n
pairs_of_number t c n at =
    let high : ltb c 2050 ≡ false = grind (arith, nat_tests) in
    let number : c - 2050 ≡ n = omega arith in
    rw high (ap (λ z. unwrap_or (option_map (λ (k : ℕ × List (ℕ × ℕ)). k.1) (key_at t z)) []) number)

lengths_of_codes : (t : Table) (ns : List ℕ) → elements_of t (codes_of ns) ≡ sum_by (λ n. length (list_of t n)) ns
lengths_of_codes t [] = refl
lengths_of_codes t (n ∷ ns) =
    sum_by-cons (λ c. length (pairs_at t c)) (2050 + n) (codes_of ns)
    ∙ ap (λ k. k + elements_of t (codes_of ns)) (ap length (pairs_of_number t (2050 + n) n refl))
    ∙ ap (λ k. length (list_of t n) + k) (lengths_of_codes t ns)
    ∙ sym (sum_by-cons (λ n. length (list_of t n)) n ns)

-- what a node shows is a decomposition
node_decomposed : (t : Table) → IsTable t → (n : ℕ) (d : Diagram) → Shows t (2050 + n) d → is_decomposition d ≡ true
node_decomposed t table n Bottom h = absurd (omega (arith, h))
node_decomposed t table n Top h = absurd (omega (arith, h))
node_decomposed t table n (Literal p x s) h =
    let low = (literal_range t.vtree (get t.linked) table.numbered (2050 + n) p x s h).2 in absurd (omega (arith, low))
node_decomposed t table n (Decomposition p es) h = refl

-- The total is the size.
pub total_size : (t : Table) → IsTable t → (total : ℕ) → IsTotal t total → (ds : List Diagram) → AreHeldDiagrams t ds →
    total ≡ size_of ds
total_size t table total k ds held =
    let codes = codes_of k.numbers in
    let w = has_diagrams t codes (flat_map walk ds) shown in
    size_of_decompositions ds w.diagrams total
    (diagrams_differ t table codes w.diagrams w.shown (codes_distinct k.numbers k.once)) w.within
    (decomposed w.diagrams w.shown) (covered w.diagrams w.shown)
    (k.is ∙ sym (lengths_of_codes t k.numbers) ∙ elements_counted t table codes w.diagrams w.shown)
  where
    shown : (c : ℕ) → IsAmong c (codes_of k.numbers) →
        (d : Diagram) × IsAmong d (flat_map walk ds) × ShowsCanonical t c d
    shown c m =
        let r = number_of_code k.numbers c m in
        let w = shown_reached t table ds held ((k.under r.0).0 r.2) in
        (w.0, w.1, subst (λ z. ShowsCanonical t z w.0) (sym r.1) w.2)

    decomposed : (es : List Diagram) → AllZip (ShowsCanonical t) (codes_of k.numbers) es → (x : Diagram) →
        IsAmong x es → is_decomposition x ≡ true
    decomposed es h x m =
        let c = first_at (ShowsCanonical t) (codes_of k.numbers) es h x m in
        let r = number_of_code k.numbers c.0 c.1 in
        node_decomposed t table r.0 x (subst (λ z. Shows t z x) r.1 c.2.shows)

    covered : (es : List Diagram) → AllZip (ShowsCanonical t) (codes_of k.numbers) es → (x : Diagram) →
        IsAmong x (flat_map walk ds) → is_decomposition x ≡ true → IsAmong x es
    covered es h Bottom m d = absurd (cc (d))
    covered es h Top m d = absurd (cc (d))
    covered es h (Literal p v s) m d = absurd (cc (d))
    covered es h (Decomposition p fs) m d =
        let r = all_reached t ds held (Decomposition p fs) m in
        let n = r.is.shows.1 in
        let c = code_of_number k.numbers n.number ((k.under n.number).1 (r.under n.number n.code)) in
        let y = second_at (ShowsCanonical t) (codes_of k.numbers) es h (2050 + n.number) c in
        let same : y.0 ≡ Decomposition p fs =
        one_diagram t.vtree (get t.linked) table.numbered y.0 (2050 + n.number) (Decomposition p fs) y.2.shows
        (subst (λ z. Shows t z (Decomposition p fs)) n.code r.is.shows) in
        subst (λ z. IsAmong z es) same y.1
