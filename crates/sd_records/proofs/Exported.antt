-- What is listed of a diagram unfolds to it.
use Rattle.std.proofs.Common.{◌≡◌, ◌⊎◌, inl, inr, ℕ, ◌+◌, ◌-◌, ◌*◌, ◌/◌, ◌%◌, ◌≤◌, ◌<◌, Bool, true, false, ltb, ◌==◌}
use Rattle.std.proofs.Common.{List, [], ◌∷◌, map, length, Option, Some, None, slice_get}
use Rattle.std.proofs.Common.{refl, sym, ◌∙◌, ap, subst, arith}
use Rattle.std.specs.List.{AllByRecursion}
use Rattle.std.specs.Option.{IsSome}
use Rattle.std.specs.FinMap.{get}
use Rattle.std.proofs.lemmas.Bool.{cases_lt}
use Rattle.std.proofs.lemmas.Bool.Decides.{nat_tests}
use Rattle.std.proofs.lemmas.List.Sorted.{IsPermutation-map}
use Rattle.std.proofs.lemmas.Option.{some_pair_parts, same_Some, slice_get_within}
use Rattle.sd_model.specs.Tree.{leaves}
use Rattle.sd_model.specs.Diagram.{Diagram, Bottom, Top, Literal, Decomposition, Elements, End, Pair}
use Rattle.sd_vtree.specs.Numbered.{numbers, plain_tree}
use Rattle.sd_vtree.proofs.Times.{one_place}
use Rattle.sd_vtree.proofs.Subtrees.{once_numbered}
use Rattle.sd_laws.specs.Shown.{ShowElements, literal_code}
use Rattle.sd_laws.proofs.Codes.{literal_range}
use Rattle.sd_laws.proofs.Lists.{all_permuted, all_weaker}
use Rattle.sd_laws.proofs.Nodes.{code_of_node}
use Rattle.sd_manager.specs.Literals.{literal_of, literal_at}
use Rattle.sd_manager.specs.Table.{Table}
use Rattle.sd_manager.specs.Shown.{Shows, ShowsCanonical}
use Rattle.sd_manager.specs.Valid.{IsTable}
use Rattle.sd_records.specs.declared.records.Ref.{Ref}
use Rattle.sd_records.specs.declared.records.Ref.TheVariants as refs
use Rattle.sd_records.specs.declared.listing.Listing.{Listing}
use Rattle.sd_apply.specs.Answers.{HasAnswer}
use Rattle.sd_manager.proofs.Reading.{literal_back}
use Rattle.sd_records.specs.Records.{FlatDiagram, Unfolds, UnfoldElements, UnfoldsCanonical, IsBefore, AreEntries}
use Rattle.sd_records.specs.Records.{AreRecords, UnfoldToValue}
use Rattle.sd_records.specs.Stored.{ref_of, entries_of, flat_of}
use Rattle.sd_records.specs.Listed.{mark_at, code_in, IsListed, BothListed, IsListedBefore, BothListedBefore}
use Rattle.sd_records.specs.Listed.{IsEntryOf, AreListed}
use Rattle.sd_records.specs.Reading.{AreBefore}
use Rattle.sd_records.proofs.Entries.{length_entries}
use Rattle.sd_records.proofs.Lists.{all_mapped}
use Rattle.sd_records.proofs.Writing.{refs_in, listed_from_before}

-- ---- codes

-- what a constant's code refers to
low_ref : (marks : List ℕ) (c : ℕ) → c < 2 → ref_of (code_in marks c) ≡ refs.Constant (c == 1)
low_ref marks c low =
    let first : ltb c 2050 ≡ true = grind (arith, nat_tests) in
    let second : ltb c 2 ≡ true = grind (arith, nat_tests) in
    rw (first, second) refl

-- what a literal's code refers to
literal_ref : (marks : List ℕ) (c : ℕ) → 2 ≤ c → c < 2050 → ref_of (code_in marks c) ≡ refs.Literal (literal_at c)
literal_ref marks c low high =
    let first : ltb c 2050 ≡ true = grind (arith, nat_tests) in
    let second : ltb c 2 ≡ false = grind (arith, nat_tests) in
    rw (first, second, first) refl

-- what a node's code refers to
node_ref : (marks : List ℕ) (c : ℕ) → 2050 ≤ c → 0 < mark_at marks (c - 2050)
    → ref_of (code_in marks c) ≡ refs.Entry (mark_at marks (c - 2050) - 1)
node_ref marks c high has =
    let mark = mark_at marks (c - 2050) in
    let first : ltb c 2050 ≡ false = grind (arith, nat_tests) in
    let second : ltb (mark + 2049) 2 ≡ false = grind (arith, nat_tests) in
    let third : ltb (mark + 2049) 2050 ≡ false = grind (arith, nat_tests) in
    let number : mark + 2049 - 2050 ≡ mark - 1 = omega (arith, has) in
    rw (first, second, third) (ap refs.Entry number)

-- what stands before names an earlier entry
before_ref : (marks : List ℕ) (i c : ℕ) → IsListedBefore marks i c → IsBefore i (ref_of (code_in marks c))
before_ref marks i c h = elim (cases_lt c 2050) [
  | inl low ↦ elim (cases_lt c 2) [
    | inl constant ↦ subst (IsBefore i) (sym (low_ref marks c constant)) tt
    | inr literal ↦ subst (IsBefore i) (sym (literal_ref marks c literal low)) tt
  ]
  | inr high ↦
      let k = h high in
      subst (IsBefore i) (sym (node_ref marks c high k.0)) (omega (arith, k.0, k.1))
]

-- ---- diagrams

mutual
  -- what a listed code shows is what its entry unfolds to
  pub unfolds_listed : (t : Table) → IsTable t → (l : Listing) → AreListed t l → (d : Diagram) (c : ℕ) → Shows t c d
      → IsListed l.marks.items c
      → Unfolds (plain_tree t.vtree) (entries_of l.heads.items l.pairs.items) (ref_of (code_in l.marks.items c)) d
  unfolds_listed t table l h Bottom c shows listed =
      subst (λ x. ref_of (code_in l.marks.items x) ≡ refs.Constant false) (sym shows) refl
  unfolds_listed t table l h Top c shows listed =
      subst (λ x. ref_of (code_in l.marks.items x) ≡ refs.Constant true) (sym shows) refl
  unfolds_listed t table l h (Literal p x s) c shows listed =
      let r = literal_range t.vtree (get t.linked) table.numbered c p x s shows in
      (literal_ref l.marks.items c r.0 r.2 ∙ ap refs.Literal (ap literal_at shows.0 ∙ literal_back x s), shows.1)
  unfolds_listed t table l h (Decomposition p es) c shows listed =
      let k = shows.1 in
      let high : 2050 ≤ c = omega (arith, k.code) in
      let number : c - 2050 ≡ k.number = omega (arith, k.code) in
      let has : 0 < mark_at l.marks.items k.number =
      subst (λ n. 0 < mark_at l.marks.items n) number (listed high) in
      let e : IsEntryOf t l k.number k.place k.list = h.listed k.number k.place k.list k.stored has in
      let same : e.position ≡ p =
      one_place (numbers t.vtree) k.place e.position p (once_numbered t.vtree table.numbered k.place) e.stands
      k.position in
      let all : AllByRecursion (BothListed l.marks.items) k.list =
      all_weaker (BothListedBefore l.marks.items (mark_at l.marks.items k.number - 1)) (BothListed l.marks.items)
      (listed_from_before l.marks.items (mark_at l.marks.items k.number - 1)) k.list e.earlier in (
        map (refs_in l.marks.items) shows.0,
        record {
          index = mark_at l.marks.items k.number - 1;
          list = map (refs_in l.marks.items) k.list;
          is = node_ref l.marks.items c high (listed high)
              ∙ ap (λ n. refs.Entry (mark_at l.marks.items n - 1)) number;
          stored = e.is ∙ ap (λ n. Some (n, map (refs_in l.marks.items) k.list)) same;
          order = IsPermutation-map (refs_in l.marks.items) k.list shows.0 k.order;
        },
        elements_listed t table l h es shows.0 shows.2
            (all_permuted (BothListed l.marks.items) k.list shows.0 k.order all),
        shows.3,
      )

  -- and so are those of pairs
  elements_listed : (t : Table) → IsTable t → (l : Listing) → AreListed t l → (es : Elements) (pairs : List (ℕ × ℕ))
      → ShowElements t.vtree (get t.linked) pairs es → AllByRecursion (BothListed l.marks.items) pairs
      → UnfoldElements (plain_tree t.vtree) (entries_of l.heads.items l.pairs.items)
      (map (refs_in l.marks.items) pairs) es
  elements_listed t table l h End [] shown all = tt
  elements_listed t table l h End (e ∷ pairs) shown all = absurd shown
  elements_listed t table l h (Pair p s rest) [] shown all = absurd shown
  elements_listed t table l h (Pair p s rest) (e ∷ pairs) shown all = (
    unfolds_listed t table l h p e.0 shown.0 all.0.0,
    unfolds_listed t table l h s e.1 shown.1 all.0.1,
    elements_listed t table l h rest pairs shown.2 all.1,
  )

-- of canonical diagrams
pub canonical_listed : (t : Table) → IsTable t → (l : Listing) → AreListed t l → (d : Diagram) (c : ℕ)
    → ShowsCanonical t c d → IsListed l.marks.items c
    → UnfoldsCanonical (plain_tree t.vtree) (entries_of l.heads.items l.pairs.items)
    (ref_of (code_in l.marks.items c)) d
canonical_listed t table l h d c is listed =
    record { unfolds = unfolds_listed t table l h d c is.shows listed; canonical = is.canonical }

-- ---- all entries

-- the key of a node that shows something
key_there : (t : Table) → IsTable t → (n : ℕ) (d : Diagram) → Shows t (2050 + n) d
    → (place : ℕ) × (list : List (ℕ × ℕ)) × (get t.linked n ≡ Some (place, list))
key_there t table n d shows = go (code_of_node t.vtree (get t.linked) table.numbered (2050 + n) d shows)
  where
    key : (o : Option (ℕ × List (ℕ × ℕ))) → get t.linked n ≡ o → IsSome o
        → (place : ℕ) × (list : List (ℕ × ℕ)) × (get t.linked n ≡ Some (place, list))
    key None e s = cc
    key (Some k) e s = (k.0, k.1, e)

    go : (2050 + n < 2 * leaves (plain_tree t.vtree) + 2)
        ⊎ ((m : ℕ) × (2050 + n ≡ 2050 + m) × IsSome (get t.linked m))
        → (place : ℕ) × (list : List (ℕ × ℕ)) × (get t.linked n ≡ Some (place, list))
    go (inl low) = absurd (omega (arith, low, table.numbered.within_limit))
    go (inr k) =
        let same : k.0 ≡ n = omega (arith, k.1) in
        key (get t.linked n) refl (subst (λ m. IsSome (get t.linked m)) same k.2)

-- each is that of a canonical diagram, behind those that it names
pub entries_listed : (t : Table) → IsTable t → (l : Listing) → AreListed t l
    → AreEntries (plain_tree t.vtree) (entries_of l.heads.items l.pairs.items)
entries_listed t table l h = record { earlier = earlier; each = each }
  where
    inside : (index : ℕ) → index < length (entries_of l.heads.items l.pairs.items) → index < length l.heads.items
    inside index lt = omega (arith, lt, length_entries l.heads.items l.pairs.items)

    each : (index : ℕ) → index < length (entries_of l.heads.items l.pairs.items)
        → (d : Diagram)
        × UnfoldsCanonical (plain_tree t.vtree) (entries_of l.heads.items l.pairs.items) (refs.Entry index) d
    each index lt =
        let w = h.nodes index (inside index lt) in
        let number : 2050 + w.0 - 2050 ≡ w.0 = omega arith in
        let has : 0 < mark_at l.marks.items (2050 + w.0 - 2050) =
        omega (arith, w.1, ap (mark_at l.marks.items) number) in
        let index_is : mark_at l.marks.items (2050 + w.0 - 2050) - 1 ≡ index =
        omega (arith, w.1, ap (mark_at l.marks.items) number) in
        let high : 2050 ≤ 2050 + w.0 = omega arith in (
          w.2.diagram,
          subst
              (λ r. UnfoldsCanonical (plain_tree t.vtree) (entries_of l.heads.items l.pairs.items) r w.2.diagram)
              (node_ref l.marks.items (2050 + w.0) high has ∙ ap refs.Entry index_is)
              (canonical_listed t table l h w.2.diagram (2050 + w.0) w.2.is (λ _. has)),
        )

    earlier : (index p : ℕ) (list : List (Ref × Ref))
        → slice_get (entries_of l.heads.items l.pairs.items) index ≡ Some (p, list)
        → AllByRecursion (AreBefore index) list
    earlier index p list is =
        let entries = entries_of l.heads.items l.pairs.items in
        let w = h.nodes index (inside index (slice_get_within entries index (p, list) is)) in
        let key = key_there t table w.0 w.2.diagram w.2.is.shows in
        let e : IsEntryOf t l w.0 key.0 key.1 = h.listed w.0 key.0 key.1 key.2 (omega (arith, w.1)) in
        let at : mark_at l.marks.items w.0 - 1 ≡ index = omega (arith, w.1) in
        let both : ◌≡◌ (Some (e.position, map (refs_in l.marks.items) key.1)) (Some (p, list)) =
        sym e.is ∙ ap (slice_get entries) at ∙ is in
        let parts = some_pair_parts e.position p (map (refs_in l.marks.items) key.1) list both in
        subst (AllByRecursion (AreBefore index)) parts.1
        (all_mapped (refs_in l.marks.items) (BothListedBefore l.marks.items index) (AreBefore index)
        (λ x k. (before_ref l.marks.items index x.0 k.0, before_ref l.marks.items index x.1 k.1)) key.1
        (subst (λ n. AllByRecursion (BothListedBefore l.marks.items n) key.1) at e.earlier))

-- ---- the whole

-- the records of a listed root
pub records_listed : (t : Table) → IsTable t → (l : Listing) → AreListed t l → (c : ℕ) → IsListed l.marks.items c
    → (d : Diagram) → ShowsCanonical t c d → (r : FlatDiagram)
    → r ≡ flat_of l.heads.items l.pairs.items (code_in l.marks.items c) → AreRecords (plain_tree t.vtree) r
records_listed t table l h c listed d is r same =
    subst (AreRecords (plain_tree t.vtree)) (sym same)
    (record { entries = entries_listed t table l h; root = (d, canonical_listed t table l h d c is listed) })

-- they unfold to what the root shows
pub root_listed : (t : Table) → IsTable t → (l : Listing) → AreListed t l → (c : ℕ) → IsListed l.marks.items c
    → (d : Diagram) → ShowsCanonical t c d → (r : FlatDiagram)
    → r ≡ flat_of l.heads.items l.pairs.items (code_in l.marks.items c)
    → UnfoldsCanonical (plain_tree t.vtree) r.entries r.root d
root_listed t table l h c listed d is r same =
    subst (λ (f : FlatDiagram). UnfoldsCanonical (plain_tree t.vtree) f.entries f.root d) (sym same)
    (canonical_listed t table l h d c is listed)

-- and have its value
pub value_listed : (t : Table) → IsTable t → (l : Listing) → AreListed t l → (c : ℕ) → IsListed l.marks.items c
    → (r : FlatDiagram) → r ≡ flat_of l.heads.items l.pairs.items (code_in l.marks.items c) → (b : ℕ)
    → (o : Option ℕ) → o ≡ Some c → (f : List Bool → Bool) → o ≡ Some b → HasAnswer t f b
    → UnfoldToValue (plain_tree t.vtree) r f
value_listed t table l h c listed r same b o held f also answer =
    let code : b ≡ c = same_Some b c (sym also ∙ held) in
    let is : ShowsCanonical t c answer.diagram = subst (λ x. ShowsCanonical t x answer.diagram) code answer.is in
    record {
      diagram = answer.diagram;
      is = root_listed t table l h c listed answer.diagram is r same;
      value = answer.value;
    }
