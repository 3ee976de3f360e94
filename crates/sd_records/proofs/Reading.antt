-- The nodes of entries show what the entries unfold to.
use Rattle.std.proofs.Common.{◌≡◌, inl, inr, ℕ, ◌≤◌, ◌<◌, Bool, true, false}
use Rattle.std.proofs.Common.{List, [], ◌∷◌, ◌++◌, map, length, Some, slice_get, slice_index_or}
use Rattle.std.proofs.Common.{refl, sym, ◌∙◌, ap, subst, arith, length-append}
use Rattle.std.specs.List.{AllByRecursion}
use Rattle.std.specs.List.Sorted.{IsPermutation}
use Rattle.std.specs.FinMap.{get}
use Rattle.std.proofs.lemmas.Bool.{cases_lt}
use Rattle.std.proofs.lemmas.List.Sorted.{IsPermutation-map, IsPermutation-sym}
use Rattle.std.proofs.lemmas.Option.{some_pair_parts, slice_get_within}
use Rattle.std.proofs.Math.ListN.{get_or-append}
use Rattle.std.proofs.Math.Seq.{get_or-append_seam}
use Rattle.sd_model.specs.Tree.{Tree}
use Rattle.sd_model.specs.Diagram.{Diagram, Bottom, Top, Literal, Decomposition, Elements, End, Pair}
use Rattle.sd_model.specs.Canonical.{IsCanonical, IsElement, first, later}
use Rattle.sd_vtree.specs.Numbered.{Numbered, numbers, plain_tree}
use Rattle.sd_laws.specs.Shown.{ShowElements, literal_code, Shows as ShowsBy}
use Rattle.sd_laws.proofs.Codes.{leaf_range, shows_kept}
use Rattle.sd_laws.proofs.Lists.{all_permuted}
use Rattle.sd_laws.proofs.Nodes.{elements_canonical}
use Rattle.sd_manager.specs.Table.{Table}
use Rattle.sd_manager.specs.Literals.{literal_of, code_of_literal}
use Rattle.sd_manager.specs.Shown.{ShowsCanonical}
use Rattle.sd_manager.specs.Making.{Extends}
use Rattle.sd_manager.specs.Valid.{IsTable}
use Rattle.sd_records.specs.declared.records.Ref.{Ref}
use Rattle.sd_records.specs.declared.records.Ref.TheVariants as refs
use Rattle.sd_records.specs.Records.{Entry, HasRefs, Unfolds, UnfoldElements, UnfoldsCanonical, IsBefore, AreEntries}
use Rattle.sd_records.specs.Reading.{node_of, nodes_of, AreBefore, AreRead, ShowDecomposition}
use Rattle.sd_records.specs.declared.records.Head.{Head}
use Rattle.sd_records.specs.Stored.{refs_of, entries_of}
use Rattle.sd_records.proofs.Entries.{IsNext, slice_of, length_entries}
use Rattle.sd_records.proofs.Making.{position_there}

-- ---- what is referred to

-- the code of a literal
pub literal_same : (x : ℕ) (s : Bool) → 1 ≤ x → code_of_literal (literal_of x s) ≡ literal_code x s
literal_same x true low = refl
literal_same x false low = omega (arith, low)

-- what is referred to is an entry
entry_there : (index : ℕ) (entries : List Entry) (r : Ref) (p : ℕ) (pairs : List (Ref × Ref))
    → HasRefs entries r p pairs → r ≡ refs.Entry index → (list : List (Ref × Ref))
    × (slice_get entries index ≡ Some (p, list)) × IsPermutation list pairs
entry_there index entries r p pairs h is =
    let e : refs.Entry h.index ≡ refs.Entry index = sym h.is ∙ is in
    let same : h.index ≡ index = cc in
    (h.list, ap (slice_get entries) (sym same) ∙ h.stored, h.order)

-- what is referred to is shown by its node
pub ref_shown : (t : Table) → IsTable t → (entries : List Entry) (nodes : List ℕ)
    → AreRead t entries nodes → (r : Ref) → IsBefore (length nodes) r → (d : Diagram)
    → UnfoldsCanonical (plain_tree t.vtree) entries r d → ShowsCanonical t (node_of nodes r) d
ref_shown t table entries nodes read r before Bottom h =
    record { shows = ap (node_of nodes) h.unfolds; canonical = h.canonical }
ref_shown t table entries nodes read r before Top h =
    record { shows = ap (node_of nodes) h.unfolds; canonical = h.canonical }
ref_shown t table entries nodes read r before (Literal p x s) h =
    let low = (leaf_range (plain_tree t.vtree) table.numbered.vtree 0 x p h.unfolds.1).0 in
    record {
      shows = (ap (node_of nodes) h.unfolds.0 ∙ literal_same x s low, h.unfolds.1);
      canonical = h.canonical;
    }
ref_shown t table entries nodes read r before (Decomposition p es) h =
    let k = h.unfolds.1 in
    let below : k.index < length nodes = subst (IsBefore (length nodes)) k.is before in
    subst (λ q. ShowsCanonical t (node_of nodes q) (Decomposition p es)) (sym k.is)
    (read.each k.index below (Decomposition p es)
    (subst (λ q. UnfoldsCanonical (plain_tree t.vtree) entries q (Decomposition p es)) k.is h))

-- pairs of what is referred to are shown by their nodes
elements_read : (t : Table) → IsTable t → (entries : List Entry) (nodes : List ℕ)
    → AreRead t entries nodes → (pairs : List (Ref × Ref)) (es : Elements)
    → AllByRecursion (AreBefore (length nodes)) pairs → UnfoldElements (plain_tree t.vtree) entries pairs es
    → ((p s : Diagram) → IsElement p s es → IsCanonical (plain_tree t.vtree) 0 p × IsCanonical (plain_tree t.vtree) 0 s)
    → ShowElements t.vtree (get t.linked) (map (nodes_of nodes) pairs) es
elements_read t table entries nodes read [] End before h fits = tt
elements_read t table entries nodes read [] (Pair p s rest) before h fits = absurd h
elements_read t table entries nodes read (e ∷ pairs) End before h fits = absurd h
elements_read t table entries nodes read (e ∷ pairs) (Pair p s rest) before h fits = (
  (ref_shown t table entries nodes read e.0 before.0.0 p
      (record { unfolds = h.0; canonical = (fits p s first).0 })).shows,
  (ref_shown t table entries nodes read e.1 before.0.1 s
      (record { unfolds = h.1; canonical = (fits p s first).1 })).shows,
  elements_read t table entries nodes read pairs rest before.1 h.2 (λ x y m. fits x y (later m)),
)

-- ---- an entry

-- what the nodes of an entry's pairs show: the elements of a decomposition at its position
pub record IsRead (t : Table) (p : ℕ) (pairs : List (ℕ × ℕ)) (d : Diagram) : Type 0 where
  pub elements : Elements
  pub is : d ≡ Decomposition p elements
  pub shown : ShowDecomposition t p pairs elements

-- an entry is no constant and no literal
no_constant : (b : Bool) (index : ℕ) → refs.Entry index ≡ refs.Constant b → ⊥
no_constant b index e = cc

pub entry_read : (t : Table) → IsTable t → (entries : List Entry) (nodes : List ℕ)
    → AreRead t entries nodes → (index p : ℕ) (list : List (Ref × Ref)) → slice_get entries index ≡ Some (p, list)
    → AllByRecursion (AreBefore (length nodes)) list → (d : Diagram)
    → UnfoldsCanonical (plain_tree t.vtree) entries (refs.Entry index) d
    → IsRead t p (map (nodes_of nodes) list) d
entry_read t table entries nodes read index p list is before Bottom h = absurd (no_constant false index h.unfolds)
entry_read t table entries nodes read index p list is before Top h = absurd (no_constant true index h.unfolds)
entry_read t table entries nodes read index p list is before (Literal q x s) h =
    let e : refs.Entry index ≡ refs.Literal (literal_of x s) = h.unfolds.0 in absurd (cc)
entry_read t table entries nodes read index p list is before (Decomposition q es) h =
    let pairs = h.unfolds.0 in
    let k = entry_there index entries (refs.Entry index) q pairs h.unfolds.1 refl in
    let both : ◌≡◌ (Some (q, k.0)) (Some (p, list)) = sym k.1 ∙ is in
    let parts = some_pair_parts q p k.0 list both in
    let order : IsPermutation list pairs = subst (λ l. IsPermutation l pairs) parts.1 k.2 in
    record {
      elements = es;
      is = ap (λ n. Decomposition n es) parts.0;
      shown = record {
        list = map (nodes_of nodes) pairs;
        order = IsPermutation-sym (map (nodes_of nodes) list) (map (nodes_of nodes) pairs)
            (IsPermutation-map (nodes_of nodes) list pairs order);
        shown = elements_read t table entries nodes read pairs es
            (all_permuted (AreBefore (length nodes)) list pairs order before) h.unfolds.2
            (elements_canonical h.canonical);
        canonical = subst (λ n. IsCanonical (plain_tree t.vtree) 0 (Decomposition n es)) parts.0 h.canonical;
      };
    }

-- an entry stands at a position of the vtree
pub position_in : (t : Numbered) (entries : List Entry) (index p : ℕ) (list : List (Ref × Ref))
    → slice_get entries index ≡ Some (p, list) → (d : Diagram)
    → UnfoldsCanonical (plain_tree t) entries (refs.Entry index) d → p < length (numbers t)
position_in t entries index p list is Bottom h = absurd (no_constant false index h.unfolds)
position_in t entries index p list is Top h = absurd (no_constant true index h.unfolds)
position_in t entries index p list is (Literal q x s) h =
    let e : refs.Entry index ≡ refs.Literal (literal_of x s) = h.unfolds.0 in absurd (cc)
position_in t entries index p list is (Decomposition q es) h =
    let k = entry_there index entries (refs.Entry index) q h.unfolds.0 h.unfolds.1 refl in
    let parts = some_pair_parts q p k.0 list (sym k.1 ∙ is) in
    subst (λ n. n < length (numbers t)) parts.0 (position_there t q es h.canonical)

-- ---- one entry after another

-- none is read yet
pub read_none : (t : Table) (entries : List Entry) → AreRead t entries []
read_none t entries = record { each = λ index lt d h. absurd (omega (arith, lt)) }

-- one entry more
pub read_more : (old new : Table) → IsTable old → Extends old new → (entries : List Entry)
    (nodes longer : List ℕ) (node p : ℕ) (list : List (Ref × Ref)) → AreRead old entries nodes
    → slice_get entries (length nodes) ≡ Some (p, list) → AllByRecursion (AreBefore (length nodes)) list
    → ((es : Elements) → ShowDecomposition old p (map (nodes_of nodes) list) es
    → ShowsCanonical new node (Decomposition p es))
    → longer ≡ nodes ++ node ∷ [] → AreRead new entries longer
read_more old new table kept entries nodes longer node p list read is before made same =
    subst (AreRead new entries) (sym same) (record { each = each })
  where
    back : (index : ℕ) (d : Diagram) → UnfoldsCanonical (plain_tree new.vtree) entries (refs.Entry index) d
        → UnfoldsCanonical (plain_tree old.vtree) entries (refs.Entry index) d
    back index d h = subst (λ v. UnfoldsCanonical (plain_tree v) entries (refs.Entry index) d) kept.vtree h

    goes_on : (c : ℕ) (d : Diagram) → ShowsCanonical old c d → ShowsCanonical new c d
    goes_on c d h =
        record {
          shows = subst (λ v. ShowsBy v (get new.linked) c d) (sym kept.vtree)
              (shows_kept old.vtree (get old.linked) (get new.linked) kept.nodes d c h.shows);
          canonical = subst (λ v. IsCanonical (plain_tree v) 0 d) (sym kept.vtree) h.canonical;
        }

    each : (index : ℕ) → index < length (nodes ++ node ∷ []) → (d : Diagram)
        → UnfoldsCanonical (plain_tree new.vtree) entries (refs.Entry index) d
        → ShowsCanonical new (slice_index_or (nodes ++ node ∷ []) index 0) d
    each index lt d h = elim (cases_lt index (length nodes)) [
      | inl below ↦
          subst (λ c. ShowsCanonical new c d) (sym (get_or-append nodes (node ∷ []) 0 index below))
          (goes_on (slice_index_or nodes index 0) d (read.each index below d (back index d h)))
      | inr past ↦
          let at : index ≡ length nodes = omega (arith, lt, past, length-append nodes (node ∷ [])) in
          let r = entry_read old table entries nodes read (length nodes) p list is before d
          (back (length nodes) d
          (subst (λ n. UnfoldsCanonical (plain_tree new.vtree) entries (refs.Entry n) d) at h)) in
          subst (λ c. ShowsCanonical new c d)
          (sym (ap (λ n. slice_index_or (nodes ++ node ∷ []) n 0) at ∙ get_or-append_seam nodes node [] 0))
          (subst (ShowsCanonical new node) (sym r.is) (made r.elements r.shown))
    ]

-- ---- the loop over all entries

-- an entry names earlier ones alone
pub slice_before : (t : Tree) (heads : List Head) (pairs : List (ℕ × ℕ)) (i start : ℕ) (head : Head)
    (nodes lent : List ℕ) → AreEntries t (entries_of heads pairs) → IsNext heads pairs i start head
    → length nodes ≡ i → lent ≡ nodes
    → AllByRecursion (AreBefore (length lent)) (map refs_of (slice_of pairs start head))
slice_before t heads pairs i start head nodes lent are next all same =
    subst (λ n. AllByRecursion (AreBefore n) (map refs_of (slice_of pairs start head))) (sym (ap length same ∙ all))
    (are.earlier i head.position (map refs_of (slice_of pairs start head)) next.is)

-- what the nodes of its pairs show can be made
pub turn_shown : (old now : Table) → IsTable now → Extends old now → (heads : List Head) (pairs : List (ℕ × ℕ))
    (i start : ℕ) (head : Head) (nodes lent : List ℕ) (elements : List (ℕ × ℕ)) → i < length heads
    → AreEntries (plain_tree old.vtree) (entries_of heads pairs) → AreRead now (entries_of heads pairs) nodes
    → IsNext heads pairs i start head → length nodes ≡ i → lent ≡ nodes
    → elements ≡ map (nodes_of lent) (map refs_of (slice_of pairs start head))
    → (es : Elements) × ShowDecomposition now head.position elements es
turn_shown old now table kept heads pairs i start head nodes lent elements lt are read next all same is =
    let entries = entries_of heads pairs in
    let list = map refs_of (slice_of pairs start head) in
    let w = are.each i (omega (arith, lt, length_entries heads pairs)) in
    let before = slice_before (plain_tree old.vtree) heads pairs i start head nodes nodes are next all refl in
    let r = entry_read now table entries nodes read i head.position list next.is before w.0
    (subst (λ v. UnfoldsCanonical (plain_tree v) entries (refs.Entry i) w.0) (sym kept.vtree) w.1) in (
      r.elements,
      subst (λ l. ShowDecomposition now head.position l r.elements) (sym (is ∙ ap (λ n. map (nodes_of n) list) same))
          r.shown,
    )

-- and then one entry more is read
pub turn_read : (old now new : Table) → IsTable now → Extends now new → (heads : List Head) (pairs : List (ℕ × ℕ))
    (i start : ℕ) (head : Head) (nodes lent longer : List ℕ) (elements : List (ℕ × ℕ)) (node : ℕ)
    → AreEntries (plain_tree old.vtree) (entries_of heads pairs) → AreRead now (entries_of heads pairs) nodes
    → IsNext heads pairs i start head → length nodes ≡ i → lent ≡ nodes
    → elements ≡ map (nodes_of lent) (map refs_of (slice_of pairs start head))
    → ((es : Elements) → ShowDecomposition now head.position elements es
    → ShowsCanonical new node (Decomposition head.position es))
    → longer ≡ nodes ++ node ∷ [] → AreRead new (entries_of heads pairs) longer
turn_read old now new table kept heads pairs i start head nodes lent longer elements node are read next all same is made
    more =
    let entries = entries_of heads pairs in
    let list = map refs_of (slice_of pairs start head) in
    read_more now new table kept entries nodes longer node head.position list read
    (ap (slice_get entries) all ∙ next.is)
    (slice_before (plain_tree old.vtree) heads pairs i start head nodes nodes are next all refl)
    (λ es h. made es
    (subst (λ l. ShowDecomposition now head.position l es) (sym (is ∙ ap (λ n. map (nodes_of n) list) same)) h)) more

-- ---- the root

-- what unfolds is no entry, or one of them
pub root_before : (t : Tree) (entries : List Entry) (r : Ref) (d : Diagram) → Unfolds t entries r d
    → IsBefore (length entries) r
root_before t entries r Bottom h = subst (IsBefore (length entries)) (sym h) tt
root_before t entries r Top h = subst (IsBefore (length entries)) (sym h) tt
root_before t entries r (Literal p x s) h = subst (IsBefore (length entries)) (sym h.0) tt
root_before t entries r (Decomposition p es) h =
    let k = h.1 in
    subst (IsBefore (length entries)) (sym k.is) (slice_get_within entries k.index (p, k.list) k.stored)
