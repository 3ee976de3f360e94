-- Under diagrams that a manager shows there are no more diagrams than codes, so their text is read back.
use Rattle.std.proofs.Common.{◌≡◌, inl, inr, ℕ, ◌+◌, ◌<◌, ◌≤◌, List, [], ◌∷◌, ◌++◌, length}
use Rattle.std.proofs.Common.{Option, Some, None, refl, sym, ap, subst, arith}
use Rattle.std.specs.FinMap.{get}
use Rattle.std.specs.List.{AllByRecursion, AllZip, flat_map}
use Rattle.std.specs.Option.{IsSome}
use Rattle.sd_model.specs.Tree.{leaves}
use Rattle.sd_model.specs.Diagram.{Diagram, Bottom, Top, Literal, Decomposition, Elements, End, Pair}
use Rattle.sd_model.specs.Size.{walk, walk_elements, completed}
use Rattle.sd_model.specs.Text.{roots_text}
use Rattle.sd_model.specs.Canonical.{IsCanonical}
use Rattle.sd_model.proofs.Adding.{completed_walks}
use Rattle.sd_vtree.specs.Numbered.{Numbered, plain_tree, or_else}
use Rattle.sd_laws.specs.Shown.{Lookup, Shows, ShowElements}
use Rattle.sd_laws.proofs.Codes.{one_diagram}
use Rattle.sd_laws.proofs.Nodes.{code_of_node}
use Rattle.sd_manager.specs.Table.{Table}
use Rattle.sd_manager.specs.Shown.{ShowsCanonical}
use Rattle.sd_manager.specs.Valid.{IsTable}
use Rattle.sd_file.specs.RoundTrip.{ReadsBack, IsLastOf}
use Rattle.sd_file.proofs.DiagramPlaces.{new_completed, all_differ}
use Rattle.sd_file.proofs.Pigeons.{HaveCodes, few_coded}
use Rattle.sd_file.proofs.Readable.{all_append, all_add}
use Rattle.sd_file.proofs.ReadBack.{reads_back}

-- some code shows the diagram, and each that does is below n
abbrev HasCode : Numbered → Lookup → ℕ → Diagram → Type 0
HasCode t at n d = (c : ℕ) × Shows t at c d × (c < n)

-- each code that shows a diagram is below n
abbrev AreBelow : Numbered → Lookup → ℕ → Type 0
AreBelow t at n = (c : ℕ) (d : Diagram) → Shows t at c d → c < n

mutual
  -- each diagram under one that is shown is shown
  walk_shown : (t : Numbered) (at : Lookup) (n : ℕ) → AreBelow t at n → (d : Diagram) (c : ℕ) → Shows t at c d →
      AllByRecursion (HasCode t at n) (walk d)
  walk_shown t at n below Bottom c h = ((c, h, below c Bottom h), tt)
  walk_shown t at n below Top c h = ((c, h, below c Top h), tt)
  walk_shown t at n below (Literal p x positive) c h = ((c, h, below c (Literal p x positive) h), tt)
  walk_shown t at n below (Decomposition p es) c h =
      all_append (HasCode t at n) (walk_elements es) (Decomposition p es ∷ [])
      (elements_shown t at n below es h.0 h.2) ((c, h, below c (Decomposition p es) h), tt)

  -- and so is each under elements that are shown
  elements_shown : (t : Numbered) (at : Lookup) (n : ℕ) → AreBelow t at n → (es : Elements) (l : List (ℕ × ℕ)) →
      ShowElements t at l es → AllByRecursion (HasCode t at n) (walk_elements es)
  elements_shown t at n below End l h = tt
  elements_shown t at n below (Pair p s rest) [] h = absurd h
  elements_shown t at n below (Pair p s rest) (e ∷ l) h =
      all_append (HasCode t at n) (walk p ++ walk s) (walk_elements rest)
      (all_append (HasCode t at n) (walk p) (walk s) (walk_shown t at n below p e.0 h.0)
      (walk_shown t at n below s e.1 h.1)) (elements_shown t at n below rest l h.2)

-- a linked node has a number below the number of records
linked_below : (t : Table) (n : ℕ) → IsTable t → IsSome (get t.linked n) → n < t.records
linked_below t n table some = go (get t.linked n) refl some
  where
    go : (o : Option (ℕ × List (ℕ × ℕ))) → get t.linked n ≡ o → IsSome o → n < t.records
    go (Some key) is some = table.within n key (ap (λ o. or_else o (get t.detached n)) is)
    go None is some = absurd cc

-- a code that shows a diagram is below 2,050 and the number of records
code_below : (t : Table) → IsTable t → AreBelow t.vtree (get t.linked) (2050 + t.records)
code_below t table c d h = elim (code_of_node t.vtree (get t.linked) table.numbered c d h) [
  | inl low ↦ (let within_limit = table.numbered.within_limit in omega arith)
  | inr node ↦ omega (arith, node.1, linked_below t node.0 table node.2)
]

-- each diagram under some that are shown is shown
walks_shown : (t : Table) (n : ℕ) → AreBelow t.vtree (get t.linked) n → (cs : List ℕ) (ds : List Diagram)
    → AllZip (ShowsCanonical t) cs ds → AllByRecursion (HasCode t.vtree (get t.linked) n) (flat_map walk ds)
walks_shown t n below [] [] h = tt
walks_shown t n below [] (d ∷ ds) h = absurd h
walks_shown t n below (c ∷ cs) [] h = absurd h
walks_shown t n below (c ∷ cs) (d ∷ ds) h =
    all_append (HasCode t.vtree (get t.linked) n) (walk d) (flat_map walk ds)
    (walk_shown t.vtree (get t.linked) n below d c h.0.shows) (walks_shown t n below cs ds h.1)

-- so there are few of them
pub few_nodes : (t : Table) (cs : List ℕ) (ds : List Diagram) → IsTable t → AllZip (ShowsCanonical t) cs ds
    → length (completed ds) ≤ 2050 + t.records
few_nodes t cs ds table shown =
    let at : Lookup = get t.linked in
    let n = 2050 + t.records in
    let one = λ (c : ℕ) (d e : Diagram) (h : Shows t.vtree at c d) (k : Shows t.vtree at c e).
    one_diagram t.vtree at table.numbered d c e h k in
    let coded : HaveCodes (Shows t.vtree at) n (completed ds) =
    subst (AllByRecursion (HasCode t.vtree at n)) (sym (completed_walks ds))
    (all_add (HasCode t.vtree at n) [] (flat_map walk ds) tt (walks_shown t n (code_below t table) cs ds shown)) in
    few_coded (Shows t.vtree at) n one (completed ds) (all_differ [] (completed ds) (new_completed ds)) coded

-- diagrams that are shown are canonical
all_canonical : (t : Table) (cs : List ℕ) (ds : List Diagram) → AllZip (ShowsCanonical t) cs ds
    → AllByRecursion (IsCanonical (plain_tree t.vtree) 0) ds
all_canonical t [] [] h = tt
all_canonical t [] (d ∷ ds) h = absurd h
all_canonical t (c ∷ cs) [] h = absurd h
all_canonical t (c ∷ cs) (d ∷ ds) h = (h.0.canonical, all_canonical t cs ds h.1)

-- their text is read back as the one that is complete last
pub shown_read_back : (t : Table) (cs : List ℕ) (ds : List Diagram) (d : Diagram) → IsTable t
    → AllZip (ShowsCanonical t) cs ds → IsLastOf (completed ds) d
    → ReadsBack (leaves (plain_tree t.vtree)) (roots_text ds) d
shown_read_back t cs ds d table shown last =
    let within_limit = few_nodes t cs ds table shown in
    let records = table.records_fit in
    let extent = table.bounded in
    let bound = table.bound_fits in
    reads_back (plain_tree t.vtree) ds d table.numbered.vtree table.numbered.within_limit (all_canonical t cs ds shown)
    (omega arith) last

-- and so is a text that is theirs
pub written_reads_back : (t : Table) (cs : List ℕ) (text : List ℕ) → IsTable t
    → ((ds : List Diagram) → AllZip (ShowsCanonical t) cs ds → text ≡ roots_text ds) → (ds : List Diagram)
    → AllZip (ShowsCanonical t) cs ds → (d : Diagram) → IsLastOf (completed ds) d
    → ReadsBack (leaves (plain_tree t.vtree)) text d
written_reads_back t cs text table is ds shown d last =
    subst (λ x. ReadsBack (leaves (plain_tree t.vtree)) x d) (sym (is ds shown))
    (shown_read_back t cs ds d table shown last)
