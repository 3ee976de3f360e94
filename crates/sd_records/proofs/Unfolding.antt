-- What is referred to is one diagram.
use Rattle.std.proofs.Common.{◌≡◌, ℕ, ◌+◌, ◌<◌, cond, List, [], ◌∷◌, map, length, Some}
use Rattle.std.proofs.Common.{slice_get, slice_index_or, ◌∙◌, ap}
use Rattle.std.specs.Option.{option_map}
use Rattle.std.proofs.lemmas.List.Sorted.{IsPermutation-map}
use Rattle.std.proofs.lemmas.Option.{slice_get-get_or, slice_get_within}
use Rattle.sd_model.specs.Diagram.{Diagram, Bottom, Top, Literal, Decomposition, Elements, End, Pair}
use Rattle.sd_vtree.specs.Numbered.{Numbered, numbers, plain_tree, IsNumbered}
use Rattle.sd_laws.specs.Shown.{Lookup, Shows, ShowElements}
use Rattle.sd_laws.proofs.Codes.{leaf_range, one_diagram}
use Rattle.sd_manager.specs.Literals.{code_of_literal}
use Rattle.sd_records.specs.declared.records.Ref.{Ref}
use Rattle.sd_records.specs.declared.records.Ref.TheVariants as refs
use Rattle.sd_records.specs.Records.{Entry, Unfolds, UnfoldElements, AreEntries}
use Rattle.sd_records.proofs.Reading.{literal_same, position_in}

-- The entries as the nodes of a table: the one at an index has the code 2,050 + index, and shows what it unfolds to.

-- the code of what is referred to
abbrev code_of : Ref → ℕ
code_of (refs.Constant b) = cond b 1 0
code_of (refs.Literal l) = code_of_literal l
code_of (refs.Entry index) = 2050 + index

-- the codes of a pair
abbrev codes_of : Ref × Ref → ℕ × ℕ
codes_of e = (code_of e.0, code_of e.1)

-- the key of the entry at an index
abbrev key_of : Numbered → ℕ × List (Ref × Ref) → ℕ × List (ℕ × ℕ)
key_of t e = (slice_index_or (numbers t) e.0 0, map codes_of e.1)

abbrev keys_of : Numbered → List Entry → Lookup
keys_of t entries index = option_map (key_of t) (slice_get entries index)

-- each entry stands at a position of the vtree
abbrev pub AreInside : Numbered → List Entry → Type 0
AreInside t entries =
    (index p : ℕ) (list : List (Ref × Ref)) → slice_get entries index ≡ Some (p, list) → p < length (numbers t)

mutual
  -- what is referred to is shown
  unfolds_shown : (t : Numbered) → IsNumbered t → (entries : List Entry) → AreInside t entries
      → (d : Diagram) (r : Ref) → Unfolds (plain_tree t) entries r d → Shows t (keys_of t entries) (code_of r) d
  unfolds_shown t v entries inside Bottom r h = ap code_of h
  unfolds_shown t v entries inside Top r h = ap code_of h
  unfolds_shown t v entries inside (Literal p x s) r h =
      let low = (leaf_range (plain_tree t) v.vtree 0 x p h.1).0 in (ap code_of h.0 ∙ literal_same x s low, h.1)
  unfolds_shown t v entries inside (Decomposition p es) r h =
      let k = h.1 in (
        map codes_of h.0,
        record {
          number = k.index;
          place = slice_index_or (numbers t) p 0;
          list = map codes_of k.list;
          code = ap code_of k.is;
          stored = ap (option_map (key_of t)) k.stored;
          position = slice_get-get_or (numbers t) p 0 (inside k.index p k.list k.stored);
          order = IsPermutation-map codes_of k.list h.0 k.order;
        },
        elements_shown t v entries inside es h.0 h.2,
        h.3,
      )

  -- and so are pairs
  elements_shown : (t : Numbered) → IsNumbered t → (entries : List Entry) → AreInside t entries
      → (es : Elements) (pairs : List (Ref × Ref)) → UnfoldElements (plain_tree t) entries pairs es
      → ShowElements t (keys_of t entries) (map codes_of pairs) es
  elements_shown t v entries inside End [] h = tt
  elements_shown t v entries inside End (e ∷ pairs) h = absurd h
  elements_shown t v entries inside (Pair p s rest) [] h = absurd h
  elements_shown t v entries inside (Pair p s rest) (e ∷ pairs) h = (
    unfolds_shown t v entries inside p e.0 h.0,
    unfolds_shown t v entries inside s e.1 h.1,
    elements_shown t v entries inside rest pairs h.2,
  )

-- it is one diagram
pub one_unfolding : (t : Numbered) → IsNumbered t → (entries : List Entry)
    → AreEntries (plain_tree t) entries → (r : Ref) (d e : Diagram) → Unfolds (plain_tree t) entries r d
    → Unfolds (plain_tree t) entries r e → d ≡ e
one_unfolding t v entries are r d e h k =
    one_diagram t (keys_of t entries) v d (code_of r) e (unfolds_shown t v entries inside d r h)
    (unfolds_shown t v entries inside e r k)
  where
    inside : AreInside t entries
    inside index p list is =
        let w = are.each index (slice_get_within entries index (p, list) is) in
        position_in t entries index p list is w.0 w.1
