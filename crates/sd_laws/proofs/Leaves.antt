-- Literals and their negations, and the numbers of their leaves.
use Rattle.std.proofs.Common.{◌≡◌, ℕ, ◌+◌, ◌-◌, ◌*◌, ◌/◌, ◌%◌, ◌≤◌, ◌<◌, Bool, true, false, not, List}
use Rattle.std.proofs.Common.{Some, None, Option, slice_get, refl, sym, ◌∙◌, ap, arith, option_and_then}
use Rattle.std.proofs.lemmas.Option.{same_Some, none-some}
use Rattle.sd_model.specs.Tree.{leaves}
use Rattle.sd_model.specs.Assignment.{value_in}
use Rattle.sd_model.specs.Diagram.{Diagram, Bottom, Top, Literal, Decomposition, meaning}
use Rattle.sd_model.specs.Canonical.{IsCanonical, canonical_bottom, canonical_top, canonical_literal}
use Rattle.sd_model.proofs.OverVtree.{vtree_apart}
use Rattle.sd_vtree.specs.Numbered.{Numbered, NumberedLeaf, NumberedNode, numbers, plain_tree, subtree}
use Rattle.sd_vtree.specs.Numbered.{leaf_variable, variable_at, IsNumbered}
use Rattle.sd_vtree.proofs.Subtrees.{subtree_number}
use Rattle.sd_laws.specs.Parts.{leaf_position}
use Rattle.sd_laws.specs.Shown.{Lookup, literal_code, Shows, ShowsCanonical}
use Rattle.sd_laws.proofs.Codes.{node_range}
use Rattle.sd_laws.proofs.Numbers.{PartAt, part_of_subtree, part_number, literal_canonical, literal_position}
use Rattle.sd_laws.proofs.Places.{canonical_lifts}

-- the leaf of a variable

-- a node with a variable is a leaf
leaf_at : (t : Numbered) (u x : ℕ) → variable_at t u ≡ Some x → subtree t u ≡ Some (NumberedLeaf u x)
leaf_at t u x e = go (subtree t u) refl e
  where
    go : (o : Option Numbered) → subtree t u ≡ o → option_and_then leaf_variable o ≡ Some x →
        subtree t u ≡ Some (NumberedLeaf u x)
    go None h e = absurd (none-some x e)
    go (Some (NumberedLeaf m y)) h e =
        let k : m ≡ u = subtree_number t u (NumberedLeaf m y) h in
        h ∙ ap (λ n. Some (NumberedLeaf n y)) k ∙ ap (λ z. Some (NumberedLeaf u z)) (same_Some y x e)
    go (Some (NumberedNode m l r)) h e = absurd (none-some x e)

-- the number of a variable's leaf stands at the position of its literals
pub leaf_number : (t : Numbered) → IsNumbered t → (u x : ℕ) → variable_at t u ≡ Some x →
    (p : ℕ) × (slice_get (numbers t) p ≡ Some u) × (leaf_position (plain_tree t) 0 x ≡ Some p)
leaf_number t v u x e =
    let s = NumberedLeaf u x in
    let h : PartAt t u s 0 = part_of_subtree t u s 0 (leaf_at t u x e) in
    let p = 0 + h.skip in
    let literal : IsCanonical (plain_tree t) 0 (Literal p x true) =
    canonical_lifts h.part (Literal p x true) (canonical_literal true) in
    (p, part_number t u s h, literal_position (leaves (plain_tree t)) (vtree_apart (plain_tree t) v.vtree) literal)

-- a code of a literal shows it, which is canonical
pub literal_node : (t : Numbered) (at : Lookup) (x p : ℕ) (s : Bool) → leaf_position (plain_tree t) 0 x ≡ Some p →
    ShowsCanonical t at (literal_code x s) (Literal p x s)
literal_node t at x p s e = record { shows = (refl, e); canonical = literal_canonical (plain_tree t) 0 x p s e }

-- negation

-- the negation of a literal
pub literal_negated : (p x : ℕ) (s : Bool) (a : List Bool) →
    meaning (Literal p x (not s)) a ≡ not (meaning (Literal p x s) a)
literal_negated p x true a = refl
literal_negated p x false a = go (value_in a x)
  where
    go : (b : Bool) → b ≡ not (not b)
    go true = refl
    go false = refl

-- the code of the negation of a code below 2,050: 0 and 1, and 2x and 2x + 1, are exchanged
abbrev pub negated_code : ℕ → ℕ
negated_code c = c + 1 - 2 * (c % 2)

-- the code of a literal's negation
negated_literal : (x : ℕ) (s : Bool) → negated_code (literal_code x s) ≡ literal_code x (not s)
negated_literal x true = omega arith
negated_literal x false = omega arith

-- the node of the negation of a constant or a literal
pub negated_node : (t : Numbered) (at : Lookup) → IsNumbered t → (c : ℕ) (d : Diagram) → ShowsCanonical t at c d
    → c < 2050 →
    (z : Diagram) × ShowsCanonical t at (negated_code c) z × ((a : List Bool) → meaning z a ≡ not (meaning d a))
negated_node t at v c Bottom h lt =
    let e : c ≡ 0 = h.shows in
    (Top, record { shows = ap negated_code e; canonical = canonical_top }, λ a. refl)
negated_node t at v c Top h lt =
    let e : c ≡ 1 = h.shows in
    (Bottom, record { shows = ap negated_code e; canonical = canonical_bottom }, λ a. refl)
negated_node t at v c (Literal p x s) h lt = (
  Literal p x (not s),
  record {
    shows = (ap negated_code h.shows.0 ∙ negated_literal x s, h.shows.1);
    canonical = literal_canonical (plain_tree t) 0 x p (not s) h.shows.1;
  },
  literal_negated p x s,
)
negated_node t at v c (Decomposition p es) h lt = absurd (omega (arith, node_range t at c p es h.shows))

-- a code from 2 to 2,049 shows a literal
pub literal_of_code : (t : Numbered) (at : Lookup) → IsNumbered t → (c : ℕ) (d : Diagram) → Shows t at c d → 2 ≤ c →
    c < 2050 → (p : ℕ) × (s : Bool) × (d ≡ Literal p (c / 2) s) × (leaf_position (plain_tree t) 0 (c / 2) ≡ Some p)
literal_of_code t at v c Bottom h low high = absurd (omega arith)
literal_of_code t at v c Top h low high = absurd (omega arith)
literal_of_code t at v c (Literal p x s) h low high =
    let e : x ≡ c / 2 = go x s h.0 in
    (p, s, ap (λ y. Literal p y s) e, ap (leaf_position (plain_tree t) 0) (sym e) ∙ h.1)
  where
    go : (x : ℕ) (s : Bool) → c ≡ literal_code x s → x ≡ c / 2
    go x true e = omega arith
    go x false e = omega arith
literal_of_code t at v c (Decomposition p es) h low high = absurd (omega (arith, node_range t at c p es h))
