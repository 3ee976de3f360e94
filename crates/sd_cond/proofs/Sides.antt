-- On which side of a vtree node the leaf of a variable stands.
use Rattle.std.proofs.Common.{◌≡◌, ◌⊎◌, ℕ, ◌+◌, ◌≤◌, ◌<◌, Bool, true, false, not, Option, Some, None}
use Rattle.std.proofs.Common.{inl, inr, [], ◌∷◌, ◌++◌, slice_get, refl, sym, ◌∙◌, ap, subst, arith}
use Rattle.std.proofs.Common.{option_and_then, length, length-append}
use Rattle.std.proofs.Common.{nat_lt, nat_eq}
use Rattle.std.proofs.lemmas.Bool.{cases_eq, cases_lt}
use Rattle.std.proofs.lemmas.Bool.Decides.{nat_tests}
use Rattle.std.proofs.lemmas.Option.{same_Some, none-some}
use Rattle.sd_model.specs.Tree.{leaves}
use Rattle.sd_model.specs.Diagram.{Literal}
use Rattle.sd_model.specs.Canonical.{IsCanonical}
use Rattle.sd_model.proofs.Blend.{occurs}
use Rattle.sd_model.proofs.OverVtree.{vtree_apart}
use Rattle.sd_vtree.specs.Numbered.{Numbered, NumberedLeaf, NumberedNode, plain_tree, numbers, subtree, number_of}
use Rattle.sd_vtree.specs.Numbered.{leaf_variable, child_numbers, variable_at, IsNumbered, IsUnder}
use Rattle.sd_vtree.proofs.Subtrees.{inner_part}
use Rattle.sd_vtree.proofs.Under.{under_left, under_right, place_left, place_right, under_part}
use Rattle.sd_vtree.proofs.Under.{under_itself, under_within}
use Rattle.sd_vtree.proofs.Subtrees.{subtree_in, subtree_times, subtree_trans, subtree_some, subtree_number}
use Rattle.sd_vtree.proofs.Subtrees.{subtree_split, once_numbered, Way, Here, Left, Right, way}
use Rattle.sd_vtree.proofs.Times.{times_other}
use Rattle.sd_laws.proofs.Leaves.{leaf_number}
use Rattle.sd_laws.proofs.Numbers.{part_of_subtree, literal_canonical, literal_position}
use Rattle.sd_apply.specs.Places.{plain, tree_at, HasPlace, IsThere, HasChildren}
use Rattle.sd_apply.proofs.Trees.{below_canonical, stands_under}
use Rattle.sd_cond.specs.Calls.{Tells}
use Rattle.sd_cond.proofs.Changing.{occurring_leaf}

-- a variable whose leaf does not stand below a vtree node does not occur there
pub not_below : (t : Numbered) → IsNumbered t → (v leaf x : ℕ) → IsThere t v →
    variable_at t leaf ≡ Some x → ¬ IsUnder t leaf v → occurs (tree_at t v) x ≡ false
not_below t n v leaf x there e apart = go (occurs (tree_at t v) x) refl
  where
    go : (c : Bool) → occurs (tree_at t v) x ≡ c → c ≡ false
    go false o = refl
    go true o =
        let part = part_of_subtree t v there.part 0 there.is in
        let same : tree_at t v ≡ plain_tree there.part = ap plain there.is in
        let s = plain_tree there.part in
        let found = occurring_leaf s (0 + part.skip) x (subst (λ r. occurs r x ≡ true) same o) in
        let local : IsCanonical s (0 + part.skip) (Literal found.0 x true) =
        literal_canonical s (0 + part.skip) x found.0 true found.1 in
        let under = below_canonical t v s (0 + part.skip) (Literal found.0 x true) same part.part
        local in
        let whole = literal_position (leaves (plain_tree t)) (vtree_apart (plain_tree t) n.vtree)
        under.canonical in
        let l = leaf_number t n leaf x e in
        let one : l.0 ≡ found.0 = same_Some l.0 found.0 (sym l.2 ∙ whole) in
        let place : HasPlace t leaf (Literal found.0 x true) = record {
          position = found.0;
          stands = refl;
          number = subst (λ p. slice_get (numbers t) p ≡ Some leaf) one l.1;
        } in
        absurd (apart (stands_under t n v leaf (Literal found.0 x true) there under place))

-- a leaf has no children
no_inner : (t : Numbered) (n x u w : ℕ) → variable_at t n ≡ Some x → HasChildren t n u w → ⊥
no_inner t n x u w e h = go (subtree t n) e h
  where
    go : (o : Option Numbered) → option_and_then leaf_variable o ≡ Some x →
        Some (u, w) ≡ option_and_then child_numbers o → ⊥
    go None e h = none-some x e
    go (Some (NumberedLeaf m y)) e h = none-some (u, w) (sym h)
    go (Some (NumberedNode m l r)) e h = none-some x e

-- a leaf before a vtree node stands below the left child alone
left_side : (t : Numbered) → IsNumbered t → (p u w leaf pl pp : ℕ) → HasChildren t p u w →
    slice_get (numbers t) pl ≡ Some leaf → slice_get (numbers t) pp ≡ Some p → pl < pp →
    IsUnder t leaf p → IsUnder t leaf u × (¬ IsUnder t leaf w)
left_side t v p u w leaf pl pp e f g lt h =
    let part = inner_part t v p u w e in (
      under_left t v p u w part leaf pl pp f g lt h,
      λ j. omega (
        arith,
        lt,
        place_right t v p u w part leaf pl pp (under_part t leaf w part.right
            part.right_is j) f g,
      ),
    )

-- and one behind it below the right child alone
right_side : (t : Numbered) → IsNumbered t → (p u w leaf pl pp : ℕ) → HasChildren t p u w →
    slice_get (numbers t) pl ≡ Some leaf → slice_get (numbers t) pp ≡ Some p → pp < pl →
    IsUnder t leaf p → IsUnder t leaf w × (¬ IsUnder t leaf u)
right_side t v p u w leaf pl pp e f g lt h =
    let part = inner_part t v p u w e in (
      under_right t v p u w part leaf pl pp f g lt h,
      λ j. omega (
        arith,
        lt,
        place_left t v p u w part leaf pl pp (under_part t leaf u part.left
            part.left_is j) f g,
      ),
    )

-- what a position that is not before tells
behind : (t : Numbered) (p u w leaf x pl pp : ℕ) → HasChildren t p u w →
    variable_at t leaf ≡ Some x → slice_get (numbers t) pl ≡ Some leaf →
    slice_get (numbers t) pp ≡ Some p → pp ≤ pl → pp < pl
behind t p u w leaf x pl pp e h f g le = elim (cases_lt pp pl) [
  | inl lt ↦ lt
  | inr ge ↦
      let one : pl ≡ pp = omega (arith, le, ge) in
      let same : leaf ≡ p = same_Some leaf p (sym f ∙ ap (slice_get (numbers t)) one ∙ g) in
      absurd (no_inner t p x u w (subst (λ n. variable_at t n ≡ Some x) same h) e)
]

-- which side the positions tell
pub tells_sides : (t : Numbered) → IsNumbered t → (p u w leaf x pl pp : ℕ) (here : Bool) →
    HasChildren t p u w → variable_at t leaf ≡ Some x → slice_get (numbers t) pl ≡ Some leaf →
    slice_get (numbers t) pp ≡ Some p → (here ≡ true → pl < pp) → (here ≡ false → pp ≤ pl) →
    IsUnder t leaf p → Tells t leaf u here × Tells t leaf w (not here)
tells_sides t v p u w leaf x pl pp true e k f g before after h =
    let s = left_side t v p u w leaf pl pp e f g (before refl) h in (
      record { over = λ z. s.0; apart = λ z. absurd (cc z) },
      record { over = λ z. absurd (cc z); apart = λ z. s.1 },
    )
tells_sides t v p u w leaf x pl pp false e k f g before after h =
    let s = right_side t v p u w leaf pl pp e f g (behind t p u w leaf x pl pp e k f g (after refl)) h in (
      record { over = λ z. absurd (cc z); apart = λ z. s.1 },
      record { over = λ z. s.0; apart = λ z. absurd (cc z) },
    )

-- the same by the test of the positions
pub tells_before : (t : Numbered) → IsNumbered t → (p u w leaf x pl pp : ℕ) → HasChildren t p u w →
    variable_at t leaf ≡ Some x → slice_get (numbers t) pl ≡ Some leaf →
    slice_get (numbers t) pp ≡ Some p → IsUnder t leaf p →
    Tells t leaf u (nat_lt pl pp) × Tells t leaf w (not (nat_lt pl pp))
tells_before t v p u w leaf x pl pp e k f g h =
    tells_sides t v p u w leaf x pl pp (nat_lt pl pp) e k f g (λ z. grind (arith, nat_tests, z))
    (λ z. grind (arith, nat_tests, z)) h

-- a vtree node that something stands below is one of the vtree's
pub under_has : (t : Numbered) → IsNumbered t → (a n : ℕ) → IsUnder t a n → n < length (numbers t)
under_has t v a n h =
    under_within t v n n (under_itself t n (subtree_in t n h.part h.is))

-- a subtree is the tree itself, or smaller
subtree_smaller : (s : Numbered) (q : ℕ) (r : Numbered) → subtree s q ≡ Some r →
    (number_of s ≡ q) ⊎ (length (numbers r) < length (numbers s))
subtree_smaller (NumberedLeaf m x) q r e = elim (cases_eq m q) [
  | inl h ↦ inl h
  | inr d ↦ absurd (omega (arith, times_other q m [] d, subtree_in (NumberedLeaf m x) q r e))
]
subtree_smaller (NumberedNode m a b) q r e = go (way m a b q r e)
  where
    within : (t : Numbered) → subtree t q ≡ Some r → length (numbers r) ≤ length (numbers t)
    within t h =
        let k = subtree_split t q r h in
        omega (
          arith,
          ap length k.is,
          length-append k.front (numbers r ++ k.back),
          length-append (numbers r) k.back,
        )

    go : Way m a b q r → (m ≡ q) ⊎ (length (numbers r) < length (numbers a ++ m ∷ numbers b))
    go (Here h g) = inl h
    go (Left d h) = inr (omega (
      arith,
      within a h,
      length-append (numbers a) (m ∷ numbers b),
    ))
    go (Right d c h) = inr (omega (
      arith,
      within b h,
      length-append (numbers a) (m ∷ numbers b),
    ))

-- two nodes that stand under each other are one
under_equal : (t : Numbered) → IsNumbered t → (q p : ℕ) → IsUnder t q p → IsUnder t p q → q ≡ p
under_equal t v q p h k =
    let o = once_numbered t v in
    let r = subtree_some h.part q h.has in
    let s = subtree_some k.part p k.has in
    let er = subtree_trans t o p h.part h.is q r.0 r.1 in
    let es = subtree_trans t o q k.part k.is p s.0 s.1 in
    let one : r.0 ≡ k.part = same_Some r.0 k.part (sym er ∙ k.is) in
    let two : s.0 ≡ h.part = same_Some s.0 h.part (sym es ∙ h.is) in
    let np = subtree_number t p h.part h.is in
    let nq = subtree_number t q k.part k.is in
    elim (subtree_smaller h.part q k.part (r.1 ∙ ap Some one)) [
      | inl e ↦ sym e ∙ np
      | inr a ↦ elim (subtree_smaller k.part p h.part (s.1 ∙ ap Some two)) [
        | inl e ↦ sym nq ∙ e
        | inr b ↦ absurd (omega (arith, a, b))
      ]
    ]

-- what is lowest in a vtree is so in an equal one
pub lowest_before : (s t : Numbered) → s ≡ t → (p leaf q : ℕ) →
    ((n : ℕ) → IsUnder s p n → IsUnder s leaf n → IsUnder s q n) →
    (n : ℕ) → IsUnder t p n → IsUnder t leaf n → IsUnder t q n
lowest_before s t e p leaf q h = λ n a b.
    subst (λ r. IsUnder r q n) e
    (h n (subst (λ r. IsUnder r p n) (sym e) a) (subst (λ r. IsUnder r leaf n) (sym e) b))

-- a leaf stands below a vtree node just where that is the lowest node over both
pub tells_over : (t : Numbered) → IsNumbered t → (p leaf q qi pi : ℕ) → qi ≡ q → pi ≡ p →
    IsUnder t p q → IsUnder t leaf q →
    ((n : ℕ) → IsUnder t p n → IsUnder t leaf n → IsUnder t q n) → Tells t leaf p (nat_eq qi pi)
tells_over t v p leaf q qi pi eq ep h k lowest = record {
  over = λ z.
      let same : q ≡ p = sym eq ∙ grind (arith, nat_tests, z) ∙ ep in
      subst (λ n. IsUnder t leaf n) same k;
  apart = λ z j.
      let here = under_itself t p (omega (arith, h.has, subtree_times t q h.part h.is p)) in
      let same : q ≡ p = under_equal t v q p (lowest p here j) h in
      absurd (grind (arith, nat_tests, z, eq ∙ same ∙ sym ep));
}
