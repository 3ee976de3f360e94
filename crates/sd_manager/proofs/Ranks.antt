-- Outside a move the nodes in the list of a node have higher ranks: their places have smaller subtrees.
use Rattle.std.proofs.Common.{◌≡◌, ◌≢◌, inl, inr, ℕ, ◌+◌, ◌-◌, ◌≤◌, ◌<◌, List, [], ◌∷◌, length, Option}
use Rattle.std.proofs.Common.{Some, None, unwrap_or, refl, sym, ◌∙◌, ap, subst, arith, length-append, eq-eqb, ne_eqb}
use Rattle.std.proofs.Common.{if◌then◌else◌}
use Rattle.std.specs.Option.{option_map}
use Rattle.std.specs.FinMap.{get, get-empty}
use Rattle.std.specs.Ordering.{nat_cmp}
use Rattle.std.proofs.lemmas.Bool.{cases_eq}
use Rattle.std.proofs.lemmas.Option.{same_Some, none-some}
use Rattle.sd_vtree.specs.Numbered.{Numbered, NumberedLeaf, NumberedNode, number_of, numbers, subtree, IsUnder, or_else}
use Rattle.sd_vtree.proofs.Subtrees.{AtMostOnce, once_numbered, Here, Left, Right, way, subtree_some, subtree_trans}
use Rattle.sd_vtree.proofs.Subtrees.{subtree_number}
use Rattle.sd_laws.specs.Values.{StandsIn}
use Rattle.sd_manager.specs.Table.{Table, key_at, uses_in}
use Rattle.sd_manager.specs.Shown.{HasNode, AreThere}
use Rattle.sd_manager.specs.Total.{list_of}
use Rattle.sd_manager.specs.Valid.{IsTable}
use Rattle.sd_manager.proofs.AtRest.{below_user}
use Rattle.sd_manager.proofs.Holding.{some_value}
use Rattle.sd_manager.proofs.Reading.{linked_key, node_of_code}
use Rattle.sd_manager.proofs.Standing.{uses_stand}

-- how large subtrees are

-- a subtree of a leaf is the leaf
leaf_length : (m x n : ℕ) (z : Numbered) → subtree (NumberedLeaf m x) n ≡ Some z → length (numbers z) ≤ 1
leaf_length m x n z e = elim (cases_eq m n) [
  | inl h ↦
      let k : NumberedLeaf m x ≡ z =
      same_Some (NumberedLeaf m x) z (sym (ap (λ b. if b then Some (NumberedLeaf m x) else None) (eq-eqb m n h)) ∙ e) in
      subst (λ s. length (numbers s) ≤ 1) k (omega arith)
  | inr d ↦ absurd (none-some z (sym (ap (λ b. if b then Some (NumberedLeaf m x) else None) (ne_eqb m n d)) ∙ e))
]

-- a subtree is no larger than the tree
pub subtree_length : (t z : Numbered) (n : ℕ) → subtree t n ≡ Some z → length (numbers z) ≤ length (numbers t)
subtree_length (NumberedLeaf m x) z n e = leaf_length m x n z e
subtree_length (NumberedNode m l r) z n e = elim (way m l r n z e) [
  | Here h f ↦ subst (λ s. length (numbers s) ≤ length (numbers (NumberedNode m l r))) f (omega arith)
  | Left d f ↦ omega (arith, subtree_length l z n f, length-append (numbers l) (m ∷ numbers r))
  | Right d k f ↦ omega (arith, subtree_length r z n f, length-append (numbers l) (m ∷ numbers r))
]

-- and one that is not the whole is smaller
subtree_shorter : (t z : Numbered) (n : ℕ) → subtree t n ≡ Some z → n ≢ number_of t →
    length (numbers z) < length (numbers t)
subtree_shorter (NumberedLeaf m x) z n e d = elim (cases_eq m n) [
  | inl h ↦ absurd (d (sym h))
  | inr h ↦ absurd (none-some z (sym (ap (λ b. if b then Some (NumberedLeaf m x) else None) (ne_eqb m n h)) ∙ e))
]
subtree_shorter (NumberedNode m l r) z n e d = elim (way m l r n z e) [
  | Here h f ↦ absurd (d (sym h))
  | Left k f ↦ omega (arith, subtree_length l z n f, length-append (numbers l) (m ∷ numbers r))
  | Right k i f ↦ omega (arith, subtree_length r z n f, length-append (numbers l) (m ∷ numbers r))
]

-- what stands strictly under a node has a smaller subtree
pub under_shorter : (t : Numbered) → AtMostOnce t → (q p : ℕ) (u : IsUnder t q p) → p ≢ q →
    (z : Numbered) × (subtree t q ≡ Some z) × (length (numbers z) < length (numbers u.part))
under_shorter t once q p u d =
    let z = subtree_some u.part q u.has in (
      z.0,
      subtree_trans t once p u.part u.is q z.0 z.1,
      subtree_shorter u.part z.0 q z.1 (λ e. d (sym (subtree_number t p u.part u.is) ∙ sym e)),
    )

-- ranks

-- how large the subtree at a place is
abbrev part_size : Option Numbered → ℕ
part_size None = 0
part_size (Some z) = length (numbers z)

-- how large the subtree at the place of a key is
abbrev place_size : Table → Option (ℕ × List (ℕ × ℕ)) → ℕ
place_size t None = 0
place_size t (Some k) = part_size (subtree t.vtree k.0)

-- how many nodes of the vtree do not stand under the place of a node
abbrev pub rank_of : Table → ℕ → ℕ
rank_of t n = length (numbers t.vtree) - place_size t (get t.linked n)

-- a code that stands in a list of codes that are there is there
stands_there : (t : Table) (c : ℕ) (l : List (ℕ × ℕ)) → AreThere t l → StandsIn c l → HasNode t c
stands_there t c [] h s = absurd s
stands_there t c (e ∷ l) h (inl same) = subst (HasNode t) same h.0.0
stands_there t c (e ∷ l) h (inr (inl same)) = subst (HasNode t) same h.0.1
stands_there t c (e ∷ l) h (inr (inr s)) = stands_there t c l h.1 s

module _ (t : Table) (i : IsTable t) (still : t.moving ≡ None) where
  -- outside a move each key is that of a linked node
  linked_of : (n : ℕ) (k : ℕ × List (ℕ × ℕ)) → key_at t n ≡ Some k → get t.linked n ≡ Some k
  linked_of n k at = go (get t.linked n) refl
    where
      none : get t.detached n ≡ None
      none = ap (λ m. get m n) (i.at_rest still) ∙ get-empty nat_cmp n

      go : (o : Option (ℕ × List (ℕ × ℕ))) → get t.linked n ≡ o → get t.linked n ≡ Some k
      go None e =
          let bad : None ≡ Some k = sym (ap (λ o. or_else o (get t.detached n)) e ∙ none) ∙ at in
          absurd (none-some k bad)
      go (Some l) e = e ∙ sym (linked_key t n l e) ∙ at

  -- a node in the list of a node has a higher rank
  pub ranked : (m n : ℕ) → 0 < uses_in (2050 + n) (list_of t m) → rank_of t m < rank_of t n
  ranked m n some = go (key_at t m) refl some
    where
      list_is : Option (ℕ × List (ℕ × ℕ)) → List (ℕ × ℕ)
      list_is o = unwrap_or (option_map (λ (k : ℕ × List (ℕ × ℕ)). k.1) o) []

      with : (k l : ℕ × List (ℕ × ℕ)) → get t.linked m ≡ Some k → get t.linked n ≡ Some l → StandsIn (2050 + n) k.1 →
          rank_of t m < rank_of t n
      with k l e f stands =
          let b = below_user t i still m n k.0 l.0 k.1 l.1 e f stands in
          let y = under_shorter t.vtree (once_numbered t.vtree i.numbered) l.0 k.0 b.0 b.1 in
          let upper : place_size t (get t.linked m) ≡ length (numbers b.0.part) =
          ap (place_size t) e ∙ ap part_size b.0.is in
          let lower : place_size t (get t.linked n) ≡ length (numbers y.0) = ap (place_size t) f ∙ ap part_size y.1 in
          omega (arith, upper, lower, y.2, subtree_length t.vtree b.0.part k.0 b.0.is)

      go : (o : Option (ℕ × List (ℕ × ℕ))) → key_at t m ≡ o → 0 < uses_in (2050 + n) (list_of t m) →
          rank_of t m < rank_of t n
      go None e used =
          let none : uses_in (2050 + n) (list_of t m) ≡ 0 = ap (λ o. uses_in (2050 + n) (list_is o)) e in
          absurd (omega (arith, used, none))
      go (Some k) e used =
          let same : uses_in (2050 + n) (list_of t m) ≡ uses_in (2050 + n) k.1 =
          ap (λ o. uses_in (2050 + n) (list_is o)) e in
          let stands = uses_stand (2050 + n) k.1 (omega (arith, used, same)) in
          let there = node_of_code t i.numbered n (stands_there t (2050 + n) k.1 (i.closed m k e) stands) in
          let l = some_value (key_at t n) there in
          with k l.0 (linked_of m k e) (linked_of n l.0 l.1) stands
