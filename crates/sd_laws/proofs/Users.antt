-- A node that has another in its list stands strictly above it.
use Rattle.std.proofs.Common.{◌≡◌, ◌≢◌, inl, inr, ℕ, ◌+◌, ◌-◌, ◌≤◌, ◌<◌, Bool, List, [], ◌∷◌, ◌++◌, length}
use Rattle.std.proofs.Common.{Some, slice_get, refl, sym, ◌∙◌, ap, subst, arith}
use Rattle.std.specs.List.{AllByRecursion}
use Rattle.std.proofs.lemmas.Option.{same_Some}
use Rattle.sd_model.specs.Tree.{Tree, leaves, position}
use Rattle.sd_model.proofs.OverVtree.{vtree_apart}
use Rattle.sd_vtree.specs.Numbered.{Numbered, NumberedNode, number_of, plain_tree, numbers, subtree, times, IsNumbered}
use Rattle.sd_vtree.specs.Numbered.{IsUnder}
use Rattle.sd_vtree.proofs.Times.{times_node, times_slice_get, slice_get_append, slice_get_left}
use Rattle.sd_vtree.proofs.Subtrees.{AtMostOnce, once_numbered, subtree_once, subtree_trans, subtree_root, left_apart}
use Rattle.sd_vtree.proofs.Subtrees.{right_apart, number_of_in}
use Rattle.sd_vtree.proofs.Parts.{subtree_left, subtree_right}
use Rattle.sd_laws.specs.Depends.{DependsOn}
use Rattle.sd_laws.specs.Parts.{IsPart}
use Rattle.sd_laws.specs.Turned.{KeepsOthers, Stays}
use Rattle.sd_laws.specs.Values.{Valuation, IsSame, pairs_value, StandsIn, IsWhole, IsPlaced}
use Rattle.sd_laws.proofs.Numbers.{PartAt, part_of_subtree, part_number, length_numbers}
use Rattle.sd_laws.proofs.Choosing.{depends_same}
use Rattle.sd_laws.proofs.Orderly.{part_position}
use Rattle.sd_laws.proofs.ByValues.{stands_in}

-- the children of a subtree

-- the left child of a subtree is a subtree
left_subtree : (t : Numbered) → AtMostOnce t → (p : ℕ) (l r : Numbered) → subtree t p ≡ Some (NumberedNode p l r) →
    subtree t (number_of l) ≡ Some l
left_subtree t once p l r e =
    let o : AtMostOnce (NumberedNode p l r) = subtree_once t p (NumberedNode p l r) once e in
    subtree_trans t once p (NumberedNode p l r) e (number_of l) l
    (subtree_left p l r (number_of l) l (left_apart p l r o (number_of l) (number_of_in l)).0 (subtree_root l))

-- and so is the right one
right_subtree : (t : Numbered) → AtMostOnce t → (p : ℕ) (l r : Numbered) → subtree t p ≡ Some (NumberedNode p l r) →
    subtree t (number_of r) ≡ Some r
right_subtree t once p l r e =
    let o : AtMostOnce (NumberedNode p l r) = subtree_once t p (NumberedNode p l r) once e in
    let a = right_apart p l r o (number_of r) (number_of_in r) in
    subtree_trans t once p (NumberedNode p l r) e (number_of r) r
    (subtree_right p l r (number_of r) r a.0 a.1 (subtree_root r))

-- a part of a subtree has its number there
number_within : (t s z : Numbered) (u q : ℕ) → (h : PartAt t u s 0) → (k : PartAt t q z 0) → number_of z ≡ q →
    IsPart (plain_tree z) (0 + k.skip) (plain_tree s) (0 + h.skip) → 1 ≤ times q (numbers s)
number_within t s z u q h k number part =
    let r = part_position part in
    let p = position (plain_tree z) (0 + k.skip) in
    let j = p - h.skip in
    let same : p ≡ length h.front + j = omega (arith, r.0, h.starts) in
    let small : j < length (numbers s) = omega (arith, r.0, r.1, length_numbers s) in
    let at : slice_get (numbers t) p ≡ Some q = part_number t q z k ∙ ap Some number in
    let found : slice_get (numbers s) j ≡ Some q =
    sym (slice_get_left (numbers s) h.back j small)
    ∙ sym (slice_get_append h.front (numbers s ++ h.back) j)
    ∙ sym (ap (λ xs. slice_get xs (length h.front + j)) h.split)
    ∙ sym (ap (slice_get (numbers t)) same) ∙ at in
    times_slice_get (numbers s) j q found

-- a node whose function looks at a child of a place stands below the child
below_child : (t : Numbered) → IsNumbered t → (v : Valuation) (q : ℕ) (k : List (ℕ × ℕ)) → IsWhole v k →
    IsPlaced t v q k → (s : Numbered) → subtree t (number_of s) ≡ Some s → DependsOn (plain_tree s) (pairs_value v k) →
    1 ≤ times q (numbers s)
below_child t num v q k w p s e d =
    let z = NumberedNode q p.left p.right in
    let h : PartAt t (number_of s) s 0 = part_of_subtree t (number_of s) s 0 e in
    let i : PartAt t q z 0 = part_of_subtree t q z 0 p.at in
    number_within t s z (number_of s) q h i refl
    (stands_in (leaves (plain_tree t)) (plain_tree t) (plain_tree p.left) (plain_tree p.right) (plain_tree s)
    (0 + i.skip) (0 + h.skip) v k
    (vtree_apart (plain_tree t) num.vtree) i.part h.part p.primes p.subs w d)

-- what a code of a list looks at

-- the side at which a code of a list looks
data Side (f : List Bool → Bool) (left right : Tree) : Type 0 where
  OnLeft : DependsOn left f → Side f left right
  OnRight : DependsOn right f → Side f left right

-- is that of the primes or that of the subs
side_of : (v : Valuation) (left right : Tree) (c : ℕ) (l : List (ℕ × ℕ)) →
    AllByRecursion (λ (e : ℕ × ℕ). DependsOn left (v e.0)) l →
    AllByRecursion (λ (e : ℕ × ℕ). DependsOn right (v e.1)) l → StandsIn c l → Side (v c) left right
side_of v left right c [] ps ss h = absurd h
side_of v left right c (e ∷ l) ps ss (inl k) = OnLeft (subst (λ d. DependsOn left (v d)) k ps.0)
side_of v left right c (e ∷ l) ps ss (inr (inl k)) = OnRight (subst (λ d. DependsOn right (v d)) k ss.0)
side_of v left right c (e ∷ l) ps ss (inr (inr m)) = side_of v left right c l ps.1 ss.1 m

-- A node that has another one in its list stands strictly above it: the other one's function looks at one child's
-- variables alone, so it stands in that child.
pub users_above : (t : Numbered) → IsNumbered t → (v : Valuation) (n p q : ℕ) (l k : List (ℕ × ℕ)) → IsPlaced t v p l →
    IsWhole v k → IsPlaced t v q k → IsSame (v (2050 + n)) (pairs_value v k) → StandsIn (2050 + n) l →
    IsUnder t q p × (p ≢ q)
users_above t num v n p q l k hp w hq same s =
    go (side_of v (plain_tree hp.left) (plain_tree hp.right) (2050 + n) l hp.primes hp.subs s)
  where
    go : Side (v (2050 + n)) (plain_tree hp.left) (plain_tree hp.right) → IsUnder t q p × (p ≢ q)
    go (OnLeft d) =
        let o : AtMostOnce (NumberedNode p hp.left hp.right) =
        subtree_once t p (NumberedNode p hp.left hp.right) (once_numbered t num) hp.at in
        let h : 1 ≤ times q (numbers hp.left) =
        below_child t num v q k w hq hp.left (left_subtree t (once_numbered t num) p hp.left hp.right hp.at)
        (depends_same (plain_tree hp.left) (pairs_value v k) (v (2050 + n)) (λ a. sym (same a)) d) in (
          record {
            part = NumberedNode p hp.left hp.right;
            is = hp.at;
            has = omega (arith, h, times_node q p (numbers hp.left) (numbers hp.right));
          },
          (left_apart p hp.left hp.right o q h).0,
        )
    go (OnRight d) =
        let o : AtMostOnce (NumberedNode p hp.left hp.right) =
        subtree_once t p (NumberedNode p hp.left hp.right) (once_numbered t num) hp.at in
        let h : 1 ≤ times q (numbers hp.right) =
        below_child t num v q k w hq hp.right (right_subtree t (once_numbered t num) p hp.left hp.right hp.at)
        (depends_same (plain_tree hp.right) (pairs_value v k) (v (2050 + n)) (λ a. sym (same a)) d) in (
          record {
            part = NumberedNode p hp.left hp.right;
            is = hp.at;
            has = omega (
              arith,
              h,
              times_node q p (numbers hp.left) (numbers hp.right),
              times_more q p (numbers hp.right),
            );
          },
          (right_apart p hp.left hp.right o q h).0,
        )
      where
        times_more : (q p : ℕ) (xs : List ℕ) → times q xs ≤ times q (p ∷ xs)
        times_more q p xs = omega arith

-- a node stands under the same inner nodes before and after a move, but for those that it turns
pub under_turned : (t u : Numbered) (x w : ℕ) → KeepsOthers t u x w → (p : ℕ) (l r : Numbered) → p ≢ x → p ≢ w →
    subtree t p ≡ Some (NumberedNode p l r) → (k : ℕ) → IsUnder t k p → IsUnder u k p
under_turned t u x w keeps p l r dx dw at k h =
    let s : Stays u p l r = keeps p l r dx dw at in
    let same : h.part ≡ NumberedNode p l r = same_Some h.part (NumberedNode p l r) (sym h.is ∙ at) in
    let has : 1 ≤ times k (numbers (NumberedNode p l r)) = subst (λ z. 1 ≤ times k (numbers z)) same h.has in
    let number = s.same_numbers k in
    record {
      part = NumberedNode p s.new_left s.new_right;
      is = s.at;
      has = subst (λ z. 1 ≤ z) (sym number) has;
    }
