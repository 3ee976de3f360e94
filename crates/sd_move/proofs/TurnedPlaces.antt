-- What a move of the vtree at a node does to the places: to the two that it turns, and to the others.
use Rattle.std.proofs.Common.{◌≡◌, ◌⊎◌, inl, inr, ℕ, List, Option, Some, sym, ◌∙◌, ap, subst}
use Rattle.std.proofs.lemmas.Option.{same_Some, none-some}
use Rattle.sd_model.specs.Tree.{leaves}
use Rattle.sd_model.specs.declared.trees.Move.{Move}
use Rattle.sd_model.specs.declared.trees.Move.TheVariants.{RotateLeft, RotateRight, Swap}
use Rattle.sd_model.proofs.Blend.{IsApart}
use Rattle.sd_model.proofs.OverVtree.{vtree_apart}
use Rattle.sd_vtree.specs.Numbered.{Numbered, NumberedNode, plain_tree, subtree, IsNumbered, IsUnder}
use Rattle.sd_vtree.specs.NumberedMoves.{moved_number}
use Rattle.sd_laws.specs.Turned.{lower_of, AreRotated}
use Rattle.sd_laws.specs.Values.{Valuation, IsWhole, IsPlaced}
use Rattle.sd_laws.proofs.Numbers.{PartAt, part_of_subtree}
use Rattle.sd_laws.proofs.Places.{part_apart}
use Rattle.sd_laws.proofs.Turning.{turned_right, turned_left, lower_rotated}
use Rattle.sd_laws.proofs.Placing.{placed_others}
use Rattle.sd_laws.proofs.Rewriting.{placed_once}
use Rattle.sd_move.specs.Steps.{IsChildNode}
use Rattle.sd_move.specs.GoingBack.{IsTurnedPlace}
use Rattle.sd_move.proofs.TurnedMove.{Turns, turns}
use Rattle.sd_move.proofs.LowerNode.{lower_node}

-- The two places that the move at x turns: the lower one is a child of x, and no list is placed there both before and
-- after. Each other place keeps the lists that are placed there, and what stands under x stays there.
pub record AreTurnedPlaces (t u : Numbered) (x : ℕ) (lower : Option ℕ) : Type 0 where
  pub numbered : IsNumbered u
  pub leaves_same : leaves (plain_tree u) ≡ leaves (plain_tree t)
  pub keeps : (v : Valuation) (p : ℕ) (l : List (ℕ × ℕ)) → ¬ IsTurnedPlace x lower p → IsPlaced t v p l →
      IsPlaced u v p l
  pub under : (p : ℕ) → IsUnder t p x → IsUnder u p x
  pub child : (w : ℕ) → Some w ≡ lower → IsChildNode t x w
  pub once : (w : ℕ) (v : Valuation) (l : List (ℕ × ℕ)) → Some w ≡ lower → IsWhole v l → IsPlaced t v w l →
      IsPlaced u v w l → ⊥

-- the variables of a subtree stand once in it
subtree_apart : (t s : Numbered) (p : ℕ) → IsNumbered t → subtree t p ≡ Some s →
    IsApart (leaves (plain_tree t)) (plain_tree s)
subtree_apart t s p num e =
    let h : PartAt t p s 0 = part_of_subtree t p s 0 e in
    part_apart (leaves (plain_tree t)) h.part (vtree_apart (plain_tree t) num.vtree)

-- no list is placed at the lower node of a rotation both before and after
rotated_once : (t u : Numbered) (x w : ℕ) (v : Valuation) (l : List (ℕ × ℕ)) → IsNumbered t → IsNumbered u →
    leaves (plain_tree u) ≡ leaves (plain_tree t) → AreRotated t u x w → IsWhole v l → IsPlaced t v w l →
    IsPlaced u v w l → ⊥
rotated_once t u x w v l num numu same h whole p q =
    placed_once (leaves (plain_tree u)) t u x w v l h
    (subtree_apart u (NumberedNode x h.a (NumberedNode w h.b h.c)) x numu h.second_upper)
    (subst (λ n. IsApart n (plain_tree (NumberedNode w h.a h.b))) (sym same)
    (subtree_apart t (NumberedNode w h.a h.b) w num h.first_lower))
    whole p q

-- so it is in each of the three kinds
lower_once : (t u : Numbered) (kind : Move) (x w : ℕ) (v : Valuation) (l : List (ℕ × ℕ)) → IsNumbered t →
    IsNumbered u → leaves (plain_tree u) ≡ leaves (plain_tree t) → moved_number kind t x ≡ Some u →
    lower_of kind t x ≡ Some w → IsWhole v l → IsPlaced t v w l → IsPlaced u v w l → ⊥
lower_once t u RotateRight x w v l num numu same is lower whole p q =
    let r = turned_right t u x num is in
    let one : r.0 ≡ w = same_Some r.0 w (sym (lower_rotated t u x r.0 r.1).0 ∙ lower) in
    rotated_once t u x w v l num numu same (subst (AreRotated t u x) one r.1) whole p q
lower_once t u RotateLeft x w v l num numu same is lower whole p q =
    let r = turned_left t u x num is in
    let one : r.0 ≡ w = same_Some r.0 w (sym (lower_rotated u t x r.0 r.1).1 ∙ lower) in
    rotated_once u t x w v l numu num (sym same) (subst (AreRotated u t x) one r.1) whole q p
lower_once t u Swap x w v l num numu same is lower whole p q = absurd (none-some w lower)

-- The places that a move turns.
pub turned_places : (t u : Numbered) (kind : Move) (x : ℕ) (lower : Option ℕ) → IsNumbered t →
    moved_number kind t x ≡ Some u → lower_of kind t x ≡ lower → AreTurnedPlaces t u x lower
turned_places t u kind x lower num is low =
    let r : Turns t u kind x = turns t u kind x num is in
    record {
      numbered = r.numbered;
      leaves_same = r.leaves;
      keeps = λ v p l other placed. keeps r v p l other r.lower placed;
      under = r.under;
      child = λ w e. (lower_node t u kind x w num is (low ∙ sym e)).child;
      once = λ w v l e whole p q. lower_once t u kind x w v l num r.numbered r.leaves is (low ∙ sym e) whole p q;
    }
  where
    keeps : (r : Turns t u kind x) → (v : Valuation) (p : ℕ) (l : List (ℕ × ℕ)) → ¬ IsTurnedPlace x lower p →
        (r.w ≡ x) ⊎ (lower_of kind t x ≡ Some r.w) → IsPlaced t v p l → IsPlaced u v p l
    keeps r v p l other w placed =
        placed_others t u x r.w v p l r.there (λ z. other (inl z)) (λ z. not_lower w z) placed
      where
        not_lower : (r.w ≡ x) ⊎ (lower_of kind t x ≡ Some r.w) → p ≡ r.w → ⊥
        not_lower (inl same) z = other (inl (z ∙ same))
        not_lower (inr at) z = other (inr (ap Some z ∙ sym at ∙ low))
