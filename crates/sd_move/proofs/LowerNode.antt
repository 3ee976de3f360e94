-- The lower node of a rotation: where it stands, and what may be detached there.
use Rattle.std.proofs.Common.{◌≡◌, ◌≢◌, ◌⊎◌, inl, inr, ℕ, List, Some}
use Rattle.std.proofs.Common.{refl, sym, ◌∙◌, ap, subst, arith}
use Rattle.std.specs.FinMap.{get}
use Rattle.std.proofs.lemmas.Option.{none-some, same_Some}
use Rattle.sd_model.specs.declared.trees.Move.{Move}
use Rattle.sd_model.specs.declared.trees.Move.TheVariants.{RotateLeft, RotateRight, Swap}
use Rattle.sd_vtree.specs.Numbered.{Numbered, NumberedNode, number_of, numbers, subtree, IsNumbered, IsUnder}
use Rattle.sd_vtree.specs.NumberedMoves.{moved_number}
use Rattle.sd_vtree.proofs.Subtrees.{AtMostOnce, once_numbered, subtree_once, number_of_in, left_apart, right_apart}
use Rattle.sd_vtree.proofs.Times.{times_node}
use Rattle.sd_vtree.proofs.Under.{over_either}
use Rattle.sd_laws.specs.Turned.{lower_of, AreRotated}
use Rattle.sd_laws.specs.Values.{Valuation, IsPlaced}
use Rattle.sd_laws.proofs.Turning.{turned_right, turned_left, lower_rotated}
use Rattle.sd_laws.proofs.Placing.{right_lower, left_lower}
use Rattle.sd_laws.proofs.GoneBack.{between}
use Rattle.sd_laws.proofs.Evaluated.{value_of}
use Rattle.sd_manager.specs.Table.{Table}
use Rattle.sd_manager.specs.Valid.{IsTable, IsSettled}
use Rattle.sd_manager.specs.Moving.{moving_at, IsCleared}
use Rattle.sd_manager.specs.Places.{IsLinkedAt}
use Rattle.sd_manager.proofs.DetachedFrom.{under_apart}
use Rattle.sd_move.specs.Moving.{no_progress, HasBegun, IsNew}
use Rattle.sd_move.specs.Steps.{CanDetachFirst, IsClearAbove, AreDetached, IsChildNode, HasDetachedBoth}
use Rattle.sd_move.proofs.TurnedMove.{times_cons}

-- the root of the left subtree is a child
pub left_child : (t : Numbered) → AtMostOnce t → (x : ℕ) (l r : Numbered) → subtree t x ≡ Some (NumberedNode x l r) →
    IsChildNode t x (number_of l)
left_child t once x l r at =
    let o : AtMostOnce (NumberedNode x l r) = subtree_once t x (NumberedNode x l r) once at in
    let i = number_of_in l in
    record {
      left = l;
      right = r;
      at = at;
      child = inl refl;
      under = record {
        part = NumberedNode x l r;
        is = at;
        has = omega (arith, i, times_node (number_of l) x (numbers l) (numbers r));
      };
      apart = (left_apart x l r o (number_of l) i).0;
    }

-- and so is that of the right one
pub right_child : (t : Numbered) → AtMostOnce t → (x : ℕ) (l r : Numbered) → subtree t x ≡ Some (NumberedNode x l r) →
    IsChildNode t x (number_of r)
right_child t once x l r at =
    let o : AtMostOnce (NumberedNode x l r) = subtree_once t x (NumberedNode x l r) once at in
    let i = number_of_in r in
    record {
      left = l;
      right = r;
      at = at;
      child = inr refl;
      under = record {
        part = NumberedNode x l r;
        is = at;
        has = omega (
          arith,
          i,
          times_node (number_of r) x (numbers l) (numbers r),
          times_cons (number_of r) x (numbers r),
        );
      };
      apart = (right_apart x l r o (number_of r) i).0;
    }

-- The lower node is a child, and each list that is placed there is placed at the upper node afterwards.
pub record IsLowerNode (t u : Numbered) (x w : ℕ) : Type 0 where
  pub child : IsChildNode t x w
  pub placed : (v : Valuation) (l : List (ℕ × ℕ)) → IsPlaced t v w l → IsPlaced u v x l

pub lower_node : (t u : Numbered) (kind : Move) (x w : ℕ) → IsNumbered t → moved_number kind t x ≡ Some u →
    lower_of kind t x ≡ Some w → IsLowerNode t u x w
lower_node t u RotateRight x w num is lower =
    let r = turned_right t u x num is in
    let h : AreRotated t u x r.0 = r.1 in
    let same : r.0 ≡ w = same_Some r.0 w (sym (lower_rotated t u x r.0 h).0 ∙ lower) in
    subst (IsLowerNode t u x) same
    (record {
      child = left_child t (once_numbered t num) x (NumberedNode r.0 h.a h.b) h.c h.first_upper;
      placed = λ v l p. right_lower t u x r.0 v l h p;
    })
lower_node t u RotateLeft x w num is lower =
    let r = turned_left t u x num is in
    let h : AreRotated u t x r.0 = r.1 in
    let same : r.0 ≡ w = same_Some r.0 w (sym (lower_rotated u t x r.0 h).1 ∙ lower) in
    subst (IsLowerNode t u x) same
    (record {
      child = right_child t (once_numbered t num) x h.a (NumberedNode r.0 h.b h.c) h.second_upper;
      placed = λ v l p. left_lower t u x r.0 v l h p;
    })
lower_node t u Swap x w num is lower = absurd (none-some w lower)

-- what may be detached there

module _ (m : Table) (x w : ℕ) (num : IsNumbered m.vtree) (c : IsChildNode m.vtree x w) (moving : m.moving ≡ Some x)
    (none : (n : ℕ) → ¬ IsLinkedAt m x n) where
  -- each node that is linked strictly above the child is above the moved node
  pub clear_above_child : IsClearAbove m w
  clear_above_child n k e under other settled = elim (settled x moving) [
    | inl z ↦ at_upper (sym z)
    | inr apart ↦ elim (over_either m.vtree (once_numbered m.vtree num) w x k.0 c.under under) [
      | inl below ↦ apart below
      | inr over ↦ between m.vtree (once_numbered m.vtree num) x w k.0 c.left c.right c.at c.child over at_upper under
          other
    ]
  ]
    where
      at_upper : k.0 ≢ x
      at_upper z = none n (record { list = k.1; is = e ∙ ap (λ p. Some (p, k.1)) z })

  -- and the child is settled
  child_settled : IsSettled m w
  child_settled y e =
      let same : x ≡ y = same_Some x y (sym moving ∙ e) in
      subst (λ z. (z ≡ w) ⊎ (¬ IsUnder m.vtree z w)) same
      (inr (λ under. under_apart m.vtree (once_numbered m.vtree num) x w under c.under c.apart))

-- the nodes at the child may be detached, once those at the node are
pub then_can_detach : (old m : Table) (x w : ℕ) (upper : List ℕ) → IsTable m → IsChildNode m.vtree x w →
    AreDetached (moving_at old x) m x upper → HasBegun old m x → ((n : ℕ) → ¬ IsLinkedAt m x n) →
    CanDetachFirst old m x no_progress (value_of (get old.linked)) w
then_can_detach old m x w upper t c d g none =
    record {
      may = record {
        going = g;
        above = clear_above_child m x w t.numbered c g.moving none;
        early = λ a b. absurd (cc (a));
        old = λ a n at. not_new n at;
      };
      there = refl;
      settled = child_settled m x w t.numbered c g.moving none;
    }
  where
    not_new : (n : ℕ) → IsLinkedAt m w n → ¬ IsNew old no_progress n
    not_new n at (inl absent) = none-some (w, at.list) (sym absent ∙ d.still n (w, at.list) at.is)
    not_new n at (inr member) = member

-- what is detached there leaves the upper node without linked ones
pub still_none : (m new : Table) (x w : ℕ) (lower : List ℕ) → AreDetached m new w lower →
    ((n : ℕ) → ¬ IsLinkedAt m x n) → (n : ℕ) → ¬ IsLinkedAt new x n
still_none m new x w lower d none n at =
    none n (record { list = at.list; is = d.still n (x, at.list) at.is })

-- both nodes are cleared
pub both_cleared : (old m : Table) (kind : Move) (x w : ℕ) (upper lower : List ℕ) →
    HasDetachedBoth old m x w upper lower → lower_of kind m.vtree x ≡ Some w → IsCleared m kind x
both_cleared old m kind x w upper lower d is n k e = (
  λ z. d.none_upper n (record { list = k.1; is = e ∙ ap (λ p. Some (p, k.1)) z }),
  λ z.
      let same : k.0 ≡ w = same_Some k.0 w (z ∙ is) in
      d.none_lower n (record { list = k.1; is = e ∙ ap (λ p. Some (p, k.1)) same }),
)
