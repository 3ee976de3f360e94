-- A whole rotation: when it can be made, and what it asks.
use Rattle.std.proofs.Common.{◌≡◌, ℕ, ◌<◌, List, Option, Some, None, option_and_then, length}
use Rattle.std.proofs.Common.{refl, sym, ◌∙◌, ap, subst}
use Rattle.std.specs.Option.{IsSome, option_map}
use Rattle.std.proofs.lemmas.Option.{none-some, same_Some}
use Rattle.sd_model.specs.declared.trees.Move.{Move}
use Rattle.sd_vtree.specs.Numbered.{Numbered, NumberedLeaf, NumberedNode, subtree, child_numbers, children_at, numbers}
use Rattle.sd_vtree.specs.Numbered.{IsNumbered}
use Rattle.sd_vtree.specs.NumberedMoves.{moved_number}
use Rattle.sd_vtree.proofs.Movable.{right_not_movable, left_not_movable}
use Rattle.sd_vtree.proofs.Put.{put}
use Rattle.sd_vtree.proofs.Subtrees.{inner_part, once_numbered}
use Rattle.sd_laws.specs.Turned.{lower_of}
use Rattle.sd_manager.specs.Table.{Table}
use Rattle.sd_manager.specs.Valid.{IsTable}
use Rattle.sd_model.specs.declared.trees.Side.{Side}
use Rattle.sd_model.specs.declared.trees.Side.TheVariants.{Left, Right}
use Rattle.sd_move.specs.Moves.{IsMovable}
use Rattle.sd_move.specs.OnTheWay.{IsLowerFound}
use Rattle.sd_move.specs.Sorting.{on, rotation_of, CanRotate}
use Rattle.sd_move.specs.Steps.{IsChildNode, HasDetachedBoth}
use Rattle.sd_move.proofs.LowerNode.{lower_node}

-- the lower node is the child on the side
pub lower_is_on : (side : Side) (t : Numbered) (x : ℕ) →
    lower_of (rotation_of side) t x ≡ option_map (on side) (children_at t x)
lower_is_on Left t x = refl
lower_is_on Right t x = refl

-- a rotation cannot be made where the child on the side is a leaf
pub not_rotated : (side : Side) (t : Numbered) (x w : ℕ) → IsNumbered t →
    option_map (on side) (children_at t x) ≡ Some w → None ≡ children_at t w →
    moved_number (rotation_of side) t x ≡ None
not_rotated side t x w num is leaf = go side (children_at t x) refl is
  where
    go : (s : Side) (o : Option (ℕ × ℕ)) → children_at t x ≡ o → option_map (on s) o ≡ Some w →
        moved_number (rotation_of s) t x ≡ None
    go s None e f = absurd (none-some w f)
    go Left (Some p) e f =
        right_not_movable x num (sym e) (subst (λ k. None ≡ children_at t k) (sym (same_Some p.0 w f)) leaf)
    go Right (Some p) e f =
        left_not_movable x num (sym e) (subst (λ k. None ≡ children_at t k) (sym (same_Some p.1 w f)) leaf)

-- it can where that is an inner node
pub rotated_there : (side : Side) (t : Table) (x w : ℕ) → IsNumbered t.vtree →
    option_map (on side) (children_at t.vtree x) ≡ Some w → IsSome (children_at t.vtree w) →
    IsMovable t (rotation_of side) x
rotated_there side t x w num is some = go side (children_at t.vtree x) refl is
  where
    by_left : (l r : Numbered) → subtree t.vtree x ≡ Some (NumberedNode x l r) → IsSome (child_numbers l) →
        IsMovable t (rotation_of Left) x
    by_left (NumberedLeaf m y) r at s = absurd (cc (s))
    by_left (NumberedNode k a b) r at s =
        let p =
        put (rotation_of Left) t.vtree x (NumberedNode x (NumberedNode k a b) r) (NumberedNode x a (NumberedNode k b r))
        (once_numbered t.vtree num) at refl refl in
        (p.result, p.is)

    by_right : (l r : Numbered) → subtree t.vtree x ≡ Some (NumberedNode x l r) → IsSome (child_numbers r) →
        IsMovable t (rotation_of Right) x
    by_right l (NumberedLeaf m y) at s = absurd (cc (s))
    by_right l (NumberedNode k a b) at s =
        let p =
        put (rotation_of Right) t.vtree x (NumberedNode x l (NumberedNode k a b))
        (NumberedNode x (NumberedNode k l a) b) (once_numbered t.vtree num) at refl refl in
        (p.result, p.is)

    go : (s : Side) (o : Option (ℕ × ℕ)) → children_at t.vtree x ≡ o → option_map (on s) o ≡ Some w →
        IsMovable t (rotation_of s) x
    go s None e f = absurd (none-some w f)
    go Left (Some p) e f =
        let i = inner_part t.vtree num x p.0 p.1 (sym e) in
        by_left i.left i.right i.is
        (subst IsSome (ap (option_and_then child_numbers) i.left_is)
        (subst (λ k. IsSome (children_at t.vtree k)) (sym (same_Some p.0 w f)) some))
    go Right (Some p) e f =
        let i = inner_part t.vtree num x p.0 p.1 (sym e) in
        by_right i.left i.right i.is
        (subst IsSome (ap (option_and_then child_numbers) i.right_is)
        (subst (λ k. IsSome (children_at t.vtree k)) (sym (same_Some p.1 w f)) some))

-- the child is a node
pub child_within : (side : Side) (t : Numbered) (x w : ℕ) → IsNumbered t →
    option_map (on side) (children_at t x) ≡ Some w → w < length (numbers t)
child_within side t x w num is = go side (children_at t x) refl is
  where
    go : (s : Side) (o : Option (ℕ × ℕ)) → children_at t x ≡ o → option_map (on s) o ≡ Some w →
        w < length (numbers t)
    go s None e f = absurd (none-some w f)
    go Left (Some p) e f =
        subst (λ k. k < length (numbers t)) (same_Some p.0 w f) (inner_part t num x p.0 p.1 (sym e)).left_within
    go Right (Some p) e f =
        subst (λ k. k < length (numbers t)) (same_Some p.1 w f) (inner_part t num x p.0 p.1 (sym e)).right_within

-- there is a child on the side of an inner node
pub child_there : (side : Side) (t : Numbered) (x : ℕ) → IsSome (children_at t x) →
    IsSome (option_map (on side) (children_at t x))
child_there side t x some = go (children_at t x) some
  where
    go : (o : Option (ℕ × ℕ)) → IsSome o → IsSome (option_map (on side) o)
    go None s = absurd (cc (s))
    go (Some p) s = refl

-- the lower node of a rotation that can be made is a child
pub lower_child : (t : Table) (kind : Move) (x w : ℕ) → IsNumbered t.vtree → IsLowerFound t kind x (Some w) →
    IsChildNode t.vtree x w
lower_child t kind x w num f = (lower_node t.vtree f.0.0 kind x w num f.0.1 f.1).child

-- once the nodes of both are detached it can be rotated
pub can_rotate : (old m : Table) (side : Side) (x w : ℕ) (upper lower : List ℕ) → IsTable old → old.moving ≡ None →
    (f : IsLowerFound old (rotation_of side) x (Some w)) → HasDetachedBoth old m x w upper lower →
    CanRotate old m side x w upper lower f.0.0
can_rotate old m side x w upper lower first still f d =
    let tree : m.vtree ≡ old.vtree =
    ap (λ (t : Table). t.vtree) d.second.same ∙ ap (λ (t : Table). t.vtree) d.first.same in
    record {
      first = first;
      no_move = still;
      detached = d;
      below = ap (λ t. lower_of (rotation_of side) t x) tree ∙ f.1;
      turned = ap (λ t. moved_number (rotation_of side) t x) tree ∙ f.0.1;
    }

-- a table with the same vtree has the same lower node
pub lower_same : (old new : Table) (kind : Move) (x w : ℕ) → new.vtree ≡ old.vtree → IsLowerFound old kind x (Some w) →
    IsLowerFound new kind x (Some w)
lower_same old new kind x w same f = (
  (f.0.0, ap (λ t. moved_number kind t x) same ∙ f.0.1),
  ap (λ t. lower_of kind t x) same ∙ f.1,
)
