-- The plain tree of a vtree, node by node.
use Rattle.std.proofs.Common.{◌≡◌, ℕ, ◌≤◌, Option, None, Some, Result, Ok, Err, IfOk, IsSome, refl, sym, ◌∙◌, ap}
use Rattle.std.proofs.Common.{option_map, option_and_then}
use Rattle.std.proofs.lemmas.Option.{none-some, same_Some}
use Rattle.sd_model.specs.Tree.{Tree, Leaf, Node}
use Rattle.sd_vtree.specs.Numbered.{Numbered, NumberedLeaf, NumberedNode, number_of, numbers}
use Rattle.sd_vtree.specs.Numbered.{plain_tree, subtree, times}
use Rattle.sd_vtree.specs.Numbered.{child_numbers, leaf_variable, children_at, variable_at}
use Rattle.sd_vtree.proofs.Subtrees.{InnerPart, subtree_some}

-- a node without children is a leaf
pub has_variable_at : (t : Numbered) (n : ℕ) → 1 ≤ times n (numbers t) → None ≡ children_at t n →
    IsSome (variable_at t n)
has_variable_at t n h e = go (subtree t n) refl e
  where
    some : (o : Option Numbered) → subtree t n ≡ o → None ≡ option_and_then child_numbers o → (s : Numbered) →
        subtree t n ≡ Some s → IsSome (option_and_then leaf_variable o)
    some None f g s k = absurd (none-some s (sym f ∙ k))
    some (Some (NumberedLeaf m x)) f g s k = refl
    some (Some (NumberedNode m l r)) f g s k = absurd (none-some (number_of l, number_of r) g)

    go : (o : Option Numbered) → subtree t n ≡ o → None ≡ option_and_then child_numbers o →
        IsSome (option_and_then leaf_variable o)
    go o f g = let s = subtree_some t n h in some o f g s.0 s.1

-- the plain tree of a leaf
pub leaf_forgotten : (t : Numbered) (n x : ℕ) → Some x ≡ variable_at t n →
    Some (Leaf x) ≡ option_map plain_tree (subtree t n)
leaf_forgotten t n x e = go (subtree t n) e
  where
    go : (o : Option Numbered) → Some x ≡ option_and_then leaf_variable o → Some (Leaf x) ≡ option_map plain_tree o
    go None g = absurd (none-some x (sym g))
    go (Some (NumberedLeaf m y)) g = ap (λ k. Some (Leaf k)) (same_Some x y g)
    go (Some (NumberedNode m l r)) g = absurd (none-some x (sym g))

-- the plain tree of an internal node
pub node_forgotten : (t : Numbered) (n a b : ℕ) → InnerPart t n a b → (x y : Tree) →
    Some x ≡ option_map plain_tree (subtree t a) → Some y ≡ option_map plain_tree (subtree t b) →
    Some (Node x y) ≡ option_map plain_tree (subtree t n)
node_forgotten t n a b p x y e f =
    let l : x ≡ plain_tree p.left = same_Some x (plain_tree p.left) (e ∙ ap (option_map plain_tree) p.left_is) in
    let r : y ≡ plain_tree p.right = same_Some y (plain_tree p.right) (f ∙ ap (option_map plain_tree) p.right_is) in
    ap (λ k. Some (Node k y)) l ∙ (ap (λ k. Some (Node (plain_tree p.left) k)) r
    ∙ sym (ap (option_map plain_tree) p.is))

-- what an Ok holds, under Some
pub ok_some : {T E : Type 0} (r : Result T E) (f : T → Tree) (u : Tree) (o : Option Tree) → IfOk r (λ t. f t ≡ u) →
    Some u ≡ o → IfOk r (λ t. Some (f t) ≡ o)
ok_some (Ok t) f u o h e = ap Some h ∙ e
ok_some (Err x) f u o h e = tt
