-- A start tree over the variables 1 to v is a vtree with v leaves.
use Rattle.std.proofs.Common.{◌≡◌, ℕ, zero, suc, ◌-◌, ◌/◌, ◌≤◌, Result, Ok, Err, IfOk, refl, ap, ◌∙◌, arith}
use Rattle.std.specs.declared.alloc.AllocError.{AllocError}
use Rattle.sd_model.specs.Tree.{IsVtree, leaves}
use Rattle.sd_model.specs.StartTrees.{balanced_tree, right_tree, left_tree}
use Rattle.sd_vtree.specs.Numbered.{Numbered, plain_tree}
use Rattle.sd_vtree.proofs.Starting.{vtree_in_order, variables_start, half, one, all_but_one}
use Rattle.sd_starts.specs.Starts.{tree_of_start}
use Rattle.sd_starts.specs.declared.start.Start.{Start}
use Rattle.sd_starts.specs.declared.start.Start.TheVariants.{Balanced, Right, Left}

-- a start tree is a vtree, with one leaf where there is no variable
pub start_vtree : (start : Start) (v : ℕ) → IsVtree (tree_of_start start v)
start_vtree Balanced zero = (vtree_in_order (balanced_tree 0) 1 refl).0
start_vtree Balanced (suc v) =
    (vtree_in_order (balanced_tree (suc v)) (suc v) (variables_start (λ m. m / 2) half (suc v) (omega arith))).0
start_vtree Right zero = (vtree_in_order (right_tree 0) 1 refl).0
start_vtree Right (suc v) =
    (vtree_in_order (right_tree (suc v)) (suc v) (variables_start (λ m. 1) one (suc v) (omega arith))).0
start_vtree Left zero = (vtree_in_order (left_tree 0) 1 refl).0
start_vtree Left (suc v) =
    (vtree_in_order (left_tree (suc v)) (suc v) (variables_start (λ m. m - 1) all_but_one (suc v) (omega arith))).0

-- with a leaf for each variable
pub start_leaves : (start : Start) (v : ℕ) → 1 ≤ v → leaves (tree_of_start start v) ≡ v
start_leaves Balanced v some =
    (vtree_in_order (balanced_tree v) v (variables_start (λ m. m / 2) half v some)).1
start_leaves Right v some =
    (vtree_in_order (right_tree v) v (variables_start (λ m. 1) one v some)).1
start_leaves Left v some =
    (vtree_in_order (left_tree v) v (variables_start (λ m. m - 1) all_but_one v some)).1

-- so has what was made of it
pub leaves_made : (start : Start) (v : ℕ) (made : Result Numbered AllocError) → 1 ≤ v
    → IfOk made (λ t. plain_tree t ≡ tree_of_start start v) → IfOk made (λ t. leaves (plain_tree t) ≡ v)
leaves_made start v (Ok t) some is = ap leaves is ∙ start_leaves start v some
leaves_made start v (Err e) some is = tt
