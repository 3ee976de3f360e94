-- The start trees of the three shapes are vtrees over the variables in order.
use Rattle.std.proofs.Common.{◌≡◌, ℕ, ◌-◌, ◌/◌, ◌≤◌, Result, Ok, Err, IfOk, MatchResult, ap, sym, subst, ◌∙◌}
use Rattle.std.specs.declared.alloc.AllocError.{AllocError}
use Rattle.std.specs.List.{range_with_len}
use Rattle.sd_model.specs.StartTrees.{balanced_tree, right_tree, left_tree}
use Rattle.sd_model.specs.Tree.{Tree, variables, leaves}
use Rattle.sd_vtree.specs.Numbered.{Numbered, plain_tree}
use Rattle.sd_tool.specs.declared.stop.Stop.{Stop}
use Rattle.sd_tool.specs.declared.stop.Stop.TheVariants.{OutOfMemory}
use Rattle.sd_vtree.proofs.Starting.{vtree_in_order, variables_start, half, one, all_but_one}
use Rattle.sd_vfile.proofs.Accepted.{IsVtreeOver}

in_order : (tree : Tree) (v : ℕ) → variables tree ≡ range_with_len 1 v → IsVtreeOver v tree
in_order tree v is = let both = vtree_in_order tree v is in record { vtree = both.0; count = both.1 }

pub balanced_fits : (v : ℕ) → 1 ≤ v → IsVtreeOver v (balanced_tree v)
balanced_fits v some = in_order (balanced_tree v) v (variables_start (λ m. m / 2) half v some)

pub right_fits : (v : ℕ) → 1 ≤ v → IsVtreeOver v (right_tree v)
right_fits v some = in_order (right_tree v) v (variables_start (λ m. 1) one v some)

pub left_fits : (v : ℕ) → 1 ≤ v → IsVtreeOver v (left_tree v)
left_fits v some = in_order (left_tree v) v (variables_start (λ m. m - 1) all_but_one v some)

-- ---- a start that was kept, in the code

-- so many leaves
kept_leaves : (v w : ℕ) (tree : Tree) (start : Result Numbered AllocError) (result : Result Numbered Stop)
    → IsVtreeOver v tree → v ≡ w → IfOk start (λ t. plain_tree t ≡ tree)
    → MatchResult start (λ t. result ≡ Ok t) (λ _. result ≡ Err OutOfMemory)
    → IfOk result (λ t. leaves (plain_tree t) ≡ w)
kept_leaves v w tree (Ok t) result over same is kept =
    subst (λ r. IfOk r (λ t. leaves (plain_tree t) ≡ w)) (sym kept) (ap leaves is ∙ over.count ∙ same)
kept_leaves v w tree (Err e) result over same is kept =
    subst (λ r. IfOk r (λ t. leaves (plain_tree t) ≡ w)) (sym kept) tt

pub balanced_leaves : (v w : ℕ) (start : Result Numbered AllocError) (result : Result Numbered Stop)
    → 1 ≤ v → v ≡ w → IfOk start (λ t. plain_tree t ≡ balanced_tree v)
    → MatchResult start (λ t. result ≡ Ok t) (λ _. result ≡ Err OutOfMemory)
    → IfOk result (λ t. leaves (plain_tree t) ≡ w)
balanced_leaves v w start result some same is kept =
    kept_leaves v w (balanced_tree v) start result (balanced_fits v some) same is kept

pub right_leaves : (v w : ℕ) (start : Result Numbered AllocError) (result : Result Numbered Stop)
    → 1 ≤ v → v ≡ w → IfOk start (λ t. plain_tree t ≡ right_tree v)
    → MatchResult start (λ t. result ≡ Ok t) (λ _. result ≡ Err OutOfMemory)
    → IfOk result (λ t. leaves (plain_tree t) ≡ w)
right_leaves v w start result some same is kept =
    kept_leaves v w (right_tree v) start result (right_fits v some) same is kept

pub left_leaves : (v w : ℕ) (start : Result Numbered AllocError) (result : Result Numbered Stop)
    → 1 ≤ v → v ≡ w → IfOk start (λ t. plain_tree t ≡ left_tree v)
    → MatchResult start (λ t. result ≡ Ok t) (λ _. result ≡ Err OutOfMemory)
    → IfOk result (λ t. leaves (plain_tree t) ≡ w)
left_leaves v w start result some same is kept =
    kept_leaves v w (left_tree v) start result (left_fits v some) same is kept
