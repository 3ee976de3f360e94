use Rattle.std.proofs.Common.{◌≡◌, ◌-◌, ◌+◌, ◌∙◌, ap, sym, subst, IfOk, arith}
use Rattle.sd_model.specs.Seen.{tree_of}
use Rattle.sd_model.specs.Tree.{Node, Leaf}
use Rattle.sd_model.specs.StartTrees.{tree_by}
use Rattle.sd_vtree.proofs.Starting.{all_but_one, tree_small, tree_step}
use Rattle.sd_vtree.proofs.starts.+left_over.Goals as goal

pub returns : goal.returns
returns t c =
    let n = c.args.count in
    let last : n ≡ 1 + (n - 1) = omega arith in
    let right = ap Leaf last ∙ sym (tree_small (λ m. m - 1) (n - (n - 1)) (1 + (n - 1)) (n - (n - 1)) (omega arith)) in
    let e = ap (λ l. Node l (Leaf n)) c.in_ok-left.ensures
    ∙ (ap (λ r. Node (tree_by (λ m. m - 1) (n - 1) 1 (n - 1)) r) right
    ∙ tree_step (λ m. m - 1) all_but_one 1 n c.if-count-lt2.false) in
    subst (λ y. IfOk c.node_over.result (λ t'. tree_of t' ≡ y)) e c.node_over.ensures
