use Rattle.std.proofs.Common.{◌≡◌, ◌/◌, ◌∙◌, ap, subst, IfOk}
use Rattle.sd_model.specs.Seen.{tree_of}
use Rattle.sd_model.specs.Tree.{Node}
use Rattle.sd_model.specs.StartTrees.{tree_by}
use Rattle.sd_vtree.proofs.Starting.{half, tree_step}
use Rattle.sd_vtree.proofs.starts.+balanced_over.Goals as goal

pub returns : goal.returns
returns t c =
    let e = ap (λ l. Node l (tree_of c.in_ok-right.right)) c.in_ok-left.ensures
    ∙ (ap (λ r. Node (tree_by (λ m. m / 2) (c.args.count / 2) c.args.first (c.args.count / 2)) r) c.in_ok-right.ensures
    ∙ tree_step (λ m. m / 2) half c.args.first c.args.count c.if-count-lt2.false) in
    subst (λ y. IfOk c.node_over.result (λ t'. tree_of t' ≡ y)) e c.node_over.ensures
