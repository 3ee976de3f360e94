use Rattle.std.proofs.Common.{◌≡◌, ◌∙◌, ap, subst, IfOk}
use Rattle.sd_model.specs.Seen.{tree_of}
use Rattle.sd_model.specs.Tree.{Node, Leaf}
use Rattle.sd_vtree.proofs.Starting.{one, tree_step}
use Rattle.sd_vtree.proofs.starts.+right_over.Goals as goal

pub returns : goal.returns
returns t c =
    let e = ap (λ r. Node (Leaf c.args.first) r) c.in_ok-right.ensures
    ∙ tree_step (λ m. 1) one c.args.first c.args.count c.if-count-lt2.false in
    subst (λ y. IfOk c.node_over.result (λ t'. tree_of t' ≡ y)) e c.node_over.ensures
