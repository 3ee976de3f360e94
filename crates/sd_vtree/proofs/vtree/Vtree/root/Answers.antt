use Rattle.std.proofs.Common.{◌≤◌, ◌∙◌, sym, ap, subst}
use Rattle.sd_vtree.specs.Numbered.{number_of, numbers, times}
use Rattle.sd_vtree.proofs.Reading.{number_of_tree_in, kept_as}
use Rattle.sd_vtree.proofs.Subtrees.{node_within, number_of_in}
use Rattle.sd_vtree.proofs.vtree.Vtree.root.Goals as goal

pub returns-clause-root : goal.returns-clause-root
returns-clause-root c = sym (number_of_tree_in _ _ c.self.inside.root) ∙ ap number_of c.self.view_is

pub returns-clause-node : goal.returns-clause-node
returns-clause-node c =
    let kept = kept_as c.self.invariant.0 c.self.view_is in
    let e = sym (number_of_tree_in _ _ c.self.inside.root) ∙ ap number_of c.self.view_is in
    node_within c.args.self.now kept.valid c.self.inside.root
    (subst (λ n. 1 ≤ times n (numbers c.args.self.now)) (sym e) (number_of_in c.args.self.now))
