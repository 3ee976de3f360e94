use Rattle.std.proofs.Common.{◌∙◌, ◌<◌, IfSome, subst, sym, length}
use Rattle.sd_vtree.specs.Numbered.{numbers}
use Rattle.sd_vtree.proofs.Reading.{kept_as, at_within}
use Rattle.sd_vtree.proofs.vtree.Vtree.at_position.Goals as goal

pub returns-clause-node : goal.returns-clause-node
returns-clause-node c =
    let kept = kept_as c.self.invariant.0 c.self.view_is in
    subst (λ o. IfSome o (λ n. n < length (numbers c.args.self.now))) (sym c.copied.ensures)
    (at_within c.args.self.now kept.valid c.deref.result.now (c.deref.ensures.value
    ∙ kept.ordered) c.args.position c.get.result
    c.get.ensures.lookup.0 c.get.ensures.lookup.1)
