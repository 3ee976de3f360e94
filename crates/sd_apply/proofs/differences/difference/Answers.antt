use Rattle.std.proofs.Common.{◌∙◌, ap}
use Rattle.std.proofs.lemmas.Result.{IfOk-weaker}
use Rattle.sd_vtree.specs.Numbered.{number_of}
use Rattle.sd_apply.specs.Difference.{Subtracts, SubtractsAt}
use Rattle.sd_apply.proofs.Whole.{root_there, root_below}
use Rattle.sd_apply.proofs.AndNot.{subtracts}
use Rattle.sd_apply.proofs.differences.difference.Goals as goal

-- the root is there, and both operands are below it
pub subtract_cached-requires-clause-at : goal.subtract_cached-requires-clause-at
subtract_cached-requires-clause-at c =
    root_there c.args.m.now.vtree c.root-root.result (c.root-root.ensures.root
    ∙ ap number_of c.vtree.ensures.vtree)

pub subtract_cached-requires-clause-a : goal.subtract_cached-requires-clause-a
subtract_cached-requires-clause-a c =
    root_below c.args.m.now c.root-root.result c.args.a (c.root-root.ensures.root
    ∙ ap number_of c.vtree.ensures.vtree)
    c.requires.first

pub subtract_cached-requires-clause-b : goal.subtract_cached-requires-clause-b
subtract_cached-requires-clause-b c =
    root_below c.args.m.now c.root-root.result c.args.b (c.root-root.ensures.root
    ∙ ap number_of c.vtree.ensures.vtree)
    c.requires.second

pub returns-clause-ok : goal.returns-clause-ok
returns-clause-ok c =
    let old = c.args.m.now in
    let new = c.subtract_cached.new.m in
    let root = c.root-root.result in
    IfOk-weaker c.subtract_cached.result (λ r. SubtractsAt old new root c.args.a c.args.b r)
    (λ r. Subtracts old new c.args.a c.args.b r)
    (λ r h. subtracts old new c.subtract_cached.ensures.step.table root c.args.a c.args.b r
    (c.root-root.ensures.root ∙ ap number_of c.vtree.ensures.vtree) h)
    c.subtract_cached.ensures.ok
