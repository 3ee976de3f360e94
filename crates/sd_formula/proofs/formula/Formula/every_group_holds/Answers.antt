use Rattle.std.proofs.Common.{◌∙◌}
use Rattle.sd_model.specs.Expression.{group_holds}
use Rattle.sd_formula.proofs.GroupLaws.{all_behind}
use Rattle.sd_formula.proofs.formula.Formula.every_group_holds.Goals as goal

pub loop-index-preserved : goal.loop-index-preserved
loop-index-preserved c =
    all_behind (group_holds c.args.assignment.now) c.args.self.now.groups c.loop-index.index
    c.if-not-group_holds.ensures ∙ c.loop-index.invariant
