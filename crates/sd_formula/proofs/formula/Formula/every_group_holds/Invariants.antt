use Rattle.std.proofs.Common.{◌≡◌, drop}
use Rattle.std.specs.List.{list_all}
use Rattle.sd_model.specs.Expression.{group_holds}
use Rattle.sd_formula.proofs.formula.Formula.every_group_holds.Given as goal

-- each group so far holds
abbrev pub invariant-loop-index : goal.invariant-loop-index
invariant-loop-index l =
    list_all (group_holds l.assignment) (drop l.index l.self.groups)
    ≡ list_all (group_holds l.assignment) l.self.groups
