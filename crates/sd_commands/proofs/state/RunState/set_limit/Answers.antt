use Rattle.std.proofs.Common.{refl}
use Rattle.sd_commands.proofs.Limits.{total_within, total_passes}
use Rattle.sd_commands.proofs.state.RunState.set_limit.Goals as goal

pub returns-in-Some-clause-refused : goal.returns-in-Some-clause-refused
returns-in-Some-clause-refused c = λ seen was. (
  refl,
  total_passes c.args.self.now seen c.total_is_of_formulas.ensures.table.numbered was c.args.limit c.in-Some.size
      c.total_is_of_formulas.ensures.total c.in-Some.ensures.some.0 c.in-Some.ensures.some.1,
  refl,
)

pub returns-clause-within : goal.returns-clause-within
returns-clause-within c = λ seen was.
    total_within c.args.self.now seen c.total_is_of_formulas.ensures.table.numbered was c.args.limit
    c.total_is_of_formulas.ensures.within c.in_default.ensures.none
