use Rattle.std.proofs.Common.{refl}
use Rattle.sd_commands.specs.Commands.{generated_line}
use Rattle.sd_commands.proofs.Stepping.{printed}
use Rattle.sd_commands.proofs.effects.print_generated.Goals as goal

pub returns : goal.returns
returns c = λ input seen state was.
    printed input seen _ state c.in_ok-line.line (generated_line c.args.variables c.args.groups) was refl
    c.in_ok-line.ensures
