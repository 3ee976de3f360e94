use Rattle.std.proofs.Common.{refl, sym, subst}
use Rattle.sd_commands.specs.Commands.{size_line}
use Rattle.sd_commands.specs.Standing.{Represents}
use Rattle.sd_commands.proofs.Stepping.{printed}
use Rattle.sd_commands.proofs.effects.print_size.Goals as goal

pub returns-clause-done : goal.returns-clause-done
returns-clause-done c = λ input seen was.
    let still = subst (λ code. Represents code seen) (sym c.size-size.ensures.same) was in
    printed input seen _ c.size-size.new.self c.in_ok-line.line (size_line c.size-size.result) still
    (c.size-size.result, c.size-size.ensures.size seen was, refl) c.in_ok-line.ensures
