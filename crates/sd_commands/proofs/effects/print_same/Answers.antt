use Rattle.std.proofs.Common.{refl}
use Rattle.sd_commands.specs.Commands.{formula_named, same_line}
use Rattle.sd_commands.proofs.Values.{compared}
use Rattle.sd_commands.proofs.Stepping.{printed}
use Rattle.sd_commands.proofs.effects.print_same.Goals as goal

pub returns : goal.returns
returns c = λ input seen was.
    printed input seen _ c.args.state.now c.in_ok-line.line (same_line c.same-same.result) was (
      c.same-same.result,
      compared c.args.state.now.manager seen.tree _ _ (formula_named seen c.args.a) (formula_named seen c.args.b) _
          was.tree
          (c.root.ensures.value seen was) (c.root-2.ensures.value seen was) c.same-same.ensures.functions,
      refl,
    ) c.in_ok-line.ensures
