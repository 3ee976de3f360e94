use Rattle.std.proofs.Common.{refl, ap, ◌∙◌}
use Rattle.sd_model.specs.Diagram.{meaning}
use Rattle.sd_model.specs.Expression.{expression_value}
use Rattle.sd_commands.specs.Commands.{formula_named, value_line}
use Rattle.sd_commands.proofs.Values.{evaluated}
use Rattle.sd_commands.proofs.Stepping.{printed}
use Rattle.sd_commands.proofs.effects.print_value.Goals as goal

pub returns : goal.returns
returns c = λ input seen was.
    let value = expression_value (formula_named seen c.args.name) c.args.bits.now in
    printed input seen _ c.args.state.now c.in_ok-line.line (value_line value) was refl
    (c.in_ok-line.ensures
    ∙ ap value_line (evaluated c.args.state.now.manager _ (formula_named seen c.args.name) c.args.bits.now _
    c.requires.values (c.root.ensures.value seen was)
    (λ d holds. c.in_ok-value.ensures.value d holds ∙ ap (meaning d) c.as_slice.ensures)))
