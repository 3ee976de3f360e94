use Rattle.std.proofs.Common.{sym, subst, ◌∙◌}
use Rattle.sd_model.specs.Expression.{Negated}
use Rattle.sd_commands.proofs.Values.{negated_value, value_node}
use Rattle.sd_commands.specs.Commands.{with_name, formula_named}
use Rattle.sd_commands.specs.Standing.{StopsAt}
use Rattle.sd_commands.specs.declared.command.RunCommand.TheVariants as commands
use Rattle.sd_commands.proofs.Standing.{stands_on, as_before_on, as_before_then}
use Rattle.sd_commands.proofs.Stepping.{settled_steps, settled_stops, operation_stops}
use Rattle.sd_commands.proofs.bind.bind_negation.Goals as goal

pub bind-requires-clause-represents : goal.bind-requires-clause-represents
bind-requires-clause-represents c = (
  c.requires.represents.0,
  stands_on c.args.state.now _ _ _ c.requires.represents.1 c.in-Ok.ensures.kept c.in-Ok.ensures.serves,
)

pub bind-requires-clause-shown : goal.bind-requires-clause-shown
bind-requires-clause-shown c = (
  Negated (formula_named c.requires.represents.0 c.args.a),
  negated_value c.args.state.now.manager _ _ _ _ c.in-Ok.ensures.kept
      (c.node-positive.ensures c.requires.represents.0 c.requires.represents.1) c.in-Ok.ensures.ok,
)

pub returns-in-Ok-clause-done : goal.returns-in-Ok-clause-done
returns-in-Ok-clause-done c = λ input seen was.
    let f = Negated (formula_named seen c.args.a) in
    settled_steps input seen (with_name seen c.args.name f) _ _ _ (λ outcome h. h)
    (c.bind.ensures.done seen f
    (stands_on c.args.state.now _ _ seen was c.in-Ok.ensures.kept c.in-Ok.ensures.serves)
    (negated_value c.args.state.now.manager _ _ _ _ c.in-Ok.ensures.kept (c.node-positive.ensures seen was)
    c.in-Ok.ensures.ok))

pub returns-in-Ok-clause-stops : goal.returns-in-Ok-clause-stops
returns-in-Ok-clause-stops c = λ input seen was.
    let f = Negated (formula_named seen c.args.a) in
    settled_stops input seen (with_name seen c.args.name f)
    (commands.Negate c.args.name c.args.a) c.bind.new.state.manager _ (λ outcome h. h)
    (c.bind.ensures.stops seen f
    (stands_on c.args.state.now _ _ seen was c.in-Ok.ensures.kept c.in-Ok.ensures.serves)
    (negated_value c.args.state.now.manager _ _ _ _ c.in-Ok.ensures.kept (c.node-positive.ensures seen was)
    c.in-Ok.ensures.ok))

pub returns-in-Err-clause-stops : goal.returns-in-Err-clause-stops
returns-in-Err-clause-stops c = λ input seen was.
    let command = commands.Negate c.args.name c.args.a in
    subst (λ e. StopsAt input seen command c.negate.new.m e) (sym c.operation_error.ensures)
    (operation_stops input seen command c.negate.new.m c.in-Err.e tt (c.in-Err.ensures.kept.bound ∙ was.bound)
    c.in-Err.ensures.rule)

pub negate-requires-clause-node : goal.negate-requires-clause-node
negate-requires-clause-node c =
    value_node _ _ _ (c.node-positive.ensures c.requires.represents.0 c.requires.represents.1)

pub returns-in-Ok-clause-err : goal.returns-in-Ok-clause-err
returns-in-Ok-clause-err c =
    as_before_then c.bind.result c.args.state.now _ _ _ c.in-Ok.ensures.kept c.in-Ok.ensures.serves c.bind.ensures.err

pub returns-in-Err-clause-err : goal.returns-in-Err-clause-err
returns-in-Err-clause-err c = as_before_on c.args.state.now _ _ c.in-Err.ensures.kept c.in-Err.ensures.serves
