use Rattle.sd_model.specs.Expression.{Constant}
use Rattle.sd_commands.specs.Commands.{with_name}
use Rattle.sd_commands.proofs.Values.{constant_value}
use Rattle.sd_commands.specs.declared.command.RunCommand.TheVariants as commands
use Rattle.sd_commands.proofs.Stepping.{settled_steps, settled_stops}
use Rattle.sd_commands.proofs.bind.bind_constant.Goals as goal

pub bind-requires-clause-shown : goal.bind-requires-clause-shown
bind-requires-clause-shown c = (Constant c.args.value, constant_value _ _ _ c.constant-node.ensures.shown)

pub returns-clause-done : goal.returns-clause-done
returns-clause-done c = λ input seen was.
    settled_steps input seen (with_name seen c.args.name (Constant c.args.value)) _ _ _ (λ outcome h. h)
    (c.bind.ensures.done seen (Constant c.args.value) was (constant_value _ _ _ c.constant-node.ensures.shown))

pub returns-clause-stops : goal.returns-clause-stops
returns-clause-stops c = λ input seen was.
    settled_stops input seen (with_name seen c.args.name (Constant c.args.value))
    (commands.Constant c.args.name c.args.value) c.bind.new.state.manager _ (λ outcome h. h)
    (c.bind.ensures.stops seen (Constant c.args.value) was (constant_value _ _ _ c.constant-node.ensures.shown))
