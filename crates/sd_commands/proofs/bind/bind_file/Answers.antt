use Rattle.std.proofs.Common.{sym, subst, ◌∙◌}
use Rattle.sd_file.specs.Reads.{expression_of_file}
use Rattle.sd_commands.proofs.Values.{answer_value}
use Rattle.sd_commands.specs.Commands.{with_name}
use Rattle.sd_commands.specs.Standing.{StopsAt}
use Rattle.sd_commands.specs.declared.command.RunCommand.TheVariants as commands
use Rattle.sd_commands.proofs.Standing.{stands_on, as_before_on, as_before_then}
use Rattle.sd_commands.proofs.Stepping.{settled_steps, settled_stops, operation_stops}
use Rattle.sd_commands.proofs.bind.bind_file.Goals as goal

pub bind-requires-clause-represents : goal.bind-requires-clause-represents
bind-requires-clause-represents c = (
  c.requires.represents.0,
  stands_on c.args.state.now _ _ _ c.requires.represents.1 c.in-Ok.ensures.kept c.in-Ok.ensures.serves,
)

pub bind-requires-clause-shown : goal.bind-requires-clause-shown
bind-requires-clause-shown c = (
  expression_of_file c.args.file.now,
  answer_value _ _ _ c.in-Ok.ensures.ok,
)

pub returns-in-Ok-clause-done : goal.returns-in-Ok-clause-done
returns-in-Ok-clause-done c = λ input seen was.
    let f = expression_of_file c.args.file.now in
    settled_steps input seen (with_name seen c.args.name f) _ _ _ (λ outcome h. h)
    (c.bind.ensures.done seen f
    (stands_on c.args.state.now _ _ seen was c.in-Ok.ensures.kept c.in-Ok.ensures.serves)
    (answer_value _ _ _ c.in-Ok.ensures.ok))

pub returns-in-Ok-clause-stops : goal.returns-in-Ok-clause-stops
returns-in-Ok-clause-stops c = λ input seen was.
    let f = expression_of_file c.args.file.now in
    settled_stops input seen (with_name seen c.args.name f)
    (commands.Load c.args.name c.args.file.now) c.bind.new.state.manager _ (λ outcome h. h)
    (c.bind.ensures.stops seen f
    (stands_on c.args.state.now _ _ seen was c.in-Ok.ensures.kept c.in-Ok.ensures.serves)
    (answer_value _ _ _ c.in-Ok.ensures.ok))

pub returns-in-Err-clause-stops : goal.returns-in-Err-clause-stops
returns-in-Err-clause-stops c = λ input seen was.
    let command = commands.Load c.args.name c.args.file.now in
    subst (λ e. StopsAt input seen command c.build.new.m e) (sym c.operation_error.ensures)
    (operation_stops input seen command c.build.new.m c.in-Err.e tt (c.in-Err.ensures.kept.bound ∙ was.bound)
    c.in-Err.ensures.rule)

pub returns-in-Ok-clause-err : goal.returns-in-Ok-clause-err
returns-in-Ok-clause-err c =
    as_before_then c.bind.result c.args.state.now _ _ _ c.in-Ok.ensures.kept c.in-Ok.ensures.serves c.bind.ensures.err

pub returns-in-Err-clause-err : goal.returns-in-Err-clause-err
returns-in-Err-clause-err c = as_before_on c.args.state.now _ _ c.in-Err.ensures.kept c.in-Err.ensures.serves
