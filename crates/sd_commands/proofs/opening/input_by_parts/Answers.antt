-- Where the answers are not joined, the manager of the part that was refused is handed back.
use Rattle.std.proofs.Common.{length, subst}
use Rattle.sd_parts.specs.Work.{first_refusal}
use Rattle.sd_commands.specs.Joining.{IsJoinStopped}
use Rattle.sd_commands.specs.declared.command.RunCommand.TheVariants.{InputByParts}
use Rattle.sd_commands.proofs.ByParts.{by_parts_stops}
use Rattle.sd_commands.proofs.opening.input_by_parts.Goals as goal

pub returns-in-Err-bind_joined-clause-stops : goal.returns-in-Err-bind_joined-clause-stops
returns-in-Err-bind_joined-clause-stops g c = λ seen was.
    let still = c.forget_gates.ensures.represents seen was in
    by_parts_stops c.args.input.now c.forget_gates.new.self seen c.args.name _ c.bind_joined.new.state.manager
    c.in-Err-bind_joined.error c.in-Ok.answers.items c.refusing_manager.result still c.in-Ok.ensures.answers
    c.in-Ok.ensures.count c.refusing_manager.ensures
    (subst (λ l. IsJoinStopped c.args.input.now seen (InputByParts c.args.name (length l)) (first_refusal l)
    c.bind_joined.new.state.manager c.in-Err-bind_joined.error) c.deref.ensures.value
    (c.in-Err-bind_joined.ensures.stops seen still))
