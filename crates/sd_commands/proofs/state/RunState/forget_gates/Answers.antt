use Rattle.sd_commands.proofs.Standing.{stands_shared, as_before_shared}
use Rattle.sd_commands.proofs.state.RunState.forget_gates.Goals as goal

pub returns-clause-represents : goal.returns-clause-represents
returns-clause-represents c = λ seen was.
    stands_shared c.args.self.now c.forget.new.self seen was c.forget.ensures.circuit
    (c.forget.ensures.forgotten c.args.self.now.manager)

pub returns-clause-kept : goal.returns-clause-kept
returns-clause-kept c =
    as_before_shared c.args.self.now c.forget.new.self c.forget.ensures.circuit
    (c.forget.ensures.forgotten c.args.self.now.manager)
