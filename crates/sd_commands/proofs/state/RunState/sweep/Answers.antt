use Rattle.std.proofs.Common.{refl, ap, arith}
use Rattle.std.specs.FinMap.{len}
use Rattle.sd_gates.proofs.Shared.{shares_may}
use Rattle.sd_commands.proofs.Standing.{stands_swept}
use Rattle.sd_commands.proofs.state.RunState.sweep.Goals as goal

pub returns-clause-represents : goal.returns-clause-represents
returns-clause-represents c = λ seen was.
    stands_swept c.args.self.now _ _ _ c.args.self.now.shared seen was c.sweep_past.ensures.kept
    c.sweep_past.ensures.serves c.sweep_past.ensures.unmarked refl
    (shares_may c.args.self.now.shared.circuit c.args.self.now.shared.gates c.args.self.now.manager
    c.sweep_past.new.m (omega arith)
    c.sweep_past.ensures.swept was.shares)

pub returns-clause-roots : goal.returns-clause-roots
returns-clause-roots c = ap len c.sweep_past.ensures.kept.reached.roots
