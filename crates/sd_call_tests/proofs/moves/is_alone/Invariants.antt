use Rattle.sd_call_tests.proofs.Steps.{IsAloneBelow}
use Rattle.sd_call_tests.proofs.moves.is_alone.Given as goal

abbrev pub invariant-loop-number : goal.invariant-loop-number
invariant-loop-number l = IsAloneBelow l.fn.state.m l.fn.place l.node l.number
