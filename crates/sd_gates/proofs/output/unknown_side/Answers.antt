-- A side without a node stands before what both sides stand before.
use Rattle.sd_gates.proofs.output.unknown_side.Goals as goal

pub returns-in-Some-clause-before : goal.returns-in-Some-clause-before
returns-in-Some-clause-before c = λ o count first second. c.in-Some.ensures.before o count first

pub returns-in-None-clause-before : goal.returns-in-None-clause-before
returns-in-None-clause-before c = λ o count first second. c.unknown_gate-in-None.ensures.before o count second
