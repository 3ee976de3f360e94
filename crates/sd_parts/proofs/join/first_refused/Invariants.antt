-- Before the answer none was refused.
use Rattle.std.proofs.Common.{◌≡◌, drop}
use Rattle.sd_parts.specs.Work.{first_refusal}
use Rattle.sd_parts.proofs.join.first_refused.Given as goal

abbrev pub invariant-loop-answer : goal.invariant-loop-answer
invariant-loop-answer l = first_refusal l.answers ≡ first_refusal (drop l.answer-index l.answers)
