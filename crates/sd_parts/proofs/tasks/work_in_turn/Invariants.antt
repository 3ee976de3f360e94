-- The answers so far are those of the tasks so far.
use Rattle.std.specs.List.{AllZip}
use Rattle.sd_parts.proofs.tasks.work_in_turn.Given as goal

abbrev pub invariant-loop-task : goal.invariant-loop-task
invariant-loop-task g l = AllZip g.T.Task.answers l.yielded l.answers.items
