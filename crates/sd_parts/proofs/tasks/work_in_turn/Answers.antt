-- One answer more.
use Rattle.std.proofs.Common.{rules, ◌≡◌, ◌++◌, ◌∷◌, []}
use Rattle.std.proofs.lemmas.Slice.Zip.{all_zipped_more}
use Rattle.sd_parts.proofs.tasks.work_in_turn.Goals as goal

pub loop-task-preserved : goal.loop-task-preserved
loop-task-preserved g c =
    let more = all_zipped_more g.T.Task.answers _ _ c.in-Some.task c.work.result c.loop-task.invariant c.work.ensures
    in
    let items : c.push.new.self.items ≡ c.loop-task.answers.items ++ c.work.result ∷ [] = search rules in
    rw items more
