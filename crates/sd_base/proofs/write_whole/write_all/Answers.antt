use Rattle.std.proofs.Common.{◌++◌, take, ◌∙◌}
use Rattle.sd_base.proofs.FileLemmas.{front_more, told_then_more}
use Rattle.sd_base.proofs.write_whole.write_all.Goals as goal

pub loop-left-preserved : goal.loop-left-preserved
loop-left-preserved g c =
    let was = c.loop-left.invariant.0 in (
      (
        was.0 ++ take c.in-Ok.count c.loop-left.left.now,
        front_more was.0 c.loop-left.left.now _ c.in-Ok.count was.1,
        told_then_more _ _ _ _ _ was.2 c.in-Ok.ensures.ok,
      ),
      c.in-Ok.ensures.cause.answered ∙ c.loop-left.invariant.1,
    )
