use Rattle.std.proofs.Common.{◌++◌, take, rules, ◌∙◌}
use Rattle.sd_base.proofs.FileLemmas.{front_more, appended_more}
use Rattle.sd_base.proofs.write_whole.write_all_to.Goals as goal

pub loop-rest-preserved : goal.loop-rest-preserved
loop-rest-preserved g c =
    let was = c.loop-rest.invariant.0 in (
      (
        was.0 ++ take c.in-Ok.count c.loop-rest.rest.now,
        front_more was.0 c.loop-rest.rest.now _ c.in-Ok.count was.1,
        appended_more _ _ _ _ _ _ _ c.loop-rest.invariant.1 was.2 c.in-Ok.ensures.ok.1,
      ),
      search rules,
      c.in-Ok.ensures.cause.answered ∙ c.loop-rest.invariant.2,
      search rules,
      search rules,
      λ before had. c.in-Ok.ensures.asked _ (c.loop-rest.invariant.5 before had),
    )
