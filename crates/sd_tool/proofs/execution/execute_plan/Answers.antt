use Rattle.sd_tool.specs.PlanViews.{plan_of}
use Rattle.sd_tool.proofs.SegmentLemmas.{carried_all, carried_halt}
use Rattle.sd_tool.proofs.execution.execute_plan.Goals as goal

pub returns-in-Ok-clause-goes : goal.returns-in-Ok-clause-goes
returns-in-Ok-clause-goes g c =
    carried_all (plan_of c.args.plan) c.execute_all.new.state c.args.kept.now _ _ _ _ c.requires.none
    c.in-Ok.ensures.goes

pub returns-clause-goes : goal.returns-clause-goes
returns-clause-goes g c =
    carried_halt (plan_of c.args.plan) c.execute_all.new.state c.in-Err.halt c.keep.new.kept c.args.kept.now
    c.keep.result _ _ _ _ c.requires.none c.keep.ensures.stop c.keep.ensures.kept c.in-Err.ensures.goes
