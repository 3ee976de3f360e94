use Rattle.std.proofs.Common.{inr}
use Rattle.std.proofs.lemmas.Result.{IfErr-weaker, on_ok_weaker, on_err_weaker}
use Rattle.sd_manager.specs.Making.{without_root}
use Rattle.sd_sweep.proofs.NeverFalling.{never_both}
use Rattle.sd_compile.specs.Compiling.{IsGroupRefused}
use Rattle.sd_compile.proofs.Kept.{all_may, others_may, prefix_may, refused_swept}
use Rattle.sd_compile.proofs.compiling.add_group.Goals as goal

pub returns-clause-ok : goal.returns-clause-ok
returns-clause-ok c =
    on_ok_weaker c.join_next-answer.result
    (λ h. prefix_may c.join_next-answer.new.m c.sweep_kept.new.m c.args.f.now c.join_next-answer.new.work h
    (inr c.sweep_kept.ensures.swept)) c.join_next-answer.ensures.ok

pub returns-clause-err : goal.returns-clause-err
returns-clause-err c =
    let others = without_root c.args.m.now c.args.work.now.root in
    let groups = c.args.work.now.groups in
    IfErr-weaker c.join_next-answer.result
    (λ e. IsGroupRefused others c.join_next-answer.new.m c.args.f.now c.args.limit groups e)
    (λ e. IsGroupRefused others c.sweep_kept.new.m c.args.f.now c.args.limit groups e)
    (λ e h. refused_swept others c.join_next-answer.new.m c.sweep_kept.new.m c.args.f.now c.args.limit groups e h
    c.sweep_kept.ensures.swept) c.join_next-answer.ensures.err

pub returns-clause-all_kept : goal.returns-clause-all_kept
returns-clause-all_kept c =
    on_err_weaker c.join_next-answer.result
    (λ k. all_may c.args.m.now c.join_next-answer.new.m c.sweep_kept.new.m k (inr c.sweep_kept.ensures.swept))
    c.join_next-answer.ensures.all_kept

pub returns-clause-kept : goal.returns-clause-kept
returns-clause-kept c =
    others_may c.args.m.now c.join_next-answer.new.m c.sweep_kept.new.m c.args.work.now.root
    c.join_next-answer.ensures.kept (inr c.sweep_kept.ensures.swept)

pub returns-clause-never_falls : goal.returns-clause-never_falls
returns-clause-never_falls c =
    never_both c.args.m.now c.join_next-answer.new.m c.sweep_kept.new.m c.join_next-answer.ensures.never_falls
    c.sweep_kept.ensures.never_falls
