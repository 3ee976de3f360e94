use Rattle.std.proofs.Common.{inr, ◌+◌, ◌∙◌, subst, arith}
use Rattle.sd_manager.specs.Making.{without_root}
use Rattle.sd_sweep.proofs.NeverFalling.{never_both}
use Rattle.sd_compile.specs.Total.{IsWithinLimit}
use Rattle.sd_compile.specs.Compiling.{prefix_of, IsGroupRefused, KeepsOtherRoots}
use Rattle.sd_compile.proofs.Kept.{others_both, others_may, prefix_may, refused_swept}
use Rattle.sd_compile.proofs.Totals.{hold_nodes, hold_without}
use Rattle.sd_compile.proofs.Adding.{more_within, more_refused}
use Rattle.sd_compile.proofs.compiling.add_groups.Goals as goal

pub returns-in-Err-clause-err : goal.returns-in-Err-clause-err
returns-in-Err-clause-err c =
    let root = c.args.work.now.root in
    let others = without_root c.left.m root in
    more_refused (without_root c.args.m.now root) others c.vtree.ensures.table.numbered
    (hold_without c.args.m.now root (hold_nodes c.args.m.now c.vtree.ensures.table c.requires.no_move))
    c.left.invariant.kept.reached c.args.f.now c.args.limit c.args.work.now.groups c.left.work.groups
    c.left.invariant.within c.sweep_kept.new.m c.in-Err.error c.left.invariant.far
    (c.is_left.ensures.0 c.left-test.true)
    (refused_swept others c.join_next.new.m c.sweep_kept.new.m c.args.f.now c.args.limit c.left.work.groups
    c.in-Err.error
    (subst
    (λ r. IsGroupRefused (without_root c.left.m r) c.join_next.new.m c.args.f.now c.args.limit c.left.work.groups
    c.in-Err.error)
    c.left.invariant.root c.in-Err.ensures.err)
    c.sweep_kept.ensures.swept)

pub returns-in-Err-clause-kept : goal.returns-in-Err-clause-kept
returns-in-Err-clause-kept c =
    let root = c.args.work.now.root in
    others_both c.args.m.now c.left.m c.sweep_kept.new.m root c.left.invariant.kept
    (others_may c.left.m c.join_next.new.m c.sweep_kept.new.m root
    (subst (KeepsOtherRoots c.left.m c.join_next.new.m) c.left.invariant.root c.in-Err.ensures.kept)
    (inr c.sweep_kept.ensures.swept))

pub returns-in-Err-clause-never_falls : goal.returns-in-Err-clause-never_falls
returns-in-Err-clause-never_falls c =
    never_both c.args.m.now c.left.m c.sweep_kept.new.m c.left.invariant.never
    (never_both c.left.m c.join_next.new.m c.sweep_kept.new.m c.in-Err.ensures.never_falls
    c.sweep_kept.ensures.never_falls)

pub left-preserved : goal.left-preserved
left-preserved c =
    let root = c.args.work.now.root in
    record {
      first = c.left.invariant.first;
      holds =
          prefix_may c.join_next.new.m c.sweep_between.new.m c.args.f.now c.join_next.new.work c.in_default.ensures.ok
          c.sweep_between.ensures.swept;
      root = c.in_default.ensures.root ∙ c.left.invariant.root;
      far = omega (arith, c.left.invariant.far, c.in_default.ensures.next);
      within =
          more_within (without_root c.args.m.now root) (without_root c.left.m root) c.vtree.ensures.table.numbered
          (hold_without c.args.m.now root (hold_nodes c.args.m.now c.vtree.ensures.table c.requires.no_move))
          c.left.invariant.kept.reached c.args.f.now c.args.limit c.args.work.now.groups c.left.work.groups
          c.left.invariant.within c.join_next.new.work.groups c.in_default.ensures.next
          (subst
          (λ r. IsWithinLimit (without_root c.left.m r) (prefix_of c.args.f.now (c.left.work.groups + 1)) c.args.limit)
          c.left.invariant.root c.in_default.ensures.within);
      kept =
          others_both c.args.m.now c.left.m c.sweep_between.new.m root c.left.invariant.kept
          (others_may c.left.m c.join_next.new.m c.sweep_between.new.m root
          (subst (KeepsOtherRoots c.left.m c.join_next.new.m) c.left.invariant.root c.in_default.ensures.kept)
          c.sweep_between.ensures.swept);
      never =
          never_both c.args.m.now c.left.m c.sweep_between.new.m c.left.invariant.never
          (never_both c.left.m c.join_next.new.m c.sweep_between.new.m c.in_default.ensures.never_falls
          c.sweep_between.ensures.never_falls);
      serves = c.sweep_between.ensures.serves;
      unmarked = c.sweep_between.ensures.unmarked;
      table = c.sweep_between.ensures.table;
    }
