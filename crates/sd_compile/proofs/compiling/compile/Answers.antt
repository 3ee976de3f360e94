use Rattle.std.proofs.Common.{◌≡◌, ◌∙◌, cond, sym, ap, subst, length}
use Rattle.sd_manager.specs.Making.{without_root}
use Rattle.sd_sweep.proofs.NeverFalling.{never_same, never_both, never_rooted, never_released}
use Rattle.sd_compile.specs.Joined.{neutral, outer}
use Rattle.sd_compile.specs.Compiling.{KeepsOtherRoots}
use Rattle.sd_compile.proofs.Kept.{serves_rebound}
use Rattle.sd_compile.proofs.Adding.{new_others, new_all, new_refused, new_serves, new_within, one_more, no_more}
use Rattle.sd_compile.proofs.compiling.compile.Goals as goal

pub add_groups-requires-clause-serves : goal.add_groups-requires-clause-serves
add_groups-requires-clause-serves c =
    serves_rebound c.args.c.now c.args.m.now c.begin.new.m c.in-Ok.work.root
    (cond (neutral (outer c.args.f.now.kind)) 1 0) c.in-Ok.ensures.ok.is c.requires.serves

pub returns-in-Ok-add_groups-clause-within : goal.returns-in-Ok-add_groups-clause-within
returns-in-Ok-add_groups-clause-within c =
    new_within c.args.m.now c.begin.new.m c.args.f.now c.in-Ok.work c.args.limit (length c.args.f.now.groups)
    c.in-Ok.ensures.ok c.in-Ok-add_groups.ensures.within

pub returns-in-Ok-add_groups-clause-kept : goal.returns-in-Ok-add_groups-clause-kept
returns-in-Ok-add_groups-clause-kept c =
    subst (KeepsOtherRoots c.args.m.now c.add_groups.new.m)
    (sym (c.finish.ensures ∙ c.in-Ok-add_groups.ensures.root))
    (new_others c.args.m.now c.begin.new.m c.add_groups.new.m c.args.f.now c.in-Ok.work c.in-Ok.ensures.ok
    c.in-Ok-add_groups.ensures.kept)

pub returns-in-Err-add_groups-clause-err : goal.returns-in-Err-add_groups-clause-err
returns-in-Err-add_groups-clause-err c =
    let is : c.release.new.self ≡ without_root c.add_groups.new.m c.in-Ok.work.root =
    c.release.ensures.released
    ∙ ap (without_root c.add_groups.new.m) (c.finish-in-Err-add_groups.ensures ∙ c.in-Err-add_groups.ensures.root) in
    new_refused c.args.m.now c.begin.new.m c.add_groups.new.m c.release.new.self c.args.f.now c.in-Ok.work c.args.limit
    c.in-Err-add_groups.error c.in-Ok.ensures.ok is c.in-Err-add_groups.ensures.err

pub returns-in-Err-add_groups-clause-all_kept : goal.returns-in-Err-add_groups-clause-all_kept
returns-in-Err-add_groups-clause-all_kept c =
    let is : c.release.new.self ≡ without_root c.add_groups.new.m c.in-Ok.work.root =
    c.release.ensures.released
    ∙ ap (without_root c.add_groups.new.m) (c.finish-in-Err-add_groups.ensures ∙ c.in-Err-add_groups.ensures.root) in
    new_all c.args.m.now c.begin.new.m c.add_groups.new.m c.release.new.self c.args.f.now c.in-Ok.work
    c.in-Ok.ensures.ok c.in-Err-add_groups.ensures.kept is

pub returns-in-Err-add_groups-clause-serves : goal.returns-in-Err-add_groups-clause-serves
returns-in-Err-add_groups-clause-serves c =
    new_serves c.add_groups.new.c c.add_groups.new.m c.release.new.self c.finish-in-Err-add_groups.result
    c.release.ensures.released c.in-Err-add_groups.ensures.serves

pub returns-in-Ok-add_groups-clause-count : goal.returns-in-Ok-add_groups-clause-count
returns-in-Ok-add_groups-clause-count c =
    one_more c.args.m.now c.add_groups.new.m c.in-Ok.work.root
    (new_others c.args.m.now c.begin.new.m c.add_groups.new.m c.args.f.now c.in-Ok.work c.in-Ok.ensures.ok
    c.in-Ok-add_groups.ensures.kept)

pub returns-in-Err-add_groups-clause-count : goal.returns-in-Err-add_groups-clause-count
returns-in-Err-add_groups-clause-count c =
    let is : c.release.new.self ≡ without_root c.add_groups.new.m c.in-Ok.work.root =
    c.release.ensures.released
    ∙ ap (without_root c.add_groups.new.m) (c.finish-in-Err-add_groups.ensures ∙ c.in-Err-add_groups.ensures.root) in
    no_more c.args.m.now c.release.new.self
    (new_all c.args.m.now c.begin.new.m c.add_groups.new.m c.release.new.self c.args.f.now c.in-Ok.work
    c.in-Ok.ensures.ok c.in-Err-add_groups.ensures.kept is)

-- ---- what never falls

pub returns-in-Err-clause-never_falls : goal.returns-in-Err-clause-never_falls
returns-in-Err-clause-never_falls c = never_same c.args.m.now c.begin.new.m c.in-Err.ensures.err

pub returns-in-Ok-add_groups-clause-never_falls : goal.returns-in-Ok-add_groups-clause-never_falls
returns-in-Ok-add_groups-clause-never_falls c =
    never_both c.args.m.now c.begin.new.m c.add_groups.new.m
    (never_rooted c.args.m.now c.begin.new.m c.in-Ok.work.root (cond (neutral (outer c.args.f.now.kind)) 1 0)
    c.in-Ok.ensures.ok.is) c.add_groups.ensures.never_falls

pub returns-in-Err-add_groups-clause-never_falls : goal.returns-in-Err-add_groups-clause-never_falls
returns-in-Err-add_groups-clause-never_falls c =
    never_both c.args.m.now c.begin.new.m c.release.new.self
    (never_rooted c.args.m.now c.begin.new.m c.in-Ok.work.root (cond (neutral (outer c.args.f.now.kind)) 1 0)
    c.in-Ok.ensures.ok.is)
    (never_both c.begin.new.m c.add_groups.new.m c.release.new.self c.add_groups.ensures.never_falls
    (never_released c.add_groups.new.m c.release.new.self c.finish-in-Err-add_groups.result
    c.release.ensures.released))
