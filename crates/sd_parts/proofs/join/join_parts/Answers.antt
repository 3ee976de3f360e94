-- The first refusal is handed on; else the parts are joined into a new root.
use Rattle.std.proofs.Common.{◌≡◌, ◌∙◌, cond, length, sym, ap, subst}
use Rattle.sd_vtree.specs.Numbered.{plain_tree}
use Rattle.sd_manager.specs.Making.{without_root}
use Rattle.sd_compile.specs.Joined.{neutral, outer}
use Rattle.sd_compile.specs.Compiling.{KeepsOtherRoots}
use Rattle.sd_compile.proofs.Kept.{serves_rebound}
use Rattle.sd_compile.proofs.Adding.{new_others, new_all, new_table, new_serves, one_more, no_more}
use Rattle.sd_parts.specs.Join.{AreJoinsWithin, IsJoinRefused}
use Rattle.sd_parts.proofs.AnswerAt.{all_fit, refusal_passed}
use Rattle.sd_parts.proofs.JoinLaws.{outcome_joined, outcome_passed}
use Rattle.sd_parts.proofs.join.join_parts.Goals as goal

pub returns-in-Some-clause-passed : goal.returns-in-Some-clause-passed
returns-in-Some-clause-passed c all held =
    refusal_passed c.args.f.now (plain_tree c.args.m.now.vtree) c.args.limit all c.args.answers.now c.in-Some.error
    c.requires.answers (sym c.first_refused.ensures ∙ c.in-Some.is)

pub join_all-requires-clause-serves : goal.join_all-requires-clause-serves
join_all-requires-clause-serves c =
    serves_rebound c.args.c.now c.args.m.now c.begin.new.m c.in-Ok.work.root
    (cond (neutral (outer c.args.f.now.kind)) 1 0) c.in-Ok.ensures.ok.is c.requires.serves

pub returns-in-Ok-join_all-clause-count : goal.returns-in-Ok-join_all-clause-count
returns-in-Ok-join_all-clause-count c =
    let root = c.in-Ok.work.root in
    one_more c.args.m.now c.join_all.new.m root
    (new_others c.args.m.now c.begin.new.m c.join_all.new.m c.args.f.now c.in-Ok.work c.in-Ok.ensures.ok
    (subst (KeepsOtherRoots c.begin.new.m c.join_all.new.m) c.finish-root.ensures c.in-Ok-join_all.ensures.kept))

pub returns-in-Ok-join_all-clause-kept : goal.returns-in-Ok-join_all-clause-kept
returns-in-Ok-join_all-clause-kept c =
    subst (KeepsOtherRoots c.args.m.now c.join_all.new.m)
    (sym (c.in-Ok-join_all.ensures.root ∙ c.finish-root.ensures))
    (new_others c.args.m.now c.begin.new.m c.join_all.new.m c.args.f.now c.in-Ok.work c.in-Ok.ensures.ok
    (subst (KeepsOtherRoots c.begin.new.m c.join_all.new.m) c.finish-root.ensures c.in-Ok-join_all.ensures.kept))

pub returns-in-Ok-join_all-clause-joined : goal.returns-in-Ok-join_all-clause-joined
returns-in-Ok-join_all-clause-joined c all held =
    let f = c.args.f.now in
    let k = length c.args.answers.now in
    let t = plain_tree c.args.m.now.vtree in
    let none = sym c.first_refused.ensures ∙ c.in_default.is in
    outcome_joined c.args.m.now c.total_of_formulas.ensures.total f k c.args.limit
    (all_fit f t c.args.limit c.args.answers.now c.requires.answers none) all held
    (subst (λ x. AreJoinsWithin x f k c.args.limit k)
    (ap (without_root c.begin.new.m) c.finish-root.ensures
    ∙ new_table c.args.m.now c.begin.new.m f c.in-Ok.work c.in-Ok.ensures.ok) c.in-Ok-join_all.ensures.within)

pub returns-in-Err-join_all-clause-count : goal.returns-in-Err-join_all-clause-count
returns-in-Err-join_all-clause-count c =
    let is : c.release.new.self ≡ without_root c.join_all.new.m c.in-Ok.work.root =
    c.release.ensures.released
    ∙ ap (without_root c.join_all.new.m) (c.in-Err-join_all.ensures.root ∙ c.finish-root.ensures) in
    no_more c.args.m.now c.release.new.self
    (new_all c.args.m.now c.begin.new.m c.join_all.new.m c.release.new.self c.args.f.now c.in-Ok.work
    c.in-Ok.ensures.ok
    (subst (KeepsOtherRoots c.begin.new.m c.join_all.new.m) c.finish-root.ensures c.in-Err-join_all.ensures.kept) is)

pub returns-in-Err-join_all-clause-passed : goal.returns-in-Err-join_all-clause-passed
returns-in-Err-join_all-clause-passed c all held =
    let f = c.args.f.now in
    let k = length c.args.answers.now in
    let t = plain_tree c.args.m.now.vtree in
    let none = sym c.first_refused.ensures ∙ c.in_default.is in
    outcome_passed c.args.m.now c.total_of_formulas.ensures.total f k c.args.limit
    (all_fit f t c.args.limit c.args.answers.now c.requires.answers none) all held c.join_all.new.m
    c.in-Err-join_all.error
    (subst (λ x. IsJoinRefused x c.join_all.new.m f k c.args.limit c.in-Err-join_all.error)
    (ap (without_root c.begin.new.m) c.finish-root.ensures
    ∙ new_table c.args.m.now c.begin.new.m f c.in-Ok.work c.in-Ok.ensures.ok) c.in-Err-join_all.ensures.err)

pub returns-in-Err-join_all-clause-all_kept : goal.returns-in-Err-join_all-clause-all_kept
returns-in-Err-join_all-clause-all_kept c =
    let is : c.release.new.self ≡ without_root c.join_all.new.m c.in-Ok.work.root =
    c.release.ensures.released
    ∙ ap (without_root c.join_all.new.m) (c.in-Err-join_all.ensures.root ∙ c.finish-root.ensures) in
    new_all c.args.m.now c.begin.new.m c.join_all.new.m c.release.new.self c.args.f.now c.in-Ok.work
    c.in-Ok.ensures.ok
    (subst (KeepsOtherRoots c.begin.new.m c.join_all.new.m) c.finish-root.ensures c.in-Err-join_all.ensures.kept) is

pub returns-in-Err-join_all-clause-serves : goal.returns-in-Err-join_all-clause-serves
returns-in-Err-join_all-clause-serves c =
    new_serves c.join_all.new.c c.join_all.new.m c.release.new.self c.join_all.new.root c.release.ensures.released
    c.in-Err-join_all.ensures.serves
