use Rattle.std.proofs.Common.{◌≡◌, None, refl, sym, subst, ◌∙◌}
use Rattle.std.specs.Option.{IsSome}
use Rattle.std.specs.FinMap.{get}
use Rattle.sd_manager.specs.Moving.{FitsNode, IsAscending, IsAbsent, IsPutBack}
use Rattle.sd_move.specs.Journal.{Named}
use Rattle.sd_move.proofs.ReturnSteps.{put_moving, put_node, put_run, put_fits, put_absent, put_linked, put_passed}
use Rattle.sd_move.proofs.going_back.put_run_back.Goals as goal

pub put_back-requires-clause-moving : goal.put_back-requires-clause-moving
put_back-requires-clause-moving c =
    let w = c.requires.returning in
    put_moving w.0 c.args.m.now c.args.entry.now w.1 w.2 c.requires.table _
    (subst (λ (e : Named). e.run ≡ c.entry.inside.run) c.entry.view_is refl ∙ c.in-Some.is)

pub put_back-requires-clause-node : goal.put_back-requires-clause-node
put_back-requires-clause-node c =
    let w = c.requires.returning in
    subst (λ (e : Named). IsSome (get c.args.m.now.detached e.number)) (sym c.entry.view_is)
    (put_node w.0 c.args.m.now c.args.entry.now w.1 w.2 c.requires.table _
    (subst (λ (e : Named). e.run ≡ c.entry.inside.run) c.entry.view_is refl ∙ c.in-Some.is))

pub put_back-requires-clause-run : goal.put_back-requires-clause-run
put_back-requires-clause-run c =
    let w = c.requires.returning in
    put_run w.0 c.args.m.now c.args.entry.now w.1 w.2 c.requires.table _
    (subst (λ (e : Named). e.run ≡ c.entry.inside.run) c.entry.view_is refl ∙ c.in-Some.is)

pub put_back-requires-clause-fits : goal.put_back-requires-clause-fits
put_back-requires-clause-fits c list at =
    let w = c.requires.returning in
    subst (λ (e : Named). FitsNode c.args.m.now e.place list × IsAscending list) (sym c.entry.view_is)
    (put_fits w.0 c.args.m.now c.args.entry.now w.1 w.2 c.requires.table _
    (subst (λ (e : Named). e.run ≡ c.entry.inside.run) c.entry.view_is refl ∙ c.in-Some.is) list at)

pub put_back-requires-clause-absent : goal.put_back-requires-clause-absent
put_back-requires-clause-absent c list at =
    let w = c.requires.returning in
    subst (λ (e : Named). IsAbsent c.args.m.now e.place list) (sym c.entry.view_is)
    (put_absent w.0 c.args.m.now c.args.entry.now w.1 w.2 c.requires.table _
    (subst (λ (e : Named). e.run ≡ c.entry.inside.run) c.entry.view_is refl ∙ c.in-Some.is) list at)

pub returns-in-Some-clause-returning : goal.returns-in-Some-clause-returning
returns-in-Some-clause-returning c r second s =
    put_linked r c.args.m.now c.args.entry.now second s c.requires.table _
    (subst (λ (e : Named). e.run ≡ c.entry.inside.run) c.entry.view_is refl ∙ c.in-Some.is) c.put_back.new.self
    (subst (λ (e : Named). IsPutBack c.args.m.now c.put_back.new.self e.number e.place c.in-Some.run'.0)
    c.entry.view_is
    c.put_back.ensures.put_back)
    c.put_back.ensures.table

pub returns-in_default-clause-returning : goal.returns-in_default-clause-returning
returns-in_default-clause-returning c r second s =
    put_passed r c.args.m.now c.args.entry.now second s
    (subst (λ (e : Named). e.run ≡ None) c.entry.view_is c.in_default.is)
