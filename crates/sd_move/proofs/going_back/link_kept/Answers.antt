use Rattle.std.proofs.Common.{◌≡◌, ℕ, List, None, Some, refl, sym, subst}
use Rattle.std.specs.Option.{IsSome}
use Rattle.std.specs.FinMap.{get}
use Rattle.sd_manager.specs.Moving.{FitsNode, IsAscending, IsAbsent, linked_under}
use Rattle.sd_move.specs.Journal.{Named}
use Rattle.sd_move.proofs.ReturnSteps.{kept_may, kept_linked, kept_passed}
use Rattle.sd_move.proofs.going_back.link_kept.Goals as goal

pub retag-requires-clause-moving : goal.retag-requires-clause-moving
retag-requires-clause-moving c =
    let w = c.requires.returning in
    (kept_may w.0 c.args.m.now c.args.entry.now w.1 w.2 w.3 c.requires.table
    (subst (λ (e : Named). e.run ≡ None) c.entry.view_is c.in-None.is)).0

pub retag-requires-clause-node : goal.retag-requires-clause-node
retag-requires-clause-node c =
    let w = c.requires.returning in
    let now = c.args.m.now in
    subst (λ (e : Named). IsSome (get now.detached e.number)) (sym c.entry.view_is)
    (kept_may w.0 now c.args.entry.now w.1 w.2 w.3 c.requires.table
    (subst (λ (e : Named). e.run ≡ None) c.entry.view_is c.in-None.is)).1

pub retag-requires-clause-fits : goal.retag-requires-clause-fits
retag-requires-clause-fits c =
    let w = c.requires.returning in
    let now = c.args.m.now in
    subst (λ (e : Named). (k : ℕ × List (ℕ × ℕ)) → get now.detached e.number ≡ Some k →
    FitsNode now e.place k.1 × IsAscending k.1) (sym c.entry.view_is)
    (kept_may w.0 now c.args.entry.now w.1 w.2 w.3 c.requires.table
    (subst (λ (e : Named). e.run ≡ None) c.entry.view_is c.in-None.is)).2

pub retag-requires-clause-absent : goal.retag-requires-clause-absent
retag-requires-clause-absent c =
    let w = c.requires.returning in
    let now = c.args.m.now in
    subst (λ (e : Named). (k : ℕ × List (ℕ × ℕ)) → get now.detached e.number ≡ Some k → IsAbsent now e.place k.1)
    (sym c.entry.view_is)
    (kept_may w.0 now c.args.entry.now w.1 w.2 w.3 c.requires.table
    (subst (λ (e : Named). e.run ≡ None) c.entry.view_is c.in-None.is)).3

pub returns-in-None-clause-returning : goal.returns-in-None-clause-returning
returns-in-None-clause-returning c r first second s =
    let now = c.args.m.now in
    let new = c.retag.new.self in
    kept_linked r now c.args.entry.now first second s c.requires.table
    (subst (λ (e : Named). e.run ≡ None) c.entry.view_is c.in-None.is) new
    (subst (λ (e : Named). (k : ℕ × List (ℕ × ℕ)) → get now.detached e.number ≡ Some k →
    new ≡ linked_under now e.number (e.place, k.1)) c.entry.view_is c.retag.ensures.linked)
    c.retag.ensures.table

pub returns-in-Some-clause-returning : goal.returns-in-Some-clause-returning
returns-in-Some-clause-returning c r first second s =
    kept_passed r c.args.m.now c.args.entry.now first second s
    (subst (λ (e : Named). IsSome e.run) c.entry.view_is (subst IsSome (sym c.in-Some.is) refl))
