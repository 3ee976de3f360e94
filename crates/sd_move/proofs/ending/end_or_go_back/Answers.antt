use Rattle.std.proofs.Common.{◌≡◌, inr, refl, sym, ap, subst, ◌∙◌}
use Rattle.std.specs.Prelude.{OnOk, IfErr}
use Rattle.std.specs.FinMap.{empty}
use Rattle.sd_model.specs.Moves.{inverse_move}
use Rattle.sd_manager.specs.Table.{Table}
use Rattle.sd_manager.specs.Making.{KeepsRule}
use Rattle.sd_manager.specs.Marking.{AreUnmarked}
use Rattle.sd_move.specs.GoingBack.{ToTable, CanGoBack, HasGoneBack}
use Rattle.sd_move.specs.Journal.{Journal}
use Rattle.sd_move.specs.Moves.{IsMoved}
use Rattle.sd_move.proofs.MoveEnd.{can_go_back, known_end, unmarked_end, moved_end, keeps_back, rule_again}
use Rattle.sd_move.proofs.MoveEnd.{unmarked_again}
use Rattle.sd_move.proofs.Refused.{way_to}
use Rattle.sd_move.proofs.NeverFalling.{never_back}
use Rattle.sd_move.proofs.ending.end_or_go_back.Goals as goal

pub end_move-requires-clause-known : goal.end_move-requires-clause-known
end_move-requires-clause-known c =
    let k = c.requires.way in
    known_end k.0 c.args.m.now c.args.kind c.args.upper c.args.lower c.args.named.items k.1
    (subst (λ d. OnOk d (c.args.m.now.detached ≡ empty)) c.in-Ok.is c.requires.all) c.requires.table

pub returns-in-Ok-clause-moved : goal.returns-in-Ok-clause-moved
returns-in-Ok-clause-moved c m0 o all last =
    let j : Journal =
    record { kind = c.args.kind; upper = c.args.upper; lower = c.args.lower; named = c.args.named.items } in
    subst (λ (t : Table). IsMoved m0 t c.args.kind c.args.upper j) (sym c.end_move.ensures.ended)
    (moved_end m0 c.args.m.now c.args.kind c.args.upper c.args.lower c.args.named.items o
    (subst (λ d. OnOk d (c.args.m.now.detached ≡ empty)) c.in-Ok.is c.requires.all) c.requires.table all last j
    refl refl refl refl)

pub returns-in-Ok-clause-unmarked : goal.returns-in-Ok-clause-unmarked
returns-in-Ok-clause-unmarked c m0 o off =
    subst AreUnmarked (sym c.end_move.ensures.ended)
    (unmarked_end m0 c.args.m.now c.args.kind c.args.upper c.args.lower c.args.named.items o c.requires.table off)

pub go_back-requires-clause-can : goal.go_back-requires-clause-can
go_back-requires-clause-can c =
    let k = c.requires.way in
    let m = c.args.m.now in
    let kind = c.args.kind in
    let x = c.args.upper in
    let l = c.args.lower in
    let es = c.args.named.items in
    let way = way_to k.0 k.1.progress k.1.values in
    let can = can_go_back k.0 m kind x l es k.1 in
    let may : CanGoBack way m c.inverse_of.result x l c.deref.result.now =
    subst (λ i. CanGoBack way m i x l c.deref.result.now) (sym c.inverse_of.ensures.inverse)
    (subst (λ n. CanGoBack way m (inverse_move kind) x l n) (sym c.deref.ensures.value) can) in
    (way, may)

pub returns-in-Ok-clause-bound : goal.returns-in-Ok-clause-bound
returns-in-Ok-clause-bound c m0 o = ap (λ (t : Table). t.bound) c.end_move.ensures.ended ∙ o.bound

pub returns-in-Err-clause-back : goal.returns-in-Err-clause-back
returns-in-Err-clause-back c m0 o =
    let m = c.args.m.now in
    let kind = c.args.kind in
    let x = c.args.upper in
    let l = c.args.lower in
    let es = c.args.named.items in
    let new = c.go_back.new.m in
    let way = way_to m0 o.progress o.values in
    let can = can_go_back m0 m kind x l es o in
    let may : CanGoBack way m c.inverse_of.result x l c.deref.result.now =
    subst (λ i. CanGoBack way m i x l c.deref.result.now) (sym c.inverse_of.ensures.inverse)
    (subst (λ n. CanGoBack way m (inverse_move kind) x l n) (sym c.deref.ensures.value) can) in
    let b : HasGoneBack (ToTable m0) m new (inverse_move kind) x l es =
    subst (λ n. HasGoneBack (ToTable m0) m new (inverse_move kind) x l n) c.deref.ensures.value
    (subst (λ i. HasGoneBack (ToTable m0) m new i x l c.deref.result.now) c.inverse_of.ensures.inverse
    (c.go_back.ensures.back way may)) in
    (keeps_back m0 m kind x l es o new b, b.moving)

pub returns-in-Err-clause-bound : goal.returns-in-Err-clause-bound
returns-in-Err-clause-bound c m0 o =
    let m = c.args.m.now in
    let kind = c.args.kind in
    let x = c.args.upper in
    let l = c.args.lower in
    let es = c.args.named.items in
    let new = c.go_back.new.m in
    let way = way_to m0 o.progress o.values in
    let can = can_go_back m0 m kind x l es o in
    let may : CanGoBack way m c.inverse_of.result x l c.deref.result.now =
    subst (λ i. CanGoBack way m i x l c.deref.result.now) (sym c.inverse_of.ensures.inverse)
    (subst (λ n. CanGoBack way m (inverse_move kind) x l n) (sym c.deref.ensures.value) can) in
    let b : HasGoneBack (ToTable m0) m new (inverse_move kind) x l es =
    subst (λ n. HasGoneBack (ToTable m0) m new (inverse_move kind) x l n) c.deref.ensures.value
    (subst (λ i. HasGoneBack (ToTable m0) m new i x l c.deref.result.now) c.inverse_of.ensures.inverse
    (c.go_back.ensures.back way may)) in
    b.bound ∙ o.bound

pub returns-in-Err-clause-refused : goal.returns-in-Err-clause-refused
returns-in-Err-clause-refused c =
    let k = c.requires.way in
    let m = c.args.m.now in
    let kind = c.args.kind in
    let x = c.args.upper in
    let l = c.args.lower in
    let es = c.args.named.items in
    let new = c.go_back.new.m in
    let way = way_to k.0 k.1.progress k.1.values in
    let can = can_go_back k.0 m kind x l es k.1 in
    let may : CanGoBack way m c.inverse_of.result x l c.deref.result.now =
    subst (λ i. CanGoBack way m i x l c.deref.result.now) (sym c.inverse_of.ensures.inverse)
    (subst (λ n. CanGoBack way m (inverse_move kind) x l n) (sym c.deref.ensures.value) can) in
    let b : HasGoneBack (ToTable k.0) m new (inverse_move kind) x l es =
    subst (λ n. HasGoneBack (ToTable k.0) m new (inverse_move kind) x l n) c.deref.ensures.value
    (subst (λ i. HasGoneBack (ToTable k.0) m new i x l c.deref.result.now) c.inverse_of.ensures.inverse
    (c.go_back.ensures.back way may)) in
    c.refusal.ensures.refusal new (rule_again k.0 m kind x l es k.1 new b _
    (subst (λ d. IfErr d (λ e. KeepsRule m e)) c.in-Err.is c.requires.rule))

pub returns-in-Err-clause-unmarked : goal.returns-in-Err-clause-unmarked
returns-in-Err-clause-unmarked c m0 o off =
    let m = c.args.m.now in
    let kind = c.args.kind in
    let x = c.args.upper in
    let l = c.args.lower in
    let es = c.args.named.items in
    let new = c.go_back.new.m in
    let way = way_to m0 o.progress o.values in
    let can = can_go_back m0 m kind x l es o in
    let may : CanGoBack way m c.inverse_of.result x l c.deref.result.now =
    subst (λ i. CanGoBack way m i x l c.deref.result.now) (sym c.inverse_of.ensures.inverse)
    (subst (λ n. CanGoBack way m (inverse_move kind) x l n) (sym c.deref.ensures.value) can) in
    let b : HasGoneBack (ToTable m0) m new (inverse_move kind) x l es =
    subst (λ n. HasGoneBack (ToTable m0) m new (inverse_move kind) x l n) c.deref.ensures.value
    (subst (λ i. HasGoneBack (ToTable m0) m new i x l c.deref.result.now) c.inverse_of.ensures.inverse
    (c.go_back.ensures.back way may)) in
    unmarked_again m0 m kind x l es o new b c.go_back.ensures.table off

pub returns-in-Err-clause-later : goal.returns-in-Err-clause-later
returns-in-Err-clause-later c =
    let k = c.requires.way in
    let m = c.args.m.now in
    let kind = c.args.kind in
    let x = c.args.upper in
    let l = c.args.lower in
    let es = c.args.named.items in
    let new = c.go_back.new.m in
    let way = way_to k.0 k.1.progress k.1.values in
    let can = can_go_back k.0 m kind x l es k.1 in
    let may : CanGoBack way m c.inverse_of.result x l c.deref.result.now =
    subst (λ i. CanGoBack way m i x l c.deref.result.now) (sym c.inverse_of.ensures.inverse)
    (subst (λ n. CanGoBack way m (inverse_move kind) x l n) (sym c.deref.ensures.value) can) in
    let b : HasGoneBack (ToTable k.0) m new (inverse_move kind) x l es =
    subst (λ n. HasGoneBack (ToTable k.0) m new (inverse_move kind) x l n) c.deref.ensures.value
    (subst (λ i. HasGoneBack (ToTable k.0) m new i x l c.deref.result.now) c.inverse_of.ensures.inverse
    (c.go_back.ensures.back way may)) in
    inr b.later

pub returns-in-Err-clause-never_falls : goal.returns-in-Err-clause-never_falls
returns-in-Err-clause-never_falls c m0 o last =
    let m = c.args.m.now in
    let kind = c.args.kind in
    let x = c.args.upper in
    let l = c.args.lower in
    let es = c.args.named.items in
    let new = c.go_back.new.m in
    let way = way_to m0 o.progress o.values in
    let can = can_go_back m0 m kind x l es o in
    let may : CanGoBack way m c.inverse_of.result x l c.deref.result.now =
    subst (λ i. CanGoBack way m i x l c.deref.result.now) (sym c.inverse_of.ensures.inverse)
    (subst (λ n. CanGoBack way m (inverse_move kind) x l n) (sym c.deref.ensures.value) can) in
    let b : HasGoneBack (ToTable m0) m new (inverse_move kind) x l es =
    subst (λ n. HasGoneBack (ToTable m0) m new (inverse_move kind) x l n) c.deref.ensures.value
    (subst (λ i. HasGoneBack (ToTable m0) m new i x l c.deref.result.now) c.inverse_of.ensures.inverse
    (c.go_back.ensures.back way may)) in
    never_back m0 m new kind (inverse_move kind) x l es last o b
