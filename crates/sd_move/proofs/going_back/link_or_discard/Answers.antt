use Rattle.std.proofs.Common.{◌≡◌, ℕ, List, Some, sym, subst, ap, ◌∙◌}
use Rattle.std.specs.FinMap.{get}
use Rattle.sd_manager.specs.Moving.{FitsNode, IsAscending, IsAbsent, linked_under}
use Rattle.sd_manager.proofs.Holding.{some_value}
use Rattle.sd_move.proofs.ReturnLeft.{own_place, upper_may, upper_linked, lower_unused, lower_discarded, linked_gone}
use Rattle.sd_move.proofs.going_back.link_or_discard.Goals as goal

pub discard-requires-clause-unused : goal.discard-requires-clause-unused
discard-requires-clause-unused c =
    let w = c.requires.returning in
    let now = c.args.m.now in
    let k = some_value (get now.detached c.args.number) c.requires.node in
    let at = own_place now c.requires.table c.args.number k.0 k.1 c.place_at-own.result c.place_at-own.ensures.place in
    lower_unused w.0 now w.2 c.requires.table c.args.number k.0 k.1
    (λ z. c.if-own-upper.true (c.own.view_is ∙ sym at ∙ z ∙ w.1 ∙ sym c.upper.view_is))

pub retag-requires-clause-fits : goal.retag-requires-clause-fits
retag-requires-clause-fits c =
    let w = c.requires.returning in
    let now = c.args.m.now in
    let k = some_value (get now.detached c.args.number) c.requires.node in
    let at = own_place now c.requires.table c.args.number k.0 k.1 c.place_at-own.result c.place_at-own.ensures.place in
    subst (λ p. (j : ℕ × List (ℕ × ℕ)) → get now.detached c.args.number ≡ Some j →
    FitsNode now p j.1 × IsAscending j.1) w.1
    (upper_may w.0 now w.2 c.requires.table c.args.number k.0 k.1
    (at ∙ sym c.own.view_is ∙ c.if-own-upper.false ∙ c.upper.view_is ∙ sym w.1)).2

pub retag-requires-clause-absent : goal.retag-requires-clause-absent
retag-requires-clause-absent c =
    let w = c.requires.returning in
    let now = c.args.m.now in
    let k = some_value (get now.detached c.args.number) c.requires.node in
    let at = own_place now c.requires.table c.args.number k.0 k.1 c.place_at-own.result c.place_at-own.ensures.place in
    subst (λ p. (j : ℕ × List (ℕ × ℕ)) → get now.detached c.args.number ≡ Some j → IsAbsent now p j.1) w.1
    (upper_may w.0 now w.2 c.requires.table c.args.number k.0 k.1
    (at ∙ sym c.own.view_is ∙ c.if-own-upper.false ∙ c.upper.view_is ∙ sym w.1)).3

pub returns-then-own-upper-clause-returning : goal.returns-then-own-upper-clause-returning
returns-then-own-upper-clause-returning c r is s =
    let now = c.args.m.now in
    let k = some_value (get now.detached c.args.number) c.requires.node in
    let at = own_place now c.requires.table c.args.number k.0 k.1 c.place_at-own.result c.place_at-own.ensures.place in
    lower_discarded r now s c.requires.table c.args.number k.0 k.1
    (λ z. c.if-own-upper.true (c.own.view_is ∙ sym at ∙ z ∙ is ∙ sym c.upper.view_is)) c.discard.new.self
    c.discard.ensures.discarded

pub returns-then-own-upper-clause-gone : goal.returns-then-own-upper-clause-gone
returns-then-own-upper-clause-gone c = ap (λ u. u.detached) c.discard.ensures.discarded.is

pub returns-else-own-upper-clause-returning : goal.returns-else-own-upper-clause-returning
returns-else-own-upper-clause-returning c r is s =
    let now = c.args.m.now in
    let new = c.retag.new.self in
    let k = some_value (get now.detached c.args.number) c.requires.node in
    let at = own_place now c.requires.table c.args.number k.0 k.1 c.place_at-own.result c.place_at-own.ensures.place in
    upper_linked r now s c.requires.table c.args.number k.0 k.1
    (at ∙ sym c.own.view_is ∙ c.if-own-upper.false ∙ c.upper.view_is ∙ sym is) new
    (subst (λ p. (j : ℕ × List (ℕ × ℕ)) → get now.detached c.args.number ≡ Some j →
    new ≡ linked_under now c.args.number (p, j.1)) (sym is) c.retag.ensures.linked) c.retag.ensures.table

pub returns-else-own-upper-clause-gone : goal.returns-else-own-upper-clause-gone
returns-else-own-upper-clause-gone c =
    linked_gone c.args.m.now c.retag.new.self c.args.number c.args.upper c.requires.node c.retag.ensures.linked
