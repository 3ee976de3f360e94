use Rattle.std.proofs.Common.{◌≡◌, ◌+◌, ◌<◌, Some, bit_and, length, slice_get, sym, ap, subst, ◌∙◌, arith}
use Rattle.sd_unique.specs.Record.{nodes_of}
use Rattle.sd_unique.specs.Relinking.{IsLinkedAt}
use Rattle.sd_unique.proofs.AtPlace.{walk_of, at_some, at_none}
use Rattle.sd_unique.proofs.ListsMade.{any_heads, if_none}
use Rattle.sd_unique.proofs.nodes.Nodes.first_at.Goals as goal

pub at_place-found-requires-clause-walk : goal.at_place-found-requires-clause-walk
at_place-found-requires-clause-walk c =
    let some : 0 < length c.self.inside.places.items =
    omega (arith, any_heads _ (sym c.is_empty.ensures ∙ c.if-is_empty.false)) in
    let walk = walk_of c.self.inside.runs c.self.inside.records.items c.deref-2.result.now c.self.inside.links.items
    c.deref-3.result.now c.self.inside.places.items (c.self.invariant.0.in_lists some) c.args.place
    c.index-first.result.now (c.self.invariant.0.places_all some) c.deref-2.ensures.value c.deref-3.ensures.value
    c.index-first.ensures in ((c.self.invariant.0.in_lists some).forth.lists (bit_and c.args.place 2047 + 1), walk)

pub returns-then-is_empty-clause-none : goal.returns-then-is_empty-clause-none
returns-then-is_empty-clause-none c =
    if_none c.linked_among.result c.linked_among.ensures.none
    (λ none n at. none c.self.inside.runs n
    (subst (λ l. IsLinkedAt (nodes_of c.self.inside.runs l) c.args.place n) (sym c.deref.ensures.value)
    (subst (λ a. IsLinkedAt a c.args.place n) (sym c.self.view_is) at)))

pub returns-then-found-clause-none : goal.returns-then-found-clause-none
returns-then-found-clause-none c = λ n at.
    let some : 0 < length c.self.inside.places.items =
    omega (arith, any_heads _ (sym c.is_empty.ensures ∙ c.if-is_empty.false)) in
    let walk = walk_of c.self.inside.runs c.self.inside.records.items c.deref-2.result.now c.self.inside.links.items
    c.deref-3.result.now c.self.inside.places.items (c.self.invariant.0.in_lists some) c.args.place
    c.index-first.result.now (c.self.invariant.0.places_all some) c.deref-2.ensures.value c.deref-3.ensures.value
    c.index-first.ensures in
    at_none c.self.inside.runs c.self.inside.records.items c.self.inside.links.items c.self.inside.places.items
    (c.self.invariant.0.in_lists some) c.args.place
    (λ m r has there p. c.at_place-found.ensures.none c.if-found.true
    ((c.self.invariant.0.in_lists some).forth.lists (bit_and c.args.place 2047 + 1)) walk.chain m r has
    (ap (λ l. slice_get l m) c.deref-2.ensures.value ∙ there) p)
    n (subst (λ a. IsLinkedAt a c.args.place n) (sym c.self.view_is) at)

pub returns-clause-some : goal.returns-clause-some
returns-clause-some c =
    let some : 0 < length c.self.inside.places.items =
    omega (arith, any_heads _ (sym c.is_empty.ensures ∙ c.if-is_empty.false)) in
    let walk = walk_of c.self.inside.runs c.self.inside.records.items c.deref-2.result.now c.self.inside.links.items
    c.deref-3.result.now c.self.inside.places.items (c.self.invariant.0.in_lists some) c.args.place
    c.index-first.result.now (c.self.invariant.0.places_all some) c.deref-2.ensures.value c.deref-3.ensures.value
    c.index-first.ensures in
    let found = c.at_place-found.ensures.some c.if-found.false
    ((c.self.invariant.0.in_lists some).forth.lists (bit_and c.args.place 2047 + 1)) walk.chain in
    subst (λ a. IsLinkedAt a c.args.place c.at_place-found.result) c.self.view_is
    (at_some c.self.inside.runs c.self.inside.records.items c.self.inside.links.items c.self.inside.places.items
    (c.self.invariant.0.in_lists some) c.args.place
    c.at_place-found.result found.1 found.0
    (subst (λ l. slice_get l c.at_place-found.result ≡ Some found.1) c.deref-2.ensures.value found.2) found.3)
