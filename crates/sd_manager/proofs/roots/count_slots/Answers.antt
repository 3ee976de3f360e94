use Rattle.std.proofs.Common.{◌+◌, ◌-◌, take, sym, subst, ◌∙◌, arith}
use Rattle.sd_manager.specs.Stored.{held_count, held_map}
use Rattle.sd_manager.proofs.CountsKept.{there_within, live_few}
use Rattle.sd_manager.proofs.CountedRoots.{HasCounted, counted_none, counted_some, slot_there}
use Rattle.sd_manager.proofs.Held.{held_value}
use Rattle.sd_manager.proofs.roots.count_slots.Goals.{in-Some, in_default}
use Rattle.sd_manager.proofs.roots.count_slots.Goals as goal

pub hold-requires-clause-within : goal.hold-requires-clause-within
hold-requires-clause-within c =
    let slots = c.args.slots.now in
    let i = c.loop-index.index in
    let a = c.requires.may.0 in
    let may = c.requires.may.1 in
    there_within a (held_count (held_map (take i slots))) c.loop-index.counts may.valid
    (c.loop-index.invariant a may c.requires.may.2) c.in-Some.code
    (slot_there slots a i c.in-Some.code may
    (sym (held_value slots i _ c.loop-index-test.true) ∙ c.in-Some.is))

pub hold-requires-clause-room : goal.hold-requires-clause-room
hold-requires-clause-room c = λ least.
    let slots = c.args.slots.now in
    let i = c.loop-index.index in
    let a = c.requires.may.0 in
    let may = c.requires.may.1 in
    omega (
      arith,
      live_few a (held_count (held_map (take i slots))) c.loop-index.counts
          (c.loop-index.invariant a may c.requires.may.2) may.few (c.in-Some.code - 2050),
    )

pub loop-index-preserved : goal.loop-index-preserved
loop-index-preserved c =
    let slots = c.args.slots.now in
    let i = c.loop-index.index in
    let old = c.args.counts.now in
    let now = c.loop-index.counts in
    let inside = c.loop-index-test.true in
    elim c.match-slots-index.branch [
      | in-Some w ↦
          subst (λ x. HasCounted slots old x (i + 1)) (sym w.counts-is)
          (counted_some slots old now w.hold.new.self i w.in-Some.code inside c.requires.few
          (sym (held_value slots i _ inside) ∙ w.in-Some.is) c.loop-index.invariant w.hold.ensures.held)
      | in_default w ↦
          subst (λ x. HasCounted slots old x (i + 1)) (sym w.counts-is)
          (counted_none slots old now i inside (sym (held_value slots i _ inside) ∙ w.in_default.is)
          c.loop-index.invariant)
    ]
