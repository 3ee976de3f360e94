use Rattle.std.proofs.Common.{ap, subst, sym, ◌∙◌, arith, ◌-◌, ◌<◌, ◌^◌}
use Rattle.std.specs.FinMap.{len}
use Rattle.sd_manager.specs.Stored.{table_of, counted_roots, held_count, IsKept}
use Rattle.sd_manager.proofs.Valid.{known_inside}
use Rattle.sd_manager.proofs.Holding.{known_counted, room_for_use, stored_hold}
use Rattle.sd_manager.proofs.CountsKept.{there_within, live_few, nodes_few}
use Rattle.sd_manager.proofs.CountedRoots.{counted_root}
use Rattle.sd_manager.proofs.manager.Manager.hold.Goals as goal

pub add_use-requires-clause-counted : goal.add_use-requires-clause-counted
add_use-requires-clause-counted c =
    let s = c.self.inside in
    known_counted s.vtree s.nodes s.roots s.epoch s.moving c.node.inside.0 c.self.invariant.stored.table.numbered
    (known_inside (table_of s.vtree s.nodes s.roots s.epoch s.moving) c.args.self.now c.node.inside.0 c.args.node
    c.self.view_is c.node.view_is c.requires.shown)

pub add_use-requires-clause-room : goal.add_use-requires-clause-room
add_use-requires-clause-room c =
    let s = c.self.inside in
    room_for_use s.vtree s.nodes s.roots s.epoch s.moving c.node.inside.0 c.self.invariant.stored
    (known_counted s.vtree s.nodes s.roots s.epoch s.moving c.node.inside.0 c.self.invariant.stored.table.numbered
    (known_inside (table_of s.vtree s.nodes s.roots s.epoch s.moving) c.args.self.now c.node.inside.0 c.args.node
    c.self.view_is c.node.view_is c.requires.shown))

pub count_one-requires-clause-within : goal.count_one-requires-clause-within
count_one-requires-clause-within c = λ on.
    let s = c.self.inside in
    let held = held_count (counted_roots s.is_counting s.roots) in
    there_within s.nodes held s.counts c.self.invariant.stored.valid c.self.invariant.counted
    c.node.inside.0 (let s = c.self.inside in
    known_counted s.vtree s.nodes s.roots s.epoch s.moving c.node.inside.0 c.self.invariant.stored.table.numbered
    (known_inside (table_of s.vtree s.nodes s.roots s.epoch s.moving) c.args.self.now c.node.inside.0 c.args.node
    c.self.view_is c.node.view_is c.requires.shown))

pub count_one-requires-clause-room : goal.count_one-requires-clause-room
count_one-requires-clause-room c = λ on least.
    let s = c.self.inside in
    omega (
      arith,
      live_few s.nodes (held_count (counted_roots s.is_counting s.roots)) s.counts c.self.invariant.counted
          (nodes_few s.vtree s.nodes s.roots s.epoch s.moving c.self.invariant.stored) (c.node.inside.0 - 2050),
    )

pub invariant_of-self-2 : goal.invariant_of-self-2
invariant_of-self-2 c =
    let s = c.self.inside in
    let still = ap (λ t. t.moving) c.self.view_is ∙ c.requires.no_move in
    let room = ap (λ t. len t.roots) c.self.view_is in
    let few : len s.roots < 2 ^ 32 - 1 = omega (arith, room, c.requires.room) in
    subst (λ m. IsKept c.add_use.new.nodes c.count_one.new.counts s.is_counting
    (table_of s.vtree c.add_use.new.nodes m s.epoch s.moving))
    (sym c.in_ok-root.ensures.ok)
    (record {
      stored = stored_hold s.vtree s.nodes s.roots s.epoch s.moving c.self.invariant.stored still
          c.add_use.new.nodes c.in_ok-root.root c.node.inside.0 c.in_ok-root.ensures.absent few
          (known_inside (table_of s.vtree s.nodes s.roots s.epoch s.moving) c.args.self.now c.node.inside.0
          c.args.node c.self.view_is c.node.view_is c.requires.shown) c.add_use.ensures.uses c.add_use.ensures.valid;
      counted = counted_root s.nodes s.roots s.counts s.is_counting c.self.invariant.counted c.add_use.new.nodes
          c.in_ok-root.root c.node.inside.0 c.in_ok-root.ensures.absent few (let s = c.self.inside in
          known_counted s.vtree s.nodes s.roots s.epoch s.moving c.node.inside.0 c.self.invariant.stored.table.numbered
          (known_inside (table_of s.vtree s.nodes s.roots s.epoch s.moving) c.args.self.now c.node.inside.0 c.args.node
          c.self.view_is c.node.view_is c.requires.shown))
          c.add_use.ensures.uses.rest c.count_one.new.counts c.count_one.ensures.held c.count_one.ensures.same;
    })

pub returns-clause-table : goal.returns-clause-table
returns-clause-table c = (invariant_of-self-2 c).stored.table
