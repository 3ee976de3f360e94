use Rattle.std.proofs.Common.{ap, subst, sym, ◌∙◌, arith, ◌-◌}
use Rattle.sd_manager.specs.Stored.{table_of, counted_roots, held_count, IsKept}
use Rattle.sd_manager.proofs.Valid.{known_inside}
use Rattle.sd_manager.proofs.Holding.{known_counted, room_for_use, counted_is, held_is_used, stored_rebind}
use Rattle.sd_manager.proofs.Holding.{used_still}
use Rattle.sd_manager.proofs.Counted.{still_counted}
use Rattle.std.specs.FinMap.{remove}
use Rattle.sd_manager.proofs.CountsKept.{there_within, live_few, nodes_few}
use Rattle.sd_manager.proofs.CountedRoots.{counted_left, counted_live, counted_rebound}
use Rattle.sd_manager.proofs.manager.Manager.rebind.Goals as goal

pub add_use-requires-clause-counted : goal.add_use-requires-clause-counted
add_use-requires-clause-counted c =
    let s = c.self.inside in
    known_counted s.vtree s.nodes s.roots s.epoch s.moving c.node.inside.0 c.self.invariant.stored.table.numbered
    (known_inside (table_of s.vtree s.nodes s.roots s.epoch s.moving) c.args.self.now c.node.inside.0 c.args.node
    c.self.view_is c.node.view_is c.requires.shown)

pub add_use-requires-clause-room : goal.add_use-requires-clause-room
add_use-requires-clause-room c =
    let s = c.self.inside in
    room_for_use s.vtree s.nodes s.roots s.epoch s.moving c.node.inside.0 c.self.invariant.stored
    (known_counted s.vtree s.nodes s.roots s.epoch s.moving c.node.inside.0 c.self.invariant.stored.table.numbered
    (known_inside (table_of s.vtree s.nodes s.roots s.epoch s.moving) c.args.self.now c.node.inside.0 c.args.node
    c.self.view_is c.node.view_is c.requires.shown))

pub drop_use-requires-clause-counted : goal.drop_use-requires-clause-counted
drop_use-requires-clause-counted c =
    let s = c.self.inside in
    let still = ap (λ t. t.moving) c.self.view_is ∙ c.requires.no_move in
    still_counted s.nodes c.add_use.new.nodes c.rebind-former.result c.add_use.ensures.uses
    (known_counted s.vtree s.nodes s.roots s.epoch s.moving c.rebind-former.result
    c.self.invariant.stored.table.numbered
    (c.self.invariant.stored.table.held still c.args.root.now c.rebind-former.result c.rebind-former.ensures.held))

pub drop_use-requires-clause-used : goal.drop_use-requires-clause-used
drop_use-requires-clause-used c = λ least.
    let s = c.self.inside in
    let still = ap (λ t. t.moving) c.self.view_is ∙ c.requires.no_move in
    let counted = known_counted s.vtree s.nodes s.roots s.epoch s.moving c.rebind-former.result
    c.self.invariant.stored.table.numbered
    (c.self.invariant.stored.table.held still c.args.root.now c.rebind-former.result c.rebind-former.ensures.held) in
    used_still s.nodes c.add_use.new.nodes c.rebind-former.result c.add_use.ensures.uses
    (omega (
      arith,
      counted_is s.vtree s.nodes s.roots s.epoch s.moving c.rebind-former.result c.self.invariant.stored counted least,
      held_is_used (table_of s.vtree s.nodes s.roots s.epoch s.moving) c.args.root.now c.rebind-former.result
          c.rebind-former.ensures.held,
    ))

pub uncount_one-requires : goal.uncount_one-requires
uncount_one-requires c =
    let s = c.self.inside in
    record {
      used = counted_live s.nodes s.roots s.counts s.is_counting c.self.invariant.counted c.args.root.now
          c.rebind-former.result c.rebind-former.ensures.held;
    }

pub count_one-requires-clause-within : goal.count_one-requires-clause-within
count_one-requires-clause-within c = λ on.
    let s = c.self.inside in
    there_within s.nodes (held_count (counted_roots s.is_counting (remove s.roots c.args.root.now)))
    c.uncount_one.new.counts
    c.self.invariant.stored.valid
    (counted_left s.nodes s.roots s.counts s.is_counting c.self.invariant.counted c.args.root.now
    c.rebind-former.result c.rebind-former.ensures.held c.uncount_one.new.counts c.uncount_one.ensures.released
    c.uncount_one.ensures.same)
    c.node.inside.0 (let s = c.self.inside in
    known_counted s.vtree s.nodes s.roots s.epoch s.moving c.node.inside.0 c.self.invariant.stored.table.numbered
    (known_inside (table_of s.vtree s.nodes s.roots s.epoch s.moving) c.args.self.now c.node.inside.0 c.args.node
    c.self.view_is c.node.view_is c.requires.shown))

pub count_one-requires-clause-room : goal.count_one-requires-clause-room
count_one-requires-clause-room c = λ on least.
    let s = c.self.inside in
    omega (
      arith,
      live_few s.nodes (held_count (counted_roots s.is_counting (remove s.roots c.args.root.now)))
          c.uncount_one.new.counts
          (counted_left s.nodes s.roots s.counts s.is_counting c.self.invariant.counted c.args.root.now
          c.rebind-former.result c.rebind-former.ensures.held c.uncount_one.new.counts c.uncount_one.ensures.released
          c.uncount_one.ensures.same)
          (nodes_few s.vtree s.nodes s.roots s.epoch s.moving c.self.invariant.stored) (c.node.inside.0 - 2050),
    )

pub invariant_of-self : goal.invariant_of-self
invariant_of-self c =
    let s = c.self.inside in
    let still = ap (λ t. t.moving) c.self.view_is ∙ c.requires.no_move in
    subst (λ m. IsKept c.drop_use.new.nodes c.count_one.new.counts s.is_counting
    (table_of s.vtree c.drop_use.new.nodes m s.epoch s.moving))
    (sym c.rebind-former.ensures.bound)
    (record {
      stored = stored_rebind s.vtree s.nodes s.roots s.epoch s.moving c.self.invariant.stored still
          c.add_use.new.nodes c.drop_use.new.nodes c.args.root.now c.rebind-former.result c.node.inside.0
          c.rebind-former.ensures.held
          (known_inside (table_of s.vtree s.nodes s.roots s.epoch s.moving) c.args.self.now c.node.inside.0
          c.args.node c.self.view_is c.node.view_is c.requires.shown) c.add_use.ensures.uses c.drop_use.ensures.uses
          c.drop_use.ensures.valid;
      counted = counted_rebound s.nodes s.roots s.counts s.is_counting c.self.invariant.counted c.add_use.new.nodes
          c.drop_use.new.nodes c.args.root.now c.rebind-former.result c.node.inside.0 c.rebind-former.ensures.held
          c.self.invariant.stored.table.few_roots (let s = c.self.inside in
          known_counted s.vtree s.nodes s.roots s.epoch s.moving c.node.inside.0 c.self.invariant.stored.table.numbered
          (known_inside (table_of s.vtree s.nodes s.roots s.epoch s.moving) c.args.self.now c.node.inside.0 c.args.node
          c.self.view_is c.node.view_is c.requires.shown)) c.add_use.ensures.uses.rest
          c.drop_use.ensures.uses.rest c.uncount_one.new.counts c.count_one.new.counts
          c.uncount_one.ensures.released c.uncount_one.ensures.same c.count_one.ensures.held c.count_one.ensures.same;
    })

pub returns-clause-table : goal.returns-clause-table
returns-clause-table c = (invariant_of-self c).stored.table
