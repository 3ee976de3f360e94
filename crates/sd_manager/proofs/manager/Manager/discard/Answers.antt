use Rattle.std.proofs.Common.{◌≡◌, ◌+◌, sym, subst}
use Rattle.std.specs.FinMap.{get}
use Rattle.std.specs.Option.{IsSome}
use Rattle.sd_manager.specs.Table.{uses_of}
use Rattle.sd_manager.specs.Stored.{table_of, counted_roots, held_count}
use Rattle.sd_manager.specs.Moving.{IsDiscarded}
use Rattle.sd_manager.proofs.DetachedList.{detached_node, detached_counted, detached_used}
use Rattle.sd_manager.proofs.Discarded.{discarding_node, discarding_unused, discarded_stored, node_discarded}
use Rattle.sd_manager.proofs.Holding.{some_value}
use Rattle.sd_manager.proofs.CountsKept.{counts_other_uses, nodes_closed, unused_node}
use Rattle.sd_manager.proofs.CountsAfter.{counts_removed}
use Rattle.sd_manager.proofs.manager.Manager.discard.Goals as goal

pub drop_uses-requires-clause-node : goal.drop_uses-requires-clause-node
drop_uses-requires-clause-node c =
    let s = c.self.inside in
    let w = some_value (get s.nodes.detached c.args.number)
    (subst (λ t. IsSome (get t.detached c.args.number)) (sym c.self.view_is) c.requires.node) in
    detached_node s.vtree s.nodes s.roots s.epoch s.moving c.self.invariant.stored c.args.number w.0 w.1

pub uncount-requires-clause-node : goal.uncount-requires-clause-node
uncount-requires-clause-node c =
    let s = c.self.inside in
    let w = some_value (get s.nodes.detached c.args.number)
    (subst (λ t. IsSome (get t.detached c.args.number)) (sym c.self.view_is) c.requires.node) in
    detached_node s.vtree s.nodes s.roots s.epoch s.moving c.self.invariant.stored c.args.number w.0 w.1

pub uncount-requires-clause-closed : goal.uncount-requires-clause-closed
uncount-requires-clause-closed c =
    let s = c.self.inside in nodes_closed s.vtree s.nodes s.roots s.epoch s.moving c.self.invariant.stored

pub uncount-requires-clause-right : goal.uncount-requires-clause-right
uncount-requires-clause-right c =
    let s = c.self.inside in (held_count (counted_roots s.is_counting s.roots), c.self.invariant.counted)

pub drop_uses-requires-clause-counted : goal.drop_uses-requires-clause-counted
drop_uses-requires-clause-counted c =
    let s = c.self.inside in
    let w = some_value (get s.nodes.detached c.args.number)
    (subst (λ t. IsSome (get t.detached c.args.number)) (sym c.self.view_is) c.requires.node) in
    detached_counted s.vtree s.nodes s.roots s.epoch s.moving c.self.invariant.stored c.args.number w.0 w.1

pub drop_uses-requires-clause-used : goal.drop_uses-requires-clause-used
drop_uses-requires-clause-used c =
    let s = c.self.inside in
    let w = some_value (get s.nodes.detached c.args.number)
    (subst (λ t. IsSome (get t.detached c.args.number)) (sym c.self.view_is) c.requires.node) in
    detached_used s.vtree s.nodes s.roots s.epoch s.moving c.self.invariant.stored c.args.number w.0 w.1

pub remove-requires-clause-node : goal.remove-requires-clause-node
remove-requires-clause-node c =
    let s = c.self.inside in
    let w = some_value (get s.nodes.detached c.args.number)
    (subst (λ t. IsSome (get t.detached c.args.number)) (sym c.self.view_is) c.requires.node) in
    let unused = subst (λ t. uses_of t (2050 + c.args.number) ≡ 0) (sym c.self.view_is) c.requires.unused in
    discarding_node s.vtree s.nodes s.roots s.epoch s.moving c.self.invariant.stored c.args.number w.0 w.1 unused
    c.drop_uses.new.nodes c.drop_uses.ensures.uses

pub remove-requires-clause-unused : goal.remove-requires-clause-unused
remove-requires-clause-unused c =
    let s = c.self.inside in
    let w = some_value (get s.nodes.detached c.args.number)
    (subst (λ t. IsSome (get t.detached c.args.number)) (sym c.self.view_is) c.requires.node) in
    let unused = subst (λ t. uses_of t (2050 + c.args.number) ≡ 0) (sym c.self.view_is) c.requires.unused in
    discarding_unused s.vtree s.nodes s.roots s.epoch s.moving c.self.invariant.stored c.args.number w.0 w.1 unused
    c.drop_uses.new.nodes c.drop_uses.ensures.uses

pub invariant_of-self : goal.invariant_of-self
invariant_of-self c =
    let s = c.self.inside in
    let held = held_count (counted_roots s.is_counting s.roots) in
    let w = some_value (get s.nodes.detached c.args.number)
    (subst (λ t. IsSome (get t.detached c.args.number)) (sym c.self.view_is) c.requires.node) in
    let unused = subst (λ t. uses_of t (2050 + c.args.number) ≡ 0) (sym c.self.view_is) c.requires.unused in
    let of = c.uncount.ensures.right held c.self.invariant.counted in
    let nowhere = unused_node s.vtree s.nodes s.roots s.epoch s.moving c.self.invariant.stored s.is_counting
    c.args.number unused in
    let off = c.uncount.ensures.uncounted held c.self.invariant.counted nowhere in
    record {
      stored = discarded_stored s.vtree s.nodes s.roots s.epoch s.moving c.self.invariant.stored c.args.number w.0 w.1
          unused c.drop_uses.new.nodes c.drop_uses.ensures.uses c.remove.new.self c.remove.ensures.removed
          c.remove.ensures.nodes;
      counted = counts_removed c.drop_uses.new.nodes c.remove.new.self held c.uncount.new.counts
          (counts_other_uses s.nodes c.drop_uses.new.nodes held c.uncount.new.counts of
          c.drop_uses.ensures.uses.rest)
          c.args.number off nowhere.free (let s = c.self.inside in
          let w = some_value (get s.nodes.detached c.args.number)
          (subst (λ t. IsSome (get t.detached c.args.number)) (sym c.self.view_is) c.requires.node) in
          let unused = subst (λ t. uses_of t (2050 + c.args.number) ≡ 0) (sym c.self.view_is) c.requires.unused in
          discarding_node s.vtree s.nodes s.roots s.epoch s.moving c.self.invariant.stored c.args.number w.0 w.1 unused
          c.drop_uses.new.nodes c.drop_uses.ensures.uses) c.remove.ensures.removed;
    }

pub returns-clause-discarded : goal.returns-clause-discarded
returns-clause-discarded c =
    let s = c.self.inside in
    let w = some_value (get s.nodes.detached c.args.number)
    (subst (λ t. IsSome (get t.detached c.args.number)) (sym c.self.view_is) c.requires.node) in
    let unused = subst (λ t. uses_of t (2050 + c.args.number) ≡ 0) (sym c.self.view_is) c.requires.unused in
    subst (λ t. IsDiscarded t (table_of s.vtree c.remove.new.self s.roots s.epoch s.moving) c.args.number)
    c.self.view_is
    (node_discarded s.vtree s.nodes s.roots s.epoch s.moving c.self.invariant.stored c.args.number w.0 w.1 unused
    c.drop_uses.new.nodes c.drop_uses.ensures.uses c.remove.new.self c.remove.ensures.removed c.remove.ensures.nodes)

pub returns-clause-table : goal.returns-clause-table
returns-clause-table c = (invariant_of-self c).stored.table
