use Rattle.std.proofs.Common.{sym, subst}
use Rattle.sd_manager.specs.Stored.{table_of, counted_roots, held_count}
use Rattle.sd_manager.specs.Retiring.{IsIdle, IsRetired}
use Rattle.sd_manager.proofs.Leaving.{may_leave, left_counts, left_stored, left_retired}
use Rattle.sd_manager.proofs.CountsKept.{nodes_closed, unused_node}
use Rattle.sd_manager.proofs.CountsAfter.{linked_there}
use Rattle.sd_manager.proofs.manager.Manager.retire.Goals as goal

pub uncount-requires-clause-node : goal.uncount-requires-clause-node
uncount-requires-clause-node c =
    linked_there (c.self.inside).nodes c.args.number
    (subst (λ t. IsIdle t c.args.number) (sym c.self.view_is) c.requires.idle).linked

pub uncount-requires-clause-closed : goal.uncount-requires-clause-closed
uncount-requires-clause-closed c =
    let s = c.self.inside in nodes_closed s.vtree s.nodes s.roots s.epoch s.moving c.self.invariant.stored

pub uncount-requires-clause-right : goal.uncount-requires-clause-right
uncount-requires-clause-right c =
    let s = c.self.inside in (held_count (counted_roots s.is_counting s.roots), c.self.invariant.counted)

pub take_away-requires-clause-may : goal.take_away-requires-clause-may
take_away-requires-clause-may c =
    let s = c.self.inside in
    may_leave s.vtree s.nodes s.roots s.epoch s.moving c.self.invariant.stored c.args.number
    (subst (λ t. IsIdle t c.args.number) (sym c.self.view_is) c.requires.idle)

pub invariant_of-self : goal.invariant_of-self
invariant_of-self c =
    let s = c.self.inside in
    let held = held_count (counted_roots s.is_counting s.roots) in
    let idle = subst (λ t. IsIdle t c.args.number) (sym c.self.view_is) c.requires.idle in
    let of = c.uncount.ensures.right held c.self.invariant.counted in
    let unused = unused_node s.vtree s.nodes s.roots s.epoch s.moving c.self.invariant.stored s.is_counting
    c.args.number idle.unused
    in
    let off = c.uncount.ensures.uncounted held c.self.invariant.counted unused in
    record {
      stored = left_stored s.vtree s.nodes s.roots s.epoch s.moving c.self.invariant.stored c.args.number idle
          c.take_away.new.nodes c.take_away.ensures.left c.take_away.ensures.valid
          c.epoch_after-self-inside.result c.epoch_after-self-inside.ensures;
      counted = left_counts s.vtree s.nodes s.roots s.epoch s.moving c.self.invariant.stored c.args.number idle
          c.take_away.new.nodes c.take_away.ensures.left c.take_away.ensures.valid held
          c.uncount.new.counts of off unused.free;
    }

pub returns-clause-retired : goal.returns-clause-retired
returns-clause-retired c =
    let s = c.self.inside in
    subst (λ t. IsRetired t (table_of s.vtree c.take_away.new.nodes s.roots c.epoch_after-self-inside.result s.moving)
    c.args.number) c.self.view_is
    (left_retired s.vtree s.nodes s.roots s.epoch s.moving c.self.invariant.stored c.args.number
    (subst (λ t. IsIdle t c.args.number) (sym c.self.view_is) c.requires.idle)
    c.take_away.new.nodes c.take_away.ensures.left c.take_away.ensures.valid
    c.epoch_after-self-inside.result c.epoch_after-self-inside.ensures)

pub returns-clause-table : goal.returns-clause-table
returns-clause-table c = (invariant_of-self c).stored.table
