use Rattle.std.proofs.Common.{sym, subst}
use Rattle.std.specs.Option.{IsSome}
use Rattle.std.specs.FinMap.{get}
use Rattle.sd_manager.specs.Moving.{IsTop}
use Rattle.sd_manager.proofs.DetachedFrom.{detached_stored}
use Rattle.sd_manager.specs.Stored.{counted_roots, held_count}
use Rattle.sd_manager.proofs.CountsAfter.{counts_detached}
use Rattle.sd_manager.proofs.manager.Manager.detach.Goals as goal

pub invariant_of-self : goal.invariant_of-self
invariant_of-self c =
    let s = c.self.inside in
    let held = held_count (counted_roots s.is_counting s.roots) in
    let same = sym c.self.view_is in
    let linked = subst (λ t. IsSome (get t.linked c.args.number)) same c.requires.linked in
    record {
      stored = detached_stored s.vtree s.nodes s.roots s.epoch s.moving c.self.invariant.stored c.args.number linked
          c.unlink.new.self c.unlink.ensures.unlinked c.unlink.ensures.nodes
          (subst (λ t. IsSome t.moving) same c.requires.moving) (subst (λ t. IsTop t c.args.number) same
          c.requires.top);
      counted = counts_detached s.nodes c.unlink.new.self held s.counts c.self.invariant.counted
          c.args.number linked c.unlink.ensures.unlinked;
    }

pub returns-clause-table : goal.returns-clause-table
returns-clause-table c = (invariant_of-self c).stored.table
