use Rattle.std.proofs.Common.{ap}
use Rattle.sd_unique.specs.Nodes.{key_at}
use Rattle.sd_manager.specs.Stored.{counted_roots, held_count}
use Rattle.sd_manager.proofs.CountsKept.{counts_same_keys}
use Rattle.sd_manager.proofs.Marking.{stored_marked}
use Rattle.sd_manager.proofs.manager.Manager.set_mark.Goals as goal

pub invariant_of-self : goal.invariant_of-self
invariant_of-self c =
    let s = c.self.inside in
    let held = held_count (counted_roots s.is_counting s.roots) in
    record {
      stored = stored_marked s.vtree s.nodes c.set_mark.new.self s.roots s.epoch s.moving c.args.number c.args.value
          c.self.invariant.stored c.set_mark.ensures.mark c.set_mark.ensures.nodes;
      counted = counts_same_keys s.nodes c.set_mark.new.self held s.counts c.self.invariant.counted
          (λ n. ap (λ x. key_at x n) c.set_mark.ensures.mark) (ap (λ x. x.records) c.set_mark.ensures.mark);
    }

pub returns-clause-table : goal.returns-clause-table
returns-clause-table c = (invariant_of-self c).stored.table
