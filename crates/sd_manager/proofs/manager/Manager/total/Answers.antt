use Rattle.std.proofs.Common.{◌∙◌, ap, sym, subst}
use Rattle.sd_manager.specs.Stored.{table_of, held_count}
use Rattle.sd_manager.specs.Total.{IsTotal}
use Rattle.sd_manager.proofs.CountsKept.{nodes_closed}
use Rattle.sd_manager.proofs.CountedRoots.{may_count}
use Rattle.sd_manager.proofs.Totalled.{total_is}
use Rattle.sd_manager.proofs.manager.Manager.total.Goals as goal

pub count-requires : goal.count-requires
count-requires c =
    let s = c.self.inside in
    let still = ap (λ t. t.moving) c.self.view_is ∙ c.requires.no_move in
    record {
      may = (
        s.nodes,
        may_count s.vtree s.nodes s.roots s.epoch s.moving c.self.invariant.stored still,
        c.self.invariant.counted,
      );
    }

pub settle-requires-clause-closed : goal.settle-requires-clause-closed
settle-requires-clause-closed c =
    let s = c.self.inside in nodes_closed s.vtree s.nodes s.roots s.epoch s.moving c.self.invariant.stored

pub settle-requires-clause-right : goal.settle-requires-clause-right
settle-requires-clause-right c =
    let s = c.self.inside in
    let still = ap (λ t. t.moving) c.self.view_is ∙ c.requires.no_move in (
      held_count s.roots,
      c.count.ensures s.nodes (may_count s.vtree s.nodes s.roots s.epoch s.moving c.self.invariant.stored still)
          c.self.invariant.counted,
    )

pub invariant_of-self : goal.invariant_of-self
invariant_of-self c =
    let s = c.self.inside in
    let still = ap (λ t. t.moving) c.self.view_is ∙ c.requires.no_move in
    record {
      stored = c.self.invariant.stored;
      counted = c.settle.ensures.right (held_count s.roots)
          (c.count.ensures s.nodes (may_count s.vtree s.nodes s.roots s.epoch s.moving c.self.invariant.stored still)
          c.self.invariant.counted);
    }

pub returns-clause-total : goal.returns-clause-total
returns-clause-total c =
    let s = c.self.inside in
    let still = ap (λ t. t.moving) c.self.view_is ∙ c.requires.no_move in
    subst (λ t. IsTotal t c.total.result) c.self.view_is
    (subst (IsTotal (table_of s.vtree s.nodes s.roots s.epoch s.moving)) (sym c.total.ensures)
    (total_is s.vtree s.nodes s.roots s.epoch s.moving c.self.invariant.stored still c.settle.new.self
    (invariant_of-self c).counted c.settle.ensures.settled))

pub returns-clause-table : goal.returns-clause-table
returns-clause-table c = (invariant_of-self c).stored.table
