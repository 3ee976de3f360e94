use Rattle.std.proofs.Common.{ap, subst, sym, ◌∙◌, arith}
use Rattle.sd_manager.specs.Stored.{table_of, counted_roots, held_count, IsKept}
use Rattle.sd_manager.proofs.Holding.{known_counted, counted_is, held_is_used, stored_release}
use Rattle.std.specs.FinMap.{remove}
use Rattle.sd_manager.proofs.CountsKept.{counts_other_uses}
use Rattle.sd_manager.proofs.CountedRoots.{counted_left, counted_live}
use Rattle.sd_manager.proofs.manager.Manager.release.Goals as goal

pub drop_use-requires-clause-counted : goal.drop_use-requires-clause-counted
drop_use-requires-clause-counted c =
    let s = c.self.inside in
    let still = ap (λ t. t.moving) c.self.view_is ∙ c.requires.no_move in
    known_counted s.vtree s.nodes s.roots s.epoch s.moving c.release-held.result c.self.invariant.stored.table.numbered
    (c.self.invariant.stored.table.held still c.args.root c.release-held.result c.release-held.ensures.held)

pub drop_use-requires-clause-used : goal.drop_use-requires-clause-used
drop_use-requires-clause-used c = λ least.
    let s = c.self.inside in
    omega (
      arith,
      counted_is s.vtree s.nodes s.roots s.epoch s.moving c.release-held.result c.self.invariant.stored
          (drop_use-requires-clause-counted c) least,
      held_is_used (table_of s.vtree s.nodes s.roots s.epoch s.moving) c.args.root c.release-held.result
          c.release-held.ensures.held,
    )

pub uncount_one-requires : goal.uncount_one-requires
uncount_one-requires c =
    let s = c.self.inside in
    record {
      used = counted_live s.nodes s.roots s.counts s.is_counting c.self.invariant.counted c.args.root
          c.release-held.result c.release-held.ensures.held;
    }

pub invariant_of-self : goal.invariant_of-self
invariant_of-self c =
    let s = c.self.inside in
    let still = ap (λ t. t.moving) c.self.view_is ∙ c.requires.no_move in
    subst (λ m. IsKept c.drop_use.new.nodes c.uncount_one.new.counts s.is_counting
    (table_of s.vtree c.drop_use.new.nodes m s.epoch s.moving))
    (sym c.release-held.ensures.removed)
    (record {
      stored = stored_release s.vtree s.nodes s.roots s.epoch s.moving c.self.invariant.stored still
          c.drop_use.new.nodes c.args.root c.release-held.result c.release-held.ensures.held c.drop_use.ensures.uses
          c.drop_use.ensures.valid;
      counted = counts_other_uses s.nodes c.drop_use.new.nodes
          (held_count (counted_roots s.is_counting (remove s.roots c.args.root))) c.uncount_one.new.counts
          (counted_left s.nodes s.roots s.counts s.is_counting c.self.invariant.counted c.args.root
          c.release-held.result c.release-held.ensures.held c.uncount_one.new.counts c.uncount_one.ensures.released
          c.uncount_one.ensures.same) c.drop_use.ensures.uses.rest;
    })

pub returns-clause-table : goal.returns-clause-table
returns-clause-table c = (invariant_of-self c).stored.table
