use Rattle.std.proofs.Common.{Some, sym, ap, subst, ◌∙◌}
use Rattle.sd_manager.specs.Stored.{table_of, IsKept}
use Rattle.sd_manager.proofs.BeginAndEnd.{begun_stored}
use Rattle.sd_manager.proofs.manager.Manager.begin_move.Goals as goal

pub invariant_of-self : goal.invariant_of-self
invariant_of-self c =
    let s = c.self.inside in
    subst (λ a. IsKept a s.counts s.is_counting (table_of s.vtree a s.roots s.epoch (Some c.args.place)))
    (sym c.list_places.ensures.same)
    (record {
      stored = begun_stored s.vtree s.nodes s.roots s.epoch s.moving c.args.place c.self.invariant.stored
          (ap (λ t. t.moving) c.self.view_is ∙ c.requires.still);
      counted = c.self.invariant.counted;
    })

pub returns-clause-table : goal.returns-clause-table
returns-clause-table c = (invariant_of-self c).stored.table
