use Rattle.std.proofs.Common.{sym, ap, subst, ◌∙◌}
use Rattle.sd_counts.specs.Right.{AreOf}
use Rattle.sd_manager.specs.Recounting.{MayCount}
use Rattle.sd_manager.specs.Stored.{counted_roots, held_count, held_map}
use Rattle.sd_manager.proofs.roots.Roots.count.Goals as goal

pub count_slots-requires-clause-may : goal.count_slots-requires-clause-may
count_slots-requires-clause-may c =
    let a = c.requires.may.0 in (
      a,
      subst (MayCount a) (sym (ap held_map c.as_slice.ensures.value ∙ c.self.view_is)) c.requires.may.1,
      subst (λ on. AreOf a (held_count (counted_roots on c.args.self.now)) c.args.counts.now) c.if-is_counting.false
          c.requires.may.2,
    )
