use Rattle.std.proofs.Common.{[], arith, sym, subst, ◌∙◌}
use Rattle.sd_cache.specs.Entries.{AreAmong}
use Rattle.sd_cache.proofs.Among.{among_itself, among_more}
use Rattle.sd_cache.proofs.computed.ComputedTable.grow.Goals as goal

pub returns-clause-among : goal.returns-clause-among
returns-clause-among c =
    c.refill.ensures.among c.args.self.now
    (subst (λ es. AreAmong es c.args.self.now) (sym (c.deref-2.ensures.value ∙ c.self.view_is))
    (among_itself c.args.self.now))
    (among_more c.in-Ok.wider.items [] c.args.self.now (λ e m. absurd (omega (arith, m.1)))
    c.in-Ok.ensures.blank)
