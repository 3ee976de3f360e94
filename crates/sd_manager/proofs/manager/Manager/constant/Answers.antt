use Rattle.std.proofs.Common.{subst, sym, refl}
use Rattle.sd_model.specs.Canonical.{canonical_bottom, canonical_top}
use Rattle.sd_manager.specs.Shown.{ShowsCanonical, constant_diagram}
use Rattle.sd_manager.proofs.manager.Manager.constant.Goals as goal

pub returns-then-value-clause-shown : goal.returns-then-value-clause-shown
returns-then-value-clause-shown c =
    subst (λ b. ShowsCanonical c.args.self.now 1 (constant_diagram b)) (sym c.if-value.true)
    (record { shows = refl; canonical = canonical_top })

pub returns-else-value-clause-shown : goal.returns-else-value-clause-shown
returns-else-value-clause-shown c =
    subst (λ b. ShowsCanonical c.args.self.now 0 (constant_diagram b)) (sym c.if-value.false)
    (record { shows = refl; canonical = canonical_bottom })
