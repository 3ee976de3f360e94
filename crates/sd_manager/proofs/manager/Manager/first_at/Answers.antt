use Rattle.std.proofs.Common.{◌∙◌, sym, ap, subst, Some}
use Rattle.sd_manager.specs.Places.{IsLinkedAt}
use Rattle.sd_manager.proofs.Found.{if_none}
use Rattle.sd_manager.proofs.manager.Manager.first_at.Goals as goal

pub returns-clause-none : goal.returns-clause-none
returns-clause-none c =
    if_none c.first_at.result c.first_at.ensures.none (λ none n h.
    let at = subst (λ t. IsLinkedAt t c.args.place n) (sym c.self.view_is) h in
    none n (record { list = at.list; is = at.is ∙ ap (λ p. Some (p, at.list)) (sym c.place.view_is) }))
