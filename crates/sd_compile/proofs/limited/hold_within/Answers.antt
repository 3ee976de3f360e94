use Rattle.std.proofs.Common.{refl, ap, subst, ◌∙◌}
use Rattle.sd_manager.specs.Making.{without_root}
use Rattle.sd_compile.specs.Total.{IsTotal, IsTotalWithin}
use Rattle.sd_compile.proofs.Kept.{tried_held, without_new}
use Rattle.sd_compile.proofs.Totals.{hold_over, hold_within}
use Rattle.sd_compile.proofs.limited.hold_within.Goals as goal

pub release-requires-clause-root : goal.release-requires-clause-root
release-requires-clause-root c =
    tried_held c.args.m.now c.total_over.new.m c.in-Ok.root c.in-Ok.root c.args.node
    (c.total_over.ensures.same ∙ c.in-Ok.ensures.ok) refl

pub returns-in-None-clause-within : goal.returns-in-None-clause-within
returns-in-None-clause-within c f d is of =
    hold_within c.args.m.now c.in-Ok.root c.args.node f d c.vtree.ensures.table c.requires.no_move is of
    c.in-Ok.ensures.absent c.args.limit
    (subst (λ t. IsTotalWithin t c.args.limit) c.in-Ok.ensures.ok c.in-None.ensures.none)

pub returns-in-Some-clause-err : goal.returns-in-Some-clause-err
returns-in-Some-clause-err c f d is of = (
  hold_over c.args.m.now c.in-Ok.root c.args.node f d c.vtree.ensures.table c.requires.no_move is of
      c.in-Ok.ensures.absent c.in-Some.size
      (subst (λ t. IsTotal t c.in-Some.size) c.in-Ok.ensures.ok c.in-Some.ensures.some.1),
  c.in-Some.ensures.some.0,
)

pub returns-in-Some-clause-unchanged : goal.returns-in-Some-clause-unchanged
returns-in-Some-clause-unchanged c =
    c.release.ensures.released
    ∙ ap (λ t. without_root t c.in-Ok.root) (c.total_over.ensures.same ∙ c.in-Ok.ensures.ok)
    ∙ without_new c.args.m.now c.in-Ok.root c.args.node c.in-Ok.ensures.absent
