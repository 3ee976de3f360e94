use Rattle.std.proofs.Common.{◌∙◌, sym, arith}
use Rattle.sd_check.proofs.Elements.{not_false}
use Rattle.sd_check.proofs.Scans.{all_stopped, all_more, all_end, not_true}
use Rattle.sd_check.proofs.forms.are_subs_constant.Goals as goal

-- one is no constant
pub returns-then-is_inner : goal.returns-then-is_inner
returns-then-is_inner c =
    all_stopped _ _ c.loop-element.element c.pair-sub.result c.pair-sub.ensures.value
    (not_true _ (sym c.is_inner.ensures ∙ c.if-is_inner.true))

-- one more is
pub loop-element-preserved : goal.loop-element-preserved
loop-element-preserved c =
    all_more _ _ c.loop-element.element c.pair-sub.result c.pair-sub.ensures.value c.loop-element.invariant
    (not_false _ (sym c.is_inner.ensures ∙ c.if-is_inner.false))

-- all are
pub returns : goal.returns
returns c = all_end _ _ c.loop-element.element (omega (arith, c.requires.count)) c.loop-element.invariant
