use Rattle.std.proofs.Common.{◌∙◌, sym, arith}
use Rattle.sd_check.proofs.Scans.{any_found, any_none, any_end}
use Rattle.sd_check.proofs.forms.has_prime_outside.Goals as goal

-- one is outside
pub returns-then-is_prime_outside : goal.returns-then-is_prime_outside
returns-then-is_prime_outside c =
    any_found _ _ c.loop-element.element c.pair-prime.result c.pair-prime.ensures.value
    (sym c.is_prime_outside.ensures ∙ c.if-is_prime_outside.true)

-- one more is not
pub loop-element-preserved : goal.loop-element-preserved
loop-element-preserved c =
    any_none _ _ c.loop-element.element c.pair-prime.result c.pair-prime.ensures.value c.loop-element.invariant
    (sym c.is_prime_outside.ensures ∙ c.if-is_prime_outside.false)

-- none is
pub returns : goal.returns
returns c = any_end _ _ c.loop-element.element (omega (arith, c.requires.count)) c.loop-element.invariant
