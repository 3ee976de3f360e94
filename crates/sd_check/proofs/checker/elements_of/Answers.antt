use Rattle.std.proofs.Common.{arith}
use Rattle.sd_check.proofs.Scans.{pairs_more, pairs_end}
use Rattle.sd_check.proofs.checker.elements_of.Goals as goal

-- one more
pub loop-element-preserved : goal.loop-element-preserved
loop-element-preserved c =
    pairs_more _ _ c.loop-element.element c.pair-prime.result _ _ _ _ c.pair-prime.ensures.value
    (omega (arith, c.pair-prime.ensures.earlier.prime, c.requires.all))
    (omega (arith, c.pair-prime.ensures.earlier.sub, c.requires.all)) c.index-built-prime.is c.index-built-sub.is
    c.loop-element.invariant c.in_ok-push.ensures.items

-- all
pub returns : goal.returns
returns c = pairs_end _ _ c.loop-element.element _ (omega (arith, c.requires.count)) c.loop-element.invariant
