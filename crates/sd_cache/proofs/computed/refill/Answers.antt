use Rattle.std.proofs.Common.{◌≡◌, ℕ, ◌⊎◌, Contains, arith, length-set, sym, subst}
use Rattle.std.proofs.lemmas.List.Elements.{All-set}
use Rattle.sd_cache.specs.Entries.{Call, blank}
use Rattle.sd_cache.proofs.computed.refill.Goals as goal

pub loop-i-preserved : goal.loop-i-preserved
loop-i-preserved c = (
  omega (arith, length-set {A = Call × ℕ}, c.loop-i.invariant.0),
  omega (arith, length-set {A = Call × ℕ}, c.loop-i.invariant.1),
  λ es h w. All-set (λ e. (e ≡ blank) ⊎ Contains es e) c.loop-i.wider.items c.entry_of-index.result
      c.index-old-i.result
      (subst (λ e. (e ≡ blank) ⊎ Contains es e) (sym c.index-old-i.is)
      (h c.loop-i.i c.index-old-i.result c.loop-i-test.true)) (c.loop-i.invariant.2 es h w),
)
