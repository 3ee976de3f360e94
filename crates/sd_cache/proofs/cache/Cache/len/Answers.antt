use Rattle.std.proofs.Common.{subst, arith}
use Rattle.sd_cache.specs.Entries.{IsCache}
use Rattle.sd_cache.proofs.cache.Cache.len.Goals as goal

pub returns-clause-cache : goal.returns-clause-cache
returns-clause-cache c = subst (λ x. IsCache x.entries) c.self.view_is (record {
  distinct = c.len.ensures.valid.0;
  within = omega (arith, c.len.ensures.valid.1, c.self.invariant.0);
  early = c.self.invariant.1;
})
