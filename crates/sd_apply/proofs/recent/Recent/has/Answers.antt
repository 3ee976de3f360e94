use Rattle.std.proofs.Common.{ℕ, subst}
use Rattle.sd_cache.specs.Entries.{call}
use Rattle.sd_apply.specs.Serving.{IsRight}
use Rattle.sd_apply.proofs.Opposite.{from_test}
use Rattle.sd_apply.proofs.recent.Recent.has.Goals as goal

pub returns-in-Some : goal.returns-in-Some
returns-in-Some c = λ same t k.
    let R : ℕ → Type 0 = λ r. IsRight t (call 0 c.args.operation c.args.a c.args.b, r) in
    subst R (from_test c.in-Some.code c.args.answer same) (c.in-Some.ensures.right t k)
