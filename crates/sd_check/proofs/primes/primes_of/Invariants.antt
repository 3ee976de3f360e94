use Rattle.std.proofs.Common.{◌≡◌, map, take}
use Rattle.sd_check.proofs.primes.primes_of.Given as goal

-- the first primes
abbrev pub invariant-loop-element : goal.invariant-loop-element
invariant-loop-element l = l.primes.items ≡ map (λ e. e.0) (take l.element-index l.elements)
