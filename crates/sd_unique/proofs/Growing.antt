-- Heads of so many empty chains.
use Rattle.std.proofs.Common.{◌≡◌, ℕ, suc, zero, replicate, refl}
use Rattle.sd_unique.specs.Chains.{head_of, no_record}

-- no head leads to a record
pub no_heads : (n b : ℕ) → head_of (replicate n no_record) b ≡ no_record
no_heads zero b = refl
no_heads (suc n) zero = refl
no_heads (suc n) (suc b) = no_heads n b
