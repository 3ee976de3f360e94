-- A new cache serves, and a list that is read as a slice.
use Rattle.std.proofs.Common.{◌≡◌, ℕ, Bool, List, sym, subst, arith}
use Rattle.sd_cache.specs.Entries.{Answers, no_answers}
use Rattle.sd_manager.specs.Table.{Table}
use Rattle.sd_apply.specs.Serving.{Serves}
use Rattle.sd_apply.specs.Partitions.{IsPartitionOf}

-- a new cache serves each manager
pub empty_serves : (c : Answers) (t : Table) → c ≡ no_answers → Serves c t
empty_serves c t e =
    subst (λ es. Serves es t) (sym e)
    (record {
      early = λ x m. absurd (omega (arith, m.1));
      right = λ n x m. absurd (omega (arith, m.1));
      computed_early = omega arith;
      computed_right = λ n k x m. absurd (omega (arith, m.1));
    })

-- a list that is read as a slice
pub listed_slice : (t : Table) (r : ℕ) (l k : List (ℕ × ℕ)) (f : List Bool → Bool) → IsPartitionOf t r l f → k ≡ l →
    IsPartitionOf t r k f
listed_slice t r l k f h same = subst (λ v. IsPartitionOf t r v f) (sym same) h
