use Rattle.std.proofs.Common.{◌-◌, ◌<◌, ◌≤◌, ◌⊎◌, length, inl, refl, arith}
use Rattle.sd_runs.proofs.Places.{by_cases}
use Rattle.sd_unique.proofs.Rechaining.{rechained_same}
use Rattle.sd_unique.proofs.Cutting.{all_kept}
use Rattle.sd_unique.proofs.Hashes.{hashed_kept}
use Rattle.sd_unique.proofs.chaining.chain_part.Goals as goal

pub loop-number-init : goal.loop-number-init
loop-number-init c =
    record {
      kept = all_kept c.args.records.now;
      size = refl;
      chained = rechained_same c.args.runs.now c.args.records.now (λ n. n < c.args.below)
          (λ n. (n < c.args.below) ⊎ ((c.args.above ≤ n) × (n < c.args.above))) (length c.args.heads.now - 1)
          c.args.heads.now (λ n h. inl h) (λ n. by_cases (λ h. h) (λ h. absurd (omega (arith, h.0, h.1))))
          c.requires.chained;
    }

pub chain_one-requires-clause-hashed : goal.chain_one-requires-clause-hashed
chain_one-requires-clause-hashed c =
    hashed_kept c.args.runs.now c.args.records.now c.loop-number.records c.args.hashes.now c.loop-number.invariant.kept
    c.requires.hashed
