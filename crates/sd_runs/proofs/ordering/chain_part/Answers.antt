use Rattle.std.proofs.Common.{◌-◌, ◌<◌, ◌≤◌, ◌⊎◌, refl, inl, inr, ◌∙◌, arith}
use Rattle.std.proofs.lemmas.Bool.{cases_lt}
use Rattle.std.proofs.lemmas.List.{length-set}
use Rattle.sd_runs.proofs.Places.{by_cases}
use Rattle.sd_runs.proofs.Rechained.{one_down, rechained_pass, rechained_next, rechained_same}
use Rattle.sd_runs.proofs.ordering.chain_part.Goals as goal

pub loop-start-init : goal.loop-start-init
loop-start-init c =
    record {
      least = c.requires.part;
      inside = omega arith;
      size = refl;
      chained = λ first r. rechained_same c.args.marks.now (λ s. s < c.args.below)
          (λ s. (s < c.args.below) ⊎ ((c.args.above ≤ s) × (s < c.args.above))) first c.args.elements.now c.args.head
          (λ s h. inl h) (λ s. by_cases (λ h. h) (λ h. absurd (omega (arith, h.0, h.1)))) r;
    }

pub loop-start-preserved-then-marks-start-eq-FREE_TWO : goal.loop-start-preserved-then-marks-start-eq-FREE_TWO
loop-start-preserved-then-marks-start-eq-FREE_TWO c =
    record {
      least = omega (arith, c.loop-start-test.true);
      inside = omega (arith, c.loop-start.invariant.inside);
      size = length-set c.loop-start.elements (c.loop-start.start - 1) (c.loop-start.head, 0)
          ∙ c.loop-start.invariant.size;
      chained = λ first r. rechained_next c.args.marks.now
          (λ s. (s < c.args.below) ⊎ ((c.loop-start.start ≤ s) × (s < c.args.above)))
          (λ s. (s < c.args.below) ⊎ ((c.loop-start.start - 1 ≤ s) × (s < c.args.above)))
          first c.loop-start.elements c.loop-start.head (c.loop-start.start - 1)
          (one_down c.args.below c.args.above c.loop-start.start (c.loop-start.start - 1)
          (omega (arith, c.loop-start-test.true)) c.loop-start-test.true c.loop-start.invariant.inside)
          (c.loop-start.invariant.chained first r) c.if-marks-start-eq-FREE_TWO.true
          (omega (
            arith,
            c.loop-start-test.true,
            c.loop-start.invariant.inside,
            c.loop-start.invariant.size,
            c.requires.inside,
            c.requires.size,
          ));
    }

pub loop-start-preserved : goal.loop-start-preserved
loop-start-preserved c =
    record {
      least = omega (arith, c.loop-start-test.true);
      inside = omega (arith, c.loop-start.invariant.inside);
      size = c.loop-start.invariant.size;
      chained = λ first r. rechained_pass c.args.marks.now
          (λ s. (s < c.args.below) ⊎ ((c.loop-start.start ≤ s) × (s < c.args.above)))
          (λ s. (s < c.args.below) ⊎ ((c.loop-start.start - 1 ≤ s) × (s < c.args.above)))
          first c.loop-start.elements c.loop-start.head (c.loop-start.start - 1)
          (one_down c.args.below c.args.above c.loop-start.start (c.loop-start.start - 1)
          (omega (arith, c.loop-start-test.true)) c.loop-start-test.true c.loop-start.invariant.inside)
          (c.loop-start.invariant.chained first r) c.if-marks-start-eq-FREE_TWO.false;
    }

pub returns-clause-chained : goal.returns-clause-chained
returns-clause-chained c first r =
    rechained_same c.args.marks.now (λ s. (s < c.args.below) ⊎ ((c.loop-start.start ≤ s) × (s < c.args.above)))
    (λ s. s < c.args.above) first c.loop-start.elements c.loop-start.head
    (λ s. by_cases (λ h. omega (arith, h, c.requires.part)) (λ h. h.1))
    (λ s h. by_cases
    (λ less. inl less)
    (λ from. inr (omega (arith, from, c.loop-start-test.false), h))
    (cases_lt s c.args.below))
    (c.loop-start.invariant.chained first r)
