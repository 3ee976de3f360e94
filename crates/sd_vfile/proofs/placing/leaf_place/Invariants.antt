use Rattle.std.proofs.Common.{◌≡◌, ◌+◌, ◌-◌, ◌==◌, ◌≤◌, length, drop}
use Rattle.std.specs.List.{position_or_len}
use Rattle.sd_vfile.proofs.placing.leaf_place.Given as goal

-- no variable so far is the one that is looked for
abbrev pub invariant-loop-before : goal.invariant-loop-before
invariant-loop-before l = record {
  within : l.before ≤ length l.order;
  same : l.before + position_or_len (λ x. x == l.variable) (drop l.before l.order)
      ≡ position_or_len (λ x. x == l.variable) l.order;
}

abbrev pub decreases-loop-before : goal.decreases-loop-before
decreases-loop-before l = length l.order - l.before
