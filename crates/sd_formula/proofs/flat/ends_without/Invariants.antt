use Rattle.std.proofs.Common.{◌≡◌, ◌≤◌, take, drop, map}
use Rattle.std.specs.List.{AllByRecursion}
use Rattle.sd_formula.specs.Flat.{end_without}
use Rattle.sd_formula.proofs.flat.ends_without.Given as goal

-- the ends so far are moved, and the others are behind
abbrev pub invariant-loop-end : goal.invariant-loop-end
invariant-loop-end l = record {
  so_far : l.moved.items ≡ map (end_without l.before) (take l.end-index l.ends);
  behind : AllByRecursion (λ end. l.before ≤ end.index) (drop l.end-index l.ends);
}
