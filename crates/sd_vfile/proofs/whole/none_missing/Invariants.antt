use Rattle.std.proofs.Common.{◌≡◌, ◌+◌, ◌≤◌}
use Rattle.sd_vfile.specs.Reads.{missing, none_missing}
use Rattle.sd_vfile.specs.Steps.{entries_of}
use Rattle.sd_vfile.proofs.Roots.{missing_from}
use Rattle.sd_vfile.proofs.whole.none_missing.Given as goal

-- each variable so far has a leaf
abbrev pub invariant-loop-variable : goal.invariant-loop-variable
invariant-loop-variable l = record {
  low : 1 ≤ l.variable;
  high : l.variable ≤ l.variables + 1;
  same : none_missing (missing_from (entries_of l.forms) l.variable l.variables)
      ≡ none_missing (missing l.variables (entries_of l.forms));
}
