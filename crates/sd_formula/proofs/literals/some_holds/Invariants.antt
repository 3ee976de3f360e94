use Rattle.std.proofs.Common.{◌≡◌, length, drop}
use Rattle.std.specs.List.{list_any}
use Rattle.sd_model.specs.Assignment.{literal_holds}
use Rattle.sd_formula.specs.Formulas.{AreLiterals}
use Rattle.sd_formula.proofs.literals.some_holds.Given as goal

-- no literal so far holds
abbrev pub invariant-loop-literal : goal.invariant-loop-literal
invariant-loop-literal l = record {
  same : list_any (literal_holds l.assignment) (drop l.literal-index l.clause)
      ≡ list_any (literal_holds l.assignment) l.clause;
  in_range : AreLiterals (length l.assignment) (drop l.literal-index l.clause);
}
