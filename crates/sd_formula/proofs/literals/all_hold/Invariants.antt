use Rattle.std.proofs.Common.{◌≡◌, length, drop}
use Rattle.std.specs.List.{list_all}
use Rattle.sd_model.specs.Assignment.{literal_holds}
use Rattle.sd_formula.specs.Formulas.{AreLiterals}
use Rattle.sd_formula.proofs.literals.all_hold.Given as goal

-- each literal so far holds
abbrev pub invariant-loop-literal : goal.invariant-loop-literal
invariant-loop-literal l = record {
  same : list_all (literal_holds l.assignment) (drop l.literal-index l.term)
      ≡ list_all (literal_holds l.assignment) l.term;
  in_range : AreLiterals (length l.assignment) (drop l.literal-index l.term);
}
