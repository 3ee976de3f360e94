use Rattle.std.proofs.Common.{◌≡◌, length, drop}
use Rattle.sd_model.specs.declared.trees.Operation.TheVariants.{Xor}
use Rattle.sd_model.specs.Expression.{combine, odd_hold}
use Rattle.sd_formula.specs.Formulas.{AreLiterals}
use Rattle.sd_formula.proofs.literals.odd_hold.Given as goal

-- the parity so far, joined with that of the literals that are left, is that of all
abbrev pub invariant-loop-literal : goal.invariant-loop-literal
invariant-loop-literal l = record {
  same : combine Xor l.odd (odd_hold l.assignment (drop l.literal-index l.group)) ≡ odd_hold l.assignment l.group;
  in_range : AreLiterals (length l.assignment) (drop l.literal-index l.group);
}
