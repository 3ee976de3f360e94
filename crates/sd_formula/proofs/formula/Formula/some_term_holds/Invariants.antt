use Rattle.std.proofs.Common.{◌≡◌, drop}
use Rattle.std.specs.List.{list_any, list_all}
use Rattle.sd_model.specs.Assignment.{literal_holds}
use Rattle.sd_formula.proofs.formula.Formula.some_term_holds.Given as goal

-- no term so far holds
abbrev pub invariant-loop-index : goal.invariant-loop-index
invariant-loop-index l =
    list_any (λ term. list_all (literal_holds l.assignment) term.literals) (drop l.index l.self.groups)
    ≡ list_any (λ term. list_all (literal_holds l.assignment) term.literals) l.self.groups
