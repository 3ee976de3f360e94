-- Worked examples: a part of a formula of four groups, and formulas without groups.
use Rattle.std.proofs.Common.{◌≡◌, Bool, true, false, List, [], ◌∷◌, ℤ, refl}
use Rattle.std.specs.Prelude.{pos, negsuc}
use Rattle.sd_model.specs.Expression.{Group, expression_value}
use Rattle.sd_formula.specs.Dimacs.{Groups}
use Rattle.sd_formula.specs.Formulas.{expression_of, no_groups, groups_part}
use Rattle.sd_formula.specs.declared.formula.Kind.TheVariants.{Cnf, Dnf}

-- a clause, and an exclusive group
abbrev clause : List ℤ → Group
clause literals = record { exclusive = false; literals = literals }

abbrev parity : List ℤ → Group
parity literals = record { exclusive = true; literals = literals }

-- these groups, over three variables
abbrev over_three : List Group → Groups
over_three groups = record { kind = Cnf; variables = 3; groups = groups }

-- four groups, of which the second is exclusive and the third is empty
abbrev four : Groups
four = over_three (clause (pos 1 ∷ negsuc 1 ∷ []) ∷ parity (pos 2 ∷ pos 3 ∷ []) ∷ clause []
    ∷ clause (negsuc 0 ∷ []) ∷ [])

-- the second and the third of them
middle_part : groups_part four 1 3 ≡ over_three (parity (pos 2 ∷ pos 3 ∷ []) ∷ clause [] ∷ [])
middle_part = refl

-- the last
last_part : groups_part four 3 4 ≡ over_three (clause (negsuc 0 ∷ []) ∷ [])
last_part = refl

-- all, and none
whole_part : groups_part four 0 4 ≡ four
whole_part = refl

empty_part : groups_part four 2 2 ≡ no_groups Cnf 3
empty_part = refl

-- without groups a CNF is true and a DNF is false
empty_cnf : (a : List Bool) → expression_value (expression_of (no_groups Cnf 3)) a ≡ true
empty_cnf a = refl

empty_dnf : (a : List Bool) → expression_value (expression_of (no_groups Dnf 3)) a ≡ false
empty_dnf a = refl
