-- Worked examples: the parts of a formula of two terms.
use Rattle.std.proofs.Common.{◌≡◌, List, [], ◌∷◌, ℤ, refl, false}
use Rattle.std.specs.Prelude.{pos}
use Rattle.sd_model.specs.Expression.{Group}
use Rattle.sd_formula.specs.Dimacs.{Groups}
use Rattle.sd_formula.specs.declared.formula.Kind.TheVariants.{Dnf}
use Rattle.sd_parts.specs.Parts.{part_begin, part_of}

-- a term, and a formula of terms over four variables
abbrev term : List ℤ → Group
term literals = record { exclusive = false; literals = literals }

abbrev over_four : List Group → Groups
over_four groups = record { kind = Dnf; variables = 4; groups = groups }

-- the first two variables hold, or the last two
abbrev two_terms : Groups
two_terms = over_four (term (pos 1 ∷ pos 2 ∷ []) ∷ term (pos 3 ∷ pos 4 ∷ []) ∷ [])

-- two parts have a term each
first_of_two : part_of two_terms 2 0 ≡ over_four (term (pos 1 ∷ pos 2 ∷ []) ∷ [])
first_of_two = refl

second_of_two : part_of two_terms 2 1 ≡ over_four (term (pos 3 ∷ pos 4 ∷ []) ∷ [])
second_of_two = refl

-- of three the first has none
first_of_three : part_of two_terms 3 0 ≡ over_four []
first_of_three = refl

second_of_three : part_of two_terms 3 1 ≡ over_four (term (pos 1 ∷ pos 2 ∷ []) ∷ [])
second_of_three = refl

third_of_three : part_of two_terms 3 2 ≡ over_four (term (pos 3 ∷ pos 4 ∷ []) ∷ [])
third_of_three = refl

-- ten groups in four parts: 2, 3, 2 and 3 of them
quarters : part_begin 10 4 0 ∷ part_begin 10 4 1 ∷ part_begin 10 4 2 ∷ part_begin 10 4 3 ∷ part_begin 10 4 4 ∷ []
    ≡ 0 ∷ 2 ∷ 5 ∷ 7 ∷ 10 ∷ []
quarters = refl
