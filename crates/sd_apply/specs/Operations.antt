-- The operations by their numbers, and the value of each: 0 to 6 are and, or, exclusive or,
-- negation, given, forget and difference.
use Rattle.std.specs.Prelude.{ℕ, Bool, true, false, not, ◌&&◌, ◌||◌, List, ◌==◌, if◌then◌else◌}
use Rattle.sd_model.specs.declared.trees.Operation.{Operation}
use Rattle.sd_model.specs.declared.trees.Operation.TheVariants.{And, Or, Xor}
use Rattle.sd_model.specs.Assignment.{with_value}
use Rattle.sd_model.specs.Diagram.{Diagram, Literal, meaning}
use Rattle.sd_model.specs.Expression.{combine}

-- the value of x where the literal y holds
abbrev pub given_value : Diagram → Diagram → List Bool → Bool
given_value x (Literal p v positive) a = meaning x (with_value a v positive)
given_value x _ a = meaning x a

-- the value of x under one of the two values of the variable of y
abbrev pub forgotten_value : Diagram → Diagram → List Bool → Bool
forgotten_value x (Literal p v positive) a = meaning x (with_value a v true) || meaning x
    (with_value a v false)
forgotten_value x _ a = meaning x a

-- the value of the operation with this number at two diagrams; negation does not look at the second
abbrev pub operation_value : ℕ → Diagram → Diagram → List Bool → Bool
operation_value n x y a =
    if n == 0 then combine And (meaning x a) (meaning y a)
    else (if n == 1 then combine Or (meaning x a) (meaning y a)
    else (if n == 2 then combine Xor (meaning x a) (meaning y a)
    else (if n == 3 then not (meaning x a)
    else (if n == 4 then given_value x y a
    else (if n == 5 then forgotten_value x y a else meaning x a && not (meaning y a))))))

-- ---- for the contracts of private functions

-- the number of a connective
abbrev pub operation_number : Operation → ℕ
operation_number And = 0
operation_number Or = 1
operation_number Xor = 2
