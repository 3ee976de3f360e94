-- The terminal cases of the operations, for the contracts of private functions: answers that need no node.
use Rattle.std.specs.Prelude.{ℕ, ◌+◌, ◌-◌, ◌/◌, ◌%◌, ◌&&◌, ◌==◌, nat_lt, Option, Some, None}
use Rattle.std.specs.Prelude.{if◌then◌else◌}
use Rattle.sd_model.specs.declared.trees.Operation.{Operation}
use Rattle.sd_model.specs.declared.trees.Operation.TheVariants.{And, Or, Xor}

-- the answer of the connective with this number where the codes are equal, where one is constant,
-- and where they are the two literals of a variable
abbrev pub terminal_of : ℕ → ℕ → ℕ → Option ℕ
terminal_of n a b =
    if a == b then (if n == 2 then Some 0 else Some a)
    else (if a == 0 then (if n == 0 then Some 0 else Some b)
    else (if b == 0 then (if n == 0 then Some 0 else Some a)
    else (if a == 1 then (if n == 0 then Some b else (if n == 1 then Some 1 else None))
    else (if b == 1 then (if n == 0 then Some a else (if n == 1 then Some 1 else None))
    else (if (a / 2 == b / 2) && nat_lt a 2050 then (if n == 0 then Some 0 else Some 1) else
    None)))))

-- the negation of a constant or a literal
abbrev pub opposite_of : ℕ → Option ℕ
opposite_of a =
    if nat_lt a 2 then Some (1 - a)
    else (if nat_lt a 2050 then (if a % 2 == 0 then Some (a + 1) else Some (a - 1)) else None)

-- the answer of a connective at a node and its negation
abbrev pub opposites_code : Operation → ℕ
opposites_code And = 0
opposites_code Or = 1
opposites_code Xor = 1

-- the code of the value that decides a connective: beside it, it comes out
abbrev pub deciding_code : Operation → Option ℕ
deciding_code And = Some 0
deciding_code Or = Some 1
deciding_code Xor = None
