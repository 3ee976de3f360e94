-- Each value of one list with each of another.
use Rattle.std.specs.Prelude.{Bool, cond, List, [], ◌∷◌, ◌++◌, map}

-- a value with each of a list, if its prime is true
abbrev pub row : (Bool → Bool → Bool) → Bool → Bool → List Bool → List Bool
row op prime sub bs = cond prime (map (op sub) bs) []

-- each value of the one list with each of the other
abbrev pub products : (Bool → Bool → Bool) → List Bool → List Bool → List Bool
products op [] bs = []
products op (c ∷ cs) bs = map (op c) bs ++ products op cs bs
