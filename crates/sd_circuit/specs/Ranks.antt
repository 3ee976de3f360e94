-- What ranks of and-lines, which may be any numbers, tell of cycles.
use Rattle.std.specs.Prelude.{ℕ, ◌<◌, ◌≤◌, List, length, slice_index_or}
use Rattle.sd_model.specs.Circuit.{AndLine}
use Rattle.sd_circuit.specs.Order.{Uses}

-- no and-line uses one of a greater rank
abbrev pub NeverRise : List AndLine → List ℕ → Type 0
NeverRise ands ranks = (k used : ℕ) → k < length ands → used < length ands → Uses ands k used
    → slice_index_or ranks used 0 ≤ slice_index_or ranks k 0

-- all that an and-line uses is of a rank below a number
abbrev pub UsesBelow : List AndLine → List ℕ → ℕ → ℕ → Type 0
UsesBelow ands ranks k bound = (used : ℕ) → used < length ands → Uses ands k used → slice_index_or ranks used 0 < bound

-- each and-line before this one uses lesser ranks alone
abbrev pub FallBefore : List AndLine → List ℕ → ℕ → Type 0
FallBefore ands ranks line = (k : ℕ) → k < line → UsesBelow ands ranks k (slice_index_or ranks k 0)
