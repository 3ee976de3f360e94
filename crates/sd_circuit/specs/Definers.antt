-- Which and-line defines each variable, as a table.
use Rattle.std.specs.Prelude.{◌≡◌, ℕ, ◌+◌, ◌<◌, ◌≤◌, List, length, slice_index_or}
use Rattle.sd_model.specs.Circuit.{AndLine}
use Rattle.sd_circuit.specs.Order.{defined_at}

-- The table has the index of each and-line below a number at the variable that it defines, and no other index.
pub record AreDefiners (variables : ℕ) (ands : List AndLine) (below : ℕ) (table : List ℕ) : Type 0 where
  pub size : length table ≡ variables + 1
  pub right : (k : ℕ) → k < below → slice_index_or table (defined_at ands k) 0 ≡ k
  pub only : (variable : ℕ) → variable ≤ variables → slice_index_or table variable 0 < length ands
      → defined_at ands (slice_index_or table variable 0) ≡ variable
