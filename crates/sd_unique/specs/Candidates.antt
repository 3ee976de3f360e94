-- The stack of candidates for removal, and for each number whether it stands there.
use Rattle.std.specs.Prelude.{◌≡◌, ℕ, ◌<◌, ◌≤◌, Bool, true, cond, List, length, slice_get, Some}
use Rattle.std.specs.List.{sum_by}

-- the number stands in the stack
abbrev pub Waits : List Bool → ℕ → Type 0
Waits flags n = slice_get flags n ≡ Some true

-- there is memory for one more flag, and on the stack for more numbers than there are flags
abbrev pub HasRoom : List Bool × (ℕ × ℕ) → Type 0
HasRoom a = (length a.0 < a.1.0) × (length a.0 < a.1.1)

-- how many numbers stand in the stack
abbrev pub waiting_count : List Bool → ℕ
waiting_count flags = sum_by (λ (b : Bool). cond b 1 0) flags

-- What holds of the fields: on the stack are different numbers, all that wait, and it has room for each with a flag.
pub record AreCandidates (numbers : List ℕ) (flags : List Bool) (room : ℕ) : Type 0 where
  pub counted : length numbers ≡ waiting_count flags
  pub waiting : (i n : ℕ) → slice_get numbers i ≡ Some n → Waits flags n
  pub apart : (i j n : ℕ) → slice_get numbers i ≡ Some n → slice_get numbers j ≡ Some n → i ≡ j
  pub fits : length flags ≤ room
