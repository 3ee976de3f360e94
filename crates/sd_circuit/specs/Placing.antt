-- The state of a search that places and-lines behind those that they use: those placed, and those in hand.
use Rattle.std.specs.Prelude.{◌≡◌, ◌≢◌, ℕ, suc, ◌+◌, ◌<◌, Bool, true, false, not, List, [], length, slice_index_or}
use Rattle.std.specs.List.{count_by}
use Rattle.sd_model.specs.Circuit.{AndLine}
use Rattle.sd_circuit.specs.Order.{Uses, leads_within}

-- whether a number is marked
abbrev pub is_marked : List Bool → ℕ → Bool
is_marked marks k = slice_index_or marks k false

-- how many are not marked
abbrev pub unmarked_count : List Bool → ℕ
unmarked_count marks = count_by not marks

-- The list has just the and-lines that are marked, each once and behind all that it uses.
pub record ArePlaced (ands : List AndLine) (order : List ℕ) (placed : List Bool) : Type 0 where
  pub size : length placed ≡ length ands
  pub counted : length order + unmarked_count placed ≡ length ands
  pub inside : (p : ℕ) → p < length order → slice_index_or order p 0 < length ands
  pub marked : (p : ℕ) → p < length order → is_marked placed (slice_index_or order p 0) ≡ true
  pub has : (k : ℕ) → k < length ands → is_marked placed k ≡ true
      → (p : ℕ) × (p < length order) × (slice_index_or order p 0 ≡ k)
  pub once : (p q : ℕ) → p < q → q < length order → slice_index_or order p 0 ≢ slice_index_or order q 0
  pub earlier : (place used : ℕ) → place < length order → used < length ands
      → Uses ands (slice_index_or order place 0) used
      → (before : ℕ) × (before < place) × (slice_index_or order before 0 ≡ used)

-- The stack has just the and-lines that were met and are not placed, each once, and each uses the one above it.
pub record AreInHand (ands : List AndLine) (stack : List ℕ) (met placed : List Bool) : Type 0 where
  pub size : length met ≡ length ands
  pub inside : (i : ℕ) → i < length stack → slice_index_or stack i 0 < length ands
  pub entered : (i : ℕ) → i < length stack → is_marked met (slice_index_or stack i 0) ≡ true
  pub waits : (i : ℕ) → i < length stack → is_marked placed (slice_index_or stack i 0) ≡ false
  pub once : (i j : ℕ) → i < j → j < length stack → slice_index_or stack i 0 ≢ slice_index_or stack j 0
  pub has : (k : ℕ) → k < length ands → is_marked met k ≡ true → is_marked placed k ≡ false
      → (i : ℕ) × (i < length stack) × (slice_index_or stack i 0 ≡ k)
  pub linked : (i : ℕ) → suc i < length stack → Uses ands (slice_index_or stack i 0) (slice_index_or stack (suc i) 0)

-- the state of the search
pub record IsPlacing (ands : List AndLine) (order stack : List ℕ) (met placed : List Bool) : Type 0 where
  pub done : ArePlaced ands order placed
  pub hand : AreInHand ands stack met placed

-- what is marked stays so
abbrev pub StayMarked : List Bool → List Bool → Type 0
StayMarked old new = (k : ℕ) → is_marked old k ≡ true → is_marked new k ≡ true

-- what is left to do: each and-line is met once and placed once
abbrev pub placing_work : List Bool → List Bool → ℕ
placing_work met placed = unmarked_count met + unmarked_count placed

-- some and-line leads to itself
abbrev pub HasCycle : List AndLine → Type 0
HasCycle ands = (k : ℕ) × (k < length ands) × ((n : ℕ) × (leads_within ands n k k ≡ true))

-- The search began with this and-line, and what was placed before is placed.
pub record BeganAt (ands : List AndLine) (order stack : List ℕ) (met placed before : List Bool) (k : ℕ) : Type 0 where
  pub state : IsPlacing ands order stack met placed
  pub entered : is_marked met k ≡ true
  pub kept : StayMarked before placed

-- No and-line is in hand, and those below a number are placed.
pub record HasPlacedBelow (ands : List AndLine) (order stack : List ℕ) (met placed : List Bool) (n : ℕ) : Type 0 where
  pub state : IsPlacing ands order stack met placed
  pub empty : stack ≡ []
  pub below : (k : ℕ) → k < n → is_marked placed k ≡ true
