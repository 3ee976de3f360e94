-- The state of a search for what an and-line leads to.
use Rattle.std.specs.Prelude.{◌≡◌, ◌⊎◌, ℕ, ◌+◌, ◌<◌, ◌≤◌, Bool, true, false, List, [], ◌∷◌, ◌++◌, length}
use Rattle.std.specs.Prelude.{slice_index_or, slice_set}
use Rattle.sd_model.specs.Circuit.{AndLine}
use Rattle.sd_circuit.specs.Order.{Uses, leads_within}
use Rattle.sd_circuit.specs.Placing.{is_marked, unmarked_count}

-- The queue has just the and-lines that are marked, and each is reached within as many steps as its place says.
pub record AreReached (ands : List AndLine) (source : ℕ) (queue : List ℕ) (marks : List Bool) : Type 0 where
  pub size : length marks ≡ length ands
  pub counted : length queue + unmarked_count marks ≡ length ands
  pub inside : (j : ℕ) → j < length queue → slice_index_or queue j 0 < length ands
  pub has : (k : ℕ) → k < length ands → is_marked marks k ≡ true
      → (j : ℕ) × (j < length queue) × (slice_index_or queue j 0 ≡ k)
  pub reached : (j : ℕ) → j < length queue → leads_within ands j source (slice_index_or queue j 0) ≡ true

-- The queue and the marks were added to.
pub record AddsTo (old new : List ℕ) (marks marks' : List Bool) : Type 0 where
  pub longer : length old ≤ length new
  pub same : (j : ℕ) → j < length old → slice_index_or new j 0 ≡ slice_index_or old j 0
  pub kept : (k : ℕ) → is_marked marks k ≡ true → is_marked marks' k ≡ true

-- all that an and-line uses is marked
abbrev pub AreUsesMarked : List AndLine → List Bool → ℕ → Type 0
AreUsesMarked ands marks k = (used : ℕ) → used < length ands → Uses ands k used → is_marked marks used ≡ true

-- all that the first and-lines of the queue use is marked
abbrev pub AreExpanded : List AndLine → List ℕ → List Bool → ℕ → Type 0
AreExpanded ands queue marks next = (j : ℕ) → j < next → AreUsesMarked ands marks (slice_index_or queue j 0)

-- the number is marked and comes to the end of the queue, unless it is marked already or too great
abbrev pub Marks : ℕ → List ℕ → List ℕ → List Bool → List Bool → Type 0
Marks k old new marks marks' =
    ((new ≡ old) × (marks' ≡ marks) × (k < length marks → is_marked marks k ≡ true))
    ⊎ ((k < length marks) × (is_marked marks k ≡ false) × (new ≡ old ++ k ∷ []) × (marks' ≡ slice_set marks k true))

-- What the first and-lines of the queue use is marked, and what the source uses.
pub record IsReaching (ands : List AndLine) (source : ℕ) (queue : List ℕ) (marks : List Bool) (next : ℕ) : Type 0 where
  pub state : AreReached ands source queue marks
  pub begun : AreUsesMarked ands marks source
  pub expanded : AreExpanded ands queue marks next
