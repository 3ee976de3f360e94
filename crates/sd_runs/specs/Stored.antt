-- What holds of the fields of the runs.
use Rattle.std.specs.Prelude.{◌≡◌, ℕ, ◌+◌, ◌<◌, ◌≤◌, ◌^◌, ◌==◌, List, [], ◌∷◌, length, get_or}
use Rattle.std.specs.List.{sum_by}
use Rattle.sd_runs.specs.Arena.{IsMember, HasNoCopies}
use Rattle.sd_runs.specs.Fields.{free_sum, is_in, lengths_of, no_run, stacks_of, lists_of}

-- The lists of the live runs and the lengths of all runs stand at their starts; the starts of the free runs stand at
-- their lengths.
pub record AreRunsStored (lists : List (List (ℕ × ℕ))) (lengths : List ℕ) (stacks : List (List ℕ))
    (used extent bound : ℕ) : Type 0 where
  pub same_length : length lists ≡ length lengths
  pub held : (s : ℕ) → 0 < length (get_or lists s []) → length (get_or lists s []) ≡ get_or lengths s 0
  pub within : (s : ℕ) → 0 < get_or lengths s 0 → s + get_or lengths s 0 ≤ extent
  pub apart : (s t : ℕ) → 0 < get_or lengths s 0 → 0 < get_or lengths t 0 → s < t → s + get_or lengths s 0 ≤ t
  pub sized : (n s : ℕ) → IsMember s (get_or stacks n []) → get_or lengths s 0 ≡ n
  pub at_least_one : (n s : ℕ) → IsMember s (get_or stacks n []) → 0 < n
  pub free : (n s : ℕ) → IsMember s (get_or stacks n []) → get_or lists s [] ≡ []
  pub once : (n : ℕ) → HasNoCopies (get_or stacks n [])
  pub uses : used ≡ sum_by length lists
  pub fills : sum_by (λ n. n) lengths ≡ extent
  pub whole : used + free_sum 0 stacks ≡ extent
  pub covered : extent ≤ length lists
  pub bounded : extent ≤ bound
  pub bound_fits : bound < 2 ^ 31

-- the free runs from this one on are just these: each one's first element has the next start, the last one's `no_run`
abbrev pub IsFreeChain : List (ℕ × ℕ) → ℕ → List ℕ → Type 0
IsFreeChain elements at [] = at ≡ no_run
IsFreeChain elements at (start ∷ starts) = (at ≡ start) × IsFreeChain elements (get_or elements start (0, 0)).0 starts

-- What holds of the fields themselves: the elements, their marks, and the first free run of each length.
pub record HoldsRuns (elements : List (ℕ × ℕ)) (marks heads : List ℕ) (used bound : ℕ) : Type 0 where
  pub stored : AreRunsStored (lists_of elements marks heads) (lengths_of marks) (stacks_of elements heads)
      used (length elements) bound
  pub filled : length (lengths_of marks) ≡ length elements
  pub chained : (n : ℕ) → IsFreeChain elements (get_or heads n no_run) (get_or (stacks_of elements heads) n [])
  -- each length of a run has a place
  pub placed : (s : ℕ) → 0 < get_or (lengths_of marks) s 0 → get_or (lengths_of marks) s 0 < length heads

-- The mark of an element tells whether a free run of two elements starts there.
pub record AreMarked (marks : List ℕ) (stacks : List (List ℕ)) (extent : ℕ) : Type 0 where
  pub size : length marks ≡ extent
  pub marked : (s : ℕ) → (get_or marks s 0 == 2) ≡ is_in s (get_or stacks 2 [])
