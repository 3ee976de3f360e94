-- A chain of the free runs of two elements, over the starts that are marked so.
use Rattle.std.specs.Prelude.{◌≡◌, ℕ, ◌≤◌, List, get_or, length}
use Rattle.sd_runs.specs.Arena.{IsMember, HasNoCopies}
use Rattle.sd_runs.specs.Stored.{IsFreeChain}

-- The starts that were passed and are marked as those of free runs of two elements are those of the chain from `head`
-- on; the elements at all starts without that mark are as before.
pub record IsRechainedTo (marks : List ℕ) (passed : ℕ → Type 0) (old new : List (ℕ × ℕ)) (head : ℕ) : Type 0 where
  pub starts : List ℕ
  pub chained : IsFreeChain new head starts
  pub once : HasNoCopies starts
  pub only_passed : (s : ℕ) → IsMember s starts → passed s
  pub marked : (s : ℕ) → IsMember s starts → get_or marks s 0 ≡ 2
  pub all : (s : ℕ) → passed s → get_or marks s 0 ≡ 2 → IsMember s starts
  pub others : (s : ℕ) → ¬ (get_or marks s 0 ≡ 2) → get_or new s (0, 0) ≡ get_or old s (0, 0)
  pub size : length new ≡ length old

-- all starts were passed
abbrev pub IsRechained : List ℕ → List (ℕ × ℕ) → List (ℕ × ℕ) → ℕ → Type 0
IsRechained marks old new head = IsRechainedTo marks (λ s. 0 ≤ s) old new head
