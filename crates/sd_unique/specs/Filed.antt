-- Numbers filed in chains: the chain from each head, and which numbers stand in it.
use Rattle.std.specs.Prelude.{◌≡◌, ◌≢◌, ◌<◌, ℕ, List, [], ◌∷◌, ◌==◌, if◌then◌else◌, Option, Some, None}
use Rattle.sd_runs.specs.Arena.{IsMember, HasNoCopies}

-- From `at` on the chain has just these numbers, and `none` ends it.
abbrev pub IsChain : (ℕ → ℕ) → ℕ → ℕ → List ℕ → Type 0
IsChain next none at [] = at ≡ none
IsChain next none at (x ∷ xs) = (at ≡ x) × (x ≢ none) × IsChain next none (next x) xs

-- the way back: each number has the one before it, the first has `before`
abbrev pub IsBack : (ℕ → ℕ) → ℕ → List ℕ → Type 0
IsBack prev before [] = Unit {0}
IsBack prev before (x ∷ xs) = (prev x ≡ before) × IsBack prev x xs

-- Each number stands once in the chain of the head under which it is filed, and in no other; one that is filed under no
-- head stands in none.
pub record IsFiled (next : ℕ → ℕ) (none : ℕ) (head : ℕ → ℕ) (under : ℕ → Option ℕ) : Type 0 where
  pub lists : ℕ → List ℕ
  pub chained : (b : ℕ) → IsChain next none (head b) (lists b)
  pub once : (b : ℕ) → HasNoCopies (lists b)
  pub filed : (b n : ℕ) → under n ≡ Some b → IsMember n (lists b)
  pub only : (b n : ℕ) → IsMember n (lists b) → under n ≡ Some b

-- the same with the way back
pub record IsFiledBoth (next prev : ℕ → ℕ) (none : ℕ) (head : ℕ → ℕ) (under : ℕ → Option ℕ) : Type 0 where
  pub forth : IsFiled next none head under
  pub back : (b : ℕ) → IsBack prev none (forth.lists b)

-- the places where x is filed under no head
abbrev pub unfiled : ℕ → (ℕ → Option ℕ) → ℕ → Option ℕ
unfiled x under n = if n == x then None else under n

-- the places where x is filed under b
abbrev pub filed_at : ℕ → ℕ → (ℕ → Option ℕ) → ℕ → Option ℕ
filed_at x b under n = if n == x then Some b else under n

-- What follows p is q now, or the head b leads to q where p is `none`; all else is as before.
pub record IsLed (next next' : ℕ → ℕ) (none : ℕ) (head head' : ℕ → ℕ) (b p q : ℕ) : Type 0 where
  pub here : p ≢ none → next' p ≡ q
  pub others : (y : ℕ) → y ≢ p → next' y ≡ next y
  pub first : p ≡ none → head' b ≡ q
  pub heads : (c : ℕ) → c ≢ b → head' c ≡ head c
  pub heads_kept : p ≢ none → (c : ℕ) → head' c ≡ head c

-- What leads back from q is p now, where q is not `none`; all else is as before.
pub record IsLedBack (prev prev' : ℕ → ℕ) (none p q : ℕ) : Type 0 where
  pub here : q ≢ none → prev' q ≡ p
  pub others : (y : ℕ) → y ≢ q → prev' y ≡ prev y

-- From `first` on the chain has these numbers, each once and below `size`; x is one of them, and not the first.
pub record Leads (next : ℕ → ℕ) (none first x size : ℕ) (xs : List ℕ) : Type 0 where
  pub chain : IsChain next none first xs
  pub once : HasNoCopies xs
  pub has : IsMember x xs
  pub later : first ≢ x
  pub below : (y : ℕ) → IsMember y xs → y < size

-- From `first` on the chain has these numbers, each once and below `size`.
pub record IsWalkable (next : ℕ → ℕ) (none first size : ℕ) (xs : List ℕ) : Type 0 where
  pub chain : IsChain next none first xs
  pub once : HasNoCopies xs
  pub below : (y : ℕ) → IsMember y xs → y < size
