-- The uses of the nodes, as they are counted.
use Rattle.std.specs.Prelude.{◌≡◌, ℕ, ◌+◌, ◌-◌, ◌≤◌, List, [], Some, ◌==◌, if◌then◌else◌, unwrap_or}
use Rattle.std.specs.List.{AllByRecursion}
use Rattle.std.specs.Option.{IsSome, option_map}
use Rattle.std.specs.FinMap.{get}
use Rattle.sd_laws.specs.Values.{StandsIn}
use Rattle.sd_unique.specs.Nodes.{Nodes, key_at}

-- 1 where the codes are equal
abbrev pub counts_one : ℕ → ℕ → ℕ
counts_one c code = if code == c then 1 else 0

-- the code is of a constant, a literal or a node, linked or detached
abbrev pub IsCounted : Nodes → ℕ → Type 0
IsCounted a code = 2050 ≤ code → IsSome (key_at a (code - 2050))

-- the list of a node, linked or detached
abbrev pub list_at : Nodes → ℕ → List (ℕ × ℕ)
list_at a n = unwrap_or (option_map (λ k. k.1) (key_at a n)) []

-- the list of a loose run
abbrev pub run_at : Nodes → ℕ → List (ℕ × ℕ)
run_at a start = unwrap_or (get a.loose start) []

-- the codes in the list are so
abbrev pub AreCounted : Nodes → List (ℕ × ℕ) → Type 0
AreCounted a list = AllByRecursion (λ (e : ℕ × ℕ). IsCounted a e.0 × IsCounted a e.1) list

-- only the uses changed, and each grew by as much as its code says
pub record AddsUses (old new : Nodes) (more : ℕ → ℕ) : Type 0 where
  pub rest : new ≡ record old { uses = new.uses }
  pub uses : (n : ℕ) → get new.uses n ≡ option_map (λ k. k + more (2050 + n)) (get old.uses n)

-- only the uses changed, and that of the code fell by one
pub record DropsUse (old new : Nodes) (code : ℕ) : Type 0 where
  pub rest : new ≡ record old { uses = new.uses }
  pub uses : (n : ℕ) → get new.uses n ≡ option_map (λ k. k - counts_one (2050 + n) code) (get old.uses n)

-- only the uses changed, and each fell by as much as its code says
pub record DropsUses (old new : Nodes) (less : ℕ → ℕ) : Type 0 where
  pub rest : new ≡ record old { uses = new.uses }
  pub uses : (n : ℕ) → get new.uses n ≡ option_map (λ k. k - less (2050 + n)) (get old.uses n)

-- the code is that of a node without uses
abbrev pub HasNoUses : Nodes → ℕ → Type 0
HasNoUses a code = (2050 ≤ code) × (get a.uses (code - 2050) ≡ Some 0)

-- such a code stands in the list of no linked node
pub record AreNamesUsed (a : Nodes) : Type 0 where
  pub each : (c : ℕ) → HasNoUses a c → (n : ℕ) (k : ℕ × List (ℕ × ℕ)) → get a.linked n ≡ Some k → ¬ StandsIn c k.1
