-- What the counts of what roots hold ask where the list of a node changes, where a node is taken away, and where all
-- roots are counted.
use Rattle.std.specs.Prelude.{◌≡◌, ◌≢◌, ℕ, ◌+◌, ◌^◌, ◌<◌, ◌≤◌, Some}
use Rattle.std.specs.Option.{IsSome}
use Rattle.std.specs.Ordering.{nat_cmp}
use Rattle.std.specs.FinMap.{FinMap, get}
use Rattle.sd_unique.specs.Nodes.{Nodes, IsNodes, key_at, total_length}
use Rattle.sd_unique.specs.Relinking.{IsLoose}
use Rattle.sd_counts.specs.Right.{AreClosed, IsThere, list_at}
use Rattle.sd_counts.specs.Uses.{uses_in}

-- One node has another list, and a loose run has the one that it had. The other nodes have their lists.
pub record HasOtherList (a b : Nodes) (n start count : ℕ) : Type 0 where
  pub valid : IsNodes b
  pub closed : AreClosed b
  pub node : IsSome (key_at b n)
  pub former : IsLoose b start count (list_at a n)
  pub others : (q : ℕ) → q ≢ n → list_at b q ≡ list_at a q
  pub kept : (q : ℕ) → IsSome (key_at a q) → IsSome (key_at b q)
  pub records : b.records ≤ a.records
  pub few : total_length a < 2 ^ 31
  pub few_after : total_length b < 2 ^ 31

-- no root holds the node, and no list of a node has it
pub record IsUnused (a : Nodes) (held : ℕ → ℕ) (n : ℕ) : Type 0 where
  pub free : held n ≡ 0
  pub lists : (q : ℕ) → uses_in (2050 + n) (list_at a q) ≡ 0

-- the nodes are valid and have few elements, and each root holds the code of a constant, a literal or one of them
pub record MayCount (a : Nodes) (roots : FinMap nat_cmp ℕ) : Type 0 where
  pub valid : IsNodes a
  pub few : total_length a < 2 ^ 31
  pub there : (root c : ℕ) → get roots root ≡ Some c → IsThere a c
