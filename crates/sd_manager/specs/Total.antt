-- The total size of what roots hold, by the nodes that are under them.
use Rattle.std.specs.Prelude.{◌≡◌, ◌↔◌, ℕ, List, [], length, unwrap_or}
use Rattle.std.specs.List.{sum_by}
use Rattle.std.specs.Option.{option_map}
use Rattle.sd_runs.specs.Arena.{IsMember, HasNoCopies}
use Rattle.sd_counts.specs.Right.{IsReached}
use Rattle.sd_manager.specs.Table.{Table, key_at}
use Rattle.sd_manager.specs.Stored.{held_count}

-- the list of a node, and no list for another number
abbrev pub list_of : Table → ℕ → List (ℕ × ℕ)
list_of t n = unwrap_or (option_map (λ k. k.1) (key_at t n)) []

-- The total is that of the lengths of the lists of the nodes which a root holds or which are below one that is held,
-- each node once.
pub record IsTotal (t : Table) (total : ℕ) : Type 0 where
  pub numbers : List ℕ
  pub once : HasNoCopies numbers
  pub under : (n : ℕ) → IsMember n numbers ↔ IsReached (list_of t) (held_count t.roots) n
  pub is : total ≡ sum_by (λ n. length (list_of t n)) numbers
