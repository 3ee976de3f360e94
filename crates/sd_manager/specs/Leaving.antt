-- What taking a linked node away asks of the nodes, and what it makes of them with the uses of its list.
use Rattle.std.specs.Prelude.{◌≡◌, ℕ, ◌+◌, ◌≤◌, List, Some}
use Rattle.std.specs.FinMap.{get}
use Rattle.sd_laws.specs.Values.{StandsIn}
use Rattle.sd_unique.specs.Nodes.{Nodes}
use Rattle.sd_unique.specs.Relinking.{IsIdle, unlinked, removed}
use Rattle.sd_manager.specs.Table.{uses_in}
use Rattle.sd_manager.specs.Counting.{AreCounted, DropsUses, list_at}

-- The node is a linked one without uses that its own list does not have. The codes of the list are counted, and each is
-- used as often as it stands there, or more.
pub record MayLeave (a : Nodes) (n : ℕ) : Type 0 where
  pub idle : IsIdle a n
  pub alone : ¬ StandsIn (2050 + n) (list_at a n)
  pub counted : AreCounted a (list_at a n)
  pub used : (q k : ℕ) → get a.uses q ≡ Some k → uses_in (2050 + q) (list_at a n) ≤ k

-- The uses of the list were dropped, and the node of this key was removed.
pub record HasLeft (old new : Nodes) (n : ℕ) (key : ℕ × List (ℕ × ℕ)) : Type 0 where
  pub dropped : Nodes
  pub drops : DropsUses old dropped (λ c. uses_in c key.1)
  pub is : new ≡ removed (unlinked dropped n key) n key.1
