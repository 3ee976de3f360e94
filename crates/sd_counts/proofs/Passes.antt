-- What is so while numbers rise, one after another, and while they fall.
use Rattle.std.proofs.Common.{ℕ, List}
use Rattle.sd_unique.specs.Nodes.{Nodes}
use Rattle.sd_counts.specs.declared.count.Count.{Count}
use Rattle.sd_counts.specs.Queued.{AreQueued, seen}
use Rattle.sd_counts.specs.Right.{AreOf}

-- since the first counts the stack of those that may rise changed, and the counts stayed right
pub record IsRising (a : Nodes) (first now : List Count) (old_top top old_total total : ℕ) : Type 0 where
  pub queued : (falling : ℕ) → AreQueued first old_top falling → AreQueued now top falling
  pub right : (held : ℕ → ℕ) → AreOf a held (seen first old_total) → AreOf a held (seen now total)

-- the same of those that may fall
pub record IsFalling (a : Nodes) (first now : List Count) (old_top top old_total total : ℕ) : Type 0 where
  pub queued : (rising : ℕ) → AreQueued first rising old_top → AreQueued now rising top
  pub right : (held : ℕ → ℕ) → AreOf a held (seen first old_total) → AreOf a held (seen now total)
