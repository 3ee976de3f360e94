-- Records on the way into the chains: those that were passed stand where their states say, the others in none.
use Rattle.std.specs.Prelude.{◌≡◌, ℕ, List, Option, None}
use Rattle.sd_runs.specs.Arena.{Arena}
use Rattle.sd_unique.specs.Filed.{IsFiled}
use Rattle.sd_unique.specs.Chains.{next_of, head_of, no_record, chain_under}
use Rattle.sd_unique.specs.declared.record.Record.{Record}

-- Each record that was passed stands in the chain that its state asks for among so many buckets, and no other in any.
pub record IsRechained (arena : Arena) (count : ℕ) (passed : ℕ → Type 0) (records : List Record) (heads : List ℕ)
    : Type 0 where
  pub under : ℕ → Option ℕ
  pub filed : IsFiled (next_of records) no_record (head_of heads) under
  pub done : (n : ℕ) → passed n → under n ≡ chain_under arena count records n
  pub others : (n : ℕ) → ¬ passed n → under n ≡ None
