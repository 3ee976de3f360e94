-- No records: what holds of the fields holds of them.
use Rattle.std.proofs.Common.{true, ◌≡◌, ℕ, ◌<◌, ◌^◌, List, [], length, refl, arith}
use Rattle.sd_runs.specs.Arena.{Arena, IsArena}
use Rattle.sd_unique.specs.Chains.{HoldsNodes, head_of, no_record}

-- with no records, no record at any head and no lists, the fields are in order
pub kept_nothing : (arena : Arena) (heads : List ℕ) → IsArena arena → arena.bound < 2 ^ 31 → 1 < length heads
    → ((b : ℕ) → head_of heads b ≡ no_record) → HoldsNodes true arena [] [] heads [] []
kept_nothing arena heads well fits some no_heads =
    record {
      stored = record {
        well = well;
        live = λ i r e node. cc;
        apart = λ i j r t p q nr nt same. cc;
        unique = λ i j r t p q nr nt same. cc;
        within_limit = omega arith;
        bound_fits = fits;
      };
      linked_all = λ some. refl;
      flags_all = refl;
      at_least_one = some;
      places_all = λ any. absurd (omega (arith, any));
      in_chains = record {
        lists = λ b. [];
        chained = no_heads;
        once = λ b. tt;
        filed = λ b n e. cc;
        only = λ b n h. absurd h;
      };
      in_lists = λ any. absurd (omega (arith, any));
      queued = λ n r e linked none. cc;
    }
