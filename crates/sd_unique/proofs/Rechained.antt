-- Records in other chains: what holds of the fields is kept.
use Rattle.std.proofs.Common.{Bool, true, ◌≡◌, ℕ, ◌<◌, List, length, refl, sym, subst, ◌∙◌}
use Rattle.sd_runs.specs.Arena.{Arena}
use Rattle.sd_unique.specs.declared.record.Record.{Record}
use Rattle.sd_unique.specs.declared.record.Links.{Links}
use Rattle.sd_unique.specs.Chains.{no_record, HoldsNodes, KeepsRecords, AreChained}
use Rattle.sd_unique.proofs.Filed.{both_same}
use Rattle.sd_unique.proofs.Relinked.{list_kept, stored_kept}

-- what holds of the fields is kept when the records are in other chains, and all of those stand
pub kept_rechained : {chained : Bool} (arena : Arena) (rs ts : List Record) (links : List Links)
    (heads heads' places : List ℕ) (flags : List Bool) → KeepsRecords rs ts → 1 < length heads'
    → AreChained true arena ts heads'
    → HoldsNodes chained arena rs links heads places flags → HoldsNodes true arena ts links heads' places flags
kept_rechained arena rs ts links heads heads' places flags keeps some filed k =
    record {
      stored = stored_kept rs ts keeps arena k.stored;
      linked_all = λ some. k.linked_all some ∙ sym keeps.size;
      flags_all = k.flags_all ∙ sym keeps.size;
      at_least_one = some;
      places_all = k.places_all;
      in_chains = filed;
      in_lists = λ some. both_same _ _ _ _ no_record _ _ _ _ (λ b i e. refl) (λ b i e. refl) (λ b. refl)
          (list_kept rs ts keeps) (k.in_lists some);
      queued = λ i t e linked none.
          let w = keeps.was i t e in
          k.queued i w.0 w.1 (sym w.7 ∙ linked) (sym w.5 ∙ none);
    }

-- the records and heads are the same, each by its equation
pub kept_tables : {chained : Bool} (arena : Arena) (rs ts : List Record) (links : List Links)
    (heads heads' places : List ℕ) (flags : List Bool) → ts ≡ rs → heads' ≡ heads
    → HoldsNodes chained arena rs links heads places flags → HoldsNodes chained arena ts links heads' places flags
kept_tables {chained} arena rs ts links heads heads' places flags e f k =
    subst (λ l. HoldsNodes chained arena l links heads' places flags) (sym e)
    (subst (λ h. HoldsNodes chained arena rs links h places flags) (sym f) k)
