use Rattle.std.proofs.Common.{◌≡◌, ◌<◌, ℕ, slice_get, Some}
use Rattle.sd_unique.specs.declared.record.Record.{Record}
use Rattle.sd_unique.specs.Chains.{IsRecordAt}
use Rattle.sd_unique.proofs.listing.linked_among.Given as goal

abbrev pub invariant-loop-number : goal.invariant-loop-number
invariant-loop-number l =
    (n : ℕ) (r : Record) → n < l.number → slice_get l.records n ≡ Some r → ¬ IsRecordAt r l.place
