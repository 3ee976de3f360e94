use Rattle.std.proofs.Common.{◌≢◌, ◌<◌, ℕ, Some}
use Rattle.std.specs.FinMap.{get}
use Rattle.sd_unique.specs.Record.{nodes_of}
use Rattle.sd_unique.proofs.listing.keyed_among.Given as goal

abbrev pub invariant-loop-number : goal.invariant-loop-number
invariant-loop-number l =
    (n : ℕ) → n < l.number → get (nodes_of l.runs l.records).linked n ≢ Some (l.place, l.list)
