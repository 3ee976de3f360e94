use Rattle.std.proofs.Common.{ℕ, List, length}
use Rattle.sd_unique.specs.Chains.{after_of, no_record}
use Rattle.sd_unique.proofs.AtPlace.{OnPlace}
use Rattle.sd_unique.proofs.lists.at_place.Given as goal

abbrev pub invariant-loop-step : goal.invariant-loop-step
invariant-loop-step l =
    (rest : List ℕ)
    × OnPlace l.records (after_of l.links) no_record l.first l.place (length l.records) l.at l._step rest
