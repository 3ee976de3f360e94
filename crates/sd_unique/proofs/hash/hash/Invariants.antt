use Rattle.std.proofs.Common.{◌≡◌, take}
use Rattle.std.specs.List.{fold}
use Rattle.sd_unique.specs.Chains.{mixed}
use Rattle.sd_unique.proofs.hash.hash.Given as goal

abbrev pub invariant-loop-pair : goal.invariant-loop-pair
invariant-loop-pair l =
    l.hash ≡ fold mixed l.place (take l.pair-index l.list)
