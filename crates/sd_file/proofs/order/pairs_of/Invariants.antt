use Rattle.std.proofs.Common.{◌≡◌, map, take}
use Rattle.sd_file.specs.Ranks.{codes_of}
use Rattle.sd_file.proofs.order.pairs_of.Given as goal

-- the pairs so far are those of the first elements
abbrev pub invariant-loop-element : goal.invariant-loop-element
invariant-loop-element l = l.pairs.items ≡ map codes_of (take l.element-index l.elements)
