use Rattle.std.proofs.Common.{◌≡◌, take}
use Rattle.sd_manager.proofs.pairs.sort_into.Given as goal

abbrev pub invariant-loop-element : goal.invariant-loop-element
invariant-loop-element l = l.list.items ≡ take l.element-index l.elements
