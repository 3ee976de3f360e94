use Rattle.std.proofs.Common.{◌≡◌, map, take}
use Rattle.sd_apply.specs.Elements.{sub_then_prime}
use Rattle.sd_apply.proofs.lists.by_sub.Given as goal

-- the first pairs are there, turned round
abbrev pub invariant-loop-i : goal.invariant-loop-i
invariant-loop-i l = map sub_then_prime l.list.items ≡ take l.i l.pairs
