use Rattle.std.proofs.Common.{map, take}
use Rattle.sd_apply.specs.Elements.{sub_then_prime}
use Rattle.sd_apply.specs.Classes.{IsWithout}
use Rattle.sd_apply.proofs.lists.without.Given as goal

-- what is kept of the first pairs
abbrev pub invariant-loop-i : goal.invariant-loop-i
invariant-loop-i l =
    IsWithout l.sub (map sub_then_prime (take l.i l.sorted)) (map sub_then_prime l.others.items)
