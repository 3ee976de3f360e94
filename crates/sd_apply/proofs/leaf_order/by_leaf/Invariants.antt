use Rattle.std.proofs.Common.{◌≡◌, ℕ, ℤ, map, take}
use Rattle.std.specs.List.{AllByRecursion}
use Rattle.sd_apply.specs.Group.{IsPlaced}
use Rattle.sd_apply.proofs.leaf_order.by_leaf.Given as goal

-- the first literals are there, each behind the position of its leaf
abbrev pub invariant-loop-i : goal.invariant-loop-i
invariant-loop-i l =
    (map (λ (e : ℕ × ℤ). e.1) l.placed.items ≡ take l.i l.literals)
    × AllByRecursion (IsPlaced l.m.vtree) l.placed.items
