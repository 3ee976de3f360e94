use Rattle.std.proofs.Common.{◌≡◌, ◌++◌, map, take}
use Rattle.sd_move.specs.Branches.{branch_of}
use Rattle.sd_move.proofs.branches.add_branches.Given as goal

-- the branches of the first elements are there
abbrev pub invariant-loop-index : goal.invariant-loop-index
invariant-loop-index l =
    l.branches.items ≡ l.fn.branches.items ++ map (branch_of l.fn.element.0) (take l.index l.parts)
