use Rattle.std.proofs.Common.{◌≡◌, map, take}
use Rattle.sd_compile.specs.Joined.{literal_of_place}
use Rattle.sd_compile.proofs.groups.by_position.Given as goal

-- the first literals are there
abbrev pub invariant-loop-i : goal.invariant-loop-i
invariant-loop-i l = map literal_of_place l.placed.items ≡ take l.i l.literals
