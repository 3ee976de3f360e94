use Rattle.std.proofs.Common.{drop, map, length, slice_range}
use Rattle.sd_apply.specs.Recent.{Knows}
use Rattle.sd_move.proofs.Cutting.{IsHalving}
use Rattle.sd_move.proofs.cells.+cut.Given as goal

-- each half is shorter
abbrev pub decreases-cut : goal.decreases-cut
decreases-cut l = length l.parts.now

abbrev pub invariant-loop-index : goal.invariant-loop-index
invariant-loop-index l =
    IsHalving l.fn.m l.m l.fn.place l.fn.cell (map (λ q. q.items) l.parts)
    (map (λ q. q.items) (slice_range l.parts l.half (length l.parts))) l.all.items (drop l.index l.list)
    × Knows l.recent l.m
