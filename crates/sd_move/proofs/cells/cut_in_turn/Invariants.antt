use Rattle.std.proofs.Common.{drop, map}
use Rattle.sd_apply.specs.Recent.{Knows}
use Rattle.sd_move.proofs.Cutting.{IsCutting}
use Rattle.sd_move.proofs.cells.cut_in_turn.Given as goal

abbrev pub invariant-loop-index : goal.invariant-loop-index
invariant-loop-index l =
    IsCutting l.fn.m l.m l.fn.place l.fn.cell (map (λ q. q.items) l.parts) l.list.items
    (map (λ q. q.items) (drop l.index l.parts)) × Knows l.recent l.m
