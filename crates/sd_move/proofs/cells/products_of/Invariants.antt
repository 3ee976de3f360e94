use Rattle.std.proofs.Common.{drop, map}
use Rattle.sd_manager.specs.Views.{pairs_at}
use Rattle.sd_apply.specs.Recent.{Knows}
use Rattle.sd_move.proofs.Cutting.{IsListing}
use Rattle.sd_move.proofs.cells.products_of.Given as goal

abbrev pub invariant-loop-index : goal.invariant-loop-index
invariant-loop-index l =
    IsListing l.fn.m l.m l.fn.place l.fn.node (map (λ q. q.items) l.products.items)
    (drop l.index (pairs_at l.fn.m l.fn.node)) × Knows l.recent l.m
