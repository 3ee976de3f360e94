use Rattle.std.proofs.Common.{subst}
use Rattle.std.specs.List.Sorted.{IsSorted}
use Rattle.std.specs.Cmp.Lexicographic.{slice_cmp}
use Rattle.std.specs.Ordering.{nat_cmp, ordering_then}
use Rattle.std.specs.declared.cmp.Ordering.{Ordering}
use Rattle.sd_file.specs.Ordered.{Rank}
use Rattle.sd_file.specs.Ranks.{Ranked, RankedNode}
use Rattle.sd_file.proofs.Ranking.{one_order}
use Rattle.sd_file.proofs.order.sort_entries.Goals as goal

pub returns-clause-sorted : goal.returns-clause-sorted
returns-clause-sorted c =
    subst
    (λ (cmp : Rank → Rank → Ordering). IsSorted
    (λ (x y : RankedNode). ordering_then (ordering_then (nat_cmp x.0 y.0)
    (slice_cmp
    (λ (e f : Ranked). ordering_then
    (ordering_then (ordering_then (cmp e.0 f.0) (cmp e.1 f.1)) (nat_cmp e.2 f.2)) (nat_cmp e.3 f.3))
    x.1.items y.1.items)) (nat_cmp x.2 y.2)) c.sort_unstable.new.self.items)
    one_order c.sort_unstable.ensures.sorted
