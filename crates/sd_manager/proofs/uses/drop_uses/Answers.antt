use Rattle.std.proofs.Common.{◌≡◌, ℕ, ◌+◌, ◌≤◌, Some, get_or, length, ap, subst, sym, ◌∙◌, arith}
use Rattle.std.specs.FinMap.{get}
use Rattle.sd_manager.specs.Table.{uses_of_pair}
use Rattle.sd_manager.specs.Counting.{list_at}
use Rattle.sd_manager.proofs.Dropped.{list_is, list_still, next_used}
use Rattle.sd_manager.proofs.uses.drop_uses.Goals as goal

pub drop_pair-requires-clause-used : goal.drop_pair-requires-clause-used
drop_pair-requires-clause-used c =
    let a = c.args.nodes.now in
    let count = list_is a c.args.number c.list-count.result.now c.list-count.ensures in
    let same = list_is c.loop-index.nodes c.args.number c.list.result.now c.list.ensures
    ∙ list_still a c.loop-index.nodes (list_at a c.args.number) c.loop-index.index c.loop-index.invariant
    c.args.number in
    subst (λ l. (n k : ℕ) → get c.loop-index.nodes.uses n ≡ Some k → uses_of_pair (2050 + n)
    (get_or l c.loop-index.index (0, 0)) ≤ k) (sym same)
    (next_used a c.loop-index.nodes (list_at a c.args.number) c.loop-index.index c.loop-index.invariant (0, 0)
    (omega (arith, ap length count, c.loop-index-test.true)) c.requires.used)
