use Rattle.std.proofs.Common.{◌≡◌, ℕ, ◌+◌, ◌≤◌, Some, get_or, length, ap, subst, sym, ◌∙◌, arith}
use Rattle.std.specs.FinMap.{get}
use Rattle.sd_manager.specs.Table.{uses_of_pair}
use Rattle.sd_manager.specs.Counting.{DropsUses, run_at}
use Rattle.sd_manager.proofs.Dropped.{run_is, run_still, next_used, next_dropped}
use Rattle.sd_manager.proofs.uses.drop_run_uses.Goals as goal

pub drop_pair-requires-clause-used : goal.drop_pair-requires-clause-used
drop_pair-requires-clause-used c =
    let a = c.args.nodes.now in
    let same = run_is c.loop-index.nodes c.args.run.0 c.loose_list.result.now c.loose_list.ensures
    ∙ run_still a c.loop-index.nodes (run_at a c.args.run.0) c.loop-index.index c.loop-index.invariant
    c.args.run.0 in
    let first = run_is a c.args.run.0 c.requires.run.0 c.requires.run.1.is in
    subst (λ l. (n k : ℕ) → get c.loop-index.nodes.uses n ≡ Some k → uses_of_pair (2050 + n)
    (get_or l c.loop-index.index (0, 0)) ≤ k) (sym same)
    (next_used a c.loop-index.nodes (run_at a c.args.run.0) c.loop-index.index c.loop-index.invariant (0, 0)
    (omega (arith, ap length first, c.requires.run.1.counted, c.loop-index-test.true)) c.requires.used)

pub loop-index-preserved : goal.loop-index-preserved
loop-index-preserved c =
    let a = c.args.nodes.now in
    let same = run_is c.loop-index.nodes c.args.run.0 c.loose_list.result.now c.loose_list.ensures
    ∙ run_still a c.loop-index.nodes (run_at a c.args.run.0) c.loop-index.index c.loop-index.invariant
    c.args.run.0 in
    let first = run_is a c.args.run.0 c.requires.run.0 c.requires.run.1.is in
    next_dropped a c.loop-index.nodes (run_at a c.args.run.0) c.loop-index.index c.loop-index.invariant (0, 0)
    (omega (arith, ap length first, c.requires.run.1.counted, c.loop-index-test.true)) c.drop_pair.new.nodes
    (subst (λ l. DropsUses c.loop-index.nodes c.drop_pair.new.nodes (λ x. uses_of_pair x
    (get_or l c.loop-index.index (0, 0)))) same c.drop_pair.ensures.uses)
    c.drop_pair.ensures.valid
