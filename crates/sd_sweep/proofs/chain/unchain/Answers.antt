use Rattle.std.proofs.Common.{◌≡◌, ◌∙◌, ◌-◌, ◌+◌, sym, ap, subst, arith}
use Rattle.std.specs.Option.{IsSome}
use Rattle.std.specs.FinMap.{get}
use Rattle.sd_manager.specs.Table.{key_at}
use Rattle.sd_manager.specs.Marking.{with_mark}
use Rattle.sd_sweep.specs.Chained.{HasChain}
use Rattle.sd_sweep.proofs.Chained.{linked_has_key, chain_linked, chain_less, chain_gone}
use Rattle.sd_sweep.proofs.chain.unchain.Goals as goal

pub number-number-requires : goal.number-number-requires
number-number-requires c =
    let w = c.requires.chain in
    (chain_linked w.0 c.loop-step.m c.loop-step.here (c.args.nodes - c.loop-step._step)
    (c.loop-step.invariant.1 w.0 w.1 w.2) (omega (arith, c.loop-step-test.true))).0

pub mark-next-requires : goal.mark-next-requires
mark-next-requires c =
    let w = c.requires.chain in
    subst (λ n. IsSome (key_at c.loop-step.m n)) (sym c.number-number.ensures)
    (linked_has_key c.loop-step.m c.loop-step.here
    (chain_linked w.0 c.loop-step.m c.loop-step.here (c.args.nodes - c.loop-step._step)
    (c.loop-step.invariant.1 w.0 w.1 w.2) (omega (arith, c.loop-step-test.true))))

pub set_mark-requires : goal.set_mark-requires
set_mark-requires c =
    let w = c.requires.chain in
    subst (λ n. IsSome (key_at c.loop-step.m n)) (sym c.number-number.ensures)
    (linked_has_key c.loop-step.m c.loop-step.here
    (chain_linked w.0 c.loop-step.m c.loop-step.here (c.args.nodes - c.loop-step._step)
    (c.loop-step.invariant.1 w.0 w.1 w.2) (omega (arith, c.loop-step-test.true))))

pub loop-step-preserved : goal.loop-step-preserved
loop-step-preserved c = (
  c.set_mark.ensures.table,
  λ t unmarked h.
      chain_less t c.loop-step.m c.set_mark.new.self c.loop-step.here (c.args.nodes - c.loop-step._step)
      (c.args.nodes - (c.loop-step._step + 1)) c.mark-next.result unmarked (c.loop-step.invariant.1 t unmarked h)
      (omega (arith, c.loop-step-test.true))
      (ap (get c.loop-step.m.marks) (sym c.number-number.ensures) ∙ c.mark-next.ensures.mark)
      (c.set_mark.ensures.mark ∙ ap (λ n. with_mark c.loop-step.m n 0) c.number-number.ensures),
)

pub returns-clause-back : goal.returns-clause-back
returns-clause-back c = λ t unmarked h.
    let none : c.args.nodes - c.loop-step._step ≡ 0 = omega (arith, c.loop-step-test.false) in
    chain_gone t c.loop-step.m c.loop-step.here
    (subst (HasChain t c.loop-step.m c.loop-step.here) none (c.loop-step.invariant.1 t unmarked h))
