use Rattle.std.proofs.Common.{◌-◌, ◌∙◌, Some, sym, ap}
use Rattle.std.specs.FinMap.{get}
use Rattle.sd_manager.specs.Table.{Table}
use Rattle.sd_manager.specs.Marking.{with_mark}
use Rattle.sd_sweep.proofs.Chained.{lengthens_known, lengthens_new}
use Rattle.sd_sweep.proofs.chain.chain_node.Goals as goal

pub returns-then-mark-ne0-clause-chain : goal.returns-then-mark-ne0-clause-chain
returns-then-mark-ne0-clause-chain c =
    lengthens_known c.args.m.now c.args.last c.args.node c.mark.result
    (c.requires.node (c.is_decomposition.ensures.0 c.if-not-is_decomposition.false))
    (ap (get c.args.m.now.marks) (sym c.number-number.ensures) ∙ c.mark.ensures.mark) c.if-mark-ne0.true

pub returns-clause-chain : goal.returns-clause-chain
returns-clause-chain c =
    lengthens_new c.args.m.now c.set_mark-2.new.self c.args.last c.args.node
    (c.requires.node (c.is_decomposition.ensures.0 c.if-not-is_decomposition.false))
    (ap (get c.args.m.now.marks) (sym c.number-number.ensures) ∙ c.mark.ensures.mark
    ∙ ap (λ z. Some z) c.if-mark-ne0.false)
    (c.set_mark-2.ensures.mark
    ∙ ap (λ (t : Table). with_mark t c.number-number.result 1)
    (c.set_mark.ensures.mark ∙ ap (with_mark c.args.m.now c.number.result) c.node.view_is
    ∙ ap (λ z. with_mark c.args.m.now z c.args.node) c.number.ensures)
    ∙ ap (λ z. with_mark (with_mark c.args.m.now (c.args.last - 2050) c.args.node) z 1) c.number-number.ensures)
