use Rattle.std.proofs.Common.{◌∙◌, ◌++◌, ◌∷◌, [], ap, sym}
use Rattle.sd_manager.specs.Views.{pairs_at}
use Rattle.sd_apply.proofs.Listed.{take_next}
use Rattle.sd_move.proofs.branches.elements_of.Goals as goal

pub loop-index-preserved : goal.loop-index-preserved
loop-index-preserved c =
    c.in-Ok.ensures.ok ∙ ap (λ l. l ++ c.element.result ∷ []) c.loop-index.invariant
    ∙ sym (take_next (pairs_at c.args.m.now c.args.node) c.loop-index.index c.element.result c.element.ensures.pair)
