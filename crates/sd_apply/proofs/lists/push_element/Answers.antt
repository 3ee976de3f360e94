use Rattle.std.proofs.Common.{◌∙◌, sym, ap, ◌∷◌, [], ◌++◌}
use Rattle.std.proofs.lemmas.Result.{on_ok_weaker}
use Rattle.sd_manager.specs.Views.{pairs_at}
use Rattle.sd_apply.proofs.Listed.{take_next}
use Rattle.sd_apply.proofs.lists.push_element.Goals as goal

-- the pair behind those before it
pub returns-clause-ok : goal.returns-clause-ok
returns-clause-ok c = λ before.
    let x = c.element-prime.result in
    on_ok_weaker c.push.result
    (λ pushed. pushed ∙ ap (λ l. l ++ x ∷ []) before
    ∙ sym (take_next (pairs_at c.args.m.now c.args.node) c.args.index x c.element-prime.ensures.pair)) c.push.ensures.ok
