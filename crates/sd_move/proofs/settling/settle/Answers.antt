use Rattle.std.proofs.Common.{◌+◌, drop, ◌∷◌, ap, subst, sym, ◌∙◌, arith}
use Rattle.std.proofs.lemmas.List.{at_drop_more}
use Rattle.sd_move.specs.Journal.{Named, MayGiveBack}
use Rattle.sd_move.proofs.Settled.{IsSettling, settling_on}
use Rattle.sd_move.proofs.settling.settle.Goals as goal

pub loop-index-preserved : goal.loop-index-preserved
loop-index-preserved c =
    let old = c.args.m.now in
    let now = c.loop-index.m in
    let named = c.journal.inside.named.items in
    let i = c.loop-index.index in
    let entry = c.index.result.now in
    let next = at_drop_more (λ l. l) named i entry (omega (arith, c.loop-index-test.true))
    ∙ ap (λ e. e ∷ drop (i + 1) named) (sym c.index.ensures) in
    settling_on old now c.give_back.new.m named _ entry (subst (IsSettling old now named) next c.loop-index.invariant)
    (subst (λ (e : Named). MayGiveBack now c.give_back.new.m e.run) c.behind-named.view_is c.give_back.ensures.given)
    c.give_back.ensures.table
