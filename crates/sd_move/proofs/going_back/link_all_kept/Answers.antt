use Rattle.std.proofs.Common.{◌+◌, ◌∷◌, drop, ap, subst, sym, ◌∙◌, arith}
use Rattle.std.proofs.lemmas.List.{at_drop_more, at_drop_all}
use Rattle.sd_move.specs.GoingBack.{IsReturning}
use Rattle.sd_move.proofs.going_back.link_all_kept.Goals as goal

pub link_kept-requires-clause-returning : goal.link_kept-requires-clause-returning
link_kept-requires-clause-returning c =
    let named = c.args.named.now in
    let now = c.loop-index.m in
    let i = c.loop-index.index in
    let entry = c.index-named-index.result in
    let r = c.requires.returning in
    let next = at_drop_more (λ l. l) named i entry (omega (arith, c.loop-index-test.true))
    ∙ ap (λ e. e ∷ drop (i + 1) named) (sym c.index-named-index.is) in (
      r.0,
      drop (i + 1) named,
      named,
      subst (λ l. IsReturning r.0 now l named) next (c.loop-index.invariant.going r.0 r.1),
    )

pub link_kept-requires-clause-table : goal.link_kept-requires-clause-table
link_kept-requires-clause-table c = c.loop-index.invariant.table

pub loop-index-preserved : goal.loop-index-preserved
loop-index-preserved c =
    let named = c.args.named.now in
    let now = c.loop-index.m in
    let i = c.loop-index.index in
    let entry = c.index-named-index.result in
    let next = at_drop_more (λ l. l) named i entry (omega (arith, c.loop-index-test.true))
    ∙ ap (λ e. e ∷ drop (i + 1) named) (sym c.index-named-index.is) in
    record {
      going = λ r s. c.link_kept.ensures.returning r (drop (i + 1) named) named
          (subst (λ l. IsReturning r now l named) next (c.loop-index.invariant.going r s));
      table = c.link_kept.ensures.table;
    }

pub returns-clause-returning : goal.returns-clause-returning
returns-clause-returning c r s =
    let named = c.args.named.now in
    let last = at_drop_all (λ l. l) named c.loop-index.index (omega (arith, c.loop-index-test.false)) in
    subst (λ l. IsReturning r c.loop-index.m l named) last (c.loop-index.invariant.going r s)
