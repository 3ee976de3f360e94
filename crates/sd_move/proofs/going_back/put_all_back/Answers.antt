use Rattle.std.proofs.Common.{◌+◌, [], ◌∷◌, drop, ap, subst, sym, ◌∙◌, arith}
use Rattle.std.proofs.lemmas.List.{at_drop_more, at_drop_all}
use Rattle.sd_move.specs.GoingBack.{IsReturning}
use Rattle.sd_move.proofs.going_back.put_all_back.Goals as goal

pub put_run_back-requires-clause-returning : goal.put_run_back-requires-clause-returning
put_run_back-requires-clause-returning c =
    let named = c.args.named.now in
    let now = c.loop-index.m in
    let i = c.loop-index.index in
    let entry = c.index-named-index.result in
    let r = c.requires.returning in
    let next = at_drop_more (λ l. l) named i entry (omega (arith, c.loop-index-test.true))
    ∙ ap (λ e. e ∷ drop (i + 1) named) (sym c.index-named-index.is) in (
      r.0,
      drop (i + 1) named,
      subst (λ l. IsReturning r.0 now [] l) next (c.loop-index.invariant.going r.0 r.1),
    )

pub put_run_back-requires-clause-table : goal.put_run_back-requires-clause-table
put_run_back-requires-clause-table c = c.loop-index.invariant.table

pub loop-index-preserved : goal.loop-index-preserved
loop-index-preserved c =
    let named = c.args.named.now in
    let now = c.loop-index.m in
    let i = c.loop-index.index in
    let entry = c.index-named-index.result in
    let next = at_drop_more (λ l. l) named i entry (omega (arith, c.loop-index-test.true))
    ∙ ap (λ e. e ∷ drop (i + 1) named) (sym c.index-named-index.is) in
    record {
      going = λ r s. c.put_run_back.ensures.returning r (drop (i + 1) named)
          (subst (λ l. IsReturning r now [] l) next (c.loop-index.invariant.going r s));
      table = c.put_run_back.ensures.table;
    }

pub returns-clause-returning : goal.returns-clause-returning
returns-clause-returning c r s =
    let named = c.args.named.now in
    let last = at_drop_all (λ l. l) named c.loop-index.index (omega (arith, c.loop-index-test.false)) in
    subst (λ l. IsReturning r c.loop-index.m [] l) last (c.loop-index.invariant.going r s)
