use Rattle.std.proofs.Common.{◌≡◌, ◌+◌, ◌∷◌, [], ◌++◌, Some, sym, ◌∙◌, ap, subst, arith, drop, get_or}
use Rattle.std.proofs.lemmas.List.{at_drop_more, at_drop_all}
use Rattle.sd_runs.proofs.Places.{pushed}
use Rattle.sd_move.specs.Journal.{Named}
use Rattle.sd_move.specs.Rewriting.{HasRewritten}
use Rattle.sd_move.proofs.RewritingLoop.{IsRewriting, rewriting_first, may_rewrite_next, rewriting_stops, rewriting_on}
use Rattle.sd_move.proofs.RewritingLoop.{serves_all, serves_rewritten}
use Rattle.sd_move.proofs.rewriting.rewrite_all.Goals as goal

pub loop-index-init : goal.loop-index-init
loop-index-init c =
    rewriting_first c.args.m.now c.args.place c.args.numbers.now c.args.named.now.items c.new-recent.result
    c.requires.table (c.new-recent.ensures c.args.m.now)

pub rewrite_one-requires-clause-may : goal.rewrite_one-requires-clause-may
rewrite_one-requires-clause-may c =
    let old = c.args.m.now in
    let now = c.loop-index.m in
    let place = c.args.place in
    let numbers = c.args.numbers.now in
    let before = c.args.named.now.items in
    let after = c.loop-index.named.items in
    let i = c.loop-index.index in
    let next = at_drop_more (λ l. l) numbers i 0 (omega (arith, c.loop-index-test.true)) in
    may_rewrite_next old now place (get_or numbers i 0) numbers before after (drop (i + 1) numbers) c.loop-index.recent
    (subst (λ l. IsRewriting old now place numbers before after l c.loop-index.recent) next c.loop-index.invariant)
    c.requires.may

pub loop-index-preserved : goal.loop-index-preserved
loop-index-preserved c =
    let old = c.args.m.now in
    let now = c.loop-index.m in
    let place = c.args.place in
    let numbers = c.args.numbers.now in
    let before = c.args.named.now.items in
    let after = c.loop-index.named.items in
    let i = c.loop-index.index in
    let next = at_drop_more (λ l. l) numbers i 0 (omega (arith, c.loop-index-test.true)) in
    let e : Named = record { number = get_or numbers i 0; place = place; run = Some c.in_ok-run.run' } in
    let put : c.push.new.self.items ≡ c.reserve.new.self.items ++ e ∷ [] =
    pushed c.push.result _ _ _ (c.push.ensures.succeeds (omega (arith, c.in-Ok.ensures.ok))) c.push.ensures.items in
    rewriting_on old now place (get_or numbers i 0) numbers before after (drop (i + 1) numbers) c.loop-index.recent
    (subst (λ l. IsRewriting old now place numbers before after l c.loop-index.recent) next c.loop-index.invariant)
    c.rewrite_one.new.m c.rewrite_one.new.recent c.in_ok-run.run' c.push.new.self.items c.in_ok-run.ensures.ok
    c.in_ok-run.ensures.going c.rewrite_one.ensures.table c.rewrite_one.ensures.knows
    (put ∙ ap (λ l. l ++ e ∷ []) c.in-Ok.ensures.items)

-- where all are rewritten

pub returns-clause-rewritten : goal.returns-clause-rewritten
returns-clause-rewritten c =
    (drop c.loop-index.index c.args.numbers.now, c.loop-index.invariant.done, c.loop-index.invariant.going)

pub returns-clause-ok : goal.returns-clause-ok
returns-clause-ok c =
    let numbers = c.args.numbers.now in
    let last = at_drop_all (λ l. l) numbers c.loop-index.index (omega (arith, c.loop-index-test.false)) in
    (subst (λ l. IsRewriting c.args.m.now c.loop-index.m c.args.place numbers c.args.named.now.items
    c.loop-index.named.items l c.loop-index.recent) last c.loop-index.invariant).done

pub returns-clause-going : goal.returns-clause-going
returns-clause-going c =
    let numbers = c.args.numbers.now in
    let last = at_drop_all (λ l. l) numbers c.loop-index.index (omega (arith, c.loop-index-test.false)) in
    (subst (λ l. IsRewriting c.args.m.now c.loop-index.m c.args.place numbers c.args.named.now.items
    c.loop-index.named.items l c.loop-index.recent) last c.loop-index.invariant).going

-- where one was refused

pub returns-in_err-run-clause-rewritten : goal.returns-in_err-run-clause-rewritten
returns-in_err-run-clause-rewritten c =
    let old = c.args.m.now in
    let now = c.loop-index.m in
    let place = c.args.place in
    let numbers = c.args.numbers.now in
    let before = c.args.named.now.items in
    let after = c.loop-index.named.items in
    let i = c.loop-index.index in
    let next = at_drop_more (λ l. l) numbers i 0 (omega (arith, c.loop-index-test.true)) in
    let s = rewriting_stops old now place (get_or numbers i 0) numbers before after (drop (i + 1) numbers)
    c.loop-index.recent
    (subst (λ l. IsRewriting old now place numbers before after l c.loop-index.recent) next c.loop-index.invariant)
    c.rewrite_one.new.m c.rewrite_one.new.recent c.in_err-run.ensures.err c.in_err-run.ensures.still
    c.rewrite_one.ensures.table c.rewrite_one.ensures.knows in (
      get_or numbers i 0 ∷ drop (i + 1) numbers,
      subst (λ l. HasRewritten old c.rewrite_one.new.m place numbers before l (get_or numbers i 0
          ∷ drop (i + 1) numbers)) (sym c.in-Ok.ensures.items) s.done,
      s.going,
    )

-- the cache is not asked

pub returns-clause-serves : goal.returns-clause-serves
returns-clause-serves c =
    serves_all c.args.c.now c.args.m.now c.loop-index.m c.args.place c.args.numbers.now c.args.named.now.items
    c.loop-index.named.items (drop c.loop-index.index c.args.numbers.now) c.loop-index.invariant.done
    c.requires.serves

pub returns-in_default-clause-serves : goal.returns-in_default-clause-serves
returns-in_default-clause-serves c =
    serves_all c.args.c.now c.args.m.now c.loop-index.m c.args.place c.args.numbers.now c.args.named.now.items
    c.loop-index.named.items (drop c.loop-index.index c.args.numbers.now) c.loop-index.invariant.done
    c.requires.serves

pub returns-in_err-run-clause-serves : goal.returns-in_err-run-clause-serves
returns-in_err-run-clause-serves c =
    let old = c.args.m.now in
    let now = c.loop-index.m in
    let place = c.args.place in
    let numbers = c.args.numbers.now in
    let before = c.args.named.now.items in
    let after = c.loop-index.named.items in
    let i = c.loop-index.index in
    serves_rewritten c.args.c.now now c.rewrite_one.new.m place [] c.in_err-run.ensures.err
    (serves_all c.args.c.now old now place numbers before after (drop i numbers) c.loop-index.invariant.done
    c.requires.serves)
