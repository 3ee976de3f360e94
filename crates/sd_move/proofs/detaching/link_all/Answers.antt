use Rattle.std.proofs.Common.{subst, arith}
use Rattle.std.proofs.lemmas.List.{at_drop_more, at_drop_all}
use Rattle.sd_move.proofs.LinkedAll.{IsLinking, may_link, linking_on, linking_last}
use Rattle.sd_move.proofs.detaching.link_all.Goals as goal

pub retag-requires-clause-moving : goal.retag-requires-clause-moving
retag-requires-clause-moving c =
    let old = c.args.m.now in
    let now = c.loop-index.m in
    let numbers = c.args.numbers.now in
    let i = c.loop-index.index in
    let next = at_drop_more (λ l. l) numbers i 0 (omega (arith, c.loop-index-test.true)) in
    (may_link old now c.args.place _ numbers _ (subst (IsLinking old now c.args.place numbers) next
    c.loop-index.invariant) c.requires.may).0

pub retag-requires-clause-node : goal.retag-requires-clause-node
retag-requires-clause-node c =
    let old = c.args.m.now in
    let now = c.loop-index.m in
    let numbers = c.args.numbers.now in
    let i = c.loop-index.index in
    let next = at_drop_more (λ l. l) numbers i 0 (omega (arith, c.loop-index-test.true)) in
    (may_link old now c.args.place _ numbers _ (subst (IsLinking old now c.args.place numbers) next
    c.loop-index.invariant) c.requires.may).1

pub retag-requires-clause-fits : goal.retag-requires-clause-fits
retag-requires-clause-fits c =
    let old = c.args.m.now in
    let now = c.loop-index.m in
    let numbers = c.args.numbers.now in
    let i = c.loop-index.index in
    let next = at_drop_more (λ l. l) numbers i 0 (omega (arith, c.loop-index-test.true)) in
    (may_link old now c.args.place _ numbers _ (subst (IsLinking old now c.args.place numbers) next
    c.loop-index.invariant) c.requires.may).2

pub retag-requires-clause-absent : goal.retag-requires-clause-absent
retag-requires-clause-absent c =
    let old = c.args.m.now in
    let now = c.loop-index.m in
    let numbers = c.args.numbers.now in
    let i = c.loop-index.index in
    let next = at_drop_more (λ l. l) numbers i 0 (omega (arith, c.loop-index-test.true)) in
    (may_link old now c.args.place _ numbers _ (subst (IsLinking old now c.args.place numbers) next
    c.loop-index.invariant) c.requires.may).3

pub loop-index-preserved : goal.loop-index-preserved
loop-index-preserved c =
    let old = c.args.m.now in
    let now = c.loop-index.m in
    let numbers = c.args.numbers.now in
    let i = c.loop-index.index in
    let next = at_drop_more (λ l. l) numbers i 0 (omega (arith, c.loop-index-test.true)) in
    linking_on old now c.args.place _ numbers _ (subst (IsLinking old now c.args.place numbers) next
    c.loop-index.invariant) c.requires.may c.retag.new.self c.retag.ensures.linked c.retag.ensures.table

pub returns-clause-going : goal.returns-clause-going
returns-clause-going c =
    let old = c.args.m.now in
    let now = c.loop-index.m in
    let numbers = c.args.numbers.now in
    let i = c.loop-index.index in
    let last = at_drop_all (λ l. l) numbers i (omega (arith, c.loop-index-test.false)) in
    (linking_last old now c.args.place numbers (subst (IsLinking old now c.args.place numbers) last
    c.loop-index.invariant)).0

pub returns-clause-linked : goal.returns-clause-linked
returns-clause-linked c =
    let old = c.args.m.now in
    let now = c.loop-index.m in
    let numbers = c.args.numbers.now in
    let i = c.loop-index.index in
    let last = at_drop_all (λ l. l) numbers i (omega (arith, c.loop-index-test.false)) in
    (linking_last old now c.args.place numbers (subst (IsLinking old now c.args.place numbers) last
    c.loop-index.invariant)).1
