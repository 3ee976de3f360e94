use Rattle.std.proofs.Common.{◌≡◌, ◌+◌, ◌++◌, length, take, drop, sym, ◌∙◌, subst, arith}
use Rattle.sd_circuit.specs.Reaching.{IsReaching, AddsTo}
use Rattle.sd_circuit.proofs.Grown.{whole_slice}
use Rattle.sd_circuit.proofs.Reached.{in_time_next, reaching_more, marked_cycle, unmarked_never, mark_is}
use Rattle.sd_circuit.proofs.reaching.lies_on_cycle.Goals as goal

pub mark_uses-requires-in-loop-next-clause-in_time : goal.mark_uses-requires-in-loop-next-clause-in_time
mark_uses-requires-in-loop-next-clause-in_time c = λ used inside uses.
    in_time_next c.args.ands.now c.args.line c.loop-next.next c.index-reached.result.now c.loop-next.queue.items
    c.loop-next.marks.items c.loop-next.invariant
    (omega (arith, c.loop-next-test.true, c.len.ensures, c.loop-next.queue.ok.0)) c.index-reached.ensures used uses

pub loop-next-preserved : goal.loop-next-preserved
loop-next-preserved c =
    let marks : take c.loop-next.marks.len
    (c.mark_uses-in-loop-next.new.marks ++ drop (length c.mark_uses-in-loop-next.new.marks) c.loop-next.marks.items)
    ≡ c.mark_uses-in-loop-next.new.marks =
    whole_slice c.mark_uses-in-loop-next.new.marks c.loop-next.marks.items c.loop-next.marks.len
    (c.mark_uses-in-loop-next.auto.marks ∙ c.deref_mut-in-loop-next.ensures.len) in
    subst (λ m. IsReaching c.args.ands.now c.args.line c.mark_uses-in-loop-next.new.queue.items m
    (c.loop-next.next + 1)) (sym marks)
    (reaching_more c.args.ands.now c.args.line c.loop-next.next c.index-reached.result.now c.loop-next.queue.items
    c.mark_uses-in-loop-next.new.queue.items c.loop-next.marks.items c.mark_uses-in-loop-next.new.marks
    c.loop-next.invariant (omega (arith, c.loop-next-test.true, c.len.ensures, c.loop-next.queue.ok.0))
    c.index-reached.ensures c.in_ok-mark_uses-2.ensures.state
    (subst (λ old. AddsTo c.loop-next.queue.items c.mark_uses-in-loop-next.new.queue.items old
    c.mark_uses-in-loop-next.new.marks) c.deref_mut-in-loop-next.ensures.value c.in_ok-mark_uses-2.ensures.added)
    c.in_ok-mark_uses-2.ensures.marked)

pub returns-clause-yes : goal.returns-clause-yes
returns-clause-yes c = λ on.
    marked_cycle c.args.ands.now c.args.line c.loop-next.queue.items c.loop-next.marks.items c.loop-next.invariant.state
    c.requires.inside
    (mark_is c.loop-next.marks.items c.args.line c.index.result.now
    (omega (arith, c.requires.inside, c.loop-next.invariant.state.size)) c.index.ensures ∙ on)

pub returns-clause-no : goal.returns-clause-no
returns-clause-no c = λ off.
    unmarked_never c.args.ands.now c.args.line c.loop-next.next c.loop-next.queue.items c.loop-next.marks.items
    c.loop-next.invariant (omega (arith, c.loop-next-test.false, c.len.ensures, c.loop-next.queue.ok.0))
    c.requires.inside
    (mark_is c.loop-next.marks.items c.args.line c.index.result.now
    (omega (arith, c.requires.inside, c.loop-next.invariant.state.size)) c.index.ensures ∙ off)
