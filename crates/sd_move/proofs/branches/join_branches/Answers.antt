use Rattle.std.proofs.Common.{◌∙◌, sym}
use Rattle.std.specs.FinMap.{get}
use Rattle.sd_laws.proofs.Evaluated.{value_of}
use Rattle.sd_move.proofs.Branching.{joining_first, joining_more, joining_skips, joining_last, fewer_left}
use Rattle.sd_move.proofs.Calls.{as_step, step_on}
use Rattle.sd_move.proofs.branches.join_branches.Goals as goal

pub loop-next-init : goal.loop-next-init
loop-next-init c = (
  joining_first c.args.m.now c.requires.table (value_of (get c.args.m.now.linked)) c.args.corner.now c.args.own.now
      c.args.branches.now c.requires.can c.new-all.result.items c.new-all.ensures.items,
  c.requires.knows,
)

pub next_prime-requires-clause-can : goal.next_prime-requires-clause-can
next_prime-requires-clause-can c = (value_of (get c.args.m.now.linked), c.loop-next.invariant.0.can)

-- an element more

pub loop-next-smaller-in-Ok : goal.loop-next-smaller-in-Ok
loop-next-smaller-in-Ok c =
    fewer_left c.args.branches.now c.loop-next.next c.in_ok-prime.after c.loop-next-test.true
    (c.in_ok-prime.ensures.ok (value_of (get c.args.m.now.linked)) c.loop-next.invariant.0.can).onward

pub loop-next-preserved-in-Ok : goal.loop-next-preserved-in-Ok
loop-next-preserved-in-Ok c =
    let v = value_of (get c.args.m.now.linked) in
    let j = c.loop-next.invariant.0 in (
      joining_more c.args.m.now c.loop-next.m c.next_prime.new.m v c.args.corner.now c.args.own.now
          c.args.branches.now c.loop-next.all.items c.push.new.self.items c.loop-next.next c.in_ok-prime.after
          c.in_ok-prime.prime j c.loop-next-test.true c.next_prime.ensures.step.kept c.next_prime.ensures.step.table
          c.next_prime.ensures.step.grown (c.in_ok-prime.ensures.ok v j.can)
          (λ e. c.if-prime-ne0.true (c.prime.view_is ∙ e)) c.in-Ok.ensures.ok,
      c.next_prime.ensures.step.knows,
    )

-- none where the prime is false

pub loop-next-smaller : goal.loop-next-smaller
loop-next-smaller c =
    fewer_left c.args.branches.now c.loop-next.next c.in_ok-prime.after c.loop-next-test.true
    (c.in_ok-prime.ensures.ok (value_of (get c.args.m.now.linked)) c.loop-next.invariant.0.can).onward

pub loop-next-preserved : goal.loop-next-preserved
loop-next-preserved c =
    let v = value_of (get c.args.m.now.linked) in
    let j = c.loop-next.invariant.0 in (
      joining_skips c.args.m.now c.loop-next.m c.next_prime.new.m v c.args.corner.now c.args.own.now
          c.args.branches.now c.loop-next.all.items c.loop-next.next c.in_ok-prime.after c.in_ok-prime.prime j
          c.next_prime.ensures.step.kept c.next_prime.ensures.step.table c.next_prime.ensures.step.grown
          (c.in_ok-prime.ensures.ok v j.can) (sym c.prime.view_is ∙ c.if-prime-ne0.false),
      c.next_prime.ensures.step.knows,
    )

pub returns-clause-ok : goal.returns-clause-ok
returns-clause-ok c =
    joining_last c.args.m.now c.loop-next.m c.args.corner.now c.args.own.now c.args.branches.now
    c.loop-next.all.items c.loop-next.next c.loop-next.invariant.0 c.loop-next-test.false

pub returns-clause-step : goal.returns-clause-step
returns-clause-step c =
    let s = c.loop-next.invariant in as_step s.0.kept s.0.grown s.1 s.0.table

pub returns-in_err-prime-clause-step : goal.returns-in_err-prime-clause-step
returns-in_err-prime-clause-step c =
    let s = c.loop-next.invariant in
    step_on (as_step s.0.kept s.0.grown s.1 s.0.table) c.next_prime.ensures.step

pub returns-in_default-clause-step : goal.returns-in_default-clause-step
returns-in_default-clause-step c =
    let s = c.loop-next.invariant in
    step_on (as_step s.0.kept s.0.grown s.1 s.0.table) c.next_prime.ensures.step
