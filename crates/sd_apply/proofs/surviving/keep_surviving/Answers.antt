use Rattle.std.proofs.Common.{◌≡◌, ◌∙◌, ◌≤◌, ap, arith, length}
use Rattle.sd_apply.proofs.Survivors.{serves_left, serves_sifted}
use Rattle.sd_apply.proofs.surviving.keep_surviving.Goals as goal

-- nothing is changed
pub returns-then-epoch-since-clause-serves : goal.returns-then-epoch-since-clause-serves
returns-then-epoch-since-clause-serves c =
    let h = c.requires.serves in
    serves_left c.args.c.now h.0 c.args.m.now h.3 (omega (arith, h.2)) h.1

-- the whole table was gone through
pub returns-clause-serves : goal.returns-clause-serves
returns-clause-serves c =
    let h = c.requires.serves in
    let now = c.epoch-today.ensures.epoch in
    let of : c.args.c.now.epoch ≡ h.0.epoch = omega (arith, c.epoch.ensures, c.if-epoch-since.false, h.2) in
    let rose : ¬ (c.args.m.now.epoch ≡ h.0.epoch) = λ q.
    absurd (omega (arith, now, c.if-today-since.false, h.2, q)) in
    let all : length c.args.c.now.computed ≤ c.loop-index.index =
    omega (arith, c.len-index-end.ensures, ap length c.computed.ensures, c.loop-index-test.false) in
    serves_sifted c.args.c.now c.loop-index.c c.renew.new.self h.0 c.args.m.now c.loop-index.index
    c.epoch-today.result h.3 c.epoch-today.ensures.table c.requires.no_move (omega (arith, now)) of rose all
    c.loop-index.invariant.0 c.loop-index.invariant.2 now c.renew.ensures h.1

-- one more entry was gone through
pub loop-index-preserved : goal.loop-index-preserved
loop-index-preserved c =
    let step = c.drop_unless_standing.ensures in (
      step.entries ∙ c.loop-index.invariant.0,
      step.epoch ∙ c.loop-index.invariant.1,
      step.sifted c.args.c.now.computed c.loop-index.invariant.2,
    )
