use Rattle.std.specs.FinMap.{get}
use Rattle.sd_manager.proofs.Holding.{some_value}
use Rattle.sd_move.proofs.ReturnLeft.{fewer_detached}
use Rattle.sd_move.proofs.going_back.leave_none_detached.Goals as goal

pub link_or_discard-requires-clause-returning : goal.link_or_discard-requires-clause-returning
link_or_discard-requires-clause-returning c =
    let r = c.requires.returning in (r.0, r.1, c.loop-number.invariant.going r.0 r.1 r.2)

pub link_or_discard-requires-clause-table : goal.link_or_discard-requires-clause-table
link_or_discard-requires-clause-table c = c.loop-number.invariant.table

pub loop-number-smaller : goal.loop-number-smaller
loop-number-smaller c =
    let k = some_value (get c.loop-number.m.detached c.in-Some.number) c.in-Some.ensures.some in
    fewer_detached c.loop-number.m c.link_or_discard.new.m c.in-Some.number k.0 k.1 c.link_or_discard.ensures.gone

pub loop-number-preserved : goal.loop-number-preserved
loop-number-preserved c =
    record {
      going = λ r is s. c.link_or_discard.ensures.returning r is (c.loop-number.invariant.going r is s);
      table = c.link_or_discard.ensures.table;
    }
