use Rattle.sd_call_tests.proofs.Twos.{three_taken}
use Rattle.sd_call_tests.proofs.arena.take_three.Goals as goal

pub returns : goal.returns
returns c =
    three_taken c.take_two.new.runs c.take_two-2.new.runs c.take_two-3.new.runs c.in_ok-first.first
    c.in_ok-second.second c.in_ok-third.third c.in_ok-first.ensures.live c.in_ok-second.ensures.fresh
    c.in_ok-second.ensures.live c.in_ok-second.ensures.kept c.in_ok-third.ensures.fresh c.in_ok-third.ensures.live
    c.in_ok-third.ensures.kept
