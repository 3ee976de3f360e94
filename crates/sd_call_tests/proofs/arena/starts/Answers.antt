use Rattle.sd_call_tests.proofs.Twos.{three_kept}
use Rattle.sd_call_tests.proofs.arena.starts.Goals as goal

pub give_three-requires : goal.give_three-requires
give_three-requires c =
    three_kept c.take_three.new.runs c.take_two.new.runs _ _ _ c.in_ok-d.ensures.kept c.in_ok-a.ensures
