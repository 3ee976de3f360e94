use Rattle.sd_file.specs.Ranks.{HasGiven, HaveRanksTo}
use Rattle.sd_file.proofs.order.give_all.Given as goal

-- the first entries have their ranks
abbrev pub invariant-loop-index : goal.invariant-loop-index
invariant-loop-index l =
    HasGiven l.fn.o l.o l.position l.index l.entries × HaveRanksTo l.fn.o l.o l.index l.entries
