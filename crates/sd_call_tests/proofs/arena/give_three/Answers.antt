use Rattle.std.proofs.Common.{ap, length, sym}
use Rattle.std.specs.Option.{option_map}
use Rattle.sd_runs.proofs.Maps.{given_still}
use Rattle.sd_call_tests.proofs.arena.give_three.Goals as goal

pub give-requires : goal.give-requires
give-requires c = ap (option_map length) c.requires.second_live

pub give-requires-2 : goal.give-requires-2
give-requires-2 c =
    ap (option_map length)
    (given_still c.args.runs.now _ c.give.ensures.given_back (λ e. c.requires.second_other (sym e))
    c.requires.first_live)

pub give-requires-3 : goal.give-requires-3
give-requires-3 c =
    ap (option_map length)
    (given_still c.give.new.self _ c.give-2.ensures.given_back c.requires.third_other
    (given_still c.args.runs.now _ c.give.ensures.given_back c.requires.third_beside c.requires.third_live))
