use Rattle.std.proofs.Common.{subst, map, arith}
use Rattle.sd_search.specs.Walking.{move_of, GoesBackAtNone}
use Rattle.sd_search.proofs.Walks.{can_walk, TellsAhead, walked, stayed, size_walked, size_stayed, less_walked}
use Rattle.sd_search.proofs.walking.walk.Goals as goal

pub ahead-requires-clause-possible : goal.ahead-requires-clause-possible
ahead-requires-clause-possible c =
    can_walk c.args.m.now.vtree c.args.place c.steps_at-steps.result.now c.steps_at-steps.ensures.table.numbered
    c.requires.place c.steps_at-steps.ensures.steps

pub returns-in-Some-clause-walk : goal.returns-in-Some-clause-walk
returns-in-Some-clause-walk c =
    walked c.args.m.now c.ahead.new.m c.args.place c.bound_of-most.result c.args.size c.args.slack
    c.steps_at-steps.result.now c.steps_at-steps.ensures.table c.ahead.ensures.table c.steps_at-steps.ensures.steps
    c.bound_of-most.ensures.capped c.requires.size c.ahead.ensures.kept c.in-Some.least
    (subst (TellsAhead c.args.m.now c.ahead.new.m c.args.place c.bound_of-most.result c.args.size
    (map move_of c.steps_at-steps.result.now)) c.in-Some.is c.in-Ok.ensures.ahead)

pub returns-in-Some-clause-size : goal.returns-in-Some-clause-size
returns-in-Some-clause-size c =
    size_walked c.args.m.now c.ahead.new.m c.args.place c.bound_of-most.result c.args.size c.args.slack
    c.steps_at-steps.result.now c.steps_at-steps.ensures.table c.ahead.ensures.table c.steps_at-steps.ensures.steps
    c.bound_of-most.ensures.capped c.requires.size c.ahead.ensures.kept c.in-Some.least c.requires.place
    (subst (TellsAhead c.args.m.now c.ahead.new.m c.args.place c.bound_of-most.result c.args.size
    (map move_of c.steps_at-steps.result.now)) c.in-Some.is c.in-Ok.ensures.ahead)

pub returns-in-None-clause-walk : goal.returns-in-None-clause-walk
returns-in-None-clause-walk c =
    stayed c.args.m.now c.ahead.new.m c.args.place c.bound_of-most.result c.args.size c.args.slack
    c.steps_at-steps.result.now c.steps_at-steps.ensures.table c.ahead.ensures.table c.steps_at-steps.ensures.steps
    c.bound_of-most.ensures.capped c.requires.size c.ahead.ensures.kept
    (subst (TellsAhead c.args.m.now c.ahead.new.m c.args.place c.bound_of-most.result c.args.size
    (map move_of c.steps_at-steps.result.now)) c.in-None.is c.in-Ok.ensures.ahead)
    (subst (λ o. GoesBackAtNone o c.args.m.now c.ahead.new.m) c.in-None.is c.in-Ok.ensures.none)

pub returns-in-None-clause-size : goal.returns-in-None-clause-size
returns-in-None-clause-size c =
    size_stayed c.args.m.now c.ahead.new.m c.args.place c.bound_of-most.result c.args.size c.args.slack
    c.steps_at-steps.result.now c.steps_at-steps.ensures.table c.ahead.ensures.table c.steps_at-steps.ensures.steps
    c.bound_of-most.ensures.capped c.requires.size c.ahead.ensures.kept
    (subst (λ o. GoesBackAtNone o c.args.m.now c.ahead.new.m) c.in-None.is c.in-Ok.ensures.none)

pub returns-in-Some-clause-stays : goal.returns-in-Some-clause-stays
returns-in-Some-clause-stays c more =
    absurd (omega (
      arith,
      more,
      less_walked c.args.m.now c.ahead.new.m c.args.place c.bound_of-most.result c.args.size
          c.args.slack c.steps_at-steps.result.now c.steps_at-steps.ensures.table c.ahead.ensures.table
          c.steps_at-steps.ensures.steps c.bound_of-most.ensures.capped c.requires.size c.ahead.ensures.kept c.in-Some.least
          c.requires.place c.requires.no_move
          (subst (TellsAhead c.args.m.now c.ahead.new.m c.args.place c.bound_of-most.result c.args.size
          (map move_of c.steps_at-steps.result.now)) c.in-Some.is c.in-Ok.ensures.ahead),
    ))

pub returns-in-None-clause-stays : goal.returns-in-None-clause-stays
returns-in-None-clause-stays c more =
    (subst (λ o. GoesBackAtNone o c.args.m.now c.ahead.new.m) c.in-None.is c.in-Ok.ensures.none).vtree
