use Rattle.sd_move.proofs.Fitting.{there, lower_within, upper_within, upper_there, under_upper, lower_child}
use Rattle.sd_move.proofs.Fitting.{upper_child, under_lower_child, under_upper_child, goes_lower, goes_upper}
use Rattle.sd_move.proofs.Fitting.{goes_nowhere}
use Rattle.sd_move.proofs.sorting.fit_of.Goals as goal

pub child_on-requires-clause-inner : goal.child_on-requires-clause-inner
child_on-requires-clause-inner c =
    let r = c.requires.may in
    lower_child r.0 c.args.m.now r.1 c.args.side c.args.upper c.args.lower r.2 r.3 c.args.number c.requires.table
    r.4

pub child_on-requires-clause-node : goal.child_on-requires-clause-node
child_on-requires-clause-node c =
    let r = c.requires.may in
    lower_within r.0 c.args.m.now r.1 c.args.side c.args.upper c.args.lower r.2 r.3 c.args.number c.requires.table
    r.4

pub are_below-requires-clause-at : goal.are_below-requires-clause-at
are_below-requires-clause-at c =
    let r = c.requires.may in
    upper_there r.0 c.args.m.now r.1 c.args.side c.args.upper c.args.lower r.2 r.3 c.args.number c.requires.table
    r.4

pub are_below-requires-clause-number : goal.are_below-requires-clause-number
are_below-requires-clause-number c =
    let r = c.requires.may in
    there r.0 c.args.m.now r.1 c.args.side c.args.upper c.args.lower r.2 r.3 c.args.number c.requires.table
    r.4

pub are_below-requires-clause-each : goal.are_below-requires-clause-each
are_below-requires-clause-each c =
    let r = c.requires.may in
    under_upper r.0 c.args.m.now r.1 c.args.side c.args.upper c.args.lower r.2 r.3 c.args.number c.requires.table
    r.4

pub are_below-requires-clause-under : goal.are_below-requires-clause-under
are_below-requires-clause-under c =
    let r = c.requires.may in
    under_lower_child r.0 c.args.m.now r.1 c.args.side c.args.upper c.args.lower r.2 r.3 c.args.number c.requires.table
    r.4 c.child_on.result c.child_on.ensures.child

pub child_on-requires-2-clause-inner : goal.child_on-requires-2-clause-inner
child_on-requires-2-clause-inner c =
    let r = c.requires.may in
    upper_child r.0 c.args.m.now r.1 c.args.side c.args.upper c.args.lower r.2 r.3 c.args.number c.requires.table
    r.4

pub child_on-requires-2-clause-node : goal.child_on-requires-2-clause-node
child_on-requires-2-clause-node c =
    let r = c.requires.may in
    upper_within r.0 c.args.m.now r.1 c.args.side c.args.upper c.args.lower r.2 r.3 c.args.number c.requires.table
    r.4

pub are_below-requires-2-clause-at : goal.are_below-requires-2-clause-at
are_below-requires-2-clause-at c =
    let r = c.requires.may in
    upper_there r.0 c.args.m.now r.1 c.args.side c.args.upper c.args.lower r.2 r.3 c.args.number c.requires.table
    r.4

pub are_below-requires-2-clause-number : goal.are_below-requires-2-clause-number
are_below-requires-2-clause-number c =
    let r = c.requires.may in
    there r.0 c.args.m.now r.1 c.args.side c.args.upper c.args.lower r.2 r.3 c.args.number c.requires.table
    r.4

pub are_below-requires-2-clause-each : goal.are_below-requires-2-clause-each
are_below-requires-2-clause-each c =
    let r = c.requires.may in
    under_upper r.0 c.args.m.now r.1 c.args.side c.args.upper c.args.lower r.2 r.3 c.args.number c.requires.table
    r.4

pub are_below-requires-2-clause-under : goal.are_below-requires-2-clause-under
are_below-requires-2-clause-under c =
    let r = c.requires.may in
    under_upper_child r.0 c.args.m.now r.1 c.args.side c.args.upper c.args.lower r.2 r.3 c.args.number c.requires.table
    r.4 c.child_on-2.result c.child_on-2.ensures.child

pub returns-then-are_below : goal.returns-then-are_below
returns-then-are_below c =
    record {
      tells = λ m0 t h v s k was.
          goes_lower m0 c.args.m.now t c.args.side c.args.upper c.args.lower h v c.args.number c.requires.table s
          c.child_on.result c.child_on.ensures.child c.if-are_below.ensures.tells k was;
    }

pub returns-then-are_below-2 : goal.returns-then-are_below-2
returns-then-are_below-2 c =
    record {
      tells = λ m0 t h v s k was.
          goes_upper m0 c.args.m.now t c.args.side c.args.upper c.args.lower h v c.args.number c.requires.table s
          c.child_on-2.result c.child_on-2.ensures.child c.if-are_below-2.ensures.tells k was;
    }

pub returns : goal.returns
returns c =
    record {
      tells = λ m0 t h v s k was.
          goes_nowhere m0 c.args.m.now t c.args.side c.args.upper c.args.lower h v c.args.number c.requires.table s
          c.child_on.result c.child_on-2.result c.child_on.ensures.child c.child_on-2.ensures.child
          c.if-are_below.ensures.tells c.if-are_below-2.ensures.tells k was;
    }
