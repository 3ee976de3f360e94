use Rattle.std.proofs.Common.{refl, []}
use Rattle.sd_move.specs.declared.sorting.Fit.TheVariants.{Upper, Lower}
use Rattle.sd_move.proofs.SortedAll.{may_retag, upper_settled, lower_settled}
use Rattle.sd_move.proofs.sorting.sort_one.Goals as goal

pub retag-requires-clause-moving : goal.retag-requires-clause-moving
retag-requires-clause-moving c =
    let r = c.requires.may in
    (may_retag r.0 c.args.m.now r.1 c.args.side c.args.upper c.args.lower r.2 r.3 c.args.number [] c.requires.table
    r.4 c.args.lower
    (lower_settled r.0 c.args.m.now r.1 c.args.side c.args.upper c.args.lower r.2 r.3 c.args.number [] c.requires.table
    r.4)
    (c.in-Lower.ensures.tells r.0 r.1 r.2 r.3 r.4 (c.args.upper, r.4.each.0.list) r.4.each.0.was)).0

pub retag-requires-clause-node : goal.retag-requires-clause-node
retag-requires-clause-node c =
    let r = c.requires.may in
    (may_retag r.0 c.args.m.now r.1 c.args.side c.args.upper c.args.lower r.2 r.3 c.args.number [] c.requires.table
    r.4 c.args.lower
    (lower_settled r.0 c.args.m.now r.1 c.args.side c.args.upper c.args.lower r.2 r.3 c.args.number [] c.requires.table
    r.4)
    (c.in-Lower.ensures.tells r.0 r.1 r.2 r.3 r.4 (c.args.upper, r.4.each.0.list) r.4.each.0.was)).1

pub retag-requires-clause-fits : goal.retag-requires-clause-fits
retag-requires-clause-fits c =
    let r = c.requires.may in
    (may_retag r.0 c.args.m.now r.1 c.args.side c.args.upper c.args.lower r.2 r.3 c.args.number [] c.requires.table
    r.4 c.args.lower
    (lower_settled r.0 c.args.m.now r.1 c.args.side c.args.upper c.args.lower r.2 r.3 c.args.number [] c.requires.table
    r.4)
    (c.in-Lower.ensures.tells r.0 r.1 r.2 r.3 r.4 (c.args.upper, r.4.each.0.list) r.4.each.0.was)).2

pub retag-requires-clause-absent : goal.retag-requires-clause-absent
retag-requires-clause-absent c =
    let r = c.requires.may in
    (may_retag r.0 c.args.m.now r.1 c.args.side c.args.upper c.args.lower r.2 r.3 c.args.number [] c.requires.table
    r.4 c.args.lower
    (lower_settled r.0 c.args.m.now r.1 c.args.side c.args.upper c.args.lower r.2 r.3 c.args.number [] c.requires.table
    r.4)
    (c.in-Lower.ensures.tells r.0 r.1 r.2 r.3 r.4 (c.args.upper, r.4.each.0.list) r.4.each.0.was)).3

pub retag-requires-in-Upper-clause-moving : goal.retag-requires-in-Upper-clause-moving
retag-requires-in-Upper-clause-moving c =
    let r = c.requires.may in
    (may_retag r.0 c.args.m.now r.1 c.args.side c.args.upper c.args.lower r.2 r.3 c.args.number [] c.requires.table
    r.4 c.args.upper
    (upper_settled r.0 c.args.m.now r.1 c.args.side c.args.upper c.args.lower r.2 r.3 c.args.number [] c.requires.table
    r.4)
    (c.in-Upper.ensures.tells r.0 r.1 r.2 r.3 r.4 (c.args.upper, r.4.each.0.list) r.4.each.0.was)).0

pub retag-requires-in-Upper-clause-node : goal.retag-requires-in-Upper-clause-node
retag-requires-in-Upper-clause-node c =
    let r = c.requires.may in
    (may_retag r.0 c.args.m.now r.1 c.args.side c.args.upper c.args.lower r.2 r.3 c.args.number [] c.requires.table
    r.4 c.args.upper
    (upper_settled r.0 c.args.m.now r.1 c.args.side c.args.upper c.args.lower r.2 r.3 c.args.number [] c.requires.table
    r.4)
    (c.in-Upper.ensures.tells r.0 r.1 r.2 r.3 r.4 (c.args.upper, r.4.each.0.list) r.4.each.0.was)).1

pub retag-requires-in-Upper-clause-fits : goal.retag-requires-in-Upper-clause-fits
retag-requires-in-Upper-clause-fits c =
    let r = c.requires.may in
    (may_retag r.0 c.args.m.now r.1 c.args.side c.args.upper c.args.lower r.2 r.3 c.args.number [] c.requires.table
    r.4 c.args.upper
    (upper_settled r.0 c.args.m.now r.1 c.args.side c.args.upper c.args.lower r.2 r.3 c.args.number [] c.requires.table
    r.4)
    (c.in-Upper.ensures.tells r.0 r.1 r.2 r.3 r.4 (c.args.upper, r.4.each.0.list) r.4.each.0.was)).2

pub retag-requires-in-Upper-clause-absent : goal.retag-requires-in-Upper-clause-absent
retag-requires-in-Upper-clause-absent c =
    let r = c.requires.may in
    (may_retag r.0 c.args.m.now r.1 c.args.side c.args.upper c.args.lower r.2 r.3 c.args.number [] c.requires.table
    r.4 c.args.upper
    (upper_settled r.0 c.args.m.now r.1 c.args.side c.args.upper c.args.lower r.2 r.3 c.args.number [] c.requires.table
    r.4)
    (c.in-Upper.ensures.tells r.0 r.1 r.2 r.3 r.4 (c.args.upper, r.4.each.0.list) r.4.each.0.was)).3

pub returns-in_ok-push-in-Lower-clause-sorted : goal.returns-in_ok-push-in-Lower-clause-sorted
returns-in_ok-push-in-Lower-clause-sorted c =
    let own = c.requires.may.4.each.0 in
    record {
      fit = Lower;
      tells = c.in-Lower.ensures.tells;
      by = (
        ((c.args.upper, own.list), own.was, c.retag.ensures.linked (c.args.upper, own.list) own.was),
        c.in_ok-push-in-Lower.ensures.items,
        refl,
      );
    }

pub returns-in-Upper-clause-sorted : goal.returns-in-Upper-clause-sorted
returns-in-Upper-clause-sorted c =
    let own = c.requires.may.4.each.0 in
    record {
      fit = Upper;
      tells = c.in-Upper.ensures.tells;
      by = (
        ((c.args.upper, own.list), own.was, c.retag-in-Upper.ensures.linked (c.args.upper, own.list) own.was),
        refl,
        refl,
      );
    }
