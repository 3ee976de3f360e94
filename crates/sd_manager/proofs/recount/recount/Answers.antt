use Rattle.sd_counts.specs.Right.{list_at}
use Rattle.sd_manager.proofs.CountsKept.{other_inside, other_within, other_used, other_room, other_listed, other_total}
use Rattle.sd_manager.proofs.CountsKept.{other_right}
use Rattle.sd_manager.proofs.recount.recount.Goals as goal

pub loose_list-old-requires : goal.loose_list-old-requires
loose_list-old-requires c =
    let may = c.requires.may in (list_at may.0 c.args.number, may.2.former)

pub list-new-requires : goal.list-new-requires
list-new-requires c = (c.requires.may).2.node

pub relisted-requires-clause-number : goal.relisted-requires-clause-number
relisted-requires-clause-number c =
    let may = c.requires.may in
    other_inside may.0 c.args.nodes.now may.1 c.args.counts.now c.args.number c.args.former.0
    c.args.former.1 may.2 may.3

pub relisted-requires-clause-within : goal.relisted-requires-clause-within
relisted-requires-clause-within c =
    let may = c.requires.may in
    other_within may.0 c.args.nodes.now may.1 c.args.counts.now c.args.number c.args.former.0
    c.args.former.1 may.2 may.3
    c.loose_list-old.result.now c.list-new.result.now c.loose_list-old.ensures c.list-new.ensures

pub relisted-requires-clause-used : goal.relisted-requires-clause-used
relisted-requires-clause-used c = λ on.
    let may = c.requires.may in
    other_used may.0 c.args.nodes.now may.1 c.args.counts.now c.args.number c.args.former.0 c.args.former.1 may.2 may.3
    c.loose_list-old.result.now c.list-new.result.now c.loose_list-old.ensures c.list-new.ensures on

pub relisted-requires-clause-room : goal.relisted-requires-clause-room
relisted-requires-clause-room c = λ on.
    let may = c.requires.may in
    other_room may.0 c.args.nodes.now may.1 c.args.counts.now c.args.number c.args.former.0 c.args.former.1 may.2 may.3
    c.loose_list-old.result.now c.list-new.result.now c.loose_list-old.ensures c.list-new.ensures on

pub relisted-requires-clause-listed : goal.relisted-requires-clause-listed
relisted-requires-clause-listed c = λ on.
    let may = c.requires.may in
    other_listed may.0 c.args.nodes.now may.1 c.args.counts.now c.args.number c.args.former.0 c.args.former.1 may.2
    may.3
    c.loose_list-old.result.now c.list-new.result.now c.loose_list-old.ensures c.list-new.ensures on

pub relisted-requires-clause-total : goal.relisted-requires-clause-total
relisted-requires-clause-total c = λ on.
    let may = c.requires.may in
    other_total may.0 c.args.nodes.now may.1 c.args.counts.now c.args.number c.args.former.0 c.args.former.1 may.2 may.3
    c.loose_list-old.result.now c.list-new.result.now c.loose_list-old.ensures c.list-new.ensures on

pub returns : goal.returns
returns c = record {
  right = λ a held other of.
      other_right a c.args.nodes.now held c.args.counts.now c.args.number c.args.former.0 c.args.former.1 other of
      c.loose_list-old.result.now c.list-new.result.now c.loose_list-old.ensures c.list-new.ensures
      c.relisted.new.self c.relisted.ensures.relisted c.relisted.ensures.same;
}
