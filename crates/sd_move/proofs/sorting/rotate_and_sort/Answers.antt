use Rattle.std.proofs.Common.{[]}
use Rattle.std.specs.FinMap.{get}
use Rattle.std.proofs.lemmas.Result.{on_ok_weaker}
use Rattle.sd_laws.proofs.Evaluated.{value_of}
use Rattle.sd_move.specs.Moving.{no_progress}
use Rattle.sd_move.proofs.RotatedSort.{ready_to_rotate, then_can_sort, then_may_sort, has_rotated}
use Rattle.sd_move.proofs.sorting.rotate_and_sort.Goals as goal

pub rotate_detached-requires-clause-ready : goal.rotate_detached-requires-clause-ready
rotate_detached-requires-clause-ready c =
    ready_to_rotate c.args.m.now c.args.rotation.side c.rotation_of.result c.args.rotation.upper c.args.rotation.lower c.args.upper_nodes.now
    c.args.lower_nodes.now c.rotation_of.ensures c.requires.may

pub sort_upper-requires-clause-may : goal.sort_upper-requires-clause-may
sort_upper-requires-clause-may c =
    then_may_sort c.args.m.now c.rotate_detached.new.m c.args.rotation.side c.rotation_of.result c.args.rotation.upper c.args.rotation.lower
    c.args.upper_nodes.now c.args.lower_nodes.now c.rotation_of.ensures c.requires.table
    c.rotate_detached.ensures.going c.rotate_detached.ensures.linked
    c.requires.may

pub returns-clause-going : goal.returns-clause-going
returns-clause-going c old u can =
    c.sort_upper.ensures.going old c.args.m.now.vtree no_progress (value_of (get old.linked))
    (then_can_sort c.args.m.now c.rotate_detached.new.m c.args.rotation.side c.rotation_of.result c.args.rotation.upper c.args.rotation.lower
    c.args.upper_nodes.now c.args.lower_nodes.now c.rotation_of.ensures c.requires.table
    c.rotate_detached.ensures.going c.rotate_detached.ensures.linked
    old u can)

pub returns-clause-rotated : goal.returns-clause-rotated
returns-clause-rotated c = (
  c.sort_upper.ensures.sorted.0,
  has_rotated c.args.m.now c.rotate_detached.new.m c.args.rotation.side c.rotation_of.result c.args.rotation.upper c.args.rotation.lower
      c.args.upper_nodes.now c.args.lower_nodes.now c.rotation_of.ensures c.requires.table
      c.rotate_detached.ensures.going c.rotate_detached.ensures.linked c.rotate_detached.ensures.table
      c.sort_upper.new.m c.sort_upper.ensures.sorted.0 c.args.entries.now.items c.sort_upper.new.entries.items
      c.args.waiting.now.items c.sort_upper.new.waiting.items c.requires.may c.sort_upper.ensures.sorted.1,
)

pub returns-clause-all : goal.returns-clause-all
returns-clause-all c =
    on_ok_weaker c.sort_upper.result
    (has_rotated c.args.m.now c.rotate_detached.new.m c.args.rotation.side c.rotation_of.result c.args.rotation.upper c.args.rotation.lower
    c.args.upper_nodes.now c.args.lower_nodes.now c.rotation_of.ensures c.requires.table
    c.rotate_detached.ensures.going c.rotate_detached.ensures.linked c.rotate_detached.ensures.table
    c.sort_upper.new.m [] c.args.entries.now.items c.sort_upper.new.entries.items c.args.waiting.now.items
    c.sort_upper.new.waiting.items c.requires.may) c.sort_upper.ensures.all
