use Rattle.std.proofs.Common.{refl, arith}
use Rattle.sd_manager.proofs.Counted.{adds_none, next_counted, next_room, next_added, all_added}
use Rattle.sd_manager.proofs.uses.add_uses.Goals as goal

pub loop-pair-init : goal.loop-pair-init
loop-pair-init c =
    record { uses = adds_none c.args.nodes.now (λ _. 0) (λ _. refl); valid = c.requires.valid }

pub add_pair-requires-clause-first : goal.add_pair-requires-clause-first
add_pair-requires-clause-first c =
    (next_counted c.args.nodes.now c.loop-pair.nodes c.args.list.now c.loop-pair.pair-index (0, 0)
    c.loop-pair.invariant (omega arith) c.requires.counted).0

pub add_pair-requires-clause-second : goal.add_pair-requires-clause-second
add_pair-requires-clause-second c =
    (next_counted c.args.nodes.now c.loop-pair.nodes c.args.list.now c.loop-pair.pair-index (0, 0)
    c.loop-pair.invariant (omega arith) c.requires.counted).1

pub add_pair-requires-clause-room : goal.add_pair-requires-clause-room
add_pair-requires-clause-room c =
    next_room c.args.nodes.now c.loop-pair.nodes c.args.list.now c.loop-pair.pair-index (0, 0)
    c.loop-pair.invariant (omega arith) c.requires.room

pub loop-pair-preserved : goal.loop-pair-preserved
loop-pair-preserved c =
    next_added c.args.nodes.now c.loop-pair.nodes c.add_pair.new.nodes c.args.list.now c.loop-pair.pair-index (0, 0)
    c.loop-pair.invariant (omega arith) c.add_pair.ensures.uses c.add_pair.ensures.valid

pub returns-clause-uses : goal.returns-clause-uses
returns-clause-uses c =
    all_added c.args.nodes.now c.loop-pair.nodes c.args.list.now c.loop-pair.pair-index c.loop-pair.invariant
    (omega arith)
