use Rattle.sd_manager.proofs.Turned.{turn_node, turned_keeps, turned_stored}
use Rattle.sd_manager.proofs.manager.Manager.turn.Goals as goal

pub turn_at-requires-clause-node : goal.turn_at-requires-clause-node
turn_at-requires-clause-node c =
    let s = c.self.inside in
    turn_node s.vtree s.nodes s.roots s.epoch s.moving c.args.self.now c.self.invariant.stored c.self.view_is
    c.args.kind
    c.unwrap-place.result c.unwrap-place.ensures c.requires.movable

pub invariant_of-self : goal.invariant_of-self
invariant_of-self c =
    let s = c.self.inside in
    record {
      stored = turned_stored s.vtree s.nodes s.roots s.epoch s.moving c.args.self.now c.self.invariant.stored
          c.self.view_is c.args.kind c.unwrap-place.result c.unwrap-place.ensures c.requires.movable
          c.requires.cleared c.turn_at.new.vtree c.turn_at.ensures.moved c.turn_at.ensures.count
          c.turn_at.ensures.numbered c.epoch_after-self-inside.result c.epoch_after-self-inside.ensures;
      counted = c.self.invariant.counted;
    }

pub returns-clause-meanings : goal.returns-clause-meanings
returns-clause-meanings c =
    let s = c.self.inside in
    turned_keeps s.vtree s.nodes s.roots s.epoch s.moving c.args.self.now c.self.invariant.stored c.self.view_is
    c.args.kind
    c.unwrap-place.result c.unwrap-place.ensures c.requires.movable c.requires.cleared c.turn_at.new.vtree
    c.turn_at.ensures.moved c.turn_at.ensures.count c.turn_at.ensures.numbered c.epoch_after-self-inside.result
    c.epoch_after-self-inside.ensures

pub returns-clause-table : goal.returns-clause-table
returns-clause-table c = (invariant_of-self c).stored.table
