use Rattle.sd_manager.proofs.BeginAndEnd.{ended_of}
use Rattle.sd_manager.proofs.manager.Manager.end_move.Goals as goal

pub invariant_of-self : goal.invariant_of-self
invariant_of-self c =
    let s = c.self.inside in
    record {
      stored = ended_of s.vtree s.nodes s.roots s.epoch s.moving c.args.self.now c.self.invariant.stored c.self.view_is
          c.requires.none_detached c.requires.known;
      counted = c.self.invariant.counted;
    }

pub returns-clause-table : goal.returns-clause-table
returns-clause-table c = (invariant_of-self c).stored.table
