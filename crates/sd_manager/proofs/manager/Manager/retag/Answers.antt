use Rattle.std.proofs.Common.{sym, subst}
use Rattle.std.specs.Option.{IsSome}
use Rattle.std.specs.FinMap.{get}
use Rattle.sd_manager.specs.Stored.{table_of, counted_roots, held_count}
use Rattle.sd_manager.proofs.Retagged.{may_retag, tagged_detached, tagged_absent, retagged_is}
use Rattle.sd_manager.proofs.Retagged.{retagged_stored}
use Rattle.sd_manager.proofs.CountsAfter.{counts_retagged, counts_relinked}
use Rattle.sd_manager.proofs.manager.Manager.retag.Goals as goal

pub relink-requires-clause-node : goal.relink-requires-clause-node
relink-requires-clause-node c =
    let s = c.self.inside in
    let may = may_retag (table_of s.vtree s.nodes s.roots s.epoch s.moving) c.args.self.now c.args.number
    c.place.inside.0 c.args.place c.self.view_is c.place.view_is c.requires.node c.requires.fits c.requires.absent in
    tagged_detached s.vtree s.nodes s.roots s.epoch s.moving c.self.invariant.stored c.args.number c.place.inside.0 may
    c.retag.new.self c.retag.ensures.retagged

pub relink-requires-clause-absent : goal.relink-requires-clause-absent
relink-requires-clause-absent c =
    let s = c.self.inside in
    let may = may_retag (table_of s.vtree s.nodes s.roots s.epoch s.moving) c.args.self.now c.args.number
    c.place.inside.0 c.args.place c.self.view_is c.place.view_is c.requires.node c.requires.fits c.requires.absent in
    tagged_absent s.vtree s.nodes s.roots s.epoch s.moving c.self.invariant.stored c.args.number c.place.inside.0 may
    c.retag.new.self c.retag.ensures.retagged

pub invariant_of-self : goal.invariant_of-self
invariant_of-self c =
    let s = c.self.inside in
    let held = held_count (counted_roots s.is_counting s.roots) in
    let may = may_retag (table_of s.vtree s.nodes s.roots s.epoch s.moving) c.args.self.now c.args.number
    c.place.inside.0 c.args.place c.self.view_is c.place.view_is c.requires.node c.requires.fits c.requires.absent in
    let detached = subst (λ t. IsSome (get t.detached c.args.number)) (sym c.self.view_is) c.requires.node in
    record {
      stored = retagged_stored s.vtree s.nodes s.roots s.epoch s.moving c.self.invariant.stored c.args.number
          c.place.inside.0 may c.retag.new.self c.retag.ensures.retagged c.relink.new.self c.relink.ensures.relinked
          c.relink.ensures.nodes;
      counted = counts_relinked c.retag.new.self c.relink.new.self held s.counts
          (counts_retagged s.nodes c.retag.new.self held s.counts c.self.invariant.counted
          c.args.number c.place.inside.0 c.self.invariant.stored.valid detached c.retag.ensures.retagged)
          c.args.number c.retag.ensures.nodes (let s = c.self.inside in
          let may = may_retag (table_of s.vtree s.nodes s.roots s.epoch s.moving) c.args.self.now c.args.number
          c.place.inside.0 c.args.place c.self.view_is c.place.view_is c.requires.node c.requires.fits
          c.requires.absent in
          tagged_detached s.vtree s.nodes s.roots s.epoch s.moving c.self.invariant.stored c.args.number
          c.place.inside.0 may
          c.retag.new.self c.retag.ensures.retagged) c.relink.ensures.relinked;
    }

pub returns-clause-linked : goal.returns-clause-linked
returns-clause-linked c =
    let s = c.self.inside in
    let may = may_retag (table_of s.vtree s.nodes s.roots s.epoch s.moving) c.args.self.now c.args.number
    c.place.inside.0 c.args.place c.self.view_is c.place.view_is c.requires.node c.requires.fits c.requires.absent in
    retagged_is s.vtree s.nodes s.roots s.epoch s.moving c.self.invariant.stored c.args.number c.place.inside.0 may
    c.retag.new.self c.retag.ensures.retagged c.relink.new.self c.relink.ensures.relinked c.args.self.now c.args.place
    c.self.view_is c.place.view_is

pub returns-clause-table : goal.returns-clause-table
returns-clause-table c = (invariant_of-self c).stored.table
