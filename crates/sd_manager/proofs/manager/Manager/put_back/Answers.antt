use Rattle.std.proofs.Common.{refl, sym, subst}
use Rattle.std.specs.FinMap.{get}
use Rattle.std.specs.Option.{IsSome}
use Rattle.sd_manager.specs.Stored.{table_of, counted_roots, held_count}
use Rattle.sd_manager.specs.Moving.{IsPutBack}
use Rattle.sd_manager.proofs.DetachedList.{detached_node, detached_counted, detached_used}
use Rattle.sd_manager.proofs.Holding.{some_value}
use Rattle.sd_manager.proofs.PutBack.{putting, putting_node, putting_run, putting_former, putting_relisted}
use Rattle.sd_manager.proofs.PutBack.{putting_detached, putting_absent, put_stored, put}
use Rattle.sd_manager.proofs.PutBack.{putting_other}
use Rattle.sd_manager.proofs.CountsAfter.{counts_given, counts_retagged, counts_relinked}
use Rattle.sd_manager.proofs.manager.Manager.put_back.Goals as goal

pub drop_uses-requires-clause-node : goal.drop_uses-requires-clause-node
drop_uses-requires-clause-node c =
    let s = c.self.inside in
    let w = some_value (get s.nodes.detached c.args.number)
    (subst (λ t. IsSome (get t.detached c.args.number)) (sym c.self.view_is) c.requires.node) in
    detached_node s.vtree s.nodes s.roots s.epoch s.moving c.self.invariant.stored c.args.number w.0 w.1

pub drop_uses-requires-clause-counted : goal.drop_uses-requires-clause-counted
drop_uses-requires-clause-counted c =
    let s = c.self.inside in
    let w = some_value (get s.nodes.detached c.args.number)
    (subst (λ t. IsSome (get t.detached c.args.number)) (sym c.self.view_is) c.requires.node) in
    detached_counted s.vtree s.nodes s.roots s.epoch s.moving c.self.invariant.stored c.args.number w.0 w.1

pub drop_uses-requires-clause-used : goal.drop_uses-requires-clause-used
drop_uses-requires-clause-used c =
    let s = c.self.inside in
    let w = some_value (get s.nodes.detached c.args.number)
    (subst (λ t. IsSome (get t.detached c.args.number)) (sym c.self.view_is) c.requires.node) in
    detached_used s.vtree s.nodes s.roots s.epoch s.moving c.self.invariant.stored c.args.number w.0 w.1

pub replace_run-former-requires-clause-node : goal.replace_run-former-requires-clause-node
replace_run-former-requires-clause-node c =
    let s = c.self.inside in
    let asks = putting s.vtree s.nodes s.roots s.epoch s.moving c.args.self.now c.args.number c.args.place
    c.args.place c.args.run.0 c.args.run.1 c.self.view_is refl c.requires.node c.requires.run c.requires.fits
    c.requires.absent in
    putting_node s.vtree s.nodes s.roots s.epoch s.moving c.self.invariant.stored c.args.number c.args.place
    c.args.run.0
    c.args.run.1
    asks c.drop_uses.new.nodes c.drop_uses.ensures.uses

pub replace_run-former-requires-clause-run : goal.replace_run-former-requires-clause-run
replace_run-former-requires-clause-run c =
    let s = c.self.inside in
    let asks = putting s.vtree s.nodes s.roots s.epoch s.moving c.args.self.now c.args.number c.args.place
    c.args.place c.args.run.0 c.args.run.1 c.self.view_is refl c.requires.node c.requires.run c.requires.fits
    c.requires.absent in
    putting_run s.vtree s.nodes s.roots s.epoch s.moving c.self.invariant.stored c.args.number c.args.place c.args.run.0
    c.args.run.1
    asks c.drop_uses.new.nodes c.drop_uses.ensures.uses

pub recount-requires : goal.recount-requires
recount-requires c =
    let s = c.self.inside in
    let asks = putting s.vtree s.nodes s.roots s.epoch s.moving c.args.self.now c.args.number c.args.place
    c.args.place c.args.run.0 c.args.run.1 c.self.view_is refl c.requires.node c.requires.run
    c.requires.fits
    c.requires.absent in
    let other = putting_other s.vtree s.nodes s.roots s.epoch s.moving c.self.invariant.stored c.args.number
    c.args.place
    c.args.run.0 c.args.run.1 asks c.drop_uses.new.nodes c.drop_uses.ensures.uses
    c.replace_run-former.result c.replace_run-former.new.self c.replace_run-former.ensures.exchanged
    c.replace_run-former.ensures.fresh c.replace_run-former.ensures.nodes in
    record { may = (s.nodes, held_count (counted_roots s.is_counting s.roots), other, c.self.invariant.counted) }

pub give_run-requires : goal.give_run-requires
give_run-requires c =
    let s = c.self.inside in
    let asks = putting s.vtree s.nodes s.roots s.epoch s.moving c.args.self.now c.args.number c.args.place
    c.args.place c.args.run.0 c.args.run.1 c.self.view_is refl c.requires.node c.requires.run c.requires.fits
    c.requires.absent in
    putting_former s.vtree s.nodes s.roots s.epoch s.moving c.self.invariant.stored c.args.number c.args.place
    c.args.run.0
    c.args.run.1
    asks c.drop_uses.new.nodes c.drop_uses.ensures.uses
    c.replace_run-former.result c.replace_run-former.new.self c.replace_run-former.ensures.exchanged
    c.replace_run-former.ensures.fresh

pub retag-requires : goal.retag-requires
retag-requires c =
    let s = c.self.inside in
    let asks = putting s.vtree s.nodes s.roots s.epoch s.moving c.args.self.now c.args.number c.args.place
    c.place.inside.0 c.args.run.0 c.args.run.1 c.self.view_is c.place.view_is c.requires.node c.requires.run
    c.requires.fits
    c.requires.absent in
    record {
      node = putting_relisted s.vtree s.nodes s.roots s.epoch s.moving c.self.invariant.stored c.args.number
          c.place.inside.0
          c.args.run.0 c.args.run.1
          asks c.drop_uses.new.nodes c.drop_uses.ensures.uses
          c.replace_run-former.result c.replace_run-former.new.self c.replace_run-former.ensures.exchanged
          c.replace_run-former.ensures.fresh c.give_run.new.self c.give_run.ensures.given_back;
    }

pub relink-requires-clause-node : goal.relink-requires-clause-node
relink-requires-clause-node c =
    let s = c.self.inside in
    let asks = putting s.vtree s.nodes s.roots s.epoch s.moving c.args.self.now c.args.number c.args.place
    c.place.inside.0 c.args.run.0 c.args.run.1 c.self.view_is c.place.view_is c.requires.node c.requires.run
    c.requires.fits
    c.requires.absent in
    putting_detached s.vtree s.nodes s.roots s.epoch s.moving c.self.invariant.stored c.args.number c.place.inside.0
    c.args.run.0 c.args.run.1
    asks c.drop_uses.new.nodes c.drop_uses.ensures.uses
    c.replace_run-former.result c.replace_run-former.new.self c.replace_run-former.ensures.exchanged
    c.replace_run-former.ensures.fresh c.give_run.new.self c.give_run.ensures.given_back
    c.retag.new.self c.retag.ensures.retagged

pub relink-requires-clause-absent : goal.relink-requires-clause-absent
relink-requires-clause-absent c =
    let s = c.self.inside in
    let asks = putting s.vtree s.nodes s.roots s.epoch s.moving c.args.self.now c.args.number c.args.place
    c.place.inside.0 c.args.run.0 c.args.run.1 c.self.view_is c.place.view_is c.requires.node c.requires.run
    c.requires.fits
    c.requires.absent in
    putting_absent s.vtree s.nodes s.roots s.epoch s.moving c.self.invariant.stored c.args.number c.place.inside.0
    c.args.run.0 c.args.run.1
    asks c.drop_uses.new.nodes c.drop_uses.ensures.uses
    c.replace_run-former.result c.replace_run-former.new.self c.replace_run-former.ensures.exchanged
    c.replace_run-former.ensures.fresh c.give_run.new.self c.give_run.ensures.given_back
    c.retag.new.self c.retag.ensures.retagged

pub invariant_of-self : goal.invariant_of-self
invariant_of-self c =
    let s = c.self.inside in
    let held = held_count (counted_roots s.is_counting s.roots) in
    let asks = putting s.vtree s.nodes s.roots s.epoch s.moving c.args.self.now c.args.number c.args.place
    c.place.inside.0 c.args.run.0 c.args.run.1 c.self.view_is c.place.view_is c.requires.node c.requires.run
    c.requires.fits
    c.requires.absent in
    let other = putting_other s.vtree s.nodes s.roots s.epoch s.moving c.self.invariant.stored c.args.number
    c.place.inside.0
    c.args.run.0 c.args.run.1 asks c.drop_uses.new.nodes c.drop_uses.ensures.uses
    c.replace_run-former.result c.replace_run-former.new.self c.replace_run-former.ensures.exchanged
    c.replace_run-former.ensures.fresh c.replace_run-former.ensures.nodes in
    record {
      stored = put_stored s.vtree s.nodes s.roots s.epoch s.moving c.self.invariant.stored c.args.number
          c.place.inside.0 c.args.run.0 c.args.run.1
          asks c.drop_uses.new.nodes c.drop_uses.ensures.uses
          c.replace_run-former.result c.replace_run-former.new.self c.replace_run-former.ensures.exchanged
          c.replace_run-former.ensures.fresh c.give_run.new.self c.give_run.ensures.given_back
          c.retag.new.self c.retag.ensures.retagged c.relink.new.self c.relink.ensures.relinked c.relink.ensures.nodes;
      counted = counts_relinked c.retag.new.self c.relink.new.self held c.recount.new.counts
          (counts_retagged c.give_run.new.self c.retag.new.self held c.recount.new.counts
          (counts_given c.replace_run-former.new.self c.give_run.new.self held c.recount.new.counts
          (c.recount.ensures.right s.nodes held other c.self.invariant.counted)
          c.replace_run-former.result.0 c.replace_run-former.result.1 (let s = c.self.inside in
          let asks = putting s.vtree s.nodes s.roots s.epoch s.moving c.args.self.now c.args.number c.args.place
          c.args.place c.args.run.0 c.args.run.1 c.self.view_is refl c.requires.node c.requires.run c.requires.fits
          c.requires.absent in
          putting_former s.vtree s.nodes s.roots s.epoch s.moving c.self.invariant.stored c.args.number c.args.place
          c.args.run.0
          c.args.run.1
          asks c.drop_uses.new.nodes c.drop_uses.ensures.uses
          c.replace_run-former.result c.replace_run-former.new.self c.replace_run-former.ensures.exchanged
          c.replace_run-former.ensures.fresh)
          c.give_run.ensures.given_back) c.args.number c.place.inside.0 c.give_run.ensures.nodes
          (let s = c.self.inside in
          let asks = putting s.vtree s.nodes s.roots s.epoch s.moving c.args.self.now c.args.number c.args.place
          c.place.inside.0 c.args.run.0 c.args.run.1 c.self.view_is c.place.view_is c.requires.node c.requires.run
          c.requires.fits
          c.requires.absent in
          putting_relisted s.vtree s.nodes s.roots s.epoch s.moving c.self.invariant.stored c.args.number
          c.place.inside.0
          c.args.run.0 c.args.run.1
          asks c.drop_uses.new.nodes c.drop_uses.ensures.uses
          c.replace_run-former.result c.replace_run-former.new.self c.replace_run-former.ensures.exchanged
          c.replace_run-former.ensures.fresh c.give_run.new.self c.give_run.ensures.given_back)
          c.retag.ensures.retagged) c.args.number c.retag.ensures.nodes
          (let s = c.self.inside in
          let asks = putting s.vtree s.nodes s.roots s.epoch s.moving c.args.self.now c.args.number c.args.place
          c.place.inside.0 c.args.run.0 c.args.run.1 c.self.view_is c.place.view_is c.requires.node c.requires.run
          c.requires.fits
          c.requires.absent in
          putting_detached s.vtree s.nodes s.roots s.epoch s.moving c.self.invariant.stored c.args.number
          c.place.inside.0
          c.args.run.0 c.args.run.1
          asks c.drop_uses.new.nodes c.drop_uses.ensures.uses
          c.replace_run-former.result c.replace_run-former.new.self c.replace_run-former.ensures.exchanged
          c.replace_run-former.ensures.fresh c.give_run.new.self c.give_run.ensures.given_back
          c.retag.new.self c.retag.ensures.retagged) c.relink.ensures.relinked;
    }

pub returns-clause-put_back : goal.returns-clause-put_back
returns-clause-put_back c =
    let s = c.self.inside in
    let asks = putting s.vtree s.nodes s.roots s.epoch s.moving c.args.self.now c.args.number c.args.place
    c.place.inside.0 c.args.run.0 c.args.run.1 c.self.view_is c.place.view_is c.requires.node c.requires.run
    c.requires.fits
    c.requires.absent in
    subst (λ t. IsPutBack t (table_of s.vtree c.relink.new.self s.roots s.epoch s.moving) c.args.number c.args.place
    c.args.run.0) c.self.view_is
    (subst (λ p. IsPutBack (table_of s.vtree s.nodes s.roots s.epoch s.moving)
    (table_of s.vtree c.relink.new.self s.roots s.epoch s.moving) c.args.number p c.args.run.0) c.place.view_is
    (put s.vtree s.nodes s.roots s.epoch s.moving c.self.invariant.stored c.args.number c.place.inside.0 c.args.run.0
    c.args.run.1
    asks c.drop_uses.new.nodes c.drop_uses.ensures.uses
    c.replace_run-former.result c.replace_run-former.new.self c.replace_run-former.ensures.exchanged
    c.replace_run-former.ensures.fresh c.give_run.new.self c.give_run.ensures.given_back
    c.retag.new.self c.retag.ensures.retagged c.relink.new.self c.relink.ensures.relinked c.relink.ensures.nodes))

pub returns-clause-table : goal.returns-clause-table
returns-clause-table c = (invariant_of-self c).stored.table
