use Rattle.std.proofs.Common.{length, sym, subst}
use Rattle.sd_manager.specs.Making.{IsRefusal, KeepsRule}
use Rattle.sd_manager.specs.Stored.{table_of, counted_roots, held_count}
use Rattle.sd_manager.specs.Moving.{IsRewritten}
use Rattle.sd_manager.proofs.Linking.{refused, kept_rule}
use Rattle.sd_manager.proofs.Rewritten.{rewriting, rewriting_some, rewriting_counted, rewriting_room, rewriting_node}
use Rattle.sd_manager.proofs.Rewritten.{rewriting_run, rewriting_detached, rewriting_absent, rewriting_other}
use Rattle.sd_manager.proofs.Rewritten.{rewritten_stored, rewritten}
use Rattle.sd_manager.proofs.CountsAfter.{counts_relinked}
use Rattle.sd_manager.proofs.manager.Manager.rewrite.Goals as goal

pub take_run-requires : goal.take_run-requires
take_run-requires c =
    let s = c.self.inside in
    let asks = rewriting s.vtree s.nodes s.roots s.epoch s.moving c.args.self.now c.args.number c.args.elements.now
    c.as_slice-list.result.now c.sort_into.new.list.items c.self.invariant.stored c.self.view_is c.requires.node
    c.requires.fits c.requires.absent c.in_ok-sort_into.ensures.permutation c.in_ok-sort_into.ensures.sorted
    c.as_slice-list.ensures.value in
    record {
      at_least_one = rewriting_some s.vtree s.nodes s.roots s.epoch s.moving c.args.number c.args.elements.now
          c.as_slice-list.result.now asks;
    }

pub returns-in-Err-clause-full : goal.returns-in-Err-clause-full
returns-in-Err-clause-full c =
    let s = c.self.inside in
    let asks = rewriting s.vtree s.nodes s.roots s.epoch s.moving c.args.self.now c.args.number c.args.elements.now
    c.as_slice-list.result.now c.sort_into.new.list.items c.self.invariant.stored c.self.view_is c.requires.node
    c.requires.fits c.requires.absent c.in_ok-sort_into.ensures.permutation c.in_ok-sort_into.ensures.sorted
    c.as_slice-list.ensures.value in
    subst (λ t. IsRefusal t (length c.args.elements.now) c.in-Err.error) c.self.view_is
    (refused s.vtree s.nodes s.roots s.epoch s.moving asks.former.0 c.args.elements.now
    c.as_slice-list.result.now asks.asked asks.fits.untrimmed c.in-Err.error c.in-Err.ensures.full)

pub returns-in-Err-clause-rule : goal.returns-in-Err-clause-rule
returns-in-Err-clause-rule c =
    let s = c.self.inside in
    let asks = rewriting s.vtree s.nodes s.roots s.epoch s.moving c.args.self.now c.args.number c.args.elements.now
    c.as_slice-list.result.now c.sort_into.new.list.items c.self.invariant.stored c.self.view_is c.requires.node
    c.requires.fits c.requires.absent c.in_ok-sort_into.ensures.permutation c.in_ok-sort_into.ensures.sorted
    c.as_slice-list.ensures.value in
    subst (λ x. KeepsRule (table_of s.vtree x s.roots s.epoch s.moving) c.in-Err.error) (sym c.in-Err.ensures.err)
    (kept_rule s.vtree s.nodes s.roots s.epoch s.moving asks.former.0 c.args.elements.now
    c.as_slice-list.result.now asks.asked asks.fits.untrimmed c.in-Err.error c.in-Err.ensures.full)

pub add_uses-requires-clause-counted : goal.add_uses-requires-clause-counted
add_uses-requires-clause-counted c =
    let s = c.self.inside in
    let asks = rewriting s.vtree s.nodes s.roots s.epoch s.moving c.args.self.now c.args.number c.args.elements.now
    c.as_slice-list.result.now c.sort_into.new.list.items c.self.invariant.stored c.self.view_is c.requires.node
    c.requires.fits c.requires.absent c.in_ok-sort_into.ensures.permutation c.in_ok-sort_into.ensures.sorted
    c.as_slice-list.ensures.value in
    rewriting_counted s.vtree s.nodes s.roots s.epoch s.moving c.args.number c.args.elements.now
    c.as_slice-list.result.now asks
    c.in-Ok.run'.0 c.in-Ok.ensures.fresh c.take_run.new.self c.in-Ok.ensures.ok.1 c.in-Ok.ensures.nodes

pub add_uses-requires-clause-room : goal.add_uses-requires-clause-room
add_uses-requires-clause-room c =
    let s = c.self.inside in
    let asks = rewriting s.vtree s.nodes s.roots s.epoch s.moving c.args.self.now c.args.number c.args.elements.now
    c.as_slice-list.result.now c.sort_into.new.list.items c.self.invariant.stored c.self.view_is c.requires.node
    c.requires.fits c.requires.absent c.in_ok-sort_into.ensures.permutation c.in_ok-sort_into.ensures.sorted
    c.as_slice-list.ensures.value in
    rewriting_room s.vtree s.nodes s.roots s.epoch s.moving c.args.number c.args.elements.now
    c.as_slice-list.result.now asks
    c.in-Ok.run'.0 c.in-Ok.ensures.fresh c.take_run.new.self c.in-Ok.ensures.ok.1 c.in-Ok.ensures.nodes

pub replace_run-former-requires-clause-node : goal.replace_run-former-requires-clause-node
replace_run-former-requires-clause-node c =
    let s = c.self.inside in
    let asks = rewriting s.vtree s.nodes s.roots s.epoch s.moving c.args.self.now c.args.number c.args.elements.now
    c.as_slice-list.result.now c.sort_into.new.list.items c.self.invariant.stored c.self.view_is c.requires.node
    c.requires.fits c.requires.absent c.in_ok-sort_into.ensures.permutation c.in_ok-sort_into.ensures.sorted
    c.as_slice-list.ensures.value in
    rewriting_node s.vtree s.nodes s.roots s.epoch s.moving c.args.number c.args.elements.now
    c.as_slice-list.result.now asks
    c.in-Ok.run'.0 c.in-Ok.ensures.fresh c.take_run.new.self c.in-Ok.ensures.ok.1 c.in-Ok.ensures.nodes
    c.add_uses.new.nodes c.add_uses.ensures.uses

pub replace_run-former-requires-clause-run : goal.replace_run-former-requires-clause-run
replace_run-former-requires-clause-run c =
    let s = c.self.inside in
    let asks = rewriting s.vtree s.nodes s.roots s.epoch s.moving c.args.self.now c.args.number c.args.elements.now
    c.as_slice-list.result.now c.sort_into.new.list.items c.self.invariant.stored c.self.view_is c.requires.node
    c.requires.fits c.requires.absent c.in_ok-sort_into.ensures.permutation c.in_ok-sort_into.ensures.sorted
    c.as_slice-list.ensures.value in
    rewriting_run s.vtree s.nodes s.roots s.epoch s.moving c.args.number c.args.elements.now
    c.as_slice-list.result.now asks
    c.in-Ok.run'.0 c.in-Ok.ensures.fresh c.take_run.new.self c.in-Ok.ensures.ok.1 c.in-Ok.ensures.nodes
    c.add_uses.new.nodes c.add_uses.ensures.uses c.in-Ok.run'.1 c.in-Ok.ensures.ok.0

pub recount-requires : goal.recount-requires
recount-requires c =
    let s = c.self.inside in
    let asks = rewriting s.vtree s.nodes s.roots s.epoch s.moving c.args.self.now c.args.number c.args.elements.now
    c.as_slice-list.result.now c.sort_into.new.list.items c.self.invariant.stored c.self.view_is c.requires.node
    c.requires.fits c.requires.absent c.in_ok-sort_into.ensures.permutation c.in_ok-sort_into.ensures.sorted
    c.as_slice-list.ensures.value in
    let other = rewriting_other s.vtree s.nodes s.roots s.epoch s.moving c.args.number c.args.elements.now
    c.as_slice-list.result.now asks
    c.in-Ok.run'.0 c.in-Ok.ensures.fresh c.take_run.new.self c.in-Ok.ensures.ok.1 c.in-Ok.ensures.nodes
    c.add_uses.new.nodes c.add_uses.ensures.uses c.in-Ok.run'.1 c.in-Ok.ensures.ok.0 c.replace_run-former.result
    c.replace_run-former.new.self
    c.replace_run-former.ensures.exchanged c.replace_run-former.ensures.fresh c.replace_run-former.ensures.nodes in
    record { may = (s.nodes, held_count (counted_roots s.is_counting s.roots), other, c.self.invariant.counted) }

pub relink-requires-clause-node : goal.relink-requires-clause-node
relink-requires-clause-node c =
    let s = c.self.inside in
    let asks = rewriting s.vtree s.nodes s.roots s.epoch s.moving c.args.self.now c.args.number c.args.elements.now
    c.as_slice-list.result.now c.sort_into.new.list.items c.self.invariant.stored c.self.view_is c.requires.node
    c.requires.fits c.requires.absent c.in_ok-sort_into.ensures.permutation c.in_ok-sort_into.ensures.sorted
    c.as_slice-list.ensures.value in
    rewriting_detached s.vtree s.nodes s.roots s.epoch s.moving c.args.number c.args.elements.now
    c.as_slice-list.result.now asks
    c.in-Ok.run'.0 c.in-Ok.ensures.fresh c.take_run.new.self c.in-Ok.ensures.ok.1 c.in-Ok.ensures.nodes
    c.add_uses.new.nodes c.add_uses.ensures.uses c.in-Ok.run'.1 c.in-Ok.ensures.ok.0 c.replace_run-former.result
    c.replace_run-former.new.self
    c.replace_run-former.ensures.exchanged c.replace_run-former.ensures.fresh

pub relink-requires-clause-absent : goal.relink-requires-clause-absent
relink-requires-clause-absent c =
    let s = c.self.inside in
    let asks = rewriting s.vtree s.nodes s.roots s.epoch s.moving c.args.self.now c.args.number c.args.elements.now
    c.as_slice-list.result.now c.sort_into.new.list.items c.self.invariant.stored c.self.view_is c.requires.node
    c.requires.fits c.requires.absent c.in_ok-sort_into.ensures.permutation c.in_ok-sort_into.ensures.sorted
    c.as_slice-list.ensures.value in
    rewriting_absent s.vtree s.nodes s.roots s.epoch s.moving c.args.number c.args.elements.now
    c.as_slice-list.result.now asks
    c.in-Ok.run'.0 c.in-Ok.ensures.fresh c.take_run.new.self c.in-Ok.ensures.ok.1 c.in-Ok.ensures.nodes
    c.add_uses.new.nodes c.add_uses.ensures.uses c.in-Ok.run'.1 c.in-Ok.ensures.ok.0 c.replace_run-former.result
    c.replace_run-former.new.self
    c.replace_run-former.ensures.exchanged c.replace_run-former.ensures.fresh

pub invariant_of-self-2 : goal.invariant_of-self-2
invariant_of-self-2 c =
    let s = c.self.inside in
    let held = held_count (counted_roots s.is_counting s.roots) in
    let asks = rewriting s.vtree s.nodes s.roots s.epoch s.moving c.args.self.now c.args.number c.args.elements.now
    c.as_slice-list.result.now c.sort_into.new.list.items c.self.invariant.stored c.self.view_is c.requires.node
    c.requires.fits c.requires.absent c.in_ok-sort_into.ensures.permutation c.in_ok-sort_into.ensures.sorted
    c.as_slice-list.ensures.value in
    let other = rewriting_other s.vtree s.nodes s.roots s.epoch s.moving c.args.number c.args.elements.now
    c.as_slice-list.result.now asks
    c.in-Ok.run'.0 c.in-Ok.ensures.fresh c.take_run.new.self c.in-Ok.ensures.ok.1 c.in-Ok.ensures.nodes
    c.add_uses.new.nodes c.add_uses.ensures.uses c.in-Ok.run'.1 c.in-Ok.ensures.ok.0 c.replace_run-former.result
    c.replace_run-former.new.self
    c.replace_run-former.ensures.exchanged c.replace_run-former.ensures.fresh c.replace_run-former.ensures.nodes in
    record {
      stored = rewritten_stored s.vtree s.nodes s.roots s.epoch s.moving c.args.number c.args.elements.now
          c.as_slice-list.result.now asks
          c.in-Ok.run'.0 c.in-Ok.ensures.fresh c.take_run.new.self c.in-Ok.ensures.ok.1 c.in-Ok.ensures.nodes
          c.add_uses.new.nodes c.add_uses.ensures.uses c.in-Ok.run'.1 c.in-Ok.ensures.ok.0 c.replace_run-former.result
          c.replace_run-former.new.self
          c.replace_run-former.ensures.exchanged c.replace_run-former.ensures.fresh
          c.relink.new.self c.relink.ensures.relinked
          c.relink.ensures.nodes;
      counted = counts_relinked c.replace_run-former.new.self c.relink.new.self held
          c.recount.new.counts
          (c.recount.ensures.right s.nodes held other c.self.invariant.counted) c.args.number
          c.replace_run-former.ensures.nodes (let s = c.self.inside in
          let asks = rewriting s.vtree s.nodes s.roots s.epoch s.moving c.args.self.now c.args.number
          c.args.elements.now
          c.as_slice-list.result.now c.sort_into.new.list.items c.self.invariant.stored c.self.view_is c.requires.node
          c.requires.fits c.requires.absent c.in_ok-sort_into.ensures.permutation c.in_ok-sort_into.ensures.sorted
          c.as_slice-list.ensures.value in
          rewriting_detached s.vtree s.nodes s.roots s.epoch s.moving c.args.number c.args.elements.now
          c.as_slice-list.result.now asks
          c.in-Ok.run'.0 c.in-Ok.ensures.fresh c.take_run.new.self c.in-Ok.ensures.ok.1 c.in-Ok.ensures.nodes
          c.add_uses.new.nodes c.add_uses.ensures.uses c.in-Ok.run'.1 c.in-Ok.ensures.ok.0 c.replace_run-former.result
          c.replace_run-former.new.self
          c.replace_run-former.ensures.exchanged c.replace_run-former.ensures.fresh) c.relink.ensures.relinked;
    }

pub returns-clause-ok : goal.returns-clause-ok
returns-clause-ok c =
    let s = c.self.inside in
    let asks = rewriting s.vtree s.nodes s.roots s.epoch s.moving c.args.self.now c.args.number c.args.elements.now
    c.as_slice-list.result.now c.sort_into.new.list.items c.self.invariant.stored c.self.view_is c.requires.node
    c.requires.fits c.requires.absent c.in_ok-sort_into.ensures.permutation c.in_ok-sort_into.ensures.sorted
    c.as_slice-list.ensures.value in
    subst (λ t. IsRewritten t (table_of s.vtree c.relink.new.self s.roots s.epoch s.moving) c.args.number
    c.args.elements.now c.replace_run-former.result.0 c.replace_run-former.result.1) c.self.view_is
    (rewritten s.vtree s.nodes s.roots s.epoch s.moving c.args.number c.args.elements.now c.as_slice-list.result.now
    asks
    c.in-Ok.run'.0 c.in-Ok.ensures.fresh c.take_run.new.self c.in-Ok.ensures.ok.1 c.in-Ok.ensures.nodes
    c.add_uses.new.nodes c.add_uses.ensures.uses c.in-Ok.run'.1 c.in-Ok.ensures.ok.0 c.replace_run-former.result
    c.replace_run-former.new.self
    c.replace_run-former.ensures.exchanged c.replace_run-former.ensures.fresh
    c.relink.new.self c.relink.ensures.relinked
    c.relink.ensures.nodes)

pub returns-clause-table : goal.returns-clause-table
returns-clause-table c = (invariant_of-self-2 c).stored.table
