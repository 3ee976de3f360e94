-- The nodes of gates are held while the manager is swept, and their roots are released.
use Rattle.std.proofs.Common.{◌≡◌, Some, None, get_or, length, sym, ap, subst, ◌∙◌}
use Rattle.sd_apply.specs.Serving.{Serves}
use Rattle.sd_compile.specs.Compiling.{KeepsAll}
use Rattle.sd_compile.proofs.Kept.{serves_roots}
use Rattle.sd_gates.specs.Sharing.{AreShared}
use Rattle.sd_gates.specs.Holding.{AreHeldNodes}
use Rattle.sd_gates.proofs.Holding.{node_there, more_serves, swept_adds, released, back_kept, held_shared}
use Rattle.sd_gates.proofs.sweeping.sweep_others.Goals.{After-drop-held}
use Rattle.sd_gates.proofs.sweeping.sweep_others.Goals as goal

pub hold_all-requires-clause-shown : goal.hold_all-requires-clause-shown
hold_all-requires-clause-shown c = λ i node e.
    node_there c.args.circuit.now c.args.gates.now.nodes.items c.args.m.now c.requires.ready.shared i node
    (ap (λ l. get_or l i None) (sym c.as_slice.ensures.value) ∙ e)

pub sweep_past-requires-clause-serves : goal.sweep_past-requires-clause-serves
sweep_past-requires-clause-serves c =
    more_serves c.args.c.now c.args.m.now c.hold_all.new.m c.hold_all.new.held.items c.hold_all.ensures.more
    c.requires.serves

pub release_all-requires-clause-added : goal.release_all-requires-clause-added
release_all-requires-clause-added c = (
  c.args.m.now.roots,
  swept_adds c.args.m.now c.hold_all.new.m c.sweep_past.new.m c.hold_all.new.held.items c.hold_all.ensures.more
      c.sweep_past.ensures.kept,
)

-- the manager at the end
end_is : (c : After-drop-held) → c.release_all.new.m ≡ released c.args.m.now c.sweep_past.new.m
end_is c = c.release_all.ensures.back c.args.m.now.roots
    (swept_adds c.args.m.now c.hold_all.new.m c.sweep_past.new.m c.hold_all.new.held.items c.hold_all.ensures.more
    c.sweep_past.ensures.kept)

pub returns-in-Ok-clause-kept : goal.returns-in-Ok-clause-kept
returns-in-Ok-clause-kept c = subst (KeepsAll c.args.m.now) (sym (end_is c))
    (back_kept c.args.m.now c.hold_all.new.m c.sweep_past.new.m c.hold_all.new.held.items c.hold_all.ensures.more
    c.sweep_past.ensures.kept)

pub returns-in-Ok-clause-ready : goal.returns-in-Ok-clause-ready
returns-in-Ok-clause-ready c = record {
  epoch = c.renew.ensures.epoch ∙ ap Some c.epoch.ensures.epoch;
  size = ap length c.renew.ensures.nodes ∙ c.requires.ready.size;
  shared = subst (AreShared c.args.circuit.now c.renew.new.self.nodes.items) (sym (end_is c))
      (subst (λ l. AreShared c.args.circuit.now l (released c.args.m.now c.sweep_past.new.m))
      (sym c.renew.ensures.nodes)
      (held_shared c.args.circuit.now c.args.gates.now.nodes.items c.args.m.now c.hold_all.new.m c.sweep_past.new.m
      c.hold_all.new.held.items c.hold_all.ensures.more c.sweep_past.ensures.kept
      (subst (AreHeldNodes c.hold_all.new.m) c.as_slice.ensures.value c.in-Ok.ensures.held)
      c.requires.ready.shared));
}

pub returns-in-Ok-clause-serves : goal.returns-in-Ok-clause-serves
returns-in-Ok-clause-serves c = subst (Serves c.sweep_past.new.c) (sym (end_is c))
    (serves_roots c.sweep_past.new.c c.sweep_past.new.m c.args.m.now.roots c.sweep_past.ensures.serves)
