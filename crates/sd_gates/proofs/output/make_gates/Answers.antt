-- One step after the other, with sweeps between them.
use Rattle.std.proofs.Common.{◌*◌, length, ap, ◌∙◌, arith}
use Rattle.std.specs.FinMap.{len}
use Rattle.sd_model.specs.Tree.{leaves}
use Rattle.sd_vtree.specs.Numbered.{plain_tree}
use Rattle.sd_manager.proofs.Marking.{unmarked_extended}
use Rattle.sd_sweep.proofs.NeverFalling.{never_both, never_extended}
use Rattle.sd_compile.proofs.Kept.{all_extended}
use Rattle.sd_gates.proofs.Holding.{all_both, dropped_descent, paced_less}
use Rattle.sd_gates.proofs.output.make_gates.Goals as goal

pub returns-in-Err-clause-kept : goal.returns-in-Err-clause-kept
returns-in-Err-clause-kept c = all_both c.args.m.now c.making.m c.step.new.m c.making.invariant.kept
    (all_extended c.making.m c.step.new.m c.step.ensures.kept)

pub sweep_if_full-requires-clause-unmarked : goal.sweep_if_full-requires-clause-unmarked
sweep_if_full-requires-clause-unmarked c =
    unmarked_extended c.making.m c.step.new.m c.step.ensures.kept c.making.invariant.unmarked

pub returns-in-Err-sweep_if_full-clause-kept : goal.returns-in-Err-sweep_if_full-clause-kept
returns-in-Err-sweep_if_full-clause-kept c =
    all_both c.args.m.now c.step.new.m c.sweep_if_full.new.m
    (all_both c.args.m.now c.making.m c.step.new.m c.making.invariant.kept
    (all_extended c.making.m c.step.new.m c.step.ensures.kept)) c.sweep_if_full.ensures.kept

pub making-smaller : goal.making-smaller
making-smaller c =
    paced_less (2 * length c.args.circuit.now.order) c.making.sweeps.pace.most c.sweep_if_full.new.sweeps.pace.most
    c.args.top c.making.gates.nodes.items c.step.new.gates.nodes.items c.sweep_if_full.new.gates.nodes.items
    c.making.stack.items c.step.new.stack.items c.in-Ok-sweep_if_full.ensures.next c.sweep_if_full.ensures.ready.size
    (dropped_descent c.step.new.gates.nodes.items c.sweep_if_full.new.gates.nodes.items c.args.top
    c.step.new.stack.items c.sweep_if_full.ensures.fewer c.in-Ok.ensures.descent) c.in-Ok.ensures.less

pub making-preserved : goal.making-preserved
making-preserved c = record {
  kept = all_both c.args.m.now c.step.new.m c.sweep_if_full.new.m
      (all_both c.args.m.now c.making.m c.step.new.m c.making.invariant.kept
      (all_extended c.making.m c.step.new.m c.step.ensures.kept)) c.sweep_if_full.ensures.kept;
  never = never_both c.args.m.now c.step.new.m c.sweep_if_full.new.m
      (never_both c.args.m.now c.making.m c.step.new.m c.making.invariant.never
      (never_extended c.making.m c.step.new.m c.step.ensures.kept)) c.sweep_if_full.ensures.never_falls;
  variables = ap (λ v. leaves (plain_tree v)) (c.sweep_if_full.ensures.kept.reached.vtree ∙ c.step.ensures.kept.vtree)
      ∙ c.making.invariant.variables;
  no_move = c.sweep_if_full.ensures.kept.moving ∙ c.step.ensures.kept.moving ∙ c.making.invariant.no_move;
  few =
      let same = ap len (c.sweep_if_full.ensures.kept.reached.roots ∙ c.step.ensures.kept.roots) in
      omega (arith, same, c.making.invariant.few);
  unmarked = c.sweep_if_full.ensures.unmarked;
  ready = c.sweep_if_full.ensures.ready;
  serves = c.sweep_if_full.ensures.serves;
  descent = dropped_descent c.step.new.gates.nodes.items c.sweep_if_full.new.gates.nodes.items c.args.top
      c.step.new.stack.items c.sweep_if_full.ensures.fewer c.in-Ok.ensures.descent;
  table = c.sweep_if_full.ensures.table;
}
