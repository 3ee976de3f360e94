-- What is so between two steps, and what is left to do.
use Rattle.std.proofs.Common.{◌≡◌, ◌*◌, ◌^◌, ◌<◌, length, None}
use Rattle.std.specs.FinMap.{len}
use Rattle.sd_model.specs.Tree.{leaves}
use Rattle.sd_vtree.specs.Numbered.{plain_tree}
use Rattle.sd_manager.specs.Valid.{IsTable}
use Rattle.sd_manager.specs.Marking.{AreUnmarked}
use Rattle.sd_apply.specs.Serving.{Serves}
use Rattle.sd_sweep.specs.Falling.{NeverFalls}
use Rattle.sd_compile.specs.Compiling.{KeepsAll}
use Rattle.sd_gates.specs.Making.{AreCurrent, IsDescent}
use Rattle.sd_gates.proofs.Holding.{steps_left}
use Rattle.sd_gates.proofs.output.make_gates.Given as goal

abbrev pub invariant-making : goal.invariant-making
invariant-making l = record {
  kept : KeepsAll l.initial.m l.m;
  never : NeverFalls l.initial.m l.m;
  variables : leaves (plain_tree l.m.vtree) ≡ length l.circuit.text.inputs;
  no_move : l.m.moving ≡ None;
  few : len l.m.roots < 2 ^ 31;
  unmarked : AreUnmarked l.m;
  ready : AreCurrent l.circuit l.gates l.m;
  serves : Serves l.c l.m;
  descent : IsDescent l.gates.nodes.items l.top l.stack.items;
  table : IsTable l.m;
}

abbrev pub decreases-making : goal.decreases-making
decreases-making l =
    steps_left (2 * length l.circuit.order) l.sweeps.pace.most l.top l.gates.nodes.items l.stack.items
