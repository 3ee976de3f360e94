-- Between two outputs the manager, the cache and the nodes of gates are what an output asks for.
use Rattle.std.proofs.Common.{◌≡◌, ◌^◌, ◌<◌, length, None}
use Rattle.std.specs.FinMap.{len}
use Rattle.sd_model.specs.Tree.{leaves}
use Rattle.sd_vtree.specs.Numbered.{plain_tree}
use Rattle.sd_manager.specs.Marking.{AreUnmarked}
use Rattle.sd_apply.specs.Serving.{Serves}
use Rattle.sd_gates.specs.Sharing.{Shares}
use Rattle.sd_gates.proofs.tests.made.Given as goal

abbrev pub invariant-outputs : goal.invariant-outputs
invariant-outputs l = record {
  variables : leaves (plain_tree l.m.vtree) ≡ length l.circuit.text.inputs;
  no_move : l.m.moving ≡ None;
  unmarked : AreUnmarked l.m;
  serves : Serves l.c l.m;
  shares : Shares l.circuit l.gates l.m;
  room : len l.m.roots < 2 ^ 31;
}
