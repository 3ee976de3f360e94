-- The parts so far are joined.
use Rattle.std.proofs.Common.{◌≡◌}
use Rattle.sd_manager.specs.Valid.{IsTable}
use Rattle.sd_manager.specs.Making.{without_root}
use Rattle.sd_manager.specs.Marking.{AreUnmarked}
use Rattle.sd_apply.specs.Serving.{Serves}
use Rattle.sd_sweep.specs.Falling.{NeverFalls}
use Rattle.sd_compile.specs.Compiling.{prefix_of, HoldsFormula, KeepsOtherRoots}
use Rattle.sd_parts.specs.Parts.{first_of_part}
use Rattle.sd_parts.specs.Join.{AreJoinsWithin}
use Rattle.sd_parts.proofs.join.join_all.Given as goal

abbrev pub invariant-loop-part : goal.invariant-loop-part
invariant-loop-part l = record {
  holds : HoldsFormula l.m (prefix_of l.f (first_of_part l.f l.count l.part)) l.root;
  root : l.root ≡ l.fn.root;
  within : AreJoinsWithin (without_root l.fn.m l.fn.root) l.f l.count l.limit l.part;
  kept : KeepsOtherRoots l.fn.m l.m l.fn.root;
  never : NeverFalls l.fn.m l.m;
  serves : Serves l.c l.m;
  unmarked : AreUnmarked l.m;
  table : IsTable l.m;
}
