use Rattle.std.proofs.Common.{◌≡◌, ◌-◌, ◌≤◌, length}
use Rattle.sd_manager.specs.Valid.{IsTable}
use Rattle.sd_manager.specs.Making.{without_root}
use Rattle.sd_apply.specs.Serving.{Serves}
use Rattle.sd_manager.specs.Marking.{AreUnmarked}
use Rattle.sd_sweep.specs.Falling.{NeverFalls}
use Rattle.sd_compile.specs.Compiling.{HoldsPrefix, KeepsOtherRoots, AreWithinLimit}
use Rattle.sd_compile.proofs.compiling.add_groups.Given as goal

abbrev pub invariant-left : goal.invariant-left
invariant-left l = record {
  first : IsTable l.fn.m;
  holds : HoldsPrefix l.m l.f l.work;
  root : l.work.root ≡ l.fn.work.root;
  far : l.fn.work.groups ≤ l.work.groups;
  within : AreWithinLimit (without_root l.fn.m l.fn.work.root) l.f l.limit l.fn.work.groups l.work.groups;
  kept : KeepsOtherRoots l.fn.m l.m l.fn.work.root;
  never : NeverFalls l.fn.m l.m;
  serves : Serves l.c l.m;
  unmarked : AreUnmarked l.m;
  table : IsTable l.m;
}

abbrev pub decreases-left : goal.decreases-left
decreases-left l = length l.f.groups - l.work.groups
