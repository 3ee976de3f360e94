-- The nodes before are held, by roots that are new.
use Rattle.std.proofs.Common.{◌+◌, ◌≤◌}
use Rattle.std.specs.FinMap.{len}
use Rattle.sd_manager.specs.Valid.{IsTable}
use Rattle.sd_gates.specs.Holding.{HoldsMore, AreHeldBelow}
use Rattle.sd_gates.proofs.sweeping.hold_all.Given as goal

abbrev pub invariant-holding : goal.invariant-holding
invariant-holding l = record {
  more : HoldsMore l.initial.m l.m l.held.items;
  held : AreHeldBelow l.m l.nodes l.index;
  count : len l.m.roots ≤ len l.initial.m.roots + l.index;
  table : IsTable l.m;
}
