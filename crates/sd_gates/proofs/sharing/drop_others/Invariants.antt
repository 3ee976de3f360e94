-- Entries were dropped, and none was added.
use Rattle.std.proofs.Common.{◌≡◌, length}
use Rattle.sd_gates.specs.Holding.{DropsEntries}
use Rattle.sd_gates.proofs.sharing.drop_others.Given as goal

abbrev pub invariant-dropping : goal.invariant-dropping
invariant-dropping l = record {
  fewer : DropsEntries l.initial.nodes.items l.nodes.items;
  size : length l.nodes.items ≡ length l.initial.nodes.items;
}
