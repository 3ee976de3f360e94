-- The parts so far, and the gates that are left.
use Rattle.std.proofs.Common.{◌≡◌, ◌++◌, length, map}
use Rattle.std.specs.List.{range_with_len}
use Rattle.sd_model.specs.Seen.{tree_of}
use Rattle.sd_parts.specs.Work.{part_work}
use Rattle.sd_parts.proofs.part.parts.Given as goal

abbrev pub invariant-loop-gate : goal.invariant-loop-gate
invariant-loop-gate g l = record {
  made :
      l.list.items
      ≡ map (part_work l.f (tree_of l.tree) l.limit l.bound l.count) (range_with_len 0 (length l.yielded));
  left : l.yielded ++ l.gate-iterator.rest.items ≡ l.fn.gates.items;
}
