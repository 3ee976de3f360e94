use Rattle.std.proofs.Common.{◌≡◌, ◌≤◌, ◌+◌, length, take}
use Rattle.sd_base.specs.Asked.{Adds}
use Rattle.sd_base.specs.Shelf.{NoFile}
use Rattle.sd_model.specs.Tree.{leaves}
use Rattle.sd_vtree.specs.Numbered.{plain_tree}
use Rattle.sd_commands.specs.Commands.{State}
use Rattle.sd_commands.specs.Standing.{Represents, root_count}
use Rattle.sd_tool.specs.inside.Devices.{contents, faults, NotFewer}
use Rattle.sd_tool.specs.inside.Segments.{segment, DoesAll}
use Rattle.sd_tool.proofs.execution.execute_commands.Given as goal

abbrev pub invariant-loop-command : goal.invariant-loop-command
invariant-loop-command g l = record {
  hand : g.F.Shelf.hand l.shelf ≡ NoFile;
  unfinished : g.F.Shelf.unfinished l.shelf ≡ g.F.Shelf.unfinished l.fn.shelf;
  done : (seen : State) → Represents l.fn.state seen
      → DoesAll (Adds g.F.Shelf.asked l.fn.shelf l.shelf)
      (segment l.formula seen (take (length l.yielded) l.fn.commands.items)) l.state
      (contents g.F.Shelf.files g.O.Sink.written l.fn.shelf l.fn.out)
      (contents g.F.Shelf.files g.O.Sink.written l.shelf l.out);
  variables : leaves (plain_tree l.state.manager.vtree) ≡ leaves (plain_tree l.fn.state.manager.vtree);
  roots : root_count l.state ≤ root_count l.fn.state + length l.yielded;
  fewer : NotFewer
      (faults g.F.Shelf.read_faults g.F.Shelf.write_faults g.O.Sink.faults l.fn.shelf l.fn.out)
      (faults g.F.Shelf.read_faults g.F.Shelf.write_faults g.O.Sink.faults l.shelf l.out);
}
