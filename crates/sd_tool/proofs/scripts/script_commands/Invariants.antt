use Rattle.std.proofs.Common.{◌≡◌, ◌≤◌, List, [], drop}
use Rattle.sd_base.specs.Asked.{Adds}
use Rattle.sd_base.specs.Shelf.{NoFile}
use Rattle.sd_commands.specs.declared.command.NumberedCommand.{NumberedCommand}
use Rattle.sd_tool.specs.Actions.{AreCommandsOf}
use Rattle.sd_tool.specs.inside.Asks.{ComesTo}
use Rattle.sd_tool.specs.Readings.{Point, with_lines}
use Rattle.sd_tool.proofs.scripts.script_commands.Given as goal

-- the lines so far have become the commands, and the readings have come to the lines that are left
abbrev pub invariant-loop-line : goal.invariant-loop-line
invariant-loop-line g l = record {
  hand : g.F.Shelf.hand l.shelf ≡ NoFile;
  files : g.F.Shelf.files l.shelf ≡ g.F.Shelf.files l.fn.shelf;
  read_faults : g.F.Shelf.read_faults l.fn.shelf ≤ g.F.Shelf.read_faults l.shelf;
  write_faults : g.F.Shelf.write_faults l.shelf ≡ g.F.Shelf.write_faults l.fn.shelf;
  unfinished : g.F.Shelf.unfinished l.shelf ≡ g.F.Shelf.unfinished l.fn.shelf;
  same : l.line-items ≡ l.fn.script.commands;
  commands_of : AreCommandsOf l.fn.format.variables l.fn.format.outputs l.fn.script.commands l.line-index
      l.commands.items;
  leads : (begin : List NumberedCommand → Point) → ComesTo (Adds g.F.Shelf.asked l.fn.shelf l.shelf)
      (g.F.Shelf.files l.fn.shelf)
      (with_lines l.fn.format.variables l.fn.script begin [] l.fn.script.commands)
      (with_lines l.fn.format.variables l.fn.script begin l.commands.items (drop l.line-index l.fn.script.commands));
}
