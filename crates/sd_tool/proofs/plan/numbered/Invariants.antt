use Rattle.std.proofs.Common.{◌≡◌, ◌++◌}
use Rattle.sd_tool.specs.inside.Readings.{in_lines}
use Rattle.sd_tool.proofs.plan.numbered.Given as goal

-- the commands so far stand in lines, and the others are left
abbrev pub invariant-loop-command : goal.invariant-loop-command
invariant-loop-command l = record {
  lines : l.lines.items ≡ in_lines 1 l.yielded;
  left : l.yielded ++ l.command-iterator.rest.items ≡ l.fn.commands.items;
}
