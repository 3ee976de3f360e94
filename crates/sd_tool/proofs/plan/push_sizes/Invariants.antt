use Rattle.std.proofs.Common.{◌≡◌, ◌++◌, map, take}
use Rattle.sd_commands.specs.declared.command.RunCommand.TheVariants as commands
use Rattle.sd_tool.proofs.plan.push_sizes.Given as goal

-- the first names have their commands
abbrev pub invariant-loop-name : goal.invariant-loop-name
invariant-loop-name l = l.commands.items ≡ l.fn.commands.items ++ map (commands.Size) (take l.name-index l.fn.names)
