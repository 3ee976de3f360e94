use Rattle.std.proofs.Common.{take}
use Rattle.std.specs.List.{AllZip}
use Rattle.sd_commands.specs.Commands.{State}
use Rattle.sd_commands.specs.Standing.{Represents, ShowsNamed}
use Rattle.sd_commands.proofs.state.RunState.nodes.Given as goal

-- the nodes so far show the formulas of the names so far
abbrev pub invariant-loop-name : goal.invariant-loop-name
invariant-loop-name l = (seen : State) → Represents l.self seen
    → AllZip (ShowsNamed l.self.manager seen) (take l.name-index l.names) l.nodes.items
