use Rattle.std.proofs.Common.{◌≡◌}
use Rattle.std.specs.List.{range_with_len}
use Rattle.sd_tool.proofs.plan.names_of.Given as goal

-- the names so far are the first numbers
abbrev pub invariant-loop-name : goal.invariant-loop-name
invariant-loop-name l = l.names.items ≡ range_with_len 0 l.name
