use Rattle.std.proofs.Common.{ℕ, List}
use Rattle.sd_unique.proofs.Sought.{IsSought}
use Rattle.sd_unique.proofs.nodes.Nodes.lookup.Given as goal

abbrev pub invariant-loop-step : goal.invariant-loop-step
invariant-loop-step l =
    (rest : List ℕ)
    × IsSought l.self-inside.runs l.self-inside.records.items (l.place, l.list) l.number l._step rest
