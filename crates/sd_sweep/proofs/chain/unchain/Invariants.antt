use Rattle.std.proofs.Common.{◌-◌}
use Rattle.sd_manager.specs.Table.{Table}
use Rattle.sd_manager.specs.Valid.{IsTable}
use Rattle.sd_manager.specs.Marking.{AreUnmarked}
use Rattle.sd_sweep.specs.Chained.{HasChain}
use Rattle.sd_sweep.proofs.chain.unchain.Given as goal

-- the chain is that of the nodes that are left
abbrev pub invariant-loop-step : goal.invariant-loop-step
invariant-loop-step l =
    IsTable l.m
    × ((t : Table) → AreUnmarked t → HasChain t l.fn.m l.fn.first l.nodes →
    HasChain t l.m l.here (l.nodes - l._step))
