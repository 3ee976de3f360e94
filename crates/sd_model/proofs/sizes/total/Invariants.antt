use Rattle.std.proofs.Common.{◌≡◌, ◌<◌, ◌^◌, drop}
use Rattle.std.specs.List.{sum_by}
use Rattle.sd_model.specs.Size.{element_count}
use Rattle.sd_model.specs.Seen.{diagrams_of}
use Rattle.sd_model.proofs.SizeSteps.{summed}
use Rattle.sd_model.proofs.sizes.total.Given as goal

-- the nodes that are left, added to the sum so far, give the whole sum
abbrev pub invariant-loop-node : goal.invariant-loop-node
invariant-loop-node l = record {
  whole : summed l.sum (diagrams_of (drop l.node-index l.nodes)) ≡ sum_by element_count (diagrams_of l.nodes);
  fits : l.sum < 2 ^ 64;
}
