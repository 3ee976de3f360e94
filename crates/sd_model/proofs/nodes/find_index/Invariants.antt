use Rattle.std.proofs.Common.{◌≡◌, ◌+◌, drop}
use Rattle.sd_model.specs.Text.{index_of}
use Rattle.sd_model.specs.Seen.{diagram_of, diagrams_of}
use Rattle.sd_model.proofs.nodes.find_index.Given as goal

-- the diagram is not one of the nodes so far
abbrev pub invariant-loop-i : goal.invariant-loop-i
invariant-loop-i l =
    index_of (diagram_of l.d) (diagrams_of l.nodes) ≡ index_of (diagram_of l.d) (diagrams_of (drop l.i l.nodes)) + l.i
