use Rattle.std.proofs.Common.{◌≡◌, drop, map}
use Rattle.std.specs.List.{flat_map}
use Rattle.sd_model.specs.Size.{walk, completed}
use Rattle.sd_model.specs.Listing.{add}
use Rattle.sd_model.specs.Seen.{diagram_of, diagrams_of}
use Rattle.sd_model.proofs.nodes.nodes_of.Given as goal

-- the nodes under the roots so far were added
abbrev pub invariant-loop-root : goal.invariant-loop-root
invariant-loop-root l =
    add (diagrams_of l.nodes.items) (flat_map walk (map diagram_of (drop l.root-index l.roots)))
    ≡ completed (map diagram_of l.roots)
