use Rattle.std.proofs.Common.{◌≡◌, drop}
use Rattle.sd_model.specs.Size.{walk_elements}
use Rattle.sd_model.specs.Listing.{add}
use Rattle.sd_model.specs.Seen.{elements_of, diagrams_of}
use Rattle.sd_model.proofs.nodes.+add.Given as goal

-- the nodes under the elements so far were added
abbrev pub invariant-add_elements-loop-element : goal.invariant-add_elements-loop-element
invariant-add_elements-loop-element l =
    add (diagrams_of l.nodes.items) (walk_elements (elements_of (drop l.element-index l.elements)))
    ≡ add (diagrams_of l.fn.nodes.items) (walk_elements (elements_of l.elements))
