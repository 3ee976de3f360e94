use Rattle.std.proofs.Common.{◌+◌, ◌*◌}
use Rattle.sd_file.proofs.Walking.{HasWalked}
use Rattle.sd_file.proofs.writer.+add.Given as goal

-- each call from one of the two to the other is less
abbrev pub decreases-add_node : goal.decreases-add_node
decreases-add_node l = 2 * l.levels + 1

abbrev pub decreases-add_elements : goal.decreases-add_elements
decreases-add_elements l = 2 * l.levels + 2

-- the elements so far are walked
abbrev pub invariant-add_elements-loop-element : goal.invariant-add_elements-loop-element
invariant-add_elements-loop-element l = HasWalked l.m l.elements l.element-index l.fn.listing l.listing
