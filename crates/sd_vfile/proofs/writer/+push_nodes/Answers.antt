use Rattle.std.proofs.Common.{arith}
use Rattle.sd_model.specs.Seen.{tree_of}
use Rattle.sd_vtree.proofs.Building.{leaves_positive}
use Rattle.sd_vfile.proofs.writer.+push_nodes.Goals as goal

-- the left child has a leaf
pub overflow_sub-root : goal.overflow_sub-root
overflow_sub-root t c =
    omega (arith, c.in_ok-left-in-Node.ensures.next, leaves_positive (tree_of c.deref.result.now))
