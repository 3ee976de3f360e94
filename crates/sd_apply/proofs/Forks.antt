-- A vtree node with its children: in a table that has grown it has them still, and both are there.
use Rattle.sd_manager.specs.Table.{Table}
use Rattle.sd_manager.specs.Valid.{IsTable}
use Rattle.sd_manager.specs.Making.{Extends}
use Rattle.sd_apply.specs.declared.places.Fork.{Fork}
use Rattle.sd_apply.specs.Places.{IsThere, IsFork}
use Rattle.sd_apply.proofs.Trees.{left_there, right_there}
use Rattle.sd_apply.proofs.Listed.{there_on, children_on}

-- in a larger table it has the same children
pub fork_on : (old new : Table) → Extends old new → (f : Fork) → IsFork old.vtree f → IsFork new.vtree f
fork_on old new x f e = children_on old new x f.node f.left f.right e

-- the left child is there
pub left_on : (old new : Table) → Extends old new → IsTable old → (f : Fork) → IsFork old.vtree f →
    IsThere new.vtree f.left
left_on old new x i f e =
    there_on old new x f.left (left_there old.vtree i.numbered f.node f.left f.right e)

-- so is the right one
pub right_on : (old new : Table) → Extends old new → IsTable old → (f : Fork) → IsFork old.vtree f →
    IsThere new.vtree f.right
right_on old new x i f e =
    there_on old new x f.right (right_there old.vtree i.numbered f.node f.left f.right e)
