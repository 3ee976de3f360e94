use Rattle.sd_model.specs.Tree.{leaves}
use Rattle.sd_model.proofs.OverVtree.{vtree_apart}
use Rattle.sd_laws.proofs.Places.{part_apart}
use Rattle.sd_laws.proofs.Joining.{join_canonical, join_value}
use Rattle.sd_laws.proofs.laws.trimmed.Goals as goal

pub returns-clause-canonical : goal.returns-clause-canonical
returns-clause-canonical c whole l r base ds v p h k =
    join_canonical (leaves whole) l r base ds (part_apart (leaves whole) p (vtree_apart whole v)).1 h k

pub returns-clause-value : goal.returns-clause-value
returns-clause-value c p ds h = join_value p ds h
