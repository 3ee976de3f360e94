use Rattle.sd_model.specs.Tree.{leaves}
use Rattle.sd_model.proofs.OverVtree.{vtree_apart}
use Rattle.sd_laws.proofs.Places.{canonical_lifts, narrowed}
use Rattle.sd_laws.proofs.laws.canonical_for_parts.Goals as goal

pub returns-clause-above : goal.returns-clause-above
returns-clause-above c whole part base from d p h = canonical_lifts p d h

pub returns-clause-below : goal.returns-clause-below
returns-clause-below c whole part base d v p h k = narrowed (leaves whole) p (vtree_apart whole v) h k
