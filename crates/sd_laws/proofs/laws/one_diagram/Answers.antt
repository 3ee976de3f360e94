use Rattle.sd_model.specs.Tree.{leaves}
use Rattle.sd_model.proofs.OverVtree.{vtree_apart}
use Rattle.sd_laws.proofs.Places.{same_diagram}
use Rattle.sd_laws.proofs.laws.one_diagram.Goals as goal

pub returns : goal.returns
returns c whole part base d e v p h k same = same_diagram (leaves whole) (vtree_apart whole v) p d e h k same
