use Rattle.std.proofs.Common.{subst, sym}
use Rattle.sd_model.specs.Tree.{leaves}
use Rattle.sd_model.proofs.OverVtree.{vtree_apart}
use Rattle.sd_model.proofs.Unique.{unique}
use Rattle.sd_vtree.specs.Numbered.{plain_tree}
use Rattle.sd_laws.specs.Shown.{Shows}
use Rattle.sd_laws.proofs.Codes.{one_diagram, one_code}
use Rattle.sd_laws.proofs.laws.one_code.Goals as goal

pub returns-clause-diagram : goal.returns-clause-diagram
returns-clause-diagram c t at code d e v h k = one_diagram t at v d code e h k

pub returns-clause-code : goal.returns-clause-code
returns-clause-code c t at a b d keys h k = one_code t at keys d a b h k

pub returns-clause-function : goal.returns-clause-function
returns-clause-function c t at a b d e v keys h k same =
    one_code t at keys d a b h.shows
    (subst (Shows t at b)
    (sym (unique (leaves (plain_tree t)) (vtree_apart (plain_tree t) v.vtree) h.canonical k.canonical same)) k.shows)
