use Rattle.std.proofs.Common.{◌<◌, length, sym, subst}
use Rattle.sd_vtree.specs.Numbered.{numbers}
use Rattle.sd_apply.proofs.JoiningPlaces.{there_within}
use Rattle.sd_apply.proofs.halves.split_at.Goals as goal

pub children-requires : goal.children-requires
children-requires c =
    subst (λ t. c.args.at < length (numbers t)) (sym c.vtree-vtree.ensures.vtree)
    (there_within c.args.m.now.vtree c.vtree-vtree.ensures.table.numbered c.args.at c.requires)
