use Rattle.std.proofs.Common.{◌<◌, length, sym, subst}
use Rattle.sd_vtree.specs.Numbered.{numbers}
use Rattle.sd_apply.proofs.Trees.{left_there}
use Rattle.sd_apply.proofs.JoiningPlaces.{there_within}
use Rattle.sd_apply.proofs.halves.split_of.Goals as goal

pub variable-requires : goal.variable-requires
variable-requires c =
    let f = c.args.fork.now in
    let v = c.args.m.now.vtree in
    subst (λ t. f.left < length (numbers t)) (sym c.vtree.ensures.vtree)
    (there_within v c.requires.table.numbered f.left
    (left_there v c.requires.table.numbered f.node f.left f.right c.requires.children))
