use Rattle.std.proofs.Common.{◌≡◌, Some, slice_get, subst, arith, rules}
use Rattle.sd_vtree.specs.Numbered.{numbers}
use Rattle.sd_apply.proofs.JoiningPlaces.{constant_from, place_from}
use Rattle.sd_apply.proofs.join.least_position.Goals as goal

pub returns-then-is_constant-clause-node : goal.returns-then-is_constant-clause-node
returns-then-is_constant-clause-node c =
    constant_from c.args.m.now c.args.node c.args.first (search rules)

pub returns-clause-node : goal.returns-clause-node
returns-clause-node c =
    place_from c.args.m.now c.requires.table c.args.node c.place_of-own.result c.position.result c.min.result
    c.place_of-own.ensures.place
    (subst (λ t. slice_get (numbers t) c.position.result ≡ Some c.place_of-own.result) c.vtree.ensures.vtree
    c.position.ensures.position)
    (grind (arith, c.min.ensures))
