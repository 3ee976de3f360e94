use Rattle.std.proofs.Common.{w32, rules}
use mir.Val.{SFits}
use Rattle.sd_file.proofs.Collecting.{literal_fits}
use Rattle.sd_file.proofs.Literals.{literal_range, literal_shown}
use Rattle.sd_file.proofs.order.literal_rank.Goals as goal

pub leaf-requires-clause-positive : goal.leaf-requires-clause-positive
leaf-requires-clause-positive c =
    let fits : SFits w32 c.args.literal = search rules in
    (literal_range c.args.m.now c.requires.table c.vtree-vtree.result.now c.vtree-vtree.ensures.vtree c.args.literal
    fits c.unsigned_abs-variable.result c.unsigned_abs-variable.ensures.value c.requires.shown.0
    c.requires.shown.1).0

pub leaf-requires-clause-within : goal.leaf-requires-clause-within
leaf-requires-clause-within c =
    let fits : SFits w32 c.args.literal = search rules in
    (literal_range c.args.m.now c.requires.table c.vtree-vtree.result.now c.vtree-vtree.ensures.vtree c.args.literal
    fits c.unsigned_abs-variable.result c.unsigned_abs-variable.ensures.value c.requires.shown.0
    c.requires.shown.1).1

pub returns : goal.returns
returns c = λ d h.
    let fits : SFits w32 c.args.literal = search rules in
    literal_fits _ c.unsigned_abs-variable.result _ d
    (literal_shown c.args.m.now c.requires.table c.vtree-vtree.result.now c.vtree-vtree.ensures.vtree
    c.args.literal fits c.leaf.result c.unsigned_abs-variable.result c.position.result
    c.unsigned_abs-variable.ensures.value c.leaf.ensures.leaf c.position.ensures.position d h)
