use Rattle.std.proofs.Common.{◌∙◌, sym, ap, rules, w32}
use Rattle.std.proofs.lemmas.Int.{to_z-of_z}
use Rattle.std.proofs.lemmas.Result.{IfOk-weaker}
use mir.Val.{SFits}
use Rattle.sd_model.specs.Assignment.{literal_holds}
use Rattle.sd_file.proofs.Building.{constant_built, literal_built, decomposition_built}
use Rattle.sd_file.proofs.builder.node_of.Goals as goal

pub returns-in-Constant-clause-ok : goal.returns-in-Constant-clause-ok
returns-in-Constant-clause-ok c =
    constant_built c.args.m.now c.args.file.now c.args.index c.in-Constant.value c.constant.result c.requires.file
    c.requires.index (sym c.in-Constant.is ∙ c.node.ensures.value) c.constant.ensures.shown

pub returns-in-Literal-clause-ok : goal.returns-in-Literal-clause-ok
returns-in-Literal-clause-ok c =
    let range : SFits w32 c.in-Literal.literal = search rules in
    let shown = c.literal.ensures.shown in
    literal_built c.args.m.now c.args.file.now c.args.index c.in-Literal.vtree c.in-Literal.literal c.literal.result
    c.requires.file c.requires.index (sym c.in-Literal.is ∙ c.node.ensures.value) (
      shown.0,
      shown.1,
      λ assignment. shown.2 assignment ∙ ap (literal_holds assignment) (to_z-of_z w32 c.in-Literal.literal range),
    )

pub returns-in-Decomposition-clause-ok : goal.returns-in-Decomposition-clause-ok
returns-in-Decomposition-clause-ok c =
    IfOk-weaker c.join.result _ _
    (decomposition_built c.join.new.m c.args.file.now c.args.index c.in-Decomposition.vtree c.in-Decomposition.count
    c.requires.file c.requires.index (sym c.in-Decomposition.is ∙ c.node.ensures.value)) c.join.ensures.ok
