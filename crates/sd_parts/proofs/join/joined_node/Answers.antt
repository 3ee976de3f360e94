-- The node of the prefix and that of the part, joined.
use Rattle.std.proofs.Common.{◌∙◌, ap, subst}
use Rattle.std.proofs.lemmas.Result.{IfOk-weaker}
use Rattle.sd_model.specs.Expression.{expression_value}
use Rattle.sd_formula.specs.Formulas.{expression_of, groups_part}
use Rattle.sd_apply.specs.Answers.{HasAnswer, Combines}
use Rattle.sd_compile.specs.Joined.{outer}
use Rattle.sd_compile.specs.Compiling.{prefix_of}
use Rattle.sd_compile.proofs.Joining.{answer_node, prefix_node}
use Rattle.sd_parts.proofs.PartsJoined.{parts_node}
use Rattle.sd_parts.proofs.join.joined_node.Goals as goal

pub connect-requires-clause-first : goal.connect-requires-clause-first
connect-requires-clause-first c =
    answer_node _ _ _
    (prefix_node (prefix_of c.args.f.now c.args.turn.first) c.args.m.now c.import.new.m c.args.root.now
    c.node_of-prefix.result c.import.ensures.kept c.requires.holds c.node_of-prefix.ensures.held)

pub returns-clause-ok : goal.returns-clause-ok
returns-clause-ok c =
    let f = c.args.f.now in
    let mid = c.import.new.m in
    let new = c.connect.new.m in
    let a = c.node_of-prefix.result in
    let b = c.in_ok-part.part in
    let first = c.args.turn.first in
    let last = c.args.turn.last in
    IfOk-weaker c.connect.result (λ r. Combines mid new c.between_groups.result a b r)
    (λ r. HasAnswer new (expression_value (prefix_of f last)) r)
    (λ r both.
    parts_node mid new f first last a b r c.requires.order
    (prefix_node (prefix_of f first) c.args.m.now mid c.args.root.now a c.import.ensures.kept c.requires.holds
    c.node_of-prefix.ensures.held)
    (c.in_ok-part.ensures.value (expression_value (expression_of (groups_part f first last))) c.requires.value)
    (subst (λ o. Combines mid new o a b r) (c.between_groups.ensures ∙ ap outer c.kind.ensures) both))
    c.connect.ensures.ok
