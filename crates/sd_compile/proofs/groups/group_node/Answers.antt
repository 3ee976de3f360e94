use Rattle.std.proofs.Common.{sym, subst}
use Rattle.std.proofs.lemmas.Result.{IfOk-weaker}
use Rattle.sd_model.specs.Tree.{leaves}
use Rattle.sd_model.specs.Assignment.{literal_holds}
use Rattle.sd_vtree.specs.Numbered.{plain_tree}
use Rattle.sd_apply.specs.Answers.{HasAnswer}
use Rattle.sd_compile.specs.Joined.{joined, ArePlaced}
use Rattle.sd_compile.proofs.Grouping.{are_placed, placed_joined, placed_value}
use Rattle.sd_compile.proofs.groups.group_node.Goals as goal

pub join_in_order-requires-clause-placed : goal.join_in_order-requires-clause-placed
join_in_order-requires-clause-placed c =
    let v = leaves (plain_tree c.args.m.now.vtree) in
    subst (ArePlaced v) (sym c.deref.ensures.value)
    (are_placed v c.args.literals.now c.in_ok-placed.placed.items c.requires.literals c.in_ok-placed.ensures)

pub returns-clause-ok : goal.returns-clause-ok
returns-clause-ok c =
    let m = c.join_in_order.new.m in
    let o = c.args.operation in
    IfOk-weaker c.join_in_order.result (λ r. HasAnswer m (placed_value o c.deref.result.now) r)
    (λ r. HasAnswer m (λ a. joined o (literal_holds a) c.args.literals.now) r)
    (λ r h. placed_joined m o c.args.literals.now c.in_ok-placed.placed.items r
    c.in_ok-placed.ensures
    (subst (λ l. HasAnswer m (placed_value o l) r) c.deref.ensures.value h)) c.join_in_order.ensures.ok
