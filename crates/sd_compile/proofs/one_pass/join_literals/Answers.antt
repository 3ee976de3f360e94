use Rattle.std.proofs.Common.{refl, sym, subst}
use Rattle.std.proofs.lemmas.Result.{IfOk-weaker}
use Rattle.sd_model.specs.Tree.{leaves}
use Rattle.sd_vtree.specs.Numbered.{plain_tree}
use Rattle.sd_apply.specs.Group.{AreOrdered, JoinsGroup}
use Rattle.sd_compile.specs.Joined.{outer, JoinsLiterals}
use Rattle.sd_compile.proofs.OnePass.{literals_of_tree, outer_other, literals_joined}
use Rattle.sd_compile.proofs.one_pass.join_literals.Goals as goal

pub by_leaf-requires : goal.by_leaf-requires
by_leaf-requires c =
    literals_of_tree (leaves (plain_tree c.args.m.now.vtree)) c.args.literals.now c.requires.literals

pub join_group-requires-clause-operation : goal.join_group-requires-clause-operation
join_group-requires-clause-operation c =
    outer_other c.between_groups.result c.args.kind c.between_groups.ensures

pub join_group-requires-clause-literals : goal.join_group-requires-clause-literals
join_group-requires-clause-literals c =
    subst (AreOrdered c.args.m.now.vtree) (sym c.deref-2.ensures.value) c.in_ok-placed.ensures.ordered

pub returns-clause-ok : goal.returns-clause-ok
returns-clause-ok c =
    let old = c.args.m.now in
    let new = c.join_group.new.m in
    let o = c.between_groups.result in
    IfOk-weaker c.join_group.result (λ r. JoinsGroup old new o c.args.node c.deref-2.result.now r)
    (λ r. JoinsLiterals old new c.args.kind c.args.node c.args.literals.now r)
    (λ r joins. literals_joined old new c.args.kind o c.args.node c.args.literals.now c.in_ok-placed.placed.items r
    c.between_groups.ensures c.in_ok-placed.ensures.same
    (subst (λ l. JoinsGroup old new o c.args.node l r) c.deref-2.ensures.value joins)) c.join_group.ensures.ok

pub returns-then-stays-clause-ok : goal.returns-then-stays-clause-ok
returns-then-stays-clause-ok c =
    let old = c.args.m.now in
    literals_joined old old c.args.kind (outer c.args.kind) c.args.node c.args.literals.now c.in_ok-placed.placed.items
    c.args.node refl c.in_ok-placed.ensures.same
    (subst (λ l. JoinsGroup old old (outer c.args.kind) c.args.node l c.args.node) c.deref.ensures.value
    (c.stays.ensures c.if-stays.true))
