use Rattle.std.proofs.Common.{◌≡◌, ◌∙◌, ◌/◌, ◌%◌, ◌==◌, sym, ap, subst, Some}
use Rattle.sd_vtree.specs.Numbered.{number_of, variable_at}
use Rattle.sd_cache.specs.Entries.{call}
use Rattle.sd_apply.proofs.Growing.{both_lowest}
use Rattle.sd_apply.proofs.Served.{serves_look, serves_keep}
use Rattle.sd_apply.proofs.Whole.{root_there, root_below}
use Rattle.sd_cond.specs.Calls.{conditioned}
use Rattle.sd_cond.proofs.Answering.{outside_own, place_each}
use Rattle.sd_cond.proofs.Serving.{LiteralAt, looked_given, given_right, literal_of}
use Rattle.sd_cond.proofs.Serving.{literal_on}
use Rattle.sd_cond.proofs.cached.given_cached.Goals as goal

-- the cache is asked
pub returns-in-Some-look-clause-ok : goal.returns-in-Some-look-clause-ok
returns-in-Some-look-clause-ok c =
    let m = c.args.m.now in
    let i = c.epoch-epoch.ensures.table in
    let l = c.args.literal in
    looked_given c.args.c.now m c.epoch-epoch.result c.args.a c.literal.inside.0 c.a.inside.0
    c.in-Some-look.code (l / 2) (l % 2 == 0) i c.requires.serves c.epoch-epoch.ensures.epoch
    c.a.view_is
    (subst (λ n. LiteralAt m n (l / 2) (l % 2 == 0)) (sym c.literal.view_is)
    (literal_of m i l c.requires.low c.requires.within))
    c.in-Some-look.ensures.early c.in-Some-look.ensures.value

pub returns-in-Some-look-clause-serves : goal.returns-in-Some-look-clause-serves
returns-in-Some-look-clause-serves c =
    serves_look c.args.c.now c.look.new.self c.args.m.now
    (call c.epoch-epoch.result 4 c.a.inside.0 c.literal.inside.0) c.look.ensures.entries c.requires.serves

pub returns-then-not-is_over-clause-serves : goal.returns-then-not-is_over-clause-serves
returns-then-not-is_over-clause-serves c =
    serves_look c.args.c.now c.look.new.self c.args.m.now
    (call c.epoch-epoch.result 4 c.a.inside.0 c.literal.inside.0) c.look.ensures.entries c.requires.serves

pub given_here-requires-clause-serves : goal.given_here-requires-clause-serves
given_here-requires-clause-serves c =
    serves_look c.args.c.now c.look.new.self c.args.m.now
    (call c.epoch-epoch.result 4 c.a.inside.0 c.literal.inside.0) c.look.ensures.entries c.requires.serves

-- nothing is kept yet
pub given_here-requires-clause-knows : goal.given_here-requires-clause-knows
given_here-requires-clause-knows c =
    c.new-kept.ensures c.args.m.now
    (conditioned c.variable-variable.result c.is_positive-positive.result)

-- the root is there, and the node is below it
pub place_with_children-fork-requires-clause-at : goal.place_with_children-fork-requires-clause-at
place_with_children-fork-requires-clause-at c =
    root_there c.args.m.now.vtree c.root-root.result (c.root-root.ensures.root
    ∙ ap number_of c.vtree.ensures.vtree)

pub place_with_children-fork-requires-clause-node :
    goal.place_with_children-fork-requires-clause-node
place_with_children-fork-requires-clause-node c =
    root_below c.args.m.now c.root-root.result c.args.a (c.root-root.ensures.root
    ∙ ap number_of c.vtree.ensures.vtree)
    c.requires.node

-- the leaf stands elsewhere
pub returns-then-not-is_over-clause-ok : goal.returns-then-not-is_over-clause-ok
returns-then-not-is_over-clause-ok c =
    let m = c.args.m.now in
    let i = c.epoch-epoch.ensures.table in
    let p = c.place_with_children-fork in
    outside_own m i p.result.node c.leaf-leaf.result (c.args.literal / 2) (c.args.literal % 2 == 0)
    c.args.a p.ensures.there
    (subst (λ t. variable_at t c.leaf-leaf.result ≡ Some (c.args.literal / 2)) c.vtree-2.ensures.vtree
    (c.leaf-leaf.ensures.leaf ∙ ap (λ n. Some n) c.variable-variable.ensures))
    (c.is_over.ensures.tells.apart c.if-not-is_over.true)
    (place_each m i p.result.node c.args.a p.ensures.there p.ensures.place)

-- where new nodes stand
pub returns-in_err-code-clause-grown : goal.returns-in_err-code-clause-grown
returns-in_err-code-clause-grown c =
    let p = c.place_with_children-fork in
    both_lowest c.args.m.now c.given_here.new.m c.given_here.ensures.step.kept
    c.epoch-epoch.ensures.table.numbered p.result.node c.args.a c.args.a
    (λ n there x y. p.ensures.lowest n there x) c.given_here.ensures.step.grown

pub returns-clause-grown : goal.returns-clause-grown
returns-clause-grown c =
    let p = c.place_with_children-fork in
    both_lowest c.args.m.now c.given_here.new.m c.given_here.ensures.step.kept
    c.epoch-epoch.ensures.table.numbered p.result.node c.args.a c.args.a
    (λ n there x y. p.ensures.lowest n there x) c.given_here.ensures.step.grown

-- the answer is right to keep
pub returns-clause-serves : goal.returns-clause-serves
returns-clause-serves c =
    let m = c.args.m.now in
    let n = c.given_here.new.m in
    let e = c.epoch-epoch.result in
    let l = c.args.literal in
    let k = c.given_here.ensures.step.kept in
    serves_keep c.given_here.new.c c.keep.new.self n (call e 4 c.a-2.inside.0 c.literal.inside.0)
    c.code.inside.0
    c.keep.result c.keep.ensures.keeps c.keep.ensures.err c.keep.ensures.late
    (c.epoch-epoch.ensures.epoch ∙ sym k.epoch)
    c.given_here.ensures.step.serves
    (given_right m n k e c.args.a l c.a-2.inside.0 c.literal.inside.0 c.in_ok-code.code
    c.code.inside.0 c.variable-variable.result c.is_positive-positive.result c.a-2.view_is
    c.literal.view_is c.code.view_is
    (rw (c.variable-variable.ensures, c.is_positive-positive.ensures)
    (literal_on m n k l (l / 2) (l % 2 == 0)
    (literal_of m c.epoch-epoch.ensures.table l c.requires.low c.requires.within)))
    c.requires.node c.in_ok-code.ensures.ok)
