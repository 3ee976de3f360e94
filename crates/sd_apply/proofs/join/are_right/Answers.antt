use Rattle.std.proofs.Common.{◌≡◌, ◌<◌, length, sym, subst, Some, slice_get, arith}
use Rattle.std.proofs.lemmas.Bool.Decides.{nat_tests}
use Rattle.sd_vtree.specs.Numbered.{numbers}
use Rattle.sd_apply.proofs.Trees.{there_inner}
use Rattle.sd_apply.proofs.JoiningPlaces.{there_within, literals_behind, literals_none}
use Rattle.sd_apply.proofs.join.are_right.Goals as goal

pub returns-then-next-literals : goal.returns-then-next-literals
returns-then-next-literals c = λ yes.
    literals_none c.args.m.now c.args.at c.args.split.now.right c.args.from c.args.next c.args.literals.now
    c.requires.literals
    c.if-next-literals.true

pub position-requires : goal.position-requires
position-requires c =
    let t = c.args.m.now.vtree in
    subst (λ t. c.args.at < length (numbers t)) (sym c.vtree.ensures.vtree)
    (there_within t c.requires.table.numbered c.args.at
    (there_inner t c.requires.table.numbered c.args.at c.args.split.now.left c.args.split.now.right
    c.requires.children))

pub returns : goal.returns
returns c = λ yes.
    let before : c.position.result < c.literal_at-position.result.0 = grind (arith, nat_tests, yes) in
    literals_behind c.args.m.now c.requires.table c.args.at c.args.split.now.left c.args.split.now.right
    c.position.result c.args.from
    c.args.next c.args.literals.now c.literal_at-position.result c.requires.children c.requires.literals
    c.requires.order c.literal_at-position.ensures
    (subst (λ t. slice_get (numbers t) c.position.result ≡ Some c.args.at) c.vtree.ensures.vtree
    c.position.ensures.position)
    before
