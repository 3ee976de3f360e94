use Rattle.std.proofs.Common.{◌≡◌, ◌<◌, length, sym, subst, Some, slice_get, arith, rules}
use Rattle.std.proofs.lemmas.Bool.Decides.{nat_tests}
use Rattle.sd_vtree.specs.Numbered.{numbers}
use Rattle.sd_apply.proofs.Trees.{there_inner}
use Rattle.sd_apply.proofs.Standing.{shown}
use Rattle.sd_apply.proofs.Expanding.{right_under}
use Rattle.sd_apply.proofs.JoiningPlaces.{there_within, constant_under}
use Rattle.sd_apply.proofs.halves.is_right.Goals as goal

pub returns-then-is_constant : goal.returns-then-is_constant
returns-then-is_constant c = λ yes.
    constant_under c.args.m.now c.args.split.now.right c.args.node (search rules)

pub position-requires : goal.position-requires
position-requires c =
    let t = c.args.m.now.vtree in
    subst (λ t. c.args.at < length (numbers t)) (sym c.vtree-vtree.ensures.vtree)
    (there_within t c.requires.table.numbered c.args.at
    (there_inner t c.requires.table.numbered c.args.at c.args.split.now.left c.args.split.now.right
    c.requires.children))

pub returns : goal.returns
returns c = λ yes.
    let m = c.args.m.now in
    let i = c.requires.table in
    let before : c.position.result < c.position-2.result = grind (arith, nat_tests, yes) in
    let x = c.requires.node in
    let here = subst (λ t. slice_get (numbers t) c.position.result ≡ Some c.args.at) c.vtree-vtree.ensures.vtree
    c.position.ensures.position in
    let there = subst (λ t. slice_get (numbers t) c.position-2.result ≡ Some c.place_of-own.result)
    c.vtree-vtree.ensures.vtree c.position-2.ensures.position in
    record {
      diagram = x.diagram;
      is = record {
        shows = x.is.shows;
        under = right_under m i c.args.at c.args.split.now.left c.args.split.now.right c.place_of-own.result
            c.position.result
            c.position-2.result c.requires.children x.diagram x.is.under
            (c.place_of-own.ensures.place x.diagram (shown m c.args.at c.args.node x.diagram x.is)) here there before;
      };
    }
