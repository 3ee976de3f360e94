use Rattle.std.proofs.Common.{◌≡◌, Some, slice_get, sym, subst, ◌-◌, length, arith, rules}
use Rattle.sd_vtree.specs.Numbered.{numbers}
use Rattle.sd_vtree.specs.Numbered.{IsUnder as StandsUnder}
use Rattle.sd_apply.proofs.Trees.{under_number}
use Rattle.sd_apply.proofs.Standing.{place_under}
use Rattle.sd_apply.proofs.JoiningPlaces.{constant_under}
use Rattle.sd_apply.proofs.JoiningWhole.{index_stands, ends_literals, leaves_ordered}
use Rattle.sd_apply.proofs.join.lowest_over.Goals as goal

pub returns-then-is_constant-clause-node : goal.returns-then-is_constant-clause-node
returns-then-is_constant-clause-node c =
    constant_under c.args.m.now c.lca.result c.args.node (search rules)

pub returns-then-is_constant-clause-literals : goal.returns-then-is_constant-clause-literals
returns-then-is_constant-clause-literals c =
    let e = c.vtree-vtree.ensures.vtree in
    ends_literals c.args.m.now c.vtree-vtree.ensures.table c.lca.result c.leaf_of-first.result c.leaf_of-last.result
    c.args.literals.now c.requires.literals c.requires.some c.leaf_of-first.ensures.place c.leaf_of-last.ensures.place
    (subst (λ t. StandsUnder t c.leaf_of-first.result c.lca.result) e c.lca.ensures.over_first)
    (subst (λ t. StandsUnder t c.leaf_of-last.result c.lca.result) e c.lca.ensures.over_second)

pub returns-then-is_constant-clause-lowest : goal.returns-then-is_constant-clause-lowest
returns-then-is_constant-clause-lowest c = λ n there below literals.
    let m = c.args.m.now in
    let i = c.vtree-vtree.ensures.table in
    let e = c.vtree-vtree.ensures.vtree in
    let l = c.args.literals.now in
    subst (λ t. StandsUnder t c.lca.result n) e
    (c.lca.ensures.lowest n
    (subst (λ t. StandsUnder t c.leaf_of-first.result n) (sym e)
    (index_stands m i n c.leaf_of-first.result 0 l c.leaf_of-first.ensures.place (omega (
      arith,
      c.requires.some,
    )) there literals))
    (subst (λ t. StandsUnder t c.leaf_of-last.result n) (sym e)
    (index_stands m i n c.leaf_of-last.result (length l - 1) l c.leaf_of-last.ensures.place
    (omega (arith, c.requires.some)) there literals)))

pub lca_of_three-requires-clause-order : goal.lca_of_three-requires-clause-order
lca_of_three-requires-clause-order c = λ p q here there.
    let e = c.vtree-vtree.ensures.vtree in
    leaves_ordered c.args.m.now c.vtree-vtree.ensures.table c.leaf_of-first.result c.leaf_of-last.result
    c.args.literals.now c.requires.literals c.requires.some c.leaf_of-first.ensures.place c.leaf_of-last.ensures.place
    p q (subst (λ t. slice_get (numbers t) p ≡ Some c.leaf_of-first.result) e here)
    (subst (λ t. slice_get (numbers t) q ≡ Some c.leaf_of-last.result) e there)

pub returns-clause-node : goal.returns-clause-node
returns-clause-node c =
    let m = c.args.m.now in
    let x = c.requires.node in
    record {
      diagram = x.diagram;
      is = record {
        shows = x.is.shows;
        under = under_number m.vtree c.vtree-vtree.ensures.table.numbered c.lca_of_three.result c.place_of-own.result
            x.diagram
            (subst (λ t. StandsUnder t c.place_of-own.result c.lca_of_three.result) c.vtree-vtree.ensures.vtree
            c.lca_of_three.ensures.own)
            x.is.canonical (c.place_of-own.ensures.place x.diagram x.is);
      };
    }

pub returns-clause-literals : goal.returns-clause-literals
returns-clause-literals c =
    let e = c.vtree-vtree.ensures.vtree in
    ends_literals c.args.m.now c.vtree-vtree.ensures.table c.lca_of_three.result c.leaf_of-first.result
    c.leaf_of-last.result c.args.literals.now c.requires.literals c.requires.some c.leaf_of-first.ensures.place
    c.leaf_of-last.ensures.place
    (subst (λ t. StandsUnder t c.leaf_of-first.result c.lca_of_three.result) e c.lca_of_three.ensures.first)
    (subst (λ t. StandsUnder t c.leaf_of-last.result c.lca_of_three.result) e c.lca_of_three.ensures.last)

pub returns-clause-lowest : goal.returns-clause-lowest
returns-clause-lowest c = λ n there below literals.
    let m = c.args.m.now in
    let i = c.vtree-vtree.ensures.table in
    let e = c.vtree-vtree.ensures.vtree in
    let l = c.args.literals.now in
    subst (λ t. StandsUnder t c.lca_of_three.result n) e
    (c.lca_of_three.ensures.lowest n
    (subst (λ t. StandsUnder t c.leaf_of-first.result n) (sym e)
    (index_stands m i n c.leaf_of-first.result 0 l c.leaf_of-first.ensures.place
    (omega (arith, c.requires.some)) there literals))
    (subst (λ t. StandsUnder t c.leaf_of-last.result n) (sym e)
    (index_stands m i n c.leaf_of-last.result (length l - 1) l c.leaf_of-last.ensures.place
    (omega (arith, c.requires.some)) there literals))
    (subst (λ t. StandsUnder t c.place_of-own.result n) (sym e)
    (place_under m i n c.args.node c.place_of-own.result there below c.place_of-own.ensures.place)))
