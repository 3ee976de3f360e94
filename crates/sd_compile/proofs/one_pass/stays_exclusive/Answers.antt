use Rattle.std.proofs.Common.{length, map, ap, ◌∙◌, subst}
use Rattle.sd_model.specs.Tree.{leaves}
use Rattle.sd_vtree.specs.Numbered.{plain_tree}
use Rattle.sd_compile.specs.Joined.{ImpliesOdd, literal_of_place}
use Rattle.sd_compile.proofs.OnePass.{literals_of_tree, odd_permuted, as_many_placed}
use Rattle.sd_compile.proofs.one_pass.stays_exclusive.Goals as goal

pub by_leaf-requires : goal.by_leaf-requires
by_leaf-requires c =
    literals_of_tree (leaves (plain_tree c.args.m.now.vtree)) c.args.literals.now c.requires.literals

pub implies_one-requires-clause-two : goal.implies_one-requires-clause-two
implies_one-requires-clause-two c =
    ap length c.deref.ensures.value
    ∙ as_many_placed 2 c.args.literals.now c.in_ok-placed.placed.items c.in_ok-placed.ensures.same
    c.if-literals-ne2.false

pub returns : goal.returns
returns c = λ found.
    odd_permuted c.args.m.now c.args.node c.args.literals.now c.in_ok-placed.placed.items
    c.in_ok-placed.ensures.same
    (subst (λ l. ImpliesOdd c.args.m.now c.args.node (map literal_of_place l)) c.deref.ensures.value
    (c.implies_one.ensures found))
