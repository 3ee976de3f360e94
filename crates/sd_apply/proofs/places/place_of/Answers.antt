use Rattle.std.proofs.Common.{◌≡◌, subst, sym, ◌≤◌, ◌<◌, Some, ℕ, rules}
use Rattle.sd_model.specs.Tree.{leaves}
use Rattle.sd_vtree.specs.Numbered.{plain_tree, variable_at, Numbered}
use Rattle.sd_apply.proofs.Standing.{leaf_within, leaf_place, has_node, shown_there}
use Rattle.sd_apply.proofs.places.place_of.Goals as goal

-- a literal's variable is one of the vtree's
pub leaf-requires-clause-within : goal.leaf-requires-clause-within
leaf-requires-clause-within c =
    let W : Numbered → Type 0 = λ t. c.variable.result ≤ leaves (plain_tree t) in
    let N : ℕ → Type 0 = λ n. n ≤ leaves (plain_tree c.args.m.now.vtree) in
    let low : c.args.node < 2050 = search rules in
    subst W (sym c.vtree-vtree.ensures.vtree)
    (subst N (sym c.variable.ensures)
    (leaf_within c.args.m.now c.vtree-vtree.ensures.table c.args.node c.requires.node.diagram
    c.requires.node.is
    c.requires.least low))

pub returns-then-not-is_decomposition-clause-place : goal.returns-then-not-is_decomposition-clause-place
returns-then-not-is_decomposition-clause-place c =
    let V : Numbered → Type 0 = λ t. variable_at t c.leaf.result ≡ Some c.variable.result in
    let N : ℕ → Type 0 = λ n. variable_at c.args.m.now.vtree c.leaf.result ≡ Some n in
    let low : c.args.node < 2050 = search rules in
    λ d h. leaf_place c.args.m.now c.vtree-vtree.ensures.table c.args.node d h c.requires.least
    low c.leaf.result
    (subst N c.variable.ensures (subst V c.vtree-vtree.ensures.vtree c.leaf.ensures.leaf))

pub view-requires : goal.view-requires
view-requires c =
    has_node c.args.m.now c.vtree-vtree.ensures.table c.args.node c.requires.node.diagram
    c.requires.node.is.shows

-- a decomposition's place is one of the vtree's
pub returns-clause-there : goal.returns-clause-there
returns-clause-there c =
    let k = c.in-Decomposition.ensures.shown c.requires.node.diagram c.requires.node.is.shows in
    shown_there c.args.m.now c.view.ensures.table c.in-Decomposition.place k.0
    c.requires.node.diagram
    k.4
