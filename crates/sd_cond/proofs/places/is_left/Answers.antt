use Rattle.std.proofs.Common.{◌≡◌, ◌<◌, subst, sym, length, Some, slice_get}
use Rattle.sd_vtree.specs.Numbered.{Numbered, numbers}
use Rattle.sd_vtree.proofs.Under.{under_within}
use Rattle.sd_cond.proofs.Sides.{tells_before, under_has}
use Rattle.sd_cond.proofs.places.is_left.Goals as goal

-- both are nodes of the vtree
pub position-requires : goal.position-requires
position-requires c =
    let t = c.args.m.now.vtree in
    subst (λ s. c.args.leaf < length (numbers s)) (sym c.vtree-vtree.ensures.vtree)
    (under_within t c.vtree-vtree.ensures.table.numbered c.args.leaf c.args.fork.now.node c.requires.over)

pub position-requires-2 : goal.position-requires-2
position-requires-2 c =
    let t = c.args.m.now.vtree in
    subst (λ s. c.args.fork.now.node < length (numbers s)) (sym c.vtree-vtree.ensures.vtree)
    (under_has t c.vtree-vtree.ensures.table.numbered c.args.leaf c.args.fork.now.node c.requires.over)

pub returns-clause-left : goal.returns-clause-left
returns-clause-left c =
    let v = c.vtree-vtree.ensures in
    let P : Numbered → Type 0 = λ s. slice_get (numbers s) c.position.result ≡ Some c.args.leaf in
    let Q : Numbered → Type 0 = λ s. slice_get (numbers s) c.position-2.result ≡ Some c.args.fork.now.node in
    (tells_before c.args.m.now.vtree v.table.numbered c.args.fork.now.node c.args.fork.now.left c.args.fork.now.right
    c.args.leaf c.requires.leaf.0 c.position.result c.position-2.result c.requires.children
    c.requires.leaf.1 (subst P v.vtree c.position.ensures.position)
    (subst Q v.vtree c.position-2.ensures.position) c.requires.over).0

pub returns-clause-right : goal.returns-clause-right
returns-clause-right c =
    let v = c.vtree-vtree.ensures in
    let P : Numbered → Type 0 = λ s. slice_get (numbers s) c.position.result ≡ Some c.args.leaf in
    let Q : Numbered → Type 0 = λ s. slice_get (numbers s) c.position-2.result ≡ Some c.args.fork.now.node in
    (tells_before c.args.m.now.vtree v.table.numbered c.args.fork.now.node c.args.fork.now.left c.args.fork.now.right
    c.args.leaf c.requires.leaf.0 c.position.result c.position-2.result c.requires.children
    c.requires.leaf.1 (subst P v.vtree c.position.ensures.position)
    (subst Q v.vtree c.position-2.ensures.position) c.requires.over).1
