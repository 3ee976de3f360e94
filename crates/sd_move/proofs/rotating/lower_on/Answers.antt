use Rattle.std.proofs.Common.{◌≡◌, ◌<◌, None, length, refl, sym, ◌∙◌, subst}
use Rattle.std.specs.Option.{IsSome}
use Rattle.sd_vtree.specs.Numbered.{Numbered, numbers, children_at}
use Rattle.sd_vtree.specs.NumberedMoves.{moved_number}
use Rattle.sd_vtree.proofs.Movable.{leaf_not_movable}
use Rattle.sd_move.specs.Sorting.{rotation_of}
use Rattle.sd_move.proofs.RotationWhole.{lower_is_on, not_rotated, rotated_there, child_within, child_there}
use Rattle.sd_move.proofs.rotating.lower_on.Goals as goal

pub returns-in_default-clause-found : goal.returns-in_default-clause-found
returns-in_default-clause-found c =
    let is = c.vtree.ensures.vtree in
    subst (λ (v : Numbered). moved_number (rotation_of c.args.side) v c.args.place ≡ None) is
    (leaf_not_movable (rotation_of c.args.side) c.vtree.result.now c.args.place c.children.ensures.numbered
    (subst (λ (v : Numbered). c.args.place < length (numbers v)) (sym is) c.requires.place)
    c.in_default.ensures.children)

pub child_on-lower-requires-clause-inner : goal.child_on-lower-requires-clause-inner
child_on-lower-requires-clause-inner c =
    child_there c.args.side c.args.m.now.vtree c.args.place
    (subst (λ (v : Numbered). IsSome (children_at v c.args.place)) c.vtree.ensures.vtree
    (subst IsSome c.in-Some.ensures.children refl))

pub children-requires-2 : goal.children-requires-2
children-requires-2 c =
    subst (λ (v : Numbered). c.child_on-lower.result < length (numbers v)) (sym c.vtree-2.ensures.vtree)
    (child_within c.args.side c.args.m.now.vtree c.args.place c.child_on-lower.result c.vtree-2.ensures.table.numbered
    c.child_on-lower.ensures.child)

pub returns-in-Some-children-clause-found : goal.returns-in-Some-children-clause-found
returns-in-Some-children-clause-found c =
    let t = c.args.m.now in
    let is = c.child_on-lower.ensures.child in (
      rotated_there c.args.side t c.args.place c.child_on-lower.result c.vtree-2.ensures.table.numbered is
          (subst (λ (v : Numbered). IsSome (children_at v c.child_on-lower.result)) c.vtree-2.ensures.vtree
          (subst IsSome c.in-Some-children.ensures.children refl)),
      lower_is_on c.args.side t.vtree c.args.place ∙ is,
    )

pub returns-in-None-clause-found : goal.returns-in-None-clause-found
returns-in-None-clause-found c =
    not_rotated c.args.side c.args.m.now.vtree c.args.place c.child_on-lower.result c.vtree-2.ensures.table.numbered
    c.child_on-lower.ensures.child
    (subst (λ (v : Numbered). None ≡ children_at v c.child_on-lower.result) c.vtree-2.ensures.vtree
    c.in-None.ensures.children)
