use Rattle.std.proofs.Common.{sym, subst, ◌∙◌, arith}
use Rattle.std.specs.Option.{IsSome}
use Rattle.sd_manager.proofs.Held.{held_there, held_inside, held_value}
use Rattle.sd_manager.proofs.roots.Roots.code.Goals as goal

pub index-requires : goal.index-requires
index-requires c =
    let there = held_there c.self.inside.slots.items c.args.self.now c.root.inside.0 c.args.root.now
    c.self.view_is c.root.view_is in
    omega (arith, held_inside c.self.inside.slots.items c.root.inside.0 (subst IsSome there c.requires))

pub unwrap-requires : goal.unwrap-requires
unwrap-requires c =
    let there = held_there c.self.inside.slots.items c.args.self.now c.root.inside.0 c.args.root.now
    c.self.view_is c.root.view_is in
    let inside = held_inside c.self.inside.slots.items c.root.inside.0 (subst IsSome there c.requires) in
    subst IsSome (there ∙ sym (held_value c.self.inside.slots.items c.root.inside.0 c.index.result.now inside)
    ∙ sym c.index.ensures) c.requires

pub returns : goal.returns
returns c =
    let there = held_there c.self.inside.slots.items c.args.self.now c.root.inside.0 c.args.root.now
    c.self.view_is c.root.view_is in
    let inside = held_inside c.self.inside.slots.items c.root.inside.0 (subst IsSome there c.requires) in
    there ∙ sym (held_value c.self.inside.slots.items c.root.inside.0 c.index.result.now inside)
    ∙ sym c.index.ensures ∙ c.unwrap.ensures
