use Rattle.std.proofs.Common.{sym, ap, subst, ◌∙◌, arith}
use Rattle.std.proofs.Math.ListN.{set}
use Rattle.std.specs.Option.{IsSome}
use Rattle.std.specs.FinMap.{remove}
use Rattle.sd_manager.specs.Stored.{held_map}
use Rattle.sd_manager.proofs.Held.{held_there, held_inside, held_value, held_empty}
use Rattle.sd_manager.proofs.roots.Roots.release.Goals as goal

pub index_mut-requires : goal.index_mut-requires
index_mut-requires c =
    let there = held_there c.self.inside.slots.items c.args.self.now c.root.inside.0 c.args.root.now
    c.self.view_is c.root.view_is in
    omega (arith, held_inside c.self.inside.slots.items c.root.inside.0 (subst IsSome there c.requires))

pub unwrap-requires : goal.unwrap-requires
unwrap-requires c =
    let there = held_there c.self.inside.slots.items c.args.self.now c.root.inside.0 c.args.root.now
    c.self.view_is c.root.view_is in
    let inside = held_inside c.self.inside.slots.items c.root.inside.0 (subst IsSome there c.requires) in
    subst IsSome (there ∙ sym (held_value c.self.inside.slots.items c.root.inside.0 c.index_mut.result.now inside)
    ∙ sym c.index_mut.ensures.value ∙ sym c.take.ensures.value) c.requires

pub returns-clause-held : goal.returns-clause-held
returns-clause-held c =
    let there = held_there c.self.inside.slots.items c.args.self.now c.root.inside.0 c.args.root.now
    c.self.view_is c.root.view_is in
    let inside = held_inside c.self.inside.slots.items c.root.inside.0 (subst IsSome there c.requires) in
    there ∙ sym (held_value c.self.inside.slots.items c.root.inside.0 c.index_mut.result.now inside)
    ∙ sym c.index_mut.ensures.value ∙ sym c.take.ensures.value ∙ c.unwrap.ensures

pub returns-clause-removed : goal.returns-clause-removed
returns-clause-removed c =
    let there = held_there c.self.inside.slots.items c.args.self.now c.root.inside.0 c.args.root.now
    c.self.view_is c.root.view_is in
    let inside = held_inside c.self.inside.slots.items c.root.inside.0 (subst IsSome there c.requires) in
    ap (λ o. held_map (set c.self.inside.slots.items c.root.inside.0 o)) c.take.ensures.after
    ∙ held_empty c.self.inside.slots.items c.root.inside.0 inside
    ∙ ap (λ m. remove m c.root.inside.0) c.self.view_is
    ∙ ap (λ k. remove c.args.self.now k) c.root.view_is
