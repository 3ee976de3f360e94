use Rattle.std.proofs.Common.{◌≡◌, ◌<◌, ◌≤◌, ◌++◌, length, take, get_or, refl, sym, ap, ◌∙◌, arith}
use Rattle.std.specs.Prelude.{option_map}
use Rattle.std.proofs.lemmas.List.{take_all}
use Rattle.std.proofs.lemmas.Option.{same_Some}
use Rattle.sd_model.specs.Seen.{tree_of}
use Rattle.sd_model.specs.Tree.{variables}
use Rattle.sd_vtree.proofs.Building.{leaves_positive}
use Rattle.sd_vfile.specs.Placing.{place_in}
use Rattle.sd_vfile.specs.Reads.{tree_with_id}
use Rattle.sd_vfile.specs.Steps.{entries_of, entry_tree, no_entry, tree_with}
use Rattle.sd_vfile.proofs.Located.{holds_none, holds_more, leaf_is, children_held, inner_is}
use Rattle.sd_vfile.proofs.Places.{length_entries_of, line_id}
use Rattle.sd_vfile.proofs.placing.places_of.Goals as goal
use Rattle.sd_vfile.proofs.placing.places_of.Goals.{in-LeafLine, in-InnerLine}

-- no line has a place yet
pub loop-form-init : goal.loop-form-init
loop-form-init c = record {
  order = c.in_ok-push_variables.ensures
      ∙ ap (λ xs. xs ++ variables (tree_of c.args.tree.now)) c.new-order.ensures.items;
  held = holds_none (tree_of c.args.tree.now) c.new-places.result c.new-places.ensures.empty;
}

-- the children stand on earlier lines
pub inner_place-place-requires-clause-left : goal.inner_place-place-requires-clause-left
inner_place-place-requires-clause-left c =
    let held = children_held (tree_of c.args.tree.now) c.args.forms.now c.loop-form.form-index c.in-InnerLine.id
    c.in-InnerLine.left c.in-InnerLine.right _ c.loop-form.places c.loop-form-test.true c.in-InnerLine.is
    c.requires.well_formed c.loop-form.invariant.held in
    rw held.first refl

pub inner_place-place-requires-clause-right : goal.inner_place-place-requires-clause-right
inner_place-place-requires-clause-right c =
    let held = children_held (tree_of c.args.tree.now) c.args.forms.now c.loop-form.form-index c.in-InnerLine.id
    c.in-InnerLine.left c.in-InnerLine.right _ c.loop-form.places c.loop-form-test.true c.in-InnerLine.is
    c.requires.well_formed c.loop-form.invariant.held in
    rw held.second refl

-- the left child has a leaf
pub inner_place-place-requires-clause-positive : goal.inner_place-place-requires-clause-positive
inner_place-place-requires-clause-positive c l is =
    let held = children_held (tree_of c.args.tree.now) c.args.forms.now c.loop-form.form-index c.in-InnerLine.id
    c.in-InnerLine.left c.in-InnerLine.right _ c.loop-form.places c.loop-form-test.true c.in-InnerLine.is
    c.requires.well_formed c.loop-form.invariant.held in
    let same = ap (λ p. p.next) (same_Some l _ (sym is ∙ held.first)) in
    let earlier = entries_of (take c.loop-form.form-index c.args.forms.now) in
    omega (arith, same, leaves_positive (tree_with c.in-InnerLine.left earlier))

-- the line in hand gets its place
pub loop-form-preserved : goal.loop-form-preserved
loop-form-preserved c =
    let whole = tree_of c.args.tree.now in
    let forms = c.args.forms.now in
    let index = c.loop-form.form-index in
    let within : index < length (entries_of forms) = omega (arith, length_entries_of forms, c.loop-form-test.true) in
    let key : c.id.result ≡ (get_or (entries_of forms) index no_entry).id =
    c.id.ensures ∙ sym (line_id forms index _ c.loop-form-test.true) in
    let place : c.match-form.place ≡ place_in whole (entry_tree (entries_of forms) index) =
    elim c.match-form.branch [
      | in-LeafLine w ↦
          w.place-is
          ∙ leaf_is whole forms index w.in-LeafLine.id w.in-LeafLine.variable _ w.leaf_place-place.result
          c.loop-form-test.true w.in-LeafLine.is
          (rw (← c.loop-form.invariant.order, ← w.deref.ensures.value) w.leaf_place-place.ensures.position)
          w.leaf_place-place.ensures.next
      | in-InnerLine w ↦
          w.place-is
          ∙ inner_is whole forms index w.in-InnerLine.id w.in-InnerLine.left w.in-InnerLine.right _ c.loop-form.places
          w.inner_place-place.result c.requires.vtree c.loop-form-test.true w.in-InnerLine.is c.requires.well_formed
          c.requires.parts c.loop-form.invariant.held w.inner_place-place.ensures
    ] in
    record {
      order = c.loop-form.invariant.order;
      held = holds_more whole (entries_of forms) index c.id.result c.match-form.place c.loop-form.places
          c.insert.new.self within (c.requires.well_formed index within).new key place c.loop-form.invariant.held
          c.in_ok-insert.ensures.updates.0;
    }

-- all lines have theirs
pub returns : goal.returns
returns c id =
    let nodes = entries_of c.args.forms.now in
    let past : length nodes ≤ c.loop-form.form-index =
    omega (arith, length_entries_of c.args.forms.now, c.loop-form-test.false) in
    let all = take_all c.loop-form.form-index nodes past in
    c.loop-form.invariant.held id ∙ ap (λ es. option_map (place_in (tree_of c.args.tree.now)) (tree_with_id id es)) all
