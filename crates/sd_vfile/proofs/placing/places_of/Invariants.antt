use Rattle.std.proofs.Common.{◌≡◌, take}
use Rattle.sd_model.specs.Seen.{tree_of}
use Rattle.sd_model.specs.Tree.{variables}
use Rattle.sd_vfile.specs.Placing.{HoldsPlaces}
use Rattle.sd_vfile.specs.Steps.{entries_of}
use Rattle.sd_vfile.proofs.placing.places_of.Given as goal

-- the map has the places of the lines so far
abbrev pub invariant-loop-form : goal.invariant-loop-form
invariant-loop-form l = record {
  order : l.order.items ≡ variables (tree_of l.tree);
  held : HoldsPlaces (tree_of l.tree) (take l.form-index (entries_of l.forms)) l.places;
}
