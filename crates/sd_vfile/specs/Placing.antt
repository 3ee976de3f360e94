-- How the places of nodes are kept, for the contracts of private functions and for proofs.
use Rattle.std.specs.Prelude.{◌≡◌, ℕ, ◌+◌, ◌*◌, map, Option, Some, List, option_map}
use Rattle.std.specs.BTreeMap as tree
use Rattle.std.specs.FinMap.{FinMap, from_entries}
use Rattle.std.specs.Ordering.{nat_cmp}
use Rattle.sd_laws.specs.Parts.{IsPart}
use Rattle.sd_model.specs.Tree.{Tree, leaves}
use Rattle.sd_vfile.specs.declared.placing.Place.{Place}
use Rattle.sd_vfile.specs.Ids.{first_position, position_in}
use Rattle.sd_vfile.specs.Reads.{Entry, tree_with_id}

-- the map from ids to the positions of their places
abbrev pub positions_of : tree.BTreeMap ℕ Place → FinMap nat_cmp ℕ
positions_of places = from_entries (map (λ e. (e.0, e.1.position)) places.entries)

-- the place of a part of a vtree
abbrev pub place_in : Tree → Tree → Place
place_in whole part = record {
  position = position_in whole part;
  next = first_position whole part + 2 * leaves part;
}

-- the map has the place of each line's tree
abbrev pub HoldsPlaces : Tree → List Entry → tree.BTreeMap ℕ Place → Type 0
HoldsPlaces whole entries places =
    (id : ℕ) → tree.get nat_cmp places id ≡ option_map (place_in whole) (tree_with_id id entries)

-- a tree is a part of another
pub record IsPartOf (part whole : Tree) : Type 0 where
  pub base : ℕ
  pub is : IsPart part base whole 0

-- this is so of each line's tree
abbrev pub AreParts : Tree → List Entry → Type 0
AreParts whole entries = (id : ℕ) (part : Tree) → tree_with_id id entries ≡ Some part → IsPartOf part whole
