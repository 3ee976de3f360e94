-- The positions that a map of places has.
use Rattle.std.proofs.Common.{◌≡◌, ℕ, Bool, true, false, cond, List, [], ◌∷◌, map, Some, refl, ◌∙◌}
use Rattle.std.specs.Prelude.{option_map}
use Rattle.std.specs.BTreeMap as tree
use Rattle.std.specs.Cmp.{nat_cmp_total}
use Rattle.std.specs.FinMap.{get, find, get-from_entries}
use Rattle.std.specs.Map.{lookup}
use Rattle.std.specs.Ordering.{nat_cmp, is_eq}
use Rattle.sd_vfile.specs.declared.placing.Place.{Place}
use Rattle.sd_vfile.specs.Placing.{positions_of}

-- a look-up among positions is one among places
find_position : (id : ℕ) (es : List (ℕ × Place))
    → find nat_cmp id (map (λ e. (e.0, e.1.position)) es)
    ≡ option_map (λ (p : Place). p.position) (lookup (λ k. is_eq (nat_cmp id k)) es)
find_position id [] = refl
find_position id (e ∷ es) = go (is_eq (nat_cmp id e.0)) (find_position id es)
  where
    go : (b : Bool) → find nat_cmp id (map (λ e. (e.0, e.1.position)) es)
        ≡ option_map (λ (p : Place). p.position) (lookup (λ k. is_eq (nat_cmp id k)) es)
        → cond b (Some e.1.position) (find nat_cmp id (map (λ e. (e.0, e.1.position)) es))
        ≡ option_map (λ (p : Place). p.position) (cond b (Some e.1) (lookup (λ k. is_eq (nat_cmp id k)) es))
    go true later = refl
    go false later = later

-- the position of an id is that of its place
pub position_at : (places : tree.BTreeMap ℕ Place) (id : ℕ)
    → get (positions_of places) id ≡ option_map (λ (p : Place). p.position) (tree.get nat_cmp places id)
position_at places id =
    get-from_entries nat_cmp_total (map (λ e. (e.0, e.1.position)) places.entries) id
    ∙ find_position id places.entries
