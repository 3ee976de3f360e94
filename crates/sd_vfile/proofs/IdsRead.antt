-- The ids of a text that was read, with the places of their nodes.
use Rattle.std.proofs.Common.{◌≡◌, ℕ, ◌+◌, ◌-◌, ◌*◌, ◌≤◌, ◌==◌, eqb, Bool, true, false, cond, List, [], ◌∷◌, map}
use Rattle.std.proofs.Common.{Option, None, Some, Ok, refl, sym, ap, ◌∙◌, subst, arith}
use Rattle.std.specs.Prelude.{option_map, find as find_first}
use Rattle.std.specs.BTreeMap as tree
use Rattle.std.specs.Cmp.{nat_cmp_total}
use Rattle.std.specs.FinMap.{FinMap, get, find, from_entries, get-from_entries, same_map, nat_cmp-IsAntisymmetric}
use Rattle.std.specs.Ordering.{nat_cmp, is_eq}
use Rattle.std.proofs.lemmas.Bool.Decides.{nat_tests}
use Rattle.std.proofs.lemmas.Option.{same_Some}
use Rattle.sd_laws.proofs.Places.{part_range}
use Rattle.sd_model.specs.Tree.{Tree, leaves, position}
use Rattle.sd_vfile.specs.declared.placing.Place.{Place}
use Rattle.sd_vfile.specs.Ids.{position_in, ids_of, IsPlace, HasPlaces, ArePositions}
use Rattle.sd_vfile.specs.Placing.{AreParts, HoldsPlaces, place_in, positions_of}
use Rattle.sd_vfile.specs.Reads.{Entry, tree_with_id, node_lines, vtree_file}
use Rattle.sd_vfile.proofs.Accepted.{IsVtreeOver, accepted}
use Rattle.sd_vfile.proofs.ByLines.{lines_of_text, root_of_text}
use Rattle.sd_vfile.proofs.IdPlaces.{position_at}
use Rattle.sd_vfile.proofs.Located.{first_is}
use Rattle.sd_vfile.proofs.Standing.{AreRooted, rooted_lines, are_parts}
use Rattle.sd_vfile.proofs.Written as written

-- what a text without a fault tells of its lines and of its tree
pub record IsRead (v : ℕ) (t : Tree) (es : List Entry) : Type 0 where
  pub rooted : AreRooted v es
  pub parts : AreParts t es
  pub over : IsVtreeOver v t

pub is_read : (v : ℕ) (bytes : List ℕ) (t : Tree) (es : List Entry) → vtree_file v bytes ≡ Ok t
    → node_lines v bytes ≡ Ok es → IsRead v t es
is_read v bytes t es file lines =
    let text = lines_of_text v bytes es lines in
    let rooted = rooted_lines v text.lines es text.read in
    record {
      rooted = rooted;
      parts = are_parts v es t rooted (root_of_text v bytes es t file lines);
      over = accepted v bytes t file;
    }

-- ---- the map

-- a look-up among the lines' positions
find_line : (t : Tree) (id : ℕ) (es : List Entry)
    → find nat_cmp id (map (λ e. (e.id, position_in t e.tree)) es) ≡ option_map (position_in t) (tree_with_id id es)
find_line t id [] = refl
find_line t id (e ∷ es) = rw (test e.id) (go (e.id == id) (find_line t id es))
  where
    test : (k : ℕ) → is_eq (nat_cmp id k) ≡ (k == id)
    test k = grind (arith, nat_tests)

    go : (b : Bool) → find nat_cmp id (map (λ d. (d.id, position_in t d.tree)) es)
        ≡ option_map (position_in t) (tree_with_id id es)
        → cond b (Some (position_in t e.tree)) (find nat_cmp id (map (λ d. (d.id, position_in t d.tree)) es))
        ≡ option_map (position_in t)
        (option_map (λ (d : Entry). d.tree) (cond b (Some e) (find_first (λ d. d.id == id) es)))
    go true later = refl
    go false later = later

-- the position of an id by its line
position_of : (t : Tree) (es : List Entry) (places : tree.BTreeMap ℕ Place) → HoldsPlaces t es places → (id : ℕ)
    → get (positions_of places) id ≡ option_map (position_in t) (tree_with_id id es)
position_of t es places held id =
    position_at places id ∙ ap (option_map (λ (p : Place). p.position)) (held id) ∙ go (tree_with_id id es)
  where
    go : (o : Option Tree)
        → option_map (λ (p : Place). p.position) (option_map (place_in t) o) ≡ option_map (position_in t) o
    go (Some part) = refl
    go None = refl

-- it is the map of the text
pub ids_are : (v : ℕ) (bytes : List ℕ) (t : Tree) (es : List Entry) (places : tree.BTreeMap ℕ Place)
    → vtree_file v bytes ≡ Ok t → node_lines v bytes ≡ Ok es → HoldsPlaces t es places
    → ids_of v bytes ≡ Ok (positions_of places)
unfolding ids_of
ids_are v bytes t es places file lines held =
    rw (file, lines)
    (ap Ok (same_map nat_cmp_total nat_cmp-IsAntisymmetric _ (positions_of places)
    (λ id. get-from_entries nat_cmp_total (map (λ e. (e.id, position_in t e.tree)) es) id ∙ find_line t id es
    ∙ sym (position_of t es places held id))))

-- each id has its place
pub has_places : (v : ℕ) (bytes : List ℕ) (t : Tree) (es : List Entry) (places : tree.BTreeMap ℕ Place)
    → vtree_file v bytes ≡ Ok t → node_lines v bytes ≡ Ok es → HoldsPlaces t es places
    → HasPlaces v bytes (positions_of places)
has_places v bytes t es places file lines held =
    let known = is_read v bytes t es file lines in
    record {
      tree = t;
      entries = es;
      read = file;
      lines = lines;
      places = λ id. go known id (tree_with_id id es) refl (position_of t es places held id);
    }
  where
    go : IsRead v t es → (id : ℕ) (o : Option Tree) → tree_with_id id es ≡ o
        → get (positions_of places) id ≡ option_map (position_in t) o → IsPlace t o (get (positions_of places) id)
    go known id None at is = is
    go known id (Some part) at is =
        let part_of = known.parts id part at in
        let base = first_is t known.over.vtree part_of.is in
        (part_of.base, part_of.is, is ∙ ap (λ b. Some (position part b)) base)

-- each position is one of the vtree
pub are_positions : (v : ℕ) (bytes : List ℕ) (ids : FinMap nat_cmp ℕ) → HasPlaces v bytes ids → ArePositions v ids
are_positions v bytes ids all id p at =
    go (tree_with_id id all.entries) (all.places id)
  where
    over : IsVtreeOver v all.tree
    over = accepted v bytes all.tree all.read

    go : (o : Option Tree) → IsPlace all.tree o (get ids id) → p ≤ 2 * v - 2
    go None is = let none = sym is ∙ at in cc
    go (Some part) is =
        let same : position part is.0 ≡ p = same_Some (position part is.0) p (sym is.2 ∙ at) in
        let range = part_range is.1 in
        omega (arith, same, range.1, (written.position_in part is.0).1, over.count)
