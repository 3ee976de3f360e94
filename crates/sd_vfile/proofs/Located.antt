-- Where the parts of a vtree stand in it.
use Rattle.std.proofs.Common.{◌≡◌, ℕ, ◌+◌, ◌-◌, ◌*◌, ◌≤◌, ◌<◌, ◌==◌, eqb, Bool, true, false, ◌||◌, cond}
use Rattle.std.proofs.Common.{List, [], ◌∷◌, ◌++◌, length, take, drop, get_or, Option, None, Some}
use Rattle.std.proofs.Common.{refl, sym, ap, ◌∙◌, subst, arith, inl, inr, eq-eqb, ne_eqb, length-append}
use Rattle.std.specs.Prelude.{slice_index, option_map}
use Rattle.std.specs.BTreeMap as tree
use Rattle.std.specs.BTreeMap.{is_at}
use Rattle.std.specs.List.{position_or_len}
use Rattle.std.specs.Ordering.{nat_cmp}
use Rattle.std.proofs.lemmas.Bool.{cases_eq}
use Rattle.std.proofs.lemmas.Bool.Decides.{nat_tests}
use Rattle.std.proofs.lemmas.List.{take_more, take-append-drop}
use Rattle.sd_model.specs.Tree.{Tree, Leaf, Node, IsVtree, variables, leaves, position, right_base}
use Rattle.sd_laws.specs.Parts.{IsPart, here, in_left, in_right}
use Rattle.sd_laws.proofs.Places.{part_trans}
use Rattle.sd_vtree.specs.Numbered.{times}
use Rattle.sd_vtree.proofs.Building.{leaves_positive}
use Rattle.sd_vtree.proofs.Pigeons.{times_distinct}
use Rattle.sd_vtree.proofs.Times.{times_append, times_same, times_other}
use Rattle.sd_vfile.specs.Ids.{first_position}
use Rattle.sd_vfile.specs.declared.placing.Place.{Place}
use Rattle.sd_vfile.specs.Placing.{IsPartOf, AreParts, HoldsPlaces, place_in}
use Rattle.sd_vfile.specs.Reads.{Entry, tree_with_id, has_id}
use Rattle.sd_vfile.specs.declared.form.Form.{Form}
use Rattle.sd_vfile.specs.declared.form.Form.TheVariants.{LeafLine, InnerLine}
use Rattle.sd_vfile.specs.Steps.{no_entry, entries_of, entry_tree, tree_with, AreWellFormed}
use Rattle.sd_vfile.proofs.Forests.{or_true}
use Rattle.sd_vfile.proofs.Growing.{tree_at_some}
use Rattle.sd_vfile.proofs.Places.{drop_at, length_entries_of, entries_of_take, line_known, line_tree}
use Rattle.sd_vfile.proofs.Written.{found_behind}

-- ---- the index of a variable

-- one that stands in front has the same index
index_left : (x : ℕ) (xs ys : List ℕ) → 1 ≤ times x xs
    → position_or_len (λ y. y == x) (xs ++ ys) ≡ position_or_len (λ y. y == x) xs
index_left x [] ys h = absurd (omega arith)
index_left x (y ∷ xs) ys h = elim (cases_eq y x) [
  | inl same ↦ rw (eq-eqb y x same) refl
  | inr other ↦
      let rest = index_left x xs ys (omega (arith, times_other x y xs other)) in
      rw (ne_eqb y x other, rest) refl
]

-- one that does not is counted behind
index_right : (x : ℕ) (xs ys : List ℕ) → times x xs ≡ 0
    → position_or_len (λ y. y == x) (xs ++ ys) ≡ length xs + position_or_len (λ y. y == x) ys
index_right x [] ys h = omega arith
index_right x (y ∷ xs) ys h = elim (cases_eq y x) [
  | inl same ↦ absurd (omega (arith, times_same x y xs same))
  | inr other ↦
      let rest = index_right x xs ys (omega (arith, times_other x y xs other)) in
      rw (ne_eqb y x other) (omega (arith, rest))
]

-- ---- the base of a part

-- a part begins where its first variable stands
begins : {s t : Tree} {c b : ℕ} → IsPart s c t b → ((x : ℕ) → times x (variables t) ≤ 1)
    → (b + 2 * position_or_len (λ x. x == slice_index (variables s) 0) (variables t) ≡ c)
    × (1 ≤ times (slice_index (variables s) 0) (variables t))
begins {s} {b = b} here once = go (variables s) (leaves_positive s)
  where
    go : (xs : List ℕ) → 1 ≤ length xs
        → (b + 2 * position_or_len (λ x. x == slice_index xs 0) xs ≡ b) × (1 ≤ times (slice_index xs 0) xs)
    go [] h = absurd (omega arith)
    go (x ∷ xs) h = (rw (eq-eqb x x refl) (omega arith), omega (arith, times_same x x xs refl))
begins {s} (in_left {l = l} {r = r} {b = b} part) once =
    let first = slice_index (variables s) 0 in
    let more = λ (x : ℕ). times_append x (variables l) (variables r) in
    let below = begins part (λ x. omega (arith, once x, more x)) in
    (rw (index_left first (variables l) (variables r) below.1) below.0, omega (arith, below.1, more first))
begins {s} (in_right {l = l} {r = r} {b = b} part) once =
    let first = slice_index (variables s) 0 in
    let more = λ (x : ℕ). times_append x (variables l) (variables r) in
    let below = begins part (λ x. omega (arith, once x, more x)) in
    let behind = index_right first (variables l) (variables r) (omega (arith, below.1, once first, more first)) in
    (omega (arith, below.0, behind), omega (arith, below.1, more first))

-- its first position is its base
pub first_is : (whole : Tree) → IsVtree whole → {s : Tree} {c : ℕ} → IsPart s c whole 0 → first_position whole s ≡ c
first_is whole vtree part =
    let at = begins part (times_distinct (variables whole) vtree.distinct) in
    omega (arith, at.0)

-- ---- places

-- the place of a node, from those of its children
pub record IsOver (whole l r : Tree) : Type 0 where
  pub position : (place_in whole (Node l r)).position ≡ (place_in whole l).next - 1
  pub next : (place_in whole (Node l r)).next ≡ (place_in whole r).next

pub over : (whole l r : Tree) → IsVtree whole → IsPartOf (Node l r) whole → IsOver whole l r
over whole l r vtree part =
    let base = first_is whole vtree part.is in
    let left = first_is whole vtree (part_trans (in_left here) part.is) in
    let right = first_is whole vtree (part_trans (in_right here) part.is) in
    let count = length-append (variables l) (variables r) in
    record { position = omega (arith, base, left); next = omega (arith, base, right, count) }

-- places that agree in both
pub same_place : (a b : Place) → a.position ≡ b.position → a.next ≡ b.next → a ≡ b
same_place a b e f = λ i. record { position = e i; next = f i }

-- ---- look-ups

-- the line at an index is found, since its id stands on no earlier one
found_at : (es : List Entry) (p : ℕ) → p < length es → has_id (get_or es p no_entry).id (take p es) ≡ false
    → tree_with_id (get_or es p no_entry).id es ≡ Some (entry_tree es p)
found_at es p h new =
    let e = get_or es p no_entry in
    ap (tree_with_id e.id) (sym (take-append-drop p es)) ∙ found_behind e.id (take p es) (drop p es) new
    ∙ ap (tree_with_id e.id) (drop_at es p h) ∙ rw (eq-eqb e.id e.id refl) refl

-- its tree is a part of the whole
pub part_at : (v : ℕ) (whole : Tree) (es : List Entry) (p : ℕ) → AreWellFormed v es → AreParts whole es → p < length es
    → IsPartOf (entry_tree es p) whole
part_at v whole es p known parts h =
    parts (get_or es p no_entry).id (entry_tree es p) (found_at es p h (known p h).new)

-- a look-up after one more line whose id is new
lookup_push : (id : ℕ) (es : List Entry) (e : Entry) → has_id e.id es ≡ false
    → tree_with_id id (es ++ e ∷ []) ≡ cond (eqb e.id id) (Some e.tree) (tree_with_id id es)
lookup_push id [] e new = go (eqb e.id id)
  where
    go : (b : Bool) → option_map (λ (d : Entry). d.tree) (cond b (Some e) None) ≡ cond b (Some e.tree) None
    go true = refl
    go false = refl
lookup_push id (d ∷ es) e new = elim (cases_eq d.id id) [
  | inl same ↦
      let apart : eqb e.id id ≡ false = ne_eqb e.id id (λ k. differs (k ∙ sym same)) in
      rw (eq-eqb d.id id same, apart) refl
  | inr other ↦
      rw (ne_eqb d.id id other) (lookup_push id es e (later (d.id == e.id) new))
]
  where
    differs : e.id ≡ d.id → ⊥
    differs k = let there : true ≡ false = rw (eq-eqb d.id e.id (sym k)) at new in cc

    later : (b : Bool) → (b || has_id e.id es) ≡ false → has_id e.id es ≡ false
    later true h = cc
    later false h = h

-- ---- the map of places

-- two tests of one number
is_at_eqb : (k q : ℕ) → is_at (nat_cmp k) q ≡ eqb k q
is_at_eqb k q = grind (arith, nat_tests)

-- none of no lines
pub holds_none : (whole : Tree) (places : tree.BTreeMap ℕ Place) → places.entries ≡ [] → HoldsPlaces whole [] places
holds_none whole places e q = rw e refl

-- that of one more line
pub holds_more : (whole : Tree) (es : List Entry) (p key : ℕ) (place : Place) (old new : tree.BTreeMap ℕ Place)
    → p < length es → has_id (get_or es p no_entry).id (take p es) ≡ false → key ≡ (get_or es p no_entry).id
    → place ≡ place_in whole (entry_tree es p) → HoldsPlaces whole (take p es) old
    → ((q : ℕ) → tree.get nat_cmp new q ≡ cond (is_at (nat_cmp key) q) (Some place) (tree.get nat_cmp old q))
    → HoldsPlaces whole (take (p + 1) es) new
holds_more whole es p key place old new h fresh key_is place_is held updates q =
    let e = get_or es p no_entry in
    let pushed : tree_with_id q (take (p + 1) es) ≡ cond (eqb e.id q) (Some e.tree) (tree_with_id q (take p es)) =
    ap (tree_with_id q) (take_more es p no_entry h) ∙ lookup_push q (take p es) e fresh in
    updates q
    ∙ rw (is_at_eqb key q, key_is, place_is, held q) (mapped (eqb e.id q) e.tree (tree_with_id q (take p es)))
    ∙ ap (option_map (place_in whole)) (sym pushed)
  where
    mapped : (b : Bool) (t : Tree) (o : Option Tree)
        → cond b (Some (place_in whole t)) (option_map (place_in whole) o)
        ≡ option_map (place_in whole) (cond b (Some t) o)
    mapped true t o = refl
    mapped false t o = refl

-- ---- the place of a line

-- the place of a leaf's line
pub leaf_is : (whole : Tree) (forms : List Form) (p id x : ℕ) (d : Form) (place : Place) → p < length forms
    → get_or forms p d ≡ LeafLine id x
    → place.position ≡ 2 * position_or_len (λ y. y == x) (variables whole) → place.next ≡ place.position + 2
    → place ≡ place_in whole (entry_tree (entries_of forms) p)
leaf_is whole forms p id x d place h is position next =
    same_place place (place_in whole (Leaf x)) position (omega (arith, position, next))
    ∙ ap (place_in whole) (sym (line_tree forms p d _ h is))

-- the place of a child, which stands on an earlier line
child_held : (whole : Tree) (forms : List Form) (p id : ℕ) (places : tree.BTreeMap ℕ Place)
    → HoldsPlaces whole (take p (entries_of forms)) places → has_id id (entries_of (take p forms)) ≡ true
    → tree.get nat_cmp places id ≡ Some (place_in whole (tree_with id (entries_of (take p forms))))
child_held whole forms p id places held there =
    held id ∙ ap (λ es. option_map (place_in whole) (tree_with_id id es)) (sym (entries_of_take forms p))
    ∙ ap (option_map (place_in whole)) (tree_at_some id (entries_of (take p forms)) there)

-- the places of the children of a line
pub record AreHeld (whole : Tree) (forms : List Form) (p left right : ℕ) (places : tree.BTreeMap ℕ Place) : Type 0 where
  pub first : tree.get nat_cmp places left ≡ Some (place_in whole (tree_with left (entries_of (take p forms))))
  pub second : tree.get nat_cmp places right ≡ Some (place_in whole (tree_with right (entries_of (take p forms))))

pub children_held : (whole : Tree) (forms : List Form) (p id left right : ℕ) (d : Form) (places : tree.BTreeMap ℕ Place)
    → p < length forms → get_or forms p d ≡ InnerLine id left right → AreWellFormed 1024 (entries_of forms)
    → HoldsPlaces whole (take p (entries_of forms)) places → AreHeld whole forms p left right places
children_held whole forms p id left right d places h is known held =
    let line = line_known 1024 forms p d _ h is known in
    record {
      first = child_held whole forms p left places held (line.children left (rw (eq-eqb left left refl) refl));
      second = child_held whole forms p right places held
          (line.children right (rw (eq-eqb right right refl) (or_true (left == right))));
    }

-- the place of an internal node's line
pub inner_is : (whole : Tree) (forms : List Form) (p id left right : ℕ) (d : Form) (places : tree.BTreeMap ℕ Place)
    (place : Place) → IsVtree whole → p < length forms → get_or forms p d ≡ InnerLine id left right
    → AreWellFormed 1024 (entries_of forms) → AreParts whole (entries_of forms)
    → HoldsPlaces whole (take p (entries_of forms)) places
    → ((l r : Place) → tree.get nat_cmp places left ≡ Some l → tree.get nat_cmp places right ≡ Some r
    → (place.position ≡ l.next - 1) × (place.next ≡ r.next))
    → place ≡ place_in whole (entry_tree (entries_of forms) p)
inner_is whole forms p id left right d places place vtree h is known parts held value =
    let children = children_held whole forms p id left right d places h is known held in
    let l = tree_with left (entries_of (take p forms)) in
    let r = tree_with right (entries_of (take p forms)) in
    let tree_is : entry_tree (entries_of forms) p ≡ Node l r = line_tree forms p d _ h is in
    let part = part_at 1024 whole (entries_of forms) p known parts (omega (arith, h, length_entries_of forms)) in
    let own = over whole l r vtree (subst (λ t. IsPartOf t whole) tree_is part) in
    let got = value (place_in whole l) (place_in whole r) children.first children.second in
    same_place place (place_in whole (Node l r)) (got.0 ∙ sym own.position) (got.1 ∙ sym own.next)
    ∙ ap (place_in whole) (sym tree_is)
