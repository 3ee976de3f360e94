-- The nodes of lines, as the lines grow: tests of lines are tests of nodes.
use Rattle.std.proofs.Common.{◌≡◌, ℕ, Bool, true, false, ◌||◌, ◌==◌}
use Rattle.std.proofs.Common.{List, [], ◌∷◌, ◌++◌, refl, sym, ap, ◌∙◌}
use Rattle.std.proofs.Common.{Some, None}
use Rattle.std.specs.List.{fold, list_any}
use Rattle.std.proofs.lemmas.List.Folds.{list_any-append}
use Rattle.sd_vfile.specs.declared.form.Form.{Form}
use Rattle.sd_vfile.specs.declared.form.Form.TheVariants.{LeafLine, InnerLine}
use Rattle.sd_vfile.specs.Reads.{Entry, tree_with_id, has_id, is_child, is_leaf, has_leaf}
use Rattle.sd_vfile.specs.Steps.{id_of, has_child, is_leaf_line, tree_with, entry_after, grow, entries_of}

-- the last line comes last
fold_push : (acc : List Entry) (forms : List Form) (form : Form)
    → fold grow acc (forms ++ form ∷ []) ≡ grow (fold grow acc forms) form
fold_push acc [] form = refl
fold_push acc (f ∷ forms) form = fold_push (grow acc f) forms form

-- one more line is one more node
pub pushed : (forms : List Form) (form : Form)
    → entries_of (forms ++ form ∷ []) ≡ entries_of forms ++ entry_after (entries_of forms) form ∷ []
unfolding entries_of
pushed forms form = fold_push [] forms form

-- ---- tests

-- or, grouped the other way
or_first : (a b c : Bool) → ((a || (b || false)) || c) ≡ (a || (b || c))
or_first true b c = refl
or_first false true c = refl
or_first false false c = refl

-- a test of a node that is a test of its line
fold_any : (p : Entry → Bool) (q : Form → Bool) → ((earlier : List Entry) (f : Form) → p (entry_after earlier f) ≡ q f)
    → (acc : List Entry) (forms : List Form) → list_any p (fold grow acc forms) ≡ (list_any p acc || list_any q forms)
fold_any p q same acc [] = or_false (list_any p acc)
  where
    or_false : (a : Bool) → a ≡ (a || false)
    or_false true = refl
    or_false false = refl
fold_any p q same acc (f ∷ forms) =
    fold_any p q same (grow acc f) forms
    ∙ ap (λ b. b || list_any q forms) (list_any-append p acc (entry_after acc f ∷ []))
    ∙ or_first (list_any p acc) (p (entry_after acc f)) (list_any q forms)
    ∙ ap (λ b. list_any p acc || (b || list_any q forms)) (same acc f)

-- the tests of the reader
pub has_id_entries_of : (id : ℕ) (forms : List Form)
    → list_any (λ f. id_of f == id) forms ≡ has_id id (entries_of forms)
unfolding entries_of
has_id_entries_of id forms =
    sym (fold_any (λ e. e.id == id) (λ f. id_of f == id) (λ earlier f. refl) [] forms)

pub is_child_entries_of : (id : ℕ) (forms : List Form) → list_any (has_child id) forms ≡ is_child id (entries_of forms)
unfolding entries_of
is_child_entries_of id forms =
    sym (fold_any (λ e. list_any (λ child. child == id) e.children) (has_child id) (λ earlier f. refl) [] forms)

pub has_leaf_entries_of : (x : ℕ) (forms : List Form)
    → list_any (is_leaf_line x) forms ≡ has_leaf x (entries_of forms)
unfolding entries_of
has_leaf_entries_of x forms = sym (fold_any (λ e. is_leaf x e.tree) (is_leaf_line x) leaf [] forms)
  where
    leaf : (earlier : List Entry) (f : Form) → is_leaf x (entry_after earlier f).tree ≡ is_leaf_line x f
    leaf earlier (LeafLine id y) = refl
    leaf earlier (InnerLine id left right) = refl

-- ---- look-ups

-- no line has the id
pub tree_at_none : (id : ℕ) (entries : List Entry) → has_id id entries ≡ false → tree_with_id id entries ≡ None
tree_at_none id [] h = refl
tree_at_none id (e ∷ entries) h = go (e.id == id) refl h (tree_at_none id entries)
  where
    go : (b : Bool) → (e.id == id) ≡ b → (b || has_id id entries) ≡ false
        → (has_id id entries ≡ false → tree_with_id id entries ≡ None) → tree_with_id id (e ∷ entries) ≡ None
    go true is h later = cc
    go false is h later = rw is (later h)

-- a line has it
pub tree_at_some : (id : ℕ) (entries : List Entry) → has_id id entries ≡ true
    → tree_with_id id entries ≡ Some (tree_with id entries)
tree_at_some id [] h = cc
tree_at_some id (e ∷ entries) h = go (e.id == id) refl h (tree_at_some id entries)
  where
    go : (b : Bool) → (e.id == id) ≡ b → (b || has_id id entries) ≡ true
        → (has_id id entries ≡ true → tree_with_id id entries ≡ Some (tree_with id entries))
        → tree_with_id id (e ∷ entries) ≡ Some (tree_with id (e ∷ entries))
    go true is h later = rw is refl
    go false is h later = rw is (later h)

pub ruleset tree_found = (tree_at_none, tree_at_some)
