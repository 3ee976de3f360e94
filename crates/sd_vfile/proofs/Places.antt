-- The node at an index, and the index of the first node with an id.
use Rattle.std.proofs.Common.{◌≡◌, ℕ, zero, suc, ◌+◌, ◌<◌, ◌≤◌, true, false, ◌==◌}
use Rattle.std.proofs.Common.{List, [], ◌∷◌, ◌++◌, length, take, drop, get_or, refl, sym, ap, ◌∙◌, subst, arith}
use Rattle.std.proofs.Common.{append_assoc, length-append}
use Rattle.std.specs.List.{fold}
use Rattle.std.proofs.lemmas.List.{take-append-le, take_all, get_or_append_left}
use Rattle.std.proofs.lemmas.List.{get_or-append-add, get_or-take, length-take-le}
use Rattle.sd_model.specs.Tree.{Tree}
use Rattle.sd_vfile.specs.declared.form.Form.{Form}
use Rattle.sd_vfile.specs.Reads.{Entry, has_id}
use Rattle.sd_vfile.specs.Steps.{id_of, tree_after, entry_after, grow, entries_of, no_entry, entry_tree, tree_with}
use Rattle.sd_vfile.specs.Steps.{IsWellFormed, AreWellFormed}

-- the nodes of more lines begin with those that were there
record Front (acc whole : List Entry) : Type 0 where
  rest : List Entry
  is : whole ≡ acc ++ rest

front : (acc : List Entry) (forms : List Form) → Front acc (fold grow acc forms)
front acc [] = record { rest = []; is = sym (append_nothing acc) }
  where
    append_nothing : (xs : List Entry) → xs ++ [] ≡ xs
    append_nothing [] = refl
    append_nothing (x ∷ xs) = ap (λ ys. x ∷ ys) (append_nothing xs)
front acc (f ∷ forms) =
    let later = front (grow acc f) forms in
    record {
      rest = entry_after acc f ∷ later.rest;
      is = later.is ∙ append_assoc acc (entry_after acc f ∷ []) later.rest;
    }

fold_length : (acc : List Entry) (forms : List Form) → length (fold grow acc forms) ≡ length acc + length forms
fold_length acc [] = omega arith
fold_length acc (f ∷ forms) = omega (arith, fold_length (grow acc f) forms, length-append acc (entry_after acc f ∷ []))

-- as many nodes as lines
pub length_entries_of : (forms : List Form) → length (entries_of forms) ≡ length forms
unfolding entries_of
length_entries_of forms = omega (arith, fold_length [] forms)

fold_take : (acc : List Entry) (forms : List Form) (p : ℕ)
    → take (length acc + p) (fold grow acc forms) ≡ fold grow acc (take p forms)
fold_take acc [] zero = take_all (length acc + 0) acc (omega arith)
fold_take acc [] (suc p) = take_all (length acc + suc p) acc (omega arith)
fold_take acc (f ∷ forms) zero =
    let begins = front acc (f ∷ forms) in
    let here : length acc + 0 ≡ length acc = omega arith in
    rw (here, begins.is)
    (take-append-le (length acc) acc begins.rest (omega arith) ∙ take_all (length acc) acc (omega arith))
fold_take acc (f ∷ forms) (suc p) =
    let further : length acc + suc p ≡ length (grow acc f) + p =
    omega (arith, length-append acc (entry_after acc f ∷ [])) in
    ap (λ n. take n (fold grow (grow acc f) forms)) further ∙ fold_take (grow acc f) forms p

-- the nodes of the first lines
pub entries_of_take : (forms : List Form) (p : ℕ) → entries_of (take p forms) ≡ take p (entries_of forms)
unfolding entries_of
entries_of_take forms p =
    let whole : 0 + p ≡ p = omega arith in
    sym (fold_take [] forms p) ∙ ap (λ n. take n (fold grow [] forms)) whole

fold_at : (acc : List Entry) (forms : List Form) (p : ℕ) (d : Form) → p < length forms
    → get_or (fold grow acc forms) (length acc + p) no_entry
    ≡ entry_after (fold grow acc (take p forms)) (get_or forms p d)
fold_at acc [] p d h = absurd (omega arith)
fold_at acc (f ∷ forms) zero d h =
    let begins = front (grow acc f) forms in
    let long : length acc + 0 < length (grow acc f) = omega (arith, length-append acc (entry_after acc f ∷ [])) in
    rw begins.is
    (get_or_append_left (grow acc f) begins.rest no_entry (length acc + 0) long
    ∙ get_or-append-add acc (entry_after acc f ∷ []) 0 no_entry)
fold_at acc (f ∷ forms) (suc p) d h =
    let further : length acc + suc p ≡ length (grow acc f) + p =
    omega (arith, length-append acc (entry_after acc f ∷ [])) in
    ap (λ n. get_or (fold grow (grow acc f) forms) n no_entry) further ∙ fold_at (grow acc f) forms p d (omega arith)

-- the node at an index is that of its line behind the earlier ones
pub entry_at : (forms : List Form) (p : ℕ) (d : Form) → p < length forms
    → get_or (entries_of forms) p no_entry ≡ entry_after (entries_of (take p forms)) (get_or forms p d)
unfolding entries_of
entry_at forms p d h =
    let whole : p ≡ 0 + p = omega arith in
    ap (λ n. get_or (fold grow [] forms) n no_entry) whole ∙ fold_at [] forms p d h

-- a tree among the first lines is that of all lines
pub tree_in_take : (forms : List Form) (p q : ℕ) → q < p
    → entry_tree (entries_of (take p forms)) q ≡ entry_tree (entries_of forms) q
tree_in_take forms p q h =
    ap (λ (es : List Entry). entry_tree es q) (entries_of_take forms p)
    ∙ ap (λ (e : Entry). e.tree) (get_or-take p (entries_of forms) q no_entry h)

-- ---- the first node with an id

-- a node at an index before those after it
pub drop_at : (es : List Entry) (p : ℕ) → p < length es → drop p es ≡ get_or es p no_entry ∷ drop (p + 1) es
drop_at [] p h = absurd (omega arith)
drop_at (e ∷ es) zero h = refl
drop_at (e ∷ es) (suc p) h =
    drop_at es p (omega arith)
    ∙ ap (λ n. get_or es p no_entry ∷ drop n (e ∷ es)) (let s : suc (p + 1) ≡ suc p + 1 = omega arith in s)

-- where an id is still to come there is a line
pub more_lines : (id p : ℕ) (es : List Entry) → has_id id (drop p es) ≡ true → p < length es
more_lines id zero [] h = cc
more_lines id (suc p) [] h = cc
more_lines id zero (e ∷ es) h = omega arith
more_lines id (suc p) (e ∷ es) h = let shorter = more_lines id p es h in omega arith

-- the id is the one of this node
pub here_found : (id p : ℕ) (es : List Entry) → p < length es → ((get_or es p no_entry).id == id) ≡ true
    → tree_with id (drop p es) ≡ entry_tree es p
here_found id p es h is = rw (drop_at es p h, is) refl

-- the id is of a later node
pub later_found : (id p : ℕ) (es : List Entry) → p < length es → ((get_or es p no_entry).id == id) ≡ false
    → has_id id (drop p es) ≡ true
    → (has_id id (drop (p + 1) es) ≡ true) × (tree_with id (drop (p + 1) es) ≡ tree_with id (drop p es))
later_found id p es h other there =
    let rest : has_id id (drop (p + 1) es) ≡ true = rw (drop_at es p h, other) at there in
    (rest, rw (drop_at es p h, other) refl)

-- ---- what is known

-- a larger bound on the variables
pub well_formed_below : (v w : ℕ) (es : List Entry) → v ≤ w → AreWellFormed v es → AreWellFormed w es
well_formed_below v w es h well_formed p within =
    let here = well_formed p within in
    record { new = here.new; variable = λ x leaf. le (here.variable x leaf); children = here.children }
  where
    le : {x : ℕ} → x ≤ v → x ≤ w
    le {x} k = omega arith

-- what the count of lines rests on
pub ruleset counted = (length_entries_of)

-- ---- lines and nodes

-- a node has the id of its line
pub line_id : (forms : List Form) (p : ℕ) (d : Form) → p < length forms
    → (get_or (entries_of forms) p no_entry).id ≡ id_of (get_or forms p d)
line_id forms p d h = ap (λ (e : Entry). e.id) (entry_at forms p d h)

-- a node has the tree of its line behind the earlier ones
pub line_tree : (forms : List Form) (p : ℕ) (d form : Form) → p < length forms → get_or forms p d ≡ form
    → entry_tree (entries_of forms) p ≡ tree_after (entries_of (take p forms)) form
line_tree forms p d form h is =
    ap (λ (e : Entry). e.tree) (entry_at forms p d h) ∙ ap (tree_after (entries_of (take p forms))) is

-- what is known of a line
pub line_known : (v : ℕ) (forms : List Form) (p : ℕ) (d form : Form) → p < length forms → get_or forms p d ≡ form
    → AreWellFormed v (entries_of forms)
    → IsWellFormed v (entries_of (take p forms)) (entry_after (entries_of (take p forms)) form)
line_known v forms p d form h is well_formed =
    let within : p < length (entries_of forms) = omega (arith, length_entries_of forms) in
    let entry = entry_at forms p d h ∙ ap (entry_after (entries_of (take p forms))) is in
    subst (λ (e : Entry). IsWellFormed v (entries_of (take p forms)) e) entry
    (subst (λ es. IsWellFormed v es (get_or (entries_of forms) p no_entry)) (sym (entries_of_take forms p))
    (well_formed p within))

-- the tree of a child, which stands on an earlier line
pub child_tree : (forms : List Form) (p q id : ℕ) (t : Tree) → p < length forms → q < length (take p forms)
    → t ≡ entry_tree (entries_of forms) q
    → entry_tree (entries_of (take p forms)) q ≡ tree_with id (entries_of (take p forms))
    → t ≡ tree_with id (entries_of (take p forms))
child_tree forms p q id t h within is found =
    is ∙ sym (tree_in_take forms p q (omega (arith, length-take-le p forms (omega arith)))) ∙ found
