-- What is known of lines that were read is known of one more line that was placed.
use Rattle.std.proofs.Common.{◌≡◌, ℕ, ◌+◌, ◌≤◌, Bool, true, false, ◌||◌, ◌==◌, cond}
use Rattle.std.proofs.Common.{List, [], ◌∷◌, ◌++◌, refl, sym, ap, ◌∙◌, subst, arith}
use Rattle.std.proofs.Common.{Some, inl, inr, eq-eqb, ne_eqb}
use Rattle.std.specs.List.{list_any}
use Rattle.std.proofs.lemmas.Bool.{cases_eq, eqb-true}
use Rattle.std.proofs.lemmas.List.Folds.{list_any-append}
use Rattle.sd_model.specs.Tree.{Tree, Leaf, Node, variables}
use Rattle.sd_vtree.specs.Numbered.{times}
use Rattle.sd_vtree.proofs.Times.{times_append}
use Rattle.sd_vfile.specs.Reads.{Entry, tree_with_id, has_id, is_child, is_leaf, has_leaf}
use Rattle.sd_vfile.proofs.Forests.{bit, leaf_count, below, leaf_count_push, below_push}
use Rattle.sd_vfile.proofs.Forests.{leaf_none, id_found, below_same, below_less, or_false}
use Rattle.sd_vfile.proofs.Placed.{IsPlaced, leaf_placed, inner_placed}
use Rattle.sd_vfile.proofs.AreRead.{AreRead, once_more, children_more, well_formed_more}
use Rattle.sd_vfile.proofs.AreRead.{is_child_push, no_child, ids_apart}

-- ---- a leaf

-- a leaf brings its variable in
leaf_account : (v id y x : ℕ) (es : List Entry) → AreRead v es → has_id id es ≡ false
    → below (λ i. is_child i (es ++ record { id = id; tree = Leaf y; children = [] } ∷ [])) x
    (es ++ record { id = id; tree = Leaf y; children = [] } ∷ [])
    ≡ leaf_count x (es ++ record { id = id; tree = Leaf y; children = [] } ∷ [])
leaf_account v id y x es read new =
    let e : Entry = record { id = id; tree = Leaf y; children = [] } in
    let same = below_same (λ i. is_child i (es ++ e ∷ [])) (λ i. is_child i es) x (es ++ e ∷ [])
    (λ i. is_child_push i es e ∙ or_false (is_child i es)) in
    let here : cond (is_child id es) 0 (times x (y ∷ [])) ≡ times x (y ∷ []) = rw (no_child v es id read new) refl in
    omega (arith, same, below_push (λ i. is_child i es) x es e, here, read.account x, leaf_count_push x es e)

-- a variable without a leaf gets one
leaf_once_more : (es : List Entry) (e : Entry) (y : ℕ) → e.tree ≡ Leaf y → ((x : ℕ) → leaf_count x es ≤ 1)
    → has_leaf y es ≡ false → (x : ℕ) → leaf_count x (es ++ e ∷ []) ≤ 1
leaf_once_more es e y is once new x = elim (cases_eq y x) [
  | inl same ↦
      let none : leaf_count x es ≡ 0 = subst (λ i. leaf_count i es ≡ 0) same (leaf_none y es new) in
      let one : bit (is_leaf x e.tree) ≡ 1 = rw (is, eq-eqb y x same) refl in
      omega (arith, leaf_count_push x es e, none, one)
  | inr other ↦
      let zero_here : bit (is_leaf x e.tree) ≡ 0 = rw (is, ne_eqb y x other) refl in
      omega (arith, leaf_count_push x es e, once x, zero_here)
]

in_range_more : (v : ℕ) (es : List Entry) (e : Entry) → ((x : ℕ) → has_leaf x es ≡ true → (1 ≤ x) × (x ≤ v))
    → ((x : ℕ) → is_leaf x e.tree ≡ true → (1 ≤ x) × (x ≤ v)) → (x : ℕ) → has_leaf x (es ++ e ∷ []) ≡ true
    → (1 ≤ x) × (x ≤ v)
in_range_more v es e old new x h =
    go (has_leaf x es) (is_leaf x e.tree) (old x) (new x)
    (rw (list_any-append (λ d. is_leaf x d.tree) es (e ∷ [])) at h)
  where
    go : (a b : Bool) → (a ≡ true → (1 ≤ x) × (x ≤ v)) → (b ≡ true → (1 ≤ x) × (x ≤ v))
        → (a || (b || false)) ≡ true → (1 ≤ x) × (x ≤ v)
    go true b f g h = f refl
    go false true f g h = g refl
    go false false f g h = cc

-- ---- an internal node

-- its children take their variables out, and it brings them in
inner_account : (v id left right x : ℕ) (l r : Tree) (es : List Entry) → AreRead v es → has_id id es ≡ false
    → tree_with_id left es ≡ Some l → tree_with_id right es ≡ Some r → (left == right) ≡ false
    → is_child left es ≡ false → is_child right es ≡ false
    → (e : Entry) → e.id ≡ id → e.tree ≡ Node l r → e.children ≡ left ∷ right ∷ []
    → below (λ i. is_child i (es ++ e ∷ [])) x (es ++ e ∷ []) ≡ leaf_count x (es ++ e ∷ [])
inner_account v id left right x l r es read new at_left at_right two free_left free_right e id_is tree_is children_is =
    let test : ℕ → Bool = λ i. is_child i es in
    let first : ℕ → Bool = λ i. test i || left == i in
    let second : ℕ → Bool = λ i. first i || right == i in
    let same = below_same (λ i. is_child i (es ++ e ∷ [])) second x (es ++ e ∷ [])
    (λ i. is_child_push i es e ∙ ap (λ cs. is_child i es || (list_any (λ child. child == i) cs || false)) children_is
    ∙ grouped (is_child i es) (left == i) (right == i)) in
    let out_left : (left == e.id) ≡ false = rw id_is (ids_apart left id es (id_found left es l at_left) new) in
    let out_right : (right == e.id) ≡ false = rw id_is (ids_apart right id es (id_found right es r at_right) new) in
    let out : is_child e.id es ≡ false = rw id_is (no_child v es id read new) in
    let free : first right ≡ false = rw (free_right, two) refl in
    let less_left = below_less test left x es l free_left (read.once left) at_left in
    let less_right = below_less first right x es r free (read.once right) at_right in
    let here : cond (second e.id) 0 (times x (variables e.tree)) ≡ times x (variables l) + times x (variables r) =
    rw (out, out_left, out_right, tree_is) (times_append x (variables l) (variables r)) in
    let no_leaf : bit (is_leaf x e.tree) ≡ 0 = rw tree_is refl in
    omega (
      arith,
      same,
      below_push second x es e,
      here,
      less_left,
      less_right,
      read.account x,
      leaf_count_push x es e,
      no_leaf,
    )
  where
    grouped : (a b c : Bool) → (a || ((b || (c || false)) || false)) ≡ ((a || b) || c)
    grouped true b c = refl
    grouped false true c = refl
    grouped false false true = refl
    grouped false false false = refl

inner_leaf_once : (es : List Entry) (e : Entry) (l r : Tree) → e.tree ≡ Node l r → ((x : ℕ) → leaf_count x es ≤ 1)
    → (x : ℕ) → leaf_count x (es ++ e ∷ []) ≤ 1
inner_leaf_once es e l r is once x =
    let zero_here : bit (is_leaf x e.tree) ≡ 0 = rw is refl in
    omega (arith, leaf_count_push x es e, once x, zero_here)

-- a child of a node is one of two
one_of_two : (es : List Entry) (left right id : ℕ) → has_id left es ≡ true → has_id right es ≡ true
    → (left == id || (right == id || false)) ≡ true → has_id id es ≡ true
one_of_two es left right id at_left at_right h = elim (cases_eq left id) [
  | inl same ↦ subst (λ i. has_id i es ≡ true) same at_left
  | inr other ↦
      let rest : (right == id || false) ≡ true = rw (ne_eqb left id other) at h in
      let is : right ≡ id = eqb-true right id (sym (or_false (right == id)) ∙ rest) in
      subst (λ i. has_id i es ≡ true) is at_right
]

-- ---- all of them

-- one more line that was placed
pub read_one_more : (v : ℕ) (es : List Entry) (e : Entry) → AreRead v es → IsPlaced v es e → AreRead v (es ++ e ∷ [])
read_one_more v es e read (leaf_placed id y new low high own) =
    let entry : Entry = record { id = id; tree = Leaf y; children = [] } in
    let here : (x : ℕ) → (y == x) ≡ true → (1 ≤ x) × (x ≤ v) =
    λ x h. subst (λ i. (1 ≤ i) × (i ≤ v)) (eqb-true y x h) (low, high) in
    record {
      once = once_more es entry read.once new;
      children = children_more es entry read.children (λ i h. cc);
      leaf_once = leaf_once_more es entry y refl read.leaf_once own;
      in_range = in_range_more v es entry read.in_range here;
      account = λ x. leaf_account v id y x es read new;
      well_formed = well_formed_more v es entry read.well_formed
          (record { new = new; variable = λ x h. (here x h).1; children = λ i h. cc });
    }
read_one_more v es e read (inner_placed id left right l r new at_left at_right two free_left free_right) =
    let entry : Entry = record { id = id; tree = Node l r; children = left ∷ right ∷ [] } in
    let on_lines : (i : ℕ) → (left == i || (right == i || false)) ≡ true → has_id i es ≡ true =
    λ i h. one_of_two es left right i (id_found left es l at_left) (id_found right es r at_right) h in
    record {
      once = once_more es entry read.once new;
      children = children_more es entry read.children on_lines;
      leaf_once = inner_leaf_once es entry l r refl read.leaf_once;
      in_range = in_range_more v es entry read.in_range (λ x h. cc);
      account = λ x. inner_account v id left right x l r es read new at_left at_right two free_left free_right
          entry refl refl refl;
      well_formed = well_formed_more v es entry read.well_formed
          (record { new = new; variable = λ x h. cc; children = on_lines });
    }
