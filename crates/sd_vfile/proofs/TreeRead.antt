-- The lines of a written tree are read as its nodes.
use Rattle.std.proofs.Common.{◌≡◌, ℕ, suc, ◌+◌, ◌*◌, ◌^◌, ◌<◌, ◌≤◌, false, ◌==◌}
use Rattle.std.proofs.Common.{List, [], ◌∷◌, ◌++◌, length, Some, Ok, refl, ap, ◌∙◌, arith}
use Rattle.std.proofs.Common.{inl, inr, ne_eqb, append_assoc}
use Rattle.std.specs.Prelude.{codes}
use Rattle.std.specs.List.{list_any}
use Rattle.std.proofs.lemmas.Bool.{le-leb}
use Rattle.sd_base.specs.Lines.{TextLine}
use Rattle.sd_base.specs.Reading.{each_after}
use Rattle.sd_model.specs.Text.{number_text, vtree_node_lines}
use Rattle.sd_model.specs.Tree.{Tree, Leaf, Node, variables, leaves, right_base, position}
use Rattle.sd_vtree.specs.Numbered.{times}
use Rattle.sd_vtree.proofs.Building.{leaves_positive, leaves_node}
use Rattle.sd_vtree.proofs.Times.{times_append, times_same}
use Rattle.sd_vfile.specs.Reads.{Entry, tree_with_id, has_id, is_child, has_leaf}
use Rattle.sd_vfile.specs.Reads.{entry_of, is_leaf}
use Rattle.sd_vfile.proofs.Texts.{numbered, natural_back}
use Rattle.sd_vfile.proofs.Written.{root_entry, entries_in, position_in, none_of_two, outside, root_free}
use Rattle.sd_vfile.proofs.Written.{found_behind, found_before, root_found}
use Rattle.sd_vfile.proofs.Written.{no_leaf}

-- ---- one line

-- the line of a leaf
leaf_line : (v base x n : ℕ) (es : List Entry) → base < 10 ^ 18 → x < 10 ^ 18 → has_id base es ≡ false → 1 ≤ x
    → x ≤ v → has_leaf x es ≡ false
    → entry_of v es (record { number = n; words = codes "L" ∷ number_text base ∷ number_text x ∷ [] })
    ≡ Ok (root_entry (Leaf x) base)
leaf_line v base x n es small small_x new low high own =
    rw (natural_back base small, natural_back x small_x, new, le-leb 1 x low, le-leb x v high, own) refl

-- the line of an internal node
inner_line : (v id left right n : ℕ) (l r : Tree) (es : List Entry) → id < 10 ^ 18 → left < 10 ^ 18 → right < 10 ^ 18
    → has_id id es ≡ false → tree_with_id left es ≡ Some l → tree_with_id right es ≡ Some r → (left == right) ≡ false
    → is_child left es ≡ false → is_child right es ≡ false
    → entry_of v es
    (record { number = n; words = codes "I" ∷ number_text id ∷ number_text left ∷ number_text right ∷ [] })
    ≡ Ok (record { id = id; tree = Node l r; children = left ∷ right ∷ [] })
inner_line v id left right n l r es small small_l small_r new at_l at_r two free_l free_r =
    rw (
      natural_back id small,
      natural_back left small_l,
      natural_back right small_r,
      new,
      at_l,
      at_r,
      two,
      free_l,
      free_r,
    ) refl

-- ---- the lines of a tree

numbered_append : (n : ℕ) (xs ys : List (List (List ℕ)))
    → numbered n (xs ++ ys) ≡ numbered n xs ++ numbered (n + length xs) ys
numbered_append n [] ys = ap (λ k. numbered k ys) (let e : n ≡ n + 0 = omega arith in e)
numbered_append n (x ∷ xs) ys =
    ap (λ rest. record { number = n; words = x } ∷ rest)
    (numbered_append (n + 1) xs ys
    ∙ ap (λ k. numbered (n + 1) xs ++ numbered k ys)
    (let e : n + 1 + length xs ≡ n + suc (length xs) = omega arith in e))

-- lines before a tree's: their ids stand below its positions, and its variables have no leaf there
pub record IsBefore (v : ℕ) (es : List Entry) (t : Tree) (base : ℕ) : Type 0 where
  pub new : (i : ℕ) → base ≤ i → has_id i es ≡ false
  pub free : (i : ℕ) → base ≤ i → is_child i es ≡ false
  pub leaf : (x : ℕ) → 1 ≤ times x (variables t) → has_leaf x es ≡ false
  pub once : (x : ℕ) → times x (variables t) ≤ 1
  pub in_range : (x : ℕ) → 1 ≤ times x (variables t) → (1 ≤ x) × (x ≤ v)

-- so they are for the left child
before_left : (v : ℕ) (es : List Entry) (l r : Tree) (base : ℕ) → IsBefore v es (Node l r) base → IsBefore v es l base
before_left v es l r base b =
    let more = λ (x : ℕ). times_append x (variables l) (variables r) in
    record {
      new = b.new;
      free = b.free;
      leaf = λ x h. b.leaf x (omega (arith, more x));
      once = λ x. omega (arith, more x, b.once x);
      in_range = λ x h. b.in_range x (omega (arith, more x));
    }

-- and, with its nodes, for the right one
before_right : (v : ℕ) (es : List Entry) (l r : Tree) (base : ℕ) → IsBefore v es (Node l r) base
    → IsBefore v (es ++ entries_in l base) r (right_base l base)
before_right v es l r base b =
    let more = λ (x : ℕ). times_append x (variables l) (variables r) in
    record {
      new = λ i h. none_of_two (λ e. e.id == i) es (entries_in l base) (b.new i (omega arith))
          (outside l base i (inr (omega arith))).0;
      free = λ i h. none_of_two (λ e. list_any (λ child. child == i) e.children) es (entries_in l base)
          (b.free i (omega arith)) (outside l base i (inr (omega arith))).1;
      leaf = λ x h. none_of_two (λ e. is_leaf x e.tree) es (entries_in l base) (b.leaf x (omega (arith, more x)))
          (no_leaf l base x (omega (arith, more x, b.once x)));
      once = λ x. omega (arith, more x, b.once x);
      in_range = λ x h. b.in_range x (omega (arith, more x));
    }

-- the root's line after those of its children
root_line : (v n : ℕ) (es : List Entry) (l r : Tree) (base : ℕ) → IsBefore v es (Node l r) base
    → base + 2 * leaves (Node l r) < 10 ^ 18
    → entry_of v ((es ++ entries_in l base) ++ entries_in r (right_base l base))
    (record {
      number = n;
      words = codes "I" ∷ number_text (position (Node l r) base)
          ∷ number_text (position l base) ∷ number_text (position r (right_base l base)) ∷ [];
    })
    ≡ Ok (root_entry (Node l r) base)
root_line v n es l r base b small =
    let id = position (Node l r) base in
    let p = position l base in
    let q = position r (right_base l base) in
    let xs = entries_in l base in
    let ys = entries_in r (right_base l base) in
    let some_l = leaves_positive l in
    let some_r = leaves_positive r in
    let count = leaves_node l r in
    let in_l = position_in l base in
    let in_r = position_in r (right_base l base) in
    let out_l = outside l base id (inr (omega (arith, some_l))) in
    let out_r = outside r (right_base l base) id (inl (omega (arith, some_l))) in
    let q_out = outside l base q (inr (omega (arith, in_r.0))) in
    let p_out = outside r (right_base l base) p (inl (omega (arith, in_l.1))) in
    let ids = λ (i : ℕ) (e : Entry). e.id == i in
    let kids = λ (i : ℕ) (e : Entry). list_any (λ child. child == i) e.children in
    inner_line v id p q n l r ((es ++ xs) ++ ys) (omega (arith, count, some_r)) (omega (arith, in_l.1, count))
    (omega (arith, in_r.1, count))
    (none_of_two (ids id) (es ++ xs) ys
    (none_of_two (ids id) es xs (b.new id (omega (arith, some_l))) out_l.0) out_r.0)
    (found_before p (es ++ xs) ys l (found_behind p es xs (b.new p in_l.0) ∙ root_found l base))
    (found_behind q (es ++ xs) ys (none_of_two (ids q) es xs (b.new q (omega (arith, in_r.0))) q_out.0)
    ∙ root_found r (right_base l base))
    (ne_eqb p q (λ e. omega (arith, in_l.1, in_r.0)))
    (none_of_two (kids p) (es ++ xs) ys
    (none_of_two (kids p) es xs (b.free p in_l.0) (root_free l base)) p_out.1)
    (none_of_two (kids q) (es ++ xs) ys
    (none_of_two (kids q) es xs (b.free q (omega (arith, in_r.0))) q_out.1) (root_free r (right_base l base)))

-- one line that gives a node, before others
one_read : (v : ℕ) (es : List Entry) (line : TextLine) (lines : List TextLine) (e : Entry)
    → entry_of v es line ≡ Ok e
    → each_after (entry_of v) es (line ∷ lines) ≡ each_after (entry_of v) (es ++ e ∷ []) lines
one_read v es line lines e is = rw is refl

-- the lines of a tree give its nodes
pub tree_read : (v n : ℕ) (t : Tree) (base : ℕ) (es : List Entry) (rest : List TextLine) → v < 10 ^ 18
    → base + 2 * leaves t < 10 ^ 18 → IsBefore v es t base
    → each_after (entry_of v) es (numbered n (vtree_node_lines t base) ++ rest)
    ≡ each_after (entry_of v) (es ++ entries_in t base) rest
tree_read v n (Leaf x) base es rest within_limit small b =
    let own : 1 ≤ times x (x ∷ []) = omega (arith, times_same x x [] refl) in
    let range = b.in_range x own in
    one_read v es (record { number = n; words = codes "L" ∷ number_text base ∷ number_text x ∷ [] }) rest
    (root_entry (Leaf x) base)
    (leaf_line v base x n es (omega arith) (omega (arith, range.1)) (b.new base (omega arith)) range.0 range.1
    (b.leaf x own))
tree_read v n (Node l r) base es rest within_limit small b =
    let left = vtree_node_lines l base in
    let right = vtree_node_lines r (right_base l base) in
    let words : List (List ℕ) = codes "I" ∷ number_text (position (Node l r) base)
    ∷ number_text (position l base) ∷ number_text (position r (right_base l base)) ∷ [] in
    let m = n + length left in
    let k = n + length (left ++ right) in
    let last : TextLine = record { number = k; words = words } in
    let xs = entries_in l base in
    let ys = entries_in r (right_base l base) in
    let count = leaves_node l r in
    let some_r = leaves_positive r in
    let lines : numbered n ((left ++ right) ++ words ∷ []) ++ rest
    ≡ numbered n left ++ (numbered m right ++ last ∷ rest) =
    rw (numbered_append n (left ++ right) (words ∷ []), numbered_append n left right)
    (append_assoc (numbered n left ++ numbered m right) (last ∷ []) rest
    ∙ append_assoc (numbered n left) (numbered m right) (last ∷ rest)) in
    let first = tree_read v n l base es (numbered m right ++ last ∷ rest) within_limit (omega (arith, count))
    (before_left v es l r base b) in
    let second = tree_read v m r (right_base l base) (es ++ xs) (last ∷ rest) within_limit (omega (arith, count))
    (before_right v es l r base b) in
    let third = one_read v ((es ++ xs) ++ ys) last rest (root_entry (Node l r) base)
    (root_line v k es l r base b small) in
    let nodes : ((es ++ xs) ++ ys) ++ root_entry (Node l r) base ∷ []
    ≡ es ++ ((xs ++ ys) ++ root_entry (Node l r) base ∷ []) =
    ap (λ front. front ++ root_entry (Node l r) base ∷ []) (append_assoc es xs ys)
    ∙ append_assoc es (xs ++ ys) (root_entry (Node l r) base ∷ []) in
    ap (each_after (entry_of v) es) lines ∙ first ∙ second ∙ third
    ∙ ap (λ all. each_after (entry_of v) all rest) nodes
