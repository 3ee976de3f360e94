-- The text of a vtree is read back as the vtree.
use Rattle.std.proofs.Common.{◌≡◌, ℕ, zero, suc, ◌+◌, ◌-◌, ◌*◌, ◌^◌, ◌<◌, ◌≤◌, Bool, true, not}
use Rattle.std.proofs.Common.{List, [], ◌∷◌, ◌++◌, length, None, Ok, refl, sym, ap, ◌∙◌, arith}
use Rattle.std.proofs.Common.{eq-eqb, append-nil}
use Rattle.std.specs.Prelude.{codes, find}
use Rattle.std.specs.List.{AllByRecursion, range_with_len, flat_map}
use Rattle.sd_base.specs.Reading.{each_after}
use Rattle.sd_model.specs.Text.{number_text, line_text, vtree_node_lines, vtree_text}
use Rattle.sd_model.specs.Tree.{Tree, Leaf, Node, variables, leaves, right_base, position, IsVtree}
use Rattle.sd_vtree.specs.Numbered.{times}
use Rattle.sd_vtree.proofs.Building.{leaves_positive, leaves_node}
use Rattle.sd_vtree.proofs.Pigeons.{times_distinct, has_variable, variable_in_range}
use Rattle.sd_vtree.proofs.Times.{times_append, times_same}
use Rattle.sd_model.proofs.PlainTexts.{vtree_text_plain}
use Rattle.sd_vfile.specs.Reads.{is_child, has_leaf}
use Rattle.sd_vfile.specs.Reads.{entry_of, missing}
use Rattle.sd_vfile.specs.Reads.{roots_of, vtree_file}
use Rattle.sd_vfile.specs.Steps.{whole_tree, tree_of_lines}
use Rattle.sd_vfile.proofs.ByLines.{vtree_file_is}
use Rattle.sd_vfile.proofs.Texts.{IsTextLine, IsFullWord, numbered, full_number, natural_back, text_back}
use Rattle.sd_vfile.proofs.Written.{root_entry, entries_in, position_in, root_free}
use Rattle.sd_vfile.proofs.Written.{a_leaf}
use Rattle.sd_vfile.proofs.WrittenNodes.{length_entries_in, root_kept}
use Rattle.sd_vfile.proofs.TreeRead.{IsBefore, tree_read}

-- the lines of a tree are lines of words
tree_lines : (t : Tree) (base : ℕ) → base + 2 * leaves t < 10 ^ 18 → ((x : ℕ) → 1 ≤ times x (variables t) → x < 10 ^ 18)
    → AllByRecursion (IsTextLine 99) (vtree_node_lines t base)
tree_lines (Leaf x) base small within_limit =
    let letter : IsFullWord (76 ∷ []) = record { bytes = (omega arith, tt); filled = refl } in
    let variable = full_number x (within_limit x (omega (arith, times_same x x [] refl))) in
    (record { words = (letter, (full_number base (omega arith), (variable, tt))); not_blank = refl; plain = refl }, tt)
tree_lines (Node l r) base small within_limit =
    let letter : IsFullWord (73 ∷ []) = record { bytes = (omega arith, tt); filled = refl } in
    let more = λ (x : ℕ). times_append x (variables l) (variables r) in
    let count = leaves_node l r in
    let some_r = leaves_positive r in
    let in_l = position_in l base in
    let in_r = position_in r (right_base l base) in
    let own : IsTextLine 99 (codes "I" ∷ number_text (position (Node l r) base)
    ∷ number_text (position l base) ∷ number_text (position r (right_base l base)) ∷ []) =
    record {
      words = (
        letter,
        (
          full_number (position (Node l r) base) (omega (arith, count, some_r)),
          (
            full_number (position l base) (omega (arith, in_l.1, count)),
            (full_number (position r (right_base l base)) (omega (arith, in_r.1, count)), tt),
          ),
        ),
      );
      not_blank = refl;
      plain = refl;
    } in
    let left = tree_lines l base (omega (arith, count)) (λ x h. within_limit x (omega (arith, more x))) in
    let right = tree_lines r (right_base l base) (omega (arith, count))
    (λ x h. within_limit x (omega (arith, more x))) in
    both _ _ (both _ _ left right) (own, tt)
  where
    both : (xs ys : List (List (List ℕ))) → AllByRecursion (IsTextLine 99) xs → AllByRecursion (IsTextLine 99) ys
        → AllByRecursion (IsTextLine 99) (xs ++ ys)
    both [] ys a b = b
    both (x ∷ xs) ys a b = (a.0, both xs ys a.1 b)

-- where each number of a range passes a test none is left out
none_left : (p : ℕ → Bool) (a n : ℕ) → ((x : ℕ) → a ≤ x → x < a + n → p x ≡ true)
    → find (λ x. not (p x)) (range_with_len a n) ≡ None
none_left p a zero h = refl
none_left p a (suc n) h =
    rw (h a (omega arith) (omega arith)) (none_left p (a + 1) n (λ x low high. h x (omega arith) (omega arith)))

-- the nodes of a vtree give it
whole_back : (t : Tree) → IsVtree t → whole_tree (leaves t) (2 * leaves t - 1) (entries_in t 0) ≡ Ok t
whole_back t vtree =
    let nodes = entries_in t 0 in
    let count : (2 * leaves t - 1) ≡ length nodes = omega (arith, length_entries_in t 0) in
    let roots : roots_of nodes ≡ root_entry t 0 ∷ [] =
    root_kept t 0 (λ i. is_child i nodes) (λ i h. h) (root_free t 0) in
    let full : missing (leaves t) nodes ≡ None =
    none_left (λ x. has_leaf x nodes) 1 (leaves t)
    (λ x low high. a_leaf t 0 x (has_variable t vtree x low (omega arith))) in
    rw (eq-eqb (2 * leaves t - 1) (length nodes) count, roots, full) (ap Ok (root_tree t))
  where
    root_tree : (s : Tree) → (root_entry s 0).tree ≡ s
    root_tree (Leaf x) = refl
    root_tree (Node l r) = refl

-- the text of a vtree over at most 1,024 variables is read back as the vtree
pub read_back : (t : Tree) → IsVtree t → leaves t ≤ 1024 → vtree_file (leaves t) (vtree_text t) ≡ Ok t
read_back t vtree within_limit =
    let some = leaves_positive t in
    let v = leaves t in
    let stated = 2 * leaves t - 1 in
    let header : List (List ℕ) = codes "vtree" ∷ number_text stated ∷ [] in
    let lines = vtree_node_lines t 0 in
    let range = λ (x : ℕ) (h : 1 ≤ times x (variables t)). variable_in_range t vtree x h in
    let name : IsFullWord (codes "vtree") =
    record { bytes = (omega arith, (omega arith, (omega arith, (omega arith, (omega arith, tt))))); filled = refl } in
    let head : IsTextLine 99 header =
    record { words = (name, (full_number stated (omega arith), tt)); not_blank = refl; plain = refl } in
    let body = tree_lines t 0 (omega arith) (λ x h. (let high = (range x h).1 in omega arith)) in
    let begins : IsBefore v [] t 0 = record {
      new = λ i h. refl;
      free = λ i h. refl;
      leaf = λ x h. refl;
      once = times_distinct (variables t) vtree.distinct;
      in_range = range;
    } in
    let read : each_after (entry_of v) [] (numbered 2 lines) ≡ Ok (entries_in t 0) =
    ap (each_after (entry_of v) []) (sym (append-nil (numbered 2 lines)))
    ∙ tree_read v 2 t 0 [] [] (omega arith) (omega arith) begins in
    ap (vtree_file v) (vtree_text_plain t)
    ∙ vtree_file_is v (flat_map line_text (header ∷ lines))
    ∙ ap (tree_of_lines v) (text_back 99 (header ∷ lines) (head, body))
    ∙ rw (natural_back stated (omega arith), read) (whole_back t vtree)
