-- A tree that was read is a vtree over the variables 1 to v.
use Rattle.std.proofs.Common.{◌≡◌, ℕ, zero, suc, ◌+◌, ◌<◌, ◌≤◌, Bool, true, false, not, ◌==◌, cond}
use Rattle.std.proofs.Common.{List, [], ◌∷◌, length, filter, Option, Some, None, Result, Ok, Err}
use Rattle.std.proofs.Common.{refl, sym, ap, ◌∙◌, subst, arith, inl, inr}
use Rattle.std.specs.Prelude.{find, ok_or}
use Rattle.std.specs.List.{range_with_len, AllByRecursion}
use Rattle.std.proofs.lemmas.Bool.{cases_Bool, cases_eq}
use Rattle.sd_base.specs.Lines.{TextLine, content_of}
use Rattle.sd_base.specs.Reading.{◌>>=◌, ◌>>◌, each_after}
use Rattle.sd_model.specs.Tree.{Tree, variables, leaves, IsVtree}
use Rattle.sd_vtree.specs.Numbered.{times}
use Rattle.sd_vtree.proofs.Times.{times_same, times_other}
use Rattle.sd_vtree.proofs.Pigeons.{distinct_times, all_times}
use Rattle.sd_vfile.specs.declared.fault.VtreeFault.TheVariants.{NoHeader}
use Rattle.sd_vfile.specs.Reads.{Entry, is_child, has_leaf, missing, none_missing, roots_of, one_root}
use Rattle.sd_vfile.specs.Steps.{whole_tree}
use Rattle.sd_vfile.specs.Reads.{entry_of, vtree_fault_text, vtree_file}
use Rattle.sd_vfile.specs.Steps.{stated_by, tree_of_lines}
use Rattle.sd_vfile.proofs.Forests.{leaf_count, below, leaf_none, leaf_some}
use Rattle.sd_vfile.proofs.ByLines.{vtree_file_is}
use Rattle.sd_vfile.proofs.AreRead.{AreRead, none_read}
use Rattle.sd_vfile.proofs.OneMore.{read_one_more}
use Rattle.sd_vfile.proofs.Placed.{through, past, done, read_keeps}

-- how often a variable stands in trees
tally : ℕ → List Entry → ℕ
tally x [] = 0
tally x (e ∷ es) = times x (variables e.tree) + tally x es

-- below the nodes that pass no test is below those that a filter keeps
below_filter : (test : ℕ → Bool) (x : ℕ) (es : List Entry)
    → below test x es ≡ tally x (filter (λ e. not (test e.id)) es)
unfolding tally
below_filter test x [] = refl
below_filter test x (e ∷ es) = go (test e.id) (below_filter test x es)
  where
    go : (b : Bool) → below test x es ≡ tally x (filter (λ d. not (test d.id)) es)
        → cond b 0 (times x (variables e.tree)) + below test x es
        ≡ tally x (cond (not b) (e ∷ filter (λ d. not (test d.id)) es) (filter (λ d. not (test d.id)) es))
    go true rest = omega (arith, rest)
    go false rest = omega (arith, rest)

-- one root that was found stands for all of them
one_tally : (x : ℕ) (roots : List Entry) (t : Tree) → one_root roots ≡ Ok t → tally x roots ≡ times x (variables t)
unfolding tally
one_tally x [] t e = cc
one_tally x (root ∷ []) t e =
    let same : done root.tree ≡ done t = e in
    let is : root.tree ≡ t = cc in
    let here = ap (λ (r : Tree). times x (variables r)) is in
    omega (arith, here)
one_tally x (root ∷ other ∷ roots) t e = cc

-- where nothing is missing none was found
nothing_missing : (found : Option ℕ) → none_missing found ≡ Ok tt → found ≡ None
nothing_missing None e = refl
nothing_missing (Some x) e = cc

-- and each variable of the range has a leaf
each_there : (p : ℕ → Bool) (a n x : ℕ) → find (λ y. not (p y)) (range_with_len a n) ≡ None → a ≤ x → x < a + n
    → p x ≡ true
each_there p a zero x e low high = absurd (omega arith)
each_there p a (suc n) x e low high =
    go (p a) refl e (each_there p (a + 1) n x)
  where
    go : (b : Bool) → p a ≡ b
        → cond (not b) (Some a) (find (λ y. not (p y)) (range_with_len (a + 1) n)) ≡ None
        → (find (λ y. not (p y)) (range_with_len (a + 1) n) ≡ None → a + 1 ≤ x → x < a + 1 + n → p x ≡ true)
        → p x ≡ true
    go false is e later = cc
    go true is e later = elim (cases_eq a x) [
      | inl same ↦ subst (λ y. p y ≡ true) same is
      | inr other ↦ later e (omega (arith, other)) (omega arith)
    ]

-- ---- lists in which each of the numbers 1 to n stands once

-- how often they stand there together
times_to : ℕ → List ℕ → ℕ
times_to zero xs = 0
times_to (suc n) xs = times_to n xs + times (suc n) xs

times_to_nil : (n : ℕ) → times_to n [] ≡ 0
unfolding times_to
times_to_nil zero = refl
times_to_nil (suc n) = omega (arith, times_to_nil n)

times_to_past : (n x : ℕ) (xs : List ℕ) → n < x → times_to n (x ∷ xs) ≡ times_to n xs
unfolding times_to
times_to_past zero x xs h = refl
times_to_past (suc n) x xs h =
    let apart : x ≡ suc n → ⊥ = λ e. omega arith in
    omega (arith, times_to_past n x xs (omega arith), times_other (suc n) x xs apart)

times_to_within : (n x : ℕ) (xs : List ℕ) → 1 ≤ x → x ≤ n → times_to n (x ∷ xs) ≡ 1 + times_to n xs
unfolding times_to
times_to_within zero x xs low high = absurd (omega arith)
times_to_within (suc n) x xs low high = elim (cases_eq x (suc n)) [
  | inl e ↦ omega (arith, times_to_past n x xs (omega arith), times_same (suc n) x xs e)
  | inr d ↦ omega (arith, times_to_within n x xs low (omega arith), times_other (suc n) x xs d)
]

-- a list of such numbers alone
times_to_length : (n : ℕ) (xs : List ℕ) → AllByRecursion (λ x. (1 ≤ x) × (x ≤ n)) xs → times_to n xs ≡ length xs
times_to_length n [] all = times_to_nil n
times_to_length n (x ∷ xs) all = omega (arith, times_to_length n xs all.1, times_to_within n x xs all.0.0 all.0.1)

-- each once
times_to_once : (n : ℕ) (xs : List ℕ) → ((x : ℕ) → 1 ≤ x → x ≤ n → times x xs ≡ 1) → times_to n xs ≡ n
unfolding times_to
times_to_once zero xs once = refl
times_to_once (suc n) xs once =
    omega (arith, times_to_once n xs (λ x low high. once x low (omega arith)), once (suc n) (omega arith) (omega arith))

-- ---- the tree

-- each variable stands as often below the one root as it has leaves
times_in_tree : (v : ℕ) (es : List Entry) (t : Tree) (x : ℕ) → AreRead v es → one_root (roots_of es) ≡ Ok t
    → times x (variables t) ≡ leaf_count x es
times_in_tree v es t x read root =
    sym (one_tally x (roots_of es) t root) ∙ sym (below_filter (λ i. is_child i es) x es) ∙ read.account x

-- a vtree over so many variables
pub record IsVtreeOver (v : ℕ) (t : Tree) : Type 0 where
  pub vtree : IsVtree t
  pub count : leaves t ≡ v

-- the tree of lines without a fault is one
tree_over : (v : ℕ) (es : List Entry) (t : Tree) → AreRead v es → one_root (roots_of es) ≡ Ok t
    → none_missing (missing v es) ≡ Ok tt → IsVtreeOver v t
tree_over v es t read root full =
    let same : (x : ℕ) → times x (variables t) ≡ leaf_count x es = λ x. times_in_tree v es t x read root in
    let within_limit : (x : ℕ) → times x (variables t) ≤ 1 = λ x. omega (arith, same x, read.leaf_once x) in
    let ranged : (x : ℕ) → 1 ≤ times x (variables t) → (1 ≤ x) × (x ≤ v) = λ x h. within x h (same x) in
    let all = all_times (λ x. (1 ≤ x) × (x ≤ v)) (variables t) ranged in
    let once : (x : ℕ) → 1 ≤ x → x ≤ v → times x (variables t) ≡ 1 =
    λ x low high. omega (arith, same x, read.leaf_once x, leaf_some x es (there x low high)) in
    let count : leaves t ≡ v = sym (times_to_length v (variables t) all) ∙ times_to_once v (variables t) once in
    record {
      vtree = record {
        in_range = subst (λ n. AllByRecursion (λ x. (1 ≤ x) × (x ≤ n)) (variables t)) (sym count) all;
        distinct = distinct_times (variables t) within_limit;
      };
      count = count;
    }
  where
    within : (x : ℕ) → 1 ≤ times x (variables t) → times x (variables t) ≡ leaf_count x es → (1 ≤ x) × (x ≤ v)
    within x h e = elim (cases_Bool (has_leaf x es)) [
      | inl leaf ↦ read.in_range x leaf
      | inr other ↦ absurd (omega (arith, leaf_none x es other))
    ]

    there : (x : ℕ) → 1 ≤ x → x ≤ v → has_leaf x es ≡ true
    there x low high =
        each_there (λ y. has_leaf y es) 1 v x (nothing_missing (missing v es) full) low (omega arith)

-- so is that of a count of lines
whole_over : (v stated : ℕ) (es : List Entry) (t : Tree) → AreRead v es → whole_tree v stated es ≡ Ok t
    → IsVtreeOver v t
whole_over v stated es t read e =
    let differs = not (stated == length es) in
    let rest = λ (tree : Tree). none_missing (missing v es) >> done tree in
    let first = past differs _ (one_root (roots_of es) >>= rest) t e in
    let second = through (one_root (roots_of es)) rest t first.1 in
    over second.middle second.gave (none_missing (missing v es)) refl second.led
  where
    over : (tree : Tree) → one_root (roots_of es) ≡ Ok tree → (r : Result (Unit {0}) (List ℕ))
        → r ≡ none_missing (missing v es) → (r >> done tree) ≡ Ok t → IsVtreeOver v t
    over tree root (Ok tt) is e =
        let same : done tree ≡ done t = e in
        let tree_is : tree ≡ t = cc in
        subst (IsVtreeOver v) tree_is (tree_over v es tree read root (sym is))
    over tree root (Err fault) is e = cc

-- lines without a fault are known
pub lines_read : (v : ℕ) (lines : List TextLine) (es : List Entry) → each_after (entry_of v) [] lines ≡ Ok es
    → AreRead v es
lines_read v lines es e = read_keeps v (AreRead v) (λ ds d. read_one_more v ds d) [] lines es e (none_read v)

accepted_lines : (v : ℕ) (content : List TextLine) (t : Tree) → tree_of_lines v content ≡ Ok t → IsVtreeOver v t
accepted_lines v [] t e = cc
accepted_lines v (header ∷ lines) t e =
    let rest = λ (stated : ℕ). each_after (entry_of v) [] lines >>= λ es. whole_tree v stated es in
    let first = through (ok_or (stated_by header.words) (vtree_fault_text NoHeader)) rest t e in
    let second = through (each_after (entry_of v) [] lines) (λ es. whole_tree v first.middle es) t first.led in
    whole_over v first.middle second.middle t (lines_read v lines second.middle second.gave) second.led

-- the tree of a text without a fault is a vtree over the variables asked for
pub accepted : (v : ℕ) (bytes : List ℕ) (t : Tree) → vtree_file v bytes ≡ Ok t → IsVtreeOver v t
accepted v bytes t e = accepted_lines v (content_of 99 bytes) t (sym (vtree_file_is v bytes) ∙ e)
