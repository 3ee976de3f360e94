-- The roots, and the variables that have no leaf, as the reader goes through them.
use Rattle.std.proofs.Common.{◌≡◌, ℕ, zero, suc, ◌+◌, ◌-◌, ◌<◌, ◌≤◌, Bool, true, false, not}
use Rattle.std.proofs.Common.{List, [], ◌∷◌, ◌++◌, length, take, get_or, filter, Ok, Err, refl, sym, ap, ◌∙◌}
use Rattle.std.proofs.Common.{arith, append-nil, length-append}
use Rattle.std.specs.Prelude.{Option, find}
use Rattle.std.specs.List.{range_with_len}
use Rattle.std.proofs.lemmas.List.{take_all}
use Rattle.std.proofs.lemmas.List.Elements.{filter_more}
use Rattle.sd_vfile.specs.declared.fault.VtreeFault.TheVariants.{NotOneRoot, VariableMissing}
use Rattle.sd_vfile.specs.Reads.{Entry, is_child, has_leaf, roots_of, one_root, none_missing, vtree_fault_text}
use Rattle.sd_vfile.specs.Steps.{no_entry, entry_tree}

-- a node is a root
abbrev pub is_root : List Entry → Entry → Bool
is_root es e = not (is_child e.id es)

-- the roots among the first nodes: how many, and which is the last
pub record RootsTo (es : List Entry) (index roots root : ℕ) : Type 0 where
  pub count : length (filter (is_root es) (take index es)) ≡ roots
  pub one : roots ≡ 1 → filter (is_root es) (take index es) ≡ get_or es root no_entry ∷ []
  pub before : 1 ≤ roots → root < length es
  pub within_limit : roots ≤ index

-- none among no nodes
pub roots_none : (es : List Entry) → RootsTo es 0 0 0
roots_none es = record {
  count = refl;
  one = λ h. absurd (omega arith);
  before = λ h. absurd (omega arith);
  within_limit = omega arith;
}

-- one more node that is a root
pub roots_yes : (es : List Entry) (p n q : ℕ) → RootsTo es p n q → p < length es
    → is_child (get_or es p no_entry).id es ≡ false → RootsTo es (p + 1) (n + 1) p
roots_yes es p n q so_far h root =
    let more : filter (is_root es) (take (p + 1) es) ≡ filter (is_root es) (take p es) ++ get_or es p no_entry ∷ [] =
    filter_more (is_root es) es p no_entry h ∙ rw root refl in
    record {
      count = ap length more
          ∙ length-append (filter (is_root es) (take p es)) (get_or es p no_entry ∷ [])
          ∙ ap (λ k. k + 1) so_far.count;
      one = λ e. more ∙ ap (λ front. front ++ get_or es p no_entry ∷ [])
          (empty (filter (is_root es) (take p es)) (so_far.count ∙ (let z : n ≡ 0 = omega arith in z)));
      before = λ e. h;
      within_limit = omega (arith, so_far.within_limit);
    }
  where
    empty : (xs : List Entry) → length xs ≡ 0 → xs ≡ []
    empty [] e = refl
    empty (x ∷ xs) e = absurd (omega arith)

-- one more node that is none
pub roots_no : (es : List Entry) (p n q : ℕ) → RootsTo es p n q → p < length es
    → is_child (get_or es p no_entry).id es ≡ true → RootsTo es (p + 1) n q
roots_no es p n q so_far h child =
    let more : filter (is_root es) (take (p + 1) es) ≡ filter (is_root es) (take p es) =
    filter_more (is_root es) es p no_entry h ∙ rw child (append-nil (filter (is_root es) (take p es))) in
    record {
      count = ap length more ∙ so_far.count;
      one = λ e. more ∙ so_far.one e;
      before = so_far.before;
      within_limit = omega (arith, so_far.within_limit);
    }

-- all nodes
all_roots : (es : List Entry) (p : ℕ) → length es ≤ p → filter (is_root es) (take p es) ≡ roots_of es
all_roots es p h = ap (filter (is_root es)) (take_all p es h)

-- there was one root
pub root_is : (es : List Entry) (p n q : ℕ) → RootsTo es p n q → length es ≤ p → n ≡ 1
    → one_root (roots_of es) ≡ Ok (entry_tree es q)
root_is es p n q so_far h one = ap one_root (sym (all_roots es p h) ∙ so_far.one one)

-- there was none, or several
pub roots_are : (es : List Entry) (p n q : ℕ) → RootsTo es p n q → length es ≤ p → (n ≡ 1 → ⊥)
    → one_root (roots_of es) ≡ Err (vtree_fault_text (NotOneRoot n))
roots_are es p n q so_far h several =
    go (roots_of es) (ap length (sym (all_roots es p h)) ∙ so_far.count)
  where
    go : (roots : List Entry) → length roots ≡ n → one_root roots ≡ Err (vtree_fault_text (NotOneRoot n))
    go [] e = ap (λ k. Err (vtree_fault_text (NotOneRoot k))) e
    go (root ∷ []) e = absurd (several (sym e))
    go (root ∷ other ∷ roots) e = ap (λ k. Err (vtree_fault_text (NotOneRoot k))) e

-- ---- variables

-- the first that is missing from a variable on
abbrev pub missing_from : List Entry → ℕ → ℕ → Option ℕ
missing_from es x v = find (λ y. not (has_leaf y es)) (range_with_len x (v + 1 - x))

range_step : (x n : ℕ) → 0 < n → range_with_len x n ≡ x ∷ range_with_len (x + 1) (n - 1)
range_step x zero h = absurd (omega arith)
range_step x (suc n) h = let e : n ≡ suc n - 1 = omega arith in ap (λ k. x ∷ range_with_len (x + 1) k) e

-- a variable that has a leaf
pub leaf_there : (es : List Entry) (x v : ℕ) → x ≤ v → has_leaf x es ≡ true
    → missing_from es x v ≡ missing_from es (x + 1) v
leaf_there es x v h there =
    let step = range_step x (v + 1 - x) (omega arith) in
    let same : v + 1 - x - 1 ≡ v + 1 - (x + 1) = omega arith in
    rw (step, there, same) refl

-- a variable that has none
pub leaf_gone : (es : List Entry) (x v : ℕ) → x ≤ v → has_leaf x es ≡ false
    → none_missing (missing_from es x v) ≡ Err (vtree_fault_text (VariableMissing x))
leaf_gone es x v h gone =
    let step = range_step x (v + 1 - x) (omega arith) in
    rw (step, gone) refl
