-- All nodes of a written tree: how many there are, and that its root alone is no child.
use Rattle.std.proofs.Common.{◌≡◌, ℕ, ◌+◌, ◌*◌, Bool, true, false, not, ◌||◌, ◌==◌}
use Rattle.std.proofs.Common.{List, [], ◌∷◌, ◌++◌, length, filter, refl, arith}
use Rattle.std.proofs.Common.{eq-eqb, length-append}
use Rattle.std.specs.List.{list_any}
use Rattle.std.proofs.lemmas.List.Folds.{list_any-append}
use Rattle.std.proofs.lemmas.List.Elements.{filter-append}
use Rattle.sd_model.specs.Tree.{Tree, Leaf, Node, leaves, right_base, position}
use Rattle.sd_vfile.specs.Reads.{Entry, is_child}
use Rattle.sd_vtree.proofs.Building.{leaves_node}
use Rattle.sd_vfile.proofs.Forests.{or_true}
use Rattle.sd_vfile.proofs.Written.{root_entry, entries_in}

-- as many as the header states
pub length_entries_in : (t : Tree) (base : ℕ) → length (entries_in t base) + 1 ≡ 2 * leaves t
length_entries_in (Leaf x) base = refl
length_entries_in (Node l r) base =
    let left = entries_in l base in
    let right = entries_in r (right_base l base) in
    omega (
      arith,
      length-append (left ++ right) (root_entry (Node l r) base ∷ []),
      length-append left right,
      length_entries_in l base,
      length_entries_in r (right_base l base),
      leaves_node l r,
    )

-- a test that each child passes
abbrev pub AllPass : (ℕ → Bool) → List Entry → Type 0
AllPass test es = (i : ℕ) → is_child i es ≡ true → test i ≡ true

-- the children of a part are children
child_in_left : (i : ℕ) (xs ys : List Entry) (e : Entry) → is_child i xs ≡ true
    → is_child i ((xs ++ ys) ++ e ∷ []) ≡ true
child_in_left i xs ys e h =
    let p : Entry → Bool = λ d. list_any (λ child. child == i) d.children in
    rw (list_any-append p (xs ++ ys) (e ∷ []), list_any-append p xs ys, h) refl

child_in_right : (i : ℕ) (xs ys : List Entry) (e : Entry) → is_child i ys ≡ true
    → is_child i ((xs ++ ys) ++ e ∷ []) ≡ true
child_in_right i xs ys e h =
    let p : Entry → Bool = λ d. list_any (λ child. child == i) d.children in
    rw (list_any-append p (xs ++ ys) (e ∷ []), list_any-append p xs ys, h) (go (is_child i xs))
  where
    go : (a : Bool) → ((a || true) || (list_any (λ child. child == i) e.children || false)) ≡ true
    go true = refl
    go false = refl

child_in_last : (i : ℕ) (xs : List Entry) (e : Entry) → list_any (λ child. child == i) e.children ≡ true
    → is_child i (xs ++ e ∷ []) ≡ true
child_in_last i xs e h =
    let p : Entry → Bool = λ d. list_any (λ child. child == i) d.children in
    rw (list_any-append p xs (e ∷ []), h) (go (is_child i xs))
  where
    go : (a : Bool) → (a || true) ≡ true
    go true = refl
    go false = refl

-- what the children of a node's tree pass, those of its parts do, and its own two
record Parts (l r : Tree) (base : ℕ) (test : ℕ → Bool) : Type 0 where
  left : AllPass test (entries_in l base)
  right : AllPass test (entries_in r (right_base l base))
  left_root : test (position l base) ≡ true
  right_root : test (position r (right_base l base)) ≡ true

parts : (l r : Tree) (base : ℕ) (test : ℕ → Bool) → AllPass test (entries_in (Node l r) base) → Parts l r base test
parts l r base test all =
    let xs = entries_in l base in
    let ys = entries_in r (right_base l base) in
    let e = root_entry (Node l r) base in
    let p = position l base in
    let q = position r (right_base l base) in
    record {
      left = λ i h. all i (child_in_left i xs ys e h);
      right = λ i h. all i (child_in_right i xs ys e h);
      left_root = all p (child_in_last p (xs ++ ys) e (rw (eq-eqb p p refl) refl));
      right_root = all q (child_in_last q (xs ++ ys) e (rw (eq-eqb q q refl) (or_true (p == q))));
    }

-- where the children and the root pass, no node is kept
none_kept : (t : Tree) (base : ℕ) (test : ℕ → Bool) → AllPass test (entries_in t base)
    → test (position t base) ≡ true → filter (λ e. not (test e.id)) (entries_in t base) ≡ []
none_kept (Leaf x) base test all root = rw root refl
none_kept (Node l r) base test all root =
    let keep : Entry → Bool = λ e. not (test e.id) in
    let xs = entries_in l base in
    let ys = entries_in r (right_base l base) in
    let p = parts l r base test all in
    let left = none_kept l base test p.left p.left_root in
    let right = none_kept r (right_base l base) test p.right p.right_root in
    rw (filter-append keep (xs ++ ys) (root_entry (Node l r) base ∷ []), filter-append keep xs ys, left, right, root)
    refl

-- where the children pass and the root does not, the root is kept
pub root_kept : (t : Tree) (base : ℕ) (test : ℕ → Bool) → AllPass test (entries_in t base)
    → test (position t base) ≡ false → filter (λ e. not (test e.id)) (entries_in t base) ≡ root_entry t base ∷ []
root_kept (Leaf x) base test all root = rw root refl
root_kept (Node l r) base test all root =
    let keep : Entry → Bool = λ e. not (test e.id) in
    let xs = entries_in l base in
    let ys = entries_in r (right_base l base) in
    let p = parts l r base test all in
    let left = none_kept l base test p.left p.left_root in
    let right = none_kept r (right_base l base) test p.right p.right_root in
    rw (filter-append keep (xs ++ ys) (root_entry (Node l r) base ∷ []), filter-append keep xs ys, left, right, root)
    refl
