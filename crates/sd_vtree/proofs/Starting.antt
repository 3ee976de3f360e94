-- The start vtrees are vtrees over the variables 1 to V.
use Rattle.std.proofs.Common.{◌≡◌, ℕ, zero, suc, ◌+◌, ◌-◌, ◌/◌, ◌<◌, ◌≤◌, ◌++◌, length, refl, sym, ◌∙◌, ap}
use Rattle.std.proofs.Common.{subst, inl, inr, arith, le-ltb, lt-ltb}
use Rattle.std.specs.List.{range_with_len}
use Rattle.std.proofs.lemmas.List.FromFn.{length-range_with_len}
use Rattle.std.proofs.lemmas.Bool.{cases_lt}
use Rattle.sd_model.specs.Tree.{Tree, Leaf, Node, leaves, variables, IsVtree}
use Rattle.sd_model.specs.StartTrees.{tree_by, start_tree}
use Rattle.sd_vtree.specs.Numbered.{times}
use Rattle.sd_vtree.proofs.Pigeons.{distinct_times, all_times, times_range, in_range, range_append}

-- a tree whose variables are 1 to n in order
pub vtree_in_order : (t : Tree) (n : ℕ) → variables t ≡ range_with_len 1 n → IsVtree t × (leaves t ≡ n)
vtree_in_order t n e =
    let k : leaves t ≡ n = ap length e ∙ length-range_with_len 1 n in (
      record {
        in_range = all_times (λ x. (1 ≤ x) × (x ≤ leaves t)) (variables t) (within k);
        distinct = distinct_times (variables t) (λ x. subst (λ xs. times x xs ≤ 1) (sym e) (times_range x 1 n));
      },
      k,
    )
  where
    within : leaves t ≡ n → (x : ℕ) → 1 ≤ times x (variables t) → (1 ≤ x) × (x ≤ leaves t)
    within k x h =
        let r = in_range x 1 n (subst (λ xs. 1 ≤ times x xs) e h) in
        (r.0, omega arith)

-- of two or more variables each child gets one or more
abbrev pub IsShare : (ℕ → ℕ) → Type 0
IsShare share = (m : ℕ) → 2 ≤ m → (1 ≤ share m) × (share m < m)

-- so it is in the balanced tree, in the right one and in the left one
pub half : IsShare (λ m. m / 2)
half m two = (omega arith, omega arith)

pub one : IsShare (λ m. 1)
one m two = (omega arith, omega arith)

pub all_but_one : IsShare (λ m. m - 1)
all_but_one m two = (omega arith, omega arith)

-- the height only has to be as large as the count
pub tree_small : (share : ℕ → ℕ) (h x m : ℕ) → m < 2 → tree_by share h x m ≡ Leaf x
tree_small share zero x m s = refl
tree_small share (suc h) x m s = rw (lt-ltb m 2 s) refl

tree_large : (share : ℕ → ℕ) (h x m : ℕ) → 2 ≤ m → tree_by share (suc h) x m
    ≡ Node (tree_by share h x (share m)) (tree_by share h (x + share m) (m - share m))
tree_large share h x m s = rw (le-ltb m 2 s) refl

-- all heights that are large enough give one tree
tree_height : (share : ℕ → ℕ) → IsShare share → (h k x m : ℕ) → m ≤ h → m ≤ k
    → tree_by share h x m ≡ tree_by share k x m
tree_height share is zero k x m a b = sym (tree_small share k x m (omega arith))
tree_height share is (suc h) zero x m a b = tree_small share (suc h) x m (omega arith)
tree_height share is (suc h) (suc k) x m a b = elim (cases_lt m 2) [
  | inl s ↦ tree_small share (suc h) x m s ∙ sym (tree_small share (suc k) x m s)
  | inr s ↦
      let some = is m s in
      tree_large share h x m s
      ∙ (ap (λ l. Node l (tree_by share h (x + share m) (m - share m)))
      (tree_height share is h k x (share m) (omega (arith, some.1)) (omega (arith, some.1)))
      ∙ (ap (λ r. Node (tree_by share k x (share m)) r)
      (tree_height share is h k (x + share m) (m - share m) (omega (arith, some.0)) (omega (arith, some.0)))
      ∙ sym (tree_large share k x m s)))
]

-- one step, each part with its own count for a height
pub tree_step : (share : ℕ → ℕ) → IsShare share → (x m : ℕ) → 2 ≤ m
    → Node (tree_by share (share m) x (share m)) (tree_by share (m - share m) (x + share m) (m - share m))
    ≡ tree_by share m x m
tree_step share is x zero s = absurd (omega arith)
tree_step share is x (suc h) s =
    let n = share (suc h) in
    let some = is (suc h) s in
    ap (λ l. Node l (tree_by share (suc h - n) (x + n) (suc h - n)))
    (tree_height share is n h x n (omega arith) (omega (arith, some.1)))
    ∙ (ap (λ r. Node (tree_by share h x n) r)
    (tree_height share is (suc h - n) h (x + n) (suc h - n) (omega arith) (omega (arith, some.0)))
    ∙ sym (tree_large share h x (suc h) s))

-- the variables, in order
variables_by : (share : ℕ → ℕ) → IsShare share → (h x m : ℕ) → 1 ≤ m → m ≤ h
    → variables (tree_by share h x m) ≡ range_with_len x m
variables_by share is zero x m p s = absurd (omega arith)
variables_by share is (suc h) x m p s = elim (cases_lt m 2) [
  | inl w ↦
      ap variables (tree_small share (suc h) x m w) ∙ ap (range_with_len x) (let e : 1 ≡ m = omega arith in e)
  | inr w ↦
      let n = share m in
      let some = is m w in
      ap variables (tree_large share h x m w)
      ∙ (ap (λ xs. xs ++ variables (tree_by share h (x + n) (m - n)))
      (variables_by share is h x n some.0 (omega (arith, some.1)))
      ∙ (ap (λ xs. range_with_len x n ++ xs)
      (variables_by share is h (x + n) (m - n) (omega (arith, some.1)) (omega (arith, some.0)))
      ∙ (sym (range_append x n (m - n))
      ∙ ap (range_with_len x) (let e : n + (m - n) ≡ m = omega (arith, some.1) in e))))
]

pub variables_start : (share : ℕ → ℕ) → IsShare share → (v : ℕ) → 1 ≤ v
    → variables (start_tree share v) ≡ range_with_len 1 v
variables_start share is v some = variables_by share is v 1 v some (omega arith)
