-- What is known of the node lines that were read: they are a forest in which each leaf's variable stands once.
use Rattle.std.proofs.Common.{◌≡◌, ℕ, ◌+◌, ◌≤◌, Bool, true, false, ◌||◌, ◌==◌, cond}
use Rattle.std.proofs.Common.{List, [], ◌∷◌, ◌++◌, refl, sym, ap, subst, arith}
use Rattle.std.proofs.Common.{Some, inl, inr, eq-eqb, ne_eqb}
use Rattle.std.proofs.lemmas.Bool.{cases_Bool, cases_eq}
use Rattle.sd_model.specs.Tree.{Tree, variables}
use Rattle.sd_vtree.specs.Numbered.{times}
use Rattle.sd_vfile.specs.Reads.{Entry, tree_with_id, has_id, is_leaf, has_leaf}
use Rattle.sd_vfile.proofs.Growing.{tree_at_none}

-- ---- counts of nodes

-- one where a test holds
abbrev pub bit : Bool → ℕ
bit b = cond b 1 0

-- how many nodes have an id
abbrev pub ids : ℕ → List Entry → ℕ
ids id [] = 0
ids id (e ∷ es) = bit (e.id == id) + ids id es

-- how many nodes are the leaf of a variable
abbrev pub leaf_count : ℕ → List Entry → ℕ
leaf_count x [] = 0
leaf_count x (e ∷ es) = bit (is_leaf x e.tree) + leaf_count x es

-- how often a variable stands below the nodes whose ids pass no test
abbrev pub below : (ℕ → Bool) → ℕ → List Entry → ℕ
below test x [] = 0
below test x (e ∷ es) = cond (test e.id) 0 (times x (variables e.tree)) + below test x es

-- one more node adds its own count
pub ids_push : (id : ℕ) (es : List Entry) (e : Entry) → ids id (es ++ e ∷ []) ≡ ids id es + bit (e.id == id)
ids_push id [] e = omega arith
ids_push id (d ∷ es) e = omega (arith, ids_push id es e)

pub leaf_count_push : (x : ℕ) (es : List Entry) (e : Entry)
    → leaf_count x (es ++ e ∷ []) ≡ leaf_count x es + bit (is_leaf x e.tree)
leaf_count_push x [] e = omega arith
leaf_count_push x (d ∷ es) e = omega (arith, leaf_count_push x es e)

pub below_push : (test : ℕ → Bool) (x : ℕ) (es : List Entry) (e : Entry)
    → below test x (es ++ e ∷ []) ≡ below test x es + cond (test e.id) 0 (times x (variables e.tree))
below_push test x [] e = omega arith
below_push test x (d ∷ es) e = omega (arith, below_push test x es e)

-- none is counted that is not there
pub ids_none : (id : ℕ) (es : List Entry) → has_id id es ≡ false → ids id es ≡ 0
ids_none id [] h = refl
ids_none id (e ∷ es) h = go (e.id == id) h (ids_none id es)
  where
    go : (b : Bool) → (b || has_id id es) ≡ false → (has_id id es ≡ false → ids id es ≡ 0) → bit b + ids id es ≡ 0
    go true h later = cc
    go false h later = let z = later h in omega arith

-- and no count, no node
ids_zero : (id : ℕ) (es : List Entry) → ids id es ≡ 0 → has_id id es ≡ false
ids_zero id [] h = refl
ids_zero id (e ∷ es) h = go (e.id == id) h (ids_zero id es)
  where
    go : (b : Bool) → bit b + ids id es ≡ 0 → (ids id es ≡ 0 → has_id id es ≡ false) → (b || has_id id es) ≡ false
    go true h later = absurd (omega arith)
    go false h later = later (omega arith)

pub leaf_none : (x : ℕ) (es : List Entry) → has_leaf x es ≡ false → leaf_count x es ≡ 0
leaf_none x [] h = refl
leaf_none x (e ∷ es) h = go (is_leaf x e.tree) h (leaf_none x es)
  where
    go : (b : Bool) → (b || has_leaf x es) ≡ false → (has_leaf x es ≡ false → leaf_count x es ≡ 0)
        → bit b + leaf_count x es ≡ 0
    go true h later = cc
    go false h later = let z = later h in omega arith

-- a variable that has a leaf is counted
pub leaf_some : (x : ℕ) (es : List Entry) → has_leaf x es ≡ true → 1 ≤ leaf_count x es
leaf_some x [] h = cc
leaf_some x (e ∷ es) h = go (is_leaf x e.tree) h (leaf_some x es)
  where
    go : (b : Bool) → (b || has_leaf x es) ≡ true → (has_leaf x es ≡ true → 1 ≤ leaf_count x es)
        → 1 ≤ bit b + leaf_count x es
    go true h later = omega arith
    go false h later = let z = later h in omega arith

-- a look-up that found something found the id
pub id_found : (id : ℕ) (es : List Entry) (t : Tree) → tree_with_id id es ≡ Some t → has_id id es ≡ true
id_found id es t h = elim (cases_Bool (has_id id es)) [
  | inl there ↦ there
  | inr gone ↦ (let none = tree_at_none id es gone in cc)
]

-- ---- one more id that passes the test

-- equal tests count the same
pub below_same : (s t : ℕ → Bool) (x : ℕ) (es : List Entry) → ((i : ℕ) → s i ≡ t i) → below s x es ≡ below t x es
below_same s t x [] same = refl
below_same s t x (e ∷ es) same =
    rw (same e.id) (ap (λ n. cond (t e.id) 0 (times x (variables e.tree)) + n) (below_same s t x es same))

pub or_false : (a : Bool) → (a || false) ≡ a
or_false true = refl
or_false false = refl

pub or_true : (a : Bool) → (a || true) ≡ true
or_true true = refl
or_true false = refl

-- an id that no node has changes nothing
below_absent : (test : ℕ → Bool) (id x : ℕ) (es : List Entry) → has_id id es ≡ false
    → below (λ i. test i || id == i) x es ≡ below test x es
below_absent test id x [] h = refl
below_absent test id x (e ∷ es) h = elim (cases_eq e.id id) [
  | inl same ↦ (let there : true ≡ false = rw (eq-eqb e.id id same) at h in cc)
  | inr other ↦
      let rest : has_id id es ≡ false = rw (ne_eqb e.id id other) at h in
      let apart : (id == e.id) ≡ false = ne_eqb id e.id (λ k. other (sym k)) in
      rw (apart, or_false (test e.id))
      (ap (λ n. cond (test e.id) 0 (times x (variables e.tree)) + n) (below_absent test id x es rest))
]

-- the node of an id that stands once takes its variables away
pub below_less : (test : ℕ → Bool) (id x : ℕ) (es : List Entry) (t : Tree) → test id ≡ false → ids id es ≤ 1
    → tree_with_id id es ≡ Some t
    → below (λ i. test i || id == i) x es + times x (variables t) ≡ below test x es
below_less test id x [] t free once at = cc
below_less test id x (e ∷ es) t free once at = elim (cases_eq e.id id) [
  | inl same ↦
      let found : Some e.tree ≡ Some t = rw (eq-eqb e.id id same) at at in
      let is : e.tree ≡ t = cc in
      let within_limit : 1 + ids id es ≤ 1 = rw (eq-eqb e.id id same) at once in
      let rest = below_absent test id x es (ids_zero id es (omega arith)) in
      let out : test e.id ≡ false = subst (λ i. test i ≡ false) (sym same) free in
      let in_it : (id == e.id) ≡ true = eq-eqb id e.id (sym same) in
      rw (out, in_it, ← is) (omega (arith, rest))
  | inr other ↦
      let later : tree_with_id id es ≡ Some t = rw (ne_eqb e.id id other) at at in
      let within_limit : 0 + ids id es ≤ 1 = rw (ne_eqb e.id id other) at once in
      let apart : (id == e.id) ≡ false = ne_eqb id e.id (λ k. other (sym k)) in
      let rest = below_less test id x es t free (omega arith) later in
      rw (apart, or_false (test e.id)) (omega (arith, rest))
]
