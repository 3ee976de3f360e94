-- What is known of the node lines that were read: they are a forest in which each leaf's variable stands once.
use Rattle.std.proofs.Common.{◌≡◌, ℕ, ◌+◌, ◌≤◌, Bool, true, false, ◌||◌, ◌==◌}
use Rattle.std.proofs.Common.{List, [], ◌∷◌, ◌++◌, length, take, get_or, refl, ap, ◌∙◌, subst, arith}
use Rattle.std.proofs.Common.{inl, inr, eq-eqb, ne_eqb, length-append}
use Rattle.std.specs.List.{list_any}
use Rattle.std.proofs.lemmas.Bool.{cases_Bool, cases_eq, cases_lt}
use Rattle.std.proofs.lemmas.List.{take-append-le, take_all, get_or-append-add, get_or_append_left}
use Rattle.std.proofs.lemmas.List.Folds.{list_any-append}
use Rattle.sd_vfile.specs.Reads.{Entry, has_id, is_child, has_leaf}
use Rattle.sd_vfile.specs.Steps.{no_entry, IsWellFormed, AreWellFormed}
use Rattle.sd_vfile.proofs.Forests.{bit, ids, leaf_count, below, ids_push, ids_none}

-- Ids and the variables of leaves stand once, children are nodes, and each variable stands as often below the nodes
-- that are roots as it has leaves.
pub record AreRead (v : ℕ) (es : List Entry) : Type 0 where
  pub once : (id : ℕ) → ids id es ≤ 1
  pub children : (id : ℕ) → is_child id es ≡ true → has_id id es ≡ true
  pub leaf_once : (x : ℕ) → leaf_count x es ≤ 1
  pub in_range : (x : ℕ) → has_leaf x es ≡ true → (1 ≤ x) × (x ≤ v)
  pub account : (x : ℕ) → below (λ i. is_child i es) x es ≡ leaf_count x es
  pub well_formed : AreWellFormed v es

-- this is so of no line
pub none_read : (v : ℕ) → AreRead v []
none_read v = record {
  once = λ id. omega arith;
  children = λ id h. h;
  leaf_once = λ x. omega arith;
  in_range = λ x h. cc;
  account = λ x. refl;
  well_formed = λ p h. absurd (omega arith);
}

-- ---- each fact after one more line

-- an id that is new stands once
pub once_more : (es : List Entry) (e : Entry) → ((id : ℕ) → ids id es ≤ 1) → has_id e.id es ≡ false → (id : ℕ)
    → ids id (es ++ e ∷ []) ≤ 1
once_more es e once new id = elim (cases_eq e.id id) [
  | inl same ↦
      let none : ids id es ≡ 0 = subst (λ i. ids i es ≡ 0) same (ids_none e.id es new) in
      let one : bit (e.id == id) ≡ 1 = rw (eq-eqb e.id id same) refl in
      omega (arith, ids_push id es e, none, one)
  | inr other ↦
      let zero_here : bit (e.id == id) ≡ 0 = rw (ne_eqb e.id id other) refl in
      omega (arith, ids_push id es e, once id, zero_here)
]

-- an id that was there still is
has_id_more : (id : ℕ) (es : List Entry) (e : Entry) → has_id id es ≡ true → has_id id (es ++ e ∷ []) ≡ true
has_id_more id es e h = rw (list_any-append (λ d. d.id == id) es (e ∷ []), h) refl

-- children that are nodes still are
pub children_more : (es : List Entry) (e : Entry) → ((id : ℕ) → is_child id es ≡ true → has_id id es ≡ true)
    → ((id : ℕ) → list_any (λ child. child == id) e.children ≡ true → has_id id es ≡ true) → (id : ℕ)
    → is_child id (es ++ e ∷ []) ≡ true → has_id id (es ++ e ∷ []) ≡ true
children_more es e old new id h =
    has_id_more id es e (go (is_child id es) (list_any (λ child. child == id) e.children) (old id) (new id)
    (rw (list_any-append (λ d. list_any (λ child. child == id) d.children) es (e ∷ [])) at h))
  where
    go : (a b : Bool) → (a ≡ true → has_id id es ≡ true) → (b ≡ true → has_id id es ≡ true)
        → (a || (b || false)) ≡ true → has_id id es ≡ true
    go true b f g h = f refl
    go false true f g h = g refl
    go false false f g h = cc

-- one more line that is known
pub well_formed_more : (v : ℕ) (es : List Entry) (e : Entry) → AreWellFormed v es → IsWellFormed v es e
    → AreWellFormed v (es ++ e ∷ [])
well_formed_more v es e old here p h = elim (cases_lt p (length es)) [
  | inl below_it ↦
      rw (take-append-le p es (e ∷ []) (omega arith), get_or_append_left es (e ∷ []) no_entry p below_it)
      (old p below_it)
  | inr past_it ↦
      let at : p ≡ length es = omega (arith, length-append es (e ∷ [])) in
      let index : length es ≡ length es + 0 = omega arith in
      let is : get_or (es ++ e ∷ []) (length es) no_entry ≡ e =
      ap (λ i. get_or (es ++ e ∷ []) i no_entry) index ∙ get_or-append-add es (e ∷ []) 0 no_entry in
      let whole : take (length es) (es ++ e ∷ []) ≡ es =
      take-append-le (length es) es (e ∷ []) (omega arith) ∙ take_all (length es) es (omega arith) in
      rw (at, whole, is) here
]

-- the children of the nodes, with those of one more
pub is_child_push : (id : ℕ) (es : List Entry) (e : Entry)
    → is_child id (es ++ e ∷ []) ≡ (is_child id es || (list_any (λ child. child == id) e.children || false))
is_child_push id es e = list_any-append (λ d. list_any (λ child. child == id) d.children) es (e ∷ [])

-- an id that is new is a root's
pub no_child : (v : ℕ) (es : List Entry) (id : ℕ) → AreRead v es → has_id id es ≡ false → is_child id es ≡ false
no_child v es id read new = elim (cases_Bool (is_child id es)) [
  | inl child ↦ (let there = read.children id child in cc)
  | inr other ↦ other
]

-- two ids of which one is there and one is not
pub ids_apart : (a b : ℕ) (es : List Entry) → has_id a es ≡ true → has_id b es ≡ false → (a == b) ≡ false
ids_apart a b es there gone = ne_eqb a b (λ same. go same)
  where
    go : a ≡ b → ⊥
    go same = let both : has_id b es ≡ true = subst (λ i. has_id i es ≡ true) same there in cc
