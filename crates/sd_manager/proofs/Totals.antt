-- Sums over the values of a map, and the number of its entries.
use Rattle.std.proofs.Common.{◌≡◌, ℕ, zero, suc, ◌+◌, ◌≤◌, cond, Some, None, sym, ap, ◌∙◌, arith, refl}
use Rattle.std.proofs.Common.{List, [], ◌∷◌, length, map}
use Rattle.std.proofs.lemmas.Bool.{cases_eq}
use Rattle.std.proofs.lemmas.Cmp.{nat_cmp_total}
use Rattle.std.specs.List.{sum_by}
use Rattle.std.specs.Option.{is_some}
use Rattle.std.specs.Ordering.{nat_cmp}
use Rattle.std.specs.FinMap.{FinMap, get, get-entries, insert, remove, values, entries, find, len}
use Rattle.std.specs.FinMap.{len-entries, len-insert}
use Rattle.sd_runs.proofs.Maps.{same_at_each, get_insert_same, get_insert_other, get_remove_same, get_remove_other}
use Rattle.sd_runs.proofs.Maps.{total_insert, tied}
use Rattle.sd_runs.proofs.Places.{by_cases}

module _ {X : Type 0} where
  -- a map is what is left without an entry, with that entry
  pub with_entry : (m : FinMap nat_cmp X) (k : ℕ) (v : X) → get m k ≡ Some v → m ≡ insert (remove m k) k v
  with_entry m k v e =
      same_at_each _ _ (λ q. by_cases
      (λ same. ap (get m) same ∙ e ∙ sym (ap (get (insert (remove m k) k v)) same ∙ get_insert_same (remove m k) k v))
      (λ ne. sym (get_insert_other (remove m k) k v q ne ∙ get_remove_other m k q ne))
      (cases_eq q k))

  -- a new value at a key is put into what is left without the key
  pub insert_again : (m : FinMap nat_cmp X) (k : ℕ) (v : X) → insert m k v ≡ insert (remove m k) k v
  insert_again m k v =
      same_at_each _ _ (λ q. by_cases
      (λ same. ap (get (insert m k v)) same ∙ get_insert_same m k v
      ∙ sym (ap (get (insert (remove m k) k v)) same ∙ get_insert_same (remove m k) k v))
      (λ ne. get_insert_other m k v q ne
      ∙ sym (get_insert_other (remove m k) k v q ne ∙ get_remove_other m k q ne))
      (cases_eq q k))

  -- the sum with a new entry
  pub total_new : (f : X → ℕ) (m : FinMap nat_cmp X) (k : ℕ) (v : X) → get m k ≡ None →
      sum_by f (values (insert m k v)) ≡ f v + sum_by f (values m)
  total_new f m k v none = total_insert f m k v (sym (get-entries m k) ∙ none)

  -- the sum without an entry
  pub total_without : (f : X → ℕ) (m : FinMap nat_cmp X) (k : ℕ) (v : X) → get m k ≡ Some v →
      sum_by f (values m) ≡ f v + sum_by f (values (remove m k))
  total_without f m k v e =
      ap (λ n. sum_by f (values n)) (with_entry m k v e) ∙ total_new f (remove m k) k v (get_remove_same m k)

  -- the sum with another value in place of one
  pub total_replaced : (f : X → ℕ) (m : FinMap nat_cmp X) (k : ℕ) (v w : X) → get m k ≡ Some v →
      sum_by f (values (insert m k w)) + f v ≡ f w + sum_by f (values m)
  total_replaced f m k v w e =
      let old = total_without f m k v e in
      let new : sum_by f (values (insert m k w)) ≡ f w + sum_by f (values (remove m k)) =
      ap (λ n. sum_by f (values n)) (insert_again m k w) ∙ total_new f (remove m k) k w (get_remove_same m k) in
      omega arith

-- sums over all values, by what holds of each

-- the first entry is found
found_first : {X : Type 0} (m : FinMap nat_cmp X) (e : ℕ × X) (es : List (ℕ × X)) → entries m ≡ e ∷ es →
    get m e.0 ≡ Some e.1
found_first {X} m e es is =
    get-entries m e.0 ∙ ap (find nat_cmp e.0) is
    ∙ ap (λ b. cond b (Some e.1) (find nat_cmp e.0 es)) (tied e.0)

-- what is left in a map without a key was in it
pub left_was : {X : Type 0} (m : FinMap nat_cmp X) (k q : ℕ) (x : X) → get (remove m k) q ≡ Some x → get m q ≡ Some x
left_was {X} m k q x e =
    by_cases
    (λ same.
    let none : None ≡ Some x = sym (get_remove_same m k) ∙ ap (get (remove m k)) (sym same) ∙ e in
    cc)
    (λ ne. sym (get_remove_other m k q ne) ∙ e)
    (cases_eq q k)

len_left : {X : Type 0} (m : FinMap nat_cmp X) (k : ℕ) (v : X) → get m k ≡ Some v → len (remove m k) + 1 ≡ len m
len_left {X} m k v e =
    let more : len (insert (remove m k) k v) ≡ len (remove m k) + 1 =
    len-insert nat_cmp_total (remove m k) k v
    ∙ ap (λ b. cond b (len (remove m k)) (len (remove m k) + 1)) (ap is_some (get_remove_same m k)) in
    sym more ∙ ap len (sym (with_entry m k v e))

module _ {X : Type 0} (f : X → ℕ) where
  sum_nothing : (m : FinMap nat_cmp X) → entries m ≡ [] → sum_by f (values m) ≡ 0
  sum_nothing m none = ap (λ es. sum_by f (map (λ e. e.1) es)) none

  -- a sum of zeros, if what is left without an entry is one
  zero_step : (m : FinMap nat_cmp X) (es : List (ℕ × X)) → entries m ≡ es →
      ((k : ℕ) (v : X) → get m k ≡ Some v → sum_by f (values (remove m k)) ≡ 0) →
      ((q : ℕ) (x : X) → get m q ≡ Some x → f x ≡ 0) → sum_by f (values m) ≡ 0
  zero_step m [] is rest h = sum_nothing m is
  zero_step m (e ∷ es) is rest h =
      let there = found_first m e es is in
      omega (arith, total_without f m e.0 e.1 there, h e.0 e.1 there, rest e.0 e.1 there)

  zeros : (n : ℕ) (m : FinMap nat_cmp X) → len m ≤ n → ((q : ℕ) (x : X) → get m q ≡ Some x → f x ≡ 0) →
      sum_by f (values m) ≡ 0
  zeros zero m within_limit h =
      zero_step m (entries m) refl (λ k v there. absurd (omega (arith, len_left m k v there))) h
  zeros (suc n) m within_limit h =
      zero_step m (entries m) refl
      (λ k v there. zeros n (remove m k) (omega (arith, len_left m k v there))
      (λ q x e. h q x (left_was m k q x e))) h

  -- a sum of zeros
  pub sum_zero : (m : FinMap nat_cmp X) → ((q : ℕ) (x : X) → get m q ≡ Some x → f x ≡ 0) → sum_by f (values m) ≡ 0
  sum_zero m h = zeros (len m) m (omega arith) h

  -- a sum of terms that are at least two, if what is left without an entry is one
  two_step : (m : FinMap nat_cmp X) (es : List (ℕ × X)) → entries m ≡ es →
      ((k : ℕ) (v : X) → get m k ≡ Some v → len (remove m k) + len (remove m k) ≤ sum_by f (values (remove m k))) →
      ((q : ℕ) (x : X) → get m q ≡ Some x → 2 ≤ f x) → len m + len m ≤ sum_by f (values m)
  two_step m [] is rest h = omega (arith, len-entries m, ap length is)
  two_step m (e ∷ es) is rest h =
      let there = found_first m e es is in
      omega (
        arith,
        total_without f m e.0 e.1 there,
        h e.0 e.1 there,
        len_left m e.0 e.1 there,
        rest e.0 e.1 there,
      )

  twos : (n : ℕ) (m : FinMap nat_cmp X) → len m ≤ n → ((q : ℕ) (x : X) → get m q ≡ Some x → 2 ≤ f x) →
      len m + len m ≤ sum_by f (values m)
  twos zero m within_limit h =
      two_step m (entries m) refl (λ k v there. absurd (omega (arith, len_left m k v there))) h
  twos (suc n) m within_limit h =
      two_step m (entries m) refl
      (λ k v there. twos n (remove m k) (omega (arith, len_left m k v there)) (λ q x e. h q x (left_was m k q x e))) h

  -- a sum of terms that are at least two
  pub sum_twos : (m : FinMap nat_cmp X) → ((q : ℕ) (x : X) → get m q ≡ Some x → 2 ≤ f x) →
      len m + len m ≤ sum_by f (values m)
  sum_twos m h = twos (len m) m (omega arith) h
