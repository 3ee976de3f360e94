-- Roots and the uses of the nodes that they hold.
use Rattle.std.proofs.Common.{◌≡◌, inl, inr, ℕ, ◌+◌, ◌-◌, ◌^◌, ◌≤◌, ◌<◌, cond, eqb}
use Rattle.std.proofs.Common.{List, [], ◌∷◌, length, Option, Some, None, unwrap_or, refl, sym, ap, subst, ◌∙◌, arith}
use Rattle.std.proofs.Common.{Bool, true, false}
use Rattle.std.proofs.lemmas.Bool.{cases_eq}
use Rattle.std.proofs.lemmas.Cmp.{nat_cmp_total}
use Rattle.std.proofs.lemmas.List.{length-map}
use Rattle.std.proofs.lemmas.List.Sums.{sum_by-cons}
use Rattle.std.specs.List.{sum_by}
use Rattle.std.specs.Option.{IsSome, option_map, is_some}
use Rattle.std.specs.Ordering.{nat_cmp}
use Rattle.std.specs.FinMap.{FinMap, get, insert, remove, len, len-entries, len-insert, len-remove, values, entries}
use Rattle.std.specs.FinMap.{contains_key}
use Rattle.sd_runs.proofs.Maps.{get_insert_same, get_insert_other, get_remove_same, get_remove_other}
use Rattle.sd_runs.proofs.Places.{by_cases}
use Rattle.sd_vtree.specs.Numbered.{Numbered, IsNumbered}
use Rattle.sd_unique.specs.Nodes.{Nodes, IsNodes, uses_at, key_at as key_of_nodes}
use Rattle.sd_manager.specs.Table.{Table, key_at, uses_of, uses_in, uses_of_pair}
use Rattle.sd_manager.specs.Shown.{IsNodeOf, HasNode}
use Rattle.sd_manager.specs.Valid.{IsTable, total_length}
use Rattle.sd_manager.specs.Stored.{table_of, IsStored}
use Rattle.sd_manager.specs.Counting.{counts_one, IsCounted, AddsUses, DropsUse}
use Rattle.sd_manager.proofs.Counted.{counts_same}
use Rattle.sd_manager.proofs.Totals.{total_new, total_without, total_replaced}
use Rattle.sd_manager.proofs.Valid.{valid_roots, stored_with}
use Rattle.sd_manager.proofs.Reading.{shown_has_node, key_again}

-- how often codes are used

-- a truth value counts at most once
pub at_most_one : (b : Bool) → cond b 1 0 ≤ 1
at_most_one true = omega arith
at_most_one false = omega arith

-- a code stands at most twice in each pair of a list
pub uses_in_le : (c : ℕ) (l : List (ℕ × ℕ)) → uses_in c l ≤ length l + length l
uses_in_le c [] = omega arith
uses_in_le c (e ∷ l) =
    omega (
      arith,
      sum_by-cons (uses_of_pair c) e l,
      uses_in_le c l,
      at_most_one (eqb e.0 c),
      at_most_one (eqb e.1 c),
    )

-- a sum is at most twice another where each term is
sum_twice : {X : Type 0} (f g : X → ℕ) (xs : List X) → ((x : X) → f x ≤ g x + g x) →
    sum_by f xs ≤ sum_by g xs + sum_by g xs
sum_twice f g [] h = omega arith
sum_twice f g (x ∷ xs) h =
    omega (arith, sum_by-cons f x xs, sum_by-cons g x xs, sum_twice f g xs h, h x)

-- a sum of terms that are at most one is at most the length
pub sum_ones : {X : Type 0} (f : X → ℕ) (xs : List X) → ((x : X) → f x ≤ 1) → sum_by f xs ≤ length xs
sum_ones f [] h = omega arith
sum_ones f (x ∷ xs) h = omega (arith, sum_by-cons f x xs, sum_ones f xs h, h x)

-- the values are as many as the entries
pub length_values : {X : Type 0} (m : FinMap nat_cmp X) → length (values m) ≡ len m
length_values {X} m = length-map (entries m) (λ (e : ℕ × X). e.1) ∙ sym (len-entries m)

-- a code is used at most twice for each element and once for each root
pub uses_of_le : (t : Table) (c : ℕ) → uses_of t c ≤ total_length t + total_length t + len t.roots
uses_of_le t c =
    omega (
      arith,
      sum_twice (λ (k : ℕ × List (ℕ × ℕ)). uses_in c k.1) (λ k. length k.1) (values t.linked) (λ k. uses_in_le c k.1),
      sum_twice (λ (k : ℕ × List (ℕ × ℕ)). uses_in c k.1) (λ k. length k.1) (values t.detached)
          (λ k. uses_in_le c k.1),
      sum_twice (uses_in c) length (values t.loose) (uses_in_le c),
      sum_ones (λ held. cond (eqb held c) 1 0) (values t.roots) (λ held. at_most_one (eqb held c)),
      length_values t.roots,
    )

-- so there is room for one more use
pub uses_fit : (t : Table) (c : ℕ) → IsTable t → uses_of t c < 2 ^ 34
uses_fit t c i = omega (arith, uses_of_le t c, i.total, i.bounded, i.bound_fits, i.few_roots)

-- the code of a node

-- a code that is there is counted
pub there_counted : (v : Numbered) (a : Nodes) (m : FinMap nat_cmp ℕ) (e : ℕ) (g : Option ℕ) (c : ℕ) → IsNumbered v →
    HasNode (table_of v a m e g) c → IsCounted a c
there_counted v a m e g c numbered (inl low) least = absurd (omega (arith, numbered.within_limit))
there_counted v a m e g c numbered (inr h) least =
    subst IsSome (sym (key_again (get a.linked (c - 2050)) (get a.detached (c - 2050)))) h.1

-- so is one that shows a canonical diagram
pub known_counted : (v : Numbered) (a : Nodes) (m : FinMap nat_cmp ℕ) (e : ℕ) (g : Option ℕ) (c : ℕ) →
    IsNumbered v → IsNodeOf (table_of v a m e g) c → IsCounted a c
known_counted v a m e g c numbered h =
    there_counted v a m e g c numbered
    (shown_has_node (table_of v a m e g) numbered c h.diagram h.is.shows)

-- an option that is there is there with its value
pub some_value : {X : Type 0} (o : Option X) → IsSome o → (x : X) × (o ≡ Some x)
some_value None h = cc
some_value (Some x) h = (x, refl)

-- the count of a code's node is how often the code is used
pub counted_is : (v : Numbered) (a : Nodes) (m : FinMap nat_cmp ℕ) (e : ℕ) (g : Option ℕ) (c : ℕ) →
    IsStored a (table_of v a m e g) → IsCounted a c → 2050 ≤ c → uses_at a (c - 2050) ≡ uses_of (table_of v a m e g) c
counted_is v a m e g c stored counted least =
    let k = some_value (key_of_nodes a (c - 2050)) (counted least) in
    let there : key_at (table_of v a m e g) (c - 2050) ≡ Some k.0 =
    sym (key_again (get a.linked (c - 2050)) (get a.detached (c - 2050))) ∙ k.1 in
    let back : 2050 + (c - 2050) ≡ c = omega arith in
    ap (λ o. unwrap_or o 0) (stored.uses (c - 2050) k.0 there) ∙ ap (uses_of (table_of v a m e g)) back

-- each count is of a node, and is how often the code is used
pub count_is : (v : Numbered) (a : Nodes) (m : FinMap nat_cmp ℕ) (e : ℕ) (g : Option ℕ) →
    IsStored a (table_of v a m e g) → (n k : ℕ) → get a.uses n ≡ Some k → k ≡ uses_of (table_of v a m e g) (2050 + n)
count_is v a m e g stored n k is =
    let key = some_value (key_of_nodes a n) (stored.valid.counted_only n (subst IsSome (sym is) refl)) in
    let there : key_at (table_of v a m e g) n ≡ Some key.0 =
    sym (key_again (get a.linked n) (get a.detached n)) ∙ key.1 in
    let both : Some k ≡ Some (uses_of (table_of v a m e g) (2050 + n)) = sym is ∙ stored.uses n key.0 there in
    cc

-- there is room for one more use of a node
pub room_for_use : (v : Numbered) (a : Nodes) (m : FinMap nat_cmp ℕ) (e : ℕ) (g : Option ℕ) (c : ℕ) →
    IsStored a (table_of v a m e g) → IsCounted a c → 2050 ≤ c → uses_at a (c - 2050) < 2 ^ 64 - 1
room_for_use v a m e g c stored counted least =
    omega (arith, counted_is v a m e g c stored counted least, uses_fit (table_of v a m e g) c stored.table)

-- a node that a root holds is used
pub held_is_used : (t : Table) (root c : ℕ) → get t.roots root ≡ Some c → 0 < uses_of t c
held_is_used t root c e =
    omega (
      arith,
      total_without (λ held. cond (eqb held c) 1 0) t.roots root c e,
      counts_same c c refl,
    )

-- a count that was not 0 is not after more uses
at_least_before : (o : Option ℕ) (m : ℕ) → 0 < unwrap_or o 0 → 0 < unwrap_or (option_map (λ k. k + m) o) 0
at_least_before None m h = h
at_least_before (Some k) m h = omega arith

pub used_still : {more : ℕ → ℕ} (a b : Nodes) (c : ℕ) → AddsUses a b more → 0 < uses_at a (c - 2050) →
    0 < uses_at b (c - 2050)
used_still {more} a b c adds h =
    subst (λ o. 0 < unwrap_or o 0) (sym (adds.uses (c - 2050)))
    (at_least_before (get a.uses (c - 2050)) (more (2050 + (c - 2050))) h)

-- the number of roots

contains_some : {X : Type 0} (m : FinMap nat_cmp X) (k : ℕ) (v : X) → get m k ≡ Some v → contains_key m k ≡ true
contains_some m k v e = ap is_some e

contains_none : {X : Type 0} (m : FinMap nat_cmp X) (k : ℕ) → get m k ≡ None → contains_key m k ≡ false
contains_none m k e = ap is_some e

-- one more root
pub len_more : (m : FinMap nat_cmp ℕ) (root c : ℕ) → get m root ≡ None → len (insert m root c) ≡ len m + 1
len_more m root c none =
    len-insert nat_cmp_total m root c ∙ ap (λ b. cond b (len m) (len m + 1)) (contains_none m root none)

-- a root that holds another node
pub len_again : (m : FinMap nat_cmp ℕ) (root c d : ℕ) → get m root ≡ Some c → len (insert m root d) ≡ len m
len_again m root c d some =
    len-insert nat_cmp_total m root d ∙ ap (λ b. cond b (len m) (len m + 1)) (contains_some m root c some)

-- one root less
len_less : (m : FinMap nat_cmp ℕ) (root c : ℕ) → get m root ≡ Some c → len (remove m root) ≡ len m - 1
len_less m root c some =
    len-remove nat_cmp_total m root ∙ ap (λ b. cond b (len m - 1) (len m)) (contains_some m root c some)

-- what each root holds after a change

held_after_insert : (t : Table) (root c : ℕ) → IsTable t → t.moving ≡ None → IsNodeOf t c → (r d : ℕ) →
    get (insert t.roots root c) r ≡ Some d → IsNodeOf t d
held_after_insert t root c i still known r d e =
    by_cases
    (λ same.
    let there : Some c ≡ Some d = sym (get_insert_same t.roots root c) ∙ ap (get (insert t.roots root c))
    (sym same) ∙ e in
    let is : c ≡ d = cc in
    subst (IsNodeOf t) is known)
    (λ ne. i.held still r d (sym (get_insert_other t.roots root c r ne) ∙ e))
    (cases_eq r root)

held_after_remove : (t : Table) (root : ℕ) → IsTable t → t.moving ≡ None → (r d : ℕ) →
    get (remove t.roots root) r ≡ Some d → IsNodeOf t d
held_after_remove t root i still r d e =
    by_cases
    (λ same.
    let there : None ≡ Some d = sym (get_remove_same t.roots root) ∙ ap (get (remove t.roots root)) (sym same) ∙ e in
    cc)
    (λ ne. i.held still r d (sym (get_remove_other t.roots root r ne) ∙ e))
    (cases_eq r root)

-- the manager after each change

module _ (v : Numbered) (a : Nodes) (m : FinMap nat_cmp ℕ) (e : ℕ) (g : Option ℕ)
    (stored : IsStored a (table_of v a m e g)) (still : g ≡ None) where
  -- a new root
  pub stored_hold : (b : Nodes) (root c : ℕ) → get m root ≡ None → len m < 2 ^ 32 - 1 →
      IsNodeOf (table_of v a m e g) c → AddsUses a b (λ x. counts_one x c) → IsNodes b →
      IsStored b (table_of v b (insert m root c) e g)
  stored_hold b root c none within_limit known adds valid =
      let t : Table = table_of v a m e g in
      stored_with v a b (insert m root c) e g adds.rest valid
      (valid_roots t (insert m root c) stored.table (held_after_insert t root c stored.table still known)
      (omega (arith, len_more m root c none)))
      (λ n k is. adds.uses n ∙ ap (option_map (λ u. u + counts_one (2050 + n) c)) (stored.uses n k is)
      ∙ ap Some (omega (arith, total_new (λ held. cond (eqb held (2050 + n)) 1 0) m root c none)))

  -- a root that is taken away
  pub stored_release : (b : Nodes) (root c : ℕ) → get m root ≡ Some c → DropsUse a b c → IsNodes b →
      IsStored b (table_of v b (remove m root) e g)
  stored_release b root c some drops valid =
      let t : Table = table_of v a m e g in
      stored_with v a b (remove m root) e g drops.rest valid
      (valid_roots t (remove m root) stored.table (held_after_remove t root stored.table still)
      (omega (arith, len_less m root c some, stored.table.few_roots)))
      (λ n k is. drops.uses n ∙ ap (option_map (λ u. u - counts_one (2050 + n) c)) (stored.uses n k is)
      ∙ ap Some (omega (arith, total_without (λ held. cond (eqb held (2050 + n)) 1 0) m root c some)))

  -- a root that holds another node
  pub stored_rebind : (b d : Nodes) (root c new : ℕ) → get m root ≡ Some c → IsNodeOf (table_of v a m e g) new →
      AddsUses a b (λ x. counts_one x new) → DropsUse b d c → IsNodes d →
      IsStored d (table_of v d (insert m root new) e g)
  stored_rebind b d root c new some known adds drops valid =
      let t : Table = table_of v a m e g in
      let with : Nodes → Nodes = λ x. record x { uses = d.uses } in
      stored_with v a d (insert m root new) e g (drops.rest ∙ ap with adds.rest) valid
      (valid_roots t (insert m root new) stored.table (held_after_insert t root new stored.table still known)
      (omega (arith, len_again m root c new some, stored.table.few_roots)))
      (λ n k is. drops.uses n ∙ ap (option_map (λ u. u - counts_one (2050 + n) c))
      (adds.uses n ∙ ap (option_map (λ u. u + counts_one (2050 + n) new)) (stored.uses n k is))
      ∙ ap Some (omega (arith, total_replaced (λ held. cond (eqb held (2050 + n)) 1 0) m root c new some)))
