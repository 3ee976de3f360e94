-- The lists of the counted numbers are together no longer than those of all nodes.
use Rattle.std.proofs.Common.{◌≡◌, ℕ, suc, ◌+◌, ◌≤◌, Bool, true, false, cond, List, [], ◌∷◌, length, Option, Some}
use Rattle.std.proofs.Common.{None, unwrap_or}
use Rattle.std.proofs.Common.{refl, sym, ◌∙◌, ap, arith}
use Rattle.std.proofs.lemmas.Bool.{cases_eq}
use Rattle.std.specs.List.{sum_by}
use Rattle.std.specs.Option.{option_map}
use Rattle.std.specs.Ordering.{nat_cmp}
use Rattle.std.specs.FinMap.{FinMap, get, get-entries, insert, remove, values}
use Rattle.sd_runs.proofs.Maps.{same_at_each, get_insert_same, get_insert_other, get_remove_same, get_remove_other}
use Rattle.sd_runs.proofs.Maps.{total_insert}
use Rattle.sd_runs.proofs.Places.{by_cases}
use Rattle.sd_unique.specs.Nodes.{Nodes, or_else, total_length}
use Rattle.sd_counts.specs.Right.{sum_counted, list_at}
use Rattle.sd_counts.proofs.Sums.{sum_le, sum_both}

-- the sum over a map without an entry
total_without : {X : Type 0} (f : X → ℕ) (m : FinMap nat_cmp X) (k : ℕ) (v : X) → get m k ≡ Some v
    → sum_by f (values m) ≡ f v + sum_by f (values (remove m k))
total_without {X} f m k v e =
    ap (λ n. sum_by f (values n))
    (same_at_each m (insert (remove m k) k v) (λ q. by_cases
    (λ same. ap (get m) same ∙ e ∙ sym (ap (get (insert (remove m k) k v)) same ∙ get_insert_same (remove m k) k v))
    (λ ne. sym (get_insert_other (remove m k) k v q ne ∙ get_remove_other m k q ne))
    (cases_eq q k)))
    ∙ total_insert f (remove m k) k v (sym (get-entries (remove m k) k) ∙ get_remove_same m k)

-- what is there, or nothing
abbrev part : {X : Type 0} → (X → ℕ) → Option X → ℕ
part f o = unwrap_or (option_map f o) 0

part_le : (b : Bool) (n : ℕ) → cond b n 0 ≤ n
part_le true n = omega arith
part_le false n = omega arith

-- Values of a map at a first place and after it, some of them, are together at most the sum over the map.
head_within : {X : Type 0} (f : X → ℕ) (b : Bool) (bs : List Bool) (m : FinMap nat_cmp X) (k : ℕ) (g : ℕ → ℕ)
    → ((n : ℕ) → g n ≡ part f (get m (k + n)))
    → ((m : FinMap nat_cmp X) → ((n : ℕ) → g (suc n) ≡ part f (get m (k + 1 + n)))
    → sum_counted (λ n. g (suc n)) bs ≤ sum_by f (values m))
    → (o : Option X) → get m k ≡ o → sum_counted g (b ∷ bs) ≤ sum_by f (values m)
head_within f b bs m k g h rest None e =
    let zero_is : k + 0 ≡ k = omega arith in
    let first : g 0 ≡ 0 = h 0 ∙ ap (λ q. part f (get m q)) zero_is ∙ ap (part f) e in
    omega (
      arith,
      first,
      part_le b (g 0),
      rest m (λ n. h (suc n) ∙ ap (λ q. part f (get m q)) (omega arith)),
    )
head_within f b bs m k g h rest (Some v) e =
    let zero_is : k + 0 ≡ k = omega arith in
    let first : g 0 ≡ f v = h 0 ∙ ap (λ q. part f (get m q)) zero_is ∙ ap (part f) e in
    omega (
      arith,
      first,
      part_le b (g 0),
      total_without f m k v e,
      rest (remove m k) (λ n. h (suc n) ∙ ap (λ q. part f (get m q)) (omega arith)
          ∙ ap (part f) (sym (get_remove_other m k (k + 1 + n) (λ same. omega (arith, same))))),
    )

within_map : {X : Type 0} (f : X → ℕ) (bs : List Bool) (m : FinMap nat_cmp X) (k : ℕ) (g : ℕ → ℕ)
    → ((n : ℕ) → g n ≡ part f (get m (k + n))) → sum_counted g bs ≤ sum_by f (values m)
within_map f [] m k g h = omega arith
within_map f (b ∷ bs) m k g h =
    head_within f b bs m k g h (λ m h. within_map f bs m (k + 1) (λ n. g (suc n)) h) (get m k) refl

abbrev key_length : ℕ × List (ℕ × ℕ) → ℕ
key_length k = length k.1

-- a list is that of a linked node or of a detached one
length_at : (o p : Option (ℕ × List (ℕ × ℕ)))
    → length (unwrap_or (option_map (λ k. k.1) (or_else o p)) []) ≤ part key_length o + part key_length p
length_at None None = omega arith
length_at None (Some k) = omega arith
length_at (Some k) p = omega arith

-- the lists of some numbers are together no longer than those of all nodes
pub lengths_within : (a : Nodes) (bs : List Bool) → sum_counted (λ n. length (list_at a n)) bs ≤ total_length a
lengths_within a bs =
    let linked = within_map key_length bs a.linked 0 (λ n. part key_length (get a.linked n))
    (λ n. ap (λ q. part key_length (get a.linked q)) (omega arith)) in
    let detached = within_map key_length bs a.detached 0 (λ n. part key_length (get a.detached n))
    (λ n. ap (λ q. part key_length (get a.detached q)) (omega arith)) in
    omega (
      arith,
      sum_le (λ n. length (list_at a n))
          (λ n. part key_length (get a.linked n) + part key_length (get a.detached n)) bs
          (λ n. length_at (get a.linked n) (get a.detached n)),
      sum_both (λ n. part key_length (get a.linked n)) (λ n. part key_length (get a.detached n)) bs,
      linked,
      detached,
    )
