-- The codes in slots as a map: an empty slot has no entry.
use Rattle.std.proofs.Common.{◌≡◌, ℕ, suc, zero, ◌+◌, ◌<◌, cond, List, [], ◌∷◌, ◌++◌, length, get_or}
use Rattle.std.proofs.Common.{Option, Some, None, refl, sym, ap, ◌∙◌, arith}
use Rattle.std.proofs.Math.ListN.{set}
use Rattle.std.proofs.lemmas.Bool.{cases_eq}
use Rattle.std.proofs.lemmas.Cmp.{nat_cmp_total}
use Rattle.std.proofs.lemmas.List.{get_or-set_same, get_or-set_other}
use Rattle.std.specs.Option.{IsSome}
use Rattle.std.specs.Ordering.{nat_cmp, eq_by_cmp}
use Rattle.std.specs.FinMap.{FinMap, get, insert, remove, find, get-from_entries}
use Rattle.sd_runs.proofs.Maps.{tied, apart, same_at_each, get_insert_same, get_insert_other}
use Rattle.sd_runs.proofs.Maps.{get_remove_same, get_remove_other}
use Rattle.sd_runs.proofs.Places.{by_cases}
use Rattle.sd_manager.specs.Stored.{held_from, held_map}

-- no entry has a number below the first
find_before : (q i : ℕ) (slots : List (Option ℕ)) → q < i → find nat_cmp q (held_from i slots) ≡ None
find_before q i [] h = refl
find_before q i (None ∷ slots) h = find_before q (i + 1) slots (omega arith)
find_before q i (Some c ∷ slots) h =
    ap (λ b. cond b (Some c) (find nat_cmp q (held_from (i + 1) slots))) (apart q i (λ e. omega arith))
    ∙ find_before q (i + 1) slots (omega arith)

-- the entry of a slot is what stands in it
find_held : (k i q : ℕ) (slots : List (Option ℕ)) → k ≡ i + q → find nat_cmp k (held_from i slots) ≡ get_or
    slots q None
find_held k i q [] e = refl
find_held k i zero (None ∷ slots) e = find_before k (i + 1) slots (omega arith)
find_held k i (suc q) (None ∷ slots) e = find_held k (i + 1) q slots (omega arith)
find_held k i zero (Some c ∷ slots) e =
    let same : k ≡ i = omega arith in
    ap (λ b. cond b (Some c) (find nat_cmp k (held_from (i + 1) slots)))
    (ap (λ j. eq_by_cmp nat_cmp k j) (sym same) ∙ tied k)
find_held k i (suc q) (Some c ∷ slots) e =
    ap (λ b. cond b (Some c) (find nat_cmp k (held_from (i + 1) slots))) (apart k i (λ same. omega arith))
    ∙ find_held k (i + 1) q slots (omega arith)

-- the map has what stands in the slot
pub get_held : (slots : List (Option ℕ)) (q : ℕ) → get (held_map slots) q ≡ get_or slots q None
get_held slots q = get-from_entries nat_cmp_total (held_from 0 slots) q ∙ find_held q 0 q slots (omega arith)

-- a root has a slot
pub held_inside : (slots : List (Option ℕ)) (q : ℕ) → IsSome (get_or slots q None) → q < length slots
held_inside [] q h = cc
held_inside (x ∷ slots) zero h = omega arith
held_inside (x ∷ slots) (suc q) h = let k : q < length slots = held_inside slots q h in omega arith

-- what stands in the slot that was pushed, and in the others
get_or_pushed : (slots : List (Option ℕ)) (o : Option ℕ) → get_or (slots ++ o ∷ []) (length slots) None ≡ o
get_or_pushed [] o = refl
get_or_pushed (x ∷ slots) o = get_or_pushed slots o

get_or_before : (slots : List (Option ℕ)) (o : Option ℕ) (q : ℕ) → ¬ (q ≡ length slots) →
    get_or (slots ++ o ∷ []) q None ≡ get_or slots q None
get_or_before [] o zero h = absurd (h refl)
get_or_before [] o (suc q) h = refl
get_or_before (x ∷ slots) o zero h = refl
get_or_before (x ∷ slots) o (suc q) h = get_or_before slots o q (λ e. h (omega arith))

-- one more slot is one more entry
pub held_push : (slots : List (Option ℕ)) (c n : ℕ) → n ≡ length slots →
    held_map (slots ++ Some c ∷ []) ≡ insert (held_map slots) n c
held_push slots c n at =
    same_at_each _ _ (λ q. by_cases
    (λ e. get_held (slots ++ Some c ∷ []) q ∙ ap (λ k. get_or (slots ++ Some c ∷ []) k None) (e ∙ at)
    ∙ get_or_pushed slots (Some c)
    ∙ sym (ap (get (insert (held_map slots) n c)) e ∙ get_insert_same (held_map slots) n c))
    (λ ne. get_held (slots ++ Some c ∷ []) q ∙ get_or_before slots (Some c) q (λ e. ne (e ∙ sym at))
    ∙ sym (get_held slots q) ∙ sym (get_insert_other (held_map slots) n c q ne))
    (cases_eq q n))

-- a code in a slot is the slot's entry
pub held_set : (slots : List (Option ℕ)) (i c : ℕ) → i < length slots →
    held_map (set slots i (Some c)) ≡ insert (held_map slots) i c
held_set slots i c inside =
    same_at_each _ _ (λ q. by_cases
    (λ e. get_held (set slots i (Some c)) q ∙ ap (λ k. get_or (set slots i (Some c)) k None) e
    ∙ get_or-set_same slots i (Some c) None inside
    ∙ sym (ap (get (insert (held_map slots) i c)) e ∙ get_insert_same (held_map slots) i c))
    (λ ne. get_held (set slots i (Some c)) q ∙ get_or-set_other slots i q (Some c) None ne
    ∙ sym (get_held slots q) ∙ sym (get_insert_other (held_map slots) i c q ne))
    (cases_eq q i))

-- an emptied slot has no entry
pub held_empty : (slots : List (Option ℕ)) (i : ℕ) → i < length slots →
    held_map (set slots i None) ≡ remove (held_map slots) i
held_empty slots i inside =
    same_at_each _ _ (λ q. by_cases
    (λ e. get_held (set slots i None) q ∙ ap (λ k. get_or (set slots i None) k None) e
    ∙ get_or-set_same slots i None None inside
    ∙ sym (ap (get (remove (held_map slots) i)) e ∙ get_remove_same (held_map slots) i))
    (λ ne. get_held (set slots i None) q ∙ get_or-set_other slots i q None None ne
    ∙ sym (get_held slots q) ∙ sym (get_remove_other (held_map slots) i q ne))
    (cases_eq q i))

-- what a root holds stands in its slot
pub held_there : (slots : List (Option ℕ)) (m : FinMap nat_cmp ℕ) (i root : ℕ) → held_map slots ≡ m → i ≡ root →
    get m root ≡ get_or slots i None
held_there slots m i root e same =
    ap (λ n. get n root) (sym e) ∙ get_held slots root ∙ ap (λ k. get_or slots k None) (sym same)

-- inside the slots the default plays no part
pub held_value : (slots : List (Option ℕ)) (i : ℕ) (d : Option ℕ) → i < length slots →
    get_or slots i d ≡ get_or slots i None
held_value [] i d h = absurd (omega arith)
held_value (x ∷ slots) zero d h = refl
held_value (x ∷ slots) (suc i) d h = held_value slots i d (omega arith)
