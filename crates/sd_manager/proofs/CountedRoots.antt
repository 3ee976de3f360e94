-- Roots come and go while they are counted or are not, and all roots are counted where none was.
use Rattle.std.proofs.Common.{◌≡◌, ℕ, zero, suc, ◌+◌, ◌-◌, ◌^◌, ◌<◌, ◌≤◌, Bool, true, false}
use Rattle.std.proofs.Common.{List, [], ◌∷◌, ◌++◌, length, take, get_or, Option, Some, None, refl, sym, ap, subst, ◌∙◌}
use Rattle.std.proofs.Common.{arith}
use Rattle.std.proofs.lemmas.List.{take_more, take_all, get_or_past, length-take}
use Rattle.std.specs.Ordering.{nat_cmp}
use Rattle.std.specs.FinMap.{FinMap, empty, get, insert, remove, len, len-empty}
use Rattle.sd_runs.proofs.Maps.{same_at_each}
use Rattle.sd_vtree.specs.Numbered.{Numbered}
use Rattle.sd_unique.specs.Nodes.{Nodes}
use Rattle.sd_counts.specs.Counts.{Counts, Adds, live_at}
use Rattle.sd_counts.specs.Right.{AreOf, IsThere}
use Rattle.sd_manager.specs.Counting.{counts_one}
use Rattle.sd_manager.specs.Recounting.{MayCount}
use Rattle.sd_manager.specs.Stored.{table_of, counted_roots, held_count, held_map, IsStored}
use Rattle.sd_manager.proofs.CountsKept.{counts_other_uses, held_live, nodes_few}
use Rattle.sd_manager.proofs.CountsAfter.{counts_root, counts_left, counts_rebound}
use Rattle.sd_manager.proofs.Held.{get_held, held_push}
use Rattle.sd_manager.proofs.Holding.{known_counted, len_more}

-- where roots are not counted the counts stay, whatever roots there are
stays : (a b : Nodes) (v w : Counts) → AreOf a (held_count empty) v → b ≡ record a { uses = b.uses } → w ≡ v →
    AreOf b (held_count empty) w
stays a b v w of rest same =
    subst (AreOf b (held_count empty)) (sym same) (counts_other_uses a b (held_count empty) v of rest)

module _ (a : Nodes) (m : FinMap nat_cmp ℕ) (v : Counts) where
  -- a root more
  pub counted_root : (on : Bool) → AreOf a (held_count (counted_roots on m)) v → (b : Nodes) (root c : ℕ) →
      get m root ≡ None → len m < 2 ^ 32 - 1 → IsThere a c → b ≡ record a { uses = b.uses } → (w : Counts) →
      (on ≡ true → Adds v w (λ d. counts_one d c)) → (on ≡ false → w ≡ v) →
      AreOf b (held_count (counted_roots on (insert m root c))) w
  counted_root true of b root c none room there rest w adds same =
      counts_root a m v of b root c none room there rest w (adds refl)
  counted_root false of b root c none room there rest w adds same = stays a b v w of rest (same refl)

  -- a root less
  pub counted_left : (on : Bool) → AreOf a (held_count (counted_roots on m)) v → (root c : ℕ) →
      get m root ≡ Some c → (w : Counts) → (on ≡ true → Adds w v (λ d. counts_one d c)) → (on ≡ false → w ≡ v) →
      AreOf a (held_count (counted_roots on (remove m root))) w
  counted_left true of root c some w less same = counts_left a m v of root c some w (less refl)
  counted_left false of root c some w less same = stays a a v w of refl (same refl)

  -- a root that holds another code
  pub counted_rebound : (on : Bool) → AreOf a (held_count (counted_roots on m)) v → (b d : Nodes) (root c new : ℕ) →
      get m root ≡ Some c → len m < 2 ^ 32 → IsThere a new → b ≡ record a { uses = b.uses } →
      d ≡ record b { uses = d.uses } → (w x : Counts) → (on ≡ true → Adds w v (λ k. counts_one k c)) →
      (on ≡ false → w ≡ v) → (on ≡ true → Adds w x (λ k. counts_one k new)) → (on ≡ false → x ≡ w) →
      AreOf d (held_count (counted_roots on (insert m root new))) x
  counted_rebound true of b d root c new some few there first second w x less same more again =
      counts_rebound a m v of b d root c new some few there first second w x (less refl) (more refl)
  counted_rebound false of b d root c new some few there first second w x less same more again =
      stays b d w x (stays a b v w of first (same refl)) second (again refl)

  -- what a root holds is used where roots are counted
  pub counted_live : (on : Bool) → AreOf a (held_count (counted_roots on m)) v → (root c : ℕ) → get m root ≡ Some c →
      on ≡ true → 2050 ≤ c → 0 < live_at v (c - 2050)
  counted_live on of root c some is =
      held_live a m v root c (subst (λ b. AreOf a (held_count (counted_roots b m)) v) is of) some

-- slots, one after another

-- an empty slot more is no entry more
pushed_none : (slots : List (Option ℕ)) (q : ℕ) → get_or (slots ++ None ∷ []) q None ≡ get_or slots q None
pushed_none [] zero = refl
pushed_none [] (suc q) = refl
pushed_none (x ∷ slots) zero = refl
pushed_none (x ∷ slots) (suc q) = pushed_none slots q

held_push_none : (slots : List (Option ℕ)) → held_map (slots ++ None ∷ []) ≡ held_map slots
held_push_none slots =
    same_at_each _ _ (λ q. get_held (slots ++ None ∷ []) q ∙ pushed_none slots q ∙ sym (get_held slots q))

module _ (slots : List (Option ℕ)) (i : ℕ) (inside : i < length slots) where
  before : length (take i slots) ≡ i
  before = omega (arith, length-take i slots, inside)

  -- the next slot is empty, or has a code
  pub next_none : get_or slots i None ≡ None → held_map (take (i + 1) slots) ≡ held_map (take i slots)
  next_none is =
      ap held_map (take_more slots i None inside ∙ ap (λ o. take i slots ++ o ∷ []) is)
      ∙ held_push_none (take i slots)

  pub next_some : (c : ℕ) → get_or slots i None ≡ Some c →
      held_map (take (i + 1) slots) ≡ insert (held_map (take i slots)) i c
  next_some c is =
      ap held_map (take_more slots i None inside ∙ ap (λ o. take i slots ++ o ∷ []) is)
      ∙ held_push (take i slots) c i (sym before)

  -- which no slot before has
  pub next_new : get (held_map (take i slots)) i ≡ None
  next_new = get_held (take i slots) i ∙ get_or_past (take i slots) i None (omega (arith, before))

-- there are at most as many roots as slots
one_most : (slots : List (Option ℕ)) (i : ℕ) → i < length slots → len (held_map (take i slots)) ≤ i →
    (o : Option ℕ) → get_or slots i None ≡ o → len (held_map (take (i + 1) slots)) ≤ i + 1
one_most slots i inside most None is = omega (arith, most, ap len (next_none slots i inside is))
one_most slots i inside most (Some c) is =
    omega (
      arith,
      most,
      ap len (next_some slots i inside c is),
      len_more (held_map (take i slots)) i c (next_new slots i inside),
    )

held_most : (slots : List (Option ℕ)) (i : ℕ) → i ≤ length slots → len (held_map (take i slots)) ≤ i
held_most slots zero inside = omega (arith, len-empty nat_cmp ℕ)
held_most slots (suc i) inside =
    let next : i + 1 ≡ suc i = omega arith in
    subst (λ k. len (held_map (take k slots)) ≤ k) next
    (one_most slots i (omega (arith, inside)) (held_most slots i (omega (arith, inside))) (get_or slots i None) refl)

-- so far all codes in slots were counted
abbrev pub HasCounted : List (Option ℕ) → Counts → Counts → ℕ → Type 0
HasCounted slots v w i =
    (a : Nodes) → MayCount a (held_map slots) → AreOf a (held_count empty) v →
    AreOf a (held_count (held_map (take i slots))) w

-- an empty slot more
pub counted_none : (slots : List (Option ℕ)) (v w : Counts) (i : ℕ) → i < length slots → get_or slots i None ≡ None →
    HasCounted slots v w i → HasCounted slots v w (i + 1)
counted_none slots v w i inside is h a may of =
    subst (λ m. AreOf a (held_count m) w) (sym (next_none slots i inside is)) (h a may of)

-- the code in a slot is that of a node which is there
pub slot_there : (slots : List (Option ℕ)) (a : Nodes) (i c : ℕ) → MayCount a (held_map slots) →
    get_or slots i None ≡ Some c → IsThere a c
slot_there slots a i c may is = may.there i c (get_held slots i ∙ is)

-- a code more
pub counted_some : (slots : List (Option ℕ)) (v w x : Counts) (i c : ℕ) → i < length slots → length slots < 2 ^ 32 →
    get_or slots i None ≡ Some c → HasCounted slots v w i → Adds w x (λ d. counts_one d c) →
    HasCounted slots v x (i + 1)
counted_some slots v w x i c inside few is h adds a may of =
    subst (λ m. AreOf a (held_count m) x) (sym (next_some slots i inside c is))
    (counts_root a (held_map (take i slots)) w (h a may of) a i c (next_new slots i inside)
    (omega (arith, held_most slots i (omega arith), few)) (slot_there slots a i c may is) refl x adds)

-- all slots
pub counted_all : (slots : List (Option ℕ)) (v w : Counts) (i : ℕ) → length slots ≤ i → HasCounted slots v w i →
    (a : Nodes) → MayCount a (held_map slots) → AreOf a (held_count empty) v →
    AreOf a (held_count (held_map slots)) w
counted_all slots v w i done h a may of =
    subst (λ l. AreOf a (held_count (held_map l)) w) (take_all i slots done) (h a may of)

-- roots of a valid table outside a move may be counted
pub may_count : (v : Numbered) (a : Nodes) (m : FinMap nat_cmp ℕ) (e : ℕ) (g : Option ℕ) →
    IsStored a (table_of v a m e g) → g ≡ None → MayCount a m
may_count v a m e g stored still = record {
  valid = stored.valid;
  few = nodes_few v a m e g stored;
  there = λ root c some. known_counted v a m e g c stored.table.numbered (stored.table.held still root c some);
}
