-- Where each node is used, each is reached: whoever uses a node stands higher, and the vtree ends at its root.
use Rattle.std.proofs.Common.{◌≡◌, ◌≢◌, ◌⊎◌, inl, inr, ℕ, zero, suc, ◌+◌, ◌<◌, List, length, Option}
use Rattle.std.proofs.Common.{Some, None, refl, sym, ◌∙◌, ap, subst, arith}
use Rattle.std.specs.Option.{IsSome}
use Rattle.std.specs.FinMap.{get}
use Rattle.std.proofs.lemmas.Option.{same_Some}
use Rattle.sd_vtree.specs.Numbered.{Numbered, NumberedNode, numbers, subtree}
use Rattle.sd_vtree.proofs.Subtrees.{once_numbered}
use Rattle.sd_laws.specs.Values.{StandsIn}
use Rattle.sd_manager.specs.Table.{Table}
use Rattle.sd_manager.specs.Valid.{IsTable}
use Rattle.sd_manager.proofs.AtRest.{all_shown, now_orderly, below_user}
use Rattle.sd_manager.proofs.Ranks.{subtree_length, under_shorter}
use Rattle.sd_sweep.specs.Reached.{IsReachedFrom, reached_first, reached_below, IsHeldBy, IsInRun, IsReached}

-- users

-- A linked node is used: a root holds it, or it stands in a loose run or in the list of a linked node.
pub data IsUsed (t : Table) (n : ℕ) : Type 0 where
  first_use : IsHeldBy t n ⊎ IsInRun t n → IsUsed t n
  list_use : (m p : ℕ) (l : List (ℕ × ℕ)) → get t.linked m ≡ Some (p, l) → StandsIn (2050 + n) l → IsUsed t n

-- what is reached is used
pub reached_used : (t : Table) {n : ℕ} → IsReached t n → IsUsed t n
reached_used t (reached_first h) = first_use h
reached_used t (reached_below {m = m} {place = p} {list = l} h e s) = list_use m p l e s

-- each node of C is one of the first, or stands in the list of a node of C
abbrev pub IsUsedWithin : Table → (ℕ → Type 0) → (ℕ → Type 0) → Type 0
IsUsedWithin t First C = (n : ℕ) → C n → First n
    ⊎ ((m : ℕ) × (p : ℕ) × (l : List (ℕ × ℕ)) × C m × (get t.linked m ≡ Some (p, l)) × StandsIn (2050 + n) l)

-- climbing up from a node whose subtree has all but so many nodes
climb : (t : Table) → (i : IsTable t) → t.moving ≡ None → (First C : ℕ → Type 0) → IsUsedWithin t First C → (k : ℕ)
    (n p : ℕ) (l : List (ℕ × ℕ)) (z : Numbered) → C n → get t.linked n ≡ Some (p, l) → subtree t.vtree p ≡ Some z →
    length (numbers t.vtree) < k + length (numbers z) → IsReachedFrom First (get t.linked) n
climb t i still First C used zero n p l z c e at fuel =
    absurd (omega (arith, fuel, subtree_length t.vtree z p at))
climb t i still First C used (suc k) n p l z c e at fuel =
    go (λ m q j y d f a lt. climb t i still First C used k m q j y d f a lt) (used n c)
  where
    go : ((m q : ℕ) (j : List (ℕ × ℕ)) (y : Numbered) → C m → get t.linked m ≡ Some (q, j) →
        subtree t.vtree q ≡ Some y → length (numbers t.vtree) < k + length (numbers y) →
        IsReachedFrom First (get t.linked) m) →
        First n
        ⊎ ((m : ℕ) × (p : ℕ) × (l : List (ℕ × ℕ)) × C m × (get t.linked m ≡ Some (p, l)) × StandsIn (2050 + n) l) →
        IsReachedFrom First (get t.linked) n
    go up (inl h) = reached_first h
    go up (inr w) =
        let b = below_user t i still w.0 n w.1 p w.2 l w.4 e w.5 in
        let y = under_shorter t.vtree (once_numbered t.vtree i.numbered) p w.1 b.0 b.1 in
        let same : y.0 ≡ z = same_Some y.0 z (sym y.1 ∙ at) in
        let smaller : length (numbers z) < length (numbers b.0.part) =
        subst (λ x. length (numbers x) < length (numbers b.0.part)) same y.2 in
        reached_below (up w.0 w.1 w.2 b.0.part w.3 w.4 b.0.is (omega (arith, fuel, smaller))) w.4 w.5

-- A set of linked nodes each of which is one of the first or used by one of the set has none that is not reached from
-- the first ones. With the nodes that are counted as live this says that no other is counted than what is held.
pub climbed : (t : Table) → (i : IsTable t) → t.moving ≡ None → (First C : ℕ → Type 0) → IsUsedWithin t First C →
    (n : ℕ) → C n → IsSome (get t.linked n) → IsReachedFrom First (get t.linked) n
climbed t i still First C used n c h = go (get t.linked n) refl h
  where
    go : (o : Option (ℕ × List (ℕ × ℕ))) → get t.linked n ≡ o → IsSome o → IsReachedFrom First (get t.linked) n
    go None e k = absurd (cc (k))
    go (Some key) e k =
        let s = all_shown t i still n h in
        let p = (now_orderly t i).placed n key.0 key.1 s e in
        climb t i still First C used (suc (length (numbers t.vtree))) n key.0 key.1
        (NumberedNode key.0 p.left p.right) c e p.at (omega arith)

-- and what is reached from the first ones is in each set that has them and is closed under lists
pub reached_within : (t : Table) (First C : ℕ → Type 0) → ((n : ℕ) → First n → C n) →
    ((m n p : ℕ) (l : List (ℕ × ℕ)) → C m → get t.linked m ≡ Some (p, l) → StandsIn (2050 + n) l → C n) → {n : ℕ} →
    IsReachedFrom First (get t.linked) n → C n
reached_within t First C first below (reached_first {n = n} h) = first n h
reached_within t First C first below (reached_below {m = m} {n = n} {place = p} {list = l} h e s) =
    below m n p l (reached_within t First C first below h) e s

-- where each linked node is used, each is reached: so a sweep that leaves no unused node leaves just what is reached
pub used_reached : (t : Table) → (i : IsTable t) → t.moving ≡ None → ((n : ℕ) → IsSome (get t.linked n) → IsUsed t n) →
    (n : ℕ) → IsSome (get t.linked n) → IsReached t n
used_reached t i still used n h =
    climbed t i still (λ k. IsHeldBy t k ⊎ IsInRun t k) (λ k. IsSome (get t.linked k)) within n h h
  where
    user : (n : ℕ) → IsUsed t n → (IsHeldBy t n ⊎ IsInRun t n)
        ⊎ ((m : ℕ) × (p : ℕ) × (l : List (ℕ × ℕ)) × IsSome (get t.linked m) × (get t.linked m ≡ Some (p, l))
        × StandsIn (2050 + n) l)
    user n (first_use h) = inl h
    user n (list_use m p l e s) = inr (m, p, l, subst IsSome (sym e) refl, e, s)

    within : IsUsedWithin t (λ k. IsHeldBy t k ⊎ IsInRun t k) (λ k. IsSome (get t.linked k))
    within n h = user n (used n h)

-- one node less

-- At most an unused node was removed, and all else stayed.
pub record HasRemoved (old new : Table) (n : ℕ) : Type 0 where
  pub unused : ¬ IsUsed old n
  pub kept : (m : ℕ) (k : ℕ × List (ℕ × ℕ)) → m ≢ n → get old.linked m ≡ Some k → get new.linked m ≡ Some k
  pub only : (m : ℕ) (k : ℕ × List (ℕ × ℕ)) → get new.linked m ≡ Some k → get old.linked m ≡ Some k
  pub roots : new.roots ≡ old.roots
  pub loose : new.loose ≡ old.loose

-- what was reached is reached
pub removed_reached : (old new : Table) (n : ℕ) → HasRemoved old new n → {m : ℕ} → IsReached old m → IsReached new m
removed_reached old new n h (reached_first {n = m} (inl k)) =
    reached_first (inl (k.0, ap (λ r. get r k.0) h.roots ∙ k.1))
removed_reached old new n h (reached_first {n = m} (inr k)) =
    reached_first (inr (k.0, k.1, ap (λ r. get r k.0) h.loose ∙ k.2, k.3))
removed_reached old new n h (reached_below {m = i} {n = m} {place = p} {list = l} r e s) =
    reached_below (removed_reached old new n h r)
    (h.kept i (p, l) (λ z. h.unused (subst (IsUsed old) z (reached_used old r))) e) s

-- and nothing else is
pub reached_removed : (old new : Table) (n : ℕ) → HasRemoved old new n → {m : ℕ} → IsReached new m → IsReached old m
reached_removed old new n h (reached_first {n = m} (inl k)) =
    reached_first (inl (k.0, ap (λ r. get r k.0) (sym h.roots) ∙ k.1))
reached_removed old new n h (reached_first {n = m} (inr k)) =
    reached_first (inr (k.0, k.1, ap (λ r. get r k.0) (sym h.loose) ∙ k.2, k.3))
reached_removed old new n h (reached_below {m = i} {n = m} {place = p} {list = l} r e s) =
    reached_below (reached_removed old new n h r) (h.only i (p, l) e) s
