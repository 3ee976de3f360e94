-- Codes that have ranks or stand in groups.
use Rattle.std.proofs.Common.{◌≡◌, ◌≢◌, ◌⊎◌, inl, inr, ℕ, ◌==◌, true, false, List, [], ◌∷◌, ◌++◌}
use Rattle.std.proofs.Common.{Option, Some, None, refl, sym, ◌∙◌, ap, subst}
use Rattle.std.proofs.Common.{if◌then◌else◌}
use Rattle.std.specs.List.{AllByRecursion}
use Rattle.std.specs.Option.{IsSome}
use Rattle.std.specs.BTreeMap as tree
use Rattle.std.specs.BTreeMap.{BTreeMap}
use Rattle.std.specs.Ordering.{nat_cmp}
use Rattle.std.specs.declared.vec.Vec.{Vec}
use Rattle.std.specs.declared.alloc.Global.{Global}
use Rattle.std.proofs.Math.Dec.{eqb}
use Rattle.std.proofs.lemmas.Bool.Decides.{eqb_tells}
use Rattle.std.proofs.lemmas.Option.{same_Some}
use Rattle.sd_laws.proofs.Lists.{IsAmong, all_weaker}
use Rattle.sd_file.specs.declared.known.Ordered.{Ordered}
use Rattle.sd_file.specs.declared.order.Found.{Found}
use Rattle.sd_file.specs.Ordered.{Rank, rank_of}
use Rattle.sd_file.specs.Ranks.{IsLeft, BothHaveRankOrGroup, KeepRankOrGroup, KeepRanks, IsAdded, IsFoundAlso, items_of}
use Rattle.sd_file.proofs.Ranking.{if_tells, is_there}

-- one code more in a list

-- what was there is there
among_front : {X : Type 0} (xs : List X) (c x : X) → IsAmong x xs → IsAmong x (xs ++ c ∷ [])
among_front [] c x m = absurd m
among_front (y ∷ xs) c x (inl e) = inl e
among_front (y ∷ xs) c x (inr m) = inr (among_front xs c x m)

-- so is the last one
among_last : {X : Type 0} (xs : List X) (c : X) → IsAmong c (xs ++ c ∷ [])
among_last [] c = inl refl
among_last (y ∷ xs) c = inr (among_last xs c)

-- and no other
among_pushed : {X : Type 0} (xs : List X) (c x : X) → IsAmong x (xs ++ c ∷ []) → IsAmong x xs ⊎ (x ≡ c)
among_pushed [] c x (inl e) = inr e
among_pushed [] c x (inr m) = absurd m
among_pushed (y ∷ xs) c x (inl e) = inl (inl e)
among_pushed (y ∷ xs) c x (inr m) = go (among_pushed xs c x m)
  where
    go : IsAmong x xs ⊎ (x ≡ c) → IsAmong x (y ∷ xs) ⊎ (x ≡ c)
    go (inl k) = inl (inr k)
    go (inr e) = inr e

-- a code that is added to the group of a position is found too
pub added_also : (old new : Found) (p c : ℕ) → IsAdded old new p c → IsFoundAlso old new c
added_also old new p c k = record { here = here; kept = kept; only = only }
  where
    here : IsLeft new.groups c
    here =
        record {
          position = p;
          group = k.group;
          is = k.is;
          among = subst (IsAmong c) (sym k.items) (among_last (items_of (tree.get nat_cmp old.groups p)) c);
        }

    kept : (b : ℕ) → IsLeft old.groups b → IsLeft new.groups b
    kept b h = go (eqb_tells h.position p)
      where
        go : ((eqb h.position p ≡ true) × (h.position ≡ p)) ⊎ ((eqb h.position p ≡ false) × (h.position ≢ p)) →
            IsLeft new.groups b
        go (inl w) =
            let was : tree.get nat_cmp old.groups p ≡ Some h.group =
            ap (tree.get nat_cmp old.groups) (sym w.1) ∙ h.is in
            let m : IsAmong b (items_of (tree.get nat_cmp old.groups p)) =
            subst (λ o. IsAmong b (items_of o)) (sym was) h.among in
            record {
              position = p;
              group = k.group;
              is = k.is;
              among =
                  subst (IsAmong b) (sym k.items) (among_front (items_of (tree.get nat_cmp old.groups p)) c b m);
            }
        go (inr w) =
            record {
              position = h.position;
              group = h.group;
              is = k.others h.position w.1 ∙ h.is;
              among = h.among;
            }

    was_or : (b : ℕ) (o : Option (Vec ℕ Global)) → tree.get nat_cmp old.groups p ≡ o →
        IsAmong b (items_of o) ⊎ (b ≡ c) → (b ≡ c) ⊎ IsLeft old.groups b
    was_or b None e (inl m) = absurd m
    was_or b None e (inr k) = inl k
    was_or b (Some v) e (inl m) = inr (record { position = p; group = v; is = e; among = m })
    was_or b (Some v) e (inr k) = inl k

    only : (b : ℕ) → IsLeft new.groups b → (b ≡ c) ⊎ IsLeft old.groups b
    only b h = go (eqb_tells h.position p)
      where
        go : ((eqb h.position p ≡ true) × (h.position ≡ p)) ⊎ ((eqb h.position p ≡ false) × (h.position ≢ p)) →
            (b ≡ c) ⊎ IsLeft old.groups b
        go (inl w) =
            let same : k.group ≡ h.group =
            same_Some k.group h.group (sym k.is ∙ ap (tree.get nat_cmp new.groups) (sym w.1) ∙ h.is) in
            let m : IsAmong b (items_of (tree.get nat_cmp old.groups p) ++ c ∷ []) =
            subst (IsAmong b) k.items (subst (λ v. IsAmong b v.items) (sym same) h.among) in
            was_or b (tree.get nat_cmp old.groups p) refl
            (among_pushed (items_of (tree.get nat_cmp old.groups p)) c b m)
        go (inr w) =
            inr (record {
              position = h.position;
              group = h.group;
              is = sym (k.others h.position w.1) ∙ h.is;
              among = h.among;
            })

-- what stays when a code gets a rank

pub given_keeps : (old new : Ordered) (c : ℕ) (r : Rank) →
    ((b : ℕ) → rank_of new b ≡ (if b == c then Some r else rank_of old b)) → KeepRanks old new
given_keeps old new c r given b s = go (if_tells b c (Some r) (rank_of old b))
  where
    go : ((b ≡ c) × ((if b == c then Some r else rank_of old b) ≡ Some r))
        ⊎ ((b ≢ c) × ((if b == c then Some r else rank_of old b) ≡ rank_of old b)) → IsSome (rank_of new b)
    go (inl k) = subst IsSome (sym (given b ∙ k.1)) (is_there r)
    go (inr k) = subst IsSome (sym (given b ∙ k.1)) s

-- the code itself has one
pub given_has : (old new : Ordered) (c : ℕ) (r : Rank) →
    ((b : ℕ) → rank_of new b ≡ (if b == c then Some r else rank_of old b)) → IsSome (rank_of new c)
given_has old new c r given = go (if_tells c c (Some r) (rank_of old c))
  where
    go : ((c ≡ c) × ((if c == c then Some r else rank_of old c) ≡ Some r))
        ⊎ ((c ≢ c) × ((if c == c then Some r else rank_of old c) ≡ rank_of old c)) → IsSome (rank_of new c)
    go (inl k) = subst IsSome (sym (given c ∙ k.1)) (is_there r)
    go (inr k) = absurd (k.0 refl)

-- what has a rank or stands in a group, after a step

pub stand_again : (old new : Ordered) (before after : BTreeMap ℕ (Vec ℕ Global)) → KeepRanks old new →
    ((c : ℕ) → IsLeft before c → IsLeft after c) → KeepRankOrGroup old new before after
stand_again old new before after ranks left c (inl r) = inl (ranks c r)
stand_again old new before after ranks left c (inr l) = inr (left c l)

-- pairs that stood still do
pub pairs_still : (old new : Ordered) (before after : BTreeMap ℕ (Vec ℕ Global)) →
    KeepRankOrGroup old new before after → (l : List (ℕ × ℕ)) → AllByRecursion (BothHaveRankOrGroup old before) l →
    AllByRecursion (BothHaveRankOrGroup new after) l
pairs_still old new before after keeps_all l h =
    all_weaker (BothHaveRankOrGroup old before) (BothHaveRankOrGroup new after)
    (λ e b. (keeps_all e.0 b.0, keeps_all e.1 b.1)) l h
