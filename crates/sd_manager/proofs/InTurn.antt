-- Nodes that are taken away one after the other with the uses of their lists: each might leave, and has left.
use Rattle.std.proofs.Common.{◌≡◌, ℕ, zero, suc, ◌+◌, ◌-◌, ◌≤◌, min, nat_lt, Bool, true, false}
use Rattle.std.proofs.Common.{if◌then◌else◌, List, [], ◌∷◌, Option, Some, None, unwrap_or, refl}
use Rattle.std.proofs.Common.{sym, ap, subst, ◌∙◌, arith}
use Rattle.std.proofs.lemmas.Bool.{cases_eq, ltb-true, ltb-false}
use Rattle.std.proofs.lemmas.List.Sums.{sum_by-cons}
use Rattle.std.specs.Option.{IsSome, option_map}
use Rattle.std.specs.Ordering.{nat_cmp}
use Rattle.std.specs.FinMap.{FinMap, get, insert}
use Rattle.sd_runs.proofs.Maps.{get_remove_same, get_remove_other}
use Rattle.sd_runs.proofs.Places.{by_cases}
use Rattle.sd_vtree.specs.Numbered.{Numbered}
use Rattle.sd_unique.specs.Nodes.{Nodes, IsNodes, key_at, or_else}
use Rattle.sd_unique.specs.Relinking.{IsIdle as IsIdleNode, removed, unlinked}
use Rattle.sd_unique.specs.Retiring.{AreCodesUsed, DropsCode, DropsCodes, HaveRetired, IsCodeUsed}
use Rattle.sd_unique.specs.Retiring.{none_retired as none_gone, one_more as one_gone}
use Rattle.sd_counts.specs.Counts.{Counts}
use Rattle.sd_counts.specs.Right.{AreOf}
use Rattle.sd_manager.specs.Table.{uses_in, uses_of_pair}
use Rattle.sd_manager.specs.Counting.{counts_one, AreCounted, DropsUses, IsCounted}
use Rattle.sd_manager.specs.Leaving.{MayLeave, HasLeft}
use Rattle.sd_manager.specs.Moving.{next_epoch}
use Rattle.sd_manager.specs.Retiring.{AreRetired, none_retired, one_more}
use Rattle.sd_manager.specs.Stored.{counted_roots, held_count, table_of, IsStored}
use Rattle.sd_manager.proofs.Counted.{counts_same, counts_other, drops_count, map_same}
use Rattle.sd_manager.proofs.CountsKept.{none_counted, unused_node}
use Rattle.sd_manager.proofs.Dropped.{AreUsed, counted_still, drops_both, drops_none, key_still, left_used}
use Rattle.sd_manager.proofs.Holding.{some_value}
use Rattle.sd_manager.proofs.Leaving.{left_counts, left_retired, left_stored, may_leave}
use Rattle.sd_manager.proofs.Retired.{idle_seen}
use Rattle.sd_manager.proofs.TakenAway.{gone_counted, gone_used, left_first, linked_list, others_kept}

-- each node has a count
abbrev HaveCounts : Nodes → Type 0
HaveCounts a = (n : ℕ) → IsSome (key_at a n) → IsSome (get a.uses n)

some_mapped : (f : ℕ → ℕ) (o : Option ℕ) → IsSome o → IsSome (option_map f o)
some_mapped f None h = cc
some_mapped f (Some k) h = refl

-- so it is after uses were dropped
counts_still : (a b : Nodes) (less : ℕ → ℕ) → DropsUses a b less → HaveCounts a → HaveCounts b
counts_still a b less h have n there =
    subst IsSome (sym (h.uses n))
    (some_mapped (λ k. k - less (2050 + n)) (get a.uses n) (have n (subst IsSome (key_still a b less n h) there)))

-- the codes of a list are counted still
all_still : (a b : Nodes) (less : ℕ → ℕ) (l : List (ℕ × ℕ)) → DropsUses a b less → AreCounted a l → AreCounted b l
all_still a b less [] h counted = tt
all_still a b less (e ∷ l) h counted = (
  (counted_still a b less e.0 h counted.0.0, counted_still a b less e.1 h counted.0.1),
  all_still a b less l h counted.1,
)

-- a code took a use
code_drops : (a b : Nodes) (code : ℕ) → HaveCounts a → IsCounted a code → DropsCode 2050 a b code →
    DropsUses a b (λ c. counts_one c code)
code_drops a b code have counted h = go (nat_lt code 2050) refl
  where
    go : (low : Bool) → nat_lt code 2050 ≡ low → DropsUses a b (λ c. counts_one c code)
    go true low =
        subst (λ x. DropsUses a x (λ c. counts_one c code)) (sym (h.none (ltb-true code 2050 low))) (record {
          rest = refl;
          uses = λ n. map_same (λ k. k - counts_one (2050 + n) code)
              (λ k. omega (
                arith,
                counts_other (2050 + n) code (λ same. omega (arith, ltb-true code 2050 low, same)),
              )) (get a.uses n);
        })
    go false high =
        let least = ltb-false code 2050 high in
        let drops = drops_count a b code least (have (code - 2050) (counted least)) (h.node least) in
        record { rest = drops.rest; uses = drops.uses }

-- a code that counts enough names a node that is used
code_used : (a : Nodes) (code : ℕ) (less : ℕ → ℕ) → HaveCounts a → IsCounted a code → AreUsed a less →
    ((c : ℕ) → counts_one c code ≤ less c) → IsCodeUsed 2050 a code
code_used a code less have counted used more = record {
  node = counted;
  used = λ least.
      let k = some_value (get a.uses (code - 2050)) (have (code - 2050) (counted least)) in
      let back : 2050 + (code - 2050) ≡ code = omega (arith, least) in
      omega (
        arith,
        used (code - 2050) k.0 k.1,
        more (2050 + (code - 2050)),
        counts_same (2050 + (code - 2050)) code (sym back),
        ap (λ o. unwrap_or o 0) k.1,
      );
}

-- the codes of a list took their uses
list_drops : (l : List (ℕ × ℕ)) (a b : Nodes) → HaveCounts a → AreCounted a l → DropsCodes 2050 a b l →
    DropsUses a b (λ c. uses_in c l)
list_drops [] a b have counted h =
    subst (λ x. DropsUses a x (λ c. uses_in c [])) (sym h) (drops_none a (λ c. uses_in c []) (λ c. refl))
list_drops (e ∷ l) a b have counted h =
    let first = code_drops a h.0 e.0 have counted.0.0 h.2 in
    let next = counts_still a h.0 (λ c. counts_one c e.0) first have in
    let second = code_drops h.0 h.1 e.1 next (counted_still a h.0 (λ c. counts_one c e.0) e.1 first counted.0.1) h.3 in
    let pair = drops_both a h.0 h.1 (λ c. counts_one c e.0) (λ c. counts_one c e.1) (λ c. uses_of_pair c e) first second
    (λ c. refl) in
    drops_both a h.1 b (λ c. uses_of_pair c e) (λ c. uses_in c l) (λ c. uses_in c (e ∷ l)) pair
    (list_drops l h.1 b (counts_still a h.1 (λ c. uses_of_pair c e) pair have)
    (all_still a h.1 (λ c. uses_of_pair c e) l pair counted.1) h.4)
    (λ c. sum_by-cons (uses_of_pair c) e l)

-- and had them
list_used : (l : List (ℕ × ℕ)) (a : Nodes) → HaveCounts a → AreCounted a l → AreUsed a (λ c. uses_in c l) →
    AreCodesUsed 2050 a l
list_used [] a have counted used = tt
list_used (e ∷ l) a have counted used = (
  code_used a e.0 (λ c. uses_in c (e ∷ l)) have counted.0.0 used (λ c. omega (arith, sum_by-cons (uses_of_pair c) e l)),
  λ b first.
      let less = code_drops a b e.0 have counted.0.0 first in
      let next = counts_still a b (λ c. counts_one c e.0) less have in
      let other = counted_still a b (λ c. counts_one c e.0) e.1 less counted.0.1 in
      let left = left_used a b (λ c. counts_one c e.0) (λ c. counts_one c e.1 + uses_in c l) (λ c. uses_in c (e ∷ l))
      less (λ c. omega (arith, sum_by-cons (uses_of_pair c) e l)) used in (
        code_used b e.1 (λ c. counts_one c e.1 + uses_in c l) next other left (λ c. omega arith),
        λ d second.
            let more = code_drops b d e.1 next other second in
            list_used l d (counts_still b d (λ c. counts_one c e.1) more next)
            (all_still b d (λ c. counts_one c e.1) l more
            (all_still a b (λ c. counts_one c e.0) l less counted.1))
            (left_used b d (λ c. counts_one c e.1) (λ c. uses_in c l) (λ c. counts_one c e.1 + uses_in c l) more
            (λ c. omega arith) left),
      ),
)

-- one node

module _ (a : Nodes) (valid : IsNodes a) (n : ℕ) (may : MayLeave a n) (key : ℕ × List (ℕ × ℕ))
    (at : get a.linked n ≡ Some key) where
  abbrev gone : Nodes
  gone = removed (unlinked a n key) n key.1

  gone_is : (k : ℕ × List (ℕ × ℕ)) → get a.linked n ≡ Some k → gone ≡ removed (unlinked a n k) n k.1
  gone_is k e =
      let both : Some key ≡ Some k = sym at ∙ e in
      let same : key ≡ k = cc in
      ap (λ x. removed (unlinked a n x) n x.1) same

  gone_has_counts : HaveCounts gone
  gone_has_counts q there =
      by_cases
      (λ same.
      let none : key_at gone q ≡ None =
      ap (key_at gone) same
      ∙ ap (λ o. or_else o (get gone.detached n)) (get_remove_same a.linked n)
      ∙ get_remove_same (insert a.detached n key) n in
      let k = some_value (key_at gone q) there in
      let bad : None ≡ Some k.0 = sym none ∙ k.1 in
      absurd (cc))
      (λ ne.
      let k = some_value (key_at a q) (subst IsSome (others_kept a n key q ne) there) in
      subst IsSome (sym (get_remove_other a.uses n q ne)) (valid.counted q k.0 k.1))
      (cases_eq q n)

  -- what the codes of its list name is used
  pub gone_codes_used : AreCodesUsed 2050 gone key.1
  gone_codes_used =
      let list = linked_list a n key at in
      list_used key.1 gone gone_has_counts (subst (AreCounted gone) list (gone_counted a n may gone gone_is))
      (subst (λ l. AreUsed gone (λ c. uses_in c l)) list (gone_used a n may gone gone_is))

  -- it has left
  pub gone_has_left : (d : Nodes) → DropsCodes 2050 gone d key.1 → (k : ℕ × List (ℕ × ℕ)) →
      get a.linked n ≡ Some k → HasLeft a d n k
  gone_has_left d drops =
      let list = linked_list a n key at in
      left_first a n may gone gone_is d
      (subst (λ l. DropsUses gone d (λ c. uses_in c l)) (sym list)
      (list_drops key.1 gone d gone_has_counts (subst (AreCounted gone) list (gone_counted a n may gone gone_is))
      drops))

-- the epoch after so many
abbrev pub late_epoch : ℕ → ℕ → ℕ
late_epoch e zero = e
late_epoch e (suc count) = next_epoch (late_epoch e count)

-- it is the sum, or the last one
pub late_is : (e count : ℕ) → e ≤ 18446744073709551615 → late_epoch e count ≡ min (e + count) 18446744073709551615
late_is e zero last = let same : e ≡ min (e + 0) 18446744073709551615 = omega (arith, last) in same
late_is e (suc count) last =
    go (late_epoch e count) (late_is e count last) (nat_lt (late_epoch e count) 18446744073709551615) refl
  where
    go : (d : ℕ) → d ≡ min (e + count) 18446744073709551615 → (b : Bool) → nat_lt d 18446744073709551615 ≡ b →
        (if b then d + 1 else d) ≡ min (e + suc count) 18446744073709551615
    go d is true less = omega (arith, is, ltb-true d 18446744073709551615 less)
    go d is false less = omega (arith, is, ltb-false d 18446744073709551615 less)

-- the nodes of a manager

module _ (v : Numbered) (m : FinMap nat_cmp ℕ) (g : Option ℕ) (first : Nodes) (e : ℕ)
    (begun : IsStored first (table_of v first m e g)) (on : Bool) (w : Counts)
    (of : AreOf first (held_count (counted_roots on m)) w) (none : w.total ≡ 0) where
  -- the manager is kept after each of them
  pub record IsInTurn (a : Nodes) (count : ℕ) : Type 0 where
    pub stored : IsStored a (table_of v a m (late_epoch e count) g)
    pub counted : AreOf a (held_count (counted_roots on m)) w
    pub retired : AreRetired (table_of v first m e g) (table_of v a m (late_epoch e count) g)

  pub in_turn : (a : Nodes) (count : ℕ) → HaveRetired 2050 first a count → IsInTurn a count
  in_turn a count none_gone = record { stored = begun; counted = of; retired = none_retired }
  in_turn d (suc _) (one_gone {a = a} {n = n} {count = count} {key = key} have has) =
      let s = in_turn a count have in
      let late = late_epoch e count in
      let idle = idle_seen v a m late g s.stored n has.idle in
      let may = may_leave v a m late g s.stored n idle in
      let left = gone_has_left a s.stored.valid n may key has.was d has.drops in
      record {
        stored = left_stored v a m late g s.stored n idle d left has.nodes (late_epoch e (suc count)) refl;
        counted = left_counts v a m late g s.stored n idle d left has.nodes (held_count (counted_roots on m)) w
            s.counted (none_counted a (held_count (counted_roots on m)) w n s.stored.valid s.counted none)
            (unused_node v a m late g s.stored on n idle.unused).free;
        retired = one_more s.retired idle
            (left_retired v a m late g s.stored n idle d left has.nodes (late_epoch e (suc count)) refl);
      }

  -- so it is at the epoch that is the sum, or the last one
  pub all_in_turn : (a : Nodes) (count late : ℕ) → e ≤ 18446744073709551615 →
      late ≡ min (e + count) 18446744073709551615 → HaveRetired 2050 first a count →
      IsStored a (table_of v a m late g) × AreOf a (held_count (counted_roots on m)) w
      × AreRetired (table_of v first m e g) (table_of v a m late g)
  all_in_turn a count late last is have =
      let s = in_turn a count have in
      let same : late_epoch e count ≡ late = late_is e count last ∙ sym is in (
        subst (λ x. IsStored a (table_of v a m x g)) same s.stored,
        s.counted,
        subst (λ x. AreRetired (table_of v first m e g) (table_of v a m x g)) same s.retired,
      )

  -- and each idle one may go
  pub in_turn_used : (a : Nodes) (count n : ℕ) (key : ℕ × List (ℕ × ℕ)) → HaveRetired 2050 first a count →
      IsIdleNode a n → get a.linked n ≡ Some key → AreCodesUsed 2050 (removed (unlinked a n key) n key.1) key.1
  in_turn_used a count n key have idle at =
      let s = in_turn a count have in
      let late = late_epoch e count in
      gone_codes_used a s.stored.valid n
      (may_leave v a m late g s.stored n (idle_seen v a m late g s.stored n idle)) key at
