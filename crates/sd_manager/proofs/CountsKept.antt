-- The counts of what roots hold stay right where roots come and go and where the nodes change.
use Rattle.std.proofs.Common.{◌≡◌, ◌≢◌, ℕ, zero, suc, ◌+◌, ◌-◌, ◌^◌, ◌<◌, ◌≤◌, cond, eqb, Bool}
use Rattle.std.proofs.Common.{List, [], ◌∷◌, length, Option, Some, None, unwrap_or, refl, sym, ap, subst, ◌∙◌, arith}
use Rattle.std.proofs.Common.{true, false, get_or}
use Rattle.std.proofs.lemmas.Bool.{cases_eq}
use Rattle.std.specs.Option.{IsSome, option_map}
use Rattle.std.specs.Ordering.{nat_cmp}
use Rattle.std.specs.FinMap.{FinMap, empty, get, insert, remove, len, values}
use Rattle.sd_runs.proofs.Places.{by_cases}
use Rattle.sd_vtree.specs.Numbered.{Numbered}
use Rattle.sd_unique.specs.Nodes.{Nodes, IsNodes, key_at as key_of_nodes, total_length as length_of_nodes}
use Rattle.sd_counts.specs.Counts.{Counts, IsRelisted, IsSettled, counted_at, live_at}
use Rattle.sd_counts.specs.Right.{AreClosed, AreOf, IsThere, list_at, sum_counted}
use Rattle.sd_counts.specs.Uses.{IsWithin, AreWithin, uses_in}
use Rattle.sd_counts.proofs.OnStack.{not_both}
use Rattle.sd_counts.proofs.StaysRight.{right_among, right_relisted}
use Rattle.sd_counts.proofs.StaysRight.{live_most, uses_live, length_total, relisted_fits}
use Rattle.sd_counts.proofs.Sums.{sum_some}
use Rattle.sd_manager.specs.Table.{uses_of}
use Rattle.sd_manager.specs.Counting.{counts_one, AreCounted}
use Rattle.sd_manager.specs.Stored.{table_of, counted_roots, held_count, IsStored}
use Rattle.sd_manager.specs.Recounting.{HasOtherList, IsUnused}
use Rattle.sd_manager.proofs.Counted.{counts_same}
use Rattle.sd_manager.proofs.GivenBack.{list_counted}
use Rattle.sd_manager.proofs.Holding.{some_value, length_values, sum_ones, at_most_one, uses_in_le}
use Rattle.sd_manager.proofs.Reading.{key_again}
use Rattle.sd_manager.proofs.Standing.{no_uses}
use Rattle.sd_manager.proofs.Totals.{total_new, total_without, total_replaced}
use Rattle.sd_manager.proofs.Unused.{not_in_node}
use Rattle.sd_manager.proofs.Valid.{no_total}

-- roots

-- a number of nodes is held by few roots
pub held_few : (m : FinMap nat_cmp ℕ) (n : ℕ) → len m < 2 ^ 32 → held_count m n < 2 ^ 32
held_few m n few =
    omega (
      arith,
      sum_ones (λ held. cond (eqb held (2050 + n)) 1 0) (values m) (λ held. at_most_one (eqb held (2050 + n))),
      length_values m,
      few,
    )

-- no root holds a number
pub held_none : (n : ℕ) → held_count empty n ≡ 0
held_none n = no_total (λ held. cond (eqb held (2050 + n)) 1 0)

-- of the roots that are counted at most as many hold a number as of all
pub held_counted : (on : Bool) (m : FinMap nat_cmp ℕ) (n : ℕ) → held_count (counted_roots on m) n ≤ held_count m n
held_counted true m n = omega arith
held_counted false m n = omega (arith, held_none n)

-- a root more
pub held_more : (m : FinMap nat_cmp ℕ) (root c : ℕ) → get m root ≡ None → (n : ℕ) →
    held_count (insert m root c) n ≡ held_count m n + counts_one (2050 + n) c
held_more m root c none n = omega (arith, total_new (λ held. cond (eqb held (2050 + n)) 1 0) m root c none)

-- a root less
pub held_less : (m : FinMap nat_cmp ℕ) (root c : ℕ) → get m root ≡ Some c → (n : ℕ) →
    held_count m n ≡ held_count (remove m root) n + counts_one (2050 + n) c
held_less m root c some n = omega (arith, total_without (λ held. cond (eqb held (2050 + n)) 1 0) m root c some)

-- another code that a root holds, where it held one
pub held_again : (m : FinMap nat_cmp ℕ) (root c d : ℕ) → get m root ≡ Some c → (n : ℕ) →
    held_count (insert m root d) n ≡ held_count (remove m root) n + counts_one (2050 + n) d
held_again m root c d some n =
    omega (
      arith,
      total_replaced (λ held. cond (eqb held (2050 + n)) 1 0) m root c d some,
      total_without (λ held. cond (eqb held (2050 + n)) 1 0) m root c some,
    )

-- what a root holds is used
pub held_live : (a : Nodes) (m : FinMap nat_cmp ℕ) (v : Counts) (root c : ℕ) → AreOf a (held_count m) v →
    get m root ≡ Some c → 2050 ≤ c → 0 < live_at v (c - 2050)
held_live a m v root c of some least =
    let back : c ≡ 2050 + (c - 2050) = omega arith in
    omega (
      arith,
      (of.right).live (c - 2050),
      held_less m root c some (c - 2050),
      counts_same (2050 + (c - 2050)) c back,
    )

-- no number is used often
pub live_few : (a : Nodes) (held : ℕ → ℕ) (v : Counts) → AreOf a held v → length_of_nodes a < 2 ^ 31 → (n : ℕ) →
    live_at v n < 2 ^ 34
live_few a held v of few n = omega (arith, live_most a held v of n, of.few n, few)

-- a code that is there is one with a count
pub there_within : (a : Nodes) (held : ℕ → ℕ) (v : Counts) → IsNodes a → AreOf a held v → (c : ℕ) → IsThere a c →
    IsWithin (length v.live) c
there_within a held v valid of c there least =
    let k = some_value (key_of_nodes a (c - 2050)) (there least) in
    omega (arith, valid.numbered (c - 2050) k.0 k.1, of.room)

-- so are those in a list
pub all_within : (a : Nodes) (size : ℕ) → IsNodes a → a.records ≤ size → (l : List (ℕ × ℕ)) → AreCounted a l →
    AreWithin size l
all_within a size valid room [] h = tt
all_within a size valid room (e ∷ l) h = (
  (one e.0 h.0.0, one e.1 h.0.1),
  all_within a size valid room l h.1,
)
  where
    one : (c : ℕ) → IsThere a c → IsWithin size c
    one c there least =
        let k = some_value (key_of_nodes a (c - 2050)) (there least) in
        omega (arith, valid.numbered (c - 2050) k.0 k.1, room)

-- nodes

-- the list of a key
abbrev list_of : Option (ℕ × List (ℕ × ℕ)) → List (ℕ × ℕ)
list_of o = unwrap_or (option_map (λ (k : ℕ × List (ℕ × ℕ)). k.1) o) []

-- nodes with the same keys
pub counts_same_keys : (a b : Nodes) (held : ℕ → ℕ) (v : Counts) → AreOf a held v →
    ((n : ℕ) → key_of_nodes b n ≡ key_of_nodes a n) → b.records ≡ a.records → AreOf b held v
counts_same_keys a b held v of same records =
    right_among a b held v of (λ n on. ap list_of (same n)) (λ n on. subst IsSome (sym (same n)) (of.nodes n on))
    (λ n some. subst IsSome (sym (same n)) (of.held_nodes n some)) (omega (arith, of.room, records))

-- nodes with other uses
pub counts_other_uses : (a b : Nodes) (held : ℕ → ℕ) (v : Counts) → AreOf a held v →
    b ≡ record a { uses = b.uses } → AreOf b held v
counts_other_uses a b held v of rest =
    counts_same_keys a b held v of (λ n. ap (λ x. key_of_nodes x n) rest) (ap (λ x. x.records) rest)

-- nodes of which one has another key with the same list
pub counts_same_list : (a b : Nodes) (held : ℕ → ℕ) (v : Counts) (n : ℕ) (k l : ℕ × List (ℕ × ℕ)) → AreOf a held v →
    key_of_nodes a n ≡ Some k → key_of_nodes b n ≡ Some l → l.1 ≡ k.1 →
    ((q : ℕ) → q ≢ n → key_of_nodes b q ≡ key_of_nodes a q) → b.records ≡ a.records → AreOf b held v
counts_same_list a b held v n k l of was is same others records =
    right_among a b held v of (λ q on. lists q)
    (λ q on. there q (of.nodes q on)) (λ q some. there q (of.held_nodes q some)) (omega (arith, of.room, records))
  where
    lists : (q : ℕ) → list_at b q ≡ list_at a q
    lists q =
        by_cases
        (λ e. ap (list_at b) e ∙ ap list_of is ∙ same ∙ sym (ap (list_at a) e ∙ ap list_of was))
        (λ ne. ap list_of (others q ne))
        (cases_eq q n)

    there : (q : ℕ) → IsSome (key_of_nodes a q) → IsSome (key_of_nodes b q)
    there q h =
        by_cases
        (λ e. subst IsSome (sym (ap (key_of_nodes b) e ∙ is)) refl)
        (λ ne. subst IsSome (sym (others q ne)) h)
        (cases_eq q n)

-- nodes of which all but one have their keys, and that one is not counted and not held
pub counts_but_one : (a b : Nodes) (held : ℕ → ℕ) (v : Counts) (n : ℕ) → AreOf a held v → counted_at v n ≡ false →
    held n ≡ 0 → ((q : ℕ) → q ≢ n → key_of_nodes b q ≡ key_of_nodes a q) → b.records ≤ length v.live → AreOf b held v
counts_but_one a b held v n of off free same room =
    right_among a b held v of (λ q on. ap list_of (same q (on_differs q on)))
    (λ q on. subst IsSome (sym (same q (on_differs q on))) (of.nodes q on))
    (λ q some. subst IsSome (sym (same q (held_differs q some))) (of.held_nodes q some)) room
  where
    on_differs : (q : ℕ) → counted_at v q ≡ true → q ≢ n
    on_differs q on e = not_both off (ap (λ z. get_or v.counted z false) (sym e) ∙ on)

    held_differs : (q : ℕ) → 0 < held q → q ≢ n
    held_differs q some e = absurd (omega (arith, some, free, ap held e))

-- a number that no node has is not counted, and not held
pub not_counted : (a : Nodes) (held : ℕ → ℕ) (v : Counts) (n : ℕ) → AreOf a held v → key_of_nodes a n ≡ None →
    counted_at v n ≡ false
not_counted a held v n of none = go (counted_at v n) refl
  where
    go : (b : Bool) → counted_at v n ≡ b → b ≡ false
    go false e = refl
    go true e = let bad : IsSome {T = ℕ × List (ℕ × ℕ)} None = subst IsSome none (of.nodes n e) in absurd (cc)

pub not_held : (a : Nodes) (held : ℕ → ℕ) (v : Counts) (n : ℕ) → AreOf a held v → key_of_nodes a n ≡ None →
    held n ≡ 0
not_held a held v n of none =
    by_cases (λ e. e)
    (λ ne.
    let bad : IsSome {T = ℕ × List (ℕ × ℕ)} None = subst IsSome none (of.held_nodes n (omega (arith, ne))) in
    absurd (cc))
    (cases_eq (held n) 0)

-- what keeps a node that nothing uses from being counted

-- a number that is not used is not counted where the counts are settled
pub unused_uncounted : (a : Nodes) (held : ℕ → ℕ) (v : Counts) (n : ℕ) → AreOf a held v → IsSettled v →
    IsUnused a held n → counted_at v n ≡ false
unused_uncounted a held v n of settled unused = go (counted_at v n) refl
  where
    none : (k : ℕ) → sum_counted (λ m. uses_in (2050 + n) (list_at a m)) v.counted ≡ k → k ≡ 0
    none zero e = refl
    none (suc k) e =
        let some = sum_some (λ m. uses_in (2050 + n) (list_at a m)) v.counted (omega (arith, e)) in
        absurd (omega (arith, some.2, unused.lists some.0))

    go : (b : Bool) → counted_at v n ≡ b → b ≡ false
    go false e = refl
    go true e =
        absurd (omega (
          arith,
          settled.used n e,
          (of.right).live n,
          unused.free,
          none (sum_counted (λ m. uses_in (2050 + n) (list_at a m)) v.counted) refl,
        ))

-- nothing is counted where the total is 0, since each node has an element
pub none_counted : (a : Nodes) (held : ℕ → ℕ) (v : Counts) (n : ℕ) → IsNodes a → AreOf a held v → v.total ≡ 0 →
    counted_at v n ≡ false
none_counted a held v n valid of none = go (counted_at v n) refl
  where
    go : (b : Bool) → counted_at v n ≡ b → b ≡ false
    go false e = refl
    go true e =
        let k = some_value (key_of_nodes a n) (of.nodes n e) in
        absurd (omega (
          arith,
          none,
          length_total a held v n of e,
          ap (λ o. length (list_of o)) k.1,
          valid.at_least_one n k.0 k.1,
        ))

module _ (v : Numbered) (a : Nodes) (m : FinMap nat_cmp ℕ) (e : ℕ) (g : Option ℕ)
    (stored : IsStored a (table_of v a m e g)) where
  -- the codes in the lists of nodes are there
  pub nodes_closed : AreClosed a
  nodes_closed n k at =
      list_counted v a m e g stored k.1
      (stored.table.closed n k (sym (key_again (get a.linked n) (get a.detached n)) ∙ at))

  -- the nodes have few elements
  pub nodes_few : length_of_nodes a < 2 ^ 31
  nodes_few = omega (arith, stored.valid.total, stored.valid.bounded, stored.table.bound_fits)

  -- a node that nothing uses
  pub unused_node : (on : Bool) (n : ℕ) → uses_of (table_of v a m e g) (2050 + n) ≡ 0 →
      IsUnused a (held_count (counted_roots on m)) n
  unused_node on n unused = record {
    free = omega (arith, unused, held_counted on m n);
    lists = λ q. go q (key_of_nodes a q) refl;
  }
    where
      go : (q : ℕ) (o : Option (ℕ × List (ℕ × ℕ))) → key_of_nodes a q ≡ o → uses_in (2050 + n) (list_at a q) ≡ 0
      go q None none = ap (λ o. uses_in (2050 + n) (list_of o)) none
      go q (Some k) at =
          ap (λ o. uses_in (2050 + n) (list_of o)) at
          ∙ no_uses (2050 + n) k.1
          (not_in_node (table_of v a m e g) (2050 + n) unused q k
          (sym (key_again (get a.linked q) (get a.detached q)) ∙ at))

-- another list

module _ (a b : Nodes) (held : ℕ → ℕ) (v : Counts) (n start count : ℕ) (h : HasOtherList a b n start count)
    (of : AreOf a held v) where
  -- the node has a count
  pub other_inside : n < length v.live
  other_inside =
      let k = some_value (key_of_nodes b n) h.node in
      omega (arith, h.valid.numbered n k.0 k.1, of.room, h.records)

  module _ (old new : List (ℕ × ℕ)) (was : get b.loose start ≡ Some old)
      (is : option_map (λ (k : ℕ × List (ℕ × ℕ)). k.1) (key_of_nodes b n) ≡ Some new) where
    old_is : list_at a n ≡ old
    old_is = ap (λ o. unwrap_or o []) (sym h.former.is ∙ was)

    new_is : list_at b n ≡ new
    new_is = ap (λ o. unwrap_or o []) is

    -- the codes of the new list have counts
    pub other_within : AreWithin (length v.live) new
    other_within =
        let k = some_value (key_of_nodes b n) h.node in
        let same : k.0.1 ≡ new = ap list_of (sym k.1) ∙ new_is in
        subst (AreWithin (length v.live)) same
        (all_within b (length v.live) h.valid (omega (arith, h.records, of.room)) k.0.1 (h.closed n k.0 k.1))

    module _ (on : counted_at v n ≡ true) where
      pub other_used : (q : ℕ) → uses_in (2050 + q) old ≤ live_at v q
      other_used q = subst (λ l. uses_in (2050 + q) l ≤ live_at v q) old_is (uses_live a held v n of on q)

      pub other_listed : length old ≤ v.total
      other_listed = subst (λ l. length l ≤ v.total) old_is (length_total a held v n of on)

      -- the new list is short
      short : v.total + length new ≤ length_of_nodes b + length old
      short =
          subst (λ l. v.total + length l ≤ length_of_nodes b + length old) new_is
          (subst (λ l. v.total + length (list_at b n) ≤ length_of_nodes b + length l) old_is
          (relisted_fits a b held v n of on h.others))

      pub other_room : (q : ℕ) → live_at v q + uses_in (2050 + q) new < 2 ^ 64
      other_room q =
          let twice : uses_in (2050 + q) new ≤ length new + length new = uses_in_le (2050 + q) new in
          omega (
            arith,
            live_few a held v of h.few q,
            twice,
            short,
            other_listed,
            h.few_after,
          )

      pub other_total : v.total - length old + length new < 2 ^ 32
      other_total = omega (arith, short, other_listed, h.few_after)

    -- the counts are right for the new list
    pub other_right : (w : Counts) → (counted_at v n ≡ true → IsRelisted v w old new) →
        (counted_at v n ≡ false → w ≡ v) → AreOf b held w
    other_right w relisted same = go (counted_at v n) refl
      where
        go : (c : Bool) → counted_at v n ≡ c → AreOf b held w
        go true on =
            right_relisted a b held v n of on h.others w
            (subst (IsRelisted v w (list_at a n)) (sym new_is)
            (subst (λ l. IsRelisted v w l new) (sym old_is) (relisted on)))
            h.kept (omega (arith, h.records, of.room))
        go false off =
            subst (AreOf b held) (sym (same off))
            (right_among a b held v of
            (λ q on. h.others q (λ e. not_both off (ap (λ z. get_or v.counted z false) (sym e) ∙ on)))
            (λ q on. h.kept q (of.nodes q on)) (λ q some. h.kept q (of.held_nodes q some))
            (omega (arith, h.records, of.room)))
