-- The counts stay right where a number that is used is counted, and where one that is not used is counted no more.
use Rattle.std.proofs.Common.{◌≡◌, ℕ, ◌+◌, ◌-◌, ◌<◌, ◌≤◌, ◌^◌, true, false, List, [], ◌∷◌, length, get_or}
use Rattle.std.proofs.Common.{Option, Some, None, unwrap_or, refl, sym, ◌∙◌, ap, subst, arith}
use Rattle.std.proofs.Math.ListN.{set}
use Rattle.std.proofs.lemmas.Bool.{cases_eq}
use Rattle.std.proofs.lemmas.List.{get_or-set_other, length-set}
use Rattle.std.specs.List.{AllByRecursion}
use Rattle.std.specs.Option.{IsSome, option_map}
use Rattle.sd_runs.proofs.Places.{by_cases}
use Rattle.sd_unique.specs.Nodes.{Nodes, IsNodes, key_at, total_length}
use Rattle.sd_counts.specs.Counts.{Counts, live_at, counted_at}
use Rattle.sd_counts.specs.Right.{sum_counted, list_at, IsThere, AreClosed, AreOf, MaySettle}
use Rattle.sd_counts.specs.Uses.{uses_in, IsWithin, AreWithin}
use Rattle.sd_counts.proofs.Sums.{sum_risen, sum_fallen, sum_has, sum_some, sum_twice, uses_twice, used_so}
use Rattle.sd_counts.proofs.Bounds.{lengths_within}

-- what is there has a value
value_of : {X : Type 0} (o : Option X) → IsSome o → (x : X) × (o ≡ Some x)
value_of None h = cc
value_of (Some x) h = (x, refl)

-- a code in the list of some number is there
listed_there : (a : Nodes) (c k : ℕ) (o : Option (ℕ × List (ℕ × ℕ))) → AreClosed a → key_at a k ≡ o
    → 0 < uses_in c (unwrap_or (option_map (λ k. k.1) o) []) → IsThere a c
listed_there a c k None closed e some = absurd (omega arith)
listed_there a c k (Some key) closed e some = used_so (IsThere a) c key.1 (closed k key e) some

within_all : (a : Nodes) (size : ℕ) (list : List (ℕ × ℕ)) → IsNodes a → a.records ≤ size
    → AllByRecursion (λ (e : ℕ × ℕ). IsThere a e.0 × IsThere a e.1) list → AreWithin size list
within_all a size [] valid room all = tt
within_all a size (e ∷ list) valid room all = (
  (one e.0 (all.0).0, one e.1 (all.0).1),
  within_all a size list valid room all.1,
)
  where
    one : (code : ℕ) → IsThere a code → IsWithin size code
    one code there least =
        let key = value_of (key_at a (code - 2050)) (there least) in
        omega (arith, valid.numbered (code - 2050) key.0 key.1, room)

module _ (a : Nodes) (may : MaySettle a) (held : ℕ → ℕ) (v : Counts) (of : AreOf a held v) where
  -- a number that is used is that of a node
  pub used_node : (m : ℕ) → 0 < live_at v m → IsSome (key_at a m)
  used_node m used =
      by_cases
      (λ none.
      let some = sum_some (λ k. uses_in (2050 + m) (list_at a k)) v.counted
      (omega (arith, (of.right).live m, used, none))
      in
      let back : 2050 + m - 2050 ≡ m = omega arith in
      subst (λ n. IsSome (key_at a n)) back
      (listed_there a (2050 + m) some.0 (key_at a some.0) may.closed refl some.2 (omega arith)))
      (λ ne. of.held_nodes m (omega (arith, ne)))
      (cases_eq (held m) 0)

  -- the list of a node has the codes of numbers alone
  pub list_within : (m : ℕ) (list : List (ℕ × ℕ)) → option_map (λ k. k.1) (key_at a m) ≡ Some list → IsSome (key_at a m)
      → AreWithin (length v.live) list
  list_within m list is node =
      let key = value_of (key_at a m) node in
      let e : Some (key.0).1 ≡ Some list = ap (option_map (λ k. k.1)) (sym key.1) ∙ is in
      let same : (key.0).1 ≡ list = cc in
      subst (AreWithin (length v.live)) same
      (within_all a (length v.live) (key.0).1 may.valid of.room (may.closed m key.0 key.1))

  module _ (m : ℕ) (list : List (ℕ × ℕ)) (is : list_at a m ≡ list) (inside : m < length v.counted) where
    list_uses : (n : ℕ) → uses_in (2050 + n) (list_at a m) ≡ uses_in (2050 + n) list
    list_uses n = ap (uses_in (2050 + n)) is

    list_length : length (list_at a m) ≡ length list
    list_length = ap length is

    module _ (off : counted_at v m ≡ false) where
      -- there is room for the list of a number that is not counted
      pub length_room : v.total + length list ≤ total_length a
      length_room =
          omega (
            arith,
            (of.right).total,
            sum_risen (λ n. length (list_at a n)) v.counted m inside off,
            lengths_within a (set v.counted m true),
            list_length,
          )

      pub live_room : (n : ℕ) → live_at v n + uses_in (2050 + n) list < 2 ^ 64
      live_room n =
          omega (
            arith,
            (of.right).live n,
            of.few n,
            sum_risen (λ k. uses_in (2050 + n) (list_at a k)) v.counted m inside off,
            sum_twice (λ k. uses_in (2050 + n) (list_at a k)) (λ k. length (list_at a k)) (set v.counted m true)
                (λ k. uses_twice (2050 + n) (list_at a k)),
            lengths_within a (set v.counted m true),
            list_uses n,
            may.few,
          )

      -- the number is counted
      pub risen : (w : Counts) → 0 < live_at v m → w.counted ≡ set v.counted m true
          → ((n : ℕ) → live_at w n ≡ live_at v n + uses_in (2050 + n) list) → length w.live ≡ length v.live
          → w.total ≡ v.total + length list → AreOf a held w
      risen w used counted live size total =
          record {
            right = record {
              live = λ n. omega (
                arith,
                live n,
                (of.right).live n,
                ap (sum_counted (λ k. uses_in (2050 + n) (list_at a k))) counted,
                sum_risen (λ k. uses_in (2050 + n) (list_at a k)) v.counted m inside off,
                list_uses n,
              );
              total = omega (
                arith,
                total,
                (of.right).total,
                ap (sum_counted (λ k. length (list_at a k))) counted,
                sum_risen (λ k. length (list_at a k)) v.counted m inside off,
                list_length,
              );
            };
            nodes = λ n on. by_cases
                (λ same. subst (λ k. IsSome (key_at a k)) (sym same) (used_node m used))
                (λ ne. of.nodes n (sym (get_or-set_other v.counted m n true false ne)
                ∙ ap (λ bs. get_or bs n false) (sym counted) ∙ on))
                (cases_eq n m);
            held_nodes = of.held_nodes;
            few = of.few;
            room = omega (arith, of.room, size);
            within = omega (arith, of.within, size, ap length counted, length-set v.counted m true);
          }

    module _ (on : counted_at v m ≡ true) where
      -- the total has the length of the list, and each code in it is used as often as it stands there
      pub length_counted : length list ≤ v.total
      length_counted = omega (arith, (of.right).total, sum_has (λ k. length (list_at a k)) v.counted m on, list_length)

      pub uses_counted : (n : ℕ) → uses_in (2050 + n) list ≤ live_at v n
      uses_counted n =
          omega (
            arith,
            (of.right).live n,
            sum_has (λ k. uses_in (2050 + n) (list_at a k)) v.counted m on,
            list_uses n,
          )

      -- the number is counted no more
      pub fallen : (w : Counts) → w.counted ≡ set v.counted m false
          → ((n : ℕ) → live_at v n ≡ live_at w n + uses_in (2050 + n) list) → length w.live ≡ length v.live
          → w.total + length list ≡ v.total → AreOf a held w
      fallen w counted live size total =
          record {
            right = record {
              live = λ n. omega (
                arith,
                live n,
                (of.right).live n,
                ap (sum_counted (λ k. uses_in (2050 + n) (list_at a k))) counted,
                sum_fallen (λ k. uses_in (2050 + n) (list_at a k)) v.counted m on,
                list_uses n,
              );
              total = omega (
                arith,
                total,
                (of.right).total,
                ap (sum_counted (λ k. length (list_at a k))) counted,
                sum_fallen (λ k. length (list_at a k)) v.counted m on,
                list_length,
              );
            };
            nodes = λ n is_on. by_cases
                (λ same. subst (λ k. IsSome (key_at a k)) (sym same) (of.nodes m on))
                (λ ne. of.nodes n (sym (get_or-set_other v.counted m n false false ne)
                ∙ ap (λ bs. get_or bs n false) (sym counted) ∙ is_on))
                (cases_eq n m);
            held_nodes = of.held_nodes;
            few = of.few;
            room = omega (arith, of.room, size);
            within = omega (arith, of.within, size, ap length counted, length-set v.counted m false);
          }
