-- One number rises, or falls.
use Rattle.std.proofs.Common.{◌≡◌, ◌≢◌, ℕ, ◌+◌, ◌<◌, ◌≤◌, ◌^◌, true, false, List, length, Some, unwrap_or, []}
use Rattle.std.proofs.Common.{refl, sym, ◌∙◌, ap, subst, arith}
use Rattle.std.proofs.lemmas.List.{length-map}
use Rattle.std.specs.Option.{IsSome, option_map}
use Rattle.sd_unique.specs.Nodes.{Nodes, key_at}
use Rattle.sd_counts.specs.declared.count.Count.{Count}
use Rattle.sd_counts.specs.Counts.{Adds, live_at, counted_at}
use Rattle.sd_counts.specs.Queued.{no_number, at, seen, AreQueued, IsTaken, rising_work, falling_work}
use Rattle.sd_counts.specs.Right.{AreOf, MaySettle, list_at}
use Rattle.sd_counts.specs.Uses.{AreWithin, uses_in}
use Rattle.sd_counts.proofs.Adding.{live_is, counted_is}
use Rattle.sd_counts.proofs.Risen.{used_node, list_within, length_room, live_room, risen, length_counted}
use Rattle.sd_counts.proofs.Risen.{uses_counted, fallen}
use Rattle.sd_counts.proofs.TakenOff.{up_top, down_top, queued_inside, now_at, taken_size, taken_live}
use Rattle.sd_counts.proofs.TakenOff.{taken_live_size, counted_set}
use Rattle.sd_counts.proofs.TakenOff.{seen_same, rising_stale, falling_stale, rising_fewer, falling_fewer}

module _ (old mid : List Count) (m : ℕ) (k : IsTaken old mid m) (some : m ≢ no_number) where
  module _ (falling : ℕ) (q : AreQueued old m falling) where
    pub up_inside : m < length old
    up_inside = queued_inside old m (up_top old m falling q some).0

    now_is : at mid m ≡ (k.now)
    now_is = now_at old mid m k up_inside

    module _ (off : (at mid m).is_counted ≡ false) where
      not_now : (k.now).is_counted ≡ (at old m).is_counted
      not_now = ap (λ (c : Count). c.is_counted) (sym now_is) ∙ off ∙ sym (up_top old m falling q some).1

      -- a number that is not used does not rise
      pub stays_down : (a : Nodes) (held : ℕ → ℕ) (total : ℕ) → AreOf a held (seen old total)
          → AreOf a held (seen mid total)
      stays_down a held total of = subst (AreOf a held) (sym (seen_same old mid m k up_inside total not_now)) of

      pub less_to_rise : rising_work mid < rising_work old
      less_to_rise = rising_stale old mid m k up_inside (up_top old m falling q some).0 not_now

    module _ (on : (at mid m).is_counted ≡ true) where
      is_now : (k.now).is_counted ≡ true
      is_now = ap (λ (c : Count). c.is_counted) (sym now_is) ∙ on

      pub fewer_to_rise : (new : List Count) (more : ℕ → ℕ) → Adds (seen mid 0) (seen new 0) more
          → length new ≡ length mid
          → rising_work new < rising_work old
      fewer_to_rise new more adds size =
          rising_fewer old mid m k up_inside new (up_top old m falling q some).1 is_now adds.counted size

      module _ (a : Nodes) (may : MaySettle a) (held : ℕ → ℕ) (total : ℕ) (of : AreOf a held (seen old total)) where
        used : 0 < live_at (seen old total) m
        used = omega (arith, (k.settled).used is_now, k.live, live_is old total m)

        -- it is a node
        pub rises_node : IsSome (key_at a m)
        rises_node = used_node a may held (seen old total) of m used

        was_off : counted_at (seen old total) m ≡ false
        was_off = counted_is old total m ∙ (up_top old m falling q some).1

        inside_counted : m < length (seen old total).counted
        inside_counted = omega (arith, up_inside, length-map old (λ (c : Count). c.is_counted))

        module _ (list : List (ℕ × ℕ)) (is : option_map (λ (k : ℕ × List (ℕ × ℕ)). k.1) (key_at a m) ≡ Some list) where
          list_is : list_at a m ≡ list
          list_is = ap (λ o. unwrap_or o []) is

          pub rises_within : AreWithin (length mid) list
          rises_within =
              subst (λ n. AreWithin n list)
              (length-map old (λ (c : Count). c.live) ∙ sym (taken_size old mid m k up_inside))
              (list_within a may held (seen old total) of m list is rises_node)

          pub rises_live : (n : ℕ) → live_at (seen mid 0) n + uses_in (2050 + n) list < 2 ^ 64
          rises_live n =
              omega (
                arith,
                taken_live old mid m k up_inside 0 n,
                live_room a may held (seen old total) of m list list_is inside_counted was_off n,
              )

          pub rises_total : total + length list < 2 ^ 32
          rises_total =
              omega (arith, length_room a may held (seen old total) of m list list_is inside_counted was_off, may.few)

          pub has_risen : (new : List Count) → Adds (seen mid 0) (seen new 0) (λ c. uses_in c list)
              → AreOf a held (seen new (total + length list))
          has_risen new adds =
              risen a may held (seen old total) of m list list_is inside_counted was_off
              (seen new (total + length list))
              used (adds.counted ∙ counted_set old mid m k up_inside true is_now)
              (λ n. omega (arith, adds.live n, taken_live old mid m k up_inside 0 n))
              (adds.size ∙ taken_live_size old mid m k up_inside 0) refl

  module _ (rising : ℕ) (q : AreQueued old rising m) where
    pub down_inside : m < length old
    down_inside = queued_inside old m (down_top old rising m q some).0

    now_is_down : at mid m ≡ (k.now)
    now_is_down = now_at old mid m k down_inside

    module _ (on : (at mid m).is_counted ≡ true) where
      still : (k.now).is_counted ≡ (at old m).is_counted
      still = ap (λ (c : Count). c.is_counted) (sym now_is_down) ∙ on ∙ sym (down_top old rising m q some).1

      -- a number that is used does not fall
      pub stays_up : (a : Nodes) (held : ℕ → ℕ) (total : ℕ) → AreOf a held (seen old total)
          → AreOf a held (seen mid total)
      stays_up a held total of = subst (AreOf a held) (sym (seen_same old mid m k down_inside total still)) of

      pub less_to_fall : falling_work mid < falling_work old
      less_to_fall = falling_stale old mid m k down_inside (down_top old rising m q some).0 still

    module _ (off : (at mid m).is_counted ≡ false) where
      no_more : (k.now).is_counted ≡ false
      no_more = ap (λ (c : Count). c.is_counted) (sym now_is_down) ∙ off

      pub fewer_to_fall : (new : List Count) (less : ℕ → ℕ) → Adds (seen new 0) (seen mid 0) less
          → length new ≡ length mid
          → falling_work new < falling_work old
      fewer_to_fall new less adds size =
          falling_fewer old mid m k down_inside new (down_top old rising m q some).1 no_more (sym adds.counted) size

      module _ (a : Nodes) (may : MaySettle a) (held : ℕ → ℕ) (total : ℕ) (of : AreOf a held (seen old total)) where
        was_on : counted_at (seen old total) m ≡ true
        was_on = counted_is old total m ∙ (down_top old rising m q some).1

        pub falls_node : IsSome (key_at a m)
        falls_node = of.nodes m was_on

        inside_flags : m < length (seen old total).counted
        inside_flags = omega (arith, down_inside, length-map old (λ (c : Count). c.is_counted))

        module _ (list : List (ℕ × ℕ)) (is : option_map (λ (k : ℕ × List (ℕ × ℕ)). k.1) (key_at a m) ≡ Some list) where
          its_list : list_at a m ≡ list
          its_list = ap (λ o. unwrap_or o []) is

          pub falls_live : (n : ℕ) → uses_in (2050 + n) list ≤ live_at (seen mid 0) n
          falls_live n =
              omega (
                arith,
                taken_live old mid m k down_inside 0 n,
                uses_counted a may held (seen old total) of m list its_list inside_flags was_on n,
              )

          pub falls_total : length list ≤ total
          falls_total = length_counted a may held (seen old total) of m list its_list inside_flags was_on

          pub has_fallen : (new : List Count) (rest : ℕ) → rest + length list ≡ total
              → Adds (seen new 0) (seen mid 0) (λ c. uses_in c list) → AreOf a held (seen new rest)
          has_fallen new rest sum adds =
              fallen a may held (seen old total) of m list its_list inside_flags was_on (seen new rest)
              (sym adds.counted ∙ counted_set old mid m k down_inside false no_more)
              (λ n. omega (arith, adds.live n, taken_live old mid m k down_inside 0 n))
              (sym adds.size ∙ taken_live_size old mid m k down_inside 0) sum
