-- On the way back, once no entry is left: a detached node that stood at the moved node is wanted and linked again, and
-- one that stood at the lower node is used by nothing and discarded.
use Rattle.std.proofs.Common.{◌≡◌, ◌≢◌, ◌⊎◌, inl, inr, ℕ, ◌+◌, ◌<◌, cond, eqb, List, [], length}
use Rattle.std.proofs.Common.{Option, Some, None, refl, sym, ◌∙◌, ap, subst, arith}
use Rattle.std.specs.Option.{IsSome, option_map}
use Rattle.std.specs.FinMap.{get, remove}
use Rattle.std.proofs.lemmas.Bool.{cases_eq}
use Rattle.std.proofs.lemmas.Option.{same_Some, none-some}
use Rattle.sd_vtree.specs.Numbered.{IsUnder}
use Rattle.sd_vtree.proofs.Subtrees.{once_numbered}
use Rattle.sd_runs.specs.Arena.{IsMember}
use Rattle.sd_runs.proofs.Maps.{get_remove_same, get_remove_other}
use Rattle.sd_laws.specs.Values.{StandsIn}
use Rattle.sd_laws.proofs.GoneBack.{between}
use Rattle.sd_laws.proofs.Users.{users_above}
use Rattle.sd_manager.specs.Table.{Table, key_at, uses_of, uses_in}
use Rattle.sd_manager.specs.Valid.{IsTable}
use Rattle.sd_manager.specs.Moving.{linked_under, with_free, FitsNode, IsAscending, IsAbsent, IsDiscarded, next_epoch}
use Rattle.sd_manager.proofs.Counted.{counts_other}
use Rattle.sd_manager.proofs.Standing.{no_uses}
use Rattle.sd_manager.proofs.Totals.{sum_zero}
use Rattle.sd_manager.proofs.Holding.{some_value}
use Rattle.sd_manager.proofs.Reading.{detached_key}
use Rattle.sd_sweep.proofs.Used.{entry_count, fewer_entries}
use Rattle.sd_move.specs.Moving.{IsNew, MoveInProgress}
use Rattle.sd_move.specs.Steps.{IsChildNode}
use Rattle.sd_move.specs.Journal.{Named, journal_entry, starts_of}
use Rattle.sd_move.specs.GoingBack.{IsTurnedPlace, Return, IsWantedBy, key_wanted, IsReturning, numbers_of}
use Rattle.sd_move.proofs.ThereAndBack.{without_kept, own_start}
use Rattle.sd_move.proofs.DiscardedOn.{with_discarded, discarded_on}
use Rattle.sd_move.proofs.Returning.{linked_or_detached, places, not_twice}
use Rattle.sd_move.proofs.ReturnEntries.{none_named}
use Rattle.sd_move.proofs.ReturnLinked.{last_free}
use Rattle.sd_move.proofs.ReturnSteps.{one_may, one_linked}

module _ (r : Return) (now : Table) (s : IsReturning r now [] []) (t : IsTable now) (n : ℕ)
    (k : ℕ × List (ℕ × ℕ)) (d : get now.detached n ≡ Some k) where
  -- no detached node is named, so a wanted one gets the key that it has
  key_stays : (i : ℕ) (j : ℕ × List (ℕ × ℕ)) → get now.detached i ≡ Some j → IsWantedBy r i →
      key_wanted r i ≡ Some j
  key_stays i j at w = go (journal_entry r.named i) refl
    where
      go : (o : Option Named) → journal_entry r.named i ≡ o → key_wanted r i ≡ Some j
      go None none = s.can.unnamed i w none ∙ (s.detached i j at).0
      go (Some e) own = absurd (named (s.entries.left i e own (subst IsSome (sym at) refl)))
        where
          named : ((e.run ≡ None) × IsMember i (numbers_of [])) ⊎ (IsSome e.run × IsMember i (numbers_of [])) → ⊥
          named (inl h) = h.1
          named (inr h) = h.1

  -- a node at the moved node

  module _ (up : k.0 ≡ r.upper) where
    is_wanted : IsWantedBy r n
    is_wanted = elim (s.can.others n k (s.detached n k d).0) [
      | inl w ↦ w
      | inr b ↦ absurd (b.0 up)
    ]

    own_key : key_wanted r n ≡ Some (r.upper, k.1)
    own_key = key_stays n k d is_wanted ∙ ap (λ p. Some (p, k.1)) up

    free : (i : ℕ) (j : ℕ × List (ℕ × ℕ)) → IsWantedBy r i → StandsIn (2050 + i) k.1 → get now.detached i ≡ Some j → ⊥
    free = last_free r now [] s t n r.upper k.1 is_wanted own_key (inl refl)

    pub upper_may : IsSome now.moving × IsSome (get now.detached n)
        × ((j : ℕ × List (ℕ × ℕ)) → get now.detached n ≡ Some j → FitsNode now r.upper j.1 × IsAscending j.1)
        × ((j : ℕ × List (ℕ × ℕ)) → get now.detached n ≡ Some j → IsAbsent now r.upper j.1)
    upper_may = one_may r now [] [] s t n r.upper k.0 k.1 is_wanted own_key (inl refl) d free

    pub upper_linked : (new : Table) →
        ((j : ℕ × List (ℕ × ℕ)) → get now.detached n ≡ Some j → new ≡ linked_under now n (r.upper, j.1)) →
        IsTable new → IsReturning r new [] []
    upper_linked new is valid =
        one_linked r now [] [] s t n r.upper k.0 k.1 is_wanted own_key (inl refl) d free new is valid [] []
        (none_named r now new n s.entries (ap (λ (u : Table). u.detached) (is k d))
        (ap (λ (u : Table). u.loose) (is k d)))

  -- a node at the lower node

  module _ (other : k.0 ≢ r.upper) where
    low : Some k.0 ≡ r.lower
    low = elim (s.detached n k d).1 [
      | inl up ↦ absurd (other up)
      | inr z ↦ z
    ]

    not_wanted : ¬ IsWantedBy r n
    not_wanted w = not_twice r now [] [] s t n k.0 k.0 k.1 k.1 w (s.detached n k d).0 low (key_stays n k d w) low

    -- it was linked there
    was_linked : get r.before.linked n ≡ Some k
    was_linked = elim (linked_or_detached r.before n k (s.detached n k d).0) [
      | inl linked ↦ linked
      | inr waits ↦ absurd (other (s.can.waiting n k waits))
    ]

    -- so who has it in its list stood strictly above
    above : (i : ℕ) (j : ℕ × List (ℕ × ℕ)) → get r.before.linked i ≡ Some j → StandsIn (2050 + n) j.1 →
        IsUnder r.before.vtree k.0 j.0 × (j.0 ≢ k.0)
    above i j linked stands =
        users_above r.before.vtree s.table.numbered r.way.valuation n j.0 k.0 j.1 k.1
        (s.can.going.placed i j.0 j.1 linked) (s.can.going.whole n k.0 k.1 (s.detached n k d).0)
        (s.can.going.placed n k.0 k.1 was_linked) (s.can.going.value n k.0 k.1 (s.detached n k d).0) stands

    child : IsChildNode r.before.vtree r.upper k.0
    child = (places r now [] [] s t).child k.0 low

    not_in_linked : (i : ℕ) (j : ℕ × List (ℕ × ℕ)) → get now.linked i ≡ Some j → ¬ StandsIn (2050 + n) j.1
    not_in_linked i j at stands = elim (s.linked i j at) [
      | inl h ↦ not_wanted (s.can.wanted.closed i j.0 n j.1 h.0 h.1 stands)
      | inr h ↦
          let u = above i j h.0 stands in
          between r.before.vtree (once_numbered r.before.vtree s.table.numbered) r.upper k.0 j.0 child.left child.right
          child.at child.child h.1.1 h.1.0 u.0 u.1
    ]

    not_in_detached : (i : ℕ) (j : ℕ × List (ℕ × ℕ)) → get now.detached i ≡ Some j → ¬ StandsIn (2050 + n) j.1
    not_in_detached i j at stands = elim (s.can.others i j (s.detached i j at).0) [
      | inl w ↦ not_wanted (s.can.wanted.closed i j.0 n j.1 w (key_stays i j at w) stands)
      | inr b ↦ below b.0 (s.detached i j at).1 (linked_or_detached r.before i j (s.detached i j at).0)
    ]
      where
        below : j.0 ≢ r.upper → IsTurnedPlace r.upper r.lower j.0 →
            (get r.before.linked i ≡ Some j) ⊎ (get r.before.detached i ≡ Some j) → ⊥
        below apart (inl up) state = apart up
        below apart (inr z) (inl linked) = (above i j linked stands).1 (same_Some j.0 k.0 (z ∙ sym low))
        below apart (inr z) (inr waits) = apart (s.can.waiting i j waits)

    not_in_run : (start : ℕ) (l : List (ℕ × ℕ)) → get now.loose start ≡ Some l → ¬ StandsIn (2050 + n) l
    not_in_run start l at stands =
        let w = without_kept r.before.loose (starts_of r.named) start l
        (ap (λ m. get m start) (sym s.entries.loose) ∙ at) in
        not_wanted (s.can.runs start n l w.0 (λ own. w.1 (own_start r.named start own)) stands)

    not_held : (root c : ℕ) → get now.roots root ≡ Some c → c ≢ 2050 + n
    not_held root c at same =
        not_wanted (s.can.roots root n
        (ap (λ (u : Table). get u.roots root) (sym s.same) ∙ at ∙ ap Some same))

    -- nothing uses it
    pub lower_unused : uses_of now (2050 + n) ≡ 0
    lower_unused =
        omega (
          arith,
          sum_zero (λ (j : ℕ × List (ℕ × ℕ)). uses_in (2050 + n) j.1) now.linked
              (λ i j at. no_uses (2050 + n) j.1 (not_in_linked i j at)),
          sum_zero (λ (j : ℕ × List (ℕ × ℕ)). uses_in (2050 + n) j.1) now.detached
              (λ i j at. no_uses (2050 + n) j.1 (not_in_detached i j at)),
          sum_zero (uses_in (2050 + n)) now.loose (λ start l at. no_uses (2050 + n) l (not_in_run start l at)),
          sum_zero (λ held. cond (eqb held (2050 + n)) 1 0) now.roots
              (λ root c at. counts_other (2050 + n) c (not_held root c at)),
        )

    -- and it is discarded
    pub lower_discarded : (new : Table) → IsDiscarded now new n → IsReturning r new [] []
    lower_discarded new g =
        record {
          can = s.can;
          table = s.table;
          progress = with_discarded s.progress n;
          going = subst (λ u. MoveInProgress r.way.start u r.upper (with_discarded s.progress n) r.way.valuation)
              (sym g.is)
              (discarded_on r.way.start now r.upper s.progress r.way.valuation t s.going s.goes_back n k d
              (remove now.marks n) (with_free now (length g.list)).free);
          goes_back = s.goes_back;
          older = λ i w. older i w;
          same = subst (λ (u : Table). u ≡ record r.before {
            vtree = s.can.tree;
            epoch = next_epoch r.before.epoch;
            linked = u.linked;
            detached = u.detached;
            loose = u.loose;
            free = u.free;
            marks = u.marks;
          }) (sym g.is) (ap (λ (u : Table). record u {
            detached = remove now.detached n;
            free = (with_free now (length g.list)).free;
            marks = remove now.marks n;
          }) s.same);
          linked = λ i j f. s.linked i j (subst (λ (u : Table). get u.linked i ≡ Some j) g.is f);
          stay = λ i j f out. subst (λ (u : Table). get u.linked i ≡ Some j) (sym g.is) (s.stay i j f out);
          detached = λ i j f.
              detached i j (subst (λ (u : Table). get u.detached i ≡ Some j) g.is f) (cases_eq i n);
          marks = λ i m f. marks i m (subst (λ (u : Table). get u.marks i ≡ Some m) g.is f) (cases_eq i n);
          entries = none_named r now new n s.entries (ap (λ (u : Table). u.detached) g.is)
              (ap (λ (u : Table). u.loose) g.is);
        }
      where
        older : (i : ℕ) → IsWantedBy r i → ¬ IsNew r.way.start (with_discarded s.progress n) i
        older i w (inl none) = s.older i w (inl none)
        older i w (inr (inl z)) = not_wanted (subst (IsWantedBy r) (sym z) w)
        older i w (inr (inr m)) = s.older i w (inr m)

        marks : (i m : ℕ) → get (remove now.marks n) i ≡ Some m → (i ≡ n) ⊎ (i ≢ n) →
            get r.before.marks i ≡ Some m
        marks i m f (inl z) =
            absurd (none-some m (sym (get_remove_same now.marks n) ∙ ap (get (remove now.marks n)) (sym z) ∙ f))
        marks i m f (inr z) = s.marks i m (sym (get_remove_other now.marks n i z) ∙ f)

        detached : (i : ℕ) (j : ℕ × List (ℕ × ℕ)) → get (remove now.detached n) i ≡ Some j → (i ≡ n) ⊎ (i ≢ n) →
            (key_at r.before i ≡ Some j) × IsTurnedPlace r.upper r.lower j.0
        detached i j f (inl z) =
            absurd (none-some j
            (sym (get_remove_same now.detached n) ∙ ap (get (remove now.detached n)) (sym z) ∙ f))
        detached i j f (inr z) = s.detached i j (sym (get_remove_other now.detached n i z) ∙ f)

-- one node less is detached
pub fewer_detached : (now new : Table) (n : ℕ) (k : ℕ × List (ℕ × ℕ)) → get now.detached n ≡ Some k →
    new.detached ≡ remove now.detached n → entry_count new.detached < entry_count now.detached
fewer_detached now new n k e is =
    omega (arith, fewer_entries now.detached n k e, ap (λ m. entry_count m) is)

-- the place of a detached node is the one that is read
pub own_place : (t : Table) → IsTable t → (n : ℕ) (k : ℕ × List (ℕ × ℕ)) → get t.detached n ≡ Some k → (p : ℕ) →
    option_map (λ (k : ℕ × List (ℕ × ℕ)). k.0) (key_at t n) ≡ Some p → k.0 ≡ p
own_place t i n k d p e =
    same_Some k.0 p (sym (ap (option_map (λ (k : ℕ × List (ℕ × ℕ)). k.0)) (detached_key t i n k d)) ∙ e)

-- a node that is linked is detached no more
pub linked_gone : (now new : Table) (n p : ℕ) → IsSome (get now.detached n) →
    ((k : ℕ × List (ℕ × ℕ)) → get now.detached n ≡ Some k → new ≡ linked_under now n (p, k.1)) →
    new.detached ≡ remove now.detached n
linked_gone now new n p h is =
    let k = some_value (get now.detached n) h in ap (λ (u : Table). u.detached) (is k.0 k.1)
