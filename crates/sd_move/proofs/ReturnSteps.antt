-- The steps of a move on its way back: the entries, and the nodes that are left.
use Rattle.std.proofs.Common.{◌≡◌, inr, ℕ, ◌+◌, List, [], ◌∷◌, length, Some, None}
use Rattle.std.proofs.Common.{refl, sym, ◌∙◌, ap, subst}
use Rattle.std.specs.List.{AllByRecursion}
use Rattle.std.specs.Option.{IsSome, option_map}
use Rattle.std.specs.Ordering.{nat_cmp}
use Rattle.std.specs.FinMap.{FinMap, get, insert, remove}
use Rattle.std.proofs.lemmas.Option.{same_Some}
use Rattle.sd_runs.proofs.Maps.{get_insert_same, get_insert_other}
use Rattle.sd_laws.specs.Shown.{AreKeys}
use Rattle.sd_laws.specs.Values.{IsPlaced, ShowsValue, StandsIn}
use Rattle.sd_manager.specs.Table.{Table}
use Rattle.sd_manager.specs.Valid.{IsTable}
use Rattle.sd_manager.specs.Moving.{linked_under, with_free, FitsNode, IsAscending, IsAbsent, IsPutBack}
use Rattle.sd_manager.proofs.Reading.{linked_key}
use Rattle.sd_manager.proofs.Holding.{some_value}
use Rattle.sd_move.specs.Moving.{Progress, MoveInProgress}
use Rattle.sd_move.specs.Steps.{CanLinkAll, MayLinkAll}
use Rattle.sd_move.specs.Journal.{Named, key_before}
use Rattle.sd_move.specs.GoingBack.{IsTurnedPlace, IsRightEntry, Return, IsWantedBy, key_wanted}
use Rattle.sd_move.specs.GoingBack.{AreEntriesLeft, IsReturning}
use Rattle.sd_move.proofs.Linking.{may_fit, key_absent}
use Rattle.sd_move.proofs.LinkedOn.{CanLink, linked_on}
use Rattle.sd_move.proofs.LinkedAll.{may_link as may_link_first, linking_first, linking_on, linking_last}
use Rattle.sd_move.proofs.Returning.{tree_now, turned_settled, codes_shown, may_link}
use Rattle.sd_move.proofs.ReturnEntries.{first_passed, first_linked, second_passed, second_put}
use Rattle.sd_move.proofs.ReturnLinked.{kept_free, last_free, linked_back}

-- other entries are left
pub with_entries : (r : Return) (now : Table) (first second first' second' : List Named) →
    IsReturning r now first second → AreEntriesLeft r now first' second' → IsReturning r now first' second'
with_entries r now first second first' second' s entries =
    record {
      can = s.can;
      table = s.table;
      progress = s.progress;
      going = s.going;
      goes_back = s.goes_back;
      older = s.older;
      same = s.same;
      linked = s.linked;
      stay = s.stay;
      detached = s.detached;
      marks = s.marks;
      entries = entries;
    }

-- one node is linked with the list that it has
module _ (r : Return) (now : Table) (first second : List Named) (s : IsReturning r now first second)
    (t : IsTable now) (n p q : ℕ) (l : List (ℕ × ℕ)) (w : IsWantedBy r n) (e : key_wanted r n ≡ Some (p, l))
    (turned : IsTurnedPlace r.upper r.lower p) (d : get now.detached n ≡ Some (q, l))
    (free : (i : ℕ) (k : ℕ × List (ℕ × ℕ)) → IsWantedBy r i → StandsIn (2050 + i) l → get now.detached i ≡ Some k → ⊥)
  where
    can : CanLinkAll r.way.start now r.upper s.progress r.way.valuation p (n ∷ [])
    can = may_link r now first second s t n p l w e turned free q d

    may : MayLinkAll now p (n ∷ [])
    may = (r.way.start, r.upper, s.progress, r.way.valuation, can)

    -- what that asks
    pub one_may : IsSome now.moving × IsSome (get now.detached n)
        × ((k : ℕ × List (ℕ × ℕ)) → get now.detached n ≡ Some k → FitsNode now p k.1 × IsAscending k.1)
        × ((k : ℕ × List (ℕ × ℕ)) → get now.detached n ≡ Some k → IsAbsent now p k.1)
    one_may = may_link_first now now p n (n ∷ []) [] (linking_first now p (n ∷ []) t) may

    -- and what it does
    pub one_linked : (new : Table) →
        ((k : ℕ × List (ℕ × ℕ)) → get now.detached n ≡ Some k → new ≡ linked_under now n (p, k.1)) → IsTable new →
        (first' second' : List Named) → AreEntriesLeft r new first' second' → IsReturning r new first' second'
    one_linked new is valid first' second' entries =
        linked_back r now first second s t n p l w e (q, l) d new now.loose now.free first' second' s.progress
        (is (q, l) d)
        ((linking_last now new p (n ∷ [])
        (linking_on now now p n (n ∷ []) [] (linking_first now p (n ∷ []) t) may new is valid)).0 r.way.start r.upper
        s.progress r.way.valuation can)
        s.goes_back refl entries

-- an entry with no run

module _ (r : Return) (now : Table) (e : Named) (rest second : List Named)
    (s : IsReturning r now (e ∷ rest) second) (t : IsTable now) (none : e.run ≡ None) where
  right : IsRightEntry r.before r.upper r.lower (IsWantedBy r) (key_wanted r) e
  right = s.entries.listed_first.0.right

  key : key_wanted r e.number ≡ Some (e.place, right.list)
  key =
      right.back ∙ ap (key_before r.before e.number e.place) none
      ∙ ap (option_map {U = ℕ × List (ℕ × ℕ)} (λ (k : ℕ × List (ℕ × ℕ)). (e.place, k.1))) right.linked

  waits : get now.detached e.number ≡ Some (right.place, right.list)
  waits =
      let k = some_value (get now.detached e.number) (s.entries.wait_first.0 none) in
      k.1 ∙ sym (s.detached e.number k.0 k.1).0 ∙ linked_key r.before e.number (right.place, right.list) right.linked

  free : (i : ℕ) (k : ℕ × List (ℕ × ℕ)) → IsWantedBy r i → StandsIn (2050 + i) right.list →
      get now.detached i ≡ Some k → ⊥
  free =
      kept_free r now (e ∷ rest) second s t e.number e.place right.list right.wanted key right.before right.place
      right.linked right.here

  pub kept_may : IsSome now.moving × IsSome (get now.detached e.number)
      × ((k : ℕ × List (ℕ × ℕ)) → get now.detached e.number ≡ Some k → FitsNode now e.place k.1 × IsAscending k.1)
      × ((k : ℕ × List (ℕ × ℕ)) → get now.detached e.number ≡ Some k → IsAbsent now e.place k.1)
  kept_may =
      one_may r now (e ∷ rest) second s t e.number e.place right.place right.list right.wanted key right.before waits
      free

  pub kept_linked : (new : Table) →
      ((k : ℕ × List (ℕ × ℕ)) → get now.detached e.number ≡ Some k → new ≡ linked_under now e.number (e.place, k.1)) →
      IsTable new → IsReturning r new rest second
  kept_linked new is valid =
      let own = is (right.place, right.list) waits in
      one_linked r now (e ∷ rest) second s t e.number e.place right.place right.list right.wanted key right.before
      waits free new is valid rest second
      (first_linked r now e rest second s.entries none new (ap (λ (u : Table). u.detached) own)
      (ap (λ (u : Table). u.loose) own))

-- an entry that has one is passed
pub kept_passed : (r : Return) (now : Table) (e : Named) (rest second : List Named) →
    IsReturning r now (e ∷ rest) second → IsSome e.run → IsReturning r now rest second
kept_passed r now e rest second s some =
    with_entries r now (e ∷ rest) second rest second s (first_passed r now e rest second s.entries some)

-- an entry with a run

module _ (r : Return) (now : Table) (e : Named) (rest : List Named) (s : IsReturning r now [] (e ∷ rest))
    (t : IsTable now) (pair : ℕ × ℕ) (run : e.run ≡ Some pair) where
  entry : IsRightEntry r.before r.upper r.lower (IsWantedBy r) (key_wanted r) e
  entry = s.entries.listed_second.0.right

  -- the list of the run
  former : (l : List (ℕ × ℕ)) × (get r.before.loose pair.0 ≡ Some l) × (length l ≡ pair.1)
  former = entry.run pair.0 pair.1 run

  run_now : get now.loose pair.0 ≡ Some former.0
  run_now = s.entries.runs.0 pair.0 pair.1 run ∙ former.1

  wanted : key_wanted r e.number ≡ Some (e.place, former.0)
  wanted =
      entry.back ∙ ap (key_before r.before e.number e.place) run
      ∙ ap (option_map {U = ℕ × List (ℕ × ℕ)} (λ (l : List (ℕ × ℕ)). (e.place, l))) former.1

  detached : (k : ℕ × List (ℕ × ℕ)) × (get now.detached e.number ≡ Some k)
  detached = some_value (get now.detached e.number) (s.entries.wait_second.0 (subst IsSome (sym run) refl))

  placed : IsPlaced now.vtree r.way.valuation e.place former.0
  placed =
      subst (λ z. IsPlaced z r.way.valuation e.place former.0) (sym (tree_now r now [] (e ∷ rest) s t))
      (s.can.wanted.placed e.number e.place former.0 entry.wanted wanted)

  codes : AllByRecursion (λ (d : ℕ × ℕ). ShowsValue now.vtree (get now.linked) r.way.valuation d.0
      × ShowsValue now.vtree (get now.linked) r.way.valuation d.1) former.0
  codes =
      codes_shown r now [] (e ∷ rest) s t e.number e.place former.0 entry.wanted wanted entry.before
      (last_free r now (e ∷ rest) s t e.number e.place former.0 entry.wanted wanted entry.before)

  -- what putting back asks
  pub put_moving : IsSome now.moving
  put_moving = subst IsSome (sym s.going.moving) refl

  pub put_node : IsSome (get now.detached e.number)
  put_node = subst IsSome (sym detached.1) refl

  pub put_run : (l : List (ℕ × ℕ)) × (get now.loose pair.0 ≡ Some l) × (length l ≡ pair.1)
  put_run = (former.0, run_now, former.2)

  pub put_fits : (l : List (ℕ × ℕ)) → get now.loose pair.0 ≡ Some l → FitsNode now e.place l × IsAscending l
  put_fits l f =
      subst (λ k. FitsNode now e.place k × IsAscending k) (same_Some former.0 l (sym run_now ∙ f)) (
        may_fit r.way.start now r.upper s.progress r.way.valuation t s.going e.place former.0
            (s.can.wanted.whole e.number e.place former.0 entry.wanted wanted) placed codes,
        s.can.wanted.ascending e.number e.place former.0 entry.wanted wanted,
      )

  pub put_absent : (l : List (ℕ × ℕ)) → get now.loose pair.0 ≡ Some l → IsAbsent now e.place l
  put_absent l f =
      subst (IsAbsent now e.place) (same_Some former.0 l (sym run_now ∙ f))
      (key_absent r.way.start now r.upper s.progress r.way.valuation t s.going e.number e.place detached.0 former.0
      detached.1 (s.can.wanted.value e.number e.place former.0 entry.wanted wanted))

  -- and what it does
  pub put_linked : (new : Table) → IsPutBack now new e.number e.place pair.0 → IsTable new → IsReturning r new [] rest
  put_linked new g valid =
      linked_back r now [] (e ∷ rest) s t e.number e.place former.0 entry.wanted wanted detached.0 detached.1 new
      (remove now.loose pair.0) freed [] rest h is going s.goes_back refl
      (second_put r now e rest s.entries pair.0 pair.1 run new (ap (λ (u : Table). u.detached) is)
      (ap (λ (u : Table). u.loose) is))
    where
      h : Progress
      h = record s.progress { rewritten = insert s.progress.rewritten e.number former.0 }

      same : g.list ≡ former.0
      same = same_Some g.list former.0 (sym g.run ∙ run_now)

      freed : FinMap nat_cmp ℕ
      freed = (with_free (linked_under now e.number (e.place, former.0)) (length g.former)).free

      is : new ≡ record (linked_under now e.number (e.place, former.0)) {
        loose = remove now.loose pair.0;
        free = (with_free (linked_under now e.number (e.place, former.0)) (length g.former)).free;
      }
      is =
          g.is
          ∙ ap (λ (l : List (ℕ × ℕ)). record (with_free (linked_under now e.number (e.place, l)) (length g.former)) {
            loose = remove now.loose pair.0;
          }) same

      can : CanLink r.way.start now r.upper s.progress h r.way.valuation e.number e.place former.0
      can =
          record {
            former = detached.0;
            detached = detached.1;
            settled = turned_settled r now [] (e ∷ rest) s t e.place entry.before;
            same = s.can.wanted.value e.number e.place former.0 entry.wanted wanted;
            whole = s.can.wanted.whole e.number e.place former.0 entry.wanted wanted;
            placed = placed;
            codes = codes;
            keys = subst (λ (u : Table). AreKeys (get u.linked)) is valid.keys;
            discarded = refl;
            others = λ i d. get_insert_other s.progress.rewritten e.number former.0 i d;
            own = λ q old f. inr (get_insert_same s.progress.rewritten e.number former.0);
            below = λ f. absurd (s.older e.number entry.wanted f);
            way = λ a. a;
          }

      going : MoveInProgress r.way.start new r.upper h r.way.valuation
      going =
          subst (λ u. MoveInProgress r.way.start u r.upper h r.way.valuation) (sym is)
          (linked_on r.way.start now r.upper s.progress h r.way.valuation t s.going e.number e.place former.0
          (remove now.loose pair.0)
          (with_free (linked_under now e.number (e.place, former.0)) (length g.former)).free now.extent can
          (λ a b. absurd (cc (sym s.goes_back ∙ b))))

-- an entry that has none is passed
pub put_passed : (r : Return) (now : Table) (e : Named) (rest : List Named) → IsReturning r now [] (e ∷ rest) →
    e.run ≡ None → IsReturning r now [] rest
put_passed r now e rest s none =
    with_entries r now [] (e ∷ rest) [] rest s (second_passed r now e rest s.entries none)

-- what the loops keep

-- the entries with no run, up to these
pub record IsLinkingKept (old now : Table) (named rest : List Named) : Type 0 where
  pub going : (r : Return) → IsReturning r old named named → IsReturning r now rest named
  pub table : IsTable now

-- the entries with a run, up to these
pub record IsPuttingBack (old now : Table) (named rest : List Named) : Type 0 where
  pub going : (r : Return) → IsReturning r old [] named → IsReturning r now [] rest
  pub table : IsTable now

-- the nodes that are left
pub record IsLeaving (old now : Table) (x : ℕ) : Type 0 where
  pub going : (r : Return) → r.upper ≡ x → IsReturning r old [] [] → IsReturning r now [] []
  pub table : IsTable now
