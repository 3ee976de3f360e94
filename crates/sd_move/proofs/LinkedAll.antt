-- Detached nodes are linked at a place with their lists, one after the other.
use Rattle.std.proofs.Common.{◌≡◌, ◌⊎◌, inl, inr, ℕ, List, [], ◌∷◌, Some, None}
use Rattle.std.proofs.Common.{refl, sym, ◌∙◌, ap, subst}
use Rattle.std.specs.List.{AllByRecursion}
use Rattle.std.specs.Option.{IsSome}
use Rattle.std.specs.FinMap.{get, insert}
use Rattle.std.proofs.lemmas.Option.{same_Some}
use Rattle.sd_runs.specs.Arena.{IsMember}
use Rattle.sd_runs.proofs.Maps.{get_insert_same, get_insert_other, get_remove_same, get_remove_other}
use Rattle.sd_laws.specs.Values.{Valuation, ShowsValue}
use Rattle.sd_laws.proofs.Lists.{all_weaker}
use Rattle.sd_manager.specs.Table.{Table}
use Rattle.sd_manager.specs.Valid.{IsTable}
use Rattle.sd_manager.specs.Moving.{linked_under, FitsNode, IsAscending, IsAbsent}
use Rattle.sd_manager.proofs.Reading.{detached_key}
use Rattle.sd_move.specs.Moving.{Progress, MoveInProgress}
use Rattle.sd_move.specs.Steps.{CanLinkWith, CanLinkAll, MayLinkAll, AreLinkedAt}
use Rattle.sd_move.proofs.Linking.{may_fit, key_absent}
use Rattle.sd_move.proofs.LinkedOn.{CanLink, linked_on, still_there, lifted}

-- one node

module _ (m0 m : Table) (x : ℕ) (h : Progress) (v : Valuation) (place : ℕ) (t : IsTable m)
    (g : MoveInProgress m0 m x h v) (n : ℕ) (c : CanLinkWith m0 m h v place n) where
  own_key : (k : ℕ × List (ℕ × ℕ)) → get m.detached n ≡ Some k → (c.before, c.list) ≡ k
  own_key k e = same_Some (c.before, c.list) k (sym c.was ∙ e)

  -- its list fits the place
  one_fits : (k : ℕ × List (ℕ × ℕ)) → get m.detached n ≡ Some k → FitsNode m place k.1 × IsAscending k.1
  one_fits k e =
      subst (λ (y : ℕ × List (ℕ × ℕ)). FitsNode m place y.1 × IsAscending y.1) (own_key k e) (
        may_fit m0 m x h v t g place c.list
            (g.whole n c.before c.list (detached_key m t n (c.before, c.list) c.was)) c.placed c.codes,
        c.ascending,
      )

  -- and no linked node has the key
  one_absent : (k : ℕ × List (ℕ × ℕ)) → get m.detached n ≡ Some k → IsAbsent m place k.1
  one_absent k e =
      subst (λ (y : ℕ × List (ℕ × ℕ)). IsAbsent m place y.1) (own_key k e)
      (key_absent m0 m x h v t g n place (c.before, c.list) c.list c.was
      (g.value n c.before c.list (detached_key m t n (c.before, c.list) c.was)))

-- one node more

module _ (m0 m : Table) (x : ℕ) (h : Progress) (v : Valuation) (place n : ℕ) (rest : List ℕ) (t : IsTable m)
    (c : CanLinkAll m0 m x h v place (n ∷ rest)) where
  -- the list of the first one
  first_list : List (ℕ × ℕ)
  first_list = c.each.0.list

  first_going : IsTable (linked_under m n (place, c.each.0.list)) →
      MoveInProgress m0 (linked_under m n (place, c.each.0.list)) x h v
  first_going t' =
      let w = c.each.0 in
      let key = detached_key m t n (w.before, w.list) w.was in
      let can : CanLink m0 m x h h v n place w.list =
      record {
        former = (w.before, w.list);
        detached = w.was;
        settled = c.settled;
        same = c.going.value n w.before w.list key;
        whole = c.going.whole n w.before w.list key;
        placed = w.placed;
        codes = w.codes;
        keys = t'.keys;
        discarded = refl;
        others = λ i d. refl;
        own = λ q old e. c.going.lists n w.before q w.list old key e (λ z. w.old (inr z));
        below = λ f. absurd (w.old f);
        way = λ a. a;
      } in
      linked_on m0 m x h h v t c.going n place w.list m.loose m.free m.extent can
      (λ a b. absurd (c.early a b))

  -- the others can be linked still
  first_others : (ns : List ℕ) → ¬ IsMember n ns → AllByRecursion (CanLinkWith m0 m h v place) ns →
      AllByRecursion (CanLinkWith m0 (linked_under m n (place, c.each.0.list)) h v place) ns
  first_others [] new all = tt
  first_others (i ∷ ns) new all = (
    let w = all.0 in
        record {
          before = w.before;
          list = w.list;
          was = get_remove_other m.detached n i (λ z. new (inl z)) ∙ w.was;
          old = w.old;
          placed = w.placed;
          ascending = w.ascending;
          codes = all_weaker
              (λ (e : ℕ × ℕ). ShowsValue m.vtree (get m.linked) v e.0 × ShowsValue m.vtree (get m.linked) v e.1)
              (λ (e : ℕ × ℕ). ShowsValue m.vtree (get (insert m.linked n (place, c.each.0.list))) v e.0
              × ShowsValue m.vtree (get (insert m.linked n (place, c.each.0.list))) v e.1)
              (λ e k. (shown e.0 k.0, shown e.1 k.1)) w.list w.codes;
        },
    first_others ns (λ z. new (inr z)) all.1,
  )
    where
      shown : (d : ℕ) → ShowsValue m.vtree (get m.linked) v d →
          ShowsValue m.vtree (get (insert m.linked n (place, c.each.0.list))) v d
      shown d k =
          lifted m.vtree (get m.linked) (get (insert m.linked n (place, c.each.0.list))) v d
          (still_there m t n (c.each.0.before, c.each.0.list) (place, c.each.0.list) c.each.0.was) k

  pub first_linked : IsTable (linked_under m n (place, c.each.0.list)) →
      CanLinkAll m0 (linked_under m n (place, c.each.0.list)) x h v place rest
  first_linked t' =
      record {
        going = first_going t';
        settled = c.settled;
        early = c.early;
        once = c.once.1;
        each = first_others rest c.once.0 c.each.1;
      }

-- nothing is linked for no numbers
none_linked : (m : Table) (place : ℕ) → AreLinkedAt m m place []
none_linked m place =
    record {
      same = refl;
      each = λ n k i e. absurd i;
      gone = λ n i. absurd i;
      others = λ n i. (refl, refl);
    }

-- the first node is linked, and then the others
then_linked : (m new : Table) (place n : ℕ) (rest : List ℕ) (k : ℕ × List (ℕ × ℕ)) → get m.detached n ≡ Some k →
    ¬ IsMember n rest → AreLinkedAt (linked_under m n (place, k.1)) new place rest → AreLinkedAt m new place (n ∷ rest)
then_linked m new place n rest k was once s =
    record {
      same = s.same;
      each = λ i j z e. each i j z e;
      gone = λ i z. gone i z;
      others = λ i z.
          let o = s.others i (λ y. z (inr y)) in (
            o.0 ∙ get_insert_other m.linked n (place, k.1) i (λ y. z (inl (sym y))),
            o.1 ∙ get_remove_other m.detached n i (λ y. z (inl (sym y))),
          );
    }
  where
    each : (i : ℕ) (j : ℕ × List (ℕ × ℕ)) → (n ≡ i) ⊎ IsMember i rest → get m.detached i ≡ Some j →
        get new.linked i ≡ Some (place, j.1)
    each i j (inl z) e =
        let same : k ≡ j = same_Some k j (sym was ∙ ap (get m.detached) z ∙ e) in
        ap (get new.linked) (sym z) ∙ (s.others n once).0 ∙ get_insert_same m.linked n (place, k.1)
        ∙ ap (λ (y : ℕ × List (ℕ × ℕ)). Some (place, y.1)) same
    each i j (inr z) e =
        s.each i j z (get_remove_other m.detached n i (λ y. once (subst (λ q. IsMember q rest) y z)) ∙ e)

    gone : (i : ℕ) → (n ≡ i) ⊎ IsMember i rest → get new.detached i ≡ None
    gone i (inl z) =
        ap (get new.detached) (sym z) ∙ (s.others n once).1 ∙ get_remove_same m.detached n
    gone i (inr z) = s.gone i z

-- the loop

-- what is so where these numbers are left
pub record IsLinking (old now : Table) (place : ℕ) (numbers rest : List ℕ) : Type 0 where
  pub going : (m0 : Table) (x : ℕ) (h : Progress) (v : Valuation) → CanLinkAll m0 old x h v place numbers →
      CanLinkAll m0 now x h v place rest
  pub done : (new : Table) → AreLinkedAt now new place rest → AreLinkedAt old new place numbers
  pub table : IsTable now

-- at the begin all are left
pub linking_first : (old : Table) (place : ℕ) (numbers : List ℕ) → IsTable old → IsLinking old old place numbers numbers
linking_first old place numbers t = record { going = λ m0 x h v c. c; done = λ new s. s; table = t }

module _ (old now : Table) (place n : ℕ) (numbers rest : List ℕ) (s : IsLinking old now place numbers (n ∷ rest)) where
  -- what the first one asks
  pub may_link : MayLinkAll old place numbers → IsSome now.moving × IsSome (get now.detached n)
      × ((k : ℕ × List (ℕ × ℕ)) → get now.detached n ≡ Some k → FitsNode now place k.1 × IsAscending k.1)
      × ((k : ℕ × List (ℕ × ℕ)) → get now.detached n ≡ Some k → IsAbsent now place k.1)
  may_link (m0, x, h, v, c) =
      let d = s.going m0 x h v c in (
        subst IsSome (sym d.going.moving) refl,
        subst IsSome (sym d.each.0.was) refl,
        one_fits m0 now x h v place s.table d.going n d.each.0,
        one_absent m0 now x h v place s.table d.going n d.each.0,
      )

  -- and it is linked
  pub linking_on : MayLinkAll old place numbers → (new : Table) →
      ((k : ℕ × List (ℕ × ℕ)) → get now.detached n ≡ Some k → new ≡ linked_under now n (place, k.1)) → IsTable new →
      IsLinking old new place numbers rest
  linking_on (a0, ax, ah, av, a) new is t =
      record {
        going = λ m0 x h v c. going m0 x h v (s.going m0 x h v c);
        done = λ z l. s.done z
            (then_linked now z place n rest (w.each.0.before, w.each.0.list) w.each.0.was w.once.0
            (subst (λ u. AreLinkedAt u z place rest) (is (w.each.0.before, w.each.0.list) w.each.0.was) l));
        table = t;
      }
    where
      w : CanLinkAll a0 now ax ah av place (n ∷ rest)
      w = s.going a0 ax ah av a

      going : (m0 : Table) (x : ℕ) (h : Progress) (v : Valuation) → CanLinkAll m0 now x h v place (n ∷ rest) →
          CanLinkAll m0 new x h v place rest
      going m0 x h v c =
          let own : new ≡ linked_under now n (place, c.each.0.list) =
          is (c.each.0.before, c.each.0.list) c.each.0.was in
          subst (λ u. CanLinkAll m0 u x h v place rest) (sym own)
          (first_linked m0 now x h v place n rest s.table c (subst IsTable own t))

-- where none is left all are linked
pub linking_last : (old now : Table) (place : ℕ) (numbers : List ℕ) → IsLinking old now place numbers [] →
    ((m0 : Table) (x : ℕ) (h : Progress) (v : Valuation) → CanLinkAll m0 old x h v place numbers →
    MoveInProgress m0 now x h v) × AreLinkedAt old now place numbers
linking_last old now place numbers s =
    (λ m0 x h v c. (s.going m0 x h v c).going, s.done now (none_linked now place))
