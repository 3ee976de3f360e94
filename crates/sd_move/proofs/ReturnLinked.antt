-- On the way back a wanted node is linked under the key that it gets, with the list that it has or with an old run.
use Rattle.std.proofs.Common.{◌≡◌, ◌≢◌, ◌⊎◌, inl, inr, ℕ, ◌+◌, true, List, [], Option, Some, None}
use Rattle.std.proofs.Common.{refl, sym, ◌∙◌, ap, subst}
use Rattle.std.specs.Option.{IsSome}
use Rattle.std.specs.Ordering.{nat_cmp}
use Rattle.std.specs.FinMap.{FinMap, get, insert, remove}
use Rattle.std.proofs.lemmas.Bool.{cases_eq}
use Rattle.std.proofs.lemmas.Option.{same_Some, none-some, some_pair_parts}
use Rattle.sd_vtree.proofs.Subtrees.{once_numbered}
use Rattle.sd_runs.specs.Arena.{IsMember}
use Rattle.sd_runs.proofs.Maps.{get_insert_same, get_insert_other, get_remove_same, get_remove_other}
use Rattle.sd_laws.specs.Values.{StandsIn}
use Rattle.sd_laws.proofs.Users.{users_above}
use Rattle.sd_manager.specs.Table.{Table, key_at}
use Rattle.sd_manager.specs.Valid.{IsTable}
use Rattle.sd_manager.specs.Moving.{linked_under, next_epoch}
use Rattle.sd_manager.proofs.Holding.{some_value}
use Rattle.sd_move.specs.Moving.{Progress, IsNew, IsBelowNode, MoveInProgress}
use Rattle.sd_move.specs.Journal.{Named, journal_entry}
use Rattle.sd_move.specs.GoingBack.{IsTurnedPlace, IsRightEntry, Return, IsWantedBy, key_wanted}
use Rattle.sd_move.specs.GoingBack.{AreEntriesLeft, IsReturning, numbers_of}
use Rattle.sd_move.proofs.UndoKept.{entry_found}
use Rattle.sd_move.proofs.Returning.{linked_or_detached, entry_place, turned_order, places}
use Rattle.sd_move.proofs.Returning.{below_before, below_now, detached_turned, not_twice}
use Rattle.sd_move.proofs.Returning.{named_below}

-- what a node names is linked

module _ (r : Return) (now : Table) (first second : List Named) (s : IsReturning r now first second)
    (t : IsTable now) (n p : ℕ) (l : List (ℕ × ℕ)) (w : IsWantedBy r n) (e : key_wanted r n ≡ Some (p, l))
    (turned : IsTurnedPlace r.upper r.lower p) where
  -- a detached node that it names gets the lower node
  names_lower : (i q : ℕ) (k : ℕ × List (ℕ × ℕ)) (m : List (ℕ × ℕ)) → IsWantedBy r i → StandsIn (2050 + i) l →
      get now.detached i ≡ Some k → key_wanted r i ≡ Some (q, m) → Some q ≡ r.lower
  names_lower i q k m j stands d f =
      let b = named_below r now first second s t n i p q l m w e stands f in
      (turned_order s.can.tree (once_numbered s.can.tree (places r now first second s t).numbered) r.upper p q r.lower
      (below_now r now first second s t) turned
      (detached_turned r now first second s t i k.0 q k.1 m j d f) b.0 b.1).1

  -- where it keeps the list that it had, no node that it names is detached
  pub kept_free : (place : ℕ) → get r.before.linked n ≡ Some (place, l) → IsTurnedPlace r.upper r.lower place →
      (i : ℕ) (k : ℕ × List (ℕ × ℕ)) → IsWantedBy r i → StandsIn (2050 + i) l → get now.detached i ≡ Some k → ⊥
  kept_free place linked here i k j stands d =
      by_place (some_value (key_wanted r i) (s.can.wanted.there i j)) (s.detached i k d).0 (s.detached i k d).1
    where
      by_place : (f : (x : ℕ × List (ℕ × ℕ)) × (key_wanted r i ≡ Some x)) → key_at r.before i ≡ Some k →
          IsTurnedPlace r.upper r.lower k.0 → ⊥
      by_place f key (inr low) =
          not_twice r now first second s t i k.0 f.0.0 k.1 f.0.1 j key low f.1
          (names_lower i f.0.0 k f.0.1 j stands d f.1)
      by_place f key (inl up) = by_state (linked_or_detached r.before i k key)
        where
          low : Some f.0.0 ≡ r.lower
          low = names_lower i f.0.0 k f.0.1 j stands d f.1

          by_state : (get r.before.linked i ≡ Some k) ⊎ (get r.before.detached i ≡ Some k) → ⊥
          by_state (inl at) =
              let num = s.table.numbered in
              let u =
              users_above r.before.vtree num r.way.valuation i place k.0 l k.1
              (s.can.going.placed n place l linked) (s.can.going.whole i k.0 k.1 key)
              (s.can.going.placed i k.0 k.1 at) (s.can.going.value i k.0 k.1 key) stands in
              let o =
              turned_order r.before.vtree (once_numbered r.before.vtree num) r.upper place k.0 r.lower
              (below_before r now first second s t) here (inl up) u.0 u.1 in
              (below_before r now first second s t k.0 o.1).1 (sym up)
          by_state (inr waits) = by_entry (journal_entry r.named i) refl
            where
              by_entry : (o : Option Named) → journal_entry r.named i ≡ o → ⊥
              by_entry None none =
                  let same : f.0.0 ≡ k.0 =
                  (some_pair_parts f.0.0 k.0 f.0.1 k.1 (sym f.1 ∙ s.can.unnamed i j none ∙ key)).0 in
                  (below_before r now first second s t f.0.0 low).1 (sym (same ∙ up))
              by_entry (Some x) own =
                  let y =
                  entry_found r.named (IsRightEntry r.before r.upper r.lower (IsWantedBy r) (key_wanted r))
                  s.can.entries i x own in
                  none-some k
                  (sym (s.table.either i (y.0.place, y.0.list) (ap (get r.before.linked) (sym y.1) ∙ y.0.linked))
                  ∙ waits)

-- once no entry of the first list is left, no node that it names is detached in any case
module _ (r : Return) (now : Table) (second : List Named) (s : IsReturning r now [] second)
    (t : IsTable now) (n p : ℕ) (l : List (ℕ × ℕ)) (w : IsWantedBy r n) (e : key_wanted r n ≡ Some (p, l))
    (turned : IsTurnedPlace r.upper r.lower p) where
  pub last_free : (i : ℕ) (k : ℕ × List (ℕ × ℕ)) → IsWantedBy r i → StandsIn (2050 + i) l →
      get now.detached i ≡ Some k → ⊥
  last_free i k j stands d =
      let f = some_value (key_wanted r i) (s.can.wanted.there i j) in
      go f.0.0 f.0.1 f.1 (names_lower r now [] second s t n p l w e turned i f.0.0 k f.0.1 j stands d f.1)
      (journal_entry r.named i) refl
    where
      go : (q : ℕ) (m : List (ℕ × ℕ)) → key_wanted r i ≡ Some (q, m) → Some q ≡ r.lower → (o : Option Named) →
          journal_entry r.named i ≡ o → ⊥
      go q m f low None none =
          let key = (s.detached i k d).0 in
          let same : q ≡ k.0 = (some_pair_parts q k.0 m k.1 (sym f ∙ s.can.unnamed i j none ∙ key)).0 in
          not_twice r now [] second s t i k.0 q k.1 m j key (ap Some (sym same) ∙ low) f low
      go q m f low (Some x) own =
          by_left (entry_found r.named (IsRightEntry r.before r.upper r.lower (IsWantedBy r) (key_wanted r))
          s.can.entries i x own) (s.entries.left i x own (subst IsSome (sym d) refl))
        where
          by_left : IsRightEntry r.before r.upper r.lower (IsWantedBy r) (key_wanted r) x × (x.number ≡ i) →
              ((x.run ≡ None) × IsMember i (numbers_of [])) ⊎ (IsSome x.run × IsMember i (numbers_of second)) → ⊥
          by_left y (inl h) = h.1
          by_left y (inr h) =
              let at : q ≡ x.place =
              entry_place r.before x.number x.place q m x.run (sym y.0.back ∙ ap (key_wanted r) y.1 ∙ f) in
              (below_now r now [] second s t q low).1 (sym (at ∙ (y.0.rewritten h.0).1))

-- the table afterwards

module _ (r : Return) (now : Table) (first second : List Named) (s : IsReturning r now first second)
    (t : IsTable now) (n p : ℕ) (l : List (ℕ × ℕ)) (w : IsWantedBy r n) (e : key_wanted r n ≡ Some (p, l))
    (former : ℕ × List (ℕ × ℕ)) (d : get now.detached n ≡ Some former) where
  -- A wanted node is linked under the key that it gets; other loose and free runs may be there then.
  pub linked_back : (new : Table) (loose : FinMap nat_cmp (List (ℕ × ℕ))) (free : FinMap nat_cmp ℕ)
      (first' second' : List Named) (h : Progress) →
      new ≡ record (linked_under now n (p, l)) { loose = loose; free = free } →
      MoveInProgress r.way.start new r.upper h r.way.valuation → h.goes_back ≡ true →
      h.discarded ≡ s.progress.discarded → AreEntriesLeft r new first' second' → IsReturning r new first' second'
  linked_back new loose free first' second' h is going way same entries =
      record {
        can = s.can;
        table = s.table;
        progress = h;
        going = going;
        goes_back = way;
        older = λ i j. older i (s.older i j);
        same = subst (λ (u : Table). u ≡ record r.before {
          vtree = s.can.tree;
          epoch = next_epoch r.before.epoch;
          linked = u.linked;
          detached = u.detached;
          loose = u.loose;
          free = u.free;
          marks = u.marks;
        }) (sym is) (ap (λ (u : Table). record u {
          linked = insert now.linked n (p, l);
          detached = remove now.detached n;
          loose = loose;
          free = free;
        }) s.same);
        linked = λ i k f. linked i k (subst (λ (u : Table). get u.linked i ≡ Some k) is f) (cases_eq i n);
        stay = λ i k f out. subst (λ (u : Table). get u.linked i ≡ Some k) (sym is)
            (stay i k (s.stay i k f out) (cases_eq i n));
        detached = λ i k f. detached i k (subst (λ (u : Table). get u.detached i ≡ Some k) is f) (cases_eq i n);
        marks = λ i m f. s.marks i m (subst (λ (u : Table). get u.marks i ≡ Some m) is f);
        entries = entries;
      }
    where
      older : (i : ℕ) → ¬ IsNew r.way.start s.progress i → ¬ IsNew r.way.start h i
      older i not (inl none) = not (inl none)
      older i not (inr m) = not (inr (subst (λ (ns : List ℕ). IsMember i ns) same m))

      linked : (i : ℕ) (k : ℕ × List (ℕ × ℕ)) → get (insert now.linked n (p, l)) i ≡ Some k → (i ≡ n) ⊎ (i ≢ n) →
          (IsWantedBy r i × (key_wanted r i ≡ Some k))
          ⊎ ((get r.before.linked i ≡ Some k) × IsBelowNode r.before r.upper k.0
          × (¬ IsTurnedPlace r.upper r.lower k.0))
      linked i k f (inl z) =
          let key : (p, l) ≡ k =
          same_Some (p, l) k
          (sym (get_insert_same now.linked n (p, l)) ∙ ap (get (insert now.linked n (p, l))) (sym z) ∙ f) in
          inl (subst (IsWantedBy r) (sym z) w, ap (key_wanted r) z ∙ e ∙ ap Some key)
      linked i k f (inr z) = s.linked i k (sym (get_insert_other now.linked n (p, l) i z) ∙ f)

      stay : (i : ℕ) (k : ℕ × List (ℕ × ℕ)) → get now.linked i ≡ Some k → (i ≡ n) ⊎ (i ≢ n) →
          get (insert now.linked n (p, l)) i ≡ Some k
      stay i k f (inl z) =
          absurd (none-some former (sym (t.either i k f) ∙ ap (get now.detached) z ∙ d))
      stay i k f (inr z) = get_insert_other now.linked n (p, l) i z ∙ f

      detached : (i : ℕ) (k : ℕ × List (ℕ × ℕ)) → get (remove now.detached n) i ≡ Some k → (i ≡ n) ⊎ (i ≢ n) →
          (key_at r.before i ≡ Some k) × IsTurnedPlace r.upper r.lower k.0
      detached i k f (inl z) =
          absurd (none-some k
          (sym (get_remove_same now.detached n) ∙ ap (get (remove now.detached n)) (sym z) ∙ f))
      detached i k f (inr z) = s.detached i k (sym (get_remove_other now.detached n i z) ∙ f)
