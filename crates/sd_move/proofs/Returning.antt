-- A move on its way back: what is known of its nodes, and that a wanted one may be linked under the key that it gets.
use Rattle.std.proofs.Common.{◌≡◌, ◌≢◌, ◌⊎◌, inl, inr, ℕ, ◌+◌, ◌*◌, ◌<◌, List, [], ◌∷◌, Option, Some}
use Rattle.std.proofs.Common.{None, refl, sym, ◌∙◌, ap, subst}
use Rattle.std.specs.List.{AllByRecursion}
use Rattle.std.specs.Option.{IsSome, option_map}
use Rattle.std.specs.FinMap.{get}
use Rattle.std.proofs.lemmas.Option.{same_Some, none-some, some_pair_parts}
use Rattle.sd_model.specs.Tree.{leaves}
use Rattle.sd_vtree.specs.Numbered.{Numbered, plain_tree, IsUnder, or_else}
use Rattle.sd_vtree.proofs.Subtrees.{AtMostOnce, once_numbered}
use Rattle.sd_laws.specs.Values.{StandsIn, ShowsValue, IsPlaced}
use Rattle.sd_laws.proofs.Lists.{all_at, all_from}
use Rattle.sd_laws.proofs.ByValues.{base_shown}
use Rattle.sd_laws.proofs.GoneBack.{IsBaseOrNode}
use Rattle.sd_laws.proofs.Users.{users_above}
use Rattle.sd_laws.proofs.Within.{prime_stands, sub_stands}
use Rattle.sd_manager.specs.Table.{Table, key_at}
use Rattle.sd_manager.specs.Valid.{IsTable, IsSettled}
use Rattle.sd_manager.proofs.Reading.{linked_key}
use Rattle.sd_manager.proofs.DetachedFrom.{under_apart}
use Rattle.sd_manager.proofs.Holding.{some_value}
use Rattle.sd_move.specs.Steps.{CanLinkAll}
use Rattle.sd_move.specs.Journal.{Named, journal_entry, key_before}
use Rattle.sd_move.specs.GoingBack.{IsTurnedPlace, IsRightEntry, Return, IsWantedBy}
use Rattle.sd_move.specs.GoingBack.{key_wanted, IsReturning}
use Rattle.sd_move.proofs.UndoKept.{entry_found}
use Rattle.sd_manager.proofs.DetachedFrom.{settled_below}
use Rattle.sd_move.proofs.BegunAt.{settled_here}
use Rattle.sd_move.proofs.TurnedPlaces.{AreTurnedPlaces, turned_places}

-- keys

-- a key that is there is of a linked or a detached node
pub linked_or_detached : (t : Table) (n : ℕ) (k : ℕ × List (ℕ × ℕ)) → key_at t n ≡ Some k →
    (get t.linked n ≡ Some k) ⊎ (get t.detached n ≡ Some k)
linked_or_detached t n k e = go (get t.linked n) refl
  where
    go : (o : Option (ℕ × List (ℕ × ℕ))) → get t.linked n ≡ o →
        (get t.linked n ≡ Some k) ⊎ (get t.detached n ≡ Some k)
    go (Some j) f = inl (f ∙ sym (ap (λ o. or_else o (get t.detached n)) f) ∙ e)
    go None f = inr (sym (ap (λ o. or_else o (get t.detached n)) f) ∙ e)

-- the key that an entry puts back has the entry's place
pub entry_place : (t : Table) (n place p : ℕ) (l : List (ℕ × ℕ)) (run : Option (ℕ × ℕ)) →
    key_before t n place run ≡ Some (p, l) → p ≡ place
entry_place t n place p l None e = go (get t.linked n) e
  where
    go : (o : Option (ℕ × List (ℕ × ℕ))) →
        option_map {U = ℕ × List (ℕ × ℕ)} (λ (k : ℕ × List (ℕ × ℕ)). (place, k.1)) o ≡ Some (p, l) → p ≡ place
    go None f = absurd (none-some (p, l) f)
    go (Some k) f = sym ((some_pair_parts place p k.1 l f).0)
entry_place t n place p l (Some run) e = go (get t.loose run.0) e
  where
    go : (o : Option (List (ℕ × ℕ))) →
        option_map {U = ℕ × List (ℕ × ℕ)} (λ (list : List (ℕ × ℕ)). (place, list)) o ≡ Some (p, l) → p ≡ place
    go None f = absurd (none-some (p, l) f)
    go (Some k) f = sym ((some_pair_parts place p k l f).0)

-- and where it has no run the list that the node has
pub entry_list : (t : Table) (n place p q : ℕ) (l k : List (ℕ × ℕ)) (run : Option (ℕ × ℕ)) → run ≡ None →
    key_before t n place run ≡ Some (p, l) → get t.linked n ≡ Some (q, k) → l ≡ k
entry_list t n place p q l k run none e f =
    sym ((some_pair_parts place p k l
    (sym (ap (option_map {U = ℕ × List (ℕ × ℕ)} (λ (j : ℕ × List (ℕ × ℕ)). (place, j.1))) f)
    ∙ sym (ap (key_before t n place) none) ∙ e)).1)

-- places

-- Of two places that are turned, one strictly below the other, the upper one is x and the lower one the lower node.
pub turned_order : (t : Numbered) → AtMostOnce t → (x p q : ℕ) (lower : Option ℕ) →
    ((w : ℕ) → Some w ≡ lower → IsUnder t w x × (x ≢ w)) → IsTurnedPlace x lower p → IsTurnedPlace x lower q →
    IsUnder t q p → p ≢ q → (p ≡ x) × (Some q ≡ lower)
turned_order t once x p q lower below (inl a) (inl b) u d = absurd (d (a ∙ sym b))
turned_order t once x p q lower below (inl a) (inr b) u d = (a, b)
turned_order t once x p q lower below (inr a) (inl b) u d =
    absurd (under_apart t once p x (below p a).0 (subst (λ y. IsUnder t y p) b u) (λ z. (below p a).1 (sym z)))
turned_order t once x p q lower below (inr a) (inr b) u d = absurd (d (same_Some p q (a ∙ sym b)))

module _ (r : Return) (now : Table) (first second : List Named) (s : IsReturning r now first second)
    (t : IsTable now) where
  -- the places that are turned
  pub places : AreTurnedPlaces r.before.vtree s.can.tree r.upper r.lower
  places =
      turned_places r.before.vtree s.can.tree r.kind r.upper r.lower s.table.numbered s.can.turned s.can.lower_is

  pub tree_now : now.vtree ≡ s.can.tree
  tree_now = ap (λ (u : Table). u.vtree) s.same

  -- the lower one is strictly below the upper one before
  pub below_before : (w : ℕ) → Some w ≡ r.lower → IsUnder r.before.vtree w r.upper × (r.upper ≢ w)
  below_before w e = let c = places.child w e in (c.under, c.apart)

  -- and afterwards
  pub below_now : (w : ℕ) → Some w ≡ r.lower → IsUnder s.can.tree w r.upper × (r.upper ≢ w)
  below_now w e = let c = places.child w e in (places.under w c.under, c.apart)

  -- none of the two is above the moved node
  pub turned_settled : (p : ℕ) → IsTurnedPlace r.upper r.lower p → IsSettled now p
  turned_settled p (inl z) = subst (IsSettled now) (sym z) (settled_here now r.upper s.going.moving)
  turned_settled p (inr w) =
      settled_below now (once_numbered now.vtree t.numbered) r.upper p (settled_here now r.upper s.going.moving)
      (subst (λ z. IsUnder z p r.upper) (sym tree_now) (below_now p w).0) (below_now p w).1

  -- a wanted node has a key
  pub wanted_there : (n : ℕ) → IsWantedBy r n → (k : ℕ × List (ℕ × ℕ)) × (key_at now n ≡ Some k)
  wanted_there n w = some_value (key_at now n) (s.going.kept n (linked_then (get r.way.start.linked n) refl)
      (λ m. s.older n w (inr m)))
    where
      linked_then : (o : Option (ℕ × List (ℕ × ℕ))) → get r.way.start.linked n ≡ o → IsSome (get r.way.start.linked n)
      linked_then None e = absurd (s.older n w (inl e))
      linked_then (Some k) e = subst IsSome (sym e) refl

  -- one that is detached gets one of the two places
  pub detached_turned : (n q p : ℕ) (k l : List (ℕ × ℕ)) → IsWantedBy r n → get now.detached n ≡ Some (q, k) →
      key_wanted r n ≡ Some (p, l) → IsTurnedPlace r.upper r.lower p
  detached_turned n q p k l w d e = go (journal_entry r.named n) refl
    where
      go : (o : Option Named) → journal_entry r.named n ≡ o → IsTurnedPlace r.upper r.lower p
      go None f =
          let same : p ≡ q =
          (some_pair_parts p q l k (sym e ∙ s.can.unnamed n w f ∙ (s.detached n (q, k) d).0)).0 in
          subst (IsTurnedPlace r.upper r.lower) (sym same) (s.detached n (q, k) d).1
      go (Some x) f =
          let y =
          entry_found r.named (IsRightEntry r.before r.upper r.lower (IsWantedBy r) (key_wanted r)) s.can.entries n x
          f in
          let own : key_before r.before x.number x.place x.run ≡ Some (p, l) =
          sym y.0.back ∙ ap (key_wanted r) y.1 ∙ e in
          subst (IsTurnedPlace r.upper r.lower) (sym (entry_place r.before x.number x.place p l x.run own)) y.0.before

  -- none stands at the lower node both before and afterwards
  pub not_twice : (n q p : ℕ) (k l : List (ℕ × ℕ)) → IsWantedBy r n → key_at r.before n ≡ Some (q, k) →
      Some q ≡ r.lower → key_wanted r n ≡ Some (p, l) → Some p ≡ r.lower → ⊥
  not_twice n q p k l w d lowq e lowp = go (linked_or_detached r.before n (q, k) d)
    where
      same : p ≡ q
      same = same_Some p q (lowp ∙ sym lowq)

      by_list : get r.before.linked n ≡ Some (q, k) → l ≡ k → ⊥
      by_list linked list =
          places.once q r.way.valuation k lowq
          (s.can.going.whole n q k d) (s.can.going.placed n q k linked)
          (subst (λ y. IsPlaced s.can.tree r.way.valuation y k) same
          (subst (IsPlaced s.can.tree r.way.valuation p) list (s.can.wanted.placed n p l w e)))

      by_entry : get r.before.linked n ≡ Some (q, k) → (o : Option Named) → journal_entry r.named n ≡ o → ⊥
      by_entry linked None f =
          by_list linked (some_pair_parts p q l k (sym e ∙ s.can.unnamed n w f ∙ d)).1
      by_entry linked (Some x) f =
          by_run (entry_found r.named (IsRightEntry r.before r.upper r.lower (IsWantedBy r) (key_wanted r))
          s.can.entries n x f).0
          (entry_found r.named (IsRightEntry r.before r.upper r.lower (IsWantedBy r) (key_wanted r))
          s.can.entries n x f).1 x.run refl
        where
          by_run : IsRightEntry r.before r.upper r.lower (IsWantedBy r) (key_wanted r) x → x.number ≡ n →
              (run : Option (ℕ × ℕ)) → x.run ≡ run → ⊥
          by_run y number None none =
              by_list linked (entry_list r.before x.number x.place p q l k x.run none
              (sym y.back ∙ ap (key_wanted r) number ∙ e) (ap (get r.before.linked) number ∙ linked))
          by_run y number (Some run) some =
              let at : y.place ≡ q =
              (some_pair_parts y.place q y.list k (sym y.linked ∙ ap (get r.before.linked) number ∙ linked)).0 in
              (below_before q lowq).1
              (sym (y.rewritten (subst IsSome (sym some) refl)).0 ∙ at)

      go : (get r.before.linked n ≡ Some (q, k)) ⊎ (get r.before.detached n ≡ Some (q, k)) → ⊥
      go (inl linked) = by_entry linked (journal_entry r.named n) refl
      go (inr waits) = (below_before q lowq).1 (sym (s.can.waiting n (q, k) waits))

  -- a linked node that is wanted has the key that it gets
  pub linked_wanted : (n : ℕ) (k : ℕ × List (ℕ × ℕ)) → IsWantedBy r n → get now.linked n ≡ Some k →
      key_wanted r n ≡ Some k
  linked_wanted n k w e = elim (s.linked n k e) [
    | inl h ↦ h.1
    | inr h ↦ other h.0 h.2 (journal_entry r.named n) refl
  ]
    where
      other : get r.before.linked n ≡ Some k → ¬ IsTurnedPlace r.upper r.lower k.0 → (o : Option Named) →
          journal_entry r.named n ≡ o → key_wanted r n ≡ Some k
      other linked out None f = s.can.unnamed n w f ∙ linked_key r.before n k linked
      other linked out (Some x) f =
          let y =
          entry_found r.named (IsRightEntry r.before r.upper r.lower (IsWantedBy r) (key_wanted r)) s.can.entries n x
          f in
          let at : y.0.place ≡ k.0 =
          (some_pair_parts y.0.place k.0 y.0.list k.1 (sym y.0.linked ∙ ap (get r.before.linked) y.1 ∙ linked)).0 in
          absurd (out (subst (IsTurnedPlace r.upper r.lower) at y.0.here))

  -- a wanted node that a wanted one names gets a place strictly below
  pub named_below : (n i p q : ℕ) (l k : List (ℕ × ℕ)) → IsWantedBy r n → key_wanted r n ≡ Some (p, l) →
      StandsIn (2050 + i) l → key_wanted r i ≡ Some (q, k) → IsUnder s.can.tree q p × (p ≢ q)
  named_below n i p q l k w e stands f =
      let j : IsWantedBy r i = s.can.wanted.closed n p i l w e stands in
      users_above s.can.tree places.numbered r.way.valuation i p q l k (s.can.wanted.placed n p l w e)
      (s.can.wanted.whole i q k j f) (s.can.wanted.placed i q k j f) (s.can.wanted.value i q k j f) stands

  -- the codes of the list that a wanted node gets at one of the two places show their values, where none of them is of
  -- a detached node
  module _ (n p : ℕ) (l : List (ℕ × ℕ)) (w : IsWantedBy r n) (e : key_wanted r n ≡ Some (p, l))
      (turned : IsTurnedPlace r.upper r.lower p)
      (free : (i : ℕ) (k : ℕ × List (ℕ × ℕ)) → IsWantedBy r i → StandsIn (2050 + i) l → get now.detached i ≡ Some k →
      ⊥) where
    node_shown : (i : ℕ) → StandsIn (2050 + i) l → ShowsValue now.vtree (get now.linked) r.way.valuation (2050 + i)
    node_shown i stands = go (linked_or_detached now i c.0 c.1)
      where
        j : IsWantedBy r i
        j = s.can.wanted.closed n p i l w e stands

        c : (k : ℕ × List (ℕ × ℕ)) × (key_at now i ≡ Some k)
        c = wanted_there i j

        go : (get now.linked i ≡ Some c.0) ⊎ (get now.detached i ≡ Some c.0) →
            ShowsValue now.vtree (get now.linked) r.way.valuation (2050 + i)
        go (inr d) = absurd (free i c.0 j stands d)
        go (inl linked) =
            let b = named_below n i p c.0.0 l c.0.1 w e stands (linked_wanted i c.0 j linked) in
            s.going.settled i c.0.0 c.0.1 linked
            (settled_below now (once_numbered now.vtree t.numbered) p c.0.0 (turned_settled p turned)
            (subst (λ z. IsUnder z c.0.0 p) (sym tree_now) b.0) b.1)

    code_shown : (d : ℕ) → IsBaseOrNode s.can.tree d → ((i : ℕ) → d ≡ 2050 + i → StandsIn (2050 + i) l) →
        ShowsValue now.vtree (get now.linked) r.way.valuation d
    code_shown d (inl low) f =
        base_shown now.vtree t.numbered (get now.linked) r.way.valuation s.going.literals d
        (subst (λ z. d < 2 * leaves (plain_tree z) + 2) (sym tree_now) low)
    code_shown d (inr h) f =
        subst (ShowsValue now.vtree (get now.linked) r.way.valuation) (sym h.1) (node_shown h.0 (f h.0 h.1))

    pub codes_shown : AllByRecursion (λ (d : ℕ × ℕ). ShowsValue now.vtree (get now.linked) r.way.valuation d.0
        × ShowsValue now.vtree (get now.linked) r.way.valuation d.1) l
    codes_shown =
        all_from (λ (d : ℕ × ℕ). ShowsValue now.vtree (get now.linked) r.way.valuation d.0
        × ShowsValue now.vtree (get now.linked) r.way.valuation d.1) l
        (λ d m.
        let b =
        all_at (λ (d : ℕ × ℕ). IsBaseOrNode s.can.tree d.0 × IsBaseOrNode s.can.tree d.1) l d
        (s.can.wanted.codes n p l w e) m in (
          code_shown d.0 b.0 (λ i z. prime_stands l d (2050 + i) m z),
          code_shown d.1 b.1 (λ i z. sub_stands l d (2050 + i) m z),
        ))

    -- so it may be linked there, where it has the list already
    pub may_link : (q : ℕ) → get now.detached n ≡ Some (q, l) →
        CanLinkAll r.way.start now r.upper s.progress r.way.valuation p (n ∷ [])
    may_link q d =
        record {
          going = s.going;
          settled = turned_settled p turned;
          early = λ a b. absurd (cc (sym s.goes_back ∙ b));
          once = (λ k. k, tt);
          each = (
            record {
              before = q;
              list = l;
              was = d;
              old = s.older n w;
              placed = subst (λ z. IsPlaced z r.way.valuation p l) (sym tree_now) (s.can.wanted.placed n p l w e);
              ascending = s.can.wanted.ascending n p l w e;
              codes = codes_shown;
            },
            tt,
          );
        }
