-- A move begins to go back: the nodes at its two nodes are detached, and the vtree is turned.
use Rattle.std.proofs.Common.{◌≡◌, ◌≢◌, ◌⊎◌, inl, inr, ℕ, true, List, [], ◌∷◌, Option, Some, None}
use Rattle.std.proofs.Common.{refl, sym, ◌∙◌, ap, subst, eq-eqb, ne_eqb, if◌then◌else◌}
use Rattle.std.specs.List.{AllByRecursion}
use Rattle.std.specs.Option.{IsSome}
use Rattle.std.specs.FinMap.{get}
use Rattle.std.proofs.lemmas.Bool.{cases_eq}
use Rattle.std.proofs.lemmas.Option.{same_Some, none-some, some_pair_parts}
use Rattle.sd_model.specs.declared.trees.Move.{Move}
use Rattle.sd_model.specs.Tree.{AreDistinct}
use Rattle.sd_vtree.specs.Numbered.{Numbered}
use Rattle.sd_vtree.specs.NumberedMoves.{moved_number}
use Rattle.sd_runs.specs.Arena.{IsMember}
use Rattle.sd_laws.specs.Turned.{lower_of}
use Rattle.sd_manager.specs.Table.{Table, key_at}
use Rattle.sd_manager.specs.Valid.{IsTable}
use Rattle.sd_manager.specs.Moving.{with_vtree, IsCleared, next_epoch}
use Rattle.sd_manager.proofs.Reading.{linked_key, detached_key}
use Rattle.sd_move.specs.Moving.{IsBelowNode, MoveInProgress}
use Rattle.sd_move.specs.Steps.{CanDetachAt, MayDetachAt, IsChildNode}
use Rattle.sd_move.specs.Journal.{Named, journal_entry, starts_of, without_runs}
use Rattle.sd_move.specs.GoingBack.{IsTurnedPlace, IsRightEntry, WayBack, CanGoBack, Return, return_of, IsWanted}
use Rattle.sd_move.specs.GoingBack.{wanted_key, IsListed, KeptWait, RewrittenWait, KeepsRun, numbers_of}
use Rattle.sd_move.specs.GoingBack.{AreEntriesLeft, IsReturning, IsClearedAt, IsClearedBelow}
use Rattle.sd_move.proofs.UndoKept.{entry_found}
use Rattle.sd_move.proofs.LowerNode.{clear_above_child}
use Rattle.sd_move.proofs.TurnedPlaces.{AreTurnedPlaces, turned_places}
use Rattle.sd_move.proofs.Returning.{linked_or_detached}

-- entries

-- an entry of another number is found behind it
found_behind : (e : Named) (es fs : List Named) → AllByRecursion (λ y. e.number ≢ y) (numbers_of fs) →
    AllByRecursion (λ (f : Named). journal_entry es f.number ≡ Some f) fs →
    AllByRecursion (λ (f : Named). journal_entry (e ∷ es) f.number ≡ Some f) fs
found_behind e es [] apart h = tt
found_behind e es (f ∷ fs) apart h = (
  ap (λ b. if b then Some e else journal_entry es f.number) (ne_eqb e.number f.number apart.0) ∙ h.0,
  found_behind e es fs apart.1 h.1,
)

-- each entry is that of its number
own_entries : (es : List Named) → AreDistinct (numbers_of es) →
    AllByRecursion (λ (e : Named). journal_entry es e.number ≡ Some e) es
own_entries [] once = tt
own_entries (e ∷ es) once = (
  ap (λ b. if b then Some e else journal_entry es e.number) (eq-eqb e.number e.number refl),
  found_behind e es es once.0 (own_entries es once.1),
)

-- a number that is named is one of the entries'
entry_member : (es : List Named) (n : ℕ) (e : Named) → journal_entry es n ≡ Some e → IsMember n (numbers_of es)
entry_member [] n e h = none-some e h
entry_member (x ∷ es) n e h = elim (cases_eq x.number n) [
  | inl k ↦ inl k
  | inr d ↦ inr (entry_member es n e
      (sym (ap (λ b. if b then Some x else journal_entry es n) (ne_eqb x.number n d)) ∙ h))
]

-- right entries that are found by their numbers are listed
listed : (r : Return) (es : List Named) →
    AllByRecursion (IsRightEntry r.before r.upper r.lower (IsWanted r.way.target) (wanted_key r.way.target)) es →
    AllByRecursion (λ (e : Named). journal_entry r.named e.number ≡ Some e) es → AllByRecursion (IsListed r) es
listed r [] right own = tt
listed r (e ∷ es) right own = (record { right = right.0; own = own.0 }, listed r es right.1 own.1)

-- the first steps

module _ (w : WayBack) (b : Table) (kind : Move) (x : ℕ) (lower : Option ℕ) (named : List Named)
    (can : CanGoBack w b kind x lower named) (t : IsTable b) where
  -- it has turned back
  going_back : MoveInProgress w.start b x (record w.progress { goes_back = true }) w.valuation
  going_back =
      let g = can.going in
      record {
        literals = g.literals;
        moving = g.moving;
        began = g.began;
        kept = g.kept;
        value = g.value;
        whole = g.whole;
        placed = g.placed;
        settled = g.settled;
        above = g.above;
        lists = g.lists;
        free = λ a c. absurd (cc (c));
        new_below = g.new_below;
        new_linked = λ c. absurd (cc (c));
        apart = g.apart;
        roots = g.roots;
      }

  places : AreTurnedPlaces b.vtree can.tree x lower
  places = turned_places b.vtree can.tree kind x lower t.numbered can.turned can.lower_is

  -- the nodes at the moved node may be detached
  upper_can : CanDetachAt w.start b x (record w.progress { goes_back = true }) w.valuation x
  upper_can =
      record {
        going = going_back;
        above = λ n k e under other settled. elim (settled x can.going.moving) [
          | inl z ↦ other (sym z)
          | inr apart ↦ apart under
        ];
        early = λ a c. absurd (cc (c));
        old = λ c. absurd (cc (c));
      }

  pub upper_may_detach : MayDetachAt b x
  upper_may_detach = (w.start, x, record w.progress { goes_back = true }, w.valuation, upper_can)

  module _ (m : Table) (c : IsClearedAt b m x) (tm : IsTable m) where
    going_first : MoveInProgress w.start m x (record w.progress { goes_back = true }) w.valuation
    going_first = c.going w.start x (record w.progress { goes_back = true }) w.valuation upper_can

    tree_first : m.vtree ≡ b.vtree
    tree_first = ap (λ (u : Table). u.vtree) c.detached.same

    -- and then those at the lower one
    lower_can : (y : ℕ) → Some y ≡ lower →
        CanDetachAt w.start m x (record w.progress { goes_back = true }) w.valuation y
    lower_can y e =
        record {
          going = going_first;
          above = clear_above_child m x y tm.numbered
              (subst (λ z. IsChildNode z x y) (sym tree_first) (places.child y e)) going_first.moving c.none_left;
          early = λ a c. absurd (cc (c));
          old = λ c. absurd (cc (c));
        }

    pub lower_may_detach : (y : ℕ) → lower ≡ Some y → MayDetachAt m y
    lower_may_detach y e =
        (w.start, x, record w.progress { goes_back = true }, w.valuation, lower_can y (sym e))

    -- what is so then, whether there is a lower node or not
    record AreBothCleared (old new : Table) : Type 0 where
      going : MoveInProgress w.start new x (record w.progress { goes_back = true }) w.valuation
      same : new ≡ record old { linked = new.linked; detached = new.detached }
      keys : (n : ℕ) → key_at new n ≡ key_at old n
      still : (n : ℕ) (k : ℕ × List (ℕ × ℕ)) → get new.linked n ≡ Some k → get old.linked n ≡ Some k
      stay : (n : ℕ) (k : ℕ × List (ℕ × ℕ)) → get old.linked n ≡ Some k → Some k.0 ≢ lower → get new.linked n ≡ Some k
      detached : (n : ℕ) (k : ℕ × List (ℕ × ℕ)) → get new.detached n ≡ Some k →
          (get old.detached n ≡ Some k) ⊎ (Some k.0 ≡ lower)
      none_lower : (n : ℕ) (k : ℕ × List (ℕ × ℕ)) → get new.linked n ≡ Some k → Some k.0 ≢ lower

    cleared_below : (o : Option ℕ) → lower ≡ o → (m2 : Table) → IsClearedBelow m m2 o → AreBothCleared m m2
    cleared_below None none m2 same =
        subst (AreBothCleared m) (sym same) (record {
          going = going_first;
          same = refl;
          keys = λ n. refl;
          still = λ n k e. e;
          stay = λ n k e d. e;
          detached = λ n k e. inl e;
          none_lower = λ n k e z. none-some k.0 (sym (z ∙ none));
        })
    cleared_below (Some y) some m2 d =
        record {
          going = d.going w.start x (record w.progress { goes_back = true }) w.valuation (lower_can y (sym some));
          same = d.detached.same;
          keys = d.detached.keys;
          still = d.detached.still;
          stay = λ n k e other. d.detached.others n k e (λ z. other (ap Some z ∙ sym some));
          detached = λ n k e. detached n k e (d.detached.only n k e);
          none_lower = λ n k e z.
              d.none_left n (record { list = k.1; is = e ∙ ap (λ p. Some (p, k.1)) (same_Some k.0 y (z ∙ some)) });
        }
      where
        detached : (n : ℕ) (k : ℕ × List (ℕ × ℕ)) → get m2.detached n ≡ Some k →
            (get m.detached n ≡ Some k) ⊎ IsMember n d.numbers →
            (get m.detached n ≡ Some k) ⊎ (Some k.0 ≡ lower)
        detached n k e (inl f) = inl f
        detached n k e (inr i) =
            let z = d.detached.each n i in
            inr (ap Some (some_pair_parts k.0 y k.1 z.list (sym e ∙ z.is)).0 ∙ sym some)

    module _ (m2 : Table) (below : IsClearedBelow m m2 lower) (tm2 : IsTable m2) where
      both : AreBothCleared m m2
      both = cleared_below lower refl m2 below

      tree_second : m2.vtree ≡ b.vtree
      tree_second = ap (λ (u : Table). u.vtree) both.same ∙ tree_first

      -- what turning asks
      pub back_moving : m2.moving ≡ Some x
      back_moving = both.going.moving

      pub back_going : MoveInProgress w.start m2 x (record w.progress { goes_back = true }) w.valuation
      back_going = both.going

      pub back_moved : moved_number kind m2.vtree x ≡ Some can.tree
      back_moved = ap (λ z. moved_number kind z x) tree_second ∙ can.turned

      pub back_movable : (u : Numbered) × (moved_number kind m2.vtree x ≡ Some u)
      back_movable = (can.tree, back_moved)

      lower_second : lower_of kind m2.vtree x ≡ lower
      lower_second = ap (λ z. lower_of kind z x) tree_second ∙ can.lower_is

      not_upper : (n : ℕ) (k : ℕ × List (ℕ × ℕ)) → get m2.linked n ≡ Some k → k.0 ≢ x
      not_upper n k e z =
          c.none_left n (record { list = k.1; is = both.still n k e ∙ ap (λ p. Some (p, k.1)) z })

      pub back_cleared : IsCleared m2 kind x
      back_cleared n k e = (not_upper n k e, λ z. both.none_lower n k e (z ∙ lower_second))

      -- what was linked at neither node is linked still, and nothing else is
      linked_out : (n : ℕ) (k : ℕ × List (ℕ × ℕ)) → get m2.linked n ≡ Some k → ¬ IsTurnedPlace x lower k.0
      linked_out n k e (inl z) = not_upper n k e z
      linked_out n k e (inr z) = both.none_lower n k e z

      linked_before : (n : ℕ) (k : ℕ × List (ℕ × ℕ)) → get m2.linked n ≡ Some k → get b.linked n ≡ Some k
      linked_before n k e = c.detached.still n k (both.still n k e)

      -- a node of an entry is not linked
      entry_waits : (e : Named) → IsRightEntry b x lower (IsWanted w.target) (wanted_key w.target) e →
          IsSome (get m2.detached e.number)
      entry_waits e right =
          go (linked_or_detached m2 e.number (right.place, right.list)
          (both.keys e.number ∙ c.detached.keys e.number
          ∙ linked_key b e.number (right.place, right.list) right.linked))
        where
          go : (get m2.linked e.number ≡ Some (right.place, right.list))
              ⊎ (get m2.detached e.number ≡ Some (right.place, right.list)) → IsSome (get m2.detached e.number)
          go (inl l) = absurd (linked_out e.number (right.place, right.list) l right.here)
          go (inr d) = subst IsSome (sym d) refl

      kept_wait : (es : List Named) →
          AllByRecursion (IsRightEntry b x lower (IsWanted w.target) (wanted_key w.target)) es → KeptWait m2 es
      kept_wait [] a = tt
      kept_wait (e ∷ es) a = (λ none. entry_waits e a.0, kept_wait es a.1)

      rewritten_wait : (es : List Named) →
          AllByRecursion (IsRightEntry b x lower (IsWanted w.target) (wanted_key w.target)) es → RewrittenWait m2 es
      rewritten_wait [] a = tt
      rewritten_wait (e ∷ es) a = (λ some. entry_waits e a.0, rewritten_wait es a.1)

      loose_same : m2.loose ≡ b.loose
      loose_same = ap (λ (u : Table). u.loose) both.same ∙ ap (λ (u : Table). u.loose) c.detached.same

      marks_same : m2.marks ≡ b.marks
      marks_same = ap (λ (u : Table). u.marks) both.same ∙ ap (λ (u : Table). u.marks) c.detached.same

      keep_runs : (es : List Named) → AllByRecursion (KeepsRun b m2) es
      keep_runs [] = tt
      keep_runs (e ∷ es) = (λ start count run. ap (λ l. get l start) loose_same, keep_runs es)

      entries : AreEntriesLeft (return_of w b kind x lower named) m2 named named
      entries =
          let all =
          listed (return_of w b kind x lower named) named can.entries (own_entries named can.numbers_once) in
          record {
            listed_first = all;
            listed_second = all;
            once_first = can.numbers_once;
            once_second = can.numbers_once;
            wait_first = kept_wait named can.entries;
            wait_second = rewritten_wait named can.entries;
            left = λ n e own d. left n e own e.run refl;
            runs_once = can.runs_once;
            runs = keep_runs named;
            loose = ap (λ l. without_runs l (starts_of named)) loose_same;
          }
        where
          left : (n : ℕ) (e : Named) → journal_entry named n ≡ Some e → (o : Option (ℕ × ℕ)) → e.run ≡ o →
              ((e.run ≡ None) × IsMember n (numbers_of named)) ⊎ (IsSome e.run × IsMember n (numbers_of named))
          left n e own None none = inl (none, entry_member named n e own)
          left n e own (Some run) some = inr (subst IsSome (sym some) refl, entry_member named n e own)

      -- The move is on its way back.
      pub is_returning : (new : Table) → new ≡ with_vtree m2 can.tree →
          MoveInProgress w.start new x (record w.progress { goes_back = true }) w.valuation →
          IsReturning (return_of w b kind x lower named) new named named
      is_returning new is going =
          subst (λ u. IsReturning (return_of w b kind x lower named) u named named) (sym is) (record {
            can = can;
            table = t;
            progress = record w.progress { goes_back = true };
            going = subst (λ u. MoveInProgress w.start u x (record w.progress { goes_back = true }) w.valuation) is
                going;
            goes_back = refl;
            older = λ n wanted. can.older n wanted;
            same = same;
            linked = λ n k e. linked n k e (can.others n k (linked_key b n k (linked_before n k e)));
            stay = λ n k e out. both.stay n k (c.detached.others n k e (λ z. out (inl z))) (λ z. out (inr z));
            detached = λ n k e. (key_before n k e, place n k e (both.detached n k e));
            marks = λ n k e. ap (λ z. get z n) (sym marks_same) ∙ e;
            entries = record {
              listed_first = entries.listed_first;
              listed_second = entries.listed_second;
              once_first = entries.once_first;
              once_second = entries.once_second;
              wait_first = entries.wait_first;
              wait_second = entries.wait_second;
              left = entries.left;
              runs_once = entries.runs_once;
              runs = entries.runs;
              loose = entries.loose;
            };
          })
        where
          same : with_vtree m2 can.tree ≡ record b {
            vtree = can.tree;
            epoch = next_epoch b.epoch;
            linked = m2.linked;
            detached = m2.detached;
            loose = m2.loose;
            free = m2.free;
            marks = m2.marks;
          }
          same =
              ap (λ (u : Table). record u {
                vtree = can.tree;
                epoch = next_epoch u.epoch;
                linked = m2.linked;
                detached = m2.detached;
                loose = m2.loose;
                free = m2.free;
                marks = m2.marks;
              })
              (both.same
              ∙ ap (λ (u : Table). record u { linked = m2.linked; detached = m2.detached }) c.detached.same)

          linked : (n : ℕ) (k : ℕ × List (ℕ × ℕ)) → get m2.linked n ≡ Some k →
              IsWanted w.target n ⊎ IsBelowNode b x k.0 →
              (IsWanted w.target n × (wanted_key w.target n ≡ Some k))
              ⊎ ((get b.linked n ≡ Some k) × IsBelowNode b x k.0 × (¬ IsTurnedPlace x lower k.0))
          linked n k e (inr below) = inr (linked_before n k e, below, linked_out n k e)
          linked n k e (inl wanted) = by_entry (journal_entry named n) refl
            where
              by_entry : (o : Option Named) → journal_entry named n ≡ o →
                  (IsWanted w.target n × (wanted_key w.target n ≡ Some k))
                  ⊎ ((get b.linked n ≡ Some k) × IsBelowNode b x k.0 × (¬ IsTurnedPlace x lower k.0))
              by_entry None none =
                  inl (wanted, can.unnamed n wanted none ∙ linked_key b n k (linked_before n k e))
              by_entry (Some f) own =
                  let y =
                  entry_found named (IsRightEntry b x lower (IsWanted w.target) (wanted_key w.target)) can.entries n f
                  own in
                  let at : y.0.place ≡ k.0 =
                  (some_pair_parts y.0.place k.0 y.0.list k.1
                  (sym y.0.linked ∙ ap (get b.linked) y.1 ∙ linked_before n k e)).0 in
                  absurd (linked_out n k e (subst (IsTurnedPlace x lower) at y.0.here))

          key_before : (n : ℕ) (k : ℕ × List (ℕ × ℕ)) → get m2.detached n ≡ Some k → key_at b n ≡ Some k
          key_before n k e = sym (both.keys n ∙ c.detached.keys n) ∙ detached_key m2 tm2 n k e

          place : (n : ℕ) (k : ℕ × List (ℕ × ℕ)) → get m2.detached n ≡ Some k →
              (get m.detached n ≡ Some k) ⊎ (Some k.0 ≡ lower) → IsTurnedPlace x lower k.0
          place n k e (inr low) = inr low
          place n k e (inl first) = upper (c.detached.only n k first)
            where
              upper : (get b.detached n ≡ Some k) ⊎ IsMember n c.numbers → IsTurnedPlace x lower k.0
              upper (inl waits) = inl (can.waiting n k waits)
              upper (inr i) =
                  let z = c.detached.each n i in
                  inl (some_pair_parts k.0 x k.1 z.list (sym first ∙ z.is)).0
