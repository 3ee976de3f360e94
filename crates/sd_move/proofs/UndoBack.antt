-- Undoing a journal as a move that goes back: after the sweep and the begin it can, and then it has done so.
use Rattle.std.proofs.Common.{◌≡◌, ◌≢◌, ◌⊎◌, inl, inr, ℕ, ◌≤◌, ◌<◌, List, [], ◌∷◌, Option, Some, None}
use Rattle.std.proofs.Common.{map, length, refl, sym, ◌∙◌, ap, subst, arith, eq-eqb, ne_eqb, if◌then◌else◌}
use Rattle.std.specs.List.{AllByRecursion}
use Rattle.std.specs.Option.{IsSome}
use Rattle.std.specs.FinMap.{get}
use Rattle.std.proofs.lemmas.Bool.{cases_lt}
use Rattle.sd_model.specs.declared.trees.Move.{Move}
use Rattle.sd_model.specs.declared.trees.Move.TheVariants.{RotateLeft, RotateRight, Swap}
use Rattle.sd_model.specs.Moves.{inverse_move}
use Rattle.sd_model.specs.Tree.{AreDistinct}
use Rattle.sd_vtree.specs.Numbered.{Numbered, NumberedNode, numbers, IsNumbered, IsUnder}
use Rattle.sd_vtree.specs.NumberedMoves.{moved_number}
use Rattle.sd_vtree.proofs.Subtrees.{number_of_in, subtree_in}
use Rattle.sd_laws.proofs.Evaluated.{value_of}
use Rattle.sd_laws.proofs.Lists.{all_weaker}
use Rattle.sd_laws.proofs.GoneBack.{GoesBack}
use Rattle.sd_laws.proofs.Turning.{turned_right, turned_left, turned_swap}
use Rattle.sd_manager.specs.Table.{Table, key_at}
use Rattle.sd_manager.specs.Valid.{IsTable}
use Rattle.sd_manager.specs.Marking.{AreUnmarked}
use Rattle.sd_manager.specs.Moving.{moving_at}
use Rattle.sd_manager.proofs.Valid.{nothing}
use Rattle.sd_manager.proofs.Reading.{linked_key}
use Rattle.sd_sweep.specs.Reached.{reached_first, reached_below, IsReached, IsSwept, KeepsReached}
use Rattle.sd_sweep.proofs.Keeping.{keeps_swept, unmarked_swept}
use Rattle.sd_move.specs.GoingBack.{ToJournal, WayBack, CanGoBack, HasGoneBack, IsRightEntry}
use Rattle.sd_move.specs.Journal.{Named, Journal, journal_entry, key_before, key_of_entry, back}
use Rattle.sd_move.specs.Journal.{IsNeededBack, CanPutBack, CanUndo, Rollback, starts_of, without_runs}
use Rattle.sd_move.specs.Moving.{no_progress, IsNew, IsBelowNode}
use Rattle.sd_move.proofs.AfterSweep.{later_swept}
use Rattle.sd_move.proofs.BeginAndEnd.{begun}
use Rattle.sd_move.proofs.LowerNode.{lower_node}
use Rattle.sd_move.proofs.Recorded.{linked_again}
use Rattle.sd_move.proofs.ThereAndBack.{kept_needed}
use Rattle.sd_move.proofs.TurnedMove.{Turns, turns}
use Rattle.sd_move.proofs.UndoKept.{kept, back_same, linked_shown}
use Rattle.sd_move.proofs.Undoing.{IsNeededOrBelow, needed_or_below, goes_back}

-- entries

-- where no number is twice, each entry is that of its number
pub own_entries : (es : List Named) → AreDistinct (map (λ (e : Named). e.number) es) →
    AllByRecursion (λ (e : Named). journal_entry es e.number ≡ Some e) es
own_entries [] once = tt
own_entries (e ∷ es) once = (
  ap (λ b. if b then Some e else journal_entry es e.number) (eq-eqb e.number e.number refl),
  later es once.0 (own_entries es once.1),
)
  where
    later : (rest : List Named) → AllByRecursion (λ y. e.number ≢ y) (map (λ (e : Named). e.number) rest) →
        AllByRecursion (λ (f : Named). journal_entry es f.number ≡ Some f) rest →
        AllByRecursion (λ (f : Named). journal_entry (e ∷ es) f.number ≡ Some f) rest
    later [] apart own = tt
    later (f ∷ rest) apart own = (
      ap (λ b. if b then Some e else journal_entry es f.number) (ne_eqb e.number f.number apart.0) ∙ own.0,
      later rest apart.1 own.1,
    )

-- two things that are so of each entry
both_of : (es : List Named) (P Q : Named → Type 0) → AllByRecursion P es → AllByRecursion Q es →
    AllByRecursion (λ (e : Named). P e × Q e) es
both_of [] P Q p q = tt
both_of (e ∷ es) P Q p q = ((p.0, q.0), both_of es P Q p.1 q.1)

-- an entry's key does not depend on whether a move goes on
key_moving : (t : Table) (x n place : ℕ) (run : Option (ℕ × ℕ)) →
    key_before t n place run ≡ key_before (moving_at t x) n place run
key_moving t x n place None = refl
key_moving t x n place (Some run) = refl

-- places

-- a vtree that is moved at a node has that node
pub moved_here : (kind : Move) (t u : Numbered) (x : ℕ) → IsNumbered t → moved_number kind t x ≡ Some u → IsUnder t x x
moved_here RotateRight t u x num is =
    let r = turned_right t u x num is in
    let has = number_of_in (NumberedNode x (NumberedNode r.0 r.1.a r.1.b) r.1.c) in
    record { part = NumberedNode x (NumberedNode r.0 r.1.a r.1.b) r.1.c; is = r.1.first_upper; has = has }
moved_here RotateLeft t u x num is =
    let r = turned_left t u x num is in
    let has = number_of_in (NumberedNode x r.1.a (NumberedNode r.0 r.1.b r.1.c)) in
    record { part = NumberedNode x r.1.a (NumberedNode r.0 r.1.b r.1.c); is = r.1.second_upper; has = has }
moved_here Swap t u x num is =
    let r = turned_swap t u x num is in
    let has = number_of_in (NumberedNode x r.a r.b) in
    record { part = NumberedNode x r.a r.b; is = r.first_upper; has = has }

-- what was needed is needed after the sweep
pub needed_forth : (j : Journal) (t u : Table) → IsNumbered t.vtree → CanUndo j t → KeepsReached t u → {n : ℕ} →
    IsNeededBack j t n → IsNeededBack j u n
needed_forth j t u v c k (reached_first {n = n} (inl h)) =
    reached_first (inl (h.0, ap (λ m. get m h.0) k.roots ∙ h.1))
needed_forth j t u v c k (reached_first {n = n} (inr (inl h))) =
    reached_first (inr (inl (h.0, h.1, ap (λ m. get m h.0) k.loose ∙ h.2, h.3, h.4)))
needed_forth j t u v c k (reached_first {n = n} (inr (inr (inl h)))) =
    reached_first (inr (inr (inl (h.0, h.1, ap (λ m. get m h.0) k.loose ∙ h.2, h.3, h.4))))
needed_forth j t u v c k (reached_first {n = n} (inr (inr (inr h)))) = reached_first (inr (inr (inr h)))
needed_forth j t u v c k (reached_below {m = m} {n = n} {place = place} {list = list} h e s) =
    reached_below (needed_forth j t u v c k h) (back_same j t u v c k m h ∙ e) s

-- how it goes back
abbrev pub way_of : Journal → Table → WayBack
way_of j s =
    record {
      start = s;
      progress = no_progress;
      valuation = value_of (get s.linked);
      target = ToJournal j s;
    }

-- a node at which a vtree is moved is one of it
pub upper_there : (j : Journal) (t : Table) → IsTable t → CanUndo j t → j.upper < length (numbers t.vtree)
upper_there j t i c =
    let u = moved_here (inverse_move j.kind) t.vtree c.tree j.upper i.numbered c.turned in
    let has = subtree_in t.vtree j.upper u.part u.is in
    elim (cases_lt j.upper (length (numbers t.vtree))) [
      | inl h ↦ h
      | inr h ↦ (let none = i.numbered.no_other j.upper h in absurd (omega (arith, has, none)))
    ]

-- after the sweep

module _ (j : Journal) (s : Table) (i : IsTable s) (c : CanUndo j s)
    (reached : (n : ℕ) → IsSome (get s.linked n) → IsReached s n) where
  -- the kind of the way back, its vtree, and where its nodes stand
  back_turns : Turns s.vtree c.tree (inverse_move j.kind) j.upper
  back_turns = turns s.vtree c.tree (inverse_move j.kind) j.upper i.numbered c.turned

  lower_under : (p : ℕ) → Some p ≡ j.lower → IsUnder s.vtree p j.upper
  lower_under p e =
      (lower_node s.vtree c.tree (inverse_move j.kind) j.upper p i.numbered c.turned (c.lower ∙ sym e)).child.under

  upper_under : IsUnder s.vtree j.upper j.upper
  upper_under = moved_here (inverse_move j.kind) s.vtree c.tree j.upper i.numbered c.turned

  known : GoesBack s.vtree c.tree j.upper back_turns.w (get s.linked) (back j s) (IsNeededBack j s)
      (value_of (get s.linked))
  known =
      goes_back j s i c.no_move c back_turns.numbered back_turns.leaves back_turns.w back_turns.there lower_under
      upper_under reached

  -- a node that is needed is linked
  needed_linked : (n : ℕ) → IsNeededBack j s n → IsSome (get s.linked n)
  needed_linked n h =
      let f = c.shown n h in linked_shown s i.numbered n f.now f.shown_now

  none_detached : (n : ℕ) (k : ℕ × List (ℕ × ℕ)) → get s.detached n ≡ Some k → ⊥
  none_detached n k e = nothing n k (ap (λ z. get z n) (sym (i.at_rest c.no_move)) ∙ e)

  entry : (e : Named) → CanPutBack s j.upper j.lower e × (journal_entry j.named e.number ≡ Some e) →
      IsRightEntry (moving_at s j.upper) j.upper j.lower (IsNeededBack j s) (back j s) e
  entry e k =
      record {
        wanted = reached_first (inr (inr (inr (subst IsSome (sym k.1) refl))));
        place = k.0.place;
        list = k.0.list;
        linked = k.0.linked;
        here = k.0.here;
        before = k.0.before;
        run = k.0.run;
        back = ap (key_of_entry s e.number) k.1 ∙ key_moving s j.upper e.number e.place e.run;
        rewritten = k.0.rewritten;
      }

  pub can_go_back : CanGoBack (way_of j s) (moving_at s j.upper) (inverse_move j.kind) j.upper j.lower j.named
  can_go_back =
      record {
        going = begun s j.upper i c.no_move;
        tree = c.tree;
        turned = c.turned;
        lower_is = c.lower;
        waiting = λ n k e. absurd (none_detached n k e);
        older = λ n h new. older n h new;
        others = λ n k e. other n k (linked_again s (i.at_rest c.no_move) n k e);
        roots = λ root n e. reached_first (inl (root, e));
        runs = λ start n list e own stands. reached_first (inr (inl (start, list, e, own, stands)));
        wanted = record {
          there = known.there;
          value = known.old_value;
          whole = known.old_whole;
          placed = known.old_placed;
          ascending = λ n p l h e. c.ascending n p l h e;
          closed = known.old_closed;
          codes = known.old_codes;
        };
        entries =
            all_weaker
            (λ (e : Named). CanPutBack s j.upper j.lower e × (journal_entry j.named e.number ≡ Some e))
            (IsRightEntry (moving_at s j.upper) j.upper j.lower (IsNeededBack j s) (back j s)) (λ e k. entry e k)
            j.named
            (both_of j.named (CanPutBack s j.upper j.lower) (λ (e : Named). journal_entry j.named e.number ≡ Some e)
            c.entries (own_entries j.named c.numbers_once));
        numbers_once = c.numbers_once;
        runs_once = c.runs_once;
        unnamed = λ n h none. unnamed n h none (get s.linked n) refl;
      }
    where
      older : (n : ℕ) → IsNeededBack j s n → IsNew s no_progress n → ⊥
      older n h (inl none) = absurd (cc (subst IsSome none (needed_linked n h)))
      older n h (inr member) = member

      other : (n : ℕ) (k : ℕ × List (ℕ × ℕ)) → get s.linked n ≡ Some k →
          IsNeededBack j s n ⊎ IsBelowNode (moving_at s j.upper) j.upper k.0
      other n k e =
          go
          (needed_or_below j s i c.no_move c lower_under upper_under (reached n (subst IsSome (sym e) refl)))
        where
          go : IsNeededOrBelow j s n → IsNeededBack j s n ⊎ IsBelowNode (moving_at s j.upper) j.upper k.0
          go (inl h) = inl h
          go (inr h) = let b = h k.0 k.1 e in inr (b.1, b.0)

      unnamed : (n : ℕ) → IsNeededBack j s n → journal_entry j.named n ≡ None → (o : Option (ℕ × List (ℕ × ℕ))) →
          get s.linked n ≡ o → back j s n ≡ key_at (moving_at s j.upper) n
      unnamed n h none None e = absurd (cc (subst IsSome e (needed_linked n h)))
      unnamed n h none (Some k) e =
          ap (key_of_entry s n) none ∙ e ∙ sym (linked_key s n k e)

-- A journal that can be undone can still be undone after the sweep.
pub undo_swept : (j : Journal) (t s : Table) → IsTable t → CanUndo j t → IsSwept t s → CanUndo j s
undo_swept j t s i c swept = kept j t s i.numbered c (keeps_swept t s swept) (swept.moving ∙ c.no_move)

-- Going back so is what undoing the journal promises.
pub rolled_back : (j : Journal) (t s new : Table) → IsTable t → t.epoch ≤ 18446744073709551615 → CanUndo j t →
    IsSwept t s →
    HasGoneBack (ToJournal j s) (moving_at s j.upper) new (inverse_move j.kind) j.upper j.lower j.named →
    Rollback j t new
rolled_back j t s new i most c swept g =
    record {
      tree = new.vtree;
      turned = ap (λ v. moved_number (inverse_move j.kind) v j.upper) (sym swept.vtree) ∙ g.vtree;
      vtree = refl;
      nodes = λ n h k e.
          let needed : IsNeededBack j t n = kept_needed j t h in
          g.wanted n (needed_forth j t s i.numbered c keeps needed)
          ∙ back_same j t s i.numbered c keeps n needed ∙ e;
      roots = g.roots ∙ swept.roots;
      loose = g.loose ∙ ap (λ l. without_runs l (starts_of j.named)) swept.loose;
      detached = g.detached;
      moving = g.moving;
      bound = g.bound ∙ swept.bound;
      extent = g.extent ∙ swept.extent;
      records = g.records ∙ swept.records;
      later = later_swept t s new most swept g.later;
    }
  where
    keeps : KeepsReached t s
    keeps = keeps_swept t s swept

-- Both for tables and values that are these.
module _ (j : Journal) (t s b : Table) (kind : Move) (named : List Named) (i : IsTable t) (is : IsTable s)
    (c : CanUndo j t) (swept : IsSwept t s) (reached : (n : ℕ) → IsSome (get s.linked n) → IsReached s n)
    (begun : b ≡ moving_at s j.upper) (inverse : kind ≡ inverse_move j.kind) (entries : named ≡ j.named) where
  pub may_go_back : CanGoBack (way_of j s) b kind j.upper j.lower named
  may_go_back =
      subst (λ es. CanGoBack (way_of j s) b kind j.upper j.lower es) (sym entries)
      (subst (λ k. CanGoBack (way_of j s) b k j.upper j.lower j.named) (sym inverse)
      (subst (λ m. CanGoBack (way_of j s) m (inverse_move j.kind) j.upper j.lower j.named) (sym begun)
      (can_go_back j s is (undo_swept j t s i c swept) reached)))

  pub undone_so : (new : Table) → t.epoch ≤ 18446744073709551615 →
      HasGoneBack (ToJournal j s) b new kind j.upper j.lower named → Rollback j t new
  undone_so new most g =
      rolled_back j t s new i most c swept
      (subst (λ m. HasGoneBack (ToJournal j s) m new (inverse_move j.kind) j.upper j.lower j.named) begun
      (subst (λ k. HasGoneBack (ToJournal j s) b new k j.upper j.lower j.named) inverse
      (subst (λ es. HasGoneBack (ToJournal j s) b new kind j.upper j.lower es) entries g)))

  -- no mark is on that was off
  pub undone_unmarked : (new : Table) → IsTable new → HasGoneBack (ToJournal j s) b new kind j.upper j.lower named →
      AreUnmarked t → AreUnmarked new
  undone_unmarked new valid g off n there = go (get new.linked n) refl there
    where
      can : CanUndo j s
      can = undo_swept j t s i c swept

      linked_then : (k : ℕ × List (ℕ × ℕ)) → get new.linked n ≡ Some k → IsSome (get s.linked n)
      linked_then k e = elim (g.only n k e) [
        | inl w ↦ needed_linked j s is can reached n w.0
        | inr w ↦ subst IsSome (sym (ap (λ (u : Table). get u.linked n) (sym begun) ∙ w.0)) refl
      ]

      same : (k : ℕ × List (ℕ × ℕ)) → get new.linked n ≡ Some k → (o : Option ℕ) → get new.marks n ≡ o → IsSome o →
          get new.marks n ≡ Some 0
      same k e None f some = absurd (cc (some))
      same k e (Some m) f some =
          let was : get s.marks n ≡ Some m = ap (λ (u : Table). get u.marks n) (sym begun) ∙ g.marks n m f in
          f ∙ sym was ∙ unmarked_swept t s swept off n (linked_then k e)

      go : (o : Option (ℕ × List (ℕ × ℕ))) → get new.linked n ≡ o → IsSome o → get new.marks n ≡ Some 0
      go None e some = absurd (cc (some))
      go (Some k) e some = same k e (get new.marks n) refl (valid.marked n k (linked_key new n k e))
