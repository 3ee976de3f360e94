-- What settling a journal leaves of another one, and that one can be settled still.
use Rattle.std.proofs.Common.{◌≡◌, ◌⊎◌, inl, inr, ℕ, ◌+◌, List, [], ◌∷◌, Option, Some, None, refl, sym, ◌∙◌, ap, subst}
use Rattle.std.specs.List.{AllByRecursion}
use Rattle.std.specs.Option.{option_map}
use Rattle.std.specs.FinMap.{get}
use Rattle.sd_model.specs.declared.trees.Move.{Move}
use Rattle.sd_model.specs.Moves.{inverse_move}
use Rattle.sd_vtree.specs.NumberedMoves.{moved_number}
use Rattle.sd_laws.specs.Shown.{Shows}
use Rattle.sd_laws.specs.Turned.{lower_of}
use Rattle.sd_laws.proofs.Lists.{all_weaker}
use Rattle.sd_laws.proofs.Within.{shows_within}
use Rattle.sd_manager.specs.Table.{Table}
use Rattle.sd_manager.specs.Shown.{ShowsCanonical}
use Rattle.sd_sweep.specs.Reached.{reached_first, reached_below, IsHeldBy, IsReached, KeepsReached}
use Rattle.sd_move.specs.Journal.{Named, Journal, journal_entry, key_before, key_of_entry, back, starts_of, IsOwnRun}
use Rattle.sd_move.specs.Journal.{IsNamed, IsInOtherRun, IsInOwnRun}
use Rattle.sd_move.specs.Journal.{IsNeededBack, IsOneFunction, HasLooseRun, CanPutBack}
use Rattle.sd_move.specs.Journal.{CanUndo, CanSettle, IsSettledBy, HaveOtherRuns, AreNamedReached}
use Rattle.sd_move.specs.Moves.{IsMoved}
use Rattle.sd_move.proofs.Recorded.{without_other, member_own, own_entry}
use Rattle.sd_move.proofs.ThereAndBack.{without_kept, own_start}
use Rattle.sd_move.proofs.UndoKept.{entry_found, code_in}

-- entries

-- what holds of each own run holds of the run of each entry
own_each : (es : List Named) (Q : ℕ → Type 0) → ((s : ℕ) → IsOwnRun es s → Q s) →
    AllByRecursion (λ (e : Named). (s count : ℕ) → e.run ≡ Some (s, count) → Q s) es
own_each [] Q f = tt
own_each (e ∷ es) Q f = (λ s count run. f s (inl (count, run)), own_each es Q (λ s own. f s (inr own)))

-- two facts of each entry together
each_both : (P Q R : Named → Type 0) → ((e : Named) → P e → Q e → R e) → (es : List Named) → AllByRecursion P es →
    AllByRecursion Q es → AllByRecursion R es
each_both P Q R f [] p q = tt
each_both P Q R f (e ∷ es) p q = (f e p.0 q.0, each_both P Q R f es p.1 q.1)

-- what can be settled

-- what can be undone
pub can_settle : (j : Journal) (t : Table) → CanUndo j t → CanSettle j t
can_settle j t can =
    record {
      runs = all_weaker (CanPutBack t j.upper j.lower) (HasLooseRun t) (λ e h. h.run) j.named can.entries;
      once = can.runs_once;
    }

-- what could be settled, where its loose runs stay
module _ (j : Journal) (t u : Table) (can : CanSettle j t) where
  runs_stay : ((s : ℕ) → IsOwnRun j.named s → get u.loose s ≡ get t.loose s) → CanSettle j u
  runs_stay stay =
      record {
        runs = each_both (HasLooseRun t)
            (λ (e : Named). (s count : ℕ) → e.run ≡ Some (s, count) → get u.loose s ≡ get t.loose s) (HasLooseRun u)
            (λ e h same s count run. let k = h s count run in (k.0, same s count run ∙ k.1, k.2)) j.named can.runs
            (own_each j.named (λ s. get u.loose s ≡ get t.loose s) stay);
        once = can.once;
      }

  -- so after operations and sweeps
  pub settle_kept : KeepsReached t u → CanSettle j u
  settle_kept k = runs_stay (λ s own. ap (λ l. get l s) k.loose)

  -- and where the loose runs are the same
  pub settle_beside : u.loose ≡ t.loose → CanSettle j u
  settle_beside same = runs_stay (λ s own. ap (λ l. get l s) same)

  -- an own run of it is a loose one
  own_loose : (s : ℕ) → IsOwnRun j.named s → (former : List (ℕ × ℕ)) × (get t.loose s ≡ Some former)
  own_loose s own =
      let e = own_entry j.named (HasLooseRun t) can.runs s own in
      let k = e.1 s e.2.0 e.2.1 in (k.0, k.1)

  -- after a later move
  pub settle_moved : (kind : Move) (place : ℕ) (k : Journal) → IsMoved t u kind place k → CanSettle j u
  settle_moved kind place k m =
      runs_stay (λ s own.
      let l = own_loose s own in
      (without_kept u.loose (starts_of k.named) s l.0 (ap (λ r. get r s) m.loose ∙ l.1)).0 ∙ sym l.1)

  -- whose journal has other runs
  pub moved_others : (kind : Move) (place : ℕ) (k : Journal) → IsMoved t u kind place k → HaveOtherRuns k j
  moved_others kind place k m s other own =
      let l = own_loose s own in
      (without_kept u.loose (starts_of k.named) s l.0 (ap (λ r. get r s) m.loose ∙ l.1)).1 (own_start k.named s other)

-- where another journal is settled
module _ (k : Journal) (t u : Table) (settled : IsSettledBy t u k) where
  -- a run that is none of its own stays
  run_stays : (s : ℕ) → ¬ IsOwnRun k.named s → get u.loose s ≡ get t.loose s
  run_stays s other =
      ap (λ (x : Table). get x.loose s) settled.same
      ∙ without_other t.loose (starts_of k.named) s (λ m. other (member_own k.named s m))

  -- and one that is there was there
  run_was : (s : ℕ) (list : List (ℕ × ℕ)) → get u.loose s ≡ Some list → get t.loose s ≡ Some list
  run_was s list e =
      (without_kept t.loose (starts_of k.named) s list
      (sym (ap (λ (x : Table). get x.loose s) settled.same) ∙ e)).0

  module _ (j : Journal) (others : HaveOtherRuns j k) where
    pub settle_settled : CanSettle j t → CanSettle j u
    settle_settled can = runs_stay j t u can (λ s own. run_stays s (others s own))

    -- the journal leads to the same keys
    back_stays : (n : ℕ) → back j u n ≡ back j t n
    back_stays n = by_entry (journal_entry j.named n) refl
      where
        linked : get u.linked n ≡ get t.linked n
        linked = ap (λ (x : Table). get x.linked n) settled.same

        by_run : (p : ℕ) (o : Option (ℕ × ℕ)) → ((s count : ℕ) → o ≡ Some (s, count) → ¬ IsOwnRun k.named s) →
            key_before u n p o ≡ key_before t n p o
        by_run p None f = ap (option_map (λ (x : ℕ × List (ℕ × ℕ)). (p, x.1))) linked
        by_run p (Some run) f =
            ap (option_map (λ (l : List (ℕ × ℕ)). (p, l))) (run_stays run.0 (f run.0 run.1 refl))

        by_entry : (o : Option Named) → journal_entry j.named n ≡ o → key_of_entry u n o ≡ key_of_entry t n o
        by_entry None f = linked
        by_entry (Some e) f =
            by_run e.place e.run
            (entry_found j.named
            (λ (e : Named). (s count : ℕ) → e.run ≡ Some (s, count) → ¬ IsOwnRun k.named s)
            (own_each j.named (λ s. ¬ IsOwnRun k.named s) others) n e f).0

    -- and needs no more
    needed_was : {n : ℕ} → IsNeededBack j u n → IsNeededBack j t n
    needed_was (reached_first {n = n} h) = reached_first (first n h)
      where
        first : (n : ℕ) → IsHeldBy u n ⊎ (IsInOtherRun j u n ⊎ (IsInOwnRun j u n ⊎ IsNamed j.named n)) →
            IsHeldBy t n ⊎ (IsInOtherRun j t n ⊎ (IsInOwnRun j t n ⊎ IsNamed j.named n))
        first n (inl h) = inl (h.0, sym (ap (λ (x : Table). get x.roots h.0) settled.same) ∙ h.1)
        first n (inr (inl h)) = inr (inl (h.0, h.1, run_was h.0 h.1 h.2, h.3, h.4))
        first n (inr (inr (inl h))) = inr (inr (inl (h.0, h.1, run_was h.0 h.1 h.2, h.3, h.4)))
        first n (inr (inr (inr h))) = inr (inr (inr h))
    needed_was (reached_below {m = m} {n = n} {place = place} {list = list} h e s) =
        reached_below (needed_was h) (sym (back_stays m) ∙ e) s

    -- So it can be undone still, where the nodes that it names are reached.
    pub undo_settled : CanUndo j t → AreNamedReached j u → CanUndo j u
    undo_settled c reached =
        record {
          no_move = ap (λ (x : Table). x.moving) settled.same ∙ c.no_move;
          tree = c.tree;
          turned = ap (λ (x : Table). moved_number (inverse_move j.kind) x.vtree j.upper) settled.same ∙ c.turned;
          lower = ap (λ (x : Table). lower_of (inverse_move j.kind) x.vtree j.upper) settled.same ∙ c.lower;
          numbers_once = c.numbers_once;
          runs_once = c.runs_once;
          entries =
              each_both (λ (e : Named). CanPutBack t j.upper j.lower e × HasLooseRun u e)
              (λ (e : Named). IsReached u e.number) (CanPutBack u j.upper j.lower) entry j.named
              (each_both (CanPutBack t j.upper j.lower) (HasLooseRun u)
              (λ (e : Named). CanPutBack t j.upper j.lower e × HasLooseRun u e) (λ e x r. (x, r)) j.named c.entries
              (settle_settled (can_settle j t c)).runs) reached;
          ascending = λ n place list h e. c.ascending n place list (needed_was h) (sym (back_stays n) ∙ e);
          shown = λ n h. function n (needed_was h);
        }
      where
        entry : (e : Named) → CanPutBack t j.upper j.lower e × HasLooseRun u e → IsReached u e.number →
            CanPutBack u j.upper j.lower e
        entry e x r =
            record {
              place = x.0.place;
              list = x.0.list;
              linked = ap (λ (x : Table). get x.linked e.number) settled.same ∙ x.0.linked;
              here = x.0.here;
              before = x.0.before;
              reached = r;
              run = x.1;
              rewritten = x.0.rewritten;
            }

        function : (n : ℕ) → IsNeededBack j t n → IsOneFunction u c.tree (back j u) n
        function n h =
            let s = c.shown n h in
            let afterwards : Shows c.tree (back j u) (2050 + n) s.there =
            shows_within c.tree (back j t) (back j u) (IsNeededBack j t)
            (λ m i place list p e stands. reached_below p e stands) (λ i key p e. back_stays i ∙ e) s.there (2050 + n)
            (code_in (IsNeededBack j t) n h) s.shown_there.shows in
            record {
              now = s.now;
              there = s.there;
              shown_now =
                  subst (λ (x : Table). ShowsCanonical x (2050 + n) s.now) (sym settled.same)
                  (record { shows = s.shown_now.shows; canonical = s.shown_now.canonical });
              shown_there = record { shows = afterwards; canonical = s.shown_there.canonical };
              same = s.same;
            }
