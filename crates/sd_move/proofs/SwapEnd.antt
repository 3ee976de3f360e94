-- A swap whose waiting nodes were rewritten, all of them or the first ones, is on its way.
use Rattle.std.proofs.Common.{◌≡◌, ◌⊎◌, inl, inr, ℕ, ◌≤◌, ◌<◌, List, [], Some}
use Rattle.std.proofs.Common.{None, refl, sym, ◌∙◌, ap, subst}
use Rattle.std.specs.Option.{IsSome}
use Rattle.std.specs.FinMap.{get}
use Rattle.std.proofs.lemmas.Option.{same_Some}
use Rattle.sd_model.specs.declared.trees.Move.TheVariants.{Swap}
use Rattle.sd_runs.specs.Arena.{IsMember, HasNoCopies}
use Rattle.sd_laws.proofs.Evaluated.{value_of}
use Rattle.sd_manager.specs.Table.{Table, key_at}
use Rattle.sd_manager.specs.Valid.{IsTable}
use Rattle.sd_manager.specs.Moving.{moving_at, next_epoch, IsLater}
use Rattle.sd_manager.proofs.Reading.{linked_key}
use Rattle.sd_move.specs.Journal.{Named}
use Rattle.sd_move.specs.Moving.{no_progress}
use Rattle.sd_move.specs.Recorded.{AreRecorded}
use Rattle.sd_move.specs.GoingBack.{numbers_of}
use Rattle.sd_move.specs.Rewriting.{CanRewriteAll, HasRewritten, GoesOn}
use Rattle.sd_move.specs.Swapping.{HasSwapped}
use Rattle.sd_move.proofs.KnownAtEnd.{key_linked}
use Rattle.sd_move.proofs.SwapWaits.{was_linked, may_rewrite}
use Rattle.sd_move.specs.OnTheWay.{IsOnTheWay}
use Rattle.sd_move.proofs.MoveEnd.{next_later}
use Rattle.sd_move.proofs.RewrittenRecorded.{first_distinct, rewritten_recorded}
use Rattle.sd_move.proofs.GrownStrictly.{member_has}

module _ (m0 m1 : Table) (x : ℕ) (numbers : List ℕ) (t0 : IsTable m0) (still : m0.moving ≡ None)
    (s : HasSwapped m0 m1 x numbers) where
  -- the nodes that were detached may be rewritten
  pub swap_may : CanRewriteAll m0 m1 x no_progress (value_of (get m0.linked)) numbers
  swap_may =
      may_rewrite m0 s.between x s.tree numbers t0 still s.at_begin s.table s.begun s.detached s.none_left s.moved m1
      s.turned s.meanings

  -- the epoch is the next one
  epoch_turned : m1.epoch ≡ next_epoch m0.epoch
  epoch_turned =
      ap (λ (t : Table). t.epoch) s.turned ∙ ap (λ (t : Table). next_epoch t.epoch) s.detached.same

  pub later_turned : m0.epoch ≤ 18446744073709551615 → IsLater m0 m1
  later_turned last =
      subst (λ e. (m0.epoch < e) ⊎ (e ≡ 18446744073709551615)) (sym epoch_turned) (next_later m0.epoch last)

  -- a node of m0 has its key
  keys : (n : ℕ) (k : ℕ × List (ℕ × ℕ)) → get m0.linked n ≡ Some k → key_at m1 n ≡ Some k
  keys n k e =
      ap (λ (t : Table). key_at t n) s.turned ∙ s.detached.keys n ∙ linked_key (moving_at m0 x) n k e

  -- and a detached node had its key in m0
  was : (n : ℕ) (k : ℕ × List (ℕ × ℕ)) → get m1.detached n ≡ Some k → get m0.linked n ≡ Some k
  was n k e =
      was_linked m0 s.between x s.tree numbers t0 still s.at_begin s.table s.begun s.detached s.none_left s.moved n k
      (ap (λ (t : Table). get t.detached n) (sym s.turned) ∙ e)

-- a node of m1 was linked in m0
key_first : (m0 m1 : Table) (x : ℕ) (numbers : List ℕ) → IsTable m0 → m0.moving ≡ None → HasSwapped m0 m1 x numbers →
    (n : ℕ) → IsSome (key_at m1 n) → IsSome (get m0.linked n)
key_first m0 m1 x numbers t0 still s n some =
    let is : key_at m1 n ≡ key_at m0 n = ap (λ (t : Table). key_at t n) s.turned ∙ s.detached.keys n in
    key_linked m0 (t0.at_rest still) n (subst IsSome is some)

module _ (m0 m1 : Table) (x : ℕ) (numbers : List ℕ) (t0 : IsTable m0) (still : m0.moving ≡ None)
    (s : HasSwapped m0 m1 x numbers) (t1 : IsTable m1) (m2 : Table) (t2 : IsTable m2) (named : List Named)
    (rest : List ℕ) (r : HasRewritten m1 m2 x numbers [] named rest)
    (on : GoesOn m0 m1 m2 x no_progress (value_of (get m0.linked)) rest) where
  -- before the nodes were rewritten no entry was needed
  none_needed : AreRecorded m0 m1 x None []
  none_needed =
      record {
        entries = tt;
        numbers_once = tt;
        runs_once = tt;
        unnamed = λ n k none e. keys m0 m1 x numbers t0 still s n k e;
        loose = ap (λ (t : Table). t.loose) s.turned ∙ ap (λ (t : Table). t.loose) s.detached.same;
      }

  -- the entries tell what was changed
  recorded : AreRecorded m0 m2 x None named
  recorded =
      subst (λ es. AreRecorded m0 m2 x None es) (sym r.added)
      (rewritten_recorded m0 m1 m2 x None [] r.entries t1 t2 (was m0 m1 x numbers t0 still s) none_needed tt r.done
      (first_distinct (numbers_of r.entries) rest (subst HasNoCopies (sym r.first) s.detached.once)))

  -- a node has the mark that it had, and a new one the mark 0
  marks_now : (n q : ℕ) → IsSome (key_at m2 n) → get m2.marks n ≡ Some q →
      (IsSome (get m0.linked n) × (get m0.marks n ≡ Some q)) ⊎ (q ≡ 0)
  marks_now n q some e = go (r.done.marks n q some e)
    where
      go : (IsSome (key_at m1 n) × (get m1.marks n ≡ Some q)) ⊎ (q ≡ 0) →
          (IsSome (get m0.linked n) × (get m0.marks n ≡ Some q)) ⊎ (q ≡ 0)
      go (inr z) = inr z
      go (inl k) =
          let is : m1.marks ≡ m0.marks =
          ap (λ (t : Table). t.marks) s.turned ∙ ap (λ (t : Table). t.marks) s.detached.same in
          inl (key_first m0 m1 x numbers t0 still s n k.0, ap (λ z. get z n) (sym is) ∙ k.1)

  -- the nodes that are detached still wait at x
  waiting_there : (n : ℕ) (k : ℕ × List (ℕ × ℕ)) → get m2.detached n ≡ Some k → k.0 ≡ x
  waiting_there n k e =
      let w = member_has _ rest n on.can.each (on.can.only n (subst IsSome (sym e) refl)) in
      ap (λ (p : ℕ × List (ℕ × ℕ)). p.0) (same_Some k (x, w.list) (sym e ∙ w.was))

  -- So the swap is on its way.
  pub swap_on_way : IsOnTheWay m0 m2 Swap x None named
  swap_on_way =
      record {
        first = t0;
        no_move = still;
        progress = on.progress;
        values = on.values;
        going = on.can.going;
        kept_all = λ n z. subst (IsMember n) on.discarded z;
        moved = s.moved ∙ ap Some (sym (r.done.vtree ∙ ap (λ (t : Table). t.vtree) s.turned));
        lower_is = refl;
        recorded = recorded;
        waiting = waiting_there;
        epoch = r.done.epoch ∙ epoch_turned m0 m1 x numbers t0 still s;
        bound =
            r.done.bound ∙ ap (λ (t : Table). t.bound) s.turned ∙ ap (λ (t : Table). t.bound) s.detached.same;
        extent =
            subst (λ e. e ≤ m2.extent)
            (ap (λ (t : Table). t.extent) s.turned ∙ ap (λ (t : Table). t.extent) s.detached.same) r.done.extent;
        records =
            subst (λ e. e ≤ m2.records)
            (ap (λ (t : Table). t.records) s.turned ∙ ap (λ (t : Table). t.records) s.detached.same) r.done.records;
        marks = marks_now;
      }
