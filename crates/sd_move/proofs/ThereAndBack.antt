-- A move that was undone leaves what was reached before it as it was.
use Rattle.std.proofs.Common.{◌≡◌, inl, inr, ℕ, List, [], ◌∷◌, Option, Some, None, sym, ◌∙◌, ap}
use Rattle.std.specs.FinMap.{FinMap, get, remove}
use Rattle.std.specs.Ordering.{nat_cmp}
use Rattle.std.proofs.lemmas.Bool.{cases_eq}
use Rattle.std.proofs.lemmas.Option.{same_Some, none-some}
use Rattle.sd_model.specs.declared.trees.Move.{Move}
use Rattle.sd_model.specs.Moves.{inverse_move}
use Rattle.sd_vtree.specs.Numbered.{IsNumbered}
use Rattle.sd_vtree.specs.NumberedMoves.{moved_number}
use Rattle.sd_laws.proofs.Turning.{inverse_numbered}
use Rattle.sd_runs.specs.Arena.{IsMember}
use Rattle.sd_runs.proofs.Maps.{get_remove_same, get_remove_other}
use Rattle.sd_manager.specs.Table.{Table}
use Rattle.sd_sweep.specs.Reached.{reached_first, reached_below, IsReached, KeepsReached}
use Rattle.sd_move.specs.Journal.{Named, Journal, back, with_start, starts_of, without_runs, IsOwnRun}
use Rattle.sd_move.specs.Journal.{IsKeptBack, IsNeededBack, Rollback}
use Rattle.sd_move.specs.Moves.{IsMoved}
use Rattle.sd_move.proofs.UndoKept.{needed_kept, back_same}

-- runs that are taken away

-- a run that is there without these was there, and is none of these
pub without_kept : (loose : FinMap nat_cmp (List (ℕ × ℕ))) (starts : List ℕ) (s : ℕ) (l : List (ℕ × ℕ)) →
    get (without_runs loose starts) s ≡ Some l → (get loose s ≡ Some l) × (¬ IsMember s starts)
without_kept loose [] s l h = (h, λ k. k)
without_kept loose (m ∷ ms) s l h =
    let i = without_kept (remove loose m) ms s l h in elim (cases_eq s m) [
      | inl z ↦ absurd (none-some l
          (sym (get_remove_same loose m) ∙ ap (get (remove loose m)) (sym z) ∙ i.0))
      | inr z ↦ (sym (get_remove_other loose m s z) ∙ i.0, neither z i.1)
    ]
  where
    neither : (s ≡ m → ⊥) → ¬ IsMember s ms → ¬ IsMember s (m ∷ ms)
    neither z n (inl e) = z (sym e)
    neither z n (inr e) = n e

-- the start of an own run is one of the journal's
pub own_start : (es : List Named) (s : ℕ) → IsOwnRun es s → IsMember s (starts_of es)
own_start [] s h = absurd h
own_start (e ∷ es) s (inl h) = go e.run h.1
  where
    go : (o : Option (ℕ × ℕ)) → o ≡ Some (s, h.0) → IsMember s (with_start o (starts_of es))
    go None k = absurd (none-some (s, h.0) k)
    go (Some run) k = inl (ap (λ (x : ℕ × ℕ). x.0) (same_Some run (s, h.0) k))
own_start (e ∷ es) s (inr h) = go (own_start es s h) e.run
  where
    go : IsMember s (starts_of es) → (o : Option (ℕ × ℕ)) → IsMember s (with_start o (starts_of es))
    go k None = k
    go k (Some run) = inr k

-- what is kept is needed
pub kept_needed : (j : Journal) (t : Table) {n : ℕ} → IsKeptBack j t n → IsNeededBack j t n
kept_needed j t (reached_first {n = n} (inl h)) = reached_first (inl h)
kept_needed j t (reached_first {n = n} (inr h)) = reached_first (inr (inl h))
kept_needed j t (reached_below {m = m} {n = n} {place = p} {list = l} h e s) = reached_below (kept_needed j t h) e s

-- before, after and back

-- the key of a node before the move is the one to which the journal goes back
back_before : (a b c : Table) (kind : Move) (place : ℕ) (j : Journal) → IsNumbered b.vtree → IsMoved a b kind place j →
    KeepsReached b c → (n : ℕ) (key : ℕ × List (ℕ × ℕ)) → IsReached a n → get a.linked n ≡ Some key →
    IsKeptBack j c n → back j c n ≡ Some key
back_before a b c kind place j v m k n key r e h =
    back_same j b c v m.can_undo k n (needed_kept j b c v m.can_undo k (kept_needed j c h)) ∙ m.before n key e r

-- what was reached before the move is kept by the journal
pub kept_before : (a b c : Table) (kind : Move) (place : ℕ) (j : Journal) → IsNumbered b.vtree →
    IsMoved a b kind place j → KeepsReached b c → {n : ℕ} → IsReached a n → IsKeptBack j c n
kept_before a b c kind place j v m k (reached_first {n = n} (inl h)) =
    reached_first (inl (h.0, ap (λ r. get r h.0) (k.roots ∙ m.roots) ∙ h.1))
kept_before a b c kind place j v m k (reached_first {n = n} (inr h)) =
    let w = without_kept b.loose (starts_of j.named) h.0 h.1 (ap (λ r. get r h.0) m.loose ∙ h.2) in
    reached_first (inr (
      h.0,
      h.1,
      ap (λ r. get r h.0) k.loose ∙ w.0,
      (λ o. w.1 (own_start j.named h.0 o)),
      h.3,
    ))
kept_before a b c kind place j v m k (reached_below {m = i} {n = n} {place = p} {list = l} r e s) =
    let h : IsKeptBack j c i = kept_before a b c kind place j v m k r in
    reached_below h (back_before a b c kind place j v m k i (p, l) r e h) s

-- A move, then what keeps each reached node, then the undoing of the move: each node that was reached before the move
-- has its key of then, under the same vtree, roots and loose runs.
pub there_and_back : (a b c d : Table) (kind : Move) (place : ℕ) (j : Journal) → IsNumbered a.vtree →
    IsNumbered b.vtree → IsMoved a b kind place j → KeepsReached b c → Rollback j c d → KeepsReached a d
there_and_back a b c d kind place j va vb m k r =
    record {
      vtree = r.vtree ∙ vtree;
      nodes = λ n key h e.
          let i : IsKeptBack j c n = kept_before a b c kind place j vb m k h in
          r.nodes n i key (back_before a b c kind place j vb m k n key h e i);
      roots = r.roots ∙ k.roots ∙ m.roots;
      loose = r.loose ∙ ap (λ x. without_runs x (starts_of j.named)) k.loose ∙ m.loose;
    }
  where
    vtree : r.tree ≡ a.vtree
    vtree =
        same_Some r.tree a.vtree
        (sym r.turned
        ∙ ap (λ x. moved_number (inverse_move j.kind) x j.upper) k.vtree
        ∙ ap (λ x. moved_number (inverse_move x) b.vtree j.upper) m.made
        ∙ ap (λ x. moved_number (inverse_move kind) b.vtree x) m.upper
        ∙ inverse_numbered kind a.vtree b.vtree place va m.vtree)
