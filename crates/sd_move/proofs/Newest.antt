-- The journal of a move can be undone when the move is done.
use Rattle.std.proofs.Common.{◌≡◌, inl, inr, ℕ, ◌+◌, List, Some, sym, ◌∙◌}
use Rattle.std.proofs.Common.{ap}
use Rattle.std.specs.Option.{IsSome}
use Rattle.std.specs.FinMap.{get}
use Rattle.std.proofs.lemmas.Option.{same_Some}
use Rattle.sd_laws.specs.Shown.{Shows, AreKeys}
use Rattle.sd_laws.specs.Values.{StandsIn}
use Rattle.sd_laws.proofs.Within.{shows_within}
use Rattle.sd_manager.specs.Table.{Table}
use Rattle.sd_manager.specs.Moving.{IsAscending}
use Rattle.sd_manager.proofs.Holding.{some_value}
use Rattle.sd_sweep.specs.Reached.{reached_first, reached_below}
use Rattle.sd_move.specs.Journal.{Journal, back, IsOwnRun, IsNamed}
use Rattle.sd_move.specs.Journal.{IsNeededBack, IsOneFunction}
use Rattle.sd_move.specs.Moves.{StaysFunction}
use Rattle.sd_move.proofs.UndoKept.{code_in}

-- What a move from the table m0 to the table m has left: the journal leads each node of m0 back to its key, each one
-- keeps its function, the roots stay, the loose runs are those from before and old lists of nodes of m0, and a node of
-- m0 is meant by each code of a list, a run or a root of m0.
pub record LeadsBack (m0 m : Table) (j : Journal) : Type 0 where
  pub nodes : (n : ℕ) (key : ℕ × List (ℕ × ℕ)) → get m0.linked n ≡ Some key → back j m n ≡ Some key
  pub function : (n : ℕ) → IsSome (get m0.linked n) → StaysFunction m0 m n
  pub roots : m.roots ≡ m0.roots
  pub other_runs : (start : ℕ) (list : List (ℕ × ℕ)) → get m.loose start ≡ Some list → ¬ IsOwnRun j.named start →
      get m0.loose start ≡ Some list
  pub own_runs : (start : ℕ) (list : List (ℕ × ℕ)) → get m.loose start ≡ Some list → IsOwnRun j.named start →
      (n : ℕ) × (place : ℕ) × (get m0.linked n ≡ Some (place, list))
  pub named : (n : ℕ) → IsNamed j.named n → IsSome (get m0.linked n)
  pub lists_closed : (n i place : ℕ) (list : List (ℕ × ℕ)) → get m0.linked n ≡ Some (place, list) →
      StandsIn (2050 + i) list → IsSome (get m0.linked i)
  pub runs_closed : (start i : ℕ) (list : List (ℕ × ℕ)) → get m0.loose start ≡ Some list → StandsIn (2050 + i) list →
      IsSome (get m0.linked i)
  pub roots_closed : (root i : ℕ) → get m0.roots root ≡ Some (2050 + i) → IsSome (get m0.linked i)

-- each node that the journal needs is one of m0
pub needed_old : (m0 m : Table) (j : Journal) → LeadsBack m0 m j → {n : ℕ} → IsNeededBack j m n →
    IsSome (get m0.linked n)
needed_old m0 m j l (reached_first {n = n} (inl h)) =
    l.roots_closed h.0 n (ap (λ r. get r h.0) (sym l.roots) ∙ h.1)
needed_old m0 m j l (reached_first {n = n} (inr (inl h))) =
    l.runs_closed h.0 n h.1 (l.other_runs h.0 h.1 h.2 h.3) h.4
needed_old m0 m j l (reached_first {n = n} (inr (inr (inl h)))) =
    let o = l.own_runs h.0 h.1 h.2 h.3 in l.lists_closed o.0 n o.1 h.1 o.2 h.4
needed_old m0 m j l (reached_first {n = n} (inr (inr (inr h)))) = l.named n h
needed_old m0 m j l (reached_below {m = i} {n = n} {place = place} {list = list} h e s) =
    let k = some_value (get m0.linked i) (needed_old m0 m j l h) in
    let same : k.0 ≡ (place, list) = same_Some k.0 (place, list) (sym (l.nodes i k.0 k.1) ∙ e) in
    l.lists_closed i n place list (k.1 ∙ ap Some same) s

-- the key that it has in the state gone back to is its key of m0
back_old : (m0 m : Table) (j : Journal) → LeadsBack m0 m j → (n : ℕ) (key : ℕ × List (ℕ × ℕ)) → IsNeededBack j m n →
    back j m n ≡ Some key → get m0.linked n ≡ Some key
back_old m0 m j l n key h e =
    let k = some_value (get m0.linked n) (needed_old m0 m j l h) in
    k.1 ∙ sym (l.nodes n k.0 k.1) ∙ e

-- so its list ascends
pub back_ascends : (m0 m : Table) (j : Journal) → AreKeys (get m0.linked) → LeadsBack m0 m j → (n place : ℕ)
    (list : List (ℕ × ℕ)) → IsNeededBack j m n → back j m n ≡ Some (place, list) → IsAscending list
back_ascends m0 m j keys l n place list h e = keys.ascending n (place, list) (back_old m0 m j l n (place, list) h e)

-- and it shows its function in the vtree of m0
pub back_shown : (m0 m : Table) (j : Journal) → LeadsBack m0 m j → (n : ℕ) → IsNeededBack j m n →
    IsOneFunction m m0.vtree (back j m) n
back_shown m0 m j l n h =
    let f = l.function n (needed_old m0 m j l h) in
    let shows : Shows m0.vtree (back j m) (2050 + n) f.before =
    shows_within m0.vtree (get m0.linked) (back j m) (λ i. IsSome (get m0.linked i))
    (λ i k place list p e s. l.lists_closed i k place list e s) (λ i key p e. l.nodes i key e) f.before (2050 + n)
    (code_in (λ i. IsSome (get m0.linked i)) n (needed_old m0 m j l h)) f.shown.shows in
    record {
      now = f.after;
      there = f.before;
      shown_now = f.moved;
      shown_there = record { shows = shows; canonical = f.shown.canonical };
      same = f.same;
    }
