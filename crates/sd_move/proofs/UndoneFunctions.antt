-- What undoing a journal keeps.
use Rattle.std.proofs.Common.{◌≡◌, ℕ, ◌+◌, sym, ◌∙◌, subst}
use Rattle.std.specs.FinMap.{get}
use Rattle.std.proofs.lemmas.Option.{same_Some}
use Rattle.sd_model.specs.Canonical.{IsCanonical}
use Rattle.sd_vtree.specs.Numbered.{plain_tree}
use Rattle.sd_laws.specs.Shown.{Shows}
use Rattle.sd_laws.proofs.Within.{shows_within}
use Rattle.sd_manager.specs.Table.{Table}
use Rattle.sd_sweep.specs.Reached.{reached_below}
use Rattle.sd_move.specs.Journal.{Journal, back, IsKeptBack, CanUndo, Rollback}
use Rattle.sd_move.specs.Moves.{StaysFunction}
use Rattle.sd_move.proofs.UndoKept.{code_in}
use Rattle.sd_move.proofs.ThereAndBack.{kept_needed}

-- Each node that is kept has the function that it had.
pub undone_function : (j : Journal) (old new : Table) → CanUndo j old → Rollback j old new → (n : ℕ) →
    IsKeptBack j old n → StaysFunction old new n
undone_function j old new c r n h =
    let s = c.shown n (kept_needed j old h) in
    let tree : new.vtree ≡ c.tree = r.vtree ∙ same_Some r.tree c.tree (sym r.turned ∙ c.turned) in
    let shows : Shows c.tree (get new.linked) (2050 + n) s.there =
    shows_within c.tree (back j old) (get new.linked) (IsKeptBack j old)
    (λ m i place list p e stands. reached_below p e stands) (λ i key p e. r.nodes i p key e) s.there (2050 + n)
    (code_in (IsKeptBack j old) n h) s.shown_there.shows in
    record {
      before = s.now;
      after = s.there;
      shown = s.shown_now;
      moved = record {
        shows = subst (λ t. Shows t (get new.linked) (2050 + n) s.there) (sym tree) shows;
        canonical = subst (λ t. IsCanonical (plain_tree t) 0 s.there) (sym tree) s.shown_there.canonical;
      };
      same = λ a. sym (s.same a);
    }
