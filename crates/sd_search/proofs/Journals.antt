-- A step that was made and is kept or undone: what the journal leaves.
use Rattle.std.proofs.Common.{◌≡◌, ℕ, ◌+◌, ◌≤◌, List, None, refl, sym, ap, subst}
use Rattle.std.proofs.Common.{◌∙◌, ◌*◌, ◌/◌, ◌<◌}
use Rattle.std.specs.Ordering.{nat_cmp}
use Rattle.std.specs.FinMap.{FinMap, get}
use Rattle.sd_model.specs.Tree.{leaves}
use Rattle.sd_model.specs.declared.trees.Side.{Side}
use Rattle.sd_vtree.specs.Numbered.{Numbered, plain_tree}
use Rattle.sd_laws.proofs.Lists.{all_weaker}
use Rattle.sd_cache.specs.Entries.{Answers}
use Rattle.sd_manager.specs.Table.{Table}
use Rattle.sd_manager.specs.Valid.{IsTable}
use Rattle.sd_apply.specs.Serving.{Serves, last_epoch}
use Rattle.sd_apply.proofs.Served.{serves_beside}
use Rattle.sd_sweep.specs.Reached.{KeepsReached}
use Rattle.sd_move.specs.Journal.{Named, Journal, CanUndo, CanPutBack, HasLooseRun, CanSettle, IsSettledBy, Rollback}
use Rattle.sd_move.specs.Journal.{starts_of, without_runs}
use Rattle.sd_move.proofs.ServesLater.{serves_later}
use Rattle.sd_move.proofs.ThereAndBack.{there_and_back}
use Rattle.sd_move.proofs.UndoKept.{kept as can_undo_kept}
use Rattle.sd_search.specs.Kept.{KeepsRoots, IsSearchRefusal}
use Rattle.sd_search.specs.Walking.{HasStepped}
use Rattle.sd_search.specs.declared.error.SearchError.{SearchError}
use Rattle.sd_search.specs.declared.error.SearchError.TheVariants.{ArenaFull, OutOfMemory}
use Rattle.sd_search.specs.Search.{WalkMove}
use Rattle.sd_search.specs.Paths.{IsAtPath, KeepsAlong}
use Rattle.sd_search.proofs.AlongPaths.{along_same}
use Rattle.sd_search.proofs.KeptRoots.{ShowsOn, shows_kept, shows_both, shows_moved, shows_runs, kept_reached}

-- ---- a table with other runs

-- the cache serves, whatever runs are loose or free
pub serves_runs : (cache : Answers) (t new : Table) (loose : FinMap nat_cmp (List (ℕ × ℕ))) (free : FinMap nat_cmp ℕ)
    → new ≡ record t { loose = loose; free = free } → Serves cache t → Serves cache new
serves_runs cache t new loose free is serves =
    subst (Serves cache) (sym is)
    (serves_beside cache t (record t { loose = loose; free = free }) refl refl refl serves)

-- a journal can be settled where the loose runs are those of a table in which it can be undone
pub can_settle : (j : Journal) (t u : Table) → CanUndo j t → u.loose ≡ t.loose → CanSettle j u
can_settle j t u can same = record {
  runs = all_weaker (CanPutBack t j.upper j.lower) (HasLooseRun u) loose j.named can.entries;
  once = can.runs_once;
}
  where
    loose : (e : Named) → CanPutBack t j.upper j.lower e → HasLooseRun u e
    loose e h start count is =
        let r = h.run start count is in (r.0, ap (λ m. get m start) same ∙ r.1, r.2)

-- what is reached is kept under one vtree, so along each path
pub along_reached : (a b : Table) (path : List Side) (n : ℕ) → KeepsReached a b → IsAtPath a.vtree path n
    → KeepsAlong a.vtree b.vtree path
along_reached a b path n k at =
    subst (λ (u : Numbered). KeepsAlong a.vtree u path) (sym k.vtree) (along_same a.vtree path n at)

-- ---- a step from a to b, then what leads to c, and then the journal is settled

module _ (a b c d : Table) (m : WalkMove) (place : ℕ) (j : Journal) (t : IsTable a) (u : IsTable b)
    (still : a.moving ≡ None) (s : HasStepped a b m place j) where
  -- what the roots show after the step
  pub shows_step : ShowsOn a b
  shows_step = shows_moved a b m.kind s.at j t u still s.variables s.is

  pub settled_kept : KeepsRoots b c → IsSettledBy c d j → KeepsRoots a d
  settled_kept k settled =
      let shows = shows_runs a c d (without_runs c.loose (starts_of j.named)) d.free settled.same
      (shows_both a b c u shows_step (shows_kept b c k)) in
      record {
        variables = shows.variables;
        roots = shows.roots;
        functions = shows.functions;
        loose =
            ap (λ (x : Table). x.loose) settled.same
            ∙ ap (λ l. without_runs l (starts_of j.named)) k.loose
            ∙ s.is.loose;
        bound = ap (λ (x : Table). x.bound) settled.same ∙ k.bound ∙ s.is.bound;
        no_move = ap (λ (x : Table). x.moving) settled.same ∙ k.no_move;
      }

  -- ---- or it is undone, where all that b needs was kept

  pub undone_reached : KeepsReached b c → Rollback j c d → KeepsReached a d
  undone_reached k r = there_and_back a b c d m.kind s.at j t.numbered u.numbered s.is k r

  pub undone_kept : KeepsRoots b c → KeepsReached b c → Rollback j c d → KeepsRoots a d
  undone_kept h k r =
      kept_reached a d t still (undone_reached k r) (r.bound ∙ h.bound ∙ s.is.bound) r.moving

  pub undoable : KeepsRoots b c → KeepsReached b c → CanUndo j c
  undoable h k = can_undo_kept j b c u.numbered s.is.can_undo k h.no_move

-- the cache serves after a journal was undone
pub serves_undone : (cache : Answers) (j : Journal) (c d : Table) → c.epoch ≤ last_epoch → Rollback j c d
    → Serves cache c → Serves cache d
serves_undone cache j c d last r serves = serves_later cache c d last r.later serves

-- the arena's rule holds after a journal was undone
pub rule_undone : (j : Journal) (c d : Table) (e : SearchError) → leaves (plain_tree d.vtree) ≡ leaves
    (plain_tree c.vtree)
    → Rollback j c d → IsSearchRefusal c e → IsSearchRefusal d e
rule_undone j c d OutOfMemory count r h = tt
rule_undone j c d (ArenaFull elements) count r h = record {
  past = subst (λ b. b < elements) (sym r.bound) h.past;
  least = subst (λ x. x + 2 ≤ elements) (sym r.extent) h.least;
  most = subst (λ x. elements ≤ x + (x / 2 + 2 * leaves (plain_tree d.vtree) + 2)) (sym r.extent)
      (subst (λ n. elements ≤ c.extent + (c.extent / 2 + 2 * n + 2)) (sym count) h.most);
}
