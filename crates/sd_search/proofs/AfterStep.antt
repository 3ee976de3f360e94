-- What stands after a step, what came behind it, and the end of its journal.
use Rattle.std.proofs.Common.{◌≡◌, ◌⊎◌, ℕ, ◌≤◌, List, ◌∷◌, Option, Some, None, sym, ap, subst, ◌∙◌}
use Rattle.std.proofs.Common.{arith}
use Rattle.sd_model.specs.declared.trees.Side.{Side}
use Rattle.sd_model.specs.Expression.{Expression}
use Rattle.sd_model.specs.Size.{HasSize}
use Rattle.sd_vtree.specs.Numbered.{plain_tree}
use Rattle.sd_manager.specs.Table.{Table}
use Rattle.sd_manager.specs.Valid.{IsTable}
use Rattle.sd_manager.specs.Marking.{AreUnmarked}
use Rattle.sd_sweep.specs.Reached.{KeepsReached}
use Rattle.sd_move.specs.Journal.{Journal, IsSettledBy, Rollback}
use Rattle.sd_compile.specs.Total.{AreHeldFormulas}
use Rattle.sd_search.specs.Search.{WalkMove}
use Rattle.sd_search.specs.Kept.{KeepsRoots, IsSearchRefusal}
use Rattle.sd_search.specs.Paths.{IsAtPath, KeepsAlong}
use Rattle.sd_search.specs.Walking.{move_of, best_of, HasStepped, IsAhead, IsCapped, GoesBackAtNone}
use Rattle.sd_search.specs.declared.steps.Step.{Step}
use Rattle.sd_search.specs.declared.error.SearchError.{SearchError}
use Rattle.sd_search.proofs.AlongPaths.{along_at, along_both}
use Rattle.sd_search.proofs.KeptRoots.{formulas_on}
use Rattle.sd_search.proofs.Journals.{shows_step, undone_kept, rule_undone}
use Rattle.sd_search.proofs.StepsAhead.{best_some, best_none, none_later}

-- a settled journal leaves the vtree and the marks
pub along_settled : (a b c d : Table) (path : List Side) (j : Journal) → IsSettledBy c d j
    → KeepsAlong a.vtree b.vtree path → KeepsAlong b.vtree c.vtree path → KeepsAlong a.vtree d.vtree path
along_settled a b c d path j settled h k =
    subst (λ (x : Table). KeepsAlong a.vtree x.vtree path) (sym settled.same)
    (along_both a.vtree b.vtree c.vtree path h k)

pub unmarked_settled : (c d : Table) (j : Journal) → IsSettledBy c d j → AreUnmarked c → AreUnmarked d
unmarked_settled c d j settled h = subst AreUnmarked (sym settled.same) h

-- the arena's rule after a step that was undone
pub rule_back : (a b c d : Table) (m : WalkMove) (place : ℕ) (j : Journal) (e : SearchError) → IsTable a → IsTable b
    → a.moving ≡ None → HasStepped a b m place j → KeepsRoots b c → KeepsReached b c → Rollback j c d
    → IsSearchRefusal c e → IsSearchRefusal d e
rule_back a b c d m place j e t u still s h k r refused =
    let back = undone_kept a b c d m place j t u still s h k r in
    rule_undone j c d e (back.variables ∙ sym (h.variables ∙ s.variables)) r refused

module _ (a b c d : Table) (step : Step) (place most least here less : ℕ) (j : Journal) (ms rest : List WalkMove)
    (later : Option ℕ) (t : IsTable a) (u : IsTable b) (still : a.moving ≡ None)
    (s : HasStepped a b (move_of step) place j) (is : ms ≡ move_of step ∷ rest)
    (sized : (fs : List Expression) → AreHeldFormulas a fs → HasSize fs (plain_tree b.vtree) here)
    (within : here ≤ most)
    (below_here : less ≤ here) (below_least : less ≤ least) (one : (here ≤ less) ⊎ (least ≤ less))
    (tells : (fs : List Expression) (path : List Side) (bound : ℕ) → AreHeldFormulas b fs
    → IsAtPath b.vtree path place → IsCapped most bound
    → IsAhead fs bound (plain_tree b.vtree) path rest less later (plain_tree c.vtree))
    (back : GoesBackAtNone later b c) where
  -- the formulas and the path after the step
  held_then : (fs : List Expression) → AreHeldFormulas a fs → AreHeldFormulas b fs
  held_then fs held = formulas_on a b fs t u (shows_step a b c d (move_of step) place j t u still s) held

  at_then : (path : List Side) → IsAtPath a.vtree path place → IsAtPath b.vtree path place
  at_then path at = along_at a.vtree b.vtree path place (s.along path at) at

  same_tree : later ≡ None → plain_tree b.vtree ≡ plain_tree c.vtree
  same_tree none =
      let k = subst (λ l. GoesBackAtNone l b c) none back in ap plain_tree (sym k.vtree)

  -- a state is kept
  pub found_some : (size : ℕ) → Some size ≡ best_of later here least → IsSettledBy c d j
      → (fs : List Expression) (path : List Side) (bound : ℕ) → AreHeldFormulas a fs → IsAtPath a.vtree path place
      → IsCapped most bound
      → IsAhead fs bound (plain_tree a.vtree) path ms least (Some size) (plain_tree d.vtree)
  found_some size e settled fs path bound held at capped =
      subst (λ (x : Table). IsAhead fs bound (plain_tree a.vtree) path ms least (Some size) (plain_tree x.vtree))
      (sym settled.same)
      (best_some fs bound (plain_tree a.vtree) (plain_tree b.vtree) (plain_tree c.vtree) path (move_of step) ms rest
      least here less is (s.led path at) (sized fs held) (let most_is = capped.0 in omega (arith, within, most_is))
      below_here below_least one later size (sym e) same_tree
      (tells fs path bound (held_then fs held) (at_then path at) capped))

  -- none is
  pub found_none : None ≡ best_of later here least
      → (fs : List Expression) (path : List Side) (bound : ℕ) → AreHeldFormulas a fs → IsAtPath a.vtree path place
      → IsCapped most bound → IsAhead fs bound (plain_tree a.vtree) path ms least None (plain_tree d.vtree)
  found_none e fs path bound held at capped =
      best_none fs bound (plain_tree a.vtree) (plain_tree b.vtree) (plain_tree c.vtree) path (move_of step) ms rest
      least here less is (s.led path at) (sized fs held) (let most_is = capped.0 in omega (arith, within, most_is))
      below_here below_least one later (plain_tree d.vtree) (sym e)
      (tells fs path bound (held_then fs held) (at_then path at) capped)

-- where none is kept, all behind the step was gone back
pub back_then : (b c : Table) (later : Option ℕ) (here least : ℕ) → None ≡ best_of later here least
    → GoesBackAtNone later b c → KeepsReached b c
back_then b c later here least e back = subst (λ l. GoesBackAtNone l b c) (none_later later here least (sym e)) back
