-- The state that the code represents after a move of the vtree, and why a move is refused.
use Rattle.std.proofs.Common.{◌≡◌, inl, ℕ, ◌≤◌, ◌<◌, []}
use Rattle.std.proofs.Common.{Option, Some, None, slice_get, refl, sym, ap, subst, ◌∙◌}
use Rattle.std.specs.Option.{IsSome, option_map}
use Rattle.std.specs.FinMap.{get}
use Rattle.sd_model.specs.declared.trees.Move.{Move}
use Rattle.sd_model.specs.Tree.{leaves}
use Rattle.sd_model.specs.Moves.{moved_at}
use Rattle.sd_model.specs.Expression.{Expression}
use Rattle.sd_model.specs.Size.{HasSize}
use Rattle.sd_vtree.specs.Numbered.{Numbered, plain_tree, numbers, IsNumbered}
use Rattle.sd_vtree.specs.NumberedMoves.{moved_number}
use Rattle.sd_laws.proofs.Evaluated.{value_of_shown}
use Rattle.sd_cache.specs.Entries.{Answers}
use Rattle.sd_manager.specs.Table.{Table}
use Rattle.sd_manager.specs.Valid.{IsTable}
use Rattle.sd_manager.specs.Marking.{AreUnmarked}
use Rattle.sd_apply.specs.Serving.{Serves}
use Rattle.sd_sweep.specs.Reached.{reached_first, KeepsReached}
use Rattle.sd_move.specs.Journal.{Journal, IsSettledBy}
use Rattle.sd_move.specs.Moves.{HasSizeAfter, IsMoved, IsMoveRefusal}
use Rattle.sd_move.specs.declared.error.MoveError.{MoveError}
use Rattle.sd_move.specs.declared.error.MoveError.TheVariants as refusals
use Rattle.sd_move.proofs.AfterSweep.{value_then}
use Rattle.sd_search.proofs.Journals.{serves_runs}
use Rattle.sd_search.proofs.KeptRoots.{size_moved as held_size_moved}
use Rattle.sd_compile.proofs.Kept.{kept_holds}
use Rattle.sd_formula.specs.Dimacs.{Groups}
use Rattle.sd_commands.specs.Commands.{State, Moves, Settles, Done, OverLimit, NotMovable, formulas_of, AreWithin}
use Rattle.sd_commands.proofs.Settling.{settles_within, settles_past}
use Rattle.sd_commands.specs.Standing.{Represents, HoldsName, HoldsValue, IsAsBefore, StepsTo, StopsAt}
use Rattle.sd_commands.specs.Standing.{AreForgotten, error_of_move}
use Rattle.sd_commands.specs.declared.command.RunCommand.TheVariants as commands
use Rattle.sd_commands.specs.declared.state.RunState.{RunState}
use Rattle.sd_commands.proofs.Limits.{held_formulas}
use Rattle.sd_commands.proofs.Moved.{IsReordered, vtree_reordered, move_reordered}
use Rattle.sd_commands.proofs.Standing.{as_before_kept, shown_canonical, inputs_still}

-- ---- the size after a move

-- the size of all held diagrams after a move is that of the formulas of the bound names
pub size_moved : (code : RunState) (seen : State) (kind : Move) (place n : ℕ) → IsNumbered code.manager.vtree
    → Represents code seen → (h : HasSizeAfter code.manager kind place n)
    → IsReordered (plain_tree code.manager.vtree) (plain_tree h.tree)
    → HasSize (formulas_of seen) (plain_tree h.tree) n
size_moved code seen kind place n numbered was h same =
    held_size_moved code.manager (formulas_of seen) kind place n numbered (held_formulas code seen numbered was) h
    (vtree_reordered _ _ same numbered.vtree) same.count

-- ---- a move that was made and settled

module _ (code : RunState) (mid new : Table) (kind : Move) (place : ℕ) (j : Journal) (t : IsTable code.manager)
    (u : IsTable mid) (m : IsMoved code.manager mid kind place j) (settled : IsSettledBy mid new j)
    (count : leaves (plain_tree mid.vtree) ≡ leaves (plain_tree code.manager.vtree))
    (forgotten : AreForgotten code.shared) where
  -- a root holds its formula still
  value_moved : (root : ℕ) (f : Expression) → HoldsValue code.manager root f → HoldsValue new root f
  value_moved root f h =
      let held : get mid.roots root ≡ Some h.code = ap (λ r. get r root) m.roots ∙ h.held in
      let shown = u.held m.no_move root h.code held in
      subst (λ s. HoldsValue s root f) (sym settled.same)
      (record {
        code = h.code;
        held = held;
        diagram = shown.diagram;
        shows = shown.is.shows;
        of_value = record {
          canonical = shown.is.canonical;
          same_value = λ a fits.
              value_of_shown mid.vtree (get mid.linked) u.numbered h.code shown.diagram shown.is a
              ∙ value_then code.manager mid kind place j t u m h.code
              (λ n is. reached_first (inl (root, h.held ∙ ap Some is))) h.diagram
              (shown_canonical code.manager root f h) a
              ∙ h.of_value.same_value a (fits ∙ count);
        };
      })

  -- and so does that of each name
  name_moved : (r : Option ℕ) (v : Option Expression) → HoldsName code.manager r v → HoldsName new r v
  name_moved None None holds = tt
  name_moved None (Some value) holds = absurd holds
  name_moved (Some r) None holds = absurd holds
  name_moved (Some r) (Some value) holds = value_moved r value holds

  -- the roots are those from before
  roots_moved : new.roots ≡ code.manager.roots
  roots_moved = ap (λ s. s.roots) settled.same ∙ m.roots

  -- the code represents the state with the moved tree
  pub stands_moved : (cache : Answers) (seen : State) → Serves cache mid → AreUnmarked mid → Represents code seen
      → Represents (record code { manager = new; cache = cache }) (record seen { tree = plain_tree mid.vtree })
  stands_moved cache seen serves unmarked was = record {
    tree = ap (λ s. plain_tree s.vtree) (sym settled.same);
    limit = was.limit;
    slack = was.slack;
    every = was.every;
    once = was.once;
    holds = λ name. name_moved _ _ (was.holds name);
    apart = was.apart;
    only = λ root held.
        let had = was.only root (subst (λ o. IsSome o) (ap (λ r. get r root) roots_moved) held) in
        record { name = had.name; is = had.is };
    serves = serves_runs cache mid new _ _ settled.same serves;
    bound = ap (λ s. s.bound) settled.same ∙ m.bound ∙ was.bound;
    no_move = ap (λ s. s.moving) settled.same ∙ m.no_move;
    unmarked = subst AreUnmarked (sym settled.same) unmarked;
    circuit = was.circuit;
    inputs = inputs_still seen.circuit seen.tree (plain_tree mid.vtree) (count ∙ ap leaves (sym was.tree)) was.inputs;
    shares = forgotten new;
  }

-- ---- the command

-- the moved tree, where a move of the numbered one is that of the plain one
abbrev pub IsPlainMove : Move → Numbered → ℕ → ℕ → Type 0
IsPlainMove kind tree p place = moved_at kind (plain_tree tree) p ≡ option_map plain_tree (moved_number kind tree place)

-- it is, where this holds of the vtree that is lent out
pub plain_law : (kind : Move) (tree lent : Numbered) (p place : ℕ) → lent ≡ tree
    → slice_get (numbers lent) p ≡ Some place
    → ((q : ℕ) → slice_get (numbers lent) q ≡ Some place → IsPlainMove kind lent q place)
    → IsPlainMove kind tree p place
plain_law kind tree lent p place same at law = subst (λ v. IsPlainMove kind v p place) same (law p at)

-- it has the same variables
pub plain_reordered : (kind : Move) (tree u : Numbered) (p place : ℕ) → IsPlainMove kind tree p place
    → moved_number kind tree place ≡ Some u → IsReordered (plain_tree tree) (plain_tree u)
plain_reordered kind tree u p place law is =
    move_reordered kind (plain_tree tree) (plain_tree u) p (law ∙ ap (option_map plain_tree) is)

module _ (input : Groups) (code : RunState) (seen : State) (kind : Move) (p place : ℕ) (was : Represents code seen)
    (law : IsPlainMove kind code.manager.vtree p place) where
  -- what the tree of the state becomes
  state_tree : (o : Option Numbered) → moved_number kind code.manager.vtree place ≡ o
      → moved_at kind seen.tree p ≡ option_map plain_tree o
  state_tree o is = ap (λ t. moved_at kind t p) was.tree ∙ law ∙ ap (option_map plain_tree) is

  -- the move is done
  pub turn_done : (mid : Table) (new : RunState) (size : ℕ) → IsNumbered code.manager.vtree
      → moved_number kind code.manager.vtree place ≡ Some mid.vtree → HasSizeAfter code.manager kind place size
      → size ≤ code.limit → Represents new (record seen { tree = plain_tree mid.vtree })
      → StepsTo input seen (commands.Turn kind p) new None
  turn_done mid new size numbered moved h within represents =
      let one : ◌≡◌ {A = Option Numbered} (Some h.tree) (Some mid.vtree) = sym h.turned ∙ moved in
      let same : h.tree ≡ mid.vtree = cc in
      let total = size_moved code seen kind place size numbered was h
      (plain_reordered kind code.manager.vtree h.tree p place law h.turned) in
      let in_ : AreWithin (formulas_of seen) (plain_tree mid.vtree) seen.limit = (
        size,
        subst (λ (v : Numbered). HasSize (formulas_of seen) (plain_tree v) size) same total,
        subst (λ l. size ≤ l) (sym was.limit) within,
      ) in
      record {
        next = record seen { tree = plain_tree mid.vtree };
        step = subst (λ o. Moves seen o (Done (record seen { tree = plain_tree mid.vtree }) []))
            (sym (state_tree (Some mid.vtree) moved))
            (settles_within (record seen { tree = plain_tree mid.vtree }) in_);
        represents = represents;
      }

  -- or it stops
  pub turn_stops : (new : Table) (e : MoveError) → IsNumbered code.manager.vtree → new.bound ≡ 2147483647
      → IsMoveRefusal code.manager new kind place code.limit e
      → StopsAt input seen (commands.Turn kind p) new (error_of_move e)
  turn_stops new refusals.NotMovable numbered bound h =
      subst (λ o. Moves seen o NotMovable) (sym (state_tree None h)) refl
  turn_stops new (refusals.OverMost size limit) numbered bound h =
      let next : State = record seen { tree = plain_tree h.2.tree } in
      subst (λ o. Moves seen o (OverLimit None size limit)) (sym (state_tree (Some h.2.tree) h.2.turned))
      (subst (λ l. Settles next (OverLimit None size l)) (sym (h.0 ∙ sym was.limit)) (settles_past next size (
        size_moved code seen kind place size numbered was h.2
            (plain_reordered kind code.manager.vtree h.2.tree p place law h.2.turned),
        subst (λ l. l < size) (sym was.limit) h.1,
      )))
  turn_stops new (refusals.ArenaFull elements) numbered bound h = (
    subst IsSome (sym (state_tree (Some h.0.0) h.0.1)) refl,
    record { whole = bound; rule = h.1 },
  )
  turn_stops new refusals.OutOfMemory numbered bound h = tt

-- all is as before a move that was refused
pub as_before_refused : (code : RunState) (t : Table) (cache : Answers) → KeepsReached code.manager t
    → t.bound ≡ code.manager.bound → t.moving ≡ None → code.manager.moving ≡ None → Serves cache t → AreUnmarked t
    → AreForgotten code.shared → IsAsBefore code (record code { manager = t; cache = cache })
as_before_refused code t cache kept bound still was serves unmarked forgotten =
    as_before_kept code t cache
    (record {
      reached = kept;
      holds = λ root d held. kept_holds code.manager t kept root d held;
      bound = bound;
      moving = still ∙ sym was;
    })
    serves unmarked (forgotten t)
