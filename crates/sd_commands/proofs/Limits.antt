-- The total size of the formulas of bound names, from what the manager's roots hold.
use Rattle.std.proofs.Common.{◌≡◌, ℕ, zero, suc, ◌<◌, ◌≤◌, ◌∷◌, List, Some, None}
use Rattle.std.proofs.Common.{refl, sym, subst, ◌∙◌, arith, inr}
use Rattle.std.specs.Option.{IsSome}
use Rattle.std.specs.FinMap.{get}
use Rattle.std.proofs.lemmas.Option.{same_Some}
use Rattle.sd_model.specs.Diagram.{Diagram}
use Rattle.sd_model.specs.Expression.{Expression}
use Rattle.sd_model.specs.Size.{HasSize, IsDiagramOf}
use Rattle.sd_formula.specs.Dimacs.{Groups}
use Rattle.sd_vtree.specs.Numbered.{plain_tree, IsNumbered}
use Rattle.sd_laws.proofs.Codes.{one_diagram}
use Rattle.sd_manager.specs.Table.{Table}
use Rattle.sd_manager.specs.Shown.{Shows, ShowsCanonical}
use Rattle.sd_compile.specs.Compiling.{prefix_of, AreWithinLimit, IsFormulaRefused}
use Rattle.sd_compile.specs.Compiling.{IsHoldRefused}
use Rattle.sd_compile.specs.Total.{HasTotalWith, IsWithinLimit, IsHeldFormula, AreHeldFormulas}
use Rattle.sd_compile.specs.Total.{IsTotal, IsTotalWithin}
use Rattle.sd_compile.specs.declared.error.CompileError.{CompileError}
use Rattle.sd_compile.specs.declared.error.CompileError.TheVariants as compiling
use Rattle.sd_compile.specs.declared.error.HoldError.{HoldError}
use Rattle.sd_compile.specs.declared.error.HoldError.TheVariants as holding
use Rattle.sd_commands.specs.Commands.{State, formulas_of, with_name, AreWithin, PassLimit, Grows, Follows, is_due}
use Rattle.sd_commands.specs.Commands.{PassesAtGroup, OverLimit, with_groups}
use Rattle.sd_commands.specs.Commands.{Step}
use Rattle.sd_commands.specs.Standing.{Represents, HoldsValue, IsNotSettled, StopsAt, error_of_holding}
use Rattle.sd_commands.specs.Standing.{error_of_compiling}
use Rattle.sd_commands.specs.declared.command.RunCommand.TheVariants.{Input}
use Rattle.sd_commands.specs.declared.state.RunState.{RunState}
use Rattle.sd_commands.proofs.Names.{formula_named_by, named_formula}
use Rattle.sd_commands.proofs.Standing.{shown_canonical, bound_root, root_bound}

-- ---- the bound names' formulas are what roots hold

-- a root that holds a formula holds its diagram
held_formula : (t : Table) (root : ℕ) (f : Expression) → HoldsValue t root f → IsHeldFormula t f
held_formula t root f holds = record {
  diagram = holds.diagram;
  held = record { root = root; code = holds.code; held = holds.held; is = shown_canonical t root f holds };
  of_formula = holds.of_value;
}

-- and a diagram that it holds is that of the formula
held_diagram : (t : Table) (root code : ℕ) (f : Expression) (d : Diagram) → IsNumbered t.vtree → HoldsValue t root f
    → get t.roots root ≡ Some code → ShowsCanonical t code d → IsDiagramOf (plain_tree t.vtree) f d
held_diagram t root code f d numbered holds held is =
    let same : holds.code ≡ code = same_Some holds.code code (sym holds.held ∙ held) in
    let one : holds.diagram ≡ d =
    one_diagram t.vtree (get t.linked) numbered holds.diagram code d
    (subst (λ c. Shows t c holds.diagram) same holds.shows) is.shows in
    subst (IsDiagramOf (plain_tree t.vtree) f) one holds.of_value

pub held_formulas : (code : RunState) (seen : State) → IsNumbered code.manager.vtree → Represents code seen
    → AreHeldFormulas code.manager (formulas_of seen)
held_formulas code seen numbered was = record {
  each = λ f among.
      let by = formula_named_by seen.names f was.once among in
      let root = bound_root code.manager _ _ f (was.holds by.0) by.1 in
      held_formula code.manager root.0 f root.1;
  only = λ d held.
      let of_name = was.only held.root (subst (λ o. IsSome o) (sym held.held) refl) in
      let bound = root_bound code.manager _ _ held.root (was.holds of_name.name) of_name.is in
      record {
        formula = bound.0;
        among = named_formula seen.names of_name.name bound.0 bound.1;
        is = held_diagram code.manager held.root held.code bound.0 d numbered bound.2 held.held held.is;
      };
}

-- ---- one formula more

module _ (code : RunState) (seen : State) (numbered : IsNumbered code.manager.vtree) (was : Represents code seen)
    (law : (f : Expression) (n : ℕ) → AreHeldFormulas code.manager (formulas_of seen) → HasTotalWith code.manager f n
    → HasSize (f ∷ formulas_of seen) (plain_tree code.manager.vtree) n) where
  -- the total with it is the size of all formulas
  size_with : (f : Expression) (n : ℕ) → HasTotalWith code.manager f n → HasSize (f ∷ formulas_of seen) seen.tree n
  size_with f n total =
      subst (λ t. HasSize (f ∷ formulas_of seen) t n) (sym was.tree)
      (law f n (held_formulas code seen numbered was) total)

  -- which is within the limit
  pub within_with : (f : Expression) (limit : ℕ) → limit ≡ code.limit → IsWithinLimit code.manager f limit
      → AreWithin (f ∷ formulas_of seen) seen.tree seen.limit
  within_with f limit same h =
      (h.size, size_with f h.size h.total, subst (λ l. h.size ≤ l) (same ∙ sym was.limit) h.within)

  -- or passes it
  pub passes_with : (f : Expression) (limit n : ℕ) → limit ≡ code.limit → HasTotalWith code.manager f n → limit < n
      → PassLimit (f ∷ formulas_of seen) seen.tree seen.limit n
  passes_with f limit n same total passes =
      (size_with f n total, subst (λ l. l < n) (same ∙ sym was.limit) passes)

  -- a node that is not held leads to no state
  pub not_held : (name : ℕ) (f : Expression) (e : HoldError) → IsHoldRefused code.manager f code.limit e
      → IsNotSettled (with_name seen name f) (error_of_holding e code.limit)
  not_held name f (holding.OverLimit size) h =
      (refl, passes_with f code.limit size refl h.0 h.1, sym was.limit)
  not_held name f holding.OutOfMemory h = tt

  -- where no search follows a group, the groups of the input lead to the tree of the state
  pub groups_within : (input : Groups) (limit last : ℕ) → limit ≡ code.limit → seen.every ≡ None
      → AreWithinLimit code.manager input limit 0 last → (n : ℕ) → n ≤ last → Grows input seen n seen.tree
  groups_within input limit last same none h zero low = refl
  groups_within input limit last same none h (suc n) low = (
    seen.tree,
    groups_within input limit last same none h n (omega (arith, low)),
    within_with (prefix_of input (suc n)) limit same (h (suc n) (omega arith) low),
    subst (λ e. Follows (is_due e (suc n)) (with_groups input seen (suc n)) seen.slack seen.tree seen.tree) (sym none)
        refl,
  )

  -- or some group is the first with which the size passes the limit
  pub group_passes : (input : Groups) (new : Table) (limit group size most : ℕ) → limit ≡ code.limit
      → seen.every ≡ None → IsFormulaRefused code.manager new input limit 0 (compiling.OverLimit group size most)
      → PassesAtGroup input seen group size
  group_passes input new limit zero size most same none h = let low = h.0 in absurd (omega (arith, low))
  group_passes input new limit (suc done) size most same none h =
      let passes = passes_with (prefix_of input (suc done)) limit size same h.2.total h.2.passes in (
        done,
        seen.tree,
        refl,
        h.1,
        groups_within input limit done same none (λ n low high. h.3 n low (omega (arith, high))) done (omega arith),
        passes,
      )

  -- so the command stops
  pub input_stops : (input : Groups) (name : ℕ) (new : Table) (e : CompileError) → new.bound ≡ 2147483647
      → seen.every ≡ None → IsFormulaRefused code.manager new input code.limit 0 e
      → StopsAt input seen (Input name) new (error_of_compiling e)
  input_stops input name new (compiling.OverLimit group size most) bound none h =
      subst (λ l. Step input seen (Input name) (OverLimit (Some group) size l)) (was.limit ∙ sym h.2.most_is)
      (inr (group, size, group_passes input new code.limit group size most refl none h, refl))
  input_stops input name new (compiling.ArenaFull elements) bound none h = (tt, record { whole = bound; rule = h })
  input_stops input name new compiling.OutOfMemory bound none h = tt

-- ---- the formulas of all names

module _ (code : RunState) (seen : State) (numbered : IsNumbered code.manager.vtree) (was : Represents code seen) where
  -- a size within a limit
  pub total_within : (limit : ℕ)
      → ((fs : List Expression) (most : ℕ) → AreHeldFormulas code.manager fs → IsTotalWithin code.manager most
      → (n : ℕ) × HasSize fs (plain_tree code.manager.vtree) n × (n ≤ most))
      → IsTotalWithin code.manager limit → AreWithin (formulas_of seen) seen.tree limit
  total_within limit law within =
      let h = law (formulas_of seen) limit (held_formulas code seen numbered was) within in
      (h.0, subst (λ t. HasSize (formulas_of seen) t h.0) (sym was.tree) h.1, h.2)

  -- or one that passes it
  pub total_passes : (limit size : ℕ)
      → ((fs : List Expression) (n : ℕ) → AreHeldFormulas code.manager fs → IsTotal code.manager n
      → HasSize fs (plain_tree code.manager.vtree) n)
      → limit < size → IsTotal code.manager size → PassLimit (formulas_of seen) seen.tree limit size
  total_passes limit size law passes total = (
    subst (λ t. HasSize (formulas_of seen) t size) (sym was.tree)
        (law (formulas_of seen) size (held_formulas code seen numbered was) total),
    passes,
  )
