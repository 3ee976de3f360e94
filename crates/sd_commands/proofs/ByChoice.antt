-- A run that is opened by a choice: the steps to what was made over the start that was chosen, and why there is none.
use Rattle.std.proofs.Common.{◌≡◌, ℕ, zero, suc, ◌≤◌, [], ◌∷◌, length, Option, Some, None}
use Rattle.std.proofs.Common.{refl, sym, ap, subst, ◌∙◌, arith, inl}
use Rattle.sd_model.specs.Tree.{Tree, leaves}
use Rattle.sd_formula.specs.Dimacs.{Groups}
use Rattle.sd_formula.specs.Formulas.{expression_of}
use Rattle.sd_vtree.specs.Numbered.{plain_tree}
use Rattle.sd_manager.specs.Table.{Table}
use Rattle.sd_compile.specs.declared.error.CompileError.{CompileError}
use Rattle.sd_compile.specs.declared.error.CompileError.TheVariants as compiling
use Rattle.sd_parts.specs.Parts.{PartFits}
use Rattle.sd_search.specs.Search.{Found}
use Rattle.sd_search.specs.declared.searching.Outcome.{Outcome as SearchOutcome}
use Rattle.sd_starts.specs.Starts.{IsChosenStart, IsEndAt, IsSearchedTo, IsNoChoice, IsTreeLeft, tree_of_start}
use Rattle.sd_starts.specs.Starts.{Chosen, AllPassed, Ended}
use Rattle.sd_starts.specs.declared.choosing.Chosen.{Chosen as ChosenStart}
use Rattle.sd_starts.specs.declared.start.Settings.{Settings}
use Rattle.sd_starts.proofs.StartLeaves.{start_leaves}
use Rattle.sd_commands.specs.Commands.{State, Done, OverLimit, Grows, with_name, start_line}
use Rattle.sd_commands.specs.Standing.{Represents, start, effect_of, effects_of, error_of_compiling}
use Rattle.sd_commands.specs.Opening.{OpensChosen, FollowsInput, IsOpeningStopped, IsOfFirstFull, told_search}
use Rattle.sd_commands.specs.declared.command.Effect.{Effect as CodeEffect}
use Rattle.sd_commands.specs.declared.command.Effect.TheVariants.{PrintLine}
use Rattle.sd_commands.specs.declared.command.RunCommand.TheVariants as commands
use Rattle.sd_commands.specs.declared.error.CommandError.TheVariants as errors
use Rattle.sd_commands.specs.declared.opening.Opened.{Opened}
use Rattle.sd_commands.specs.declared.state.RunState.{RunState}
use Rattle.sd_commands.proofs.ByParts.{holds_no_names}
use Rattle.sd_commands.proofs.SearchedLeaves.{search_leaves}

-- the groups of the input lead to the tree itself, where each prefix is within the limit alone
grows_alone : (input : Groups) (t : Tree) (limit slack last : ℕ) → PartFits t limit input last → (n : ℕ) → n ≤ last
    → Grows input (start t limit slack None) n t
grows_alone input t limit slack last fits zero low = refl
grows_alone input t limit slack last fits (suc n) low =
    (t, grows_alone input t limit slack last fits n (omega (arith, low)), fits (suc n) (omega arith) low, refl)

-- behind the input a search follows, where one was asked for
follows : (input : Groups) (limit slack : ℕ) (rounds : Option ℕ) (t new : Tree) (search : Option SearchOutcome)
    (size : ℕ) (code : RunState) (effect : Option CodeEffect)
    → IsSearchedTo input (record { limit = limit; slack = slack; rounds = rounds }) t search size new
    → effect ≡ told_search search
    → Represents code (with_name (start new limit slack None) 0 (expression_of input))
    → FollowsInput input (with_name (start t limit slack None) 0 (expression_of input)) rounds code effect
follows input limit slack None t new search size code effect h told represents = (
  told ∙ ap told_search h.0,
  subst (λ u. Represents code (with_name (start u limit slack None) 0 (expression_of input))) h.1 represents,
)
follows input limit slack (Some rounds) t new search size code effect h told represents =
    let found : Found = record { tree = new; before = h.0.before; after = h.0.after; rounds = h.0.rounds } in
    let next : State = with_name (start new limit slack None) 0 (expression_of input) in
    record {
      next = next;
      step = (found, h.3, ap (λ e. Done next (effects_of e)) (told ∙ ap told_search h.1));
      represents = represents;
    }

-- the tree that a choice ends with has a leaf for each variable
searched_leaves : (input : Groups) (limit slack : ℕ) (rounds : Option ℕ) (t new : Tree)
    (search : Option SearchOutcome) (size : ℕ)
    → IsSearchedTo input (record { limit = limit; slack = slack; rounds = rounds }) t search size new
    → leaves new ≡ leaves t
searched_leaves input limit slack None t new search size h = ap leaves h.1
searched_leaves input limit slack (Some rounds) t new search size h = search_leaves h.3

pub chosen_leaves : (input : Groups) (settings : Settings) (chosen : ChosenStart) → 1 ≤ input.variables
    → IsChosenStart input settings chosen → leaves (plain_tree chosen.manager.vtree) ≡ input.variables
chosen_leaves input settings chosen some h =
    searched_leaves input settings.limit settings.slack settings.rounds (tree_of_start chosen.start input.variables)
    (plain_tree chosen.manager.vtree) chosen.search chosen.size h.searched
    ∙ start_leaves chosen.start input.variables some

module _ (input : Groups) (settings : Settings) (tree : Tree) (same : leaves tree ≡ input.variables) where
  -- the input is within the limit over the start that was chosen
  chosen_fits : (chosen : ChosenStart) → IsChosenStart input settings chosen
      → PartFits (tree_of_start chosen.start (leaves tree)) settings.limit input (length input.groups)
  chosen_fits chosen h =
      let end : IsEndAt input settings (tree_of_start chosen.start input.variables) (Ended chosen.size) =
      subst (IsEndAt input settings (tree_of_start chosen.start input.variables)) h.choice.choice_is.ended
      (h.choice.each chosen.start) in
      subst (λ v. PartFits (tree_of_start chosen.start v) settings.limit input (length input.groups)) (sym same) end.0

  -- the steps to what was made over it
  pub opens_chosen : (chosen : ChosenStart) (opened : Opened) → IsChosenStart input settings chosen
      → opened.told ≡ PrintLine (start_line chosen.start) → opened.searched ≡ told_search chosen.search
      → Represents opened.state (with_name
      (start (plain_tree chosen.manager.vtree) settings.limit settings.slack None) 0 (expression_of input))
      → OpensChosen input (start tree settings.limit settings.slack None) settings.rounds opened
  opens_chosen chosen opened h told searched represents =
      let t = tree_of_start chosen.start (leaves tree) in
      let over : State = start t settings.limit settings.slack None in
      record {
        chosen = over;
        bound = with_name over 0 (expression_of input);
        choose = (
          Chosen chosen.start chosen.size,
          h.choice,
          ap (λ e. Done over (effect_of e ∷ [])) told,
        );
        bind = inl (
          t,
          grows_alone input t settings.limit settings.slack (length input.groups) (chosen_fits chosen h)
              (length input.groups) (omega arith),
          refl,
        );
        search =
            follows input settings.limit settings.slack settings.rounds t (plain_tree chosen.manager.vtree)
            chosen.search chosen.size opened.state opened.searched
            (subst (λ v. IsSearchedTo input settings (tree_of_start chosen.start v) chosen.search chosen.size
            (plain_tree chosen.manager.vtree)) (sym same) h.searched)
            searched represents;
      }

  -- why no start was chosen
  pub no_choice : (error : CompileError) (manager : Option Table) → IsNoChoice input settings error manager
      → IsOpeningStopped input (start tree settings.limit settings.slack None) (commands.Choose settings.rounds)
      (error_of_compiling error) manager
  no_choice (compiling.OverLimit group size limit) manager h =
      subst (λ p. IsOpeningStopped input (start tree settings.limit settings.slack None)
      (commands.Choose settings.rounds) (error_of_compiling (compiling.OverLimit group size limit)) p) (sym h.2)
      (AllPassed group size, h.0, ap (λ l. OverLimit (Some group) size l) h.1)
  no_choice (compiling.ArenaFull elements) manager h =
      subst (λ p. IsOpeningStopped input (start tree settings.limit settings.slack None)
      (commands.Choose settings.rounds) (error_of_compiling (compiling.ArenaFull elements)) p) (sym h.1)
      (record {
        may_fill = tt;
        filled = record { whole = h.2.full.bound; rule = h.2.full.past };
        tree = (
          h.2.start,
          subst (λ v. IsTreeLeft input settings (tree_of_start h.2.start v) (plain_tree h.0.vtree)) (sym same)
              h.2.full.tree,
        );
        nothing = holds_no_names h.0 h.2.full.nothing;
      })
  no_choice compiling.OutOfMemory manager h =
      subst (λ p. IsOpeningStopped input (start tree settings.limit settings.slack None)
      (commands.Choose settings.rounds) (error_of_compiling compiling.OutOfMemory) p) (sym h) tt

-- a manager that is handed back is that of the first start at which room or memory lacked
pub first_full : (input : Groups) (settings : Settings) (error : CompileError) (manager : Option Table)
    → IsNoChoice input settings error manager → IsOfFirstFull input settings (error_of_compiling error) manager
first_full input settings (compiling.OverLimit group size limit) manager h = tt
first_full input settings (compiling.ArenaFull elements) manager h =
    subst (λ p. IsOfFirstFull input settings (errors.ArenaFull elements) p) (sym h.1) h.2
first_full input settings compiling.OutOfMemory manager h = tt
