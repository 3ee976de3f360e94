-- The state that the code represents after a search, and why one stops.
use Rattle.std.proofs.Common.{◌≡◌, ℕ, List, [], ◌∷◌, Option, Some, None, refl, sym, ap, subst, ◌∙◌}
use Rattle.std.proofs.Common.{inr}
use Rattle.std.specs.Option.{IsSome}
use Rattle.std.specs.FinMap.{get}
use Rattle.sd_model.specs.Tree.{Tree, IsVtree, leaves}
use Rattle.sd_model.specs.Diagram.{meaning}
use Rattle.sd_model.specs.Expression.{Expression}
use Rattle.sd_vtree.specs.Numbered.{plain_tree, IsNumbered}
use Rattle.sd_laws.proofs.Codes.{one_diagram}
use Rattle.sd_cache.specs.Entries.{Answers}
use Rattle.sd_manager.specs.Table.{Table}
use Rattle.sd_manager.specs.Marking.{AreUnmarked}
use Rattle.sd_apply.specs.Serving.{Serves}
use Rattle.sd_compile.specs.Total.{AreHeldFormulas}
use Rattle.sd_search.specs.Search.{Found, IsSearch, no_round, last_round, further_round, IsSearchBegun}
use Rattle.sd_search.specs.Kept.{KeepsRoots, IsSearchRefusal}
use Rattle.sd_search.specs.declared.error.SearchError.{SearchError}
use Rattle.sd_search.specs.declared.error.SearchError.TheVariants as searching
use Rattle.sd_search.proofs.Determined.{round_valid}
use Rattle.sd_formula.specs.Dimacs.{Groups}
use Rattle.sd_commands.specs.Effects.{Print}
use Rattle.sd_commands.specs.Commands.{State, Done, formulas_of, search_line}
use Rattle.sd_commands.specs.Standing.{Represents, HoldsName, HoldsValue, IsLeftBySearch, IsSearchLeft}
use Rattle.sd_commands.specs.Standing.{StepsTo, StopsAt, AreForgotten, error_of_search}
use Rattle.sd_commands.specs.declared.command.RunCommand.TheVariants as commands
use Rattle.sd_commands.specs.declared.command.Effect.TheVariants.{PrintLine}
use Rattle.sd_commands.specs.declared.state.RunState.{RunState}
use Rattle.sd_commands.proofs.Begun.{search_begun}
use Rattle.sd_commands.proofs.Limits.{held_formulas}
use Rattle.sd_commands.proofs.Standing.{inputs_still}

-- a search ends in a vtree
pub search_valid : {fs : List Expression} {slack rounds : ℕ} {start : Tree} {found : Found} → IsVtree start
    → IsSearch fs slack rounds start found → IsVtree found.tree
search_valid valid (no_round size) = valid
search_valid valid (last_round size round after no_less) = round_valid valid round
search_valid valid (further_round size round less more) = search_valid (round_valid valid round) more

-- ---- what it leaves

module _ (code : RunState) (t : Table) (cache : Answers) (numbered : IsNumbered code.manager.vtree)
    (kept : KeepsRoots code.manager t) (serves : Serves cache t) (unmarked : AreUnmarked t)
    (forgotten : AreForgotten code.shared) where
  -- a root holds its formula still
  value_searched : (root : ℕ) (f : Expression) → HoldsValue code.manager root f → HoldsValue t root f
  value_searched root f h =
      let stays = kept.functions root h.code h.held in
      let one = one_diagram code.manager.vtree (get code.manager.linked) numbered stays.before h.code h.diagram
      stays.shown.shows h.shows in
      record {
        code = h.code;
        held = ap (λ r. get r root) kept.roots ∙ h.held;
        diagram = stays.after;
        shows = stays.shown_now.shows;
        of_value = record {
          canonical = stays.shown_now.canonical;
          same_value = λ a fits.
              stays.same a ∙ ap (λ d. meaning d a) one ∙ h.of_value.same_value a (fits ∙ kept.variables);
        };
      }

  -- and so does that of each name
  name_searched : (r : Option ℕ) (v : Option Expression) → HoldsName code.manager r v → HoldsName t r v
  name_searched None None holds = tt
  name_searched None (Some value) holds = absurd holds
  name_searched (Some r) None holds = absurd holds
  name_searched (Some r) (Some value) holds = value_searched r value holds

  -- the code represents the state over the tree that is there then
  pub stands_searched : (seen : State) → Represents code seen
      → Represents (record code { manager = t; cache = cache }) (record seen { tree = plain_tree t.vtree })
  stands_searched seen was = record {
    tree = refl;
    limit = was.limit;
    slack = was.slack;
    every = was.every;
    once = was.once;
    holds = λ name. name_searched _ _ (was.holds name);
    apart = was.apart;
    only = λ root held.
        let had = was.only root (subst (λ o. IsSome o) (ap (λ r. get r root) kept.roots) held) in
        record { name = had.name; is = had.is };
    serves = serves;
    bound = kept.bound ∙ was.bound;
    no_move = kept.no_move;
    unmarked = unmarked;
    circuit = was.circuit;
    inputs = inputs_still seen.circuit seen.tree (plain_tree t.vtree) (kept.variables ∙ ap leaves (sym was.tree))
        was.inputs;
    shares = forgotten t;
  }

  -- what it leaves where it stops
  pub left_by_search : (rounds : ℕ)
      → ((seen : State) → Represents code seen → IsSearchLeft seen rounds (plain_tree t.vtree))
      → IsLeftBySearch rounds code (record code { manager = t; cache = cache })
  left_by_search rounds searched =
      record { represents = λ seen was. stands_searched seen was; searched = searched; roots = kept.roots }

module _ (code : RunState) (seen : State) (rounds : ℕ) (numbered : IsNumbered code.manager.vtree)
    (was : Represents code seen) where
  -- a search over the held formulas is one over those of the names
  pub of_names : (found : Found)
      → ((fs : List Expression) → AreHeldFormulas code.manager fs
      → IsSearch fs code.slack rounds (plain_tree code.manager.vtree) found)
      → IsSearch (formulas_of seen) seen.slack rounds seen.tree found
  of_names found search =
      subst (λ s. IsSearch (formulas_of seen) s rounds seen.tree found) (sym was.slack)
      (subst (λ u. IsSearch (formulas_of seen) code.slack rounds u found) (sym was.tree)
      (search (formulas_of seen) (held_formulas code seen numbered was)))

  -- and so is one that was broken off
  pub begun_of_names : (tree : Tree)
      → ((fs : List Expression) → AreHeldFormulas code.manager fs
      → IsSearchBegun fs code.slack rounds (plain_tree code.manager.vtree) tree)
      → IsSearchLeft seen rounds tree
  begun_of_names tree begun =
      inr (subst (λ s. IsSearchBegun (formulas_of seen) s rounds seen.tree tree) (sym was.slack)
      (subst (λ u. IsSearchBegun (formulas_of seen) code.slack rounds u tree) (sym was.tree)
      (begun (formulas_of seen) (held_formulas code seen numbered was))))

  -- one that is done leaves its tree
  pub found_of_names : (found : Found)
      → ((fs : List Expression) → AreHeldFormulas code.manager fs
      → IsSearch fs code.slack rounds (plain_tree code.manager.vtree) found)
      → IsSearchLeft seen rounds found.tree
  found_of_names found search = search_begun (of_names found search)

  -- and the command is done
  pub search_done : (input : Groups) (new : RunState) (found : Found) (line : List ℕ)
      → ((fs : List Expression) → AreHeldFormulas code.manager fs
      → IsSearch fs code.slack rounds (plain_tree code.manager.vtree) found)
      → line ≡ search_line found.before found.after found.rounds → Represents new (record seen { tree = found.tree })
      → StepsTo input seen (commands.Minimise rounds) new (Some (PrintLine line))
  search_done input new found line search is represents = record {
    next = record seen { tree = found.tree };
    step = (found, of_names found search, ap (λ l. Done (record seen { tree = found.tree }) (Print l ∷ [])) is);
    represents = represents;
  }

-- why it stops
pub search_stops : (input : Groups) (seen : State) (rounds : ℕ) (t : Table) (e : SearchError) → t.bound ≡ 2147483647
    → IsSearchRefusal t e → StopsAt input seen (commands.Minimise rounds) t (error_of_search e)
search_stops input seen rounds t (searching.ArenaFull elements) bound h = (tt, record { whole = bound; rule = h })
search_stops input seen rounds t searching.OutOfMemory bound h = tt
