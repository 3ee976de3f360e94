-- The steps to what was made over the start that was chosen, or why there is none.
use Rattle.std.proofs.Common.{◌∙◌, ◌≤◌, None, sym, ap, subst}
use Rattle.sd_model.specs.Tree.{leaves}
use Rattle.sd_vtree.specs.Numbered.{plain_tree}
use Rattle.sd_commands.specs.Standing.{start}
use Rattle.sd_commands.specs.Opening.{IsOpeningStopped, IsOfFirstFull}
use Rattle.sd_commands.specs.declared.command.RunCommand.TheVariants.{Choose}
use Rattle.sd_commands.proofs.ByChoice.{opens_chosen, chosen_leaves, no_choice, first_full}
use Rattle.sd_commands.proofs.opening.open_chosen.Goals as goal

pub returns-in-Ok-opened_by-clause-opened : goal.returns-in-Ok-opened_by-clause-opened
returns-in-Ok-opened_by-clause-opened g c = λ tree same.
    opens_chosen c.args.input.now c.args.settings tree same c.in-Ok.chosen c.in-Ok-opened_by.opened
    c.in-Ok.ensures.chosen c.in-Ok-opened_by.ensures.told c.in-Ok-opened_by.ensures.searched
    (c.in-Ok-opened_by.ensures.represents c.args.input.now c.in-Ok.ensures.chosen)

pub returns-in-Ok-opened_by-clause-variables : goal.returns-in-Ok-opened_by-clause-variables
returns-in-Ok-opened_by-clause-variables g c =
    ap (λ t. leaves (plain_tree t)) c.in-Ok-opened_by.ensures.vtree
    ∙ chosen_leaves c.args.input.now c.args.settings c.in-Ok.chosen
    (subst (λ n. 1 ≤ n) c.variables.ensures.value c.variables.ensures.range.0) c.in-Ok.ensures.chosen

pub returns-in-Err-clause-stops : goal.returns-in-Err-clause-stops
returns-in-Err-clause-stops g c = λ tree same.
    subst (λ e. IsOpeningStopped c.args.input.now (start tree c.args.settings.limit c.args.settings.slack None)
    (Choose c.args.settings.rounds) e c.in-Err.refused.manager) (sym c.compiling_error.ensures)
    (no_choice c.args.input.now c.args.settings tree same c.in-Err.refused.error c.in-Err.refused.manager
    c.in-Err.ensures.refused)

pub returns-in-Err-clause-first : goal.returns-in-Err-clause-first
returns-in-Err-clause-first g c =
    subst (λ e. IsOfFirstFull c.args.input.now c.args.settings e c.in-Err.refused.manager)
    (sym c.compiling_error.ensures)
    (first_full c.args.input.now c.args.settings c.in-Err.refused.error c.in-Err.refused.manager
    c.in-Err.ensures.refused)
