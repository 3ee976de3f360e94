-- The lines behind the opening can be done.
use Rattle.std.proofs.Common.{rules, ◌≡◌, ◌++◌, List, drop, length, sym, ap, subst, ◌∙◌, arith}
use Rattle.std.proofs.lemmas.List.{length-drop}
use Rattle.sd_commands.specs.Fits.{AllFit}
use Rattle.sd_commands.specs.declared.command.NumberedCommand.{NumberedCommand}
use Rattle.sd_tool.specs.Orders.{opening_for, opened_lines}
use Rattle.sd_tool.specs.PlanViews.{opening_commands, opened_names}
use Rattle.sd_tool.specs.declared.plan.Opening.{Opening}
use Rattle.sd_tool.proofs.OrderLemmas.{opened, opened_within, stated_fits, stated_few}
use Rattle.sd_tool.proofs.plan.stated_orders.Goals as goal

pub split_off-requires : goal.split_off-requires
split_off-requires c =
    let job = c.args.job.now in
    let is : c.opening_of-opening.result ≡ opening_for job = search rules in
    let count : c.lines.result ≡ opened_lines c.opening_of-opening.result = search rules in
    let within = opened_within job c.args.outputs c.in_ok-lines.lines.items c.requires.job c.requires.formula
    c.in_ok-lines.ensures in
    omega (arith, c.in_ok-lines.lines.ok.0, count ∙ ap opened_lines is, within)

pub returns-clause-lines : goal.returns-clause-lines
returns-clause-lines c =
    let job = c.args.job.now in
    let lines = c.in_ok-lines.lines.items in
    let items = c.in_ok-commands.commands.items in
    let is : c.opening_of-opening.result ≡ opening_for job = search rules in
    let tail : items ≡ drop (opened_lines c.opening_of-opening.result) lines = search rules in
    ap (λ (o : Opening). opening_commands o ++ items) is
    ∙ ap (λ (l : List NumberedCommand). opening_commands (opening_for job) ++ l)
    (tail ∙ ap (λ (o : Opening). drop (opened_lines o) lines) is)
    ∙ opened job c.args.outputs lines c.requires.job c.requires.formula c.in_ok-lines.ensures

pub returns-clause-fit : goal.returns-clause-fit
returns-clause-fit c = λ v.
    let job = c.args.job.now in
    let lines = c.in_ok-lines.lines.items in
    let is : c.opening_of-opening.result ≡ opening_for job = search rules in
    let tail : c.in_ok-commands.commands.items ≡ drop (opened_lines c.opening_of-opening.result) lines = search rules in
    let all_few = stated_few job c.args.outputs lines c.requires.few c.in_ok-lines.ensures in
    record {
      fit = subst (λ (o : Opening). AllFit v c.args.outputs (opened_names o) c.in_ok-commands.commands.items) (sym is)
          (subst (λ (l : List NumberedCommand). AllFit v c.args.outputs (opened_names (opening_for job)) l)
          (sym (tail ∙ ap (λ (o : Opening). drop (opened_lines o) lines) is))
          (stated_fits v job c.args.outputs lines c.requires.job c.requires.formula c.in_ok-lines.ensures));
      within_limit = omega (
        arith,
        ap length tail,
        length-drop (opened_lines c.opening_of-opening.result) lines,
        all_few,
      );
    }
