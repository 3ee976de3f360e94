use Rattle.std.proofs.Common.{◌≡◌, Some}
use Rattle.sd_tool.specs.Actions.{plain_of}
use Rattle.sd_tool.proofs.AskLemmas.{comes_same, asks_none, breaks_here}
use Rattle.sd_tool.proofs.ScriptLemmas.{plain_found}
use Rattle.sd_tool.proofs.scripts.command_of.Goals as goal

pub returns-in-Ok-Some-clause-leads : goal.returns-in-Ok-Some-clause-leads
returns-in-Ok-Some-clause-leads g c = λ next.
    let gave = c.in-Ok-Some.ensures in
    let field = c.in-Ok-Some.field-0-is in
    let is : plain_of c.args.action.now ≡ Some c.in-Ok-Some.command = cc in
    comes_same _ (g.F.Shelf.files c.args.shelf.now) _ _ (asks_none g.F.Shelf.asked c.args.shelf.now)
    (plain_found c.args.variables 0 c.args.script.now next c.args.action.now c.in-Ok-Some.command is).leads

pub returns-in-Err-clause-leads : goal.returns-in-Err-clause-leads
returns-in-Err-clause-leads g c = λ next.
    breaks_here _ (g.F.Shelf.files c.args.shelf.now) _ (asks_none g.F.Shelf.asked c.args.shelf.now)
