-- The stated commands, or those of a script.
use Rattle.std.proofs.Common.{ℕ, List, [], ◌++◌, length, Some, Ok, Err, refl, sym, ap, subst, ◌∙◌}
use Rattle.sd_base.specs.Asked.{Adds}
use Rattle.sd_commands.specs.Standing.{lines_of}
use Rattle.sd_commands.specs.declared.command.NumberedCommand.{NumberedCommand}
use Rattle.sd_script.specs.Scripts.{Script, script_of}
use Rattle.sd_tool.specs.Orders.{AreOrders, orders_lines}
use Rattle.sd_tool.specs.Readings.{Point, choice, reads, with_commands, with_lines}
use Rattle.sd_tool.specs.inside.Asks.{ComesTo}
use Rattle.sd_tool.proofs.AskLemmas.{asks_none, breaks_here, joined}
use Rattle.sd_tool.proofs.InputLemmas.{no_choice}
use Rattle.sd_tool.proofs.ReadingLemmas.{leads_on, leads_same, handed_on}
use Rattle.sd_tool.proofs.scripts.read_orders.Goals as goal

-- ---- without a script

pub returns-in-Ok-clause-fit : goal.returns-in-Ok-clause-fit
returns-in-Ok-clause-fit g c =
    let v = c.args.source.now.formula.variables in
    subst (λ (o : ℕ). AreOrders v o c.in-Ok.orders) c.outputs-outputs.ensures.value (c.in-Ok.ensures.fit v)

pub returns-in-Err-clause-leads : goal.returns-in-Err-clause-leads
returns-in-Err-clause-leads g c = λ begin.
    breaks_here _ (g.F.Shelf.files c.args.shelf.now) _ (asks_none g.F.Shelf.asked c.args.shelf.now)

-- ---- with a script

-- the stop at its file
pub returns-in_err-script-clause-leads : goal.returns-in_err-script-clause-leads
returns-in_err-script-clause-leads g c = λ begin.
    let job = c.args.job.now in
    let told = g.F.Shelf.files c.args.shelf.now in
    let v = c.args.source.now.formula.variables in
    let o = length (lines_of c.args.source.now.circuit).outputs in
    let w = c.variables-variables.result in
    let p = c.outputs-outputs.result in
    let file = c.as_str.result.now in
    let inner : List NumberedCommand → Point = λ lines. begin (choice job ++ lines) in
    let next : Script → Point = λ script. with_lines w script inner [] script.commands in
    let same = ap (with_commands job v o inner) c.in-Some.is
    ∙ ap (λ (f : List ℕ). with_commands job v o inner (Some f)) (sym c.as_str.ensures)
    ∙ ap (λ (n : ℕ). with_commands job n o inner (Some file)) (sym c.variables-variables.ensures.value)
    ∙ ap (λ (n : ℕ). with_commands job w n inner (Some file)) (sym c.outputs-outputs.ensures.value) in
    handed_on _ told (with_commands job v o inner job.script) (λ orders. begin (orders_lines orders)) _ _
    (g.F.Shelf.read_faults c.args.shelf.now) (g.F.Shelf.read_faults c.read.new.shelf) c.from_residual.ensures.1
    (leads_same _ told (with_commands job v o inner job.script) (reads 3 (script_of w p) file next) next next (Err _)
    (g.F.Shelf.read_faults c.args.shelf.now) (g.F.Shelf.read_faults c.read.new.shelf) same (λ x. refl)
    (c.in_err-script.ensures.leads next))

-- at one of its lines
pub returns-in_err-commands-clause-leads : goal.returns-in_err-commands-clause-leads
returns-in_err-commands-clause-leads g c = λ begin.
    let job = c.args.job.now in
    let told = g.F.Shelf.files c.args.shelf.now in
    let v = c.args.source.now.formula.variables in
    let o = length (lines_of c.args.source.now.circuit).outputs in
    let w = c.variables-variables.result in
    let p = c.outputs-outputs.result in
    let file = c.as_str.result.now in
    let inner : List NumberedCommand → Point = λ lines. begin (choice job ++ lines) in
    let next : Script → Point = λ script. with_lines w script inner [] script.commands in
    let same = ap (with_commands job v o inner) c.in-Some.is
    ∙ ap (λ (f : List ℕ). with_commands job v o inner (Some f)) (sym c.as_str.ensures)
    ∙ ap (λ (n : ℕ). with_commands job n o inner (Some file)) (sym c.variables-variables.ensures.value)
    ∙ ap (λ (n : ℕ). with_commands job w n inner (Some file)) (sym c.outputs-outputs.ensures.value) in
    let one : ComesTo (Adds g.F.Shelf.asked c.args.shelf.now c.read.new.shelf) told
    (with_commands job v o inner job.script) (next c.in_ok-script.script) =
    leads_same _ told (with_commands job v o inner job.script) (reads 3 (script_of w p) file next) next next
    (Ok c.in_ok-script.script) (g.F.Shelf.read_faults c.args.shelf.now) (g.F.Shelf.read_faults c.read.new.shelf) same
    (λ x. refl) (c.in_ok-script.ensures.leads next) in
    handed_on _ told (with_commands job v o inner job.script) (λ orders. begin (orders_lines orders)) _ _
    (g.F.Shelf.read_faults c.args.shelf.now) (g.F.Shelf.read_faults c.script_commands.new.shelf)
    c.from_residual-in_err-commands.ensures.1
    (leads_on told (g.F.Shelf.files c.read.new.shelf) (with_commands job v o inner job.script)
    (next c.in_ok-script.script) (λ orders. begin (orders_lines orders)) (Err _)
    (g.F.Shelf.read_faults c.args.shelf.now) (g.F.Shelf.read_faults c.read.new.shelf)
    (g.F.Shelf.read_faults c.script_commands.new.shelf)
    (joined g.F.Shelf.asked c.args.shelf.now c.read.new.shelf c.script_commands.new.shelf)
    c.in_ok-script.ensures.files c.in_ok-script.ensures.read_faults one (c.in_err-commands.ensures.leads inner))

-- all of them; no choice stands beside a script
pub returns-clause-leads : goal.returns-clause-leads
returns-clause-leads g c = λ begin.
    let job = c.args.job.now in
    let told = g.F.Shelf.files c.args.shelf.now in
    let v = c.args.source.now.formula.variables in
    let o = length (lines_of c.args.source.now.circuit).outputs in
    let w = c.variables-variables.result in
    let p = c.outputs-outputs.result in
    let file = c.as_str.result.now in
    let commands = c.in_ok-commands.commands in
    let inner : List NumberedCommand → Point = λ lines. begin (choice job ++ lines) in
    let next : Script → Point = λ script. with_lines w script inner [] script.commands in
    let same = ap (with_commands job v o inner) c.in-Some.is
    ∙ ap (λ (f : List ℕ). with_commands job v o inner (Some f)) (sym c.as_str.ensures)
    ∙ ap (λ (n : ℕ). with_commands job n o inner (Some file)) (sym c.variables-variables.ensures.value)
    ∙ ap (λ (n : ℕ). with_commands job w n inner (Some file)) (sym c.outputs-outputs.ensures.value) in
    let one : ComesTo (Adds g.F.Shelf.asked c.args.shelf.now c.read.new.shelf) told
    (with_commands job v o inner job.script) (next c.in_ok-script.script) =
    leads_same _ told (with_commands job v o inner job.script) (reads 3 (script_of w p) file next) next next
    (Ok c.in_ok-script.script) (g.F.Shelf.read_faults c.args.shelf.now) (g.F.Shelf.read_faults c.read.new.shelf) same
    (λ x. refl) (c.in_ok-script.ensures.leads next) in
    subst (λ (l : List NumberedCommand). ComesTo (Adds g.F.Shelf.asked c.args.shelf.now c.script_commands.new.shelf)
    told (with_commands job v o inner job.script) (begin (l ++ commands.items)))
    (no_choice job _ c.requires.job c.in-Some.is)
    (leads_on told (g.F.Shelf.files c.read.new.shelf) (with_commands job v o inner job.script)
    (next c.in_ok-script.script) (λ commands. inner commands.items) (Ok commands)
    (g.F.Shelf.read_faults c.args.shelf.now) (g.F.Shelf.read_faults c.read.new.shelf)
    (g.F.Shelf.read_faults c.script_commands.new.shelf)
    (joined g.F.Shelf.asked c.args.shelf.now c.read.new.shelf c.script_commands.new.shelf)
    c.in_ok-script.ensures.files c.in_ok-script.ensures.read_faults one (c.in_ok-commands.ensures.leads inner))
