use Rattle.std.proofs.Common.{◌+◌, List, [], drop, Ok, Err, refl, sym, subst, ◌∙◌, arith}
use Rattle.sd_script.specs.declared.command.Command.{Command as Line}
use Rattle.sd_commands.specs.declared.command.NumberedCommand.{NumberedCommand}
use Rattle.sd_tool.specs.Actions.{AreCommandsOf}
use Rattle.sd_base.specs.Asked.{Adds}
use Rattle.sd_tool.specs.inside.Asks.{ComesTo}
use Rattle.sd_tool.specs.Readings.{with_lines}
use Rattle.sd_tool.proofs.AskLemmas.{joined, comes_same, asks_none}
use Rattle.sd_tool.proofs.ScriptLemmas.{IsNext, next_allowed, becomes_first, becomes_next, line_leads}
use Rattle.std.proofs.Common.{inl}
use Rattle.sd_tool.proofs.scripts.script_commands.Goals as goal

-- no line is done yet
pub loop-line-init : goal.loop-line-init
loop-line-init g c =
    let told = g.F.Shelf.files c.args.shelf.now in
    let v = c.args.format.now.variables in
    let o = c.args.format.now.outputs in
    let script = c.args.script.now in
    record {
      hand = c.requires.hand;
      files = refl;
      read_faults = omega arith;
      write_faults = refl;
      unfinished = refl;
      same = c.commands-line-items.ensures;
      commands_of = subst (λ (done : List NumberedCommand). AreCommandsOf v o script.commands 0 done)
          (sym c.new-commands.ensures.items)
          (becomes_first v o script.commands);
      leads = λ begin. subst (λ (done : List NumberedCommand). ComesTo
          (Adds g.F.Shelf.asked c.args.shelf.now c.args.shelf.now) told (with_lines v script begin [] script.commands)
          (with_lines v script begin done script.commands)) (sym c.new-commands.ensures.items)
          (comes_same _ told _ (with_lines v script begin [] script.commands)
          (asks_none g.F.Shelf.asked c.args.shelf.now) refl);
    }

-- the files of a line are the script's
pub command_of-requires-clause-files : goal.command_of-requires-clause-files
command_of-requires-clause-files g c =
    let was = c.loop-line.invariant in
    let line = c.line-item.result in
    let here : IsNext c.commands-line-items.result.now c.loop-line.line-index line =
    record { within = omega arith; is = c.line-item.is } in
    let next = subst (λ (ls : List Line). IsNext ls c.loop-line.line-index line) was.same here in
    (next_allowed c.args.format.now.variables c.args.format.now.outputs c.args.script.now c.loop-line.line-index line
    c.requires.script next).files

-- the stop at a line
pub returns-in-Err-clause-leads : goal.returns-in-Err-clause-leads
returns-in-Err-clause-leads g c = λ begin.
    let was = c.loop-line.invariant in
    let line = c.line-item.result in
    let here : IsNext c.commands-line-items.result.now c.loop-line.line-index line =
    record { within = omega arith; is = c.line-item.is } in
    let next = subst (λ (ls : List Line). IsNext ls c.loop-line.line-index line) was.same here in
    line_leads (g.F.Shelf.files c.args.shelf.now) (g.F.Shelf.files c.loop-line.shelf) c.args.format.now.variables
    c.args.script.now c.loop-line.line-index line c.loop-line.commands.items begin (Err c.in-Err.stop)
    (g.F.Shelf.read_faults c.args.shelf.now) (g.F.Shelf.read_faults c.loop-line.shelf)
    (g.F.Shelf.read_faults c.command_of.new.shelf)
    (joined g.F.Shelf.asked c.args.shelf.now c.loop-line.shelf c.command_of.new.shelf) next was.files was.read_faults
    (was.leads begin)
    c.in-Err.ensures.leads

-- one more line became a command
pub loop-line-preserved : goal.loop-line-preserved
loop-line-preserved g c =
    let was = c.loop-line.invariant in
    let told = g.F.Shelf.files c.args.shelf.now in
    let v = c.args.format.now.variables in
    let o = c.args.format.now.outputs in
    let script = c.args.script.now in
    let index = c.loop-line.line-index in
    let done = c.loop-line.commands.items in
    let line = c.line-item.result in
    let here : IsNext c.commands-line-items.result.now index line =
    record { within = omega arith; is = c.line-item.is } in
    let next = subst (λ (ls : List Line). IsNext ls index line) was.same here in
    record {
      hand = c.in-Ok.ensures.hand;
      files = c.in-Ok.ensures.files ∙ was.files;
      read_faults = omega (arith, was.read_faults, c.in-Ok.ensures.read_faults);
      write_faults = c.in-Ok.ensures.write_faults ∙ was.write_faults;
      unfinished = c.in-Ok.ensures.finished ∙ was.unfinished;
      same = was.same;
      commands_of = subst (λ (cs : List NumberedCommand). AreCommandsOf v o script.commands (index + 1) cs)
          (sym c.in-Ok-put.ensures)
          (becomes_next v o script index done line c.in-Ok.command c.requires.script next (c.in-Ok.ensures.same o)
          was.commands_of);
      leads = λ begin. subst (λ (cs : List NumberedCommand). ComesTo
          (Adds g.F.Shelf.asked c.args.shelf.now c.command_of.new.shelf) told
          (with_lines v script begin [] script.commands)
          (with_lines v script begin cs (drop (index + 1) script.commands))) (sym c.in-Ok-put.ensures)
          (line_leads told (g.F.Shelf.files c.loop-line.shelf) v script index line done begin (Ok c.in-Ok.command)
          (g.F.Shelf.read_faults c.args.shelf.now) (g.F.Shelf.read_faults c.loop-line.shelf)
          (g.F.Shelf.read_faults c.command_of.new.shelf)
          (joined g.F.Shelf.asked c.args.shelf.now c.loop-line.shelf c.command_of.new.shelf) next was.files
          was.read_faults
          (was.leads begin)
          c.in-Ok.ensures.leads);
    }

-- no memory for a command
pub returns-in-Err-put-clause-leads : goal.returns-in-Err-put-clause-leads
returns-in-Err-put-clause-leads g c = λ begin.
    let was = c.loop-line.invariant in
    let line = c.line-item.result in
    let here : IsNext c.commands-line-items.result.now c.loop-line.line-index line =
    record { within = omega arith; is = c.line-item.is } in
    let next = subst (λ (ls : List Line). IsNext ls c.loop-line.line-index line) was.same here in
    inl (
      _,
      line_leads (g.F.Shelf.files c.args.shelf.now) (g.F.Shelf.files c.loop-line.shelf) c.args.format.now.variables
          c.args.script.now c.loop-line.line-index line c.loop-line.commands.items begin (Ok c.in-Ok.command)
          (g.F.Shelf.read_faults c.args.shelf.now) (g.F.Shelf.read_faults c.loop-line.shelf)
          (g.F.Shelf.read_faults c.command_of.new.shelf)
          (joined g.F.Shelf.asked c.args.shelf.now c.loop-line.shelf c.command_of.new.shelf) next was.files
          was.read_faults (was.leads begin) c.in-Ok.ensures.leads,
    )
