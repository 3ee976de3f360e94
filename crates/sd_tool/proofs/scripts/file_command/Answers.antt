use Rattle.std.proofs.Common.{Ok, Err}
use Rattle.sd_tool.specs.Readings.{with_action}
use Rattle.sd_tool.proofs.AskLemmas.{asks_none, breaks_here}
use Rattle.sd_tool.proofs.ReadingLemmas.{handed_on}
use Rattle.sd_tool.proofs.ScriptLemmas.{load_leads, write_leads, write_same, vtree_leads}
use Rattle.sd_tool.proofs.scripts.file_command.Goals as goal

-- a load
pub returns-in_ok-read-in-Load-clause-leads : goal.returns-in_ok-read-in-Load-clause-leads
returns-in_ok-read-in-Load-clause-leads g c =
    load_leads _ (g.F.Shelf.files c.args.shelf.now) c.args.variables c.args.script.now c.args.action.now _ _ _
    (Ok c.in_ok-read-in-Load.read) (g.F.Shelf.read_faults c.args.shelf.now) (g.F.Shelf.read_faults c.read.new.shelf)
    c.in-Load.is c.file.ensures c.in_ok-read-in-Load.ensures.leads

pub returns-in_err-read-in-Load-clause-leads : goal.returns-in_err-read-in-Load-clause-leads
returns-in_err-read-in-Load-clause-leads g c = λ next.
    let told = g.F.Shelf.files c.args.shelf.now in
    handed_on _ told (with_action c.args.variables c.args.script.now next c.args.action.now) next _ _
    (g.F.Shelf.read_faults c.args.shelf.now) (g.F.Shelf.read_faults c.read.new.shelf) c.from_residual.ensures.1
    (load_leads _ told c.args.variables c.args.script.now c.args.action.now _ _ _
    (Err _) (g.F.Shelf.read_faults c.args.shelf.now) (g.F.Shelf.read_faults c.read.new.shelf)
    c.in-Load.is c.file.ensures c.in_err-read-in-Load.ensures.leads next)

-- diagrams are written
pub returns-in-Ok-clause-leads : goal.returns-in-Ok-clause-leads
returns-in-Ok-clause-leads g c =
    write_leads _ (g.F.Shelf.files c.args.shelf.now) c.args.variables c.args.script.now c.args.action.now _ _ _ _
    c.in-Write.is c.file-in-Write.ensures c.in-Ok.ensures (asks_none g.F.Shelf.asked c.args.shelf.now)

pub returns-in-Ok-clause-same : goal.returns-in-Ok-clause-same
returns-in-Ok-clause-same g c = λ o.
    write_same c.args.variables o c.args.action.now _ _ _ _ c.in-Write.is c.in-Ok.ensures

pub returns-in-Err-clause-leads : goal.returns-in-Err-clause-leads
returns-in-Err-clause-leads g c = λ next.
    breaks_here _ (g.F.Shelf.files c.args.shelf.now) _ (asks_none g.F.Shelf.asked c.args.shelf.now)

-- the vtree is written
pub returns-in-Ok-copy_of-clause-leads : goal.returns-in-Ok-copy_of-clause-leads
returns-in-Ok-copy_of-clause-leads g c =
    vtree_leads _ (g.F.Shelf.files c.args.shelf.now) c.args.variables c.args.script.now c.args.action.now _ _ _
    c.in-Vtree.is c.file-in-Vtree.ensures c.in-Ok-copy_of.ensures
    (asks_none g.F.Shelf.asked c.args.shelf.now)

pub returns-in-Err-copy_of-clause-leads : goal.returns-in-Err-copy_of-clause-leads
returns-in-Err-copy_of-clause-leads g c = λ next.
    breaks_here _ (g.F.Shelf.files c.args.shelf.now) _ (asks_none g.F.Shelf.asked c.args.shelf.now)
