use Rattle.std.proofs.Common.{refl, subst}
use Rattle.sd_tool.specs.Readings.{Point, Reads, or_refused}
use Rattle.sd_tool.specs.Stops.{LeavesRead}
use Rattle.sd_tool.specs.inside.Readings.{Text, parsed}
use Rattle.sd_tool.proofs.ReadingLemmas.{text_given, text_lacking, text_leads, long_leads, long_finished}
use Rattle.sd_tool.proofs.texts.read.Goals as goal

-- the text that was read, and what it stands for
pub returns-in-Ok-Some-clause-leads : goal.returns-in-Ok-Some-clause-leads
returns-in-Ok-Some-clause-leads g c = λ next.
    let told = g.F.Shelf.files c.args.shelf.now in
    let file = c.args.file.now in
    let status = g.T.Format.status c.args.format.now in
    let reading = g.T.Format.reading c.args.format.now in
    let bytes = c.as_slice.result.now in
    let text : Text → Point = parsed status reading file next in
    text_leads _ told (Reads file text) (or_refused status file next) g.T.Format.seen status file (reading bytes)
    c.parse.result (g.F.Shelf.read_faults c.args.shelf.now) (g.F.Shelf.read_faults c.read_text.new.shelf)
    (λ fault. refl)
    (text_given _ told file text _ c.in-Ok-Some.bytes bytes c.in-Ok-Some.field-0-is c.as_slice.ensures
    (c.in-Ok-Some.ensures.leads text)) c.parse.ensures.gives

-- the file is too long
pub returns-in-Ok-None-clause-leads : goal.returns-in-Ok-None-clause-leads
returns-in-Ok-None-clause-leads g c = λ next.
    let told = g.F.Shelf.files c.args.shelf.now in
    let file = c.args.file.now in
    let status = g.T.Format.status c.args.format.now in
    let text : Text → Point = parsed status (g.T.Format.reading c.args.format.now) file next in
    long_leads _ told (Reads file text) status file c.long_stop.result
    (g.F.Shelf.read_faults c.args.shelf.now) (g.F.Shelf.read_faults c.read_text.new.shelf)
    (text_lacking _ told file text _ c.in-Ok-None.field-0-is (c.in-Ok-None.ensures.leads text)) c.long_stop.ensures

pub returns-in-Ok-None-clause-finished : goal.returns-in-Ok-None-clause-finished
returns-in-Ok-None-clause-finished g c =
    let old = g.F.Shelf.unfinished c.args.shelf.now in
    let new = g.F.Shelf.unfinished c.read_text.new.shelf in
    long_finished (g.T.Format.status c.args.format.now) c.args.file.now c.long_stop.result old new c.long_stop.ensures
    (subst (λ t. LeavesRead c.args.file.now t old new) c.in-Ok-None.field-0-is c.in-Ok-None.ensures.finished)
