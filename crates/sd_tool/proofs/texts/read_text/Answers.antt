use Rattle.std.proofs.Common.{Some, None, Err, ap}
use Rattle.sd_base.specs.Asked.{Adds}
use Rattle.sd_tool.proofs.ReadingLemmas.{is_text, is_long, stops_at_file}
use Rattle.sd_tool.proofs.AskLemmas.{comes_text, breaks_at_file}
use Rattle.sd_tool.proofs.texts.read_text.Goals as goal

pub returns-in-Ok-clause-leads : goal.returns-in-Ok-clause-leads
returns-in-Ok-clause-leads g c = λ next.
    let told = g.F.Shelf.files c.args.shelf.now in
    let file = c.args.file.now in
    comes_text _ told file next (Some c.in-Ok.bytes) c.in-Ok.ensures.asked
    (is_text told file c.in-Ok.bytes c.in-Ok.ensures.ok c.in-Ok.ensures.within)

pub returns-in-Err-TooLong-clause-leads : goal.returns-in-Err-TooLong-clause-leads
returns-in-Err-TooLong-clause-leads g c = λ next.
    let told = g.F.Shelf.files c.args.shelf.now in
    let file = c.args.file.now in
    comes_text _ told file next None c.in-Err-TooLong.ensures.asked
    (is_long told file (c.in-Err-TooLong.ensures.too_long (ap Err c.in-Err-TooLong.field-0-is)))

pub returns-in-Ok-copy_of-clause-leads : goal.returns-in-Ok-copy_of-clause-leads
returns-in-Ok-copy_of-clause-leads g c = λ next.
    stops_at_file (Adds g.F.Shelf.asked c.args.shelf.now c.read_all.new.shelf)
    (g.F.Shelf.files c.args.shelf.now) c.args.file.now _ next
    (g.F.Shelf.read_faults c.args.shelf.now) (g.F.Shelf.read_faults c.read_all.new.shelf)
    c.in-Err-ReadFault.ensures.asked c.in-Ok-copy_of.ensures
    (c.in-Err-ReadFault.ensures.fault (ap Err c.in-Err-ReadFault.field-0-is))

pub returns-in-Err-OutOfMemory-clause-leads : goal.returns-in-Err-OutOfMemory-clause-leads
returns-in-Err-OutOfMemory-clause-leads g c = λ next.
    breaks_at_file _ (g.F.Shelf.files c.args.shelf.now) c.args.file.now next c.in-Err-OutOfMemory.ensures.asked

pub returns-in-Err-clause-leads : goal.returns-in-Err-clause-leads
returns-in-Err-clause-leads g c = λ next.
    breaks_at_file _ (g.F.Shelf.files c.args.shelf.now) c.args.file.now next c.in-Err-ReadFault.ensures.asked
