use Rattle.std.proofs.Common.{arith}
use Rattle.sd_file.proofs.Grouping.{entries_more}
use Rattle.sd_file.proofs.order.entries_of.Goals as goal

pub loop-code-preserved : goal.loop-code-preserved
loop-code-preserved c =
    entries_more c.args.m.now c.args.o.now c.args.group.now c.loop-code.code-index 0 c.loop-code.entries.items
    c.push.new.self.items c.in_ok-entry_of.field-0 c.loop-code.invariant (omega arith) c.in_ok-entry_of.ensures.code
    c.in_ok-entry_of.ensures.entry c.in_ok-push.ensures.items
