use Rattle.std.proofs.Common.{arith}
use Rattle.sd_file.proofs.Marks.{marked_pair}
use Rattle.sd_file.proofs.builder.mark_children.Goals as goal

-- one pair more
pub loop-element-preserved : goal.loop-element-preserved
loop-element-preserved c =
    marked_pair c.args.file.now c.args.index c.loop-element.element c.args.marks.now c.loop-element.marks
    c.pair-prime.result (omega (arith, c.requires.index, c.requires.size)) c.pair-prime.ensures.value
    c.pair-prime.ensures.earlier c.loop-element.invariant
