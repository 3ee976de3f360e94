use Rattle.sd_file.specs.Built.{HasMarked}
use Rattle.sd_file.proofs.builder.mark_children.Given as goal

-- the first pairs have marks
abbrev pub invariant-loop-element : goal.invariant-loop-element
invariant-loop-element l = HasMarked l.file l.index l.element l.fn.marks l.marks
