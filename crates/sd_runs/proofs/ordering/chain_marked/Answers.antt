use Rattle.sd_runs.proofs.Rechained.{rechained_first, rechained_end}
use Rattle.sd_runs.proofs.ordering.chain_marked.Goals as goal

pub returns : goal.returns
returns c =
    rechained_end c.args.marks.now c.args.elements.now c.chain_part.new.elements c.chain_part.result
    (c.chain_part.ensures.chained c.args.elements.now
    (c.chain_part-head.ensures.chained c.args.elements.now (rechained_first c.args.marks.now c.args.elements.now)))
