use Rattle.sd_compile.proofs.Totals.{total_once}
use Rattle.sd_compile.proofs.laws.one_total.Goals as goal

pub returns : goal.returns
returns c f a b h k = total_once c.args.m.now c.vtree.ensures.table.numbered f a b h k
