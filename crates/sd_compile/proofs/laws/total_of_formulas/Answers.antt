use Rattle.sd_compile.proofs.Named.{total_formulas}
use Rattle.sd_compile.proofs.laws.total_of_formulas.Goals as goal

pub returns-clause-total : goal.returns-clause-total
returns-clause-total c f fs n are h = total_formulas c.args.m.now c.vtree.ensures.table.numbered f fs n are h
