use Rattle.sd_compile.proofs.Named.{held_size, held_within}
use Rattle.sd_compile.proofs.laws.total_is_of_formulas.Goals as goal

pub returns-clause-total : goal.returns-clause-total
returns-clause-total c fs n are total =
    held_size c.args.m.now c.vtree.ensures.table c.requires.no_move fs are n total

pub returns-clause-within : goal.returns-clause-within
returns-clause-within c fs limit are total =
    held_within c.args.m.now c.vtree.ensures.table c.requires.no_move fs are limit total
