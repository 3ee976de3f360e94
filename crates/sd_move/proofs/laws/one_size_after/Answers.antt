use Rattle.sd_move.proofs.OneSize.{one_size}
use Rattle.sd_move.proofs.laws.one_size_after.Goals as goal

pub returns : goal.returns
returns c t kind place n k table h j = one_size t kind place n k table.numbered h j
