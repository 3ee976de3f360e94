use Rattle.sd_check.proofs.EqualCodes.{sorted_twins}
use Rattle.sd_check.proofs.twins.have_twins.Goals as goal

pub returns : goal.returns
returns c =
    sorted_twins _ _ _ _ c.in_ok-codes.ensures c.sort.ensures.permutation c.sort.ensures.sorted
    c.deref.ensures.value c.has_equal_neighbours.ensures.found c.has_equal_neighbours.ensures.none
