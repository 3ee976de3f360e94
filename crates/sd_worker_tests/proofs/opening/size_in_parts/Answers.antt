-- Behind the input no move is going on.
use Rattle.sd_worker_tests.proofs.opening.size_in_parts.Goals as goal

pub total-requires : goal.total-requires
total-requires g c =
    record { no_move = (c.in-Ok-input_by_parts.ensures.done _ c.in-Ok-new.ensures.represents).represents.no_move }
