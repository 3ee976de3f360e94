-- What holds whatever a call answers holds where it is refused.
use Rattle.std.proofs.Common.{Result, Ok, Err, OnErr}

pub at_error : {T E P : Type 0} (r : Result T E) → P → OnErr r P
at_error (Ok x) p = tt
at_error (Err e) p = p
