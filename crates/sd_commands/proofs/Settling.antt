-- The ends of a command whose total size is tested: within the limit, and past it.
use Rattle.std.proofs.Common.{◌≡◌, ℕ, Bool, true, false, [], refl}
use Rattle.std.proofs.Common.{le-leb, if◌then◌else◌}
use Rattle.std.specs.Prelude.{None, nat_le}
use Rattle.std.proofs.lemmas.Bool.{lt-leb}
use Rattle.sd_commands.specs.Commands.{State, Done, NotMovable, OverLimit, Settles, AreWithin, PassLimit, formulas_of}

-- within the limit it is done
pub settles_within : (next : State) → AreWithin (formulas_of next) next.tree next.limit → Settles next (Done next [])
settles_within next in_ = (in_.0, in_.1, rw (le-leb in_.0 next.limit in_.2) refl)

-- past it, it is refused
pub settles_past : (next : State) (size : ℕ) → PassLimit (formulas_of next) next.tree next.limit size
    → Settles next (OverLimit None size next.limit)
settles_past next size out = (size, out.0, rw (lt-leb size next.limit out.1) refl)

-- it is no place that is not movable
pub never_unmoved : (next : State) → Settles next NotMovable → ⊥
never_unmoved next p = go (nat_le p.0 next.limit) p.2
  where
    go : (b : Bool) → NotMovable ≡ (if b then Done next [] else OverLimit None p.0 next.limit) → ⊥
    go true e = cc
    go false e = cc
