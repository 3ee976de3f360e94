use Rattle.std.proofs.Common.{◌≡◌, ◌-◌, ℕ, length}
use Rattle.sd_script.specs.Tables.{is_marked}
use Rattle.sd_script.proofs.marks.Marks.make_room.Given as goal

-- no mark is changed
abbrev pub invariant-loop-self : goal.invariant-loop-self
invariant-loop-self l = (i : ℕ) → is_marked l.self i ≡ is_marked l.initial.self i

-- the places that are missing
abbrev pub decreases-loop-self : goal.decreases-loop-self
decreases-loop-self l = l.count - length l.self.marks.items
