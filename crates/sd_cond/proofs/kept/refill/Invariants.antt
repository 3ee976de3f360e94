use Rattle.std.proofs.Common.{Bool, List}
use Rattle.sd_model.specs.Diagram.{Diagram}
use Rattle.sd_manager.specs.Table.{Table}
use Rattle.sd_cond.specs.Kept.{AreRightEntries}
use Rattle.sd_cond.proofs.kept.refill.Given as goal

-- the table is right so far
abbrev pub invariant-loop-i : goal.invariant-loop-i
invariant-loop-i l =
    (t : Table) (f : Diagram → List Bool → Bool) → AreRightEntries t f l.old →
    AreRightEntries t f l.fn.wider.items → AreRightEntries t f l.wider.items
