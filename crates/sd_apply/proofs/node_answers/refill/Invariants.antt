use Rattle.std.proofs.Common.{◌<◌, ℕ, ℤ, List, length}
use Rattle.sd_model.specs.declared.trees.Operation.{Operation}
use Rattle.sd_manager.specs.Table.{Table}
use Rattle.sd_apply.specs.GroupCalls.{AreRightEntries}
use Rattle.sd_apply.proofs.node_answers.refill.Given as goal

abbrev pub invariant-loop-i : goal.invariant-loop-i
invariant-loop-i l =
    (0 < length l.wider.items)
    × ((t : Table) (o : Operation) (g : List (ℕ × ℤ)) → AreRightEntries t o g l.old →
    AreRightEntries t o g l.fn.wider.items → AreRightEntries t o g l.wider.items)
