use Rattle.std.proofs.Common.{◌≡◌, ◌<◌, length}
use Rattle.sd_cache.specs.Entries.{AreAmong, Entries}
use Rattle.sd_cache.proofs.computed.refill.Given as goal

abbrev pub invariant-loop-i : goal.invariant-loop-i
invariant-loop-i l =
    (0 < length l.wider.items)
    × (length l.wider.items ≡ length l.fn.wider.items)
    × ((es : Entries) → AreAmong l.old es → AreAmong l.fn.wider.items es → AreAmong l.wider.items es)
