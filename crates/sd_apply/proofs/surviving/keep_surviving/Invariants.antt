use Rattle.std.proofs.Common.{◌≡◌}
use Rattle.sd_apply.specs.Surviving.{AreSifted}
use Rattle.sd_apply.proofs.surviving.keep_surviving.Given as goal

abbrev pub invariant-loop-index : goal.invariant-loop-index
invariant-loop-index l =
    (l.c.entries ≡ l.fn.c.entries)
    × (l.c.epoch ≡ l.fn.c.epoch)
    × AreSifted l.m l.fn.c.computed l.c.computed l.index
