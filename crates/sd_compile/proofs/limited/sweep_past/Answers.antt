use Rattle.std.proofs.Common.{inr}
use Rattle.sd_manager.proofs.Extending.{extends_self}
use Rattle.sd_compile.proofs.Kept.{all_may, all_extended}
use Rattle.sd_compile.proofs.limited.sweep_past.Goals as goal

pub returns-clause-kept : goal.returns-clause-kept
returns-clause-kept c =
    all_may c.args.m.now c.args.m.now c.sweep_kept.new.m
    (all_extended c.args.m.now c.args.m.now (extends_self c.args.m.now)) (inr c.sweep_kept.ensures.swept)
