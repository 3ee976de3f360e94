-- A root that finds no room in the list is released.
use Rattle.std.proofs.Common.{ap, ◌∙◌}
use Rattle.sd_manager.specs.Making.{without_root}
use Rattle.sd_compile.proofs.Kept.{tried_held, without_new}
use Rattle.sd_gates.proofs.sweeping.hold_one.Goals as goal

pub release-requires-clause-root : goal.release-requires-clause-root
release-requires-clause-root c =
    tried_held c.args.m.now c.hold.new.self c.in_ok-root.root c.in-Err.refused.value c.args.node c.in_ok-root.ensures.ok
    c.in-Err.ensures.value_returned

pub returns-in-Err-clause-err : goal.returns-in-Err-clause-err
returns-in-Err-clause-err c =
    c.release.ensures.released ∙ ap (without_root c.hold.new.self) c.in-Err.ensures.value_returned
    ∙ ap (λ t. without_root t c.in_ok-root.root) c.in_ok-root.ensures.ok
    ∙ without_new c.args.m.now c.in_ok-root.root c.args.node c.in_ok-root.ensures.absent
