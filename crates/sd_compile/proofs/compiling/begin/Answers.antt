use Rattle.std.proofs.Common.{◌∙◌, ap}
use Rattle.sd_compile.specs.Joined.{outer}
use Rattle.sd_compile.proofs.Adding.{begun}
use Rattle.sd_compile.proofs.compiling.begin.Goals as goal

pub returns-clause-ok : goal.returns-clause-ok
returns-clause-ok c =
    begun c.args.m.now c.hold.new.self c.args.f.now c.between_groups.result c.neutral_value.result c.in_ok-root.root
    c.constant.result (c.between_groups.ensures ∙ ap outer c.kind.ensures) c.neutral_value.ensures
    c.constant.ensures.code c.constant.ensures.shown c.in_ok-root.ensures.absent c.in_ok-root.ensures.ok
