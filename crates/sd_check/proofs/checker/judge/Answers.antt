use Rattle.std.proofs.Common.{◌∙◌, sym}
use Rattle.std.specs.FinMap.{get}
use Rattle.sd_check.proofs.Judged.{constant_found}
use Rattle.sd_check.proofs.checker.judge.Goals as goal

-- a constant breaks no rule
pub returns-in-Constant-clause-ok : goal.returns-in-Constant-clause-ok
returns-in-Constant-clause-ok c =
    constant_found c.args.m.now (get c.args.ids.now) c.args.file.now _ c.constant.result c.in-Constant.value
    c.requires.file c.requires.below (sym c.node.ensures.value ∙ c.in-Constant.is) c.constant.ensures.shown
