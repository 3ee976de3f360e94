use Rattle.std.proofs.Common.{◌∙◌, sym, rules}
use Rattle.sd_apply.proofs.Joining.{positive_halves, negative_halves}
use Rattle.sd_apply.proofs.halves.literal_halves.Goals as goal

pub returns-then-is_positive : goal.returns-then-is_positive
returns-then-is_positive c =
    positive_halves c.args.m.now c.args.at c.args.split.now.right c.args.split.now.variable c.args.node c.requires.table
    c.requires.least c.requires.code
    (sym c.variable.ensures ∙ c.if-variable-split.false) (search rules)

pub returns-else-is_positive : goal.returns-else-is_positive
returns-else-is_positive c =
    negative_halves c.args.m.now c.args.at c.args.split.now.right c.args.split.now.variable c.args.node c.requires.table
    c.requires.least c.requires.code
    (sym c.variable.ensures ∙ c.if-variable-split.false) (search rules)
