use Rattle.std.proofs.Common.{◌≡◌, sym, ap, subst, ◌∙◌, rules}
use Rattle.sd_commands.proofs.Verdicts.{broken_there}
use Rattle.sd_commands.proofs.checking.verdict_text.Goals as goal

pub id-requires : goal.id-requires
id-requires c =
    broken_there c.requires.0 c.requires.1 c.args.file.now c.args.verdict c.in-No.node c.in-No.rule c.in-No.is
    c.requires.2
