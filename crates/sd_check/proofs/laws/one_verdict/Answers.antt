use Rattle.sd_check.proofs.Verdicts.{verdict_once}
use Rattle.sd_check.proofs.laws.one_verdict.Goals as goal

pub returns : goal.returns
returns c t ids f v w h k = verdict_once t ids f v w h k
