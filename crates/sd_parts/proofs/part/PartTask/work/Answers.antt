-- The part is what it is seen as.
use Rattle.std.proofs.Common.{subst}
use Rattle.sd_parts.specs.Seen.{PartWork}
use Rattle.sd_parts.specs.Work.{AnswersPart}
use Rattle.sd_parts.proofs.part.PartTask.work.Goals as goal

pub returns : goal.returns
returns g c =
    subst (λ (w : PartWork). AnswersPart w c.compile_part.result) c.self.view_is
    (c.compile_part.ensures c.self.inside.number)
