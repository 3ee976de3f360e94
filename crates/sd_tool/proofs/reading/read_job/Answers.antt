use Rattle.std.proofs.Common.{map, string_bytes, refl}
use Rattle.sd_words.proofs.Fitting.{job_fits_together}
use Rattle.sd_tool.specs.inside.Asks.{IsNone}
use Rattle.sd_tool.proofs.AskLemmas.{breaks_here}
use Rattle.sd_tool.proofs.reading.read_job.Goals as goal

pub returns-in-Err-OutOfMemory-clause-leads : goal.returns-in-Err-OutOfMemory-clause-leads
returns-in-Err-OutOfMemory-clause-leads c = λ told before now. breaks_here IsNone told _ refl

pub returns-in-Ok-clause-job : goal.returns-in-Ok-clause-job
returns-in-Ok-clause-job c =
    job_fits_together (map string_bytes c.args.words.now) c.in-Ok.job c.in-Ok.ensures.answer
