use Rattle.sd_words.proofs.Fitting.{job_fits_together}
use Rattle.sd_words.proofs.laws.fitting_jobs.Goals as goal

pub returns : goal.returns
returns c = job_fits_together
