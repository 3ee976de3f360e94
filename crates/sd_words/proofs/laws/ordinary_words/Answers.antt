use Rattle.sd_words.proofs.OrdinaryLaw.{each_value, job_of_ordinary, no_value, ordinary_values_kept}
use Rattle.sd_words.proofs.laws.ordinary_words.Goals as goal

pub returns : goal.returns
returns c = record {
  read = job_of_ordinary;
  job = ordinary_values_kept;
  values = each_value;
  others = no_value;
}
