use Rattle.sd_counts.proofs.StaysRight.{uses_live, length_total}
use Rattle.sd_counts.proofs.laws.list_is_counted.Goals as goal

pub returns-clause-uses : goal.returns-clause-uses
returns-clause-uses c = λ a held v m of on n. uses_live a held v m of on n

pub returns-clause-total : goal.returns-clause-total
returns-clause-total c = λ a held v m of on. length_total a held v m of on
