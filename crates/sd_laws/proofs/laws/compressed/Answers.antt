use Rattle.sd_laws.proofs.Merged.{merged_value}
use Rattle.sd_laws.proofs.laws.compressed.Goals as goal

pub returns : goal.returns
returns c before after d e p f same prime h = merged_value before after d e p f same prime h
