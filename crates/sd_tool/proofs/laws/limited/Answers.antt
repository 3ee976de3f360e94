use Rattle.sd_tool.proofs.FromCourse.{limited}
use Rattle.sd_tool.proofs.laws.limited.Goals as goal

pub returns : goal.returns
returns g c words status kept shelf shelf' out out' err err' course = limited words status kept _ course
