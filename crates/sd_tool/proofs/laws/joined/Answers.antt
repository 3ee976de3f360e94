use Rattle.sd_tool.proofs.FromCourse.{joined}
use Rattle.sd_tool.proofs.laws.joined.Goals as goal

pub returns : goal.returns
returns g c words status kept shelf shelf' out out' err err' course = joined words status kept _ course
