use Rattle.sd_tool.proofs.FromCourse.{checked}
use Rattle.sd_tool.proofs.laws.checked.Goals as goal

pub returns : goal.returns
returns g c words status kept shelf shelf' out out' err err' course = checked words status kept _ course
