use Rattle.sd_tool.proofs.FromCourse.{parted}
use Rattle.sd_tool.proofs.laws.parted.Goals as goal

pub returns : goal.returns
returns g c words status kept shelf shelf' out out' err err' course = parted words status kept _ course
