use Rattle.sd_tool.proofs.FromCourse.{chosen}
use Rattle.sd_tool.proofs.laws.chosen.Goals as goal

pub returns : goal.returns
returns g c words status kept shelf shelf' out out' err err' course = chosen words status kept _ course
