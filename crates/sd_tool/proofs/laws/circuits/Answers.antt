use Rattle.sd_tool.proofs.FromCourse.{circuits}
use Rattle.sd_tool.proofs.laws.circuits.Goals as goal

pub returns : goal.returns
returns g c words status kept shelf shelf' out out' err err' course = circuits words status kept _ course
