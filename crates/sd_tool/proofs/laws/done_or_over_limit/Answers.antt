use Rattle.sd_tool.proofs.FromCourse.{done_or_over_limit}
use Rattle.sd_tool.proofs.laws.done_or_over_limit.Goals as goal

pub returns : goal.returns
returns g c words status kept shelf shelf' out out' err err' course = done_or_over_limit words status kept _ course
