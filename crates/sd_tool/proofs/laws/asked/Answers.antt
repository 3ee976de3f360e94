use Rattle.sd_tool.specs.Devices.{seen}
use Rattle.sd_tool.proofs.FromCourse.{asked}
use Rattle.sd_tool.proofs.laws.asked.Goals as goal

pub returns : goal.returns
returns g c words status kept shelf shelf' out out' err err' course =
    asked words status kept (seen g.F.Shelf g.O.Sink g.E.Sink shelf out err shelf' out' err') course
