use Rattle.sd_tool.proofs.FromCourse.{written, written_values}
use Rattle.sd_tool.proofs.laws.written.Goals as goal

pub returns : goal.returns
returns g c = record {
  job = λ words status kept shelf shelf' out out' err err' course. written words status kept _ course;
  values = λ words status kept shelf shelf' out out' err err' course. written_values words status kept _ course;
}
