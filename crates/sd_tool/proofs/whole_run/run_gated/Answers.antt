use Rattle.sd_tool.proofs.ByStatus.{effects_of, line_of_run, ends_of}
use Rattle.sd_tool.proofs.OneRun.{completes}
use Rattle.sd_tool.proofs.Walks.{course_of}
use Rattle.sd_tool.proofs.WrittenLemmas.{equal_texts}
use Rattle.sd_tool.proofs.whole_run.run_gated.Goals as goal

pub returns-clause-course : goal.returns-clause-course
returns-clause-course g c = course_of _ _ _ _ c.run_and_report.ensures.course

pub returns-clause-effects : goal.returns-clause-effects
returns-clause-effects g c = effects_of _ _ _ _ c.run_and_report.ensures.course

pub returns-clause-line : goal.returns-clause-line
returns-clause-line g c = line_of_run _ _ _ _ c.run_and_report.ensures.course

pub returns-clause-ends : goal.returns-clause-ends
returns-clause-ends g c = ends_of _ _ _ _ c.run_and_report.ensures.course

pub returns-clause-complete : goal.returns-clause-complete
returns-clause-complete g c = completes _ _ _ _ c.run_and_report.ensures.course

pub returns-clause-equal_texts : goal.returns-clause-equal_texts
returns-clause-equal_texts g c = equal_texts _ _
