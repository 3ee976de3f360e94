use Rattle.std.proofs.Common.{map, string_bytes, subst, sym}
use Rattle.sd_tool.specs.Theorem.{HasFinished}
use Rattle.sd_tool.proofs.EndLemmas.{went_to_stop}
use Rattle.sd_tool.proofs.whole_run.run_and_report.Goals as goal

pub returns-in-Err-clause-course : goal.returns-in-Err-clause-course
returns-in-Err-clause-course g c =
    went_to_stop (map string_bytes c.args.words.now) c.in-Err.stop _ _ _ _ c.in-Err.ensures.ends c.status.ensures
    c.parts.ensures c.write_line.ensures

pub returns-in-Err-clause-finished : goal.returns-in-Err-clause-finished
returns-in-Err-clause-finished g c =
    subst (λ n. HasFinished n (g.F.Shelf.unfinished c.args.shelf.now)
    (g.F.Shelf.unfinished c.read_and_execute.new.shelf)) (sym c.status.ensures) c.in-Err.ensures.finished
