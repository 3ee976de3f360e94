use Rattle.std.proofs.Common.{sym, subst}
use Rattle.sd_starts.specs.Deciding.{judged_end, IsRefusedStart}
use Rattle.sd_starts.proofs.Refusals.{refused_start}
use Rattle.sd_starts.proofs.choosing.decide_by.Goals as goal

pub returns-in-Err : goal.returns-in-Err
returns-in-Err c = λ f settings answers.
    let shown = judged_end c.args.answer.end in
    subst (λ m. IsRefusedStart f settings c.args.start shown c.in-Err.error m) (sym c.kept_at.ensures)
    (refused_start f settings c.args.start c.args.answer answers c.in-Err.error c.in-Err.is)
