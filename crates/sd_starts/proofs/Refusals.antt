-- Why the start that decides was refused, by its answer.
use Rattle.std.proofs.Common.{◌≡◌, refl, ap, subst, Err}
use Rattle.std.specs.Prelude.{MatchResult}
use Rattle.sd_formula.specs.Dimacs.{Groups}
use Rattle.sd_compile.specs.declared.error.CompileError.{CompileError}
use Rattle.sd_compile.specs.declared.error.CompileError.TheVariants as refused
use Rattle.sd_starts.specs.Starts.{AnswersStart, IsDoneAt, IsStoppedAt, tree_of_start}
use Rattle.sd_starts.specs.Deciding.{judged_end, kept_at, IsRefusedStart}
use Rattle.sd_starts.specs.declared.start.Start.{Start}
use Rattle.sd_starts.specs.declared.start.Settings.{Settings}
use Rattle.sd_starts.specs.declared.work.StartAnswer.{StartAnswer}

-- what stands behind a refusal
stopped : (f : Groups) (settings : Settings) (start : Start) (a : StartAnswer) → AnswersStart f settings start a
    → (e : CompileError) → a.end ≡ Err e
    → IsStoppedAt f settings (tree_of_start start f.variables) a.manager e
stopped f settings start a answers e is = subst (λ end. MatchResult end
    (IsDoneAt f settings (tree_of_start start f.variables) a.manager)
    (IsStoppedAt f settings (tree_of_start start f.variables) a.manager)) is answers.end

pub refused_start : (f : Groups) (settings : Settings) (start : Start) (a : StartAnswer)
    → AnswersStart f settings start a → (e : CompileError) → a.end ≡ Err e
    → IsRefusedStart f settings start (judged_end a.end) e (kept_at e a.manager)
refused_start f settings start a answers (refused.OverLimit group size limit) is =
    let k = stopped f settings start a answers (refused.OverLimit group size limit) is in
    (k.refused.0, k.refused.1, refl, ap judged_end is)
refused_start f settings start a answers (refused.ArenaFull elements) is =
    let k = stopped f settings start a answers (refused.ArenaFull elements) is in (
      a.manager,
      refl,
      record {
        tree = k.tree;
        past = k.refused;
        bound = answers.ready.bound;
        nothing = k.nothing;
      },
      ap judged_end is,
    )
refused_start f settings start a answers refused.OutOfMemory is = (refl, ap judged_end is)
