use Rattle.std.proofs.Common.{sym, subst}
use Rattle.std.proofs.lemmas.List.Elements.{All-nil}
use Rattle.sd_cond.specs.Kept.{IsRightEntry, AreRightEntries}
use Rattle.sd_cond.proofs.kept.KeptAnswers.new.Goals as goal

pub returns : goal.returns
returns c = λ t f. record {
  right = subst (λ es. AreRightEntries t f es) (sym c.new.ensures.items)
      (All-nil (λ e. IsRightEntry t f e));
}
