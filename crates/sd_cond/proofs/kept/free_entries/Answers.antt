use Rattle.std.proofs.Common.{Bool, List, sym, subst, refl}
use Rattle.std.proofs.lemmas.Result.{IfOk-weaker}
use Rattle.std.proofs.lemmas.List.Elements.{All-replicate}
use Rattle.sd_model.specs.Diagram.{Diagram}
use Rattle.sd_manager.specs.Table.{Table}
use Rattle.sd_cond.specs.Kept.{IsRightEntry, AreRightEntries}
use Rattle.sd_cond.proofs.kept.free_entries.Goals as goal

pub returns : goal.returns
returns c = record {
  right = IfOk-weaker c.vec.result _
      (λ v. (t : Table) (f : Diagram → List Bool → Bool) → AreRightEntries t f v.items)
      (λ v h t f. subst (λ es. AreRightEntries t f es) (sym (h (λ y e. e)))
      (All-replicate (λ e. IsRightEntry t f e) c.args.count _ (λ some. absurd (some refl))))
      c.vec.ensures.items_if_clones_equal;
}
