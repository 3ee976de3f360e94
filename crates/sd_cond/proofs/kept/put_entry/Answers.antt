use Rattle.std.proofs.lemmas.List.Elements.{All-set}
use Rattle.sd_cond.specs.Kept.{IsRightEntry}
use Rattle.sd_cond.proofs.kept.put_entry.Goals as goal

pub returns : goal.returns
returns c = λ t f h one.
    All-set (λ e. IsRightEntry t f e) c.args.entries.now.items c.entry_of-index.result _ one h
