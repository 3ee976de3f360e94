use Rattle.std.proofs.Common.{sym, subst}
use Rattle.sd_manager.specs.Table.{Table}
use Rattle.sd_search.specs.Kept.{KeepsRoots}
use Rattle.sd_search.proofs.KeptRoots.{kept_itself}
use Rattle.sd_starts.proofs.work.searched.Goals as goal

pub returns-in_default-clause-kept : goal.returns-in_default-clause-kept
returns-in_default-clause-kept c =
    subst (λ (t : Table). KeepsRoots c.args.m.now t) (sym c.size.ensures.same)
    (kept_itself c.args.m.now c.requires.ready.table c.requires.ready.no_move)
