use Rattle.std.proofs.Common.{◌≡◌, ℕ, ◌⊎◌, ◌∷◌, inr, sym, subst, Contains}
use Rattle.std.proofs.lemmas.List.Elements.{All-set}
use Rattle.lru.proofs.Splits.{Contains-head, Contains-tail}
use Rattle.sd_cache.specs.Entries.{AreAmong, Call, Entries, blank, call}
use Rattle.sd_cache.proofs.Among.{among_itself, among_more}
use Rattle.sd_cache.proofs.computed.ComputedTable.keep.Goals as goal
use Rattle.sd_cache.proofs.computed.ComputedTable.keep.Goals.{then-self-len, else-self-len}

pub returns-clause-among : goal.returns-clause-among
returns-clause-among c =
    let old : Entries = c.args.self.now in
    let added : Call × ℕ = (call 0 c.args.operation c.args.a c.args.b, c.args.answer) in
    let grown : AreAmong c.if-self-len.self old = elim c.if-self-len.branch [
      | then-self-len w ↦ subst (λ es. AreAmong es old) (sym w.self-is) w.grow.ensures.among
      | else-self-len w ↦ subst (λ es. AreAmong es old) (sym w.self-is) (among_itself old)
    ] in
    All-set (λ e. (e ≡ blank) ⊎ Contains (added ∷ old) e) c.self-2.inside.entries.items c.entry_of-index.result
    _
    (inr (subst (λ n. Contains (added ∷ old) (call 0 n c.args.a c.args.b, c.args.answer))
    (sym c.from-operation.ensures) (Contains-head added old)))
    (among_more c.self-2.inside.entries.items old (added ∷ old) (λ e m. Contains-tail added old e m)
    (subst (λ es. AreAmong es old) (sym c.self-2.view_is) grown))
