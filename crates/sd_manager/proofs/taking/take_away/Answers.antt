use Rattle.std.proofs.Common.{◌≡◌, ℕ, ◌+◌, ◌≤◌, Some, sym, subst}
use Rattle.std.specs.FinMap.{get}
use Rattle.sd_manager.specs.Table.{uses_in}
use Rattle.sd_manager.specs.Counting.{AreCounted, DropsUses}
use Rattle.sd_manager.proofs.TakenAway.{gone_counted, gone_used, left_first, left_last}
use Rattle.sd_manager.proofs.taking.take_away.Goals as goal

pub drop_two-requires-clause-counted : goal.drop_two-requires-clause-counted
drop_two-requires-clause-counted c =
    subst (AreCounted c.retire.new.self) c.in-Some.ensures
    (gone_counted c.args.nodes.now c.args.number c.requires.may c.retire.new.self c.retire.ensures.retired)

pub drop_two-requires-clause-used : goal.drop_two-requires-clause-used
drop_two-requires-clause-used c =
    subst (λ l. (n k : ℕ) → get c.retire.new.self.uses n ≡ Some k → uses_in (2050 + n) l ≤ k) c.in-Some.ensures
    (gone_used c.args.nodes.now c.args.number c.requires.may c.retire.new.self c.retire.ensures.retired)

pub returns-in-Some-clause-left : goal.returns-in-Some-clause-left
returns-in-Some-clause-left c =
    left_first c.args.nodes.now c.args.number c.requires.may c.retire.new.self c.retire.ensures.retired
    c.drop_two.new.nodes
    (subst (λ l. DropsUses c.retire.new.self c.drop_two.new.nodes (λ d. uses_in d l)) (sym c.in-Some.ensures)
    c.drop_two.ensures.uses)

pub returns-in_default-clause-left : goal.returns-in_default-clause-left
returns-in_default-clause-left c =
    left_last c.args.nodes.now c.args.number c.requires.may c.drop_uses.new.nodes c.drop_uses.ensures.uses
    c.retire-in_default.new.self c.retire-in_default.ensures.retired
