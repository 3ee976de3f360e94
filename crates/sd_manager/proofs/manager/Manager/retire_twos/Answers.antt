use Rattle.std.proofs.Common.{rules, ◌+◌, ◌≤◌, min, ap, subst, ◌∙◌, arith}
use Rattle.sd_manager.specs.Retiring.{AreRetired, none_retired}
use Rattle.sd_manager.specs.Stored.{table_of}
use Rattle.sd_manager.proofs.InTurn.{all_in_turn, in_turn_used}
use Rattle.sd_manager.proofs.manager.Manager.retire_twos.Goals as goal

pub retire_twos-count-requires : goal.retire_twos-count-requires
retire_twos-count-requires c =
    let s = c.self.inside in
    record {
      may = in_turn_used s.vtree s.roots s.moving s.nodes s.epoch c.self.invariant.stored s.is_counting s.counts
          c.self.invariant.counted (omega (arith, c.total.ensures, c.if-total-eq0.true));
    }

pub invariant_of-self : goal.invariant_of-self
invariant_of-self c =
    let s = c.self.inside in
    let last : s.epoch ≤ 18446744073709551615 = search rules in
    let turn = all_in_turn s.vtree s.roots s.moving s.nodes s.epoch c.self.invariant.stored s.is_counting s.counts
    c.self.invariant.counted (omega (arith, c.total.ensures, c.if-total-eq0.true)) c.retire_twos-count.new.self
    c.retire_twos-count.result c.saturating_add-self-inside.result last
    (c.saturating_add-self-inside.ensures ∙ ap (λ k. min (s.epoch + k) 18446744073709551615) c.from.ensures)
    c.retire_twos-count.ensures.retired in
    record { stored = turn.0; counted = turn.1 }

pub returns-then-total-eq0-clause-retired : goal.returns-then-total-eq0-clause-retired
returns-then-total-eq0-clause-retired c =
    let s = c.self.inside in
    let last : s.epoch ≤ 18446744073709551615 = search rules in
    let turn = all_in_turn s.vtree s.roots s.moving s.nodes s.epoch c.self.invariant.stored s.is_counting s.counts
    c.self.invariant.counted (omega (arith, c.total.ensures, c.if-total-eq0.true)) c.retire_twos-count.new.self
    c.retire_twos-count.result c.saturating_add-self-inside.result last
    (c.saturating_add-self-inside.ensures ∙ ap (λ k. min (s.epoch + k) 18446744073709551615) c.from.ensures)
    c.retire_twos-count.ensures.retired in
    subst (λ t. AreRetired t (table_of s.vtree c.retire_twos-count.new.self s.roots
    c.saturating_add-self-inside.result s.moving)) c.self.view_is turn.2

pub returns-then-total-eq0-clause-table : goal.returns-then-total-eq0-clause-table
returns-then-total-eq0-clause-table c = (invariant_of-self c).stored.table

pub returns-else-total-eq0-clause-retired : goal.returns-else-total-eq0-clause-retired
returns-else-total-eq0-clause-retired c = none_retired
