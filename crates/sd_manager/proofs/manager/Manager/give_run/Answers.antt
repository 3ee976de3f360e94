use Rattle.std.proofs.Common.{◌≡◌, ℕ, List, Some, length, sym, subst}
use Rattle.std.specs.FinMap.{get}
use Rattle.sd_manager.specs.Stored.{table_of}
use Rattle.sd_manager.specs.Moving.{IsGivenBack}
use Rattle.sd_manager.proofs.GivenBack.{giving_loose, giving_counted, giving_used, giving_still}
use Rattle.sd_manager.proofs.GivenBack.{given_stored, given_run}
use Rattle.sd_manager.specs.Stored.{counted_roots, held_count}
use Rattle.sd_manager.proofs.CountsKept.{counts_other_uses}
use Rattle.sd_manager.proofs.CountsAfter.{counts_given}
use Rattle.sd_manager.proofs.manager.Manager.give_run.Goals as goal

pub drop_run_uses-requires-clause-run : goal.drop_run_uses-requires-clause-run
drop_run_uses-requires-clause-run c =
    let s = c.self.inside in
    let loose = subst (λ t. (list : List (ℕ × ℕ)) × (get t.loose c.args.run.0 ≡ Some list)
    × (length list ≡ c.args.run.1)) (sym c.self.view_is) c.requires.loose in
    giving_loose s.vtree s.nodes s.roots s.epoch s.moving c.self.invariant.stored c.args.run.0 c.args.run.1 loose

pub drop_run_uses-requires-clause-counted : goal.drop_run_uses-requires-clause-counted
drop_run_uses-requires-clause-counted c =
    let s = c.self.inside in
    let loose = subst (λ t. (list : List (ℕ × ℕ)) × (get t.loose c.args.run.0 ≡ Some list)
    × (length list ≡ c.args.run.1)) (sym c.self.view_is) c.requires.loose in
    giving_counted s.vtree s.nodes s.roots s.epoch s.moving c.self.invariant.stored c.args.run.0 c.args.run.1 loose

pub drop_run_uses-requires-clause-used : goal.drop_run_uses-requires-clause-used
drop_run_uses-requires-clause-used c =
    let s = c.self.inside in
    let loose = subst (λ t. (list : List (ℕ × ℕ)) × (get t.loose c.args.run.0 ≡ Some list)
    × (length list ≡ c.args.run.1)) (sym c.self.view_is) c.requires.loose in
    giving_used s.vtree s.nodes s.roots s.epoch s.moving c.self.invariant.stored c.args.run.0 c.args.run.1 loose

pub give_run-requires : goal.give_run-requires
give_run-requires c =
    let s = c.self.inside in
    let loose = subst (λ t. (list : List (ℕ × ℕ)) × (get t.loose c.args.run.0 ≡ Some list)
    × (length list ≡ c.args.run.1)) (sym c.self.view_is) c.requires.loose in
    giving_still s.vtree s.nodes s.roots s.epoch s.moving c.self.invariant.stored c.args.run.0 c.args.run.1 loose
    c.drop_run_uses.new.nodes c.drop_run_uses.ensures.uses

pub invariant_of-self : goal.invariant_of-self
invariant_of-self c =
    let s = c.self.inside in
    let held = held_count (counted_roots s.is_counting s.roots) in
    let loose = subst (λ t. (list : List (ℕ × ℕ)) × (get t.loose c.args.run.0 ≡ Some list)
    × (length list ≡ c.args.run.1)) (sym c.self.view_is) c.requires.loose in
    record {
      stored = given_stored s.vtree s.nodes s.roots s.epoch s.moving c.self.invariant.stored c.args.run.0 c.args.run.1
          loose c.drop_run_uses.new.nodes c.drop_run_uses.ensures.uses c.give_run.new.self
          c.give_run.ensures.given_back c.give_run.ensures.nodes;
      counted = counts_given c.drop_run_uses.new.nodes c.give_run.new.self held s.counts
          (counts_other_uses s.nodes c.drop_run_uses.new.nodes held s.counts
          c.self.invariant.counted c.drop_run_uses.ensures.uses.rest)
          c.args.run.0 c.args.run.1 (let s = c.self.inside in
          let loose = subst (λ t. (list : List (ℕ × ℕ)) × (get t.loose c.args.run.0 ≡ Some list)
          × (length list ≡ c.args.run.1)) (sym c.self.view_is) c.requires.loose in
          giving_still s.vtree s.nodes s.roots s.epoch s.moving c.self.invariant.stored c.args.run.0 c.args.run.1 loose
          c.drop_run_uses.new.nodes c.drop_run_uses.ensures.uses) c.give_run.ensures.given_back;
    }

pub returns-clause-given_back : goal.returns-clause-given_back
returns-clause-given_back c =
    let s = c.self.inside in
    let loose = subst (λ t. (list : List (ℕ × ℕ)) × (get t.loose c.args.run.0 ≡ Some list)
    × (length list ≡ c.args.run.1)) (sym c.self.view_is) c.requires.loose in
    subst (λ t. IsGivenBack t (table_of s.vtree c.give_run.new.self s.roots s.epoch s.moving) c.args.run.0
    c.args.run.1) c.self.view_is
    (given_run s.vtree s.nodes s.roots s.epoch s.moving c.self.invariant.stored c.args.run.0 c.args.run.1 loose
    c.drop_run_uses.new.nodes c.drop_run_uses.ensures.uses c.give_run.new.self c.give_run.ensures.given_back
    c.give_run.ensures.nodes)

pub returns-clause-table : goal.returns-clause-table
returns-clause-table c = (invariant_of-self c).stored.table
