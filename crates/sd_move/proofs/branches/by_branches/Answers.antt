use Rattle.std.proofs.Common.{◌≡◌, ◌∙◌, ◌∷◌, [], sym, subst}
use Rattle.std.specs.FinMap.{get}
use Rattle.sd_laws.specs.Values.{pairs_value}
use Rattle.sd_laws.proofs.Evaluated.{value_of}
use Rattle.sd_manager.specs.Views.{pairs_at}
use Rattle.sd_move.specs.Branches.{AreInnerBelow, AreBranches, CanJoin, reached}
use Rattle.sd_move.proofs.Branching.{inner_lower, can_join, branches_value}
use Rattle.sd_move.proofs.Calls.{no_step, step_on}
use Rattle.sd_move.proofs.branches.by_branches.Goals as goal

pub are_inner-requires-clause-each : goal.are_inner-requires-clause-each
are_inner-requires-clause-each c =
    let b = c.in_ok-branches.ensures.ok in
    subst (AreInnerBelow c.branches_of.new.m c.args.corner.now.lower) (sym c.deref.ensures.value)
    (inner_lower c.branches_of.new.m c.args.corner.now c.in_ok-branches.branches.items b.shown b.each)

pub join_branches-requires-clause-can : goal.join_branches-requires-clause-can
join_branches-requires-clause-can c =
    let m = c.args.m.now in
    let n = c.branches_of.new.m in
    let k = c.args.corner.now in
    let l = pairs_at m c.args.node in
    let items = c.in_ok-branches.branches.items in
    let b = subst (λ own. AreBranches m n k own items) (c.as_slice.ensures ∙ c.in_ok-own.ensures.ok)
    c.in_ok-branches.ensures.ok in
    let inner = subst (AreInnerBelow n k.middle) c.deref.ensures.value (c.are_inner.ensures c.if-are_inner.true) in
    let can = can_join m n c.requires.table c.branches_of.ensures.step.table c.branches_of.ensures.step.kept k
    c.requires.corner l items c.requires.own b inner in
    subst (λ own. CanJoin n (value_of (get n.linked)) k own c.deref-then-are_inner.result.now)
    (sym (c.as_slice-then-are_inner.ensures ∙ c.in_ok-own.ensures.ok))
    (subst (λ r. CanJoin n (value_of (get n.linked)) k l r) (sym c.deref-then-are_inner.ensures.value) can)

pub returns-then-are_inner-clause-ok : goal.returns-then-are_inner-clause-ok
returns-then-are_inner-clause-ok c =
    let m = c.args.m.now in
    let n = c.branches_of.new.m in
    let k = c.args.corner.now in
    let l = pairs_at m c.args.node in
    let items = c.in_ok-branches.branches.items in
    let b = subst (λ own. AreBranches m n k own items) (c.as_slice.ensures ∙ c.in_ok-own.ensures.ok)
    c.in_ok-branches.ensures.ok in
    c.in_ok-list.ensures.ok.each (pairs_value (value_of (get m.linked)) l)
    (λ a. subst (λ r. reached (value_of (get n.linked)) r a ≡ pairs_value (value_of (get m.linked)) l a ∷ [])
    (sym c.deref-then-are_inner.ensures.value)
    (branches_value m n c.branches_of.ensures.step.table k l items c.requires.own b a))

pub returns-then-are_inner-clause-step : goal.returns-then-are_inner-clause-step
returns-then-are_inner-clause-step c = step_on c.branches_of.ensures.step c.join_branches.ensures.step

pub returns-clause-step : goal.returns-clause-step
returns-clause-step c = c.branches_of.ensures.step

pub returns-in_err-branches-clause-step : goal.returns-in_err-branches-clause-step
returns-in_err-branches-clause-step c = c.branches_of.ensures.step

pub returns-in_err-list-clause-step : goal.returns-in_err-list-clause-step
returns-in_err-list-clause-step c = step_on c.branches_of.ensures.step c.join_branches.ensures.step

pub returns-in_err-own-clause-step : goal.returns-in_err-own-clause-step
returns-in_err-own-clause-step c = no_step c.requires.table c.requires.knows
