use Rattle.std.proofs.Common.{◌≡◌, sym, subst, ℕ, ◌+◌, ◌*◌, ◌<◌, arith, Some, None, IfOk}
use Rattle.std.proofs.lemmas.Result.{IfOk-weaker}
use Rattle.sd_vtree.specs.Numbered.{IsUnder as StandsUnder}
use Rattle.sd_apply.specs.Places.{width}
use Rattle.sd_apply.specs.Calls.{NegatesAt}
use Rattle.sd_apply.specs.Halves.{IsSplit, MakesHalves}
use Rattle.sd_apply.specs.Difference.{SubtractsAt}
use Rattle.sd_apply.proofs.Trees.{width_positive, children_width, right_there}
use Rattle.sd_apply.proofs.Listed.{width_on, there_on, below_on}
use Rattle.sd_apply.specs.Steps.{IsStepAt}
use Rattle.sd_apply.proofs.Steps.{at_on, at_kept, at_made, at_wider}
use Rattle.sd_apply.proofs.ByHalves.{first_high, first_low, second_high, second_low, halves_step}
use Rattle.sd_apply.proofs.Expanding.{below_at}
use Rattle.sd_apply.proofs.AndNot.{known_at, known_subtracts, are_unknown, true_subtracts, right_subtracts}
use Rattle.sd_apply.proofs.AndNot.{subtracts_right, subtracts_over, subtracts_halves, high_subtracted, low_subtracted}
use Rattle.sd_apply.proofs.AndNot.{subtracted_made, subtracted_same}
use Rattle.sd_apply.proofs.subtracting.+subtract.Goals as goal

-- what needs no node, and what the table knows

pub find_or_subtract-returns-in-Some-clause-ok : goal.find_or_subtract-returns-in-Some-clause-ok
find_or_subtract-returns-in-Some-clause-ok t c =
    known_subtracts c.args.m.now c.vtree.ensures.table c.args.at c.args.a c.args.b c.in-Some.code
    (known_at c.args.a c.args.b c.a.inside.0 c.b.inside.0 (Some c.in-Some.code) c.a.view_is c.b.view_is
    c.in-Some.ensures)

pub find_or_subtract-returns-then-is_true-clause-ok : goal.find_or_subtract-returns-then-is_true-clause-ok
find_or_subtract-returns-then-is_true-clause-ok t c =
    let m = c.args.m.now in
    let n = c.negate_at.new.m in
    let one : c.args.a ≡ 1 = c.is_true.ensures.0 c.if-is_true.true in
    IfOk-weaker c.negate_at.result (λ r. NegatesAt m n c.args.at c.args.b r)
    (λ r. SubtractsAt m n c.args.at c.args.a c.args.b r)
    (λ r h. true_subtracts m n c.vtree.ensures.table c.args.at c.args.a c.args.b r one h)
    c.negate_at.ensures.ok

pub find_or_subtract-returns-in-Some-look-clause-ok : goal.find_or_subtract-returns-in-Some-look-clause-ok
find_or_subtract-returns-in-Some-look-clause-ok t c =
    right_subtracts c.args.m.now c.args.at c.args.a c.args.b 0 c.a-2.inside.0 c.b.inside.0 c.in-Some-look.code
    c.vtree.ensures.table c.a-2.view_is c.b.view_is (c.in-Some-look.ensures.right c.args.m.now c.requires.knows)

pub find_or_subtract-subtract_anew-requires : goal.find_or_subtract-subtract_anew-requires
find_or_subtract-subtract_anew-requires t c =
    let u = are_unknown c.args.a c.args.b (known_at c.args.a c.args.b c.a.inside.0 c.b.inside.0 None c.a.view_is
    c.b.view_is c.in_default.ensures) in
    let other : ¬ (c.args.a ≡ 1) = λ e. absurd (cc (c.is_true.ensures.1 e, c.if-is_true.false)) in
    let small : 8 * width c.args.m.now.vtree c.args.at + 3 < t = omega (arith, c.decreases) in (
      small,
      (
        c.requires.at,
        (c.requires.a, (c.requires.b, (u.first other, (u.second, (u.differ other, c.requires.knows))))),
      ),
    )

-- what was found is kept

pub subtract_anew-returns-clause-step : goal.subtract_anew-returns-clause-step
subtract_anew-returns-clause-step t c =
    at_kept c.subtract_at_lca.ensures.step
    (c.keep.ensures.right c.subtract_at_lca.new.m c.subtract_at_lca.ensures.step.knows
    (subtracts_right c.args.m.now c.subtract_at_lca.new.m 0 c.args.at c.args.a c.args.b c.in_ok-code.code
    c.a.inside.0 c.b.inside.0 c.code.inside.0 c.subtract_at_lca.ensures.step.kept c.a.view_is c.b.view_is
    c.code.view_is c.requires.a c.requires.b c.in_ok-code.ensures.ok))

-- by halves at the lowest vtree node over both

pub subtract_at_lca-both_halves-requires-clause-first : goal.subtract_at_lca-both_halves-requires-clause-first
subtract_at_lca-both_halves-requires-clause-first t c =
    let f = c.lca_with_children-fork in
    below_at c.args.m.now c.args.at f.result.node c.args.a f.ensures.first c.requires.a

pub subtract_at_lca-both_halves-requires-clause-second : goal.subtract_at_lca-both_halves-requires-clause-second
subtract_at_lca-both_halves-requires-clause-second t c =
    let f = c.lca_with_children-fork in
    below_at c.args.m.now c.args.at f.result.node c.args.b f.ensures.second c.requires.b

pub subtract_at_lca-subtract_by_halves-requires : goal.subtract_at_lca-subtract_by_halves-requires
subtract_at_lca-subtract_by_halves-requires t c =
    let m = c.args.m.now in
    let f = c.lca_with_children-fork in
    let found = c.in-Some.found in
    let h = c.in-Some.ensures.halves in
    let under = subst (λ p. StandsUnder m.vtree p c.args.at) (sym c.in-Some.ensures.node) f.ensures.under in
    let small : 8 * (width m.vtree found.split.left + width m.vtree found.split.right) + 1 < t =
    omega (
      arith,
      children_width m.vtree f.ensures.table.numbered found.node found.split.left found.split.right c.args.at
          h.split.children under,
      c.decreases,
    ) in (small, (h, (c.requires.knows, f.ensures.table)))

pub subtract_at_lca-returns-in-Some-clause-ok : goal.subtract_at_lca-returns-in-Some-clause-ok
subtract_at_lca-returns-in-Some-clause-ok t c =
    let m = c.args.m.now in
    let d = c.subtract_by_halves in
    let f = c.lca_with_children-fork in
    let a = c.args.a in
    let b = c.args.b in
    let A : ℕ → ℕ → Type 0 = λ p r. SubtractsAt m d.new.m p a b r in
    IfOk-weaker d.result (λ r. A f.result.node r) (λ r. A c.args.at r)
    (λ r h. subtracts_over m d.new.m c.args.at f.result.node a b r f.ensures.first f.ensures.second h)
    (subst (λ p. IfOk d.result (λ r. A p r)) c.in-Some.ensures.node d.ensures.ok)

pub subtract_at_lca-returns-in-Some-clause-step : goal.subtract_at_lca-returns-in-Some-clause-step
subtract_at_lca-returns-in-Some-clause-step t c =
    let d = c.subtract_by_halves in
    at_wider c.lca_with_children-fork.ensures.under
    (subst (λ p. IsStepAt c.args.m.now d.new.m d.new.recent p) c.in-Some.ensures.node d.ensures.step)

-- from the halves

pub subtract_by_halves-subtract_halves-requires : goal.subtract_by_halves-subtract_halves-requires
subtract_by_halves-subtract_halves-requires t c =
    let m = c.args.m.now in
    let f = c.args.found.now in
    let h = c.requires.halves in
    let a = c.args.a in
    let b = c.args.b in
    let small : 8 * width m.vtree f.split.right + 5 < t =
    omega (arith, width_positive m.vtree f.split.left, c.decreases) in (
      small,
      (
        right_there m.vtree c.requires.table.numbered f.node f.split.left f.split.right h.split.children,
        (
          first_high m f a b h,
          (first_low m f a b h, (second_high m f a b h, (second_low m f a b h, c.requires.knows))),
        ),
      ),
    )

pub subtract_by_halves-returns-in_err-both-clause-step :
    goal.subtract_by_halves-returns-in_err-both-clause-step
subtract_by_halves-returns-in_err-both-clause-step t c =
    halves_step c.args.found.now c.args.a c.args.b c.requires.halves c.subtract_halves.ensures.step

pub subtract_by_halves-returns-then-are_same_halves-clause-ok :
    goal.subtract_by_halves-returns-then-are_same_halves-clause-ok
subtract_by_halves-returns-then-are_same_halves-clause-ok t c =
    subtracted_same c.args.m.now c.subtract_halves.new.m c.subtract_halves.ensures.step.table
    c.subtract_halves.ensures.step.kept c.args.found.now c.args.a c.args.b c.in_ok-both.both c.requires.halves
    c.in_ok-both.ensures.ok (c.are_same_halves.ensures.first c.if-are_same_halves.true)
    (c.are_same_halves.ensures.second c.if-are_same_halves.true)

pub subtract_by_halves-returns-then-are_same_halves-clause-step :
    goal.subtract_by_halves-returns-then-are_same_halves-clause-step
subtract_by_halves-returns-then-are_same_halves-clause-step t c =
    halves_step c.args.found.now c.args.a c.args.b c.requires.halves c.subtract_halves.ensures.step

pub subtract_by_halves-make_halves-requires-clause-split : goal.subtract_by_halves-make_halves-requires-clause-split
subtract_by_halves-make_halves-requires-clause-split t c =
    let f = c.args.found.now in
    subst (λ v. IsSplit v f.node f.split) (sym c.subtract_halves.ensures.step.kept.vtree) c.requires.halves.split

pub subtract_by_halves-make_halves-requires-clause-first : goal.subtract_by_halves-make_halves-requires-clause-first
subtract_by_halves-make_halves-requires-clause-first t c =
    high_subtracted c.args.m.now c.subtract_halves.new.m c.args.found.now c.args.a c.args.b c.in_ok-both.both
    c.requires.halves c.in_ok-both.ensures.ok

pub subtract_by_halves-make_halves-requires-clause-second : goal.subtract_by_halves-make_halves-requires-clause-second
subtract_by_halves-make_halves-requires-clause-second t c =
    low_subtracted c.args.m.now c.subtract_halves.new.m c.args.found.now c.args.a c.args.b c.in_ok-both.both
    c.requires.halves c.in_ok-both.ensures.ok

pub subtract_by_halves-returns-clause-ok : goal.subtract_by_halves-returns-clause-ok
subtract_by_halves-returns-clause-ok t c =
    let m = c.args.m.now in
    let n = c.subtract_halves.new.m in
    let k = c.make_halves.new.m in
    let f = c.args.found.now in
    let r = c.in_ok-both.both in
    IfOk-weaker c.make_halves.result (λ d. MakesHalves n k f.split.right f.split.variable r.0 r.1 d)
    (λ d. SubtractsAt m k f.node c.args.a c.args.b d)
    (λ d h. subtracted_made m n k f c.args.a c.args.b d r c.requires.halves c.in_ok-both.ensures.ok h)
    c.make_halves.ensures.ok

pub subtract_by_halves-returns-clause-step : goal.subtract_by_halves-returns-clause-step
subtract_by_halves-returns-clause-step t c =
    let made = c.make_halves.ensures in
    at_made (halves_step c.args.found.now c.args.a c.args.b c.requires.halves c.subtract_halves.ensures.step) made.kept
    made.grown made.table

-- the two calls

pub subtract_halves-find_or_subtract-requires-2 : goal.subtract_halves-find_or_subtract-requires-2
subtract_halves-find_or_subtract-requires-2 t c =
    let m = c.args.m.now in
    let n = c.find_or_subtract.new.m in
    let x = c.find_or_subtract.ensures.step.kept in
    let w = c.args.right in
    let small : 8 * width n.vtree w + 4 < t = omega (arith, width_on m n x w, c.decreases) in (
      small,
      (
        there_on m n x w c.requires.right,
        (
          below_on m n x w c.args.first.now.1 c.requires.other_first,
          (below_on m n x w c.args.second.now.1 c.requires.other_second, c.find_or_subtract.ensures.step.knows),
        ),
      ),
    )

pub subtract_halves-returns-clause-ok : goal.subtract_halves-returns-clause-ok
subtract_halves-returns-clause-ok t c =
    subtracts_halves c.args.m.now c.find_or_subtract.new.m c.find_or_subtract-2.new.m
    c.find_or_subtract.ensures.step.kept
    c.find_or_subtract-2.ensures.step.kept c.args.right c.args.first.now c.args.second.now c.in_ok-high.high
    c.in_ok-low.low c.in_ok-high.ensures.ok c.in_ok-low.ensures.ok

pub subtract_halves-returns-in_err-low-clause-step : goal.subtract_halves-returns-in_err-low-clause-step
subtract_halves-returns-in_err-low-clause-step t c =
    at_on c.find_or_subtract.ensures.step c.find_or_subtract-2.ensures.step

pub subtract_halves-returns-clause-step : goal.subtract_halves-returns-clause-step
subtract_halves-returns-clause-step t c =
    at_on c.find_or_subtract.ensures.step c.find_or_subtract-2.ensures.step
