use Rattle.std.proofs.Common.{◌∙◌, sym, ap, subst, ℕ, ◌+◌, ◌*◌, ◌<◌, List, [], ◌∷◌}
use Rattle.std.proofs.Common.{map, get_or, arith}
use Rattle.std.proofs.lemmas.Result.{IfOk-weaker, on_err_weaker}
use Rattle.sd_model.specs.Tree.{AreDistinct}
use Rattle.sd_manager.specs.Views.{pairs_at}
use Rattle.sd_manager.proofs.Extending.{extends_self}
use Rattle.sd_apply.specs.Terminal.{opposite_of}
use Rattle.sd_apply.specs.Places.{width}
use Rattle.sd_apply.specs.Growing.{GrowsByAnswer}
use Rattle.sd_apply.specs.Elements.{AreListedElements, IsPartitionBelow}
use Rattle.sd_apply.specs.Calls.{Joins, NegatesAt, NegatesSubs}
use Rattle.sd_apply.proofs.Trees.{width_positive, right_there}
use Rattle.sd_apply.proofs.Forks.{right_on}
use Rattle.sd_apply.proofs.Listed.{width_on, there_on, below_on, pair_at}
use Rattle.sd_apply.proofs.Growing.{grows_right}
use Rattle.sd_apply.proofs.Growing.{strictly_at, strictly_last, by_last}
use Rattle.sd_apply.proofs.Refused.{at_error}
use Rattle.sd_apply.proofs.Steps.{InFlip, at_on, step_on, at_kept, at_made, right_step, step_over, at_wider}
use Rattle.sd_apply.proofs.Rows.{sub_below, paired_at}
use Rattle.sd_apply.proofs.TerminalLaws.{opposite_negates}
use Rattle.sd_apply.proofs.Standing.{shown}
use Rattle.sd_apply.proofs.Served.{right_negates}
use Rattle.sd_apply.proofs.Opposite.{opposite_right, negates_opposite, operand_node_of, negation_node_of}
use Rattle.sd_apply.proofs.Expanding.{own_listed}
use Rattle.sd_apply.proofs.Negating.{negates_on, negate_subs_none, negate_subs_next, negate_subs_done}
use Rattle.sd_apply.proofs.Negating.{read_below, two_negated, are_negated, negated_joins}
use Rattle.sd_apply.proofs.negation.+negate.Goals as goal

pub find_or_negate-returns-in-Some-clause-ok : goal.find_or_negate-returns-in-Some-clause-ok
find_or_negate-returns-in-Some-clause-ok t c =
    opposite_negates c.args.m.now c.vtree.ensures.table c.args.at c.args.a c.in-Some.code
    (sym (c.in-Some.ensures ∙ ap opposite_of c.a.view_is))

pub find_or_negate-returns-in-Some-look-clause-ok : goal.find_or_negate-returns-in-Some-look-clause-ok
find_or_negate-returns-in-Some-look-clause-ok t c =
    right_negates c.args.m.now c.args.at c.args.a 0 c.a.inside.0 c.in-Some-look.code
    c.vtree.ensures.table c.a.view_is (c.in-Some-look.ensures.right c.args.m.now c.requires.knows)

-- what was found is kept

pub negate_anew-returns-clause-step : goal.negate_anew-returns-clause-step
negate_anew-returns-clause-step t c =
    let m = c.args.m.now in
    let n = c.negate_elements.new.m in
    let x = c.negate_elements.ensures.step.kept in
    let negated = c.in_ok-code.ensures.ok in
    let opposite = negates_opposite m n c.negate_elements.ensures.step.table x c.args.at c.args.a
    c.in_ok-code.code negated c.requires.a in
    at_kept c.negate_elements.ensures.step
    (c.keep.ensures.right n c.negate_elements.ensures.step.knows
    (opposite_right n 0 c.args.a c.in_ok-code.code c.a.inside.0 c.code.inside.0 c.a.view_is
    c.code.view_is (operand_node_of m n x c.args.at c.args.a c.requires.a)
    (negation_node_of m n c.args.at c.args.a c.in_ok-code.code negated c.requires.a) opposite))

-- two elements

pub negate_elements-negate_both-requires : goal.negate_elements-negate_both-requires
negate_elements-negate_both-requires t c =
    let m = c.args.m.now in
    let f = c.place_with_children-fork in
    let i = f.ensures.table in
    let u = f.result.left in
    let w = f.result.right in
    let x = c.requires.a in
    let sx = shown m c.args.at c.args.a x.diagram x.is in
    let list = own_listed m i f.result.node u w c.args.a f.ensures.children x.diagram sx
    (f.ensures.place x.diagram sx) c.requires.code in
    let l = pairs_at m c.args.a in
    let small : 8 * width m.vtree w + 5 < t =
    omega (arith, f.ensures.narrow, width_positive m.vtree u, c.decreases) in (
      small,
      (
        right_there m.vtree i.numbered f.result.node u w f.ensures.children,
        (
          read_below m u w l 0 c.element.result list c.element.ensures.pair,
          (
            read_below m u w l 1 c.element-then-are_two.result list c.element-then-are_two.ensures.pair,
            c.requires.knows,
          ),
        ),
      ),
    )

pub negate_elements-make_apart-requires-clause-pairs : goal.negate_elements-make_apart-requires-clause-pairs
negate_elements-make_apart-requires-clause-pairs t c =
    let m = c.args.m.now in
    let n = c.negate_both.new.m in
    let f = c.place_with_children-fork in
    let u = f.result.left in
    let w = f.result.right in
    let e : ℕ × ℕ = c.element.result in
    let d : ℕ × ℕ = c.element-then-are_two.result in
    let z : ℕ × ℕ = c.in_ok-negated.negated in
    let l : List (ℕ × ℕ) = (e.0, z.0) ∷ (d.0, z.1) ∷ [] in
    let k : NegatesSubs m n w (pairs_at m c.args.a) l = two_negated m n w (pairs_at m c.args.a) e d z.0 z.1
    (c.are_two.ensures c.if-are_two.true) c.element.ensures.pair c.element-then-are_two.ensures.pair
    c.in_ok-negated.ensures.first c.in_ok-negated.ensures.second in
    let x = c.requires.a in
    let sx = shown m c.args.at c.args.a x.diagram x.is in
    let q = are_negated m n f.ensures.table c.negate_both.ensures.step.table c.negate_both.ensures.step.kept
    f.result.node
    u w c.args.a l
    f.ensures.children x.diagram sx (f.ensures.place x.diagram sx) c.requires.code k in
    record { shown = q.shown; is = q.is }

pub negate_elements-make_apart-requires-clause-differ : goal.negate_elements-make_apart-requires-clause-differ
negate_elements-make_apart-requires-clause-differ t c =
    let m = c.args.m.now in
    let n = c.negate_both.new.m in
    let f = c.place_with_children-fork in
    let u = f.result.left in
    let w = f.result.right in
    let e : ℕ × ℕ = c.element.result in
    let d : ℕ × ℕ = c.element-then-are_two.result in
    let z : ℕ × ℕ = c.in_ok-negated.negated in
    let l : List (ℕ × ℕ) = (e.0, z.0) ∷ (d.0, z.1) ∷ [] in
    let k : NegatesSubs m n w (pairs_at m c.args.a) l = two_negated m n w (pairs_at m c.args.a) e d z.0 z.1
    (c.are_two.ensures c.if-are_two.true) c.element.ensures.pair c.element-then-are_two.ensures.pair
    c.in_ok-negated.ensures.first c.in_ok-negated.ensures.second in
    let x = c.requires.a in
    let sx = shown m c.args.at c.args.a x.diagram x.is in
    let q = are_negated m n f.ensures.table c.negate_both.ensures.step.table c.negate_both.ensures.step.kept
    f.result.node
    u w c.args.a l
    f.ensures.children x.diagram sx (f.ensures.place x.diagram sx) c.requires.code k in
    q.differ

pub negate_elements-returns-then-are_two-clause-ok : goal.negate_elements-returns-then-are_two-clause-ok
negate_elements-returns-then-are_two-clause-ok t c =
    let m = c.args.m.now in
    let n = c.negate_both.new.m in
    let f = c.place_with_children-fork in
    let u = f.result.left in
    let w = f.result.right in
    let o = c.make_apart.new.m in
    let e : ℕ × ℕ = c.element.result in
    let d : ℕ × ℕ = c.element-then-are_two.result in
    let z : ℕ × ℕ = c.in_ok-negated.negated in
    let l : List (ℕ × ℕ) = (e.0, z.0) ∷ (d.0, z.1) ∷ [] in
    let k : NegatesSubs m n w (pairs_at m c.args.a) l = two_negated m n w (pairs_at m c.args.a) e d z.0 z.1
    (c.are_two.ensures c.if-are_two.true) c.element.ensures.pair c.element-then-are_two.ensures.pair
    c.in_ok-negated.ensures.first c.in_ok-negated.ensures.second in
    IfOk-weaker c.make_apart.result (λ r. Joins n o u w l r) (λ r. NegatesAt m o c.args.at c.args.a r)
    (λ r h. negated_joins m n o f.ensures.table c.negate_both.ensures.step.table c.negate_both.ensures.step.kept
    c.args.at
    f.result.node u w c.args.a r l f.ensures.children f.ensures.place c.requires.code k h)
    c.make_apart.ensures.ok

pub negate_elements-returns-then-are_two-clause-step : goal.negate_elements-returns-then-are_two-clause-step
negate_elements-returns-then-are_two-clause-step t c =
    let f = c.place_with_children-fork in
    let u = f.result.left in
    let w = f.result.right in
    let made = c.make_apart.ensures in
    at_wider f.ensures.under
    (at_made (step_over f.result.node u w f.ensures.children (right_step u c.negate_both.ensures.step)) made.kept
    made.grown made.table)

pub negate_elements-returns-then-are_two-clause-one : goal.negate_elements-returns-then-are_two-clause-one
negate_elements-returns-then-are_two-clause-one t c =
    let m = c.args.m.now in
    let n = c.negate_both.new.m in
    let f = c.place_with_children-fork in
    let u = f.result.left in
    let w = f.result.right in
    let o = c.make_apart.new.m in
    IfOk-weaker c.make_apart.result (λ r. GrowsByAnswer n o f.result.node r) (λ r. GrowsByAnswer m o c.args.at r)
    (λ r h. by_last m n o c.negate_both.ensures.step.kept c.make_apart.ensures.kept f.ensures.table.numbered
    f.result.node
    u w c.args.at r
    f.ensures.children f.ensures.under (grows_right m n u w c.negate_both.ensures.step.grown) h)
    c.make_apart.ensures.one

pub negate_elements-returns-then-are_two-clause-none : goal.negate_elements-returns-then-are_two-clause-none
negate_elements-returns-then-are_two-clause-none t c =
    let m = c.args.m.now in
    let n = c.negate_both.new.m in
    let f = c.place_with_children-fork in
    let u = f.result.left in
    let w = f.result.right in
    let o = c.make_apart.new.m in
    on_err_weaker c.make_apart.result
    (λ h. strictly_last m n o c.negate_both.ensures.step.kept c.make_apart.ensures.kept f.ensures.table.numbered
    f.result.node u w c.args.at
    f.ensures.children f.ensures.under (grows_right m n u w c.negate_both.ensures.step.grown) h)
    c.make_apart.ensures.none

pub negate_elements-returns-in_err-negated-clause-step :
    goal.negate_elements-returns-in_err-negated-clause-step
negate_elements-returns-in_err-negated-clause-step t c =
    let f = c.place_with_children-fork in
    let u = f.result.left in
    let w = f.result.right in
    at_wider f.ensures.under
    (step_over f.result.node u w f.ensures.children (right_step u c.negate_both.ensures.step))

pub negate_elements-returns-in_err-negated-clause-none : goal.negate_elements-returns-in_err-negated-clause-none
negate_elements-returns-in_err-negated-clause-none t c =
    let m = c.args.m.now in
    let n = c.negate_both.new.m in
    let f = c.place_with_children-fork in
    let u = f.result.left in
    let w = f.result.right in
    at_error c.from_residual.result
    (strictly_at m n c.negate_both.ensures.step.kept f.ensures.table.numbered f.result.node u w c.args.at
    f.ensures.children f.ensures.under (grows_right m n u w c.negate_both.ensures.step.grown))

-- a list of elements

pub negate_elements-negate_subs-requires : goal.negate_elements-negate_subs-requires
negate_elements-negate_subs-requires t c =
    let m = c.args.m.now in
    let f = c.place_with_children-fork in
    let i = f.ensures.table in
    let x = c.requires.a in
    let sx = shown m c.args.at c.args.a x.diagram x.is in
    let list = own_listed m i f.result.node f.result.left f.result.right c.args.a f.ensures.children
    x.diagram sx (f.ensures.place x.diagram sx) c.requires.code in
    let small : 8 * width m.vtree f.result.right + 5 < t =
    omega (arith, f.ensures.narrow, width_positive m.vtree f.result.left, c.decreases) in (
      small,
      (
        f.ensures.children,
        (
          subst (AreListedElements m f.result.left f.result.right) (sym (c.as_slice.ensures
              ∙ c.in_ok-list.ensures.ok)) list,
          (c.requires.knows, i),
        ),
      ),
    )

pub negate_elements-make_apart-requires-2-clause-pairs : goal.negate_elements-make_apart-requires-2-clause-pairs
negate_elements-make_apart-requires-2-clause-pairs t c =
    let m = c.args.m.now in
    let n = c.negate_subs.new.m in
    let f = c.place_with_children-fork in
    let u = f.result.left in
    let w = f.result.right in
    let l = c.in_ok-pairs.pairs.items in
    let k : NegatesSubs m n w (pairs_at m c.args.a) l = subst (λ x. NegatesSubs m n w x l)
    (c.as_slice.ensures ∙ c.in_ok-list.ensures.ok) c.in_ok-pairs.ensures.ok in
    let x = c.requires.a in
    let sx = shown m c.args.at c.args.a x.diagram x.is in
    let q = are_negated m n f.ensures.table c.negate_subs.ensures.step.table c.negate_subs.ensures.step.kept
    f.result.node
    u w c.args.a l
    f.ensures.children x.diagram sx (f.ensures.place x.diagram sx) c.requires.code k in
    let part : IsPartitionBelow n u w l = record { shown = q.shown; is = q.is } in
    subst (IsPartitionBelow n u w) (sym c.as_slice-2.ensures) part

pub negate_elements-make_apart-requires-2-clause-differ : goal.negate_elements-make_apart-requires-2-clause-differ
negate_elements-make_apart-requires-2-clause-differ t c =
    let m = c.args.m.now in
    let n = c.negate_subs.new.m in
    let f = c.place_with_children-fork in
    let u = f.result.left in
    let w = f.result.right in
    let l = c.in_ok-pairs.pairs.items in
    let k : NegatesSubs m n w (pairs_at m c.args.a) l = subst (λ x. NegatesSubs m n w x l)
    (c.as_slice.ensures ∙ c.in_ok-list.ensures.ok) c.in_ok-pairs.ensures.ok in
    let x = c.requires.a in
    let sx = shown m c.args.at c.args.a x.diagram x.is in
    let q = are_negated m n f.ensures.table c.negate_subs.ensures.step.table c.negate_subs.ensures.step.kept
    f.result.node
    u w c.args.a l
    f.ensures.children x.diagram sx (f.ensures.place x.diagram sx) c.requires.code k in
    subst (λ x. AreDistinct (map (λ (e : ℕ × ℕ). e.1) x)) (sym c.as_slice-2.ensures) q.differ

pub negate_elements-returns-clause-ok : goal.negate_elements-returns-clause-ok
negate_elements-returns-clause-ok t c =
    let m = c.args.m.now in
    let n = c.negate_subs.new.m in
    let f = c.place_with_children-fork in
    let u = f.result.left in
    let w = f.result.right in
    let o = c.make_apart-2.new.m in
    let l = c.in_ok-pairs.pairs.items in
    let k : NegatesSubs m n w (pairs_at m c.args.a) l = subst (λ x. NegatesSubs m n w x l)
    (c.as_slice.ensures ∙ c.in_ok-list.ensures.ok) c.in_ok-pairs.ensures.ok in
    let J : ℕ → List (ℕ × ℕ) → Type 0 = λ r x. Joins n o u w x r in
    IfOk-weaker c.make_apart-2.result (λ r. J r c.as_slice-2.result.now) (λ r. NegatesAt m o c.args.at c.args.a r)
    (λ r h. negated_joins m n o f.ensures.table c.negate_subs.ensures.step.table c.negate_subs.ensures.step.kept
    c.args.at
    f.result.node u w c.args.a r l f.ensures.children f.ensures.place c.requires.code k
    (subst (J r) c.as_slice-2.ensures h))
    c.make_apart-2.ensures.ok

pub negate_elements-returns-clause-step : goal.negate_elements-returns-clause-step
negate_elements-returns-clause-step t c =
    let f = c.place_with_children-fork in
    let u = f.result.left in
    let w = f.result.right in
    let made = c.make_apart-2.ensures in
    at_wider f.ensures.under
    (at_made (step_over f.result.node u w f.ensures.children c.negate_subs.ensures.step) made.kept made.grown
    made.table)

pub negate_elements-returns-clause-one : goal.negate_elements-returns-clause-one
negate_elements-returns-clause-one t c =
    let m = c.args.m.now in
    let n = c.negate_subs.new.m in
    let f = c.place_with_children-fork in
    let u = f.result.left in
    let w = f.result.right in
    let o = c.make_apart-2.new.m in
    IfOk-weaker c.make_apart-2.result (λ r. GrowsByAnswer n o f.result.node r) (λ r. GrowsByAnswer m o c.args.at r)
    (λ r h. by_last m n o c.negate_subs.ensures.step.kept c.make_apart-2.ensures.kept f.ensures.table.numbered
    f.result.node u w c.args.at r
    f.ensures.children f.ensures.under c.negate_subs.ensures.step.grown h)
    c.make_apart-2.ensures.one

pub negate_elements-returns-clause-none : goal.negate_elements-returns-clause-none
negate_elements-returns-clause-none t c =
    let m = c.args.m.now in
    let n = c.negate_subs.new.m in
    let f = c.place_with_children-fork in
    let u = f.result.left in
    let w = f.result.right in
    let o = c.make_apart-2.new.m in
    on_err_weaker c.make_apart-2.result
    (λ h. strictly_last m n o c.negate_subs.ensures.step.kept c.make_apart-2.ensures.kept f.ensures.table.numbered
    f.result.node u w c.args.at
    f.ensures.children f.ensures.under c.negate_subs.ensures.step.grown h)
    c.make_apart-2.ensures.none

pub negate_elements-returns-in_err-pairs-clause-step : goal.negate_elements-returns-in_err-pairs-clause-step
negate_elements-returns-in_err-pairs-clause-step t c =
    let f = c.place_with_children-fork in
    let u = f.result.left in
    let w = f.result.right in
    at_wider f.ensures.under (step_over f.result.node u w f.ensures.children c.negate_subs.ensures.step)

pub negate_elements-returns-in_err-pairs-clause-none : goal.negate_elements-returns-in_err-pairs-clause-none
negate_elements-returns-in_err-pairs-clause-none t c =
    let m = c.args.m.now in
    let n = c.negate_subs.new.m in
    let f = c.place_with_children-fork in
    let u = f.result.left in
    let w = f.result.right in
    at_error c.from_residual-in_err-pairs.result
    (strictly_at m n c.negate_subs.ensures.step.kept f.ensures.table.numbered f.result.node u w c.args.at
    f.ensures.children f.ensures.under c.negate_subs.ensures.step.grown)

-- two negations

pub negate_both-find_or_negate-requires-2 : goal.negate_both-find_or_negate-requires-2
negate_both-find_or_negate-requires-2 t c =
    let m = c.args.m.now in
    let n = c.find_or_negate.new.m in
    let k = c.find_or_negate.ensures.step.kept in
    let small : 8 * width n.vtree c.args.at + 4 < t = omega (arith, width_on m n k c.args.at, c.decreases) in (
      small,
      (
        there_on m n k c.args.at c.requires.at,
        (below_on m n k c.args.at c.args.b c.requires.b, c.find_or_negate.ensures.step.knows),
      ),
    )

pub negate_both-returns-clause-first : goal.negate_both-returns-clause-first
negate_both-returns-clause-first t c =
    let m = c.args.m.now in
    let n = c.find_or_negate.new.m in
    negates_on m m n c.find_or_negate-2.new.m (extends_self m) c.find_or_negate-2.ensures.step.kept c.args.at c.args.a
    c.in_ok-first.first c.in_ok-first.ensures.ok

pub negate_both-returns-clause-second : goal.negate_both-returns-clause-second
negate_both-returns-clause-second t c =
    let o = c.find_or_negate-2.new.m in
    negates_on c.args.m.now c.find_or_negate.new.m o o c.find_or_negate.ensures.step.kept (extends_self o) c.args.at
    c.args.b
    c.in_ok-second.second c.in_ok-second.ensures.ok

pub negate_both-returns-in_err-second-clause-step : goal.negate_both-returns-in_err-second-clause-step
negate_both-returns-in_err-second-clause-step t c =
    at_on c.find_or_negate.ensures.step c.find_or_negate-2.ensures.step

pub negate_both-returns-clause-step : goal.negate_both-returns-clause-step
negate_both-returns-clause-step t c =
    at_on c.find_or_negate.ensures.step c.find_or_negate-2.ensures.step

-- the loop over a list

pub negate_subs-loop-i-init : goal.negate_subs-loop-i-init
negate_subs-loop-i-init t c =
    let I : List (ℕ × ℕ) → Type 0 = λ l.
    InFlip c.args.m.now c.args.m.now c.args.recent.now c.args.fork.now.left c.args.fork.now.right c.args.list.now l 0 in
    subst I (sym c.new-pairs.ensures.items)
    (negate_subs_none c.args.m.now c.args.recent.now c.args.fork.now.left c.args.fork.now.right c.args.list.now
    c.requires.table
    c.requires.knows)

pub negate_subs-find_or_negate-requires : goal.negate_subs-find_or_negate-requires
negate_subs-find_or_negate-requires t c =
    let m0 = c.args.m.now in
    let m = c.loop-i.m in
    let x = c.loop-i.invariant.step.kept in
    let l = c.args.list.now in
    let i = c.loop-i.i in
    let f : ℕ × ℕ = (
      (get_or l i c.index-list-i.result).0,
      (get_or l i c.index-list-i-in-loop-i.result).1,
    ) in
    let at = pair_at l i c.index-list-i.result c.index-list-i-in-loop-i.result c.loop-i-test.true in
    let small : 8 * width m.vtree c.args.fork.now.right + 4 < t = omega (
      arith,
      width_on m0 m x
          c.args.fork.now.right,
      c.decreases,
    ) in (
      small,
      (
        right_on m0 m x c.requires.table c.args.fork.now c.requires.children,
        (
          sub_below m0 m x c.args.fork.now.left c.args.fork.now.right f
              (paired_at m0 c.args.fork.now.left c.args.fork.now.right l i f c.requires.list c.loop-i-test.true at),
          c.loop-i.invariant.step.knows,
        ),
      ),
    )

pub negate_subs-loop-i-preserved : goal.negate_subs-loop-i-preserved
negate_subs-loop-i-preserved t c =
    let l = c.args.list.now in
    let i = c.loop-i.i in
    let f : ℕ × ℕ = (
      (get_or l i c.index-list-i.result).0,
      (get_or l i c.index-list-i-in-loop-i.result).1,
    ) in
    let at = pair_at l i c.index-list-i.result c.index-list-i-in-loop-i.result c.loop-i-test.true in
    negate_subs_next c.args.m.now c.loop-i.m c.find_or_negate.new.m c.loop-i.recent c.find_or_negate.new.recent
    c.args.fork.now.left
    c.args.fork.now.right l
    c.loop-i.pairs.items c.push.new.pairs.items i f c.in_ok-other.other c.loop-i.invariant
    (right_step c.args.fork.now.left c.find_or_negate.ensures.step)
    c.loop-i-test.true at c.in_ok-other.ensures.ok c.in_ok-push.ensures.ok

pub negate_subs-returns-clause-ok : goal.negate_subs-returns-clause-ok
negate_subs-returns-clause-ok t c =
    negate_subs_done c.args.m.now c.loop-i.m c.loop-i.recent c.args.fork.now.left c.args.fork.now.right c.args.list.now
    c.loop-i.pairs.items c.loop-i.i
    c.loop-i.invariant c.loop-i-test.false c.loop-i.auto.i-end

pub negate_subs-returns-in_err-other-clause-step : goal.negate_subs-returns-in_err-other-clause-step
negate_subs-returns-in_err-other-clause-step t c =
    step_on c.loop-i.invariant.step (right_step c.args.fork.now.left c.find_or_negate.ensures.step)

pub negate_subs-returns-in_err-push-clause-step : goal.negate_subs-returns-in_err-push-clause-step
negate_subs-returns-in_err-push-clause-step t c =
    step_on c.loop-i.invariant.step (right_step c.args.fork.now.left c.find_or_negate.ensures.step)
