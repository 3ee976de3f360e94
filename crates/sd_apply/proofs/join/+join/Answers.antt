use lib.Signed.{lt_z}
use mir.Val.{SFits, to_z, of_z}
use Rattle.std.proofs.Common.{◌≡◌, ◌∙◌, sym, ap, subst, ◌+◌, ◌*◌, ◌<◌, rules, arith, w32, refl, not, pos}
use Rattle.std.proofs.Common.{unsigned_abs}
use Rattle.sd_model.specs.Assignment.{value_in}
use Rattle.std.proofs.lemmas.Int.{to_z-of_z}
use Rattle.std.proofs.lemmas.Result.{IfOk-weaker}
use Rattle.sd_apply.specs.Places.{width}
use Rattle.sd_apply.specs.Halves.{IsSplit, MakesHalves}
use Rattle.sd_apply.specs.GroupCalls.{JoinsFrom, IsFoundBefore, deciding}
use Rattle.sd_apply.proofs.Listed.{below_on, there_on, width_on}
use Rattle.sd_apply.proofs.Steps.{at_on, at_made, right_step, step_over, at_wider}
use Rattle.sd_apply.proofs.JoiningPlaces.{literals_on, right_narrower}
use Rattle.sd_apply.proofs.JoiningSteps.{remembers_on}
use Rattle.sd_apply.proofs.JoiningSteps.{joins_decided, joins_over, joins_found, found_joined}
use Rattle.sd_apply.proofs.JoiningSteps.{first_half, second_half, first_joined, second_joined, joins_made, joins_same}
use Rattle.sd_apply.proofs.JoiningSteps.{joins_both, joins_first, joins_second}
use Rattle.sd_apply.proofs.JoiningSteps.{literal_sign, not_first, same_sign, other_sign}
use Rattle.sd_apply.proofs.join.+join.Goals as goal

-- ---- from halves

pub join_at-returns-in_default-clause-remembers : goal.join_at-returns-in_default-clause-remembers
join_at-returns-in_default-clause-remembers t c =
    remembers_on c.args.tables.now.found c.args.m.now c.join_by_node.new.m c.join_by_node.ensures.step.kept
    c.args.operation
    c.args.literals.now c.requires.remembers

pub join_at-join_halves-requires : goal.join_at-join_halves-requires
join_at-join_halves-requires t c =
    let m = c.args.m.now in
    let i = c.requires.table in
    let f = c.in-Some.found.0 in
    let h = c.in-Some.found.1 in
    let halves = c.in-Some.ensures.halves in
    let small : 4 * width m.vtree f.right + 4 < t =
    omega (
      arith,
      right_narrower m.vtree i.numbered c.args.at f.left f.right c.in-Some.ensures.split.children,
      c.decreases,
    ) in (
      small,
      (
        c.requires.operation,
        (
          c.in-Some.ensures.right,
          (
            first_half m c.args.at f.right f.variable c.args.node h halves c.requires.node,
            (
              second_half m c.args.at f.right f.variable c.args.node h halves c.requires.node,
              (
                c.requires.some,
                (
                  c.requires.knows,
                  (
                    c.requires.remembers,
                    i,
                  ),
                ),
              ),
            ),
          ),
        ),
      ),
    )

pub join_at-returns-in_err-joined-clause-step : goal.join_at-returns-in_err-joined-clause-step
join_at-returns-in_err-joined-clause-step t c =
    let f = c.in-Some.found.0 in
    step_over c.args.at f.left f.right c.in-Some.ensures.split.children (right_step f.left c.join_halves.ensures.step)

pub join_at-returns-then-is_same-2-clause-ok :
    goal.join_at-returns-then-is_same-2-clause-ok
join_at-returns-then-is_same-2-clause-ok t c =
    let f = c.in-Some.found.0 in
    joins_same c.args.m.now c.join_halves.new.m c.join_halves.ensures.step.table c.join_halves.ensures.step.kept
    c.args.operation
    c.args.at f.right f.variable c.args.node c.args.from c.args.literals.now c.in-Some.found.1 c.in_ok-joined.joined
    c.in-Some.ensures.halves c.in_ok-joined.ensures.ok (c.is_same.ensures c.if-is_same.true)
    (c.is_same-then-is_same.ensures c.if-is_same-2.true)

pub join_at-returns-then-is_same-2-clause-step : goal.join_at-returns-then-is_same-2-clause-step
join_at-returns-then-is_same-2-clause-step t c =
    let f = c.in-Some.found.0 in
    step_over c.args.at f.left f.right c.in-Some.ensures.split.children (right_step f.left c.join_halves.ensures.step)

pub join_at-make_halves-requires-clause-split : goal.join_at-make_halves-requires-clause-split
join_at-make_halves-requires-clause-split t c =
    subst (λ v. IsSplit v c.args.at c.in-Some.found.0) (sym c.join_halves.ensures.step.kept.vtree)
    c.in-Some.ensures.split

pub join_at-make_halves-requires-clause-first : goal.join_at-make_halves-requires-clause-first
join_at-make_halves-requires-clause-first t c =
    let f = c.in-Some.found.0 in
    first_joined c.args.m.now c.join_halves.new.m c.args.operation c.args.at f.right f.variable c.args.node c.args.from
    c.args.literals.now c.in-Some.found.1 c.in_ok-joined.joined c.in-Some.ensures.halves c.requires.node
    c.in_ok-joined.ensures.ok

pub join_at-make_halves-requires-clause-second : goal.join_at-make_halves-requires-clause-second
join_at-make_halves-requires-clause-second t c =
    let f = c.in-Some.found.0 in
    second_joined c.args.m.now c.join_halves.new.m c.args.operation c.args.at f.right f.variable c.args.node c.args.from
    c.args.literals.now c.in-Some.found.1 c.in_ok-joined.joined c.in-Some.ensures.halves c.requires.node
    c.in_ok-joined.ensures.ok

pub join_at-returns-clause-ok : goal.join_at-returns-clause-ok
join_at-returns-clause-ok t c =
    let m = c.args.m.now in
    let n = c.join_halves.new.m in
    let k = c.make_halves.new.m in
    let f = c.in-Some.found.0 in
    let r = c.in_ok-joined.joined in
    IfOk-weaker c.make_halves.result (λ d. MakesHalves n k f.right f.variable r.0 r.1 d)
    (λ d. JoinsFrom m k c.args.operation c.args.at c.args.node c.args.from c.args.literals.now d)
    (λ d h. joins_made m n k c.args.operation c.args.at f.right f.variable c.args.node c.args.from d c.args.literals.now
    c.in-Some.found.1 r c.in-Some.ensures.halves c.in_ok-joined.ensures.ok h)
    c.make_halves.ensures.ok

pub join_at-returns-clause-step : goal.join_at-returns-clause-step
join_at-returns-clause-step t c =
    let f = c.in-Some.found.0 in
    let made = c.make_halves.ensures in
    at_made
    (step_over c.args.at f.left f.right c.in-Some.ensures.split.children (right_step f.left c.join_halves.ensures.step))
    made.kept made.grown made.table

pub join_at-returns-clause-remembers : goal.join_at-returns-clause-remembers
join_at-returns-clause-remembers t c =
    remembers_on c.join_halves.new.tables.found c.join_halves.new.m c.make_halves.new.m c.make_halves.ensures.kept
    c.args.operation c.args.literals.now c.join_halves.ensures.remembers

-- ---- at a node

pub join_from-returns-then-node-decided-clause-ok :
    goal.join_from-returns-then-node-decided-clause-ok
join_from-returns-then-node-decided-clause-ok t c =
    joins_decided c.args.m.now c.constant-decided.ensures.table c.args.operation c.requires.operation c.args.at
    c.args.node c.args.from c.constant-decided.result c.args.literals.now c.deciding_value.result
    c.deciding_value.ensures c.constant-decided.ensures.code
    (sym c.node.view_is ∙ c.if-node-decided.true ∙ c.decided.view_is)

pub join_from-returns-in-Some-clause-ok : goal.join_from-returns-in-Some-clause-ok
join_from-returns-in-Some-clause-ok t c =
    let m = c.args.m.now in
    let o = c.args.operation in
    let l = c.args.literals.now in
    joins_found m c.constant-decided.ensures.table o c.args.at c.args.node c.args.from (c.args.from + 1)
    c.in-Some.code l refl
    (subst (λ n. IsFoundBefore m o l n (c.args.from + 1) c.in-Some.code) c.node-2.view_is
    (c.in-Some.ensures.right m o l c.requires.remembers))

pub join_below-returns-in_err-code-clause-step : goal.join_below-returns-in_err-code-clause-step
join_below-returns-in_err-code-clause-step t c =
    at_wider c.lower_right-lower.ensures.under c.join_at.ensures.step

pub join_below-returns-then-not-shared-clause-ok : goal.join_below-returns-then-not-shared-clause-ok
join_below-returns-then-not-shared-clause-ok t c =
    joins_over c.args.m.now c.join_at.new.m c.requires.table c.args.operation c.args.at c.lower_right-lower.result
    c.args.node c.args.from c.in_ok-code.code c.args.literals.now c.lower_right-lower.ensures.node
    c.in_ok-code.ensures.ok

pub join_below-returns-then-not-shared-clause-step : goal.join_below-returns-then-not-shared-clause-step
join_below-returns-then-not-shared-clause-step t c =
    at_wider c.lower_right-lower.ensures.under c.join_at.ensures.step

pub join_below-returns-clause-ok : goal.join_below-returns-clause-ok
join_below-returns-clause-ok t c =
    joins_over c.args.m.now c.join_at.new.m c.requires.table c.args.operation c.args.at c.lower_right-lower.result
    c.args.node c.args.from c.in_ok-code.code c.args.literals.now c.lower_right-lower.ensures.node
    c.in_ok-code.ensures.ok

pub join_below-returns-clause-step : goal.join_below-returns-clause-step
join_below-returns-clause-step t c =
    at_wider c.lower_right-lower.ensures.under c.join_at.ensures.step

pub join_below-returns-clause-remembers : goal.join_below-returns-clause-remembers
join_below-returns-clause-remembers t c =
    let m = c.args.m.now in
    let n = c.join_at.new.m in
    let o = c.args.operation in
    let l = c.args.literals.now in
    let found = found_joined m n c.join_at.ensures.step.kept o c.lower_right-lower.result c.args.node c.args.from
    (c.args.from + 1) c.in_ok-code.code l refl c.lower_right-lower.ensures.node c.in_ok-code.ensures.ok in
    c.keep.ensures.right n o l c.join_at.ensures.remembers
    (subst (λ k. IsFoundBefore n o l k (c.args.from + 1) c.code.inside.0) (sym c.node.view_is)
    (subst (λ k. IsFoundBefore n o l c.args.node (c.args.from + 1) k) (sym c.code.view_is) found))

-- ---- the halves

pub join_halves-join_from-requires : goal.join_halves-join_from-requires
join_halves-join_from-requires t c =
    let e = c.literal_at-literal.result in
    let fits : SFits w32 e.1 = search rules in
    let below = c.requires.right.past e c.literal_at-literal.ensures (λ q. c.if-unsigned_abs-split.true
    (c.unsigned_abs.ensures.value ∙ ap unsigned_abs (to_z-of_z w32 e.1 fits) ∙ q)) in
    let small : 4 * width c.args.m.now.vtree c.args.split.now.right + 3 < t = omega (arith, c.decreases) in (
      small,
      (
        c.requires.operation,
        (c.requires.right.there, (c.requires.first, (below, (c.requires.knows, c.requires.remembers)))),
      ),
    )

pub join_halves-join_from-requires-then-unsigned_abs-split :
    goal.join_halves-join_from-requires-then-unsigned_abs-split
join_halves-join_from-requires-then-unsigned_abs-split t c =
    let m = c.args.m.now in
    let n = c.join_from.new.m in
    let x = c.join_from.ensures.step.kept in
    let e = c.literal_at-literal.result in
    let fits : SFits w32 e.1 = search rules in
    let below = c.requires.right.past e c.literal_at-literal.ensures (λ q. c.if-unsigned_abs-split.true
    (c.unsigned_abs.ensures.value ∙ ap unsigned_abs (to_z-of_z w32 e.1 fits) ∙ q)) in
    let small : 4 * width n.vtree c.args.split.now.right + 3 < t =
    omega (arith, width_on m n x c.args.split.now.right, c.decreases) in (
      small,
      (
        c.requires.operation,
        (
          there_on m n x c.args.split.now.right c.requires.right.there,
          (
            below_on m n x c.args.split.now.right c.args.halves.now.1 c.requires.second,
            (
              literals_on m n x c.args.split.now.right c.args.from c.args.literals.now below,
              (
                c.join_from.ensures.step.knows,
                c.join_from.ensures.remembers,
              ),
            ),
          ),
        ),
      ),
    )

pub join_halves-returns-in_err-second-clause-step : goal.join_halves-returns-in_err-second-clause-step
join_halves-returns-in_err-second-clause-step t c =
    at_on c.join_from.ensures.step c.join_from-then-unsigned_abs-split.ensures.step

pub join_halves-returns-then-unsigned_abs-split-clause-ok :
    goal.join_halves-returns-then-unsigned_abs-split-clause-ok
join_halves-returns-then-unsigned_abs-split-clause-ok t c =
    let m = c.args.m.now in
    let n = c.join_from.new.m in
    let k = c.join_from-then-unsigned_abs-split.new.m in
    let e = c.literal_at-literal.result in
    let fits : SFits w32 e.1 = search rules in
    let below = c.requires.right.past e c.literal_at-literal.ensures (λ q. c.if-unsigned_abs-split.true
    (c.unsigned_abs.ensures.value ∙ ap unsigned_abs (to_z-of_z w32 e.1 fits) ∙ q)) in
    joins_both m n k c.join_from.ensures.step.kept c.join_from-then-unsigned_abs-split.ensures.step.kept
    c.args.operation
    c.args.split.now.right c.args.split.now.variable c.args.halves.now.0 c.args.halves.now.1 c.args.from
    c.in_ok-first.first c.in_ok-second.second
    c.args.literals.now below c.in_ok-first.ensures.ok c.in_ok-second.ensures.ok

pub join_halves-returns-then-unsigned_abs-split-clause-step :
    goal.join_halves-returns-then-unsigned_abs-split-clause-step
join_halves-returns-then-unsigned_abs-split-clause-step t c =
    at_on c.join_from.ensures.step c.join_from-then-unsigned_abs-split.ensures.step

pub join_halves-join_from-requires-then-literal-deciding_value :
    goal.join_halves-join_from-requires-then-literal-deciding_value
join_halves-join_from-requires-then-literal-deciding_value t c =
    let small : 4 * width c.args.m.now.vtree c.args.split.now.right + 3 < t = omega (arith, c.decreases) in (
      small,
      (
        c.requires.operation,
        (
          c.requires.right.there,
          (c.requires.first, (c.requires.right.rest, (c.requires.knows, c.requires.remembers))),
        ),
      ),
    )

pub join_halves-join_from-requires-else-literal-deciding_value :
    goal.join_halves-join_from-requires-else-literal-deciding_value
join_halves-join_from-requires-else-literal-deciding_value t c =
    let small : 4 * width c.args.m.now.vtree c.args.split.now.right + 3 < t = omega (arith, c.decreases) in (
      small,
      (
        c.requires.operation,
        (
          c.requires.right.there,
          (c.requires.second, (c.requires.right.rest, (c.requires.knows, c.requires.remembers))),
        ),
      ),
    )

pub join_halves-returns-in_ok-first-2-clause-ok : goal.join_halves-returns-in_ok-first-2-clause-ok
join_halves-returns-in_ok-first-2-clause-ok t c =
    let m = c.args.m.now in
    let a = c.join_from-then-literal-deciding_value in
    let e = c.literal_at-literal.result in
    let fits : SFits w32 e.1 = search rules in
    let read = to_z-of_z w32 e.1 fits in
    let same : unsigned_abs e.1 ≡ c.args.split.now.variable =
    sym (c.unsigned_abs.ensures.value ∙ ap unsigned_abs read) ∙ c.if-unsigned_abs-split.false in
    let sign : lt_z (pos 0) e.1 ≡ deciding c.args.operation =
    sym (ap (lt_z (pos 0)) read) ∙ same_sign (lt_z (pos 0) (to_z w32 (of_z w32 e.1))) c.deciding_value.result
    c.if-literal-deciding_value.true ∙ c.deciding_value.ensures in
    joins_first m a.new.m a.ensures.step.kept c.args.operation c.requires.operation c.args.split.now.right
    c.args.split.now.variable c.args.halves.now.0
    c.args.halves.now.1 c.args.from c.in_ok-first-2.first c.args.literals.now e c.literal_at-literal.ensures
    (literal_sign c.args.split.now.variable e.1 (deciding c.args.operation) c.requires.right.variable same sign)
    c.requires.right.rest
    c.in_ok-first-2.ensures.ok

pub join_halves-returns-in_ok-second-2-clause-ok : goal.join_halves-returns-in_ok-second-2-clause-ok
join_halves-returns-in_ok-second-2-clause-ok t c =
    let m = c.args.m.now in
    let a = c.join_from-else-literal-deciding_value in
    let e = c.literal_at-literal.result in
    let fits : SFits w32 e.1 = search rules in
    let read = to_z-of_z w32 e.1 fits in
    let same : unsigned_abs e.1 ≡ c.args.split.now.variable =
    sym (c.unsigned_abs.ensures.value ∙ ap unsigned_abs read) ∙ c.if-unsigned_abs-split.false in
    let sign : lt_z (pos 0) e.1 ≡ not (deciding c.args.operation) =
    sym (ap (lt_z (pos 0)) read) ∙ other_sign (lt_z (pos 0) (to_z w32 (of_z w32 e.1))) c.deciding_value.result
    c.if-literal-deciding_value.false ∙ ap not c.deciding_value.ensures in
    joins_second m a.new.m a.ensures.step.kept c.args.operation c.requires.operation c.args.split.now.right
    c.args.split.now.variable
    c.args.halves.now.0 c.args.halves.now.1 c.args.from c.in_ok-second-2.second c.args.literals.now e
    c.literal_at-literal.ensures
    (λ g. literal_sign c.args.split.now.variable e.1 (not (deciding c.args.operation)) c.requires.right.variable same
    sign g
    ∙ not_first (deciding c.args.operation) (value_in g c.args.split.now.variable)) c.requires.right.rest
    c.in_ok-second-2.ensures.ok
