use Rattle.std.proofs.Common.{◌≡◌, ◌∙◌, sym, ap, subst, refl, ℕ, ◌+◌, ◌*◌, ◌<◌, false, not, List, [], ◌∷◌}
use Rattle.std.proofs.Common.{get_or, arith, rules}
use Rattle.std.proofs.lemmas.Option.{same_Some}
use Rattle.std.proofs.lemmas.Result.{IfOk-weaker}
use Rattle.sd_model.specs.Diagram.{Diagram}
use Rattle.sd_vtree.specs.Numbered.{IsUnder}
use Rattle.sd_manager.specs.Shown.{IsPartitionAt, ShowsCanonical}
use Rattle.sd_apply.specs.Answers.{Compresses}
use Rattle.sd_apply.specs.Halves.{MakesHalves}
use Rattle.sd_apply.specs.Places.{width}
use Rattle.sd_apply.specs.Elements.{AreListedElements, HasList}
use Rattle.sd_apply.proofs.Trees.{width_positive, left_there, right_there}
use Rattle.sd_apply.proofs.Listed.{width_on, there_on, below_on, children_on, pair_at}
use Rattle.sd_apply.proofs.JoiningSteps.{first_half, second_half}
use Rattle.sd_apply.proofs.Served.{serves_on}
use Rattle.sd_manager.proofs.Extending.{extends_self}
use Rattle.sd_apply.proofs.Rows.{prime_below, sub_below, paired_at}
use Rattle.sd_apply.proofs.Expanding.{own_listed}
use Rattle.sd_cond.specs.Calls.{conditioned, AnswersOf, FixesPairs}
use Rattle.sd_cond.proofs.Steps.{step_on, step_wider, left_next, right_step, right_next}
use Rattle.sd_cond.proofs.ByHalves.{below_place, half_of, half_given, half_below, apart_leaf, made_given}
use Rattle.sd_cond.proofs.Answering.{below_each}
use Rattle.sd_cond.proofs.Answering.{answer_kept, answer_found, answers_on, below_node}
use Rattle.sd_cond.proofs.Answering.{other_side, place_each, outside_own, tells_on, leaf_on}
use Rattle.sd_cond.proofs.Elements.{pairs_skip, pairs_push, pairs_done, prime_possible, fixed_list}
use Rattle.sd_cond.proofs.Elements.{listed_partition, compressed_answers, same_answers}
use Rattle.sd_cond.proofs.conditioning.+given.Goals as goal
use Rattle.sd_cond.proofs.conditioning.+given.Goals.{given_primes-then-not-is_false+in_ok-push}
use Rattle.sd_cond.proofs.conditioning.+given.Goals.{given_primes-else-not-is_false}

-- an answer that is kept
pub given_at-returns-in-Some-look-clause-ok : goal.given_at-returns-in-Some-look-clause-ok
given_at-returns-in-Some-look-clause-ok t c =
    let f = conditioned c.args.condition.now.variable c.args.condition.now.positive in
    answer_kept c.args.m.now c.vtree.ensures.table f c.args.a c.in-Some-look.code
    (c.in-Some-look.ensures c.args.m.now f c.requires.knows)

-- a node below whose vtree node the leaf does not stand
pub given_at-returns-then-not-is_over-clause-ok : goal.given_at-returns-then-not-is_over-clause-ok
given_at-returns-then-not-is_over-clause-ok t c =
    let p = c.place_with_children-fork in
    outside_own c.args.m.now c.vtree.ensures.table p.result.node c.args.condition.now.leaf c.args.condition.now.variable
    c.args.condition.now.positive c.args.a p.ensures.there c.requires.leaf
    (c.is_over.ensures.tells.apart c.if-not-is_over.true)
    (place_each c.args.m.now c.vtree.ensures.table p.result.node c.args.a p.ensures.there p.ensures.place)

-- what the call below left, at the wider vtree node
pub given_at-returns-in_err-code-clause-step : goal.given_at-returns-in_err-code-clause-step
given_at-returns-in_err-code-clause-step t c =
    step_wider c.vtree.ensures.table c.place_with_children-fork.ensures.under c.given_here.ensures.step

pub given_at-returns-in_default-keep-clause-step : goal.given_at-returns-in_default-keep-clause-step
given_at-returns-in_default-keep-clause-step t c =
    step_wider c.vtree.ensures.table c.place_with_children-fork.ensures.under c.given_here.ensures.step

pub given_at-returns-clause-step : goal.given_at-returns-clause-step
given_at-returns-clause-step t c =
    step_wider c.vtree.ensures.table c.place_with_children-fork.ensures.under c.given_here.ensures.step

-- what is kept then
pub given_at-returns-in_default-keep-clause-knows :
    goal.given_at-returns-in_default-keep-clause-knows
given_at-returns-in_default-keep-clause-knows t c =
    let m = c.args.m.now in
    let n = c.given_here.new.m in
    let f = conditioned c.args.condition.now.variable c.args.condition.now.positive in
    c.keep.ensures n f c.given_here.ensures.knows
    (answer_found m n c.given_here.ensures.step.kept f c.args.a c.in_ok-code.code
    (below_node m c.args.at c.args.a c.requires.a) c.in_ok-code.ensures.ok)

pub given_at-returns-clause-knows : goal.given_at-returns-clause-knows
given_at-returns-clause-knows t c =
    let m = c.args.m.now in
    let n = c.given_here.new.m in
    let f = conditioned c.args.condition.now.variable c.args.condition.now.positive in
    c.keep.ensures n f c.given_here.ensures.knows
    (answer_found m n c.given_here.ensures.step.kept f c.args.a c.in_ok-code.code
    (below_node m c.args.at c.args.a c.requires.a) c.in_ok-code.ensures.ok)

-- ---- by halves

pub given_here-own_halves-requires-clause-node : goal.given_here-own_halves-requires-clause-node
given_here-own_halves-requires-clause-node t c =
    let f = c.args.fork.now in
    below_place c.args.m.now c.requires.table f.node f.left f.right c.args.a c.requires.children c.requires.node
    c.requires.place

pub given_here-given_halves-requires : goal.given_here-given_halves-requires
given_here-given_halves-requires t c =
    let m = c.args.m.now in
    let f = c.args.fork.now in
    let s = c.in-Some.split in
    let is = c.in-Some.ensures in
    let same : ◌≡◌ {A = ℕ × ℕ} (f.left, f.right) (s.left, s.right) =
    same_Some {A = ℕ × ℕ} (f.left, f.right) (s.left, s.right) (c.requires.children ∙ sym is.children) in
    let one : width m.vtree f.left + width m.vtree f.right ≡ width m.vtree s.left + width m.vtree s.right =
    ap (λ (e : ℕ × ℕ). width m.vtree e.0 + width m.vtree e.1) same in
    let small : 5 * (width m.vtree s.left + width m.vtree s.right) + 2 < t = omega (arith, one, c.decreases) in (
      small,
      (
        c.requires.variable,
        (
          c.requires.leaf,
          (
            c.requires.over,
            (
              record {
                split = is;
                below = below_place m c.requires.table f.node f.left f.right c.args.a c.requires.children c.requires.node
                    c.requires.place;
                halves = c.in-Some-own_halves.ensures;
              },
              (c.requires.knows, (c.requires.serves, c.requires.table)),
            ),
          ),
        ),
      ),
    )

pub given_halves-returns-then-condition-clause-ok : goal.given_halves-returns-then-condition-clause-ok
given_halves-returns-then-condition-clause-ok t c =
    let m = c.args.m.now in
    let i = c.requires.table in
    let k = c.args.condition.now in
    let h = c.args.halved.now in
    let r = c.requires.halved in
    subst (λ n. AnswersOf m m (conditioned k.variable k.positive) c.args.a n)
    (ap (λ b. half_of b h.halves) c.if-condition.true)
    (half_given m i h.node h.split.left h.split.right k.leaf k.variable h.split.variable k.positive c.args.a h.halves
    c.requires.variable r.split c.requires.leaf (c.is_left.ensures.left.over c.if-is_left.true)
    (c.is_left.ensures.right.apart (ap not c.if-is_left.true)) r.halves
    (below_each m i h.node c.args.a r.below))

pub given_halves-returns-then-is_left-clause-ok : goal.given_halves-returns-then-is_left-clause-ok
given_halves-returns-then-is_left-clause-ok t c =
    let m = c.args.m.now in
    let i = c.requires.table in
    let k = c.args.condition.now in
    let h = c.args.halved.now in
    let r = c.requires.halved in
    subst (λ n. AnswersOf m m (conditioned k.variable k.positive) c.args.a n)
    (ap (λ b. half_of b h.halves) c.if-condition.false)
    (half_given m i h.node h.split.left h.split.right k.leaf k.variable h.split.variable k.positive c.args.a h.halves
    c.requires.variable r.split c.requires.leaf (c.is_left.ensures.left.over c.if-is_left.true)
    (c.is_left.ensures.right.apart (ap not c.if-is_left.true)) r.halves
    (below_each m i h.node c.args.a r.below))

pub given_halves-given_at-requires-2 : goal.given_halves-given_at-requires-2
given_halves-given_at-requires-2 t c =
    let m = c.args.m.now in
    let n = c.given_at.new.m in
    let x = c.given_at.ensures.step.kept in
    let h = c.args.halved.now in
    let r = c.requires.halved in
    let w = h.split.right in
    let small : 5 * width n.vtree w + 4 < t =
    omega (arith, width_on m n x w, width_positive m.vtree h.split.left, c.decreases) in (
      small,
      (
        c.requires.variable,
        (
          leaf_on m n x c.args.condition.now.leaf c.args.condition.now.variable c.requires.leaf,
          (
            subst (λ v. IsUnder v c.args.condition.now.leaf w) (sym x.vtree)
                (c.is_left.ensures.right.over (ap not c.if-is_left.false)),
            (
              below_on m n x w h.halves.1
                  (second_half m h.node w h.split.variable c.args.a h.halves r.halves r.below),
              (c.given_at.ensures.knows, c.given_at.ensures.step.serves),
            ),
          ),
        ),
      ),
    )

pub given_halves-returns-in_err-first-clause-step : goal.given_halves-returns-in_err-first-clause-step
given_halves-returns-in_err-first-clause-step t c =
    let h = c.args.halved.now in
    right_step h.node h.split.left h.split.right c.requires.halved.split.children c.given_at.ensures.step

pub given_halves-returns-in_err-second-clause-step : goal.given_halves-returns-in_err-second-clause-step
given_halves-returns-in_err-second-clause-step t c =
    let h = c.args.halved.now in
    let children = c.requires.halved.split.children in
    right_next h.node h.split.left h.split.right children
    (right_step h.node h.split.left h.split.right children c.given_at.ensures.step) c.given_at-2.ensures.step

pub given_halves-make_halves-requires-clause-first : goal.given_halves-make_halves-requires-clause-first
given_halves-make_halves-requires-clause-first t c =
    let m = c.args.m.now in
    let k = c.args.condition.now in
    let h = c.args.halved.now in
    let r = c.requires.halved in
    half_below m c.given_at.new.m c.given_at-2.new.m c.requires.table c.given_at.ensures.step.kept
    c.given_at-2.ensures.step.kept h.split.right k.variable k.positive h.halves.0 c.in_ok-first.first c.requires.variable
    (first_half m h.node h.split.right h.split.variable c.args.a h.halves r.halves r.below) c.in_ok-first.ensures.ok

pub given_halves-make_halves-requires-clause-second : goal.given_halves-make_halves-requires-clause-second
given_halves-make_halves-requires-clause-second t c =
    let m = c.args.m.now in
    let n = c.given_at.new.m in
    let o = c.given_at-2.new.m in
    let k = c.args.condition.now in
    let h = c.args.halved.now in
    let r = c.requires.halved in
    half_below n o o c.given_at.ensures.step.table c.given_at-2.ensures.step.kept (extends_self o)
    h.split.right k.variable k.positive h.halves.1 c.in_ok-second.second c.requires.variable
    (below_on m n c.given_at.ensures.step.kept h.split.right h.halves.1
    (second_half m h.node h.split.right h.split.variable c.args.a h.halves r.halves r.below)) c.in_ok-second.ensures.ok

pub given_halves-returns-clause-ok : goal.given_halves-returns-clause-ok
given_halves-returns-clause-ok t c =
    let m = c.args.m.now in
    let i = c.requires.table in
    let n = c.given_at.new.m in
    let o = c.given_at-2.new.m in
    let q = c.make_halves.new.m in
    let k = c.args.condition.now in
    let h = c.args.halved.now in
    let r = c.requires.halved in
    let f = r.split in
    let differ = apart_leaf m.vtree i.numbered k.leaf h.split.left k.variable h.split.variable
    (left_there m.vtree i.numbered h.node h.split.left h.split.right f.children) f.leaf c.requires.leaf
    (c.is_left.ensures.left.apart c.if-is_left.false) in
    IfOk-weaker c.make_halves.result
    (λ z. MakesHalves o q h.split.right h.split.variable c.in_ok-first.first c.in_ok-second.second z)
    (λ z. AnswersOf m q (conditioned k.variable k.positive) c.args.a z)
    (λ z made. made_given m n o q c.given_at.ensures.step.kept c.given_at-2.ensures.step.kept h.node h.split.right
    k.variable h.split.variable k.positive c.args.a c.in_ok-first.first c.in_ok-second.second z h.halves c.requires.variable differ
    r.halves (below_each m i h.node c.args.a r.below) c.in_ok-first.ensures.ok c.in_ok-second.ensures.ok made)
    c.make_halves.ensures.ok

pub given_halves-returns-clause-step : goal.given_halves-returns-clause-step
given_halves-returns-clause-step t c =
    let h = c.args.halved.now in
    let children = c.requires.halved.split.children in
    let made = c.make_halves.ensures in
    step_on (right_next h.node h.split.left h.split.right children
    (right_step h.node h.split.left h.split.right children c.given_at.ensures.step) c.given_at-2.ensures.step)
    (record {
      kept = made.kept;
      grown = made.grown;
      serves = serves_on c.given_at-2.new.c c.given_at-2.new.m c.make_halves.new.m made.kept
          c.given_at-2.ensures.step.serves;
      table = made.table;
    })

pub given_halves-returns-clause-knows : goal.given_halves-returns-clause-knows
given_halves-returns-clause-knows t c =
    answers_on c.given_at-2.new.m c.make_halves.new.m c.make_halves.ensures.kept
    (conditioned c.args.condition.now.variable c.args.condition.now.positive) c.given_at-2.new.kept
    c.given_at-2.ensures.knows

-- the elements of a decomposition
pub given_elements-given_pairs-requires : goal.given_elements-given_pairs-requires
given_elements-given_pairs-requires t c =
    let m = c.args.m.now in
    let i = c.requires.table in
    let u = c.args.fork.now.left in
    let w = c.args.fork.now.right in
    let x = c.requires.node in
    let list = own_listed m i c.args.fork.now.node u w c.args.a c.requires.children x.diagram x.is
    (c.requires.place x.diagram x.is) c.requires.code in
    let small : 5 * (width m.vtree u + width m.vtree w) + 1 < t = omega (arith, c.decreases) in (
      small,
      (
        c.requires.variable,
        (
          c.requires.leaf,
          (
            c.requires.children,
            (
              c.requires.over,
              (
                subst (AreListedElements m u w) (sym (c.as_slice-elements.ensures ∙ c.in_ok-list.ensures.ok)) list,
                (c.requires.knows, (c.requires.serves, c.requires.table)),
              ),
            ),
          ),
        ),
      ),
    )

pub given_elements-compress-requires-clause-partition : goal.given_elements-compress-requires-clause-partition
given_elements-compress-requires-clause-partition t c =
    let m = c.args.m.now in
    let n = c.given_pairs.new.m in
    let p = c.args.fork.now.node in
    let u = c.args.fork.now.left in
    let w = c.args.fork.now.right in
    let x = c.requires.node in
    let F : List (ℕ × ℕ) → Type 0 = λ l. FixesPairs m n c.args.condition.now.variable c.args.condition.now.positive u w l
    c.in_ok-pairs.pairs.items in
    let fixes = subst F (c.as_slice-elements.ensures ∙ c.in_ok-list.ensures.ok) c.in_ok-pairs.ensures.ok in
    let h = fixed_list m n c.requires.table c.args.condition.now.variable c.args.condition.now.positive p u w c.args.a
    c.in_ok-pairs.pairs.items c.requires.children c.requires.place c.requires.code fixes x.diagram
    x.is in
    let P : List (ℕ × ℕ) → Type 0 = λ l. IsPartitionAt n p l h.shown in (
      h.shown,
      subst P (sym c.as_slice-fixed.ensures)
          (listed_partition n c.given_pairs.ensures.step.table p u w
          (children_on m n c.given_pairs.ensures.step.kept p u w c.requires.children)
          c.in_ok-pairs.pairs.items
          (conditioned c.args.condition.now.variable c.args.condition.now.positive x.diagram) h),
    )

pub given_elements-returns-then-are_same-clause-ok : goal.given_elements-returns-then-are_same-clause-ok
given_elements-returns-then-are_same-clause-ok t c =
    let m = c.args.m.now in
    let n = c.given_pairs.new.m in
    let f = conditioned c.args.condition.now.variable c.args.condition.now.positive in
    let p = c.args.fork.now.node in
    let u = c.args.fork.now.left in
    let w = c.args.fork.now.right in
    let pairs = c.in_ok-pairs.pairs.items in
    let F : List (ℕ × ℕ) → Type 0 = λ l. FixesPairs m n c.args.condition.now.variable c.args.condition.now.positive u w l pairs in
    let own = c.as_slice-elements.ensures ∙ c.in_ok-list.ensures.ok in
    let fixes = subst F own c.in_ok-pairs.ensures.ok in
    let list : (d : Diagram) → ShowsCanonical m c.args.a d → HasList n u w pairs (λ g. f d g ∷ []) = λ d sd.
    fixed_list m n c.requires.table c.args.condition.now.variable c.args.condition.now.positive p u w c.args.a pairs
    c.requires.children c.requires.place c.requires.code fixes d sd in
    same_answers m n c.requires.table c.given_pairs.ensures.step.table c.given_pairs.ensures.step.kept f p u w
    c.args.a pairs c.requires.children c.requires.place c.requires.code list
    (sym c.as_slice-fixed.ensures ∙ c.are_same.ensures c.if-are_same.true ∙ own)

pub given_elements-returns-clause-ok : goal.given_elements-returns-clause-ok
given_elements-returns-clause-ok t c =
    let m = c.args.m.now in
    let n = c.given_pairs.new.m in
    let o = c.compress.new.m in
    let f = conditioned c.args.condition.now.variable c.args.condition.now.positive in
    let p = c.args.fork.now.node in
    let u = c.args.fork.now.left in
    let w = c.args.fork.now.right in
    let pairs = c.in_ok-pairs.pairs.items in
    let F : List (ℕ × ℕ) → Type 0 = λ l. FixesPairs m n c.args.condition.now.variable c.args.condition.now.positive u w l pairs in
    let fixes = subst F (c.as_slice-elements.ensures ∙ c.in_ok-list.ensures.ok) c.in_ok-pairs.ensures.ok in
    let list : (d : Diagram) → ShowsCanonical m c.args.a d → HasList n u w pairs (λ g. f d g ∷ []) = λ d sd.
    fixed_list m n c.requires.table c.args.condition.now.variable c.args.condition.now.positive p u w c.args.a pairs
    c.requires.children c.requires.place c.requires.code fixes d sd in
    IfOk-weaker c.compress.result (λ r. Compresses n o p c.as_slice-fixed.result.now r)
    (λ r. AnswersOf m o f c.args.a r)
    (λ r h. compressed_answers m n o c.given_pairs.ensures.step.table f p u w c.args.a r pairs
    (children_on m n c.given_pairs.ensures.step.kept p u w c.requires.children) list
    (subst (λ l. Compresses n o p l r) c.as_slice-fixed.ensures h))
    c.compress.ensures.ok

pub given_elements-returns-clause-step : goal.given_elements-returns-clause-step
given_elements-returns-clause-step t c =
    let made = c.compress.ensures in
    step_on c.given_pairs.ensures.step (record {
      kept = made.kept;
      grown = made.grown;
      serves = made.serves;
      table = made.table;
    })

pub given_elements-returns-clause-knows : goal.given_elements-returns-clause-knows
given_elements-returns-clause-knows t c =
    answers_on c.given_pairs.new.m c.compress.new.m c.compress.ensures.kept
    (conditioned c.args.condition.now.variable c.args.condition.now.positive) c.given_pairs.new.kept
    c.given_pairs.ensures.knows

-- the loop over the primes
pub given_primes-given_at-requires : goal.given_primes-given_at-requires
given_primes-given_at-requires t c =
    let m0 = c.args.m.now in
    let m = c.loop-i.m in
    let x = c.loop-i.invariant.step.kept in
    let u = c.args.fork.now.left in
    let w = c.args.fork.now.right in
    let l = c.args.list.now in
    let i = c.loop-i.i in
    let e : ℕ × ℕ = (
      (get_or l i c.index-list-i.result).0,
      (get_or l i c.index-list-i-in-loop-i.result).1,
    ) in
    let at = pair_at l i c.index-list-i.result c.index-list-i-in-loop-i.result c.loop-i-test.true in
    let one = paired_at m0 u w l i e c.requires.list c.loop-i-test.true at in
    let small : 5 * width m.vtree u + 4 < t =
    omega (arith, width_on m0 m x u, width_positive m0.vtree w, c.decreases) in (
      small,
      (
        c.requires.variable,
        (
          leaf_on m0 m x c.args.condition.now.leaf c.args.condition.now.variable c.requires.leaf,
          (
            subst (λ v. IsUnder v c.args.condition.now.leaf u) (sym x.vtree) (c.requires.left.over refl),
            (
              prime_below m0 m x u w e one,
              (c.loop-i.invariant.knows, c.loop-i.invariant.step.serves),
            ),
          ),
        ),
      ),
    )

pub given_primes-loop-i-preserved : goal.given_primes-loop-i-preserved
given_primes-loop-i-preserved t c =
    let m0 = c.args.m.now in
    let u = c.args.fork.now.left in
    let w = c.args.fork.now.right in
    let l = c.args.list.now in
    let i = c.loop-i.i in
    let x = c.args.condition.now.variable in
    let s = c.args.condition.now.positive in
    let leaf = c.args.condition.now.leaf in
    let e : ℕ × ℕ = (
      (get_or l i c.index-list-i.result).0,
      (get_or l i c.index-list-i-in-loop-i.result).1,
    ) in
    let at = pair_at l i c.index-list-i.result c.index-list-i-in-loop-i.result c.loop-i-test.true in
    let a = c.given_at in
    let p = c.args.fork.now.node in
    let step = left_next p u w c.requires.children c.loop-i.invariant.step a.ensures.step in
    elim c.if-not-is_false.branch [
      | given_primes-then-not-is_false+in_ok-push k ↦
          let n = step.kept in
          let one = paired_at m0 u w l i e c.requires.list c.loop-i-test.true at in
          let same = other_side a.new.m step.table w leaf x s e.1
          (there_on m0 a.new.m n w (right_there m0.vtree c.requires.table.numbered p u w c.requires.children))
          (leaf_on m0 a.new.m n leaf x c.requires.leaf)
          ((tells_on m0 a.new.m n leaf w false c.requires.right).apart refl) (sub_below m0 a.new.m n u w e one) in
          rw k.pairs-is
          (pairs_push m0 c.loop-i.m a.new.m a.new.m p c.loop-i.kept a.new.kept c.loop-i.c a.new.c x s u w l
          c.loop-i.pairs.items k.push.new.pairs.items i e c.in_ok-fixed.fixed e.1 c.requires.variable
          c.loop-i.invariant a.ensures.step.kept (extends_self a.new.m) step a.ensures.knows c.loop-i-test.true at
          c.in_ok-fixed.ensures.ok (search rules) same k.in_ok-push.ensures.ok)
      | given_primes-else-not-is_false k ↦
          rw k.pairs-is
          (pairs_skip m0 c.loop-i.m a.new.m p c.loop-i.kept a.new.kept c.loop-i.c a.new.c
          x s u w l c.loop-i.pairs.items i e c.in_ok-fixed.fixed c.loop-i.invariant a.ensures.step.kept step
          a.ensures.knows c.loop-i-test.true at c.in_ok-fixed.ensures.ok (search rules))
    ]

pub given_primes-returns-in_err-fixed-clause-step : goal.given_primes-returns-in_err-fixed-clause-step
given_primes-returns-in_err-fixed-clause-step t c =
    let f = c.args.fork.now in
    left_next f.node f.left f.right c.requires.children c.loop-i.invariant.step c.given_at.ensures.step

pub given_primes-returns-in_err-push-clause-step : goal.given_primes-returns-in_err-push-clause-step
given_primes-returns-in_err-push-clause-step t c =
    let f = c.args.fork.now in
    left_next f.node f.left f.right c.requires.children c.loop-i.invariant.step c.given_at.ensures.step

pub given_primes-returns-clause-ok : goal.given_primes-returns-clause-ok
given_primes-returns-clause-ok t c =
    pairs_done c.args.m.now c.loop-i.m c.args.fork.now.node c.loop-i.kept c.loop-i.c c.args.condition.now.variable
    c.args.condition.now.positive
    c.args.fork.now.left c.args.fork.now.right c.args.list.now c.loop-i.pairs.items c.loop-i.i c.loop-i.invariant
    c.loop-i-test.false c.loop-i.auto.i-end

-- the loop over the subs
pub given_subs-given_at-requires : goal.given_subs-given_at-requires
given_subs-given_at-requires t c =
    let m0 = c.args.m.now in
    let m = c.loop-i.m in
    let x = c.loop-i.invariant.step.kept in
    let u = c.args.fork.now.left in
    let w = c.args.fork.now.right in
    let l = c.args.list.now in
    let i = c.loop-i.i in
    let e : ℕ × ℕ = (
      (get_or l i c.index-list-i.result).0,
      (get_or l i c.index-list-i-in-loop-i.result).1,
    ) in
    let at = pair_at l i c.index-list-i.result c.index-list-i-in-loop-i.result c.loop-i-test.true in
    let one = paired_at m0 u w l i e c.requires.list c.loop-i-test.true at in
    let small : 5 * width m.vtree w + 4 < t =
    omega (arith, width_on m0 m x w, width_positive m0.vtree u, c.decreases) in (
      small,
      (
        c.requires.variable,
        (
          leaf_on m0 m x c.args.condition.now.leaf c.args.condition.now.variable c.requires.leaf,
          (
            subst (λ v. IsUnder v c.args.condition.now.leaf w) (sym x.vtree) (c.requires.right.over refl),
            (
              sub_below m0 m x u w e one,
              (c.loop-i.invariant.knows, c.loop-i.invariant.step.serves),
            ),
          ),
        ),
      ),
    )

pub given_subs-loop-i-preserved : goal.given_subs-loop-i-preserved
given_subs-loop-i-preserved t c =
    let m0 = c.args.m.now in
    let u = c.args.fork.now.left in
    let w = c.args.fork.now.right in
    let l = c.args.list.now in
    let i = c.loop-i.i in
    let x = c.args.condition.now.variable in
    let s = c.args.condition.now.positive in
    let leaf = c.args.condition.now.leaf in
    let e : ℕ × ℕ = (
      (get_or l i c.index-list-i.result).0,
      (get_or l i c.index-list-i-in-loop-i.result).1,
    ) in
    let at = pair_at l i c.index-list-i.result c.index-list-i-in-loop-i.result c.loop-i-test.true in
    let k = c.loop-i in
    let h = k.invariant.step in
    let a = c.given_at in
    let p = c.args.fork.now.node in
    let step = right_next p u w c.requires.children h a.ensures.step in
    let one = paired_at m0 u w l i e c.requires.list c.loop-i-test.true at in
    let same = other_side k.m h.table u leaf x s e.0
    (there_on m0 k.m h.kept u (left_there m0.vtree c.requires.table.numbered p u w c.requires.children))
    (leaf_on m0 k.m h.kept leaf x c.requires.leaf)
    ((tells_on m0 k.m h.kept leaf u false c.requires.left).apart refl) (prime_below m0 k.m h.kept u w e one) in
    pairs_push m0 k.m k.m a.new.m p k.kept a.new.kept k.c a.new.c x s u w l k.pairs.items
    c.push.new.pairs.items i e e.0 c.in_ok-value.value c.requires.variable k.invariant (extends_self k.m)
    a.ensures.step.kept step a.ensures.knows c.loop-i-test.true at same (prime_possible m0 c.requires.table u w e one)
    c.in_ok-value.ensures.ok c.in_ok-push.ensures.ok

pub given_subs-returns-in_err-value-clause-step : goal.given_subs-returns-in_err-value-clause-step
given_subs-returns-in_err-value-clause-step t c =
    let f = c.args.fork.now in
    right_next f.node f.left f.right c.requires.children c.loop-i.invariant.step c.given_at.ensures.step

pub given_subs-returns-in_err-push-clause-step : goal.given_subs-returns-in_err-push-clause-step
given_subs-returns-in_err-push-clause-step t c =
    let f = c.args.fork.now in
    right_next f.node f.left f.right c.requires.children c.loop-i.invariant.step c.given_at.ensures.step

pub given_subs-returns-clause-ok : goal.given_subs-returns-clause-ok
given_subs-returns-clause-ok t c =
    pairs_done c.args.m.now c.loop-i.m c.args.fork.now.node c.loop-i.kept c.loop-i.c c.args.condition.now.variable
    c.args.condition.now.positive
    c.args.fork.now.left c.args.fork.now.right c.args.list.now c.loop-i.pairs.items c.loop-i.i c.loop-i.invariant
    c.loop-i-test.false c.loop-i.auto.i-end
