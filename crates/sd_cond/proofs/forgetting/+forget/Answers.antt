use Rattle.std.proofs.Common.{◌∙◌, sym, ap, subst, ℕ, ◌+◌, ◌*◌, ◌<◌, List, [], ◌∷◌}
use Rattle.std.proofs.Common.{get_or, arith, not}
use Rattle.std.proofs.lemmas.Result.{IfOk-weaker}
use Rattle.sd_model.specs.Diagram.{Diagram}
use Rattle.sd_vtree.specs.Numbered.{IsUnder}
use Rattle.sd_manager.specs.Shown.{IsPartitionAt, ShowsCanonical}
use Rattle.sd_apply.specs.Answers.{Compresses}
use Rattle.sd_apply.specs.Places.{width}
use Rattle.sd_apply.specs.Elements.{AreListedElements, HasList}
use Rattle.sd_apply.proofs.Trees.{width_positive, left_there}
use Rattle.sd_apply.proofs.Listed.{width_on, children_on, pair_at}
use Rattle.sd_apply.proofs.Rows.{sub_below, paired_at}
use Rattle.sd_apply.proofs.Expanding.{own_listed}
use Rattle.sd_cond.specs.Calls.{forgotten, AnswersOf, ForgetsSubs}
use Rattle.sd_cond.proofs.Steps.{step_on, step_wider, right_next}
use Rattle.sd_cond.proofs.Answering.{answer_kept, answer_found, forget_answers_on, below_node}
use Rattle.sd_cond.proofs.Answering.{place_each, leaf_on}
use Rattle.sd_cond.proofs.Elements.{listed_partition, compressed_answers, same_answers}
use Rattle.sd_cond.proofs.Forgotten.{forget_outside, subs_next, subs_done, forgotten_list}
use Rattle.sd_cond.proofs.forgetting.+forget.Goals as goal

-- an answer that is kept
pub forget_at-returns-in-Some-look-clause-ok : goal.forget_at-returns-in-Some-look-clause-ok
forget_at-returns-in-Some-look-clause-ok t c =
    answer_kept c.args.m.now c.vtree.ensures.table (forgotten c.args.variable.now.number) c.args.a
    c.in-Some-look.code
    (c.in-Some-look.ensures c.args.m.now (forgotten c.args.variable.now.number) c.requires.knows.alone)

-- a node below whose vtree node the leaf does not stand
pub forget_at-returns-then-not-is_over-clause-ok : goal.forget_at-returns-then-not-is_over-clause-ok
forget_at-returns-then-not-is_over-clause-ok t c =
    let p = c.place_with_children-fork in
    forget_outside c.args.m.now c.vtree.ensures.table p.result.node c.args.variable.now.leaf c.args.variable.now.number
    c.args.a p.ensures.there c.requires.leaf
    (c.is_over.ensures.tells.apart c.if-not-is_over.true)
    (place_each c.args.m.now c.vtree.ensures.table p.result.node c.args.a p.ensures.there p.ensures.place)

-- what the call below left, at the wider vtree node
pub forget_at-returns-in_err-code-clause-step : goal.forget_at-returns-in_err-code-clause-step
forget_at-returns-in_err-code-clause-step t c =
    step_wider c.vtree.ensures.table c.place_with_children-fork.ensures.under c.forget_here.ensures.step

pub forget_at-returns-in_default-keep-clause-step : goal.forget_at-returns-in_default-keep-clause-step
forget_at-returns-in_default-keep-clause-step t c =
    step_wider c.vtree.ensures.table c.place_with_children-fork.ensures.under c.forget_here.ensures.step

pub forget_at-returns-clause-step : goal.forget_at-returns-clause-step
forget_at-returns-clause-step t c =
    step_wider c.vtree.ensures.table c.place_with_children-fork.ensures.under c.forget_here.ensures.step

-- what is kept then
pub forget_at-returns-in_default-keep-clause-knows : goal.forget_at-returns-in_default-keep-clause-knows
forget_at-returns-in_default-keep-clause-knows t c =
    let m = c.args.m.now in
    let n = c.forget_here.new.m in
    let f = forgotten c.args.variable.now.number in
    let k = c.forget_here.ensures in
    record {
      alone = c.keep.ensures n f k.knows.alone
          (answer_found m n k.step.kept f c.args.a c.in_ok-code.code (below_node m c.args.at c.args.a c.requires.a)
          c.in_ok-code.ensures.ok);
      where_true = k.knows.where_true;
      where_false = k.knows.where_false;
    }

pub forget_at-returns-clause-knows : goal.forget_at-returns-clause-knows
forget_at-returns-clause-knows t c =
    let m = c.args.m.now in
    let n = c.forget_here.new.m in
    let f = forgotten c.args.variable.now.number in
    let k = c.forget_here.ensures in
    record {
      alone = c.keep.ensures n f k.knows.alone
          (answer_found m n k.step.kept f c.args.a c.in_ok-code.code (below_node m c.args.at c.args.a c.requires.a)
          c.in_ok-code.ensures.ok);
      where_true = k.knows.where_true;
      where_false = k.knows.where_false;
    }

-- the elements of a decomposition
pub forget_here-forget_subs-requires : goal.forget_here-forget_subs-requires
forget_here-forget_subs-requires t c =
    let m = c.args.m.now in
    let i = c.requires.table in
    let u = c.args.fork.now.left in
    let w = c.args.fork.now.right in
    let x = c.requires.node in
    let list = own_listed m i c.args.fork.now.node u w c.args.a c.requires.children x.diagram x.is
    (c.requires.place x.diagram x.is) c.requires.code in
    let over = c.is_left.ensures.right.over (ap not c.if-is_left.false) in
    let small : 3 * (width m.vtree u + width m.vtree w) < t = omega (arith, c.decreases) in (
      small,
      (
        c.requires.variable,
        (
          c.requires.leaf,
          (
            c.requires.children,
            (
              over,
              (
                subst (AreListedElements m u w) (sym (c.as_slice-elements.ensures ∙ c.in_ok-list.ensures.ok)) list,
                (c.requires.knows, (c.requires.serves, c.requires.table)),
              ),
            ),
          ),
        ),
      ),
    )

pub forget_here-compress-requires-clause-partition : goal.forget_here-compress-requires-clause-partition
forget_here-compress-requires-clause-partition t c =
    let m = c.args.m.now in
    let n = c.forget_subs.new.m in
    let i = c.requires.table in
    let p = c.args.fork.now.node in
    let u = c.args.fork.now.left in
    let w = c.args.fork.now.right in
    let x = c.requires.node in
    let pairs = c.in_ok-pairs.pairs.items in
    let F : List (ℕ × ℕ) → Type 0 = λ l. ForgetsSubs m n c.args.variable.now.number u w l pairs in
    let forgets = subst F (c.as_slice-elements.ensures ∙ c.in_ok-list.ensures.ok) c.in_ok-pairs.ensures.ok in
    let h = forgotten_list m n i c.args.variable.now.leaf c.args.variable.now.number p u w c.args.a pairs
    (left_there m.vtree i.numbered p u w c.requires.children) c.requires.leaf
    (c.is_left.ensures.left.apart c.if-is_left.false) c.requires.children c.requires.place
    c.requires.code forgets x.diagram x.is in
    let P : List (ℕ × ℕ) → Type 0 = λ l. IsPartitionAt n p l h.shown in (
      h.shown,
      subst P (sym c.as_slice-projected.ensures)
          (listed_partition n c.forget_subs.ensures.step.table p u w
          (children_on m n c.forget_subs.ensures.step.kept p u w c.requires.children) pairs
          (forgotten c.args.variable.now.number x.diagram) h),
    )

pub forget_here-returns-then-are_same-clause-ok : goal.forget_here-returns-then-are_same-clause-ok
forget_here-returns-then-are_same-clause-ok t c =
    let m = c.args.m.now in
    let n = c.forget_subs.new.m in
    let i = c.requires.table in
    let f = forgotten c.args.variable.now.number in
    let p = c.args.fork.now.node in
    let u = c.args.fork.now.left in
    let w = c.args.fork.now.right in
    let pairs = c.in_ok-pairs.pairs.items in
    let F : List (ℕ × ℕ) → Type 0 = λ l. ForgetsSubs m n c.args.variable.now.number u w l pairs in
    let own = c.as_slice-elements.ensures ∙ c.in_ok-list.ensures.ok in
    let forgets = subst F own c.in_ok-pairs.ensures.ok in
    let list : (d : Diagram) → ShowsCanonical m c.args.a d → HasList n u w pairs (λ g. f d g ∷ []) = λ d sd.
    forgotten_list m n i c.args.variable.now.leaf c.args.variable.now.number p u w c.args.a pairs
    (left_there m.vtree i.numbered p u w c.requires.children) c.requires.leaf
    (c.is_left.ensures.left.apart c.if-is_left.false) c.requires.children c.requires.place
    c.requires.code forgets d sd in
    same_answers m n i c.forget_subs.ensures.step.table c.forget_subs.ensures.step.kept f p u w c.args.a pairs
    c.requires.children c.requires.place c.requires.code list
    (sym c.as_slice-projected.ensures ∙ c.are_same.ensures c.if-are_same.true ∙ own)

pub forget_here-returns-clause-ok : goal.forget_here-returns-clause-ok
forget_here-returns-clause-ok t c =
    let m = c.args.m.now in
    let n = c.forget_subs.new.m in
    let o = c.compress.new.m in
    let i = c.requires.table in
    let f = forgotten c.args.variable.now.number in
    let p = c.args.fork.now.node in
    let u = c.args.fork.now.left in
    let w = c.args.fork.now.right in
    let pairs = c.in_ok-pairs.pairs.items in
    let F : List (ℕ × ℕ) → Type 0 = λ l. ForgetsSubs m n c.args.variable.now.number u w l pairs in
    let forgets = subst F (c.as_slice-elements.ensures ∙ c.in_ok-list.ensures.ok) c.in_ok-pairs.ensures.ok in
    let list : (d : Diagram) → ShowsCanonical m c.args.a d → HasList n u w pairs (λ g. f d g ∷ []) = λ d sd.
    forgotten_list m n i c.args.variable.now.leaf c.args.variable.now.number p u w c.args.a pairs
    (left_there m.vtree i.numbered p u w c.requires.children) c.requires.leaf
    (c.is_left.ensures.left.apart c.if-is_left.false) c.requires.children c.requires.place
    c.requires.code forgets d sd in
    IfOk-weaker c.compress.result (λ r. Compresses n o p c.as_slice-projected.result.now r)
    (λ r. AnswersOf m o f c.args.a r)
    (λ r h. compressed_answers m n o c.forget_subs.ensures.step.table f p u w c.args.a r pairs
    (children_on m n c.forget_subs.ensures.step.kept p u w c.requires.children) list
    (subst (λ l. Compresses n o p l r) c.as_slice-projected.ensures h))
    c.compress.ensures.ok

pub forget_here-returns-clause-step : goal.forget_here-returns-clause-step
forget_here-returns-clause-step t c =
    let made = c.compress.ensures in
    step_on c.forget_subs.ensures.step (record {
      kept = made.kept;
      grown = made.grown;
      serves = made.serves;
      table = made.table;
    })

pub forget_here-returns-clause-knows : goal.forget_here-returns-clause-knows
forget_here-returns-clause-knows t c =
    forget_answers_on c.compress.ensures.kept c.forget_subs.ensures.knows

-- the loop over the elements
pub forget_subs-forget_at-requires : goal.forget_subs-forget_at-requires
forget_subs-forget_at-requires t c =
    let m0 = c.args.m.now in
    let m = c.loop-i.m in
    let x = c.loop-i.invariant.step.kept in
    let u = c.args.fork.now.left in
    let w = c.args.fork.now.right in
    let l = c.args.list.now in
    let i = c.loop-i.i in
    let e : ℕ × ℕ = (
      (get_or l i c.index-list-i.result).0,
      (get_or l i c.index-list-i-in-loop-i.result).1,
    ) in
    let at = pair_at l i c.index-list-i.result c.index-list-i-in-loop-i.result c.loop-i-test.true in
    let one = paired_at m0 u w l i e c.requires.list c.loop-i-test.true at in
    let small : 3 * width m.vtree w + 2 < t =
    omega (arith, width_on m0 m x w, width_positive m0.vtree u, c.decreases) in (
      small,
      (
        c.requires.variable,
        (
          leaf_on m0 m x c.args.variable.now.leaf c.args.variable.now.number c.requires.leaf,
          (
            subst (λ v. IsUnder v c.args.variable.now.leaf w) (sym x.vtree) c.requires.over,
            (
              sub_below m0 m x u w e one,
              (c.loop-i.invariant.knows, c.loop-i.invariant.step.serves),
            ),
          ),
        ),
      ),
    )

pub forget_subs-loop-i-preserved : goal.forget_subs-loop-i-preserved
forget_subs-loop-i-preserved t c =
    let m0 = c.args.m.now in
    let u = c.args.fork.now.left in
    let w = c.args.fork.now.right in
    let l = c.args.list.now in
    let i = c.loop-i.i in
    let e : ℕ × ℕ = (
      (get_or l i c.index-list-i.result).0,
      (get_or l i c.index-list-i-in-loop-i.result).1,
    ) in
    let at = pair_at l i c.index-list-i.result c.index-list-i-in-loop-i.result c.loop-i-test.true in
    let a = c.forget_at in
    let k = c.loop-i in
    subs_next m0 k.m a.new.m c.args.fork.now.node k.answers a.new.answers k.c a.new.c c.args.variable.now.number u w l
    k.pairs.items c.push.new.pairs.items i e c.in_ok-value.value c.requires.variable k.invariant a.ensures.step.kept
    (right_next c.args.fork.now.node u w c.requires.children k.invariant.step a.ensures.step) a.ensures.knows
    c.loop-i-test.true at c.in_ok-value.ensures.ok c.in_ok-push.ensures.ok

pub forget_subs-returns-in_err-value-clause-step : goal.forget_subs-returns-in_err-value-clause-step
forget_subs-returns-in_err-value-clause-step t c =
    let f = c.args.fork.now in
    right_next f.node f.left f.right c.requires.children c.loop-i.invariant.step c.forget_at.ensures.step

pub forget_subs-returns-in_err-push-clause-step : goal.forget_subs-returns-in_err-push-clause-step
forget_subs-returns-in_err-push-clause-step t c =
    let f = c.args.fork.now in
    right_next f.node f.left f.right c.requires.children c.loop-i.invariant.step c.forget_at.ensures.step

pub forget_subs-returns-clause-ok : goal.forget_subs-returns-clause-ok
forget_subs-returns-clause-ok t c =
    subs_done c.args.m.now c.loop-i.m c.args.fork.now.node c.loop-i.answers c.loop-i.c c.args.variable.now.number
    c.args.fork.now.left c.args.fork.now.right c.args.list.now c.loop-i.pairs.items c.loop-i.i c.loop-i.invariant
    c.loop-i-test.false c.loop-i.auto.i-end
