use Rattle.std.proofs.Common.{◌≡◌, ◌∙◌, ap, subst, length, map, take, arith}
use Rattle.std.specs.List.Sorted.{IsPermutation}
use Rattle.std.proofs.Math.Seq.{take-length}
use Rattle.sd_apply.specs.Elements.{sub_then_prime}
use Rattle.sd_apply.proofs.Sorting.{refilled, sorted_order, sorted_ascend, same_order}
use Rattle.sd_apply.proofs.lists.by_sub.Goals as goal

pub returns-clause-order : goal.returns-clause-order
returns-clause-order c =
    let s = c.sort_unstable.new.self in
    let l = c.loop-i.list.items in
    let old = c.as_mut_slice.ensures.value in
    let same : length s ≡ length l = c.sort_unstable.ensures.len ∙ ap length old in
    let n : c.loop-i.i ≡ length c.args.pairs.now = omega arith in
    let all : map sub_then_prime l ≡ c.args.pairs.now =
    c.loop-i.invariant ∙ ap (λ n. take n c.args.pairs.now) n ∙ take-length c.args.pairs.now in
    rw (refilled s l same) (sorted_order c.args.pairs.now l s all (subst (λ x. IsPermutation x s)
    old c.sort_unstable.ensures.permutation))

pub returns-clause-ascending : goal.returns-clause-ascending
returns-clause-ascending c =
    let s = c.sort_unstable.new.self in
    let l = c.loop-i.list.items in
    let same : length s ≡ length l = c.sort_unstable.ensures.len
    ∙ ap length c.as_mut_slice.ensures.value in
    rw (refilled s l same) (sorted_ascend s c.sort_unstable.ensures.sorted)

pub returns-then-sorted-clause-order : goal.returns-then-sorted-clause-order
returns-then-sorted-clause-order c =
    let l = c.loop-i.list.items in
    let n : c.loop-i.i ≡ length c.args.pairs.now = omega arith in
    let all : map sub_then_prime l ≡ c.args.pairs.now =
    c.loop-i.invariant ∙ ap (λ n. take n c.args.pairs.now) n ∙ take-length c.args.pairs.now in
    same_order c.args.pairs.now l all
