use Rattle.std.proofs.Common.{◌≡◌, ◌∙◌, sym, ap, subst, length, map, take, arith, ℕ, ℤ}
use Rattle.std.specs.List.{AllByRecursion}
use Rattle.std.specs.List.Sorted.{IsPermutation}
use Rattle.std.proofs.Math.Seq.{take-length}
use Rattle.std.proofs.lemmas.List.Sorted.{IsPermutation-map}
use Rattle.sd_apply.specs.Group.{IsPlaced}
use Rattle.sd_apply.proofs.LeafOrder.{placed_push, ordered, placed_permuted, taken_next}
use Rattle.sd_apply.proofs.leaf_order.by_leaf.Goals as goal

pub loop-i-preserved : goal.loop-i-preserved
loop-i-preserved c =
    let t = c.args.m.now.vtree in
    let pushed = c.in_ok-push.ensures.items in (
      taken_next c.args.literals.now c.loop-i.i c.loop-i.placed.items c.push.new.self.items
          c.placed_literal-pair.result c.loop-i.invariant.0 c.placed_literal-pair.ensures.same pushed,
      subst (AllByRecursion (IsPlaced t)) (sym pushed)
          (placed_push t c.loop-i.placed.items c.placed_literal-pair.result c.loop-i.invariant.1
          c.placed_literal-pair.ensures.placed),
    )

pub returns-clause-ordered : goal.returns-clause-ordered
returns-clause-ordered c =
    let t = c.args.m.now.vtree in
    let s = c.sort_unstable.new.self.items in
    ordered t s (placed_permuted t c.loop-i.placed.items s c.sort_unstable.ensures.permutation c.loop-i.invariant.1)
    (λ k d lo hi. (_, c.sort_unstable.ensures.sorted k d lo hi))

pub returns-clause-same : goal.returns-clause-same
returns-clause-same c =
    let xs = c.args.literals.now in
    let s = c.sort_unstable.new.self.items in
    let l = c.loop-i.placed.items in
    let n : c.loop-i.i ≡ length xs = omega arith in
    let all : map (λ (e : ℕ × ℤ). e.1) l ≡ xs =
    c.loop-i.invariant.0 ∙ ap (λ n. take n xs) n ∙ take-length xs in
    subst (λ x. IsPermutation x (map (λ (e : ℕ × ℤ). e.1) s)) all
    (IsPermutation-map (λ (e : ℕ × ℤ). e.1) l s c.sort_unstable.ensures.permutation)
