use Rattle.std.proofs.Common.{◌≡◌, ◌∙◌, ℕ, List, map, subst, sym, None, ◌<◌, length}
use Rattle.std.proofs.lemmas.Result.{IfOk-weaker}
use Rattle.sd_vtree.specs.Numbered.{numbers, children_at}
use Rattle.sd_apply.specs.Places.{HasChildren}
use Rattle.sd_apply.specs.Elements.{IsPartitionBelow, Ascend, sub_then_prime}
use Rattle.sd_apply.specs.Calls.{Merges}
use Rattle.sd_apply.specs.Partitions.{MergesAt}
use Rattle.sd_apply.proofs.Merging.{permuted_partition}
use Rattle.sd_apply.proofs.Whole.{inner_children, inner_there}
use Rattle.sd_apply.proofs.Growing.{strictly_either}
use Rattle.sd_apply.proofs.AtNode.{partition_below, merges_at}
use Rattle.sd_apply.proofs.partitions.merge_at.Goals as goal

pub children-requires : goal.children-requires
children-requires c =
    subst (λ t. c.args.place < length (numbers t)) (sym c.vtree.ensures.vtree)
    (inner_there c.args.m.now c.vtree.ensures.table c.args.place c.args.pairs.now c.requires.partition.0
    c.requires.partition.1)

pub unreachable-requires : goal.unreachable-requires
unreachable-requires c =
    inner_children c.args.m.now c.vtree.ensures.table c.args.place c.args.pairs.now c.requires.partition.0
    c.requires.partition.1
    (subst (λ t. children_at t c.args.place ≡ None) c.vtree.ensures.vtree
    (sym c.children.ensures.children ∙ c.in_default.is))

pub merge-requires-clause-children : goal.merge-requires-clause-children
merge-requires-clause-children c =
    subst (λ t. HasChildren t c.args.place c.in-Some.children.0 c.in-Some.children.1) c.vtree.ensures.vtree
    (sym c.in-Some.is ∙ c.children.ensures.children)

-- the list is a partition in another order
pub merge-requires-clause-pairs : goal.merge-requires-clause-pairs
merge-requires-clause-pairs c =
    let m = c.args.m.now in
    let u = c.in-Some.children.0 in
    let w = c.in-Some.children.1 in
    let e = subst (λ t. HasChildren t c.args.place u w) c.vtree.ensures.vtree (sym c.in-Some.is
    ∙ c.children.ensures.children) in
    let part = partition_below m c.vtree.ensures.table c.args.place u w e c.args.pairs.now c.requires.partition.0
    c.requires.partition.1 in
    subst (λ l. IsPartitionBelow m u w (map sub_then_prime l)) (sym c.as_slice.ensures)
    (permuted_partition m u w c.args.pairs.now (map sub_then_prime c.in_ok-sorted.sorted.items) part
    c.in_ok-sorted.ensures.order)

pub merge-requires-clause-ascend : goal.merge-requires-clause-ascend
merge-requires-clause-ascend c =
    subst (λ l. Ascend (map sub_then_prime l)) (sym c.as_slice.ensures) c.in_ok-sorted.ensures.ascending

pub returns-clause-ok : goal.returns-clause-ok
returns-clause-ok c =
    let old = c.args.m.now in
    let new = c.merge.new.m in
    let p = c.args.place in
    let u = c.in-Some.children.0 in
    let w = c.in-Some.children.1 in
    let l = c.args.pairs.now in
    let s = c.in_ok-sorted.sorted.items in
    let e = subst (λ t. HasChildren t p u w) c.vtree.ensures.vtree (sym c.in-Some.is
    ∙ c.children.ensures.children) in
    let M : List (ℕ × ℕ) → List (ℕ × ℕ) → Type 0 = λ k r. Merges old new u w (map sub_then_prime k) r in
    IfOk-weaker c.merge.result (λ r. M c.as_slice.result.now r.items) (λ r. MergesAt old new p l r.items)
    (λ r h. merges_at old new c.vtree.ensures.table c.merge.ensures.step.table c.merge.ensures.step.kept p u w l
    (map sub_then_prime s) r.items e c.in_ok-sorted.ensures.order
    (subst (λ k. M k r.items) c.as_slice.ensures h))
    c.merge.ensures.ok

pub returns-clause-grown : goal.returns-clause-grown
returns-clause-grown c =
    let p = c.args.place in
    let u = c.in-Some.children.0 in
    let w = c.in-Some.children.1 in
    strictly_either c.args.m.now c.merge.new.m p u w c.merge.ensures.step.kept
    (subst (λ t. HasChildren t p u w) c.vtree.ensures.vtree (sym c.in-Some.is ∙ c.children.ensures.children))
    c.merge.ensures.step.grown
