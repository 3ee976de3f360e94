use Rattle.std.proofs.Common.{◌≡◌, ◌∙◌, sym, subst, ℕ, ◌<◌, ◌≤◌, List, [], ◌∷◌, length, Some, slice_get, arith}
use Rattle.std.proofs.lemmas.Result.{IfOk-weaker}
use Rattle.sd_vtree.specs.Numbered.{numbers}
use Rattle.sd_manager.specs.Views.{pairs_at}
use Rattle.sd_apply.specs.Places.{HasPlace, HasChildren}
use Rattle.sd_apply.specs.Partitions.{ExpandsAt}
use Rattle.sd_apply.proofs.Trees.{left_there, place_before}
use Rattle.sd_apply.proofs.Listed.{children_on}
use Rattle.sd_apply.proofs.Standing.{shown}
use Rattle.sd_apply.proofs.Expanding.{own_code, expand_own, expand_right, expand_left, right_under, left_under}
use Rattle.sd_apply.proofs.AtNode.{inner_within, expand_constant, expands_at, left_below, strictly_left}
use Rattle.sd_apply.proofs.partitions.expand_at.Goals as goal

-- the vtree node is there

pub children-requires : goal.children-requires
children-requires c =
    let r = c.requires.place in
    subst (λ t. c.args.place < length (numbers t)) (sym c.vtree.ensures.vtree)
    (inner_within c.args.m.now.vtree c.vtree.ensures.table.numbered c.args.place r.left r.right r.children)

pub position-middle-requires : goal.position-middle-requires
position-middle-requires c =
    let r = c.requires.place in
    subst (λ t. c.args.place < length (numbers t)) (sym c.vtree-2.ensures.vtree)
    (inner_within c.args.m.now.vtree c.vtree.ensures.table.numbered c.args.place r.left r.right r.children)

-- a constant
pub returns-then-a-lt2-clause-ok : goal.returns-then-a-lt2-clause-ok
returns-then-a-lt2-clause-ok c =
    let m = c.args.m.now in
    let i = c.vtree.ensures.table in
    let p = c.args.place in
    let r = c.requires.place in
    let lt : c.args.a < 2 = omega (arith, c.if-a-lt2.true, c.a.view_is) in
    let E : List (ℕ × ℕ) → Type 0 = λ l. ExpandsAt m m p c.args.a l in
    let h : E ((1, c.args.a) ∷ []) = expands_at m m i p r.left r.right c.args.a ((1, c.args.a) ∷ []) r.children
    (expand_constant m i p r.left r.right c.args.a lt) in
    IfOk-weaker c.below_right.result (λ r. r.items ≡ (1, c.args.a) ∷ []) (λ r. E r.items)
    (λ r e. subst E (sym e) h)
    c.below_right.ensures.ok

-- a node at the vtree node

pub elements_of-requires-clause-code : goal.elements_of-requires-clause-code
elements_of-requires-clause-code c =
    let m = c.args.m.now in
    let r = c.requires.place in
    let same : c.place_of-own.result ≡ c.args.place = sym c.own.view_is ∙ c.if-own-place.true
    ∙ c.place.view_is in
    let x = c.requires.a in
    let sx = shown m c.args.place c.args.a x.diagram x.is in
    own_code m c.place_of-own.ensures.table c.args.place r.left r.right c.args.a r.children x.diagram
    sx (subst (λ p. HasPlace m.vtree p x.diagram) same (c.place_of-own.ensures.place x.diagram sx))

pub returns-then-own-place-clause-ok : goal.returns-then-own-place-clause-ok
returns-then-own-place-clause-ok c =
    let m = c.args.m.now in
    let i = c.place_of-own.ensures.table in
    let p = c.args.place in
    let r = c.requires.place in
    let same : c.place_of-own.result ≡ p = sym c.own.view_is ∙ c.if-own-place.true ∙ c.place.view_is in
    let E : List (ℕ × ℕ) → Type 0 = λ l. ExpandsAt m m p c.args.a l in
    let h : E (pairs_at m c.args.a) = expands_at m m i p r.left r.right c.args.a (pairs_at m c.args.a) r.children
    (expand_own m i p r.left r.right c.args.a r.children
    (λ x s. subst (λ q. HasPlace m.vtree q x) same (c.place_of-own.ensures.place x s))) in
    IfOk-weaker c.elements_of.result (λ r. r.items ≡ pairs_at m c.args.a) (λ r. E r.items)
    (λ r e. subst E (sym e) h)
    c.elements_of.ensures.ok

-- one that stands below the right child
pub returns-then-middle-at-clause-ok : goal.returns-then-middle-at-clause-ok
returns-then-middle-at-clause-ok c =
    let m = c.args.m.now in
    let i = c.place_of-own.ensures.table in
    let p = c.args.place in
    let r = c.requires.place in
    let np = subst (λ v. slice_get (numbers v) c.position-middle.result ≡ Some p) c.vtree-2.ensures.vtree
    c.position-middle.ensures.position in
    let ao = subst (λ v. slice_get (numbers v) c.position-at.result ≡ Some c.place_of-own.result)
    c.vtree-3.ensures.vtree
    c.position-at.ensures.position in
    let E : List (ℕ × ℕ) → Type 0 = λ l. ExpandsAt m m p c.args.a l in
    let h : E ((1, c.args.a) ∷ []) = expands_at m m i p r.left r.right c.args.a ((1, c.args.a) ∷ []) r.children
    (expand_right m i p r.left r.right c.args.a
    (λ x k. right_under m i p r.left r.right c.place_of-own.result c.position-middle.result c.position-at.result
    r.children x k.under (c.place_of-own.ensures.place x (shown m p c.args.a x k)) np ao c.if-middle-at.true)) in
    IfOk-weaker c.below_right-then-middle-at.result (λ r. r.items ≡ (1, c.args.a) ∷ []) (λ r. E r.items)
    (λ r e. subst E (sym e) h)
    c.below_right-then-middle-at.ensures.ok

-- one that stands below the left child

pub negate_at-requires-clause-at : goal.negate_at-requires-clause-at
negate_at-requires-clause-at c =
    left_there c.args.m.now.vtree c.vtree.ensures.table.numbered c.args.place c.in-Some.children.0
    c.in-Some.children.1
    (subst (λ t. HasChildren t c.args.place c.in-Some.children.0 c.in-Some.children.1) c.vtree.ensures.vtree
    (sym c.in-Some.is ∙ c.children.ensures.children))

pub negate_at-requires-clause-a : goal.negate_at-requires-clause-a
negate_at-requires-clause-a c =
    let m = c.args.m.now in
    let i = c.place_of-own.ensures.table in
    let p = c.args.place in
    let u = c.in-Some.children.0 in
    let w = c.in-Some.children.1 in
    let e = subst (λ t. HasChildren t p u w) c.vtree.ensures.vtree (sym c.in-Some.is
    ∙ c.children.ensures.children) in
    let np = subst (λ v. slice_get (numbers v) c.position-middle.result ≡ Some p) c.vtree-2.ensures.vtree
    c.position-middle.ensures.position in
    let ao = subst (λ v. slice_get (numbers v) c.position-at.result ≡ Some c.place_of-own.result)
    c.vtree-3.ensures.vtree
    c.position-at.ensures.position in
    left_below m i p u w c.place_of-own.result c.position-middle.result c.position-at.result c.args.a e c.requires.a
    c.place_of-own.ensures.place np ao (λ z. omega (arith, c.if-middle-at.false, z))
    (λ z. c.if-own-place.false (c.own.view_is ∙ z ∙ sym c.place.view_is))

pub returns-clause-ok : goal.returns-clause-ok
returns-clause-ok c =
    let m = c.args.m.now in
    let n = c.negate_at.new.m in
    let i = c.place_of-own.ensures.table in
    let p = c.args.place in
    let u = c.in-Some.children.0 in
    let w = c.in-Some.children.1 in
    let e = subst (λ t. HasChildren t p u w) c.vtree.ensures.vtree (sym c.in-Some.is
    ∙ c.children.ensures.children) in
    let np = subst (λ v. slice_get (numbers v) c.position-middle.result ≡ Some p) c.vtree-2.ensures.vtree
    c.position-middle.ensures.position in
    let ao = subst (λ v. slice_get (numbers v) c.position-at.result ≡ Some c.place_of-own.result)
    c.vtree-3.ensures.vtree
    c.position-at.ensures.position in
    let differ : c.place_of-own.result ≡ p → ⊥ = λ z.
    c.if-own-place.false (c.own.view_is ∙ z ∙ sym c.place.view_is) in
    let lt = place_before m.vtree c.position-middle.result c.position-at.result p c.place_of-own.result np ao
    c.if-middle-at.false differ in
    let least : 2 ≤ c.args.a = omega (arith, c.if-a-lt2.false, c.a.view_is) in
    let E : List (ℕ × ℕ) → Type 0 = λ l. ExpandsAt m n p c.args.a l in
    let list : List (ℕ × ℕ) = (c.args.a, 1) ∷ (c.in_ok-other.other, 0) ∷ [] in
    let h : E list = expands_at m n c.negate_at.ensures.step.table p u w c.args.a list
    (children_on m n c.negate_at.ensures.step.kept p u w e)
    (expand_left m n i c.negate_at.ensures.step.kept p u w c.args.a c.in_ok-other.other least
    (λ x k. left_under m i p u w c.place_of-own.result c.position-middle.result c.position-at.result e x k.under
    (c.place_of-own.ensures.place x (shown m p c.args.a x k)) np ao lt)
    c.in_ok-other.ensures.ok) in
    IfOk-weaker c.below_left.result (λ r. r.items ≡ list) (λ r. E r.items) (λ r e. subst E (sym e) h)
    c.below_left.ensures.ok

pub returns-clause-grown : goal.returns-clause-grown
returns-clause-grown c =
    strictly_left c.args.m.now c.negate_at.new.m c.negate_at.ensures.step.kept c.args.place c.in-Some.children.0
    c.in-Some.children.1
    (subst (λ t. HasChildren t c.args.place c.in-Some.children.0 c.in-Some.children.1) c.vtree.ensures.vtree
    (sym c.in-Some.is ∙ c.children.ensures.children)) c.negate_at.ensures.step.grown

pub returns-in_err-other-clause-grown : goal.returns-in_err-other-clause-grown
returns-in_err-other-clause-grown c =
    strictly_left c.args.m.now c.negate_at.new.m c.negate_at.ensures.step.kept c.args.place c.in-Some.children.0
    c.in-Some.children.1
    (subst (λ t. HasChildren t c.args.place c.in-Some.children.0 c.in-Some.children.1) c.vtree.ensures.vtree
    (sym c.in-Some.is ∙ c.children.ensures.children)) c.negate_at.ensures.step.grown
