use Rattle.std.proofs.Common.{◌≡◌, ◌∙◌, sym, subst, ℕ, List}
use Rattle.std.proofs.Common.{[], ◌∷◌, Some, slice_get}
use Rattle.std.proofs.lemmas.Result.{IfOk-weaker}
use Rattle.sd_vtree.specs.Numbered.{numbers}
use Rattle.sd_manager.specs.Views.{pairs_at}
use Rattle.sd_apply.specs.Places.{HasPlace}
use Rattle.sd_apply.specs.Calls.{Expands}
use Rattle.sd_apply.proofs.Trees.{left_there, place_before}
use Rattle.sd_apply.proofs.Standing.{shown}
use Rattle.sd_apply.proofs.Steps.{left_step}
use Rattle.sd_apply.proofs.Expanding.{own_code, expand_own, expand_right, expand_left}
use Rattle.sd_apply.proofs.Expanding.{right_under, left_under}
use Rattle.sd_apply.proofs.expansion.expand.Goals as goal

pub elements_of-requires-clause-code : goal.elements_of-requires-clause-code
elements_of-requires-clause-code c =
    let m = c.args.m.now in
    let same : c.place_of-own.result ≡ c.args.fork.now.node = sym c.own.view_is ∙ c.if-own-place.true
    ∙ c.place.view_is in
    let x = c.requires.a in
    let sx = shown m c.args.fork.now.node c.args.a x.diagram x.is in
    own_code m c.place_of-own.ensures.table c.args.fork.now.node c.args.fork.now.left c.args.fork.now.right c.args.a
    c.requires.children x.diagram
    sx (subst (λ p. HasPlace m.vtree p x.diagram) same (c.place_of-own.ensures.place x.diagram sx))

pub returns-then-own-place-clause-ok : goal.returns-then-own-place-clause-ok
returns-then-own-place-clause-ok c =
    let m = c.args.m.now in
    let same : c.place_of-own.result ≡ c.args.fork.now.node = sym c.own.view_is ∙ c.if-own-place.true
    ∙ c.place.view_is in
    let E : List (ℕ × ℕ) → Type 0 = λ l. Expands m m c.args.fork.now.node c.args.fork.now.left c.args.fork.now.right
    c.args.a l in
    let h : E (pairs_at m c.args.a) = expand_own m c.place_of-own.ensures.table c.args.fork.now.node
    c.args.fork.now.left c.args.fork.now.right
    c.args.a c.requires.children
    (λ x s. subst (λ p. HasPlace m.vtree p x) same (c.place_of-own.ensures.place x s)) in
    IfOk-weaker c.elements_of.result (λ r. r.items ≡ pairs_at m c.args.a) (λ r. E r.items)
    (λ r e. subst E (sym e) h)
    c.elements_of.ensures.ok

pub returns-then-middle-at-clause-ok : goal.returns-then-middle-at-clause-ok
returns-then-middle-at-clause-ok c =
    let m = c.args.m.now in
    let i = c.place_of-own.ensures.table in
    let np = subst (λ v. slice_get (numbers v) c.position-middle.result ≡ Some c.args.fork.now.node)
    c.vtree.ensures.vtree
    c.position-middle.ensures.position in
    let ao = subst (λ v. slice_get (numbers v) c.position-at.result ≡ Some c.place_of-own.result)
    c.vtree-2.ensures.vtree
    c.position-at.ensures.position in
    let E : List (ℕ × ℕ) → Type 0 = λ l. Expands m m c.args.fork.now.node c.args.fork.now.left c.args.fork.now.right
    c.args.a l in
    let h : E ((1, c.args.a) ∷ []) = expand_right m i c.args.fork.now.node c.args.fork.now.left c.args.fork.now.right
    c.args.a
    (λ x k. right_under m i c.args.fork.now.node c.args.fork.now.left c.args.fork.now.right c.place_of-own.result
    c.position-middle.result
    c.position-at.result c.requires.children x k.under
    (c.place_of-own.ensures.place x (shown m c.args.fork.now.node c.args.a x k)) np ao
    c.if-middle-at.true) in
    IfOk-weaker c.below_right.result (λ r. r.items ≡ (1, c.args.a) ∷ []) (λ r. E r.items)
    (λ r e. subst E (sym e) h)
    c.below_right.ensures.ok

pub negate_at-requires-clause-at : goal.negate_at-requires-clause-at
negate_at-requires-clause-at c =
    left_there c.args.m.now.vtree c.place_of-own.ensures.table.numbered c.args.fork.now.node c.args.fork.now.left
    c.args.fork.now.right c.requires.children

pub negate_at-requires-clause-a : goal.negate_at-requires-clause-a
negate_at-requires-clause-a c =
    let m = c.args.m.now in
    let i = c.place_of-own.ensures.table in
    let np = subst (λ v. slice_get (numbers v) c.position-middle.result ≡ Some c.args.fork.now.node)
    c.vtree.ensures.vtree
    c.position-middle.ensures.position in
    let ao = subst (λ v. slice_get (numbers v) c.position-at.result ≡ Some c.place_of-own.result)
    c.vtree-2.ensures.vtree
    c.position-at.ensures.position in
    let differ : c.place_of-own.result ≡ c.args.fork.now.node → ⊥ = λ z.
    c.if-own-place.false (c.own.view_is ∙ z ∙ sym c.place.view_is) in
    let lt = place_before m.vtree c.position-middle.result c.position-at.result c.args.fork.now.node
    c.place_of-own.result np ao
    c.if-middle-at.false differ in
    let x = c.requires.a in
    let sx = shown m c.args.fork.now.node c.args.a x.diagram x.is in
    let under = left_under m i c.args.fork.now.node c.args.fork.now.left c.args.fork.now.right c.place_of-own.result
    c.position-middle.result
    c.position-at.result c.requires.children x.diagram x.is.under (c.place_of-own.ensures.place
    x.diagram sx) np ao lt in
    record { diagram = x.diagram; is = record { shows = x.is.shows; under = under } }

pub returns-clause-ok : goal.returns-clause-ok
returns-clause-ok c =
    let m = c.args.m.now in
    let n = c.negate_at.new.m in
    let i = c.place_of-own.ensures.table in
    let np = subst (λ v. slice_get (numbers v) c.position-middle.result ≡ Some c.args.fork.now.node)
    c.vtree.ensures.vtree
    c.position-middle.ensures.position in
    let ao = subst (λ v. slice_get (numbers v) c.position-at.result ≡ Some c.place_of-own.result)
    c.vtree-2.ensures.vtree
    c.position-at.ensures.position in
    let differ : c.place_of-own.result ≡ c.args.fork.now.node → ⊥ = λ z.
    c.if-own-place.false (c.own.view_is ∙ z ∙ sym c.place.view_is) in
    let lt = place_before m.vtree c.position-middle.result c.position-at.result c.args.fork.now.node
    c.place_of-own.result np ao
    c.if-middle-at.false differ in
    let E : List (ℕ × ℕ) → Type 0 = λ l. Expands m n c.args.fork.now.node c.args.fork.now.left c.args.fork.now.right
    c.args.a l in
    let list : List (ℕ × ℕ) = (c.args.a, 1) ∷ (c.in_ok-other.other, 0) ∷ [] in
    let h : E list = expand_left m n i c.negate_at.ensures.step.kept c.args.fork.now.node c.args.fork.now.left
    c.args.fork.now.right c.args.a
    c.in_ok-other.other c.requires.least
    (λ x k. left_under m i c.args.fork.now.node c.args.fork.now.left c.args.fork.now.right c.place_of-own.result
    c.position-middle.result
    c.position-at.result c.requires.children x k.under
    (c.place_of-own.ensures.place x (shown m c.args.fork.now.node c.args.a x k)) np ao lt)
    c.in_ok-other.ensures.ok in
    IfOk-weaker c.below_left.result (λ r. r.items ≡ list) (λ r. E r.items) (λ r e. subst E (sym e)
    h)
    c.below_left.ensures.ok

-- what is left

pub returns-in_err-other-clause-step : goal.returns-in_err-other-clause-step
returns-in_err-other-clause-step c = left_step c.args.fork.now.right c.negate_at.ensures.step

pub returns-clause-step : goal.returns-clause-step
returns-clause-step c = left_step c.args.fork.now.right c.negate_at.ensures.step
