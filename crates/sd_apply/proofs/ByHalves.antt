-- A connective from the halves of two nodes, at a vtree node whose left child is a leaf.
use Rattle.std.proofs.Common.{◌≡◌, ℕ, Bool, true, false, cond, refl, ◌∙◌, ap}
use Rattle.sd_model.specs.declared.trees.Operation.{Operation}
use Rattle.sd_model.specs.Assignment.{value_in}
use Rattle.sd_model.specs.Diagram.{Diagram, meaning}
use Rattle.sd_model.specs.Expression.{combine}
use Rattle.sd_manager.specs.Table.{Table}
use Rattle.sd_manager.specs.Making.{Extends}
use Rattle.sd_manager.specs.Valid.{IsTable}
use Rattle.sd_apply.specs.declared.recent.Recent.{Recent}
use Rattle.sd_apply.specs.declared.halves.BothHalves.{BothHalves}
use Rattle.sd_apply.specs.Steps.{IsStepAt}
use Rattle.sd_apply.specs.Answers.{HasAnswer}
use Rattle.sd_apply.specs.Calls.{Applies}
use Rattle.sd_apply.specs.Places.{IsCanonicalUnder, IsNodeUnder, IsBelow}
use Rattle.sd_apply.specs.Growing.{GrowsBelow, GrowsStrictlyBelow}
use Rattle.sd_apply.specs.Halves.{AppliesHalves, AreHalvesOf, MakesHalves}
use Rattle.sd_apply.proofs.Trees.{answer_under}
use Rattle.sd_apply.proofs.Listed.{node_on, under_on}
use Rattle.sd_apply.proofs.Growing.{grows_right, strictly_either}
use Rattle.sd_apply.proofs.Steps.{right_step, step_over}
use Rattle.sd_apply.proofs.Joining.{same_answer}
use Rattle.sd_apply.proofs.JoiningSteps.{first_half, second_half}

-- the halves of both nodes are below the right child
pub first_high : (t : Table) (f : BothHalves) (a b : ℕ) → AreHalvesOf t f a b → IsBelow t f.split.right f.first.0
first_high t f a b h = first_half t f.node f.split.right f.split.variable a f.first h.first h.first_below

pub first_low : (t : Table) (f : BothHalves) (a b : ℕ) → AreHalvesOf t f a b → IsBelow t f.split.right f.first.1
first_low t f a b h = second_half t f.node f.split.right f.split.variable a f.first h.first h.first_below

pub second_high : (t : Table) (f : BothHalves) (a b : ℕ) → AreHalvesOf t f a b → IsBelow t f.split.right f.second.0
second_high t f a b h = first_half t f.node f.split.right f.split.variable b f.second h.second h.second_below

pub second_low : (t : Table) (f : BothHalves) (a b : ℕ) → AreHalvesOf t f a b → IsBelow t f.split.right f.second.1
second_low t f a b h = second_half t f.node f.split.right f.split.variable b f.second h.second h.second_below

-- ---- the two calls

-- the answer of a connective at two nodes below a vtree node is below it
applied_node : (old new : Table) → Extends old new → (o : Operation) (w c : ℕ) (x y : Diagram) →
    IsCanonicalUnder old.vtree w x → IsCanonicalUnder old.vtree w y →
    (h : HasAnswer new (λ g. combine o (meaning x g) (meaning y g)) c) → IsNodeUnder new w c h.diagram
applied_node old new e o w c x y a b h = record {
  shows = h.is.shows;
  under = answer_under new.vtree w o x y h.diagram (under_on old new e w x a) (under_on old new e w y b)
      h.is.canonical h.value;
}

-- a connective goes into both values of a variable
split_combined : (o : Operation) (v a b c d : Bool) →
    cond v (combine o a b) (combine o c d) ≡ combine o (cond v a c) (cond v b d)
split_combined o true a b c d = refl
split_combined o false a b c d = refl

pub applies_halves : (m0 m1 m2 : Table) → Extends m0 m1 → Extends m1 m2 → (o : Operation) (w : ℕ) (h k : ℕ × ℕ)
    (r s : ℕ) → Applies m0 m1 o w h.0 k.0 r → Applies m1 m2 o w h.1 k.1 s → AppliesHalves m0 m2 o w h k (r, s)
applies_halves m0 m1 m2 e1 e2 o w h k r s p q = record {
  each = λ n f g x y.
      let z = p.each x.first y.first x.first_is y.first_is in
      let x1 = node_on m0 m1 e1 w h.1 x.second x.second_is in
      let y1 = node_on m0 m1 e1 w k.1 y.second y.second_is in
      let u = q.each x.second y.second x1 y1 in
      record {
        first = z.diagram;
        second = u.diagram;
        first_is = node_on m1 m2 e2 w r z.diagram
            (applied_node m0 m1 e1 o w r x.first y.first x.first_is.under y.first_is.under z);
        second_is = applied_node m1 m2 e2 o w s x.second y.second x1.under y1.under u;
        value = λ i.
            let v = value_in i n in
            let c = meaning x.first i in
            let d = meaning y.first i in
            let l = meaning x.second i in
            let j = meaning y.second i in
            ap (λ b. cond v b (meaning u.diagram i)) (z.value i)
            ∙ ap (λ b. cond v (combine o c d) b) (u.value i)
            ∙ split_combined o v c d l j
            ∙ ap (λ b. combine o b (cond v d j)) (x.value i)
            ∙ ap (λ b. combine o (f i) b) (y.value i);
      };
}

-- ---- what follows from them

pub high_applied : (m0 m1 : Table) (o : Operation) (f : BothHalves) (a b : ℕ) (r : ℕ × ℕ) → AreHalvesOf m0 f a b →
    AppliesHalves m0 m1 o f.split.right f.first f.second r → IsBelow m1 f.split.right r.0
high_applied m0 m1 o f a b r h k =
    let x = h.first_below in
    let y = h.second_below in
    let q = k.each f.split.variable (meaning x.diagram) (meaning y.diagram) (h.first.each x.diagram x.is)
    (h.second.each y.diagram y.is) in
    record { diagram = q.first; is = q.first_is }

pub low_applied : (m0 m1 : Table) (o : Operation) (f : BothHalves) (a b : ℕ) (r : ℕ × ℕ) → AreHalvesOf m0 f a b →
    AppliesHalves m0 m1 o f.split.right f.first f.second r → IsBelow m1 f.split.right r.1
low_applied m0 m1 o f a b r h k =
    let x = h.first_below in
    let y = h.second_below in
    let q = k.each f.split.variable (meaning x.diagram) (meaning y.diagram) (h.first.each x.diagram x.is)
    (h.second.each y.diagram y.is) in
    record { diagram = q.second; is = q.second_is }

-- the node of both answers is the answer
pub applied_made : (m0 m1 m2 : Table) (o : Operation) (f : BothHalves) (a b n : ℕ) (r : ℕ × ℕ) →
    AreHalvesOf m0 f a b → AppliesHalves m0 m1 o f.split.right f.first f.second r →
    MakesHalves m1 m2 f.split.right f.split.variable r.0 r.1 n → Applies m0 m2 o f.node a b n
applied_made m0 m1 m2 o f a b n r h k made = record {
  each = λ x y p q. made.each (λ g. combine o (meaning x g) (meaning y g))
      (k.each f.split.variable (meaning x) (meaning y) (h.first.each x p) (h.second.each y q));
}

-- where they are an operand's own halves it is that operand
pub applied_same_first : (m0 m1 : Table) → IsTable m1 → Extends m0 m1 → (o : Operation) (f : BothHalves) (a b : ℕ)
    (r : ℕ × ℕ) → AreHalvesOf m0 f a b → AppliesHalves m0 m1 o f.split.right f.first f.second r →
    r.0 ≡ f.first.0 → r.1 ≡ f.first.1 → Applies m0 m1 o f.node a b a
applied_same_first m0 m1 i e o f a b r h k one other = record {
  each = λ x y p q. same_answer m0 m1 i e f.node f.split.right f.split.variable a f.first r h.first one other x p
      (λ g. combine o (meaning x g) (meaning y g))
      (k.each f.split.variable (meaning x) (meaning y) (h.first.each x p) (h.second.each y q));
}

pub applied_same_second : (m0 m1 : Table) → IsTable m1 → Extends m0 m1 → (o : Operation) (f : BothHalves) (a b : ℕ)
    (r : ℕ × ℕ) → AreHalvesOf m0 f a b → AppliesHalves m0 m1 o f.split.right f.first f.second r →
    r.0 ≡ f.second.0 → r.1 ≡ f.second.1 → Applies m0 m1 o f.node a b b
applied_same_second m0 m1 i e o f a b r h k one other = record {
  each = λ x y p q. same_answer m0 m1 i e f.node f.split.right f.split.variable b f.second r h.second one other y q
      (λ g. combine o (meaning x g) (meaning y g))
      (k.each f.split.variable (meaning x) (meaning y) (h.first.each x p) (h.second.each y q));
}

-- ---- where the new nodes stand

-- a step below the right child is one at the vtree node
pub halves_step : {m0 m1 : Table} {c : Recent} (f : BothHalves) (a b : ℕ) → AreHalvesOf m0 f a b →
    IsStepAt m0 m1 c f.split.right → IsStepAt m0 m1 c f.node
halves_step f a b h s =
    step_over f.node f.split.left f.split.right h.split.children (right_step f.split.left s)

pub halves_strictly : (m0 m1 : Table) → Extends m0 m1 → (f : BothHalves) (a b : ℕ) → AreHalvesOf m0 f a b →
    GrowsBelow m0 m1 f.split.right → GrowsStrictlyBelow m0 m1 f.node
halves_strictly m0 m1 e f a b h g =
    strictly_either m0 m1 f.node f.split.left f.split.right e h.split.children
    (grows_right m0 m1 f.split.left f.split.right g)
