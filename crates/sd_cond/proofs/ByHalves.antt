-- Conditioning by halves: one half where the left leaf is the variable's, and else the node of both.
use Rattle.std.proofs.Common.{◌≡◌, ◌≢◌, ℕ, ◌≤◌, Bool, true, false, cond, Some, sym, ◌∙◌, ap, subst, arith}
use Rattle.std.proofs.Common.{option_and_then, inl, inr, [], eq-eqb}
use Rattle.std.proofs.lemmas.Bool.{cases_eq}
use Rattle.std.proofs.lemmas.Option.{same_Some, none-some}
use Rattle.sd_model.specs.Assignment.{value_in, with_value}
use Rattle.sd_model.specs.Tree.{Leaf}
use Rattle.sd_model.specs.Diagram.{Diagram, meaning}
use Rattle.sd_model.proofs.Blend.{occurs}
use Rattle.sd_model.proofs.Changed.{value_changed, value_kept}
use Rattle.sd_vtree.specs.Numbered.{Numbered, NumberedLeaf, NumberedNode, numbers, subtree, leaf_variable}
use Rattle.sd_vtree.specs.Numbered.{variable_at, times, IsNumbered, IsUnder}
use Rattle.sd_vtree.proofs.Subtrees.{subtree_number}
use Rattle.sd_vtree.proofs.Times.{times_other}
use Rattle.sd_manager.specs.Table.{Table}
use Rattle.sd_manager.specs.Shown.{ShowsCanonical, IsNodeOf}
use Rattle.sd_manager.specs.Making.{Extends}
use Rattle.sd_manager.specs.Valid.{IsTable}
use Rattle.sd_apply.specs.Answers.{HasAnswer}
use Rattle.sd_apply.specs.Places.{IsCanonicalUnder, IsBelow, IsThere, HasPlace, HasChildren}
use Rattle.sd_apply.specs.Halves.{HasHalves, Halves, IsLeafFork, MakesHalves}
use Rattle.sd_apply.proofs.Trees.{right_there, there_inner}
use Rattle.sd_apply.proofs.JoiningPlaces.{leaf_tree}
use Rattle.sd_apply.proofs.Listed.{node_on, under_on}
use Rattle.sd_apply.proofs.Standing.{shown}
use Rattle.sd_cond.specs.Calls.{conditioned, AnswersOf}
use Rattle.sd_cond.proofs.Sides.{not_below}
use Rattle.sd_cond.proofs.Answering.{outside_value, conditioned_under, below_node, below_each, place_each}
use Rattle.sd_cond.proofs.Forgotten.{answered_below}

-- a leaf below a leaf is that leaf
pub under_leaf : (t : Numbered) (leaf n x y : ℕ) → variable_at t n ≡ Some y → variable_at t leaf ≡ Some x →
    IsUnder t leaf n → y ≡ x
under_leaf t leaf n x y e f h = go h.part h.is h.has
  where
    go : (p : Numbered) → subtree t n ≡ Some p → 1 ≤ times leaf (numbers p) → y ≡ x
    go (NumberedLeaf m z) is has = elim (cases_eq m leaf) [
      | inl same ↦
          let here : n ≡ leaf = sym (subtree_number t n (NumberedLeaf m z) is) ∙ same in
          same_Some y x (sym e ∙ ap (variable_at t) here ∙ f)
      | inr d ↦ absurd (omega (arith, times_other leaf m [] d, has))
    ]
    go (NumberedNode m l r) is has = absurd (none-some y (sym (ap (option_and_then leaf_variable) is) ∙ e))

-- a variable whose leaf does not stand below a leaf is not that leaf's
pub apart_leaf : (t : Numbered) → IsNumbered t → (leaf n x y : ℕ) → IsThere t n → variable_at t n ≡ Some y →
    variable_at t leaf ≡ Some x → ¬ IsUnder t leaf n → x ≢ y
apart_leaf t i leaf n x y there e f apart same =
    let none : occurs (Leaf y) x ≡ false =
    subst (λ s. occurs s x ≡ false) (leaf_tree t n y e) (not_below t i n leaf x there f apart) in
    absurd (cc (eq-eqb x y same, none))

-- one half
abbrev pub half_of : Bool → ℕ × ℕ → ℕ
half_of s h = cond s h.0 h.1

half_answer : (t : Table) → IsTable t → (at w leaf x : ℕ) (s : Bool) (a : ℕ) (h : ℕ × ℕ) → 1 ≤ x →
    IsThere t.vtree w → variable_at t.vtree leaf ≡ Some x → ¬ IsUnder t.vtree leaf w → (d : Diagram) →
    HasHalves t w x h.0 h.1 (meaning d) → HasAnswer t (conditioned x s d) (half_of s h)
half_answer t i at w leaf x true a h low there e apart d q = record {
  diagram = q.first;
  is = shown t w h.0 q.first q.first_is;
  value = λ g.
      let b = with_value g x true in
      sym (outside_value t.vtree i.numbered w leaf x true q.first there e apart q.first_is.under g)
      ∙ ap (λ v. cond v (meaning q.first b) (meaning q.second b)) (sym (value_changed g x true low))
      ∙ q.value b;
}
half_answer t i at w leaf x false a h low there e apart d q = record {
  diagram = q.second;
  is = shown t w h.1 q.second q.second_is;
  value = λ g.
      let b = with_value g x false in
      sym (outside_value t.vtree i.numbered w leaf x false q.second there e apart q.second_is.under g)
      ∙ ap (λ v. cond v (meaning q.first b) (meaning q.second b)) (sym (value_changed g x false low))
      ∙ q.value b;
}

-- where the left leaf is the variable's, the answer is a half
pub half_given : (t : Table) → IsTable t → (at u w leaf x y : ℕ) (s : Bool) (a : ℕ) (h : ℕ × ℕ) → 1 ≤ x →
    IsLeafFork t.vtree at u w y → variable_at t.vtree leaf ≡ Some x → IsUnder t.vtree leaf u →
    ¬ IsUnder t.vtree leaf w → Halves t at w y a h →
    ((d : Diagram) → ShowsCanonical t a d → IsCanonicalUnder t.vtree at d) →
    AnswersOf t t (conditioned x s) a (half_of s h)
half_given t i at u w leaf x y s a h low f e under apart k each =
    let one : y ≡ x = under_leaf t.vtree leaf u x y f.leaf e under in
    let there = right_there t.vtree i.numbered at u w f.children in
    record {
      each = λ d sd. half_answer t i at w leaf x s a h low there e apart d
          (subst (λ n. HasHalves t w n h.0 h.1 (meaning d)) one
          (k.each d (record { shows = sd.shows; under = each d sd })));
    }

-- both halves, conditioned
given_both : (m0 m1 m2 : Table) → Extends m0 m1 → Extends m1 m2 → (w x y : ℕ) (s : Bool) (b c : ℕ) (h : ℕ × ℕ) →
    1 ≤ x → x ≢ y → AnswersOf m0 m1 (conditioned x s) h.0 b → AnswersOf m1 m2 (conditioned x s) h.1 c → (d : Diagram) →
    HasHalves m0 w y h.0 h.1 (meaning d) → HasHalves m2 w y b c (conditioned x s d)
given_both m0 m1 m2 e1 e2 w x y s b c h low differ p r d q =
    let z = p.each q.first (shown m0 w h.0 q.first q.first_is) in
    let later = node_on m0 m1 e1 w h.1 q.second q.second_is in
    let v = r.each q.second (shown m1 w h.1 q.second later) in
    record {
      first = z.diagram;
      second = v.diagram;
      first_is = node_on m1 m2 e2 w b z.diagram (record {
        shows = z.is.shows;
        under = conditioned_under m1.vtree w x s q.first z.diagram low
            (under_on m0 m1 e1 w q.first q.first_is.under) z.is.canonical z.value;
      });
      second_is = record {
        shows = v.is.shows;
        under = conditioned_under m2.vtree w x s q.second v.diagram low
            (under_on m1 m2 e2 w q.second later.under) v.is.canonical v.value;
      };
      value = λ g.
          let a = with_value g x s in
          ap (λ k. cond (value_in g y) k (meaning v.diagram g)) (z.value g)
          ∙ ap (λ k. cond (value_in g y) (meaning q.first a) k) (v.value g)
          ∙ ap (λ k. cond k (meaning q.first a) (meaning q.second a)) (sym (value_kept g x y s differ))
          ∙ q.value a;
    }

-- the node of both is the answer
pub made_given : (m0 m1 m2 m3 : Table) → Extends m0 m1 → Extends m1 m2 → (at w x y : ℕ) (s : Bool) (a b c r : ℕ)
    (h : ℕ × ℕ) → 1 ≤ x → x ≢ y → Halves m0 at w y a h →
    ((d : Diagram) → ShowsCanonical m0 a d → IsCanonicalUnder m0.vtree at d) →
    AnswersOf m0 m1 (conditioned x s) h.0 b → AnswersOf m1 m2 (conditioned x s) h.1 c →
    MakesHalves m2 m3 w y b c r → AnswersOf m0 m3 (conditioned x s) a r
made_given m0 m1 m2 m3 e1 e2 at w x y s a b c r h low differ k each p q made = record {
  each = λ d sd. made.each (conditioned x s d)
      (given_both m0 m1 m2 e1 e2 w x y s b c h low differ p q d
      (k.each d (record { shows = sd.shows; under = each d sd })));
}

-- ---- where the answers stand, and the new nodes

-- a node is below the vtree node at which it stands
pub below_place : (t : Table) → IsTable t → (p u w a : ℕ) → HasChildren t.vtree p u w → (x : IsNodeOf t a) →
    ((d : Diagram) → ShowsCanonical t a d → HasPlace t.vtree p d) → IsBelow t p a
below_place t i p u w a children x place = record {
  diagram = x.diagram;
  is = record {
    shows = x.is.shows;
    under = place_each t i p a (there_inner t.vtree i.numbered p u w children) place x.diagram x.is;
  };
}

-- the answer at a half is below the right child, later too
pub half_below : (m0 m1 m2 : Table) → IsTable m0 → Extends m0 m1 → Extends m1 m2 → (w x : ℕ) (s : Bool) (a c : ℕ) →
    1 ≤ x → IsBelow m0 w a → AnswersOf m0 m1 (conditioned x s) a c → IsBelow m2 w c
half_below m0 m1 m2 i e1 e2 w x s a c low b h =
    answered_below m0 m1 m2 e1 e2 w x s a c low (below_node m0 w a b) (below_each m0 i w a b) h
