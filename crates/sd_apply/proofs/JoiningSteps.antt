-- Steps of a join: what its calls ask for, and what follows from their answers.
use lib.Signed.{lt_z}
use mathlib.Core.Bool.{beq}
use Rattle.std.proofs.Common.{◌≡◌, ◌≢◌, ℕ, ◌+◌, ◌≤◌, ℤ, pos, negsuc, Bool, true, false}
use Rattle.std.proofs.Common.{not, cond, List, length, drop, Some, slice_get, refl, sym, ◌∙◌, ap, subst, arith}
use Rattle.std.proofs.Common.{unsigned_abs, get_or}
use Rattle.std.proofs.lemmas.Bool.Decides.{nat_tests}
use Rattle.std.specs.FinMap.{get}
use Rattle.sd_model.specs.declared.trees.Operation.{Operation}
use Rattle.sd_model.specs.declared.trees.Operation.TheVariants.{And, Or, Xor}
use Rattle.sd_model.specs.Assignment.{literal_holds, value_in}
use Rattle.sd_model.specs.Diagram.{Diagram, meaning}
use Rattle.sd_model.specs.Expression.{combine}
use Rattle.sd_laws.proofs.Codes.{one_diagram}
use Rattle.sd_manager.specs.Literals.{code_of_literal}
use Rattle.sd_manager.specs.Table.{Table}
use Rattle.sd_manager.specs.Shown.{Shows, constant_diagram}
use Rattle.sd_manager.specs.Making.{Extends}
use Rattle.sd_manager.specs.Valid.{IsTable}
use Rattle.sd_apply.specs.declared.recent.Recent.{Recent}
use Rattle.sd_apply.specs.declared.node_answers.NodeAnswers.{NodeAnswers}
use Rattle.sd_apply.specs.Steps.{IsStepAt}
use Rattle.sd_apply.specs.Answers.{HasAnswer}
use Rattle.sd_apply.specs.Calls.{Applies}
use Rattle.sd_apply.specs.Places.{IsNodeUnder, IsBelow}
use Rattle.sd_apply.specs.Group.{group_value}
use Rattle.sd_apply.specs.Halves.{Halves, MakesHalves}
use Rattle.sd_apply.specs.GroupCalls.{JoinsHalves, joined_value, JoinsFrom, IsLiteralBelow}
use Rattle.sd_apply.specs.GroupCalls.{AreLiteralsBelow, IsGroupNode, deciding}
use Rattle.sd_apply.specs.GroupCalls.{between, IsFound, IsFoundBefore, Remembers}
use Rattle.sd_apply.proofs.Trees.{bottom_under, top_under, answer_under}
use Rattle.sd_apply.proofs.Listed.{node_on, answer_on, shown_on}
use Rattle.sd_apply.proofs.Standing.{shown}
use Rattle.sd_apply.proofs.JoiningPlaces.{joined_under, literals_on}
use Rattle.sd_apply.proofs.Joining.{from_more, from_none, decides, decides_first, same_answer}

-- ---- the node of the literals

-- a constant below a vtree node
constant_node : (t : Table) (at : ℕ) (b : Bool) → IsNodeUnder t at (cond b 1 0) (constant_diagram b)
constant_node t at true = record { shows = refl; under = top_under t.vtree at }
constant_node t at false = record { shows = refl; under = bottom_under t.vtree at }

pub constant_value : (b : Bool) (g : List Bool) → meaning (constant_diagram b) g ≡ b
constant_value true g = refl
constant_value false g = refl

-- what joining the literals from an index on leaves
pub record InGroup (old new : Table) (c : Recent) (o : Operation) (at index : ℕ) (l : List (ℕ × ℤ)) (node : ℕ) :
    Type 0 where
  pub step : IsStepAt old new c at
  pub group : IsGroupNode new o at index l node

-- no literals
pub group_start : (t : Table) (o : Operation) → o ≢ Xor → (at c : ℕ) (l : List (ℕ × ℤ)) (b : Bool) → b ≡ deciding o →
    c ≡ cond b 1 0 → IsGroupNode t o at (length l) l c
group_start t o other at c l b e code = record {
  diagram = constant_diagram b;
  is = subst (λ k. IsNodeUnder t at k (constant_diagram b)) (sym code) (constant_node t at b);
  value = λ g. constant_value b g ∙ e ∙ sym (from_none o other l (length l) (omega arith) g);
}

-- one literal more
pub group_next : (old new : Table) → Extends old new → (o : Operation) → o ≢ Xor → (at i n literal r : ℕ)
    (l : List (ℕ × ℤ)) (e : ℕ × ℤ) → IsGroupNode old o at (i + 1) l n → slice_get l i ≡ Some e →
    IsLiteralBelow old at e → literal ≡ code_of_literal e.1 → Applies old new (between o) at literal n r →
    IsGroupNode new o at i l r
group_next old new x o other at i n literal r l e h place b code p =
    let q : IsNodeUnder old at literal b.diagram = subst (λ k. IsNodeUnder old at k b.diagram) (sym code) b.is in
    let z = p.each b.diagram h.diagram q h.is in
    record {
      diagram = z.diagram;
      is = record {
        shows = z.is.shows;
        under = answer_under new.vtree at (between o) b.diagram h.diagram z.diagram
            (node_on old new x at literal b.diagram q).under (node_on old new x at n h.diagram h.is).under
            z.is.canonical z.value;
      };
      value = λ g.
          z.value g
          ∙ ap (λ v. combine (between o) v (meaning h.diagram g)) (b.value g)
          ∙ ap (combine (between o) (literal_holds g e.1)) (h.value g)
          ∙ sym (from_more o other l i e place g);
    }

-- a literal is below the vtree node by its code
pub literal_below : (t : Table) (at c : ℕ) (e : ℕ × ℤ) → IsLiteralBelow t at e → c ≡ code_of_literal e.1 →
    IsBelow t at c
literal_below t at c e b code = record {
  diagram = b.diagram;
  is = subst (λ k. IsNodeUnder t at k b.diagram) (sym code) b.is;
}

pub group_below : (t : Table) (o : Operation) (at i c : ℕ) (l : List (ℕ × ℤ)) → IsGroupNode t o at i l c →
    IsBelow t at c
group_below t o at i c l h = record { diagram = h.diagram; is = h.is }

-- the answer by the node of the literals
pub joins_by_node : (m0 m1 m2 : Table) → Extends m0 m1 → (o : Operation) (at a from n r : ℕ) (l : List (ℕ × ℤ)) →
    IsGroupNode m1 o at from l n → Applies m1 m2 o at a n r → JoinsFrom m0 m2 o at a from l r
joins_by_node m0 m1 m2 x o at a from n r l group p = record {
  each = λ d h.
      let z = p.each d group.diagram (node_on m0 m1 x at a d h) group.is in
      record {
        diagram = z.diagram;
        is = z.is;
        value = λ g. z.value g ∙ ap (combine o (meaning d g)) (group.value g);
      };
}

-- ---- without a step

-- what shows a node below a vtree node is there
pub below_shown : (t : Table) → IsTable t → (w c : ℕ) → IsBelow t w c → (d : Diagram) → Shows t c d →
    IsNodeUnder t w c d
below_shown t i w c h d s =
    subst (IsNodeUnder t w c) (one_diagram t.vtree (get t.linked) i.numbered h.diagram c d h.is.shows s) h.is

constant_answer : (t : Table) (c : ℕ) (b : Bool) (f : List Bool → Bool) → c ≡ cond b 1 0 →
    ((g : List Bool) → f g ≡ b) → HasAnswer t f c
constant_answer t c b f code value =
    let q : IsNodeUnder t 0 c (constant_diagram b) = subst (λ k. IsNodeUnder t 0 k (constant_diagram b)) (sym code)
    (constant_node t 0 b) in
    record {
      diagram = constant_diagram b;
      is = shown t 0 c (constant_diagram b) q;
      value = λ g. constant_value b g ∙ sym (value g);
    }

-- no literals are left: an empty clause is false, an empty term is true
pub joins_none : (t : Table) (o : Operation) → o ≢ Xor → (at a from c : ℕ) (l : List (ℕ × ℤ)) (b : Bool) →
    b ≡ deciding o → c ≡ cond b 1 0 → length l ≤ from → JoinsFrom t t o at a from l c
joins_none t o other at a from c l b e code none = record {
  each = λ d h. constant_answer t c b (joined_value o d from l) code (λ g.
      ap (combine o (meaning d g)) (from_none o other l from none g) ∙ decides o other (meaning d g) ∙ sym e);
}

-- the node decides
pub joins_decided : (t : Table) → IsTable t → (o : Operation) → o ≢ Xor → (at a from c : ℕ) (l : List (ℕ × ℤ))
    (b : Bool) → b ≡ deciding o → c ≡ cond b 1 0 → a ≡ c → JoinsFrom t t o at a from l c
joins_decided t i o other at a from c l b e code same = record {
  each = λ d h.
      let q : Shows t a (constant_diagram b) = subst (λ k. Shows t k (constant_diagram b)) (sym (same ∙ code))
      (constant_node t 0 b).shows in
      let is : d ≡ constant_diagram b = one_diagram t.vtree (get t.linked) i.numbered d a (constant_diagram b)
      h.shows q in
      constant_answer t c b (joined_value o d from l) code (λ g.
      ap (λ v. combine o v (group_value o (drop from l) g))
      (ap (λ x. meaning x g) is ∙ constant_value b g ∙ e)
      ∙ decides_first o other (group_value o (drop from l) g) ∙ sym e);
}

-- what was answered at a lower vtree node
pub joins_over : (old new : Table) → IsTable old → (o : Operation) (at w a from r : ℕ) (l : List (ℕ × ℤ)) →
    IsBelow old w a → JoinsFrom old new o w a from l r → JoinsFrom old new o at a from l r
joins_over old new i o at w a from r l below h = record {
  each = λ d k. h.each d (below_shown old i w a below d k.shows);
}

-- what was found before
pub joins_found : (t : Table) → IsTable t → (o : Operation) (at a from next r : ℕ) (l : List (ℕ × ℤ)) →
    next ≡ from + 1 → IsFoundBefore t o l a next r → JoinsFrom t t o at a from l r
joins_found t i o at a from next r l e h = record {
  each = λ d k.
      let q = h from (omega (arith, e)) in
      let same : q.diagram ≡ d = one_diagram t.vtree (get t.linked) i.numbered q.diagram a d q.is.shows k.shows in
      subst (λ x. HasAnswer t (joined_value o x from l) r) same q.answer_is;
}

-- what was answered may be kept
pub found_joined : (old new : Table) → Extends old new → (o : Operation) (at a from next r : ℕ) (l : List (ℕ × ℤ)) →
    next ≡ from + 1 → IsBelow old at a → JoinsFrom old new o at a from l r → IsFoundBefore new o l a next r
found_joined old new x o at a from next r l e below h = λ k q.
    let same : from ≡ k = omega (arith, e, q) in
    subst (λ j. IsFound new o l j a r) same (record {
      diagram = below.diagram;
      is = shown new at a below.diagram (node_on old new x at a below.diagram below.is);
      answer_is = h.each below.diagram below.is;
    })

-- what was found stays right in a larger table
pub remembers_on : (n : NodeAnswers) (old new : Table) → Extends old new → (o : Operation) (l : List (ℕ × ℤ)) →
    Remembers n old o l → Remembers n new o l
remembers_on n old new x o l h = record {
  right = λ k d lt. λ from e.
      let q = h.right k d lt from e in
      record {
        diagram = q.diagram;
        is = shown_on old new x (get_or n.entries.items k d).node q.diagram q.is;
        answer_is = answer_on old new x (joined_value o q.diagram from l) (get_or n.entries.items k d).answer
            q.answer_is;
      };
}

-- ---- from halves

-- the nodes that are halves are below the right child
pub first_half : (t : Table) (v w x c : ℕ) (h : ℕ × ℕ) → Halves t v w x c h → IsBelow t v c → IsBelow t w h.0
first_half t v w x c h k b =
    let q = k.each b.diagram b.is in
    record { diagram = q.first; is = q.first_is }

pub second_half : (t : Table) (v w x c : ℕ) (h : ℕ × ℕ) → Halves t v w x c h → IsBelow t v c → IsBelow t w h.1
second_half t v w x c h k b =
    let q = k.each b.diagram b.is in
    record { diagram = q.second; is = q.second_is }

-- so are those that are joined
pub first_joined : (old new : Table) (o : Operation) (v w x c from : ℕ) (l : List (ℕ × ℤ)) (h r : ℕ × ℕ) →
    Halves old v w x c h → IsBelow old v c → JoinsHalves old new o w x h.0 h.1 from l r → IsBelow new w r.0
first_joined old new o v w x c from l h r k b j =
    let q = j.each (meaning b.diagram) (k.each b.diagram b.is) in
    record { diagram = q.first; is = q.first_is }

pub second_joined : (old new : Table) (o : Operation) (v w x c from : ℕ) (l : List (ℕ × ℤ)) (h r : ℕ × ℕ) →
    Halves old v w x c h → IsBelow old v c → JoinsHalves old new o w x h.0 h.1 from l r → IsBelow new w r.1
second_joined old new o v w x c from l h r k b j =
    let q = j.each (meaning b.diagram) (k.each b.diagram b.is) in
    record { diagram = q.second; is = q.second_is }

-- the node of the joined halves is the answer
pub joins_made : (m0 m1 m2 : Table) (o : Operation) (v w x c from n : ℕ) (l : List (ℕ × ℤ)) (h r : ℕ × ℕ) →
    Halves m0 v w x c h → JoinsHalves m0 m1 o w x h.0 h.1 from l r → MakesHalves m1 m2 w x r.0 r.1 n →
    JoinsFrom m0 m2 o v c from l n
joins_made m0 m1 m2 o v w x c from n l h r k j made = record {
  each = λ d q. made.each (joined_value o d from l) (j.each (meaning d) (k.each d q));
}

-- and where no half changed it is the node itself
pub joins_same : (old new : Table) → IsTable new → Extends old new → (o : Operation) (v w x c from : ℕ)
    (l : List (ℕ × ℤ)) (h r : ℕ × ℕ) → Halves old v w x c h → JoinsHalves old new o w x h.0 h.1 from l r → r.0 ≡ h.0 →
    r.1 ≡ h.1 → JoinsFrom old new o v c from l c
joins_same old new i e o v w x c from l h r k j one other = record {
  each = λ d q. same_answer old new i e v w x c h r k one other d q (joined_value o d from l)
      (j.each (meaning d) (k.each d q));
}

-- ---- the halves themselves

both_combined : (o : Operation) (v y z b : Bool) →
    cond v (combine o y b) (combine o z b) ≡ combine o (cond v y z) b
both_combined o true y z b = refl
both_combined o false y z b = refl

-- both go on
pub joins_both : (m0 m1 m2 : Table) → Extends m0 m1 → Extends m1 m2 → (o : Operation) (w x a b from r s : ℕ)
    (l : List (ℕ × ℤ)) → AreLiteralsBelow m0 w from l → JoinsFrom m0 m1 o w a from l r →
    JoinsFrom m1 m2 o w b from l s → JoinsHalves m0 m2 o w x a b from l (r, s)
joins_both m0 m1 m2 e1 e2 o w x a b from r s l below p q = record {
  each = λ f h.
      let y = p.each h.first h.first_is in
      let k = node_on m0 m1 e1 w b h.second h.second_is in
      let z = q.each h.second k in
      record {
        first = y.diagram;
        second = z.diagram;
        first_is = node_on m1 m2 e2 w r y.diagram (joined_under m0 m1 e1 o w from r l h.first h.first_is.under below y);
        second_is = joined_under m1 m2 e2 o w from s l h.second k.under (literals_on m0 m1 e1 w from l below) z;
        value = λ g.
            let v = value_in g x in
            let b = group_value o (drop from l) g in
            ap (λ n. cond v n (meaning z.diagram g)) (y.value g)
            ∙ ap (cond v (combine o (meaning h.first g) b)) (z.value g)
            ∙ both_combined o v (meaning h.first g) (meaning h.second g) b
            ∙ ap (λ n. combine o n b) (h.value g);
      };
}

-- the one goes on, the other is decided by the literal
first_goes_on : (o : Operation) → o ≢ Xor → (v y z b : Bool) →
    cond v (combine o y b) z ≡ combine o (cond v y z) (combine (between o) (cond (deciding o) v (not v)) b)
first_goes_on And other true y z b = refl
first_goes_on And other false y true b = refl
first_goes_on And other false y false b = refl
first_goes_on Or other true y z b = refl
first_goes_on Or other false y true b = refl
first_goes_on Or other false y false b = refl
first_goes_on Xor other v y z b = absurd (other refl)

second_goes_on : (o : Operation) → o ≢ Xor → (v y z b : Bool) →
    cond v y (combine o z b) ≡ combine o (cond v y z) (combine (between o) (cond (deciding o) (not v) v) b)
second_goes_on And other false y z b = refl
second_goes_on And other true true z b = refl
second_goes_on And other true false z b = refl
second_goes_on Or other false y z b = refl
second_goes_on Or other true true z b = refl
second_goes_on Or other true false z b = refl
second_goes_on Xor other v y z b = absurd (other refl)

pub joins_first : (m0 m1 : Table) → Extends m0 m1 → (o : Operation) → o ≢ Xor → (w x a b from r : ℕ)
    (l : List (ℕ × ℤ)) (e : ℕ × ℤ) → slice_get l from ≡ Some e →
    ((g : List Bool) → literal_holds g e.1 ≡ cond (deciding o) (value_in g x) (not (value_in g x))) →
    AreLiteralsBelow m0 w (from + 1) l → JoinsFrom m0 m1 o w a (from + 1) l r →
    JoinsHalves m0 m1 o w x a b from l (r, b)
joins_first m0 m1 e1 o other w x a b from r l e place sign below p = record {
  each = λ f h.
      let y = p.each h.first h.first_is in
      record {
        first = y.diagram;
        second = h.second;
        first_is = joined_under m0 m1 e1 o w (from + 1) r l h.first h.first_is.under below y;
        second_is = node_on m0 m1 e1 w b h.second h.second_is;
        value = λ g.
            let v = value_in g x in
            let rest = group_value o (drop (from + 1) l) g in
            ap (λ n. cond v n (meaning h.second g)) (y.value g)
            ∙ first_goes_on o other v (meaning h.first g) (meaning h.second g) rest
            ∙ ap (λ n. combine o n (combine (between o) (cond (deciding o) v (not v)) rest)) (h.value g)
            ∙ ap (λ n. combine o (f g) (combine (between o) n rest)) (sym (sign g))
            ∙ ap (combine o (f g)) (sym (from_more o other l from e place g));
      };
}

pub joins_second : (m0 m1 : Table) → Extends m0 m1 → (o : Operation) → o ≢ Xor → (w x a b from r : ℕ)
    (l : List (ℕ × ℤ)) (e : ℕ × ℤ) → slice_get l from ≡ Some e →
    ((g : List Bool) → literal_holds g e.1 ≡ cond (deciding o) (not (value_in g x)) (value_in g x)) →
    AreLiteralsBelow m0 w (from + 1) l → JoinsFrom m0 m1 o w b (from + 1) l r →
    JoinsHalves m0 m1 o w x a b from l (a, r)
joins_second m0 m1 e1 o other w x a b from r l e place sign below p = record {
  each = λ f h.
      let z = p.each h.second h.second_is in
      record {
        first = h.first;
        second = z.diagram;
        first_is = node_on m0 m1 e1 w a h.first h.first_is;
        second_is = joined_under m0 m1 e1 o w (from + 1) r l h.second h.second_is.under below z;
        value = λ g.
            let v = value_in g x in
            let rest = group_value o (drop (from + 1) l) g in
            ap (cond v (meaning h.first g)) (z.value g)
            ∙ second_goes_on o other v (meaning h.first g) (meaning h.second g) rest
            ∙ ap (λ n. combine o n (combine (between o) (cond (deciding o) (not v) v) rest)) (h.value g)
            ∙ ap (λ n. combine o (f g) (combine (between o) n rest)) (sym (sign g))
            ∙ ap (combine o (f g)) (sym (from_more o other l from e place g));
      };
}

-- the literal of a variable, by its sign
pub literal_sign : (x : ℕ) (e : ℤ) (b : Bool) → 1 ≤ x → unsigned_abs e ≡ x → lt_z (pos 0) e ≡ b →
    (g : List Bool) → literal_holds g e ≡ cond b (value_in g x) (not (value_in g x))
literal_sign x (pos n) b least same sign g =
    let yes : lt_z (pos 0) (pos n) ≡ true = grind (arith, nat_tests) in
    ap (value_in g) same ∙ ap (λ q. cond q (value_in g x) (not (value_in g x))) (sym yes ∙ sign)
literal_sign x (negsuc i) b least same sign g =
    let no : lt_z (pos 0) (negsuc i) ≡ false = refl in
    ap (λ y. not (value_in g y)) same ∙ ap (λ q. cond q (value_in g x) (not (value_in g x))) (sym no ∙ sign)

pub not_first : (b v : Bool) → cond (not b) v (not v) ≡ cond b (not v) v
not_first true v = refl
not_first false v = refl

-- two truth values that are compared
pub same_sign : (b d : Bool) → beq b d ≡ true → b ≡ d
same_sign true true h = refl
same_sign true false h = absurd (cc)
same_sign false true h = absurd (cc)
same_sign false false h = refl

pub other_sign : (b d : Bool) → beq b d ≡ false → b ≡ not d
other_sign true true h = absurd (cc)
other_sign true false h = refl
other_sign false true h = refl
other_sign false false h = absurd (cc)
