-- The parity of two lists of literals from the parities of both.
use Rattle.std.proofs.Common.{◌≡◌, ℕ, ℤ, Bool, true, false, not, ◌&&◌, ◌||◌, List, take, drop, refl, ap, ◌∙◌}
use Rattle.sd_model.specs.declared.trees.Operation.TheVariants.{And, Or, Xor}
use Rattle.sd_model.specs.Assignment.{literal_holds}
use Rattle.sd_model.specs.Expression.{combine}
use Rattle.sd_manager.specs.Table.{Table}
use Rattle.sd_manager.specs.Making.{Extends}
use Rattle.sd_apply.specs.Answers.{HasAnswer, Combines, Negates}
use Rattle.sd_compile.specs.Joined.{literal_of_place, HasBothAnswers}
use Rattle.sd_compile.proofs.Joining.{answer_on, answer_same, combined}
use Rattle.sd_compile.proofs.Grouping.{joined_parts, placed_value}

-- the negation of a node with a value
pub negated : (old new : Table) (f : List Bool → Bool) (a c : ℕ) → HasAnswer old f a → Negates old new a c →
    HasAnswer new (λ g. not (f g)) c
negated old new f a c h negates =
    let r = negates.each h.diagram h.is in
    record { diagram = r.diagram; is = r.is; value = λ g. r.value g ∙ ap not (h.value g) }

-- a node with a value, and its negation
pub with_opposite : (old new : Table) (f : List Bool → Bool) (a c : ℕ) → Extends old new → HasAnswer old f a →
    Negates old new a c → HasBothAnswers new f a c
with_opposite old new f a c kept h negates =
    record { one = answer_on old new f a kept h; other = negated old new f a c h negates }

-- two conjunctions, joined
pub one_of_both : (t0 t1 t2 t3 : Table) (p q r s : List Bool → Bool) (a b d e one other c : ℕ) → Extends t0 t1 →
    Extends t1 t2 → HasAnswer t0 p a → HasAnswer t0 q b → HasAnswer t0 r d → HasAnswer t0 s e →
    Combines t0 t1 And a b one → Combines t1 t2 And d e other → Combines t2 t3 Or one other c →
    HasAnswer t3 (λ g. (p g && q g) || (r g && s g)) c
one_of_both t0 t1 t2 t3 p q r s a b d e one other c kept kept2 hp hq hr hs first second both =
    combined t2 t3 Or (λ g. p g && q g) (λ g. r g && s g) one other c
    (answer_on t1 t2 (λ g. p g && q g) one kept2 (combined t0 t1 And p q a b one hp hq first))
    (combined t1 t2 And r s d e other (answer_on t0 t1 r d kept hr) (answer_on t0 t1 s e kept hs) second)
    both

-- one value is true and the other is not
apart : (b c : Bool) → ((b && not c) || (not b && c)) ≡ combine Xor b c
apart true true = refl
apart true false = refl
apart false c = refl

-- both values are true, or none
alike : (b c : Bool) → ((b && c) || (not b && not c)) ≡ not (combine Xor b c)
alike true true = refl
alike true false = refl
alike false c = refl

-- the exclusive or of two values and its negation
pub exclusive_both : (t1 t2 : Table) (f g : List Bool → Bool) (odd even : ℕ) → Extends t1 t2 →
    HasAnswer t1 (λ a. (f a && not (g a)) || (not (f a) && g a)) odd →
    HasAnswer t2 (λ a. (f a && g a) || (not (f a) && not (g a))) even →
    HasBothAnswers t2 (λ a. combine Xor (f a) (g a)) odd even
exclusive_both t1 t2 f g odd even kept one other = record {
  one =
      answer_on t1 t2 (λ a. combine Xor (f a) (g a)) odd kept
      (answer_same t1 (λ a. (f a && not (g a)) || (not (f a) && g a)) (λ a. combine Xor (f a) (g a)) odd
      (λ a. apart (f a) (g a)) one);
  other =
      answer_same t2 (λ a. (f a && g a) || (not (f a) && not (g a))) (λ a. not (combine Xor (f a) (g a))) even
      (λ a. alike (f a) (g a)) other;
}

-- both answers in a later table
pub both_on : (old new : Table) (f : List Bool → Bool) (a b : ℕ) → Extends old new → HasBothAnswers old f a b →
    HasBothAnswers new f a b
both_on old new f a b kept h = record {
  one = answer_on old new f a kept h.one;
  other = answer_on old new (λ g. not (f g)) b kept h.other;
}

-- and of an equal value
pub both_same : (t : Table) (f g : List Bool → Bool) (a b : ℕ) → ((s : List Bool) → f s ≡ g s) →
    HasBothAnswers t f a b → HasBothAnswers t g a b
both_same t f g a b same h = record {
  one = answer_same t f g a same h.one;
  other = answer_same t (λ s. not (f s)) (λ s. not (g s)) b (λ s. ap not (same s)) h.other;
}

-- of a list in two parts
pub parts_parity : (t : Table) (n : ℕ) (placed : List (ℕ × ℤ)) (a b : ℕ) →
    HasBothAnswers t (λ s. combine Xor (placed_value Xor (take n placed) s) (placed_value Xor (drop n placed) s)) a b →
    HasBothAnswers t (placed_value Xor placed) a b
parts_parity t n placed a b h =
    both_same t (λ s. combine Xor (placed_value Xor (take n placed) s) (placed_value Xor (drop n placed) s))
    (placed_value Xor placed) a b (λ s. joined_parts Xor (λ e. literal_holds s (literal_of_place e)) n placed) h
