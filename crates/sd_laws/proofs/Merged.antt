-- Compression: two elements with one sub are joined by the disjunction of their primes.
use Rattle.std.proofs.Common.{◌≡◌, ◌≢◌, ℕ, Bool, true, false, cond, ◌||◌, List, [], ◌∷◌, ◌++◌, length}
use Rattle.std.proofs.Common.{refl, sym, ◌∙◌, ap, subst, arith, append_assoc, length-append}
use Rattle.std.specs.List.{AllByRecursion}
use Rattle.std.specs.List.Sorted.{IsStrictlySortedBy}
use Rattle.std.specs.Ordering.{nat_cmp}
use Rattle.std.specs.declared.cmp.Ordering.TheVariants.{Less}
use Rattle.std.proofs.lemmas.Cmp.{nat_cmp_total}
use Rattle.sd_model.specs.Tree.{Tree, AreDistinct}
use Rattle.sd_model.specs.Diagram.{Diagram, Bottom, meaning}
use Rattle.sd_model.specs.Canonical.{IsCanonical}
use Rattle.sd_model.proofs.Blend.{IsApart}
use Rattle.sd_model.proofs.Valued.{IsTrueSomewhere, true_somewhere}
use Rattle.sd_laws.specs.Pairs.{answers, HasValue}
use Rattle.sd_laws.proofs.Products.{answers_append}

-- where one value is chosen in all, two elements with one sub choose what their joined element chooses
merged_values : (p q s : Bool) (xs ys : List Bool) (v : Bool) →
    xs ++ cond p (s ∷ cond q (s ∷ ys) ys) (cond q (s ∷ ys) ys) ≡ v ∷ [] →
    xs ++ cond (p || q) (s ∷ ys) ys ≡ v ∷ []
merged_values true true s xs ys v e =
    absurd (omega (arith, ap length e, length-append xs (s ∷ s ∷ ys)))
merged_values true false s xs ys v e = e
merged_values false true s xs ys v e = e
merged_values false false s xs ys v e = e

-- two neighbours with one sub become one element, at any place of the list
pub merged_value : (xs ys : List (Diagram × Diagram)) (d e : Diagram × Diagram) (p : Diagram)
    (f : List Bool → Bool) → d.1 ≡ e.1 → ((a : List Bool) → meaning p a ≡ (meaning d.0 a || meaning e.0 a)) →
    HasValue (xs ++ d ∷ e ∷ ys) f → HasValue (xs ++ (p, d.1) ∷ ys) f
merged_value xs ys d e p f same prime h a =
    answers_append a xs ((p, d.1) ∷ ys)
    ∙ ap (λ b. answers a xs ++ cond b (meaning d.1 a ∷ answers a ys) (answers a ys)) (prime a)
    ∙ merged_values (meaning d.0 a) (meaning e.0 a) (meaning d.1 a) (answers a xs) (answers a ys) (f a) whole
  where
    sub : meaning e.1 a ≡ meaning d.1 a
    sub = ap (λ x. meaning x a) (sym same)

    whole : answers a xs
        ++ cond (meaning d.0 a) (meaning d.1 a ∷ cond (meaning e.0 a) (meaning d.1 a ∷ answers a ys) (answers a ys))
        (cond (meaning e.0 a) (meaning d.1 a ∷ answers a ys) (answers a ys))
        ≡ f a ∷ []
    whole =
        ap (λ b. answers a xs
        ++ cond (meaning d.0 a) (meaning d.1 a ∷ cond (meaning e.0 a) (b ∷ answers a ys) (answers a ys))
        (cond (meaning e.0 a) (b ∷ answers a ys) (answers a ys))) (sym sub)
        ∙ sym (answers_append a xs (d ∷ e ∷ ys)) ∙ h a

-- the last of the merged elements takes the next one in
pub merged_last : (gs rest : List (Diagram × Diagram)) (x d : Diagram × Diagram) (p : Diagram)
    (f : List Bool → Bool) → x.1 ≡ d.1 → ((a : List Bool) → meaning p a ≡ (meaning x.0 a || meaning d.0 a)) →
    HasValue ((gs ++ x ∷ []) ++ d ∷ rest) f → HasValue ((gs ++ (p, x.1) ∷ []) ++ rest) f
merged_last gs rest x d p f same prime h =
    subst (λ l. HasValue l f) (sym (append_assoc gs ((p, x.1) ∷ []) rest))
    (merged_value gs rest x d p f same prime
    (subst (λ l. HasValue l f) (append_assoc gs (x ∷ []) (d ∷ rest)) h))

-- or the next one stands behind it
pub merged_push : (gs rest : List (Diagram × Diagram)) (d : Diagram × Diagram) (f : List Bool → Bool) →
    HasValue (gs ++ d ∷ rest) f → HasValue ((gs ++ d ∷ []) ++ rest) f
merged_push gs rest d f h = subst (λ l. HasValue l f) (sym (append_assoc gs (d ∷ []) rest)) h

-- a disjunction with a prime that can be true can be true
pub or_possible : (n : ℕ) (l : Tree) (base : ℕ) (x y p : Diagram) → IsApart n l → IsCanonical l base x → x ≢ Bottom →
    ((a : List Bool) → meaning p a ≡ (meaning x a || meaning y a)) → p ≢ Bottom
or_possible n l base x y p apart k possible value e =
    let w : IsTrueSomewhere x true = true_somewhere n apart k possible in
    let a = w.assignment in
    let one : (meaning x a || meaning y a) ≡ true = rw w.value refl in
    let none : meaning p a ≡ false = ap (λ d. meaning d a) e in
    cc (one, value a, none)

-- numbers that ascend strictly are different
pub ascending_distinct : (xs : List ℕ) → IsStrictlySortedBy nat_cmp xs → AreDistinct xs
unfolding IsStrictlySortedBy
ascending_distinct [] h = tt
ascending_distinct (x ∷ xs) h = (each xs h.0, ascending_distinct xs h.1)
  where
    itself : (y : ℕ) → nat_cmp x y ≡ Less → x ≢ y
    itself y h e = not_itself y (subst (λ z. nat_cmp z y ≡ Less) e h)
      where
        not_itself : (y : ℕ) → nat_cmp y y ≡ Less → ⊥
        not_itself y h = cc (nat_cmp_total.antisymm y y, h)

    each : (ys : List ℕ) → AllByRecursion (λ y. nat_cmp x y ≡ Less) ys → AllByRecursion (λ y. x ≢ y) ys
    each [] a = tt
    each (y ∷ ys) a = (itself y a.0, each ys a.1)

-- numbers that ascend strictly to a last one go on with a greater one
pub ascending_push : (xs : List ℕ) (last y : ℕ) → IsStrictlySortedBy nat_cmp (xs ++ last ∷ []) → nat_cmp last y ≡ Less →
    IsStrictlySortedBy nat_cmp ((xs ++ last ∷ []) ++ y ∷ [])
unfolding IsStrictlySortedBy
ascending_push [] last y h less = ((less, tt), (tt, tt))
ascending_push (x ∷ xs) last y h less = (below xs h.0, ascending_push xs last y h.1 less)
  where
    below : (xs : List ℕ) → AllByRecursion (λ z. nat_cmp x z ≡ Less) (xs ++ last ∷ []) →
        AllByRecursion (λ z. nat_cmp x z ≡ Less) ((xs ++ last ∷ []) ++ y ∷ [])
    below [] a = (a.0, (nat_cmp_total.trans x last y a.0 less, tt))
    below (z ∷ xs) a = (a.0, below xs a.1)
