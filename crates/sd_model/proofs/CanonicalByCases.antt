-- Canonical decompositions of two or three elements, and functions that agree as trying each assignment shows.
use Rattle.std.proofs.Common.{◌≡◌, ◌≢◌, ℕ, suc, ◌≤◌, Bool, true, false, cond, not}
use Rattle.std.proofs.Common.{◌&&◌, List, [], ◌∷◌, length, refl, ap, arith, zero}
use Rattle.std.specs.List.{list_all}
use Rattle.std.specs.List.Sorted.{IsStrictlySortedBy}
use Rattle.std.specs.declared.cmp.Ordering.TheVariants.{Less}
use Rattle.sd_model.specs.Assignment.{value_in}
use Rattle.sd_model.specs.Tree.{Tree, Leaf, Node, right_base, position}
use Rattle.sd_model.specs.Diagram.{Diagram, Literal, Decomposition, meaning, is_constant, diagram_cmp}
use Rattle.sd_model.specs.Canonical.{IsElement, first, later, true_primes, AreDifferent}
use Rattle.sd_model.specs.Canonical.{IsCanonical, canonical_literal, canonical_decomposition}
use Rattle.sd_model.proofs.Blend.{assignment_of, value_in_assignment_of}
use Rattle.sd_model.proofs.Order.{trans}
use Rattle.sd_model.proofs.WorkedDiagrams.{two, three}

-- what holds of two elements holds of each
pub each_of_two : (P : Diagram → Diagram → Type 0) {p s q t : Diagram} → P p s → P q t →
    (x y : Diagram) → IsElement x y (two p s q t) → P x y
each_of_two P a b x y first = a
each_of_two P a b x y (later first) = b
each_of_two P a b x y (later (later m)) = elim m [ ]

-- what holds of three elements holds of each
pub each_of_three : (P : Diagram → Diagram → Type 0) {p s q t u v : Diagram} → P p s → P q t → P u v →
    (x y : Diagram) → IsElement x y (three p s q t u v) → P x y
each_of_three P a b c x y first = a
each_of_three P a b c x y (later first) = b
each_of_three P a b c x y (later (later first)) = c
each_of_three P a b c x y (later (later (later m))) = elim m [ ]

-- some assignment makes a diagram true
abbrev pub Holds : Diagram → Type 0
Holds d = (a : List Bool) × (meaning d a ≡ true)

-- what a canonical decomposition of two elements has beside its canonical primes and subs
pub record Halves (p s q t : Diagram) : Type 0 where
  pub one_prime : (a : List Bool) → true_primes (two p s q t) a ≡ 1
  pub first_holds : Holds p
  pub second_holds : Holds q
  pub different : s ≢ t
  pub inner : (is_constant s && is_constant t) ≡ false
  pub ascending : diagram_cmp p q ≡ Less

-- two elements of canonical diagrams make a canonical decomposition
pub canonical_halves : {l r : Tree} {base : ℕ} {p s q t : Diagram} → IsCanonical l base p → IsCanonical l base q →
    IsCanonical r (right_base l base) s → IsCanonical r (right_base l base) t → Halves p s q t →
    IsCanonical (Node l r) base (Decomposition (position (Node l r) base) (two p s q t))
unfolding IsStrictlySortedBy
canonical_halves {l} {r} {base} {p} {s} {q} {t} cp cq cs ct h =
    canonical_decomposition
    (each_of_two (λ x _. IsCanonical l base x) cp cq)
    (each_of_two (λ _ y. IsCanonical r (right_base l base) y) cs ct)
    (record {
      several = omega arith;
      one_prime = h.one_prime;
      no_false_prime = each_of_two (λ x _. Holds x) h.first_holds h.second_holds;
      compressed = ((h.different, tt), (tt, tt));
      trimmed = both (is_constant s) (is_constant t) h.inner;
      ascending = ((h.ascending, tt), (tt, tt));
    })
  where
    both : (b c : Bool) → (b && c) ≡ false → (b && (c && true)) ≡ false
    both true true e = e
    both true false e = refl
    both false c e = refl

-- a variable's negation and the variable as primes, over two canonical subs
pub canonical_split : {r : Tree} {x base : ℕ} {s t : Diagram} → 1 ≤ x →
    IsCanonical r (right_base (Leaf x) base) s → IsCanonical r (right_base (Leaf x) base) t →
    s ≢ t → (is_constant s && is_constant t) ≡ false →
    diagram_cmp (Literal base x false) (Literal base x true) ≡ Less →
    IsCanonical (Node (Leaf x) r) base
    (Decomposition (position (Node (Leaf x) r) base) (two (Literal base x false) s (Literal base x true) t))
canonical_split {r} {x} {base} {s} {t} low cs ct different inner ascending =
    canonical_halves (canonical_literal false) (canonical_literal true) cs ct
    (record {
      one_prime = λ a. one (value_in a x);
      first_holds = (assignment_of x (λ _. false), ap not (value_in_assignment_of x x (λ _. false) low (omega arith)));
      second_holds = (assignment_of x (λ _. true), value_in_assignment_of x x (λ _. true) low (omega arith));
      different = different;
      inner = inner;
      ascending = ascending;
    })
  where
    one : (b : Bool) → cond (not b) (suc (cond b 1 0)) (cond b 1 0) ≡ 1
    one true = refl
    one false = refl

-- what one of three elements has
pub record Thirds (p s q t u v : Diagram) : Type 0 where
  pub one_prime : (a : List Bool) → true_primes (three p s q t u v) a ≡ 1
  pub first_holds : Holds p
  pub second_holds : Holds q
  pub third_holds : Holds u
  pub different : AreDifferent (s ∷ t ∷ v ∷ [])
  pub trimmed : list_all is_constant (s ∷ t ∷ v ∷ []) ≡ false
  pub first_less : diagram_cmp p q ≡ Less
  pub second_less : diagram_cmp q u ≡ Less

-- three elements of canonical diagrams make a canonical decomposition
pub canonical_thirds : {l r : Tree} {base : ℕ} {p s q t u v : Diagram} →
    IsCanonical l base p → IsCanonical l base q → IsCanonical l base u →
    IsCanonical r (right_base l base) s → IsCanonical r (right_base l base) t →
    IsCanonical r (right_base l base) v → Thirds p s q t u v →
    IsCanonical (Node l r) base (Decomposition (position (Node l r) base) (three p s q t u v))
unfolding IsStrictlySortedBy
canonical_thirds {l} {r} {base} {p} {s} {q} {t} {u} {v} cp cq cu cs ct cv h =
    canonical_decomposition
    (each_of_three (λ x _. IsCanonical l base x) cp cq cu)
    (each_of_three (λ _ y. IsCanonical r (right_base l base) y) cs ct cv)
    (record {
      several = omega arith;
      one_prime = h.one_prime;
      no_false_prime = each_of_three (λ x _. Holds x) h.first_holds h.second_holds h.third_holds;
      compressed = h.different;
      trimmed = h.trimmed;
      ascending =
          ((h.first_less, (trans p q u h.first_less h.second_less, tt)), ((h.second_less, tt), (tt, tt)));
    })

-- whether two functions of n truth values agree, by trying each assignment
abbrev pub agree : ℕ → (List Bool → Bool) → (List Bool → Bool) → Bool
agree zero f g = cond (f []) (g []) (not (g []))
agree (suc n) f g =
    agree n (λ a. f (true ∷ a)) (λ a. g (true ∷ a)) && agree n (λ a. f (false ∷ a)) (λ a. g (false ∷ a))

-- what was tried holds
pub agree_at : (n : ℕ) (f g : List Bool → Bool) → agree n f g ≡ true → (a : List Bool) → length a ≡ n → f a ≡ g a
agree_at zero f g h [] e = go (f []) (g []) h
  where
    go : (b c : Bool) → cond b c (not c) ≡ true → b ≡ c
    go true true h = refl
    go true false h = cc
    go false true h = cc
    go false false h = refl
agree_at zero f g h (b ∷ a) e = absurd (omega arith)
agree_at (suc n) f g h [] e = absurd (omega arith)
agree_at (suc n) f g h (true ∷ a) e =
    agree_at n (λ a. f (true ∷ a)) (λ a. g (true ∷ a)) (first_true _ _ h) a (omega arith)
  where
    first_true : (b c : Bool) → (b && c) ≡ true → b ≡ true
    first_true true c h = refl
    first_true false c h = cc
agree_at (suc n) f g h (false ∷ a) e =
    agree_at n (λ a. f (false ∷ a)) (λ a. g (false ∷ a)) (second_true _ _ h) a (omega arith)
  where
    second_true : (b c : Bool) → (b && c) ≡ true → c ≡ true
    second_true true c h = h
    second_true false c h = cc
