-- The first state of least size, by a walk over the states and by those before and behind it.
use Rattle.std.proofs.Common.{◌≡◌, ℕ, ◌<◌, ◌≤◌, List, [], ◌∷◌, ◌++◌, refl, sym, ◌∙◌, ap, subst}
use Rattle.std.proofs.Common.{inl, inr, le-ltb, lt-ltb}
use native.Mathlib.Omega.{arith}
use Rattle.std.specs.List.{AllByRecursion}
use Rattle.std.proofs.lemmas.Bool.{cases_lt}
use Rattle.sd_model.specs.Expression.{Expression}
use Rattle.sd_model.specs.Tree.{Tree}
use Rattle.sd_model.specs.declared.trees.Side.{Side}
use Rattle.sd_search.specs.Search.{State, first_least, IsWalk}
use Rattle.sd_search.specs.Walking.{IsFirstLeast}

-- what holds of all holds of one in the middle
pub all_middle : {A : Type 0} (P : A → Type 0) (xs ys : List A) (a : A) → AllByRecursion P (xs ++ a ∷ ys) → P a
all_middle P [] ys a h = h.0
all_middle P (x ∷ xs) ys a h = all_middle P xs ys a h.1

-- there is one
one_least : (xs ys us vs : List State) (a b : State) → xs ++ a ∷ us ≡ ys ++ b ∷ vs →
    AllByRecursion (λ s. a.size < s.size) xs → AllByRecursion (λ s. a.size ≤ s.size) us →
    AllByRecursion (λ s. b.size < s.size) ys → AllByRecursion (λ s. b.size ≤ s.size) vs → a ≡ b
one_least [] [] us vs a b e p q r s = cc
one_least [] (y ∷ ys) us vs a b e p q r s =
    let head : a ≡ y = cc in
    let tail : us ≡ ys ++ b ∷ vs = cc in
    let least : a.size ≤ b.size =
    all_middle (λ s. a.size ≤ s.size) ys vs b (subst (AllByRecursion (λ s. a.size ≤ s.size)) tail q) in
    absurd (omega (arith, least, r.0, ap (λ s. s.size) head))
one_least (x ∷ xs) [] us vs a b e p q r s =
    let head : x ≡ b = cc in
    let tail : xs ++ a ∷ us ≡ vs = cc in
    let least : b.size ≤ a.size =
    all_middle (λ s. b.size ≤ s.size) xs us a (subst (AllByRecursion (λ s. b.size ≤ s.size)) (sym tail) s) in
    absurd (omega (arith, least, p.0, ap (λ s. s.size) head))
one_least (x ∷ xs) (y ∷ ys) us vs a b e p q r s =
    let tail : xs ++ a ∷ us ≡ ys ++ b ∷ vs = cc in
    one_least xs ys us vs a b tail p.1 q r.1 s

pub least_determined : (states : List State) (a b : State) → IsFirstLeast states a → IsFirstLeast states b → a ≡ b
least_determined states a b p q =
    one_least p.before q.before p.behind q.behind a b (sym p.parts ∙ q.parts)
    p.larger p.not_smaller q.larger q.not_smaller

-- the first of least size is at most the first of all
pub least_within : (before behind states : List State) (least first : State) →
    first ∷ states ≡ before ++ least ∷ behind →
    AllByRecursion (λ s. least.size < s.size) before → least.size ≤ first.size
least_within [] behind states least first e larger =
    (let same : first ≡ least = cc in omega (arith, ap (λ s. s.size) same))
least_within (s ∷ before) behind states least first e larger =
    (let same : first ≡ s = cc in omega (arith, ap (λ s. s.size) same, larger.0))

-- a larger state in front of others is passed
larger_passed : (s x l : State) (states : List State) → x.size < s.size → IsFirstLeast (x ∷ states) l
    → IsFirstLeast (s ∷ x ∷ states) l
larger_passed s x l states less p = record {
  before = s ∷ p.before;
  behind = p.behind;
  parts = ap (λ l. s ∷ l) p.parts;
  larger = (
    omega (arith, less, least_within p.before p.behind states l x p.parts p.larger),
    p.larger,
  );
  not_smaller = p.not_smaller;
}

-- a second state that is no smaller is passed
second_passed : (s x l : State) (states before behind : List State) → s.size ≤ x.size
    → s ∷ states ≡ before ++ l ∷ behind → AllByRecursion (λ u. l.size < u.size) before
    → AllByRecursion (λ u. l.size ≤ u.size) behind → IsFirstLeast (s ∷ x ∷ states) l
second_passed s x l states [] behind less parts larger not_smaller =
    let head : s ≡ l = cc in
    let tail : states ≡ behind = cc in
    record {
      before = [];
      behind = x ∷ behind;
      parts = ap (λ u. u ∷ x ∷ states) head ∙ ap (λ us. l ∷ x ∷ us) tail;
      larger = tt;
      not_smaller = (omega (arith, less, ap (λ u. u.size) head), not_smaller);
    }
second_passed s x l states (b ∷ before) behind less parts larger not_smaller =
    let head : s ≡ b = cc in
    let tail : states ≡ before ++ l ∷ behind = cc in
    record {
      before = s ∷ x ∷ before;
      behind = behind;
      parts = ap (λ us. s ∷ x ∷ us) tail;
      larger = (
        omega (arith, larger.0, ap (λ u. u.size) head),
        (omega (arith, less, larger.0, ap (λ u. u.size) head), larger.1),
      );
      not_smaller = not_smaller;
    }

-- it is found by a walk over the states
pub first_least_is : (state : State) (states : List State) → IsFirstLeast (state ∷ states) (first_least state states)
first_least_is s [] = record { before = []; behind = []; parts = refl; larger = tt; not_smaller = tt }
first_least_is s (x ∷ states) = elim (cases_lt x.size s.size) [
  | inl less ↦
      rw (lt-ltb x.size s.size less) (larger_passed s x (first_least x states) states less (first_least_is x states))
  | inr more ↦
      let rest = first_least_is s states in
      rw (le-ltb x.size s.size more)
      (second_passed s x (first_least s states) states rest.before rest.behind more rest.parts rest.larger
      rest.not_smaller)
]

-- what is so is found
pub least_found : (state : State) (states : List State) (least : State) → IsFirstLeast (state ∷ states) least
    → first_least state states ≡ least
least_found state states least is =
    least_determined (state ∷ states) (first_least state states) least (first_least_is state states) is

-- the state to which a walk goes back
abbrev pub least_of : {fs : List Expression} {slack : ℕ} {t : Tree} {path : List Side} {u : Tree}
    → IsWalk fs slack t path u → State
least_of {t} p = first_least (record { tree = t; size = p.size }) p.states

pub first_of : {fs : List Expression} {slack : ℕ} {t : Tree} {path : List Side} {u : Tree}
    → (p : IsWalk fs slack t path u) → IsFirstLeast (record { tree = t; size = p.size } ∷ p.states) (least_of p)
first_of {t} p = first_least_is (record { tree = t; size = p.size }) p.states
