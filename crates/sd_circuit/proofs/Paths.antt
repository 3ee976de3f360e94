-- What is reached within so many steps, and what a set that nothing leads out of has.
use Rattle.std.proofs.Common.{◌≡◌, ◌⊎◌, ℕ, zero, suc, ◌<◌, ◌≤◌, ◌==◌, Bool, true, false, ◌&&◌, ◌||◌, List, length}
use Rattle.std.proofs.Common.{get_or, refl, sym, ◌∙◌, ap, subst, inl, inr, arith}
use Rattle.std.specs.List.{Any}
use Rattle.std.proofs.lemmas.Bool.{eqb-true, eq-eqb, or_cases, or_left, or_right, and_parts, and_from, cases_eq}
use Rattle.std.proofs.lemmas.Bool.{false_from_ne_true}
use Rattle.std.proofs.lemmas.List.{get_or_default}
use Rattle.std.proofs.lemmas.List.Folds.{Any-from_list_any, list_any_at}
use Rattle.sd_model.specs.Circuit.{AndLine}
use Rattle.sd_circuit.specs.Order.{line_at, variable_of, defined_at, Uses, reaches, leads_within}

-- the and-line that was read at an index
pub line_is : (ands : List AndLine) (k : ℕ) (line : AndLine) → k < length ands → line ≡ get_or ands k line
    → line_at ands k ≡ line
line_is ands k line inside is = get_or_default ands k _ line inside ∙ sym is

-- each variable is reached from itself
pub reaches_here : (ands : List AndLine) (n v : ℕ) → reaches ands n v v ≡ true
reaches_here ands zero v = eq-eqb v v refl
reaches_here ands (suc n) v = or_left _ _ (eq-eqb v v refl)

-- from what an and-line defines, what a right side of it leads to is reached
pub reaches_step : (ands : List AndLine) (n k to : ℕ) → k < length ands
    → (reaches ands n (variable_of (line_at ands k).first) to
    || reaches ands n (variable_of (line_at ands k).second) to) ≡ true
    → reaches ands (suc n) (defined_at ands k) to ≡ true
reaches_step ands n k to inside on =
    or_right (defined_at ands k == to) _
    (list_any_at (λ (line : AndLine). (variable_of line.defined == defined_at ands k)
    && (reaches ands n (variable_of line.first) to || reaches ands n (variable_of line.second) to)) ands k
    (record { defined = 0; first = 0; second = 0 }) inside
    (and_from (variable_of (line_at ands k).defined == defined_at ands k) _ (eq-eqb _ (defined_at ands k) refl) on))

-- an and-line of which a right side leads on
abbrev pub GoesOn : List AndLine → ℕ → ℕ → ℕ → Type 0
GoesOn ands n from to = (k : ℕ) × (k < length ands) × (defined_at ands k ≡ from)
    × ((reaches ands n (variable_of (line_at ands k).first) to
    || reaches ands n (variable_of (line_at ands k).second) to) ≡ true)

-- what is reached is there, or by an and-line that leads on
pub reaches_cases : (ands : List AndLine) (n from to : ℕ) → reaches ands (suc n) from to ≡ true
    → (from ≡ to) ⊎ GoesOn ands n from to
reaches_cases ands n from to on = elim (or_cases (from == to) _ on) [
  | inl same ↦ inl (eqb-true from to same)
  | inr some ↦
      inr (found (Any-from_list_any (λ (line : AndLine). (variable_of line.defined == from)
      && (reaches ands n (variable_of line.first) to || reaches ands n (variable_of line.second) to)) ands some))
]
  where
    found : Any (λ (line : AndLine). ((variable_of line.defined == from)
        && (reaches ands n (variable_of line.first) to || reaches ands n (variable_of line.second) to)) ≡ true) ands
        → GoesOn ands n from to
    found (k, line, inside, is, on') =
        let there : line_at ands k ≡ line = line_is ands k line inside (sym is) in
        let both = and_parts (variable_of line.defined == from) _ on' in (
          k,
          inside,
          ap (λ (l : AndLine). variable_of l.defined) there ∙ eqb-true (variable_of line.defined) from both.0,
          ap (λ (l : AndLine). reaches ands n (variable_of l.first) to || reaches ands n (variable_of l.second) to)
              there
              ∙ both.1,
        )

-- one of two tests holds where one of two others does
either_more : (a b a' b' : Bool) → (a ≡ true → a' ≡ true) → (b ≡ true → b' ≡ true) → (a || b) ≡ true
    → (a' || b') ≡ true
either_more a b a' b' left right on = elim (or_cases a b on) [
  | inl h ↦ or_left a' b' (left h)
  | inr h ↦ or_right a' b' (right h)
]

-- more steps are enough too
reaches_more : (ands : List AndLine) (n from to : ℕ) → reaches ands n from to ≡ true
    → reaches ands (suc n) from to ≡ true
reaches_more ands zero from to on = or_left (from == to) _ on
reaches_more ands (suc n) from to on = elim (reaches_cases ands n from to on) [
  | inl same ↦ or_left (from == to) _ (eq-eqb from to same)
  | inr (k, inside, is, goes) ↦
      subst (λ v. reaches ands (suc (suc n)) v to ≡ true) is
      (reaches_step ands (suc n) k to inside
      (either_more _ _ _ _ (reaches_more ands n (variable_of (line_at ands k).first) to)
      (reaches_more ands n (variable_of (line_at ands k).second) to) goes))
]

reaches_within : (ands : List AndLine) (n m from to : ℕ) → n ≤ m → reaches ands n from to ≡ true
    → reaches ands m from to ≡ true
reaches_within ands n zero from to most on =
    subst (λ k. reaches ands k from to ≡ true) (let e : n ≡ 0 = omega (arith, most) in e) on
reaches_within ands n (suc m) from to most on = elim (cases_eq n (suc m)) [
  | inl e ↦ subst (λ k. reaches ands k from to ≡ true) e on
  | inr less ↦ reaches_more ands m from to (reaches_within ands n m from to (omega (arith, most, less)) on)
]

-- what an and-line uses is a right side of it, which leads on
side : (ands : List AndLine) (n k used to : ℕ) → Uses ands k used → reaches ands n (defined_at ands used) to ≡ true
    → (reaches ands n (variable_of (line_at ands k).first) to
    || reaches ands n (variable_of (line_at ands k).second) to) ≡ true
side ands n k used to uses on = elim uses [
  | inl e ↦ or_left _ _ (subst (λ v. reaches ands n v to ≡ true) (sym e) on)
  | inr e ↦ or_right _ _ (subst (λ v. reaches ands n v to ≡ true) (sym e) on)
]

pub reaches_use : (ands : List AndLine) (n k used to : ℕ) → k < length ands → Uses ands k used
    → reaches ands n (defined_at ands used) to ≡ true → reaches ands (suc n) (defined_at ands k) to ≡ true
reaches_use ands n k used to inside uses on = reaches_step ands n k to inside (side ands n k used to uses on)

pub leads_from : (ands : List AndLine) (n k used other : ℕ) → Uses ands k used
    → reaches ands n (defined_at ands used) (defined_at ands other) ≡ true → leads_within ands n k other ≡ true
leads_from ands n k used other uses on = side ands n k used (defined_at ands other) uses on

-- one step more at the end
reaches_on : (ands : List AndLine) (n from k used : ℕ) → k < length ands → Uses ands k used
    → reaches ands n from (defined_at ands k) ≡ true → reaches ands (suc n) from (defined_at ands used) ≡ true
reaches_on ands zero from k used inside uses on =
    subst (λ v. reaches ands (suc zero) v (defined_at ands used) ≡ true)
    (sym (eqb-true from (defined_at ands k) on))
    (reaches_use ands zero k used (defined_at ands used) inside uses (reaches_here ands zero (defined_at ands used)))
reaches_on ands (suc n) from k used inside uses on = elim (reaches_cases ands n from (defined_at ands k) on) [
  | inl same ↦
      subst (λ v. reaches ands (suc (suc n)) v (defined_at ands used) ≡ true) (sym same)
      (reaches_use ands (suc n) k used (defined_at ands used) inside uses
      (reaches_here ands (suc n) (defined_at ands used)))
  | inr (j, there, is, goes) ↦
      subst (λ v. reaches ands (suc (suc n)) v (defined_at ands used) ≡ true) is
      (reaches_step ands (suc n) j (defined_at ands used) there
      (either_more _ _ _ _ (reaches_on ands n (variable_of (line_at ands j).first) k used inside uses)
      (reaches_on ands n (variable_of (line_at ands j).second) k used inside uses) goes))
]

pub leads_on : (ands : List AndLine) (n source k used : ℕ) → k < length ands → Uses ands k used
    → leads_within ands n source k ≡ true → leads_within ands (suc n) source used ≡ true
leads_on ands n source k used inside uses =
    either_more _ _ _ _ (reaches_on ands n (variable_of (line_at ands source).first) k used inside uses)
    (reaches_on ands n (variable_of (line_at ands source).second) k used inside uses)

pub leads_more : (ands : List AndLine) (n m source k : ℕ) → n ≤ m → leads_within ands n source k ≡ true
    → leads_within ands m source k ≡ true
leads_more ands n m source k most =
    either_more _ _ _ _ (reaches_within ands n m (variable_of (line_at ands source).first) (defined_at ands k) most)
    (reaches_within ands n m (variable_of (line_at ands source).second) (defined_at ands k) most)

-- a set of and-lines that has what its members use
abbrev pub IsClosedUnder : List AndLine → (ℕ → Type 0) → Type 0
IsClosedUnder ands P = (k used : ℕ) → k < length ands → used < length ands → P k → Uses ands k used → P used

-- it has each and-line that defines the variable
abbrev HasAll : List AndLine → (ℕ → Type 0) → ℕ → Type 0
HasAll ands P v = (k : ℕ) → k < length ands → defined_at ands k ≡ v → P k

-- nothing leads out of such a set
stays_inside : (ands : List AndLine) (P : ℕ → Type 0) → IsClosedUnder ands P
    → (n from to : ℕ) → reaches ands n from to ≡ true → HasAll ands P from → HasAll ands P to
stays_inside ands P closed zero from to on all = subst (λ v. HasAll ands P v) (eqb-true from to on) all
stays_inside ands P closed (suc n) from to on all = elim (reaches_cases ands n from to on) [
  | inl same ↦ subst (λ v. HasAll ands P v) same all
  | inr (k, inside, is, goes) ↦
      elim (or_cases (reaches ands n (variable_of (line_at ands k).first) to) _ goes) [
        | inl on' ↦
            stays_inside ands P closed n (variable_of (line_at ands k).first) to on'
            (λ j below e. closed k j inside below (all k inside is) (inl (sym e)))
        | inr on' ↦
            stays_inside ands P closed n (variable_of (line_at ands k).second) to on'
            (λ j below e. closed k j inside below (all k inside is) (inr (sym e)))
      ]
]

-- an and-line that is not in such a set, which has what it uses, does not lead to itself
pub never_leads : (ands : List AndLine) (P : ℕ → Type 0) (k : ℕ) → IsClosedUnder ands P
    → ((used : ℕ) → used < length ands → Uses ands k used → P used) → k < length ands → (P k → ⊥)
    → (n : ℕ) → leads_within ands n k k ≡ false
never_leads ands P k closed uses inside out n =
    false_from_ne_true (leads_within ands n k k)
    (λ on. out (there (or_cases (reaches ands n (variable_of (line_at ands k).first) (defined_at ands k)) _ on)))
  where
    there : (reaches ands n (variable_of (line_at ands k).first) (defined_at ands k) ≡ true)
        ⊎ (reaches ands n (variable_of (line_at ands k).second) (defined_at ands k) ≡ true) → P k
    there (inl on) =
        stays_inside ands P closed n (variable_of (line_at ands k).first) (defined_at ands k) on
        (λ j below e. uses j below (inl (sym e))) k inside refl
    there (inr on) =
        stays_inside ands P closed n (variable_of (line_at ands k).second) (defined_at ands k) on
        (λ j below e. uses j below (inr (sym e))) k inside refl
