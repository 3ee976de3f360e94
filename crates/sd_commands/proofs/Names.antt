-- Bound names, each once, and the formulas that they stand for.
use Rattle.std.proofs.Common.{◌≡◌, ◌≢◌, ℕ, true, false, not, eqb, List, [], ◌∷◌, map, filter}
use Rattle.std.proofs.Common.{Some, None, refl, sym, ap, inl, inr}
use Rattle.std.specs.List.{AllByRecursion}
use Rattle.std.proofs.lemmas.Bool.{cases_eq, cases_Bool, eq-eqb, ne_eqb}
use Rattle.std.proofs.lemmas.Option.{same_Some}
use Rattle.sd_model.specs.Tree.{AreDistinct}
use Rattle.sd_model.specs.Expression.{Expression}
use Rattle.sd_laws.proofs.Lists.{IsAmong, all_at}
use Rattle.sd_commands.specs.Commands.{named}
use Rattle.sd_commands.specs.Fits.{has}

-- the names of entries
abbrev keys : List (ℕ × Expression) → List ℕ
keys es = map (λ e. e.0) es

-- ---- a name more, or less

-- a name that stands for nothing is none of the names
differs : (es : List (ℕ × Expression)) (name : ℕ) → named es name ≡ None → AllByRecursion (λ y. name ≢ y) (keys es)
differs [] name none = tt
differs (e ∷ es) name none = elim (cases_eq e.0 name) [
  | inl same ↦ let bad : Some e.1 ≡ None = rw (eq-eqb e.0 name same) at none in absurd cc
  | inr apart ↦
      let rest : named es name ≡ None = rw (ne_eqb e.0 name apart) at none in
      (λ same. apart (sym same), differs es name rest)
]

pub distinct_bound : (es : List (ℕ × Expression)) (name : ℕ) → named es name ≡ None → AreDistinct (keys es)
    → AreDistinct (name ∷ keys es)
distinct_bound es name none distinct = (differs es name none, distinct)

-- what holds of each name holds of those that are left
all_left : (P : ℕ → Type 0) (es : List (ℕ × Expression)) (a : ℕ) → AllByRecursion P (keys es)
    → AllByRecursion P (keys (filter (λ e. not (eqb e.0 a)) es))
all_left P [] a all = tt
all_left P (e ∷ es) a all = elim (cases_eq e.0 a) [
  | inl same ↦ rw (eq-eqb e.0 a same) (all_left P es a all.1)
  | inr differ ↦ rw (ne_eqb e.0 a differ) (all.0, all_left P es a all.1)
]

pub distinct_dropped : (es : List (ℕ × Expression)) (a : ℕ) → AreDistinct (keys es)
    → AreDistinct (keys (filter (λ e. not (eqb e.0 a)) es))
distinct_dropped [] a distinct = tt
distinct_dropped (e ∷ es) a distinct = elim (cases_eq e.0 a) [
  | inl same ↦ rw (eq-eqb e.0 a same) (distinct_dropped es a distinct.1)
  | inr differ ↦
      rw (ne_eqb e.0 a differ)
      (all_left (λ y. e.0 ≢ y) es a distinct.0, distinct_dropped es a distinct.1)
]

-- ---- what a name stands for

-- what a name stands for is among the formulas, and the name is among the names
pub named_formula : (es : List (ℕ × Expression)) (n : ℕ) (f : Expression) → named es n ≡ Some f
    → IsAmong f (map (λ e. e.1) es)
named_formula [] n f is = absurd cc
named_formula (e ∷ es) n f is = elim (cases_eq e.0 n) [
  | inl same ↦
      let here : Some e.1 ≡ Some f = rw (eq-eqb e.0 n same) at is in
      inl (sym (same_Some e.1 f here))
  | inr apart ↦
      let rest : named es n ≡ Some f = rw (ne_eqb e.0 n apart) at is in
      inr (named_formula es n f rest)
]

named_key : (es : List (ℕ × Expression)) (n : ℕ) (f : Expression) → named es n ≡ Some f → IsAmong n (keys es)
named_key [] n f is = absurd cc
named_key (e ∷ es) n f is = elim (cases_eq e.0 n) [
  | inl same ↦ inl (sym same)
  | inr apart ↦
      let rest : named es n ≡ Some f = rw (ne_eqb e.0 n apart) at is in
      inr (named_key es n f rest)
]

-- where each name stands once, each of the formulas is what some name stands for
pub formula_named_by : (es : List (ℕ × Expression)) (f : Expression) → AreDistinct (keys es)
    → IsAmong f (map (λ e. e.1) es) → (n : ℕ) × (named es n ≡ Some f)
formula_named_by [] f distinct among = absurd among
formula_named_by (e ∷ es) f distinct (inl same) = (e.0, rw (eq-eqb e.0 e.0 refl) (ap Some (sym same)))
formula_named_by (e ∷ es) f distinct (inr among) =
    let rest = formula_named_by es f distinct.1 among in
    let apart : e.0 ≢ rest.0 = all_at (λ y. e.0 ≢ y) (keys es) rest.0 distinct.0 (named_key es rest.0 f rest.1) in
    (rest.0, rw (ne_eqb e.0 rest.0 apart) rest.1)

-- ---- a free name

-- a name that is not among the bound ones stands for nothing
pub named_not : (es : List (ℕ × Expression)) (n : ℕ) → has (keys es) n ≡ false → named es n ≡ None
named_not [] n h = refl
named_not (e ∷ es) n h = elim (cases_Bool (eqb e.0 n)) [
  | inl here ↦ let bad : true ≡ false = rw here at h in absurd cc
  | inr apart ↦
      let later : has (keys es) n ≡ false = rw apart at h in
      rw apart (named_not es n later)
]
