-- Conditioning a constant or a literal.
use Rattle.std.proofs.Common.{◌≡◌, ◌≢◌, ℕ, ◌≤◌, ◌<◌, ◌/◌, ◌%◌, Bool, true, false, not, List}
use Rattle.std.proofs.Common.{refl, sym, ◌∙◌, ap, subst, arith, nat_eq}
use mathlib.Core.Bool.{beq}
use Rattle.std.specs.FinMap.{get}
use Rattle.std.proofs.lemmas.Bool.Decides.{nat_tests}
use Rattle.sd_model.specs.Assignment.{value_in, with_value}
use Rattle.sd_model.specs.Diagram.{Diagram, Bottom, Top, Literal, Decomposition, meaning}
use Rattle.sd_model.specs.Canonical.{canonical_bottom, canonical_top}
use Rattle.sd_model.proofs.Changed.{value_changed, value_kept}
use Rattle.sd_laws.specs.Shown.{literal_code}
use Rattle.sd_laws.proofs.Codes.{literal_range, node_range}
use Rattle.sd_manager.specs.Table.{Table}
use Rattle.sd_manager.specs.Shown.{ShowsCanonical}
use Rattle.sd_manager.specs.Valid.{IsTable}
use Rattle.sd_cond.specs.Calls.{conditioned, AnswersOf}

-- a literal's code
pub half : (x : ℕ) (b : Bool) → literal_code x b / 2 ≡ x
half x true = omega arith
half x false = omega arith

pub sign : (x : ℕ) (b : Bool) → nat_eq (literal_code x b % 2) 0 ≡ b
sign x true = grind (arith, nat_tests)
sign x false = grind (arith, nat_tests)

-- a literal looks at its variable alone
literal_same : (p y : ℕ) (b : Bool) (g k : List Bool) → value_in g y ≡ value_in k y →
    meaning (Literal p y b) g ≡ meaning (Literal p y b) k
literal_same p y true g k e = e
literal_same p y false g k e = ap not e

-- and holds where the variable is set to its sign
pub literal_set : (p y : ℕ) (b s : Bool) (g : List Bool) → 1 ≤ y →
    meaning (Literal p y b) (with_value g y s) ≡ beq b s
literal_set p y true true g low = value_changed g y true low
literal_set p y true false g low = value_changed g y false low
literal_set p y false true g low = ap not (value_changed g y true low)
literal_set p y false false g low = ap not (value_changed g y false low)

-- a constant, or a literal of another variable, has one value, however the variable is set
pub terminal_value : (t : Table) → IsTable t → (x : ℕ) (s : Bool) (a : ℕ) → a < 2050 →
    (2 ≤ a → a / 2 ≢ x) → (d : Diagram) → ShowsCanonical t a d → (g : List Bool) →
    meaning d g ≡ meaning d (with_value g x s)
terminal_value t i x s a low differ Bottom h g = refl
terminal_value t i x s a low differ Top h g = refl
terminal_value t i x s a low differ (Decomposition p es) h g = absurd (omega (
  arith,
  node_range t.vtree (get t.linked) a p es h.shows,
  low,
))
terminal_value t i x s a low differ (Literal p y b) h g =
    let e : a / 2 ≡ y = ap (λ c. c / 2) h.shows.0 ∙ half y b in
    let two : 2 ≤ a = (literal_range t.vtree (get t.linked) i.numbered a p y b h.shows).0 in
    literal_same p y b g (with_value g x s)
    (sym (value_kept g x y s (λ z. differ two (e ∙ sym z))))

-- so it is its own answer
pub terminal_own : (t : Table) → IsTable t → (x : ℕ) (s : Bool) (a : ℕ) → a < 2050 →
    (2 ≤ a → a / 2 ≢ x) → AnswersOf t t (conditioned x s) a a
terminal_own t i x s a low differ = record {
  each = λ d h. record {
    diagram = d;
    is = h;
    value = terminal_value t i x s a low differ d h;
  };
}

-- the value of a literal of the variable
pub terminal_fixed : (t : Table) → IsTable t → (x : ℕ) (s : Bool) (a : ℕ) → 1 ≤ x → 2 ≤ a →
    a < 2050 → a / 2 ≡ x → (d : Diagram) → ShowsCanonical t a d → (g : List Bool) →
    meaning d (with_value g x s) ≡ beq (nat_eq (a % 2) 0) s
terminal_fixed t i x s a one two low same Bottom h g =
    let e : a ≡ 0 = h.shows in absurd (omega (arith, e, two))
terminal_fixed t i x s a one two low same Top h g =
    let e : a ≡ 1 = h.shows in absurd (omega (arith, e, two))
terminal_fixed t i x s a one two low same (Decomposition p es) h g = absurd (omega (
  arith,
  node_range t.vtree (get t.linked) a p es h.shows,
  low,
))
terminal_fixed t i x s a one two low same (Literal p y b) h g =
    let e : x ≡ y = sym same ∙ ap (λ c. c / 2) h.shows.0 ∙ half y b in
    let z : nat_eq (a % 2) 0 ≡ b = ap (λ c. nat_eq (c % 2) 0) h.shows.0 ∙ sign y b in
    ap (λ v. meaning (Literal p y b) (with_value g v s)) e
    ∙ literal_set p y b s g (subst (λ v. 1 ≤ v) e one) ∙ ap (λ v. beq v s) (sym z)

-- a literal of the variable is true or false
pub terminal_top : (t : Table) → IsTable t → (x : ℕ) (s : Bool) (a : ℕ) → 1 ≤ x → 2 ≤ a →
    a < 2050 → a / 2 ≡ x → beq (nat_eq (a % 2) 0) s ≡ true → AnswersOf t t (conditioned x s) a 1
terminal_top t i x s a one two low same holds = record {
  each = λ d h. record {
    diagram = Top;
    is = record { shows = refl; canonical = canonical_top };
    value = λ g. sym (terminal_fixed t i x s a one two low same d h g ∙ holds);
  };
}

pub terminal_bottom : (t : Table) → IsTable t → (x : ℕ) (s : Bool) (a : ℕ) → 1 ≤ x → 2 ≤ a →
    a < 2050 → a / 2 ≡ x → beq (nat_eq (a % 2) 0) s ≡ false → AnswersOf t t (conditioned x s) a 0
terminal_bottom t i x s a one two low same holds = record {
  each = λ d h. record {
    diagram = Bottom;
    is = record { shows = refl; canonical = canonical_bottom };
    value = λ g. sym (terminal_fixed t i x s a one two low same d h g ∙ holds);
  };
}
