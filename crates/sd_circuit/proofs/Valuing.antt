-- The values of a circuit's gates in their order: they are a valuation of its text, and each valuation has them.
use Rattle.std.proofs.Common.{◌≡◌, ◌≢◌, ℕ, zero, suc, ◌+◌, ◌/◌, ◌%◌, ◌<◌, ◌≤◌, Bool, ◌&&◌}
use Rattle.std.proofs.Common.{List, [], ◌∷◌, length, refl, ◌∙◌, ap, arith}
use Rattle.sd_model.specs.Assignment.{value_in, with_value, with_entry}
use Rattle.sd_model.specs.Circuit.{Circuit, wire_holds}
use Rattle.sd_model.proofs.Changed.{value_changed, value_kept}
use Rattle.sd_circuit.specs.Order.{line_at}
use Rattle.sd_circuit.specs.Circuits.{with_inputs, with_line, with_gates}

-- a literal is as its variable
pub holds_as : (v w : List Bool) (literal : ℕ) → value_in v (literal / 2) ≡ value_in w (literal / 2)
    → wire_holds v literal ≡ wire_holds w literal
holds_as v w literal e = rw e refl

-- an even literal is its variable
pub holds_even : (v : List Bool) (literal : ℕ) → literal % 2 ≡ 0
    → wire_holds v literal ≡ value_in v (literal / 2)
holds_even v literal e = rw e refl

-- a value behind a set one leaves the list as long
entry_length : (values : List Bool) (i : ℕ) (b : Bool) → i < length values
    → length (with_entry values i b) ≡ length values
entry_length [] i b h = absurd (omega (arith, h))
entry_length (v ∷ values) zero b h = refl
entry_length (v ∷ values) (suc i) b h = ap suc (entry_length values i b (omega (arith, h)))

value_length : (values : List Bool) (x : ℕ) (b : Bool) → x ≤ length values
    → length (with_value values x b) ≡ length values
value_length values zero b h = refl
value_length values (suc i) b h = entry_length values i b (omega (arith, h))

-- none of the and-lines at these places defines the variable
abbrev pub Spares : Circuit → List ℕ → ℕ → Type 0
Spares text [] x = Unit {0}
Spares text (p ∷ ps) x = ((line_at text.ands p).defined / 2 ≢ x) × Spares text ps x

-- an and-line defines a variable, and those at these places neither that one nor its sides
pub record IsBefore (text : Circuit) (p : ℕ) (ps : List ℕ) : Type 0 where
  pub even : (line_at text.ands p).defined % 2 ≡ 0
  pub some : 1 ≤ (line_at text.ands p).defined / 2
  pub within : (line_at text.ands p).defined / 2 ≤ text.variables
  pub once : Spares text ps ((line_at text.ands p).defined / 2)
  pub first : Spares text (p ∷ ps) ((line_at text.ands p).first / 2)
  pub second : Spares text (p ∷ ps) ((line_at text.ands p).second / 2)

-- each of the and-lines comes before those that follow
abbrev pub AreInTurn : Circuit → List ℕ → Type 0
AreInTurn text [] = Unit {0}
AreInTurn text (p ∷ ps) = IsBefore text p ps × AreInTurn text ps

-- what an and-line defines has the value of the conjunction
abbrev pub IsRight : Circuit → List Bool → ℕ → Type 0
IsRight text values p = wire_holds values (line_at text.ands p).defined
    ≡ (wire_holds values (line_at text.ands p).first && wire_holds values (line_at text.ands p).second)

abbrev pub AreRight : Circuit → List Bool → List ℕ → Type 0
AreRight text values [] = Unit {0}
AreRight text values (p ∷ ps) = IsRight text values p × AreRight text values ps

-- and-lines keep the values that they do not define
pub kept_by_gates : (text : Circuit) (ps : List ℕ) (values : List Bool) (x : ℕ) → Spares text ps x
    → value_in (with_gates text ps values) x ≡ value_in values x
kept_by_gates text [] values x spares = refl
kept_by_gates text (p ∷ ps) values x spares =
    kept_by_gates text ps (with_line (line_at text.ands p) values) x spares.1
    ∙ value_kept values ((line_at text.ands p).defined / 2) x _ spares.0

-- the list stays as long
pub gates_length : (text : Circuit) (ps : List ℕ) (values : List Bool) → AreInTurn text ps
    → length values ≡ text.variables → length (with_gates text ps values) ≡ text.variables
gates_length text [] values turn e = e
gates_length text (p ∷ ps) values turn e =
    let fits : (line_at text.ands p).defined / 2 ≤ length values = rw e turn.0.within in
    gates_length text ps (with_line (line_at text.ands p) values) turn.1
    (value_length values ((line_at text.ands p).defined / 2) _ fits ∙ e)

-- behind the and-lines each has the value of its conjunction
pub gates_right : (text : Circuit) (ps : List ℕ) (values : List Bool) → AreInTurn text ps
    → AreRight text (with_gates text ps values) ps
gates_right text [] values turn = tt
gates_right text (p ∷ ps) values turn =
    (first_right, gates_right text ps (with_line (line_at text.ands p) values) turn.1)
  where
    side : (literal : ℕ) → Spares text (p ∷ ps) (literal / 2)
        → wire_holds (with_gates text ps (with_line (line_at text.ands p) values)) literal ≡ wire_holds values literal
    side literal spares = holds_as _ _ literal
        (kept_by_gates text ps (with_line (line_at text.ands p) values) (literal / 2) spares.1
        ∙ value_kept values ((line_at text.ands p).defined / 2) (literal / 2) _ spares.0)

    first_right : IsRight text (with_gates text ps (with_line (line_at text.ands p) values)) p
    first_right =
        rw (side (line_at text.ands p).first turn.0.first, side (line_at text.ands p).second turn.0.second)
        (holds_even _ (line_at text.ands p).defined turn.0.even
        ∙ kept_by_gates text ps (with_line (line_at text.ands p) values) ((line_at text.ands p).defined / 2) turn.0.once
        ∙ value_changed values ((line_at text.ands p).defined / 2) _ turn.0.some)

-- ---- the inputs

-- none of these inputs is of the variable
abbrev pub SparesInputs : List ℕ → ℕ → Type 0
SparesInputs [] x = Unit {0}
SparesInputs (input ∷ inputs) x = (input / 2 ≢ x) × SparesInputs inputs x

-- an input is a variable of the text, and none of those that follow is of this one
pub record IsBeforeInputs (variables input : ℕ) (inputs : List ℕ) : Type 0 where
  pub even : input % 2 ≡ 0
  pub some : 1 ≤ input / 2
  pub within : input / 2 ≤ variables
  pub once : SparesInputs inputs (input / 2)

abbrev pub AreInputs : ℕ → List ℕ → Type 0
AreInputs variables [] = Unit {0}
AreInputs variables (input ∷ inputs) = IsBeforeInputs variables input inputs × AreInputs variables inputs

-- each input has the value of its number in the assignment
abbrev pub HaveValues : List Bool → List Bool → ℕ → List ℕ → Type 0
HaveValues assignment values number [] = Unit {0}
HaveValues assignment values number (input ∷ inputs) =
    (value_in values (input / 2) ≡ value_in assignment number) × HaveValues assignment values (number + 1) inputs

-- inputs keep the values of other variables
pub kept_by_inputs : (a : List Bool) (n : ℕ) (inputs : List ℕ) (values : List Bool) (x : ℕ)
    → SparesInputs inputs x → value_in (with_inputs a n inputs values) x ≡ value_in values x
kept_by_inputs a n [] values x spares = refl
kept_by_inputs a n (input ∷ inputs) values x spares =
    kept_by_inputs a (n + 1) inputs (with_value values (input / 2) (value_in a n)) x spares.1
    ∙ value_kept values (input / 2) x _ spares.0

pub inputs_length : (a : List Bool) (n variables : ℕ) (inputs : List ℕ) (values : List Bool)
    → AreInputs variables inputs → length values ≡ variables
    → length (with_inputs a n inputs values) ≡ variables
inputs_length a n variables [] values are e = e
inputs_length a n variables (input ∷ inputs) values are e =
    let fits : input / 2 ≤ length values = rw e are.0.within in
    inputs_length a (n + 1) variables inputs (with_value values (input / 2) (value_in a n)) are.1
    (value_length values (input / 2) _ fits ∙ e)

pub inputs_right : (a : List Bool) (n variables : ℕ) (inputs : List ℕ) (values : List Bool)
    → AreInputs variables inputs → HaveValues a (with_inputs a n inputs values) n inputs
inputs_right a n variables [] values are = tt
inputs_right a n variables (input ∷ inputs) values are = (
  kept_by_inputs a (n + 1) inputs (with_value values (input / 2) (value_in a n)) (input / 2) are.0.once
      ∙ value_changed values (input / 2) _ are.0.some,
  inputs_right a (n + 1) variables inputs (with_value values (input / 2) (value_in a n)) are.1,
)

-- each input's variable is defined by none of these and-lines
abbrev pub AreSpared : Circuit → List ℕ → List ℕ → Type 0
AreSpared text ps [] = Unit {0}
AreSpared text ps (input ∷ inputs) = Spares text ps (input / 2) × AreSpared text ps inputs

-- so and-lines keep the values of the inputs
pub have_values_behind : (text : Circuit) (ps : List ℕ) (a values : List Bool) (n : ℕ) (inputs : List ℕ)
    → AreSpared text ps inputs → HaveValues a values n inputs → HaveValues a (with_gates text ps values) n inputs
have_values_behind text ps a values n [] spared have = tt
have_values_behind text ps a values n (input ∷ inputs) spared have = (
  kept_by_gates text ps values (input / 2) spared.0 ∙ have.0,
  have_values_behind text ps a values (n + 1) inputs spared.1 have.1,
)
