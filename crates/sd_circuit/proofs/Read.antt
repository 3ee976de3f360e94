-- What a circuit's vectors give where they are read.
use Rattle.std.proofs.Common.{◌≡◌, ◌≢◌, ℕ, zero, suc, ◌+◌, ◌-◌, ◌/◌, ◌%◌, ◌<◌, ◌≤◌, nat_eq, List, []}
use Rattle.std.proofs.Common.{◌∷◌, length, get_or, refl, sym, ◌∙◌, ap, subst, arith, inl, inr}
use Rattle.std.proofs.lemmas.Grind.{get_or_default_zero}
use Rattle.sd_model.specs.Circuit.{Circuit, AndLine}
use Rattle.sd_circuit.specs.Order.{line_at}
use Rattle.sd_circuit.specs.Circuits.{OrderedCircuit, gate_line, signed_literal}
use Rattle.sd_circuit.specs.Stored.{IsTold, AreOrigins, HoldsCircuit}
use Rattle.sd_circuit.proofs.Sound.{IsSound, sound_from}

-- the circuit that the vectors hold is sound
pub sound_of : (v w : OrderedCircuit) (origins : List ℕ) → v ≡ w → HoldsCircuit v origins → IsSound w.text w.order
sound_of v w origins same holds =
    subst (λ (x : OrderedCircuit). IsSound x.text x.order) same (sound_from _ _ holds.closed holds.ordered)

-- the literal of an output
pub output_read : (v w : OrderedCircuit) (index literal : ℕ) → v ≡ w → index < length w.text.outputs
    → literal ≡ get_or v.text.outputs index literal → literal ≡ get_or w.text.outputs index 0
output_read v w index literal same h read =
    read ∙ ap (λ (x : OrderedCircuit). get_or x.text.outputs index literal) same
    ∙ get_or_default_zero w.text.outputs index literal h

-- is told by the inputs and the gates
pub output_told : (v w : OrderedCircuit) (origins : List ℕ) (index literal : ℕ) → v ≡ w → HoldsCircuit v origins
    → index < length w.text.outputs → literal ≡ get_or v.text.outputs index literal
    → IsTold w.text w.order (length w.order) literal
output_told v w origins index literal same holds h read =
    subst (IsTold w.text w.order (length w.order)) (sym (output_read v w index literal same h read))
    ((sound_of v w origins same holds).outputs index h)

-- what more gates are told by
pub told_more : (text : Circuit) (order : List ℕ) (k n literal : ℕ) → k ≤ n → IsTold text order k literal
    → IsTold text order n literal
told_more text order k n literal h (inl none) = inl none
told_more text order k n literal h (inr (inl input)) = inr (inl input)
told_more text order k n literal h (inr (inr (j, less, at))) = inr (inr (j, omega (arith, h, less), at))

-- inside a list what stands past its end plays no part
any_default : {X : Type 0} (xs : List X) (i : ℕ) (d e : X) → i < length xs → get_or xs i d ≡ get_or xs i e
any_default [] i d e h = absurd (omega (arith, h))
any_default (x ∷ xs) zero d e h = refl
any_default (x ∷ xs) (suc i) d e h = any_default xs i d e (omega (arith, h))

-- the and-line of a gate
pub line_read : (v w : OrderedCircuit) (origins : List ℕ) (index place : ℕ) (line : AndLine) → v ≡ w
    → HoldsCircuit v origins → index < length w.order → place ≡ get_or v.order index place
    → line ≡ get_or v.text.ands place line → line ≡ gate_line w index
line_read v w origins index place line same holds h at read =
    read ∙ ap (λ (x : OrderedCircuit). get_or x.text.ands place line) same
    ∙ any_default w.text.ands place line (record { defined = 0; first = 0; second = 0 })
    (rw placed ((sound_of v w origins same holds).inside index h))
    ∙ ap (line_at w.text.ands) placed
  where
    placed : place ≡ get_or w.order index 0
    placed = at ∙ ap (λ (x : OrderedCircuit). get_or x.order index place) same
        ∙ get_or_default_zero w.order index place h

-- a literal is that of its variable, or the one after it
signed_back : (literal x : ℕ) → literal / 2 ≡ x / 2 → x % 2 ≡ 0
    → signed_literal (nat_eq (literal % 2) 0) x ≡ literal
signed_back literal x same even = go (literal % 2) refl
  where
    go : (r : ℕ) → literal % 2 ≡ r → signed_literal (nat_eq r 0) x ≡ literal
    go zero e = omega (arith, same, even, e)
    go (suc zero) e = omega (arith, same, even, e)
    go (suc (suc r)) e = absurd (omega (arith, e))

module _ (v w : OrderedCircuit) (origins : List ℕ) (same : v ≡ w) (holds : HoldsCircuit v origins)
    (literal origin count : ℕ) (none : literal / 2 ≢ 0) (said : origin ≡ get_or origins (literal / 2) origin)
    (counted : count ≡ length w.text.inputs) (whole : IsTold w.text w.order (length w.order) literal) where
  filled : AreOrigins w origins
  filled = subst (λ (x : OrderedCircuit). AreOrigins x origins) same holds.filled

  sound : IsSound w.text w.order
  sound = sound_of v w origins same holds

  -- the literal's variable is one of the text
  variable_within : IsTold w.text w.order (length w.order) literal → literal / 2 ≤ w.text.variables
  variable_within (inl zeroed) = absurd (none zeroed)
  variable_within (inr (inl (i, h, at))) = let fits = sound.input_within i h in omega (arith, at, fits)
  variable_within (inr (inr (k, h, at))) = let fits = sound.gate_within k h in omega (arith, at, fits)

  pub origin_inside : literal / 2 < length origins
  origin_inside = filled.each (literal / 2) (omega (arith, none)) (variable_within whole)

  read : origin ≡ get_or origins (literal / 2) 0
  read = said ∙ get_or_default_zero origins (literal / 2) origin origin_inside

  -- where the origin is an input
  pub input_back : IsTold w.text w.order (length w.order) literal → origin ≤ count
      → signed_literal (nat_eq (literal % 2) 0) (get_or w.text.inputs (origin - 1) 0) ≡ literal
  input_back (inl zeroed) few = absurd (none zeroed)
  input_back (inr (inl (i, h, at))) few =
      let is : origin ≡ i + 1 = read ∙ ap (λ x. get_or origins x 0) at ∙ filled.of_input i h in
      let back : origin - 1 ≡ i = omega (arith, is) in
      rw back (signed_back literal (get_or w.text.inputs i 0) at (sound.input_even i h))
  input_back (inr (inr (k, h, at))) few =
      let is : origin ≡ length w.text.inputs + k + 1 =
      read ∙ ap (λ x. get_or origins x 0) at ∙ filled.of_gate k h in absurd (omega (arith, is, few, counted))

  -- where it is a gate
  pub gate_back : IsTold w.text w.order (length w.order) literal → count < origin
      → signed_literal (nat_eq (literal % 2) 0) (gate_line w (origin - count - 1)).defined ≡ literal
  gate_back (inl zeroed) many = absurd (none zeroed)
  gate_back (inr (inl (i, h, at))) many =
      let is : origin ≡ i + 1 = read ∙ ap (λ x. get_or origins x 0) at ∙ filled.of_input i h in
      absurd (omega (arith, is, many, h, counted))
  gate_back (inr (inr (k, h, at))) many =
      let is : origin ≡ length w.text.inputs + k + 1 =
      read ∙ ap (λ x. get_or origins x 0) at ∙ filled.of_gate k h in
      let back : origin - count - 1 ≡ k = omega (arith, is, counted) in
      rw back (signed_back literal (gate_line w k).defined at (sound.gate_even k h))

  -- one of so many first gates
  pub gate_within : (gates : ℕ) → gates ≤ length w.order → IsTold w.text w.order gates literal
      → count < origin → origin - count - 1 < gates
  gate_within gates all (inl zeroed) many = absurd (none zeroed)
  gate_within gates all (inr (inl (i, h, at))) many =
      let is : origin ≡ i + 1 = read ∙ ap (λ x. get_or origins x 0) at ∙ filled.of_input i h in
      absurd (omega (arith, is, many, h, counted))
  gate_within gates all (inr (inr (k, h, at))) many =
      let is : origin ≡ length w.text.inputs + k + 1 =
      read ∙ ap (λ x. get_or origins x 0) at ∙ filled.of_gate k (omega (arith, h, all)) in
      omega (arith, is, h, counted)

  -- an input
  pub input_within : IsTold w.text w.order (length w.order) literal → 1 ≤ origin
  input_within (inl zeroed) = absurd (none zeroed)
  input_within (inr (inl (i, h, at))) =
      let is : origin ≡ i + 1 = read ∙ ap (λ x. get_or origins x 0) at ∙ filled.of_input i h in
      omega (arith, is)
  input_within (inr (inr (k, h, at))) =
      let is : origin ≡ length w.text.inputs + k + 1 =
      read ∙ ap (λ x. get_or origins x 0) at ∙ filled.of_gate k h in omega (arith, is)
