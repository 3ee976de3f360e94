-- The values of wires and outputs are those of every valuation of the text.
use Rattle.std.proofs.Common.{◌≡◌, ℕ, zero, suc, ◌+◌, ◌-◌, ◌/◌, ◌%◌, ◌<◌, Bool, true, false, ◌&&◌}
use Rattle.std.proofs.Common.{List, [], ◌∷◌, length, get_or, refl, sym, ◌∙◌, ap, arith, inl, inr, subst}
use Rattle.std.proofs.Common.{replicate}
use Rattle.std.proofs.lemmas.List.{length-replicate, get_or-map}
use Rattle.std.specs.Bool.{beq}
use Rattle.std.specs.List.{list_all, enumerate_from}
use Rattle.sd_model.specs.Assignment.{value_in}
use Rattle.sd_model.specs.Circuit.{Circuit, wire_holds, is_conjunction, is_valuation}
use Rattle.sd_model.specs.Circuit.{output_literal, circuit_output}
use Rattle.sd_model.proofs.Valuations.{in_every_valuation}
use Rattle.sd_circuit.specs.Order.{line_at, variable_of}
use Rattle.sd_circuit.specs.declared.wire.Wire.{Wire}
use Rattle.sd_circuit.specs.declared.wire.Wire.TheVariants.{Constant, Input, Gate}
use Rattle.sd_circuit.specs.Circuits.{OrderedCircuit, with_inputs, with_gates, variable_values, gate_values}
use Rattle.sd_circuit.specs.Circuits.{gate_line, literal_of, signed_literal, signed_value, wire_value, IsWireWithin}
use Rattle.sd_circuit.specs.Stored.{input_variable, gate_variable, IsTold}
use Rattle.sd_circuit.proofs.Valuing.{IsRight, AreRight, AreInputs, AreInTurn, HaveValues, gates_right, gates_length}
use Rattle.sd_circuit.proofs.Valuing.{inputs_right, inputs_length, have_values_behind, holds_as, holds_even}
use Rattle.sd_circuit.proofs.Sound.{IsSound, are_inputs_from, are_spared_from, turn_from}

-- ---- truth values

both_true : (b c : Bool) → b ≡ true → c ≡ true → (b && c) ≡ true
both_true true c h k = k
both_true false c h k = h

first_true : (b c : Bool) → (b && c) ≡ true → b ≡ true
first_true true c h = refl
first_true false c h = h

second_true : (b c : Bool) → (b && c) ≡ true → c ≡ true
second_true true c h = h
second_true false c h = absurd cc

same_truth : (b c : Bool) → (b ≡ true → c ≡ true) → (c ≡ true → b ≡ true) → b ≡ c
same_truth true true there back = refl
same_truth true false there back = sym (there refl)
same_truth false true there back = back refl
same_truth false false there back = refl

beq_same : (b c : Bool) → b ≡ c → beq b c ≡ true
beq_same true true e = refl
beq_same true false e = absurd cc
beq_same false true e = absurd cc
beq_same false false e = refl

same_beq : (b c : Bool) → beq b c ≡ true → b ≡ c
same_beq true true e = refl
same_beq true false e = absurd cc
same_beq false true e = absurd cc
same_beq false false e = refl

-- ---- what a valuation says, place by place

-- the inputs agree with the assignment
agree_from : (a values : List Bool) (n variables : ℕ) (inputs : List ℕ) → AreInputs variables inputs
    → HaveValues a values n inputs
    → list_all (λ (number, input). beq (wire_holds values input) (value_in a number)) (enumerate_from n inputs)
    ≡ true
agree_from a values n variables [] are have = refl
agree_from a values n variables (input ∷ inputs) are have = both_true _ _
    (beq_same _ _ (holds_even values input are.0.even ∙ have.0))
    (agree_from a values (n + 1) variables inputs are.1 have.1)

-- and where they agree each input has its value
agree_at : (a values : List Bool) (n : ℕ) (inputs : List ℕ)
    → list_all (λ (number, input). beq (wire_holds values input) (value_in a number)) (enumerate_from n inputs)
    ≡ true
    → (i : ℕ) → i < length inputs → wire_holds values (get_or inputs i 0) ≡ value_in a (n + i)
agree_at a values n [] all i h = absurd (omega (arith, h))
agree_at a values n (input ∷ inputs) all zero h =
    same_beq _ _ (first_true _ _ all) ∙ ap (value_in a) (omega arith)
agree_at a values n (input ∷ inputs) all (suc i) h =
    agree_at a values (n + 1) inputs (second_true _ _ all) i (omega (arith, h)) ∙ ap (value_in a) (omega arith)

-- what each element passes, all do, and the other way
list_all_from : {X : Type 0} (test : X → Bool) (xs : List X) (d : X)
    → ((i : ℕ) → i < length xs → test (get_or xs i d) ≡ true) → list_all test xs ≡ true
list_all_from test [] d each = refl
list_all_from test (x ∷ xs) d each =
    both_true _ _ (each 0 (omega arith)) (list_all_from test xs d (λ i h. each (suc i) (omega (arith, h))))

list_all_at : {X : Type 0} (test : X → Bool) (xs : List X) (d : X) → list_all test xs ≡ true
    → (i : ℕ) → i < length xs → test (get_or xs i d) ≡ true
list_all_at test [] d all i h = absurd (omega (arith, h))
list_all_at test (x ∷ xs) d all zero h = first_true _ _ all
list_all_at test (x ∷ xs) d all (suc i) h = list_all_at test xs d (second_true _ _ all) i (omega (arith, h))

-- an and-line at one of the places
right_at : (text : Circuit) (values : List Bool) (ps : List ℕ) → AreRight text values ps
    → (k : ℕ) → k < length ps → IsRight text values (get_or ps k 0)
right_at text values [] right k h = absurd (omega (arith, h))
right_at text values (p ∷ ps) right zero h = right.0
right_at text values (p ∷ ps) right (suc k) h = right_at text values ps right.1 k (omega (arith, h))

-- what a valuation of a text says of each input and each and-line
record IsValuation (text : Circuit) (a values : List Bool) : Type 0 where
  inputs : (i : ℕ) → i < length text.inputs → wire_holds values (get_or text.inputs i 0) ≡ value_in a (1 + i)
  lines : (p : ℕ) → p < length text.ands → IsRight text values p

valuation_from : (text : Circuit) (a values : List Bool) → is_valuation text a values ≡ true
    → IsValuation text a values
valuation_from text a values is = record {
  inputs = agree_at a values 1 text.inputs (first_true _ _ is);
  lines = λ p h. same_beq _ _ (list_all_at (is_conjunction values) text.ands
      (record { defined = 0; first = 0; second = 0 }) (second_true _ _ is) p h);
}

-- ---- the gates in their order give a valuation

values_length : (c : OrderedCircuit) (a : List Bool) → IsSound c.text c.order
    → length (variable_values c a) ≡ c.text.variables
unfolding variable_values
values_length c a sound = gates_length c.text c.order _
    (turn_from c.text c.order sound 0 c.order (omega arith) (λ k. ap (λ m. get_or c.order m 0) (omega arith)))
    (inputs_length a 1 c.text.variables c.text.inputs (replicate c.text.variables false)
    (are_inputs_from c.text.variables c.text.inputs sound.input_even sound.input_some sound.input_within
    sound.input_once)
    (length-replicate c.text.variables false))

pub values_are_valuation : (c : OrderedCircuit) (a : List Bool) → IsSound c.text c.order
    → is_valuation c.text a (variable_values c a) ≡ true
unfolding variable_values
values_are_valuation c a sound = both_true _ _
    (agree_from a _ 1 c.text.variables c.text.inputs inputs
    (have_values_behind c.text c.order a before 1 c.text.inputs
    (are_spared_from c.text c.order c.text.inputs sound.apart)
    (inputs_right a 1 c.text.variables c.text.inputs (replicate c.text.variables false) inputs)))
    (list_all_from _ c.text.ands (record { defined = 0; first = 0; second = 0 }) (λ p h.
    let at = sound.all p h in
    beq_same _ _ (subst (IsRight c.text (with_gates c.text c.order before)) at.2
    (right_at c.text _ c.order (gates_right c.text c.order before turn) at.0 at.1))))
  where
    inputs : AreInputs c.text.variables c.text.inputs
    inputs = are_inputs_from c.text.variables c.text.inputs sound.input_even sound.input_some sound.input_within
        sound.input_once

    before : List Bool
    before = with_inputs a 1 c.text.inputs (replicate c.text.variables false)

    turn : AreInTurn c.text c.order
    turn = turn_from c.text c.order sound 0 c.order (omega arith) (λ k. ap (λ m. get_or c.order m 0) (omega arith))

-- ---- two valuations agree on all that is defined

-- on what is told by inputs and by gates on which they agree
agree_on : (text : Circuit) (order : List ℕ) (a v w : List Bool) → IsSound text order
    → IsValuation text a v → IsValuation text a w → (gates literal : ℕ) → IsTold text order gates literal
    → ((k : ℕ) → k < gates → value_in v (gate_variable text order k) ≡ value_in w (gate_variable text order k))
    → wire_holds v literal ≡ wire_holds w literal
agree_on text order a v w sound is too gates literal told earlier = holds_as v w literal (go told)
  where
    input : (i : ℕ) → i < length text.inputs
        → value_in v (input_variable text i) ≡ value_in w (input_variable text i)
    input i h = sym (holds_even v _ (sound.input_even i h)) ∙ is.inputs i h ∙ sym (too.inputs i h)
        ∙ holds_even w _ (sound.input_even i h)

    go : IsTold text order gates literal → value_in v (variable_of literal) ≡ value_in w (variable_of literal)
    go (inl none) = rw none refl
    go (inr (inl (i, h, at))) = rw at (input i h)
    go (inr (inr (k, h, at))) = rw at (earlier k h)

-- on a gate, where they agree on those before it
gate_agrees : (text : Circuit) (order : List ℕ) (a v w : List Bool) → IsSound text order
    → IsValuation text a v → IsValuation text a w → (k : ℕ) → k < length order
    → ((j : ℕ) → j < k → value_in v (gate_variable text order j) ≡ value_in w (gate_variable text order j))
    → value_in v (gate_variable text order k) ≡ value_in w (gate_variable text order k)
gate_agrees text order a v w sound is too k h earlier =
    sym (holds_even v _ (sound.gate_even k h)) ∙ is.lines _ (sound.inside k h)
    ∙ both _ _ _ _ (agree_on text order a v w sound is too k _ (sound.first k h) earlier)
    (agree_on text order a v w sound is too k _ (sound.second k h) earlier)
    ∙ sym (too.lines _ (sound.inside k h)) ∙ holds_even w _ (sound.gate_even k h)
  where
    both : (b c d e : Bool) → b ≡ d → c ≡ e → (b && c) ≡ (d && e)
    both b c d e p q = rw (p, q) refl

-- so on each gate
gates_agree : (text : Circuit) (order : List ℕ) (a v w : List Bool) → IsSound text order
    → IsValuation text a v → IsValuation text a w → (n k : ℕ) → k < n → k < length order
    → value_in v (gate_variable text order k) ≡ value_in w (gate_variable text order k)
gates_agree text order a v w sound is too zero k less h = absurd (omega (arith, less))
gates_agree text order a v w sound is too (suc n) k less h = gate_agrees text order a v w sound is too k h
    (λ j l. gates_agree text order a v w sound is too n j (omega (arith, l, less)) (omega (arith, l, h)))

-- an output has its value among the values of the gates in their order
pub output_holds : (c : OrderedCircuit) (a : List Bool) (i : ℕ) → IsSound c.text c.order
    → i < length c.text.outputs
    → circuit_output c.text i a ≡ wire_holds (variable_values c a) (output_literal c.text i)
output_holds c a i sound h = same_truth _ _
    (λ true_in. (in_every_valuation c.text i a).0 true_in (variable_values c a) (values_length c a sound)
    (values_are_valuation c a sound))
    (λ holds. (in_every_valuation c.text i a).1 (λ values long is.
    agree_on c.text c.order a values (variable_values c a) sound (valuation_from c.text a values is)
    (valuation_from c.text a _ (values_are_valuation c a sound)) (length c.order) (output_literal c.text i)
    (sound.outputs i h) (λ k l. gates_agree c.text c.order a values (variable_values c a) sound
    (valuation_from c.text a values is) (valuation_from c.text a _ (values_are_valuation c a sound))
    (suc k) k (omega arith) l)
    ∙ holds))

-- ---- the values of wires

-- a literal of a variable, or its negation
holds_signed : (v : List Bool) (positive : Bool) (literal : ℕ) → literal % 2 ≡ 0
    → wire_holds v (signed_literal positive literal) ≡ signed_value positive (value_in v (literal / 2))
holds_signed v true literal e = holds_even v literal e
holds_signed v false literal e =
    let odd : (literal + 1) % 2 ≡ 1 = omega (arith, e) in
    let same : (literal + 1) / 2 ≡ literal / 2 = omega (arith, e) in
    rw (odd, same) refl

-- the value of a gate is that of what its and-line defines
pub gate_holds : (c : OrderedCircuit) (a : List Bool) (k : ℕ) → k < length c.order
    → get_or (gate_values c a) k false ≡ wire_holds (variable_values c a) (gate_line c k).defined
unfolding gate_values
gate_holds c a k h = get_or-map (λ p. wire_holds (variable_values c a) (line_at c.text.ands p).defined)
    c.order k 0 false h

-- a wire has the value of its literal
pub wire_holds_as : (c : OrderedCircuit) (a : List Bool) → IsSound c.text c.order → (wire : Wire)
    → IsWireWithin c (length c.order) wire
    → wire_holds (variable_values c a) (literal_of c wire) ≡ wire_value a (gate_values c a) wire
wire_holds_as c a sound (Constant true) within = refl
wire_holds_as c a sound (Constant false) within = refl
wire_holds_as c a sound (Input variable positive) within =
    let h : variable - 1 < length c.text.inputs = omega (arith, within) in
    holds_signed _ positive _ (sound.input_even _ h) ∙ ap (signed_value positive)
    (sym (holds_even _ _ (sound.input_even _ h))
    ∙ (valuation_from c.text a _ (values_are_valuation c a sound)).inputs _ h
    ∙ ap (value_in a) (omega (arith, within)))
wire_holds_as c a sound (Gate index positive) within =
    holds_signed _ positive _ (sound.gate_even index within) ∙ ap (signed_value positive)
    (sym (holds_even _ _ (sound.gate_even index within)) ∙ sym (gate_holds c a index within))

-- a gate has the value of the conjunction of its sides
pub gate_is_and : (c : OrderedCircuit) (a : List Bool) → IsSound c.text c.order
    → (k : ℕ) → k < length c.order
    → (first second : Wire) → literal_of c first ≡ (gate_line c k).first → literal_of c second ≡ (gate_line c k).second
    → IsWireWithin c (length c.order) first → IsWireWithin c (length c.order) second
    → get_or (gate_values c a) k false
    ≡ (wire_value a (gate_values c a) first && wire_value a (gate_values c a) second)
gate_is_and c a sound k h first second e f within too =
    gate_holds c a k h
    ∙ (valuation_from c.text a _ (values_are_valuation c a sound)).lines _ (sound.inside k h)
    ∙ both _ _ _ _ (ap (wire_holds (variable_values c a)) (sym e) ∙ wire_holds_as c a sound first within)
    (ap (wire_holds (variable_values c a)) (sym f) ∙ wire_holds_as c a sound second too)
  where
    both : (b c d e : Bool) → b ≡ d → c ≡ e → (b && c) ≡ (d && e)
    both b c d e p q = rw (p, q) refl

-- and an output that of its wire
pub output_is : (c : OrderedCircuit) (a : List Bool) → IsSound c.text c.order
    → (i : ℕ) → i < length c.text.outputs
    → (wire : Wire) → literal_of c wire ≡ output_literal c.text i → IsWireWithin c (length c.order) wire
    → circuit_output c.text i a ≡ wire_value a (gate_values c a) wire
output_is c a sound i h wire e within =
    output_holds c a i sound h ∙ ap (wire_holds (variable_values c a)) (sym e)
    ∙ wire_holds_as c a sound wire within
