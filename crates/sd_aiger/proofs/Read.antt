-- What is known of the lines of a header that were read without a fault.
use Rattle.std.proofs.Common.{◌≡◌, ◌≢◌, ℕ, zero, suc, ◌+◌, ◌*◌, ◌%◌, ◌<◌, ◌≤◌, ◌==◌, Bool, true, false, ◌||◌}
use Rattle.std.proofs.Common.{List, [], ◌∷◌, ◌++◌, length, map, take, drop, Result, Ok, Err, ok_or}
use Rattle.std.proofs.Common.{refl, sym, ap, subst, ◌∙◌, arith, inl, inr}
use Rattle.std.specs.Prelude.{nat_lt, slice_index_or, codes, IfOk}
use Rattle.std.proofs.lemmas.Bool.{ltb-false, eqb-false, eq-eqb, cases_lt}
use Rattle.std.proofs.lemmas.List.{map-append, append_assoc, length-take-le, length-drop, get_or_append_left}
use Rattle.std.proofs.lemmas.List.{length_push}
use Rattle.std.proofs.Math.Seq.{get_or-append_seam}
use Rattle.sd_base.specs.FaultTexts.{at_line, counts}
use Rattle.sd_base.specs.Lines.{TextLine}
use Rattle.sd_base.specs.Reading.{◌>>=◌, ◌>>◌, fault_if, each, each_after}
use Rattle.sd_model.specs.Circuit.{AndLine, Circuit}
use Rattle.sd_circuit.specs.Order.{variable_of, line_at}
use Rattle.sd_aiger.specs.declared.body.Body.{Body}
use Rattle.sd_aiger.specs.declared.fault.AigerFault.{AigerFault}
use Rattle.sd_aiger.specs.Reads.{Header, literal_in, and_in, past_last, literal_of, gate_of, is_among, is_no_definition}
use Rattle.sd_aiger.specs.Reads.{input_of, and_of, stated_lines, circuit_of, Gives}
use Rattle.sd_aiger.specs.Steps.{AreDefinitions, IsRead, body_view}
use Rattle.sd_aiger.proofs.Reading.{passed, gave, kept, length_after, length_each}
use Rattle.sd_aiger.proofs.Lists.{at_push, fails_at}

-- ---- one line

-- a literal that does not pass the greatest is of a variable up to m
within : (m literal : ℕ) → past_last m literal ≡ false → variable_of literal ≤ m
within m literal h = let low = ltb-false (2 * m + 1) literal h in omega (arith, low)

-- the literal of a line
pub literal_within : (m : ℕ) (line : TextLine) (literal : ℕ) → literal_of m line ≡ Ok literal → variable_of literal ≤ m
literal_within m line literal h =
    let first = gave (ok_or (literal_in line.words) (at_line line.number (codes ": bad line")))
    (λ l. fault_if (past_last m l) (at_line line.number (codes ": literal out of range")) >> Ok l) literal h in
    let test = passed (past_last m first.0) (at_line line.number (codes ": literal out of range")) (Ok first.0) literal
    first.2 in
    let same : first.0 ≡ literal = cc (test.1) in
    subst (λ l. variable_of l ≤ m) same (within m first.0 test.0)

-- the literals of an and-line
record AreWithin (m : ℕ) (gate : AndLine) : Type 0 where
  defined : variable_of gate.defined ≤ m
  first : variable_of gate.first ≤ m
  second : variable_of gate.second ≤ m

gate_within : (m : ℕ) (line : TextLine) (gate : AndLine) → gate_of m line ≡ Ok gate → AreWithin m gate
gate_within m line gate h =
    let first = gave (ok_or (and_in line.words) (at_line line.number (codes ": bad line")))
    (λ g. fault_if (past_last m g.defined || past_last m g.first || past_last m g.second)
    (at_line line.number (codes ": literal out of range")) >> Ok g) gate h in
    let g = first.0 in
    let test = passed (past_last m g.defined || past_last m g.first || past_last m g.second)
    (at_line line.number (codes ": literal out of range")) (Ok g) gate first.2 in
    let same : g ≡ gate = cc (test.1) in
    let three = tests (past_last m g.defined) (past_last m g.first) (past_last m g.second) test.0 in
    subst (AreWithin m) same (record {
      defined = within m g.defined three.0;
      first = within m g.first three.1;
      second = within m g.second three.2;
    })
  where
    tests : (a b c : Bool) → (a || b || c) ≡ false → (a ≡ false) × (b ≡ false) × (c ≡ false)
    tests true b c e = cc
    tests false true c e = cc
    tests false false c e = (refl, refl, e)

-- ---- definitions

-- what a definition is that passed its tests
record IsNew (earlier : List ℕ) (literal : ℕ) : Type 0 where
  positive : literal % 2 ≡ 0
  above : 2 ≤ literal
  apart : (k : ℕ) → k < length earlier → variable_of (slice_index_or earlier k 0) ≢ variable_of literal

is_new : (earlier : List ℕ) (literal : ℕ) → is_no_definition earlier literal ≡ false → IsNew earlier literal
is_new earlier literal h =
    let three = tests (literal % 2 == 1) (literal == 0) (is_among earlier literal) h in
    let even : literal % 2 ≡ 1 → ⊥ = eqb-false (literal % 2) 1 three.0 in
    let filled : literal ≡ 0 → ⊥ = eqb-false literal 0 three.1 in
    let positive : literal % 2 ≡ 0 = omega (arith, even) in
    record {
      positive = positive;
      above = omega (arith, positive, filled);
      apart = λ k inside same. fails_at (λ d. variable_of d == variable_of literal) earlier 0 three.2 k inside
          (eq-eqb (variable_of (slice_index_or earlier k 0)) (variable_of literal) same);
    }
  where
    tests : (a b c : Bool) → (a || b || c) ≡ false → (a ≡ false) × (b ≡ false) × (c ≡ false)
    tests true b c e = cc
    tests false true c e = cc
    tests false false c e = (refl, refl, e)

-- no definition yet
none_yet : (m : ℕ) → AreDefinitions m []
none_yet m = record {
  positive = λ k h. absurd (omega (arith, h));
  above = λ k h. absurd (omega (arith, h));
  within = λ k h. absurd (omega (arith, h));
  once = λ j k low h. absurd (omega (arith, h));
}

-- one more
one_more : (m : ℕ) (earlier : List ℕ) (literal : ℕ) → AreDefinitions m earlier → variable_of literal ≤ m
    → IsNew earlier literal → AreDefinitions m (earlier ++ literal ∷ [])
one_more m earlier literal old inside new = record {
  positive = at_push (λ d. d % 2 ≡ 0) earlier literal 0 old.positive new.positive;
  above = at_push (λ d. 2 ≤ d) earlier literal 0 old.above new.above;
  within = at_push (λ d. variable_of d ≤ m) earlier literal 0 old.within inside;
  once = λ j k low high. apart j k low high;
}
  where
    apart : (j k : ℕ) → j < k → k < length (earlier ++ literal ∷ [])
        → variable_of (slice_index_or (earlier ++ literal ∷ []) j 0)
        ≢ variable_of (slice_index_or (earlier ++ literal ∷ []) k 0)
    apart j k low high = elim (cases_lt k (length earlier)) [
      | inl before ↦
          let one = get_or_append_left earlier (literal ∷ []) 0 j (omega (arith, low, before)) in
          let other = get_or_append_left earlier (literal ∷ []) 0 k before in
          rw (one, other) (old.once j k low before)
      | inr behind ↦
          let here : length earlier ≡ k = omega (arith, length_push earlier literal, high, behind) in
          let one = get_or_append_left earlier (literal ∷ []) 0 j (omega (arith, low, here)) in
          let other : slice_index_or (earlier ++ literal ∷ []) k 0 ≡ literal =
          ap (λ i. slice_index_or (earlier ++ literal ∷ []) i 0) (sym here) ∙ get_or-append_seam earlier literal [] 0 in
          rw (one, other) (new.apart j (omega (arith, low, here)))
    ]

-- ---- the three lists

-- the inputs
input_more : (m : ℕ) (earlier : List ℕ) (line : TextLine) (literal : ℕ) → AreDefinitions m earlier
    → input_of m earlier line ≡ Ok literal → AreDefinitions m (earlier ++ literal ∷ [])
input_more m earlier line literal old h =
    let first = gave (literal_of m line) (λ l. fault_if (is_no_definition earlier l)
    (at_line line.number (codes ": bad definition")) >> Ok l) literal h in
    let test = passed (is_no_definition earlier first.0) (at_line line.number (codes ": bad definition")) (Ok first.0)
    literal first.2 in
    let same : first.0 ≡ literal = cc (test.1) in
    subst (λ l. AreDefinitions m (earlier ++ l ∷ [])) same
    (one_more m earlier first.0 old (literal_within m line first.0 first.1) (is_new earlier first.0 test.0))

-- what and-lines behind these inputs are
record AreGates (m : ℕ) (inputs : List ℕ) (gates : List AndLine) : Type 0 where
  definitions : AreDefinitions m (inputs ++ map (λ (line : AndLine). line.defined) gates)
  first : (k : ℕ) → k < length gates → variable_of (line_at gates k).first ≤ m
  second : (k : ℕ) → k < length gates → variable_of (line_at gates k).second ≤ m

-- no and-line yet
no_gates : (m : ℕ) (inputs : List ℕ) → AreDefinitions m inputs → AreGates m inputs []
no_gates m inputs good = record {
  definitions = subst (AreDefinitions m) (sym (append_nothing inputs)) good;
  first = λ k h. absurd (omega (arith, h));
  second = λ k h. absurd (omega (arith, h));
}
  where
    append_nothing : (xs : List ℕ) → xs ++ [] ≡ xs
    append_nothing [] = refl
    append_nothing (x ∷ xs) = ap (λ ys. x ∷ ys) (append_nothing xs)

-- one more and-line
gate_more : (m : ℕ) (inputs : List ℕ) (earlier : List AndLine) (line : TextLine) (gate : AndLine)
    → AreGates m inputs earlier → and_of m inputs earlier line ≡ Ok gate → AreGates m inputs (earlier ++ gate ∷ [])
gate_more m inputs earlier line gate old h =
    let defined = λ (g : AndLine). g.defined in
    let before = inputs ++ map defined earlier in
    let first = gave (gate_of m line) (λ g. fault_if (is_no_definition before g.defined)
    (at_line line.number (codes ": bad definition")) >> Ok g) gate h in
    let g = first.0 in
    let test = passed (is_no_definition before g.defined) (at_line line.number (codes ": bad definition")) (Ok g)
    gate first.2 in
    let same : g ≡ gate = cc (test.1) in
    let good = gate_within m line g first.1 in
    let zero_line : AndLine = record { defined = 0; first = 0; second = 0 } in
    let joined : before ++ g.defined ∷ [] ≡ inputs ++ map defined (earlier ++ g ∷ []) =
    append_assoc inputs (map defined earlier) (g.defined ∷ [])
    ∙ ap (λ l. inputs ++ l) (sym (map-append defined earlier (g ∷ []))) in
    subst (λ l. AreGates m inputs (earlier ++ l ∷ [])) same (record {
      definitions = subst (AreDefinitions m) joined
          (one_more m before g.defined old.definitions good.defined (is_new before g.defined test.0));
      first = at_push (λ (l : AndLine). variable_of l.first ≤ m) earlier g zero_line old.first good.first;
      second = at_push (λ (l : AndLine). variable_of l.second ≤ m) earlier g zero_line old.second good.second;
    })

-- what holds of a first element and of each behind it
each_of : (P : ℕ → Type 0) (l : ℕ) (ls : List ℕ) → P l → ((k : ℕ) → k < length ls → P (slice_index_or ls k 0))
    → (k : ℕ) → k < length (l ∷ ls) → P (slice_index_or (l ∷ ls) k 0)
each_of P l ls here behind zero low = here
each_of P l ls here behind (suc k) low = behind k (omega (arith, low))

-- the outputs
outputs_within : (m : ℕ) (lines : List TextLine) (outputs : List ℕ) → each (literal_of m) lines ≡ Ok outputs
    → (k : ℕ) → k < length outputs → variable_of (slice_index_or outputs k 0) ≤ m
outputs_within m [] outputs h =
    let same : [] ≡ outputs = cc in
    subst (λ ls. (k : ℕ) → k < length ls → variable_of (slice_index_or ls k 0) ≤ m) same
    (λ k inside. absurd (omega (arith, inside)))
outputs_within m (line ∷ lines) outputs h =
    let first = gave (literal_of m line) (λ l. each (literal_of m) lines >>= λ ls. Ok (l ∷ ls)) outputs h in
    let others = gave (each (literal_of m) lines) (λ ls. Ok (first.0 ∷ ls)) outputs first.2 in
    let same : first.0 ∷ others.0 ≡ outputs = cc (others.2) in
    subst (λ ls. (k : ℕ) → k < length ls → variable_of (slice_index_or ls k 0) ≤ m) same
    (each_of (λ l. variable_of l ≤ m) first.0 others.0 (literal_within m line first.0 first.1)
    (outputs_within m lines others.0 others.1))

-- ---- all of them

-- the and-lines, and the circuit
abbrev with_ands : Header → List ℕ → List ℕ → List TextLine → Result Circuit (List ℕ)
with_ands h inputs outputs lines =
    each_after (and_of h.variables inputs) [] (take h.ands (drop (h.inputs + h.outputs) lines)) >>= λ gates.
    Ok (record { variables = h.variables; inputs = inputs; outputs = outputs; ands = gates })

-- the outputs, and what follows them
abbrev with_outputs : Header → List ℕ → List TextLine → Result Circuit (List ℕ)
with_outputs h inputs lines =
    each (literal_of h.variables) (take h.outputs (drop h.inputs lines)) >>= λ outputs. with_ands h inputs outputs lines

-- what was read
pub is_read : (h : Header) (lines : List TextLine) (c : Circuit) → circuit_of h lines ≡ Ok c → IsRead h c
is_read h lines c e =
    let m = h.variables in
    let enough = passed (nat_lt (length lines) (stated_lines h)) (counts (stated_lines h) (length lines))
    (each_after (input_of m) [] (take h.inputs lines) >>= λ is. with_outputs h is lines) c e in
    let many = ltb-false (length lines) (stated_lines h) enough.0 in
    let first = gave (each_after (input_of m) [] (take h.inputs lines)) (λ is. with_outputs h is lines) c enough.1 in
    let inputs = first.0 in
    let second = gave (each (literal_of m) (take h.outputs (drop h.inputs lines)))
    (λ os. with_ands h inputs os lines) c first.2 in
    let outputs = second.0 in
    let and_lines = take h.ands (drop (h.inputs + h.outputs) lines) in
    let third = gave (each_after (and_of m inputs) [] and_lines)
    (λ gs. Ok (record { variables = m; inputs = inputs; outputs = outputs; ands = gs })) c second.2 in
    let gates = third.0 in
    let good = kept (AreDefinitions m) (input_of m) (input_more m) [] (take h.inputs lines) inputs (none_yet m)
    first.1 in
    let all = kept (AreGates m inputs) (and_of m inputs) (gate_more m inputs) [] and_lines gates
    (no_gates m inputs good) third.1 in
    let long = length-drop h.inputs lines in
    let longer = length-drop (h.inputs + h.outputs) lines in
    let read : IsRead h (record { variables = m; inputs = inputs; outputs = outputs; ands = gates }) = record {
      variables = refl;
      inputs = omega (
        arith,
        length_after (input_of m) [] (take h.inputs lines) inputs first.1,
        length-take-le h.inputs lines (omega (arith, many)),
      );
      outputs = length_each (literal_of m) (take h.outputs (drop h.inputs lines)) outputs second.1
          ∙ length-take-le h.outputs (drop h.inputs lines) (omega (arith, many, long));
      ands = omega (
        arith,
        length_after (and_of m inputs) [] and_lines gates third.1,
        length-take-le h.ands (drop (h.inputs + h.outputs) lines) (omega (arith, many, longer)),
      );
      definitions = all.definitions;
      output = outputs_within m (take h.outputs (drop h.inputs lines)) outputs second.1;
      first = all.first;
      second = all.second;
    } in
    let same : record { variables = m; inputs = inputs; outputs = outputs; ands = gates } ≡ c = cc (third.2) in
    subst (IsRead h) same read

-- so of the reader's answer
pub read_where_ok : (h : Header) (lines : List TextLine) (r : Result Body AigerFault)
    → Gives body_view r (circuit_of h lines) → IfOk r (λ body. IsRead h (body_view body))
read_where_ok h lines (Ok body) e = is_read h lines (body_view body) e
read_where_ok h lines (Err fault) e = tt
