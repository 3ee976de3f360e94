-- Where all is defined, what was read is closed.
use Rattle.std.proofs.Common.{◌≡◌, ℕ, ◌+◌, ◌<◌, ◌==◌, true, not, ◌&&◌, List, length, refl}
use Rattle.std.proofs.Common.{Option, Some, None, Ok, inl, inr}
use Rattle.std.specs.Prelude.{nat_lt, slice_index_or, position, codes}
use Rattle.std.proofs.lemmas.Bool.{ltb-true, eqb-true, not-false, or_cases, and_parts}
use Rattle.sd_base.specs.FaultTexts.{at_line}
use Rattle.sd_base.specs.Reading.{fault_for}
use Rattle.sd_model.specs.Circuit.{AndLine, Circuit}
use Rattle.sd_circuit.specs.Order.{variable_of, definitions, line_at, IsDefined, IsClosed}
use Rattle.sd_aiger.specs.Reads.{Header, is_among, is_defined, all_defined}
use Rattle.sd_aiger.specs.Steps.{IsRead}
use Rattle.sd_aiger.proofs.Lists.{passes_somewhere, none_passes}
use Rattle.sd_aiger.proofs.Reading.{none_found}

-- a literal that the test finds defined
defined : (c : Circuit) (literal : ℕ) → is_defined c literal ≡ true → IsDefined c literal
defined c literal h = elim (or_cases (nat_lt literal 2) (is_among (definitions c) literal) h) [
  | inl constant ↦ inl (ltb-true literal 2 constant)
  | inr among ↦
      let found = passes_somewhere (λ d. variable_of d == variable_of literal) (definitions c) 0 among in
      let other = slice_index_or (definitions c) found.0 0 in
      inr (found.0, found.1, eqb-true (variable_of other) (variable_of literal) found.2)
]

-- a test that found nothing, alone
nothing : {A : Type 0} (fault : A → List ℕ) (o : Option A) → fault_for fault o ≡ Ok tt → o ≡ None
nothing fault (Some x) h = cc
nothing fault None h = refl

-- what was read is closed
pub closed : (h : Header) (c : Circuit) → IsRead h c → all_defined h c ≡ Ok tt → IsClosed c
closed h c read e =
    let outputs = λ (l : ℕ). not (is_defined c l) in
    let sides = λ (l : AndLine). not (is_defined c l.first && is_defined c l.second) in
    let two = none_found (λ place. at_line (2 + h.inputs + place) (codes ": undefined literal"))
    (position outputs c.outputs)
    (fault_for (λ place. at_line (2 + h.inputs + h.outputs + place) (codes ": undefined literal"))
    (position sides c.ands)) tt e in
    let other = nothing (λ place. at_line (2 + h.inputs + h.outputs + place) (codes ": undefined literal"))
    (position sides c.ands) two.1 in
    let side = λ (k : ℕ) (inside : k < length c.ands). and_parts (is_defined c (line_at c.ands k).first)
    (is_defined c (line_at c.ands k).second)
    (not-false (is_defined c (line_at c.ands k).first && is_defined c (line_at c.ands k).second)
    (none_passes sides c.ands (record { defined = 0; first = 0; second = 0 }) other k inside)) in
    record {
      positive = read.definitions.positive;
      above = read.definitions.above;
      within = read.definitions.within;
      once = read.definitions.once;
      first = λ k inside. defined c (line_at c.ands k).first (side k inside).0;
      second = λ k inside. defined c (line_at c.ands k).second (side k inside).1;
      outputs = λ k inside. defined c (slice_index_or c.outputs k 0)
          (not-false (is_defined c (slice_index_or c.outputs k 0)) (none_passes outputs c.outputs 0 two.0 k inside));
    }
