-- Where the gates have an order no and-line lies on a cycle; and the first one that does.
use Rattle.std.proofs.Common.{◌≡◌, ℕ, zero, suc, ◌+◌, ◌<◌, ◌≤◌, ◌==◌, true, false, ◌&&◌, ◌||◌}
use Rattle.std.proofs.Common.{List, length, Ok, Err, sym, ap, subst, ◌∙◌, arith, inl, inr}
use Rattle.std.specs.Prelude.{slice_index_or, codes}
use Rattle.std.specs.List.{list_any}
use Rattle.std.proofs.lemmas.Bool.{eqb-true, or_cases, and_parts, false_from_ne_true}
use Rattle.sd_base.specs.FaultTexts.{at_line}
use Rattle.sd_model.specs.Circuit.{AndLine, Circuit}
use Rattle.sd_circuit.specs.Order.{variable_of, line_at, defined_at, Uses, reaches, is_on_cycle}
use Rattle.sd_circuit.specs.Order.{IsOrdered, CycleIsFirst}
use Rattle.sd_circuit.specs.declared.order.OrderError.TheVariants.{Cycle}
use Rattle.sd_aiger.specs.Reads.{Header}
use Rattle.sd_aiger.specs.Steps.{without_cycle}
use Rattle.sd_aiger.proofs.Lists.{passes_somewhere, found_first, found_none}

-- An and-line stands at a place of an order or before it.
record IsBy (order : List ℕ) (k place : ℕ) : Type 0 where
  at : ℕ
  before : at ≤ place
  has : slice_index_or order at 0 ≡ k

-- A variable is defined by an and-line behind which, in the order, this one does not stand.
record IsBehind (ands : List AndLine) (order : List ℕ) (from k : ℕ) : Type 0 where
  line : ℕ
  within : line < length ands
  defines : defined_at ands line ≡ from
  by : (place : ℕ) → place < length order → slice_index_or order place 0 ≡ line → IsBy order k place

-- the and-line itself
here : (ands : List AndLine) (order : List ℕ) (from k : ℕ) → k < length ands → from ≡ defined_at ands k
    → IsBehind ands order from k
here ands order from k inside same = record {
  line = k;
  within = inside;
  defines = sym same;
  by = λ place low has. record { at = place; before = omega arith; has = has };
}

-- an and-line that uses one behind which this one does not stand
step : (ands : List AndLine) (order : List ℕ) → IsOrdered ands order → (from k i : ℕ) → i < length ands
    → defined_at ands i ≡ from → (used : ℕ) → used < length ands → Uses ands i used
    → ((place : ℕ) → place < length order → slice_index_or order place 0 ≡ used → IsBy order k place)
    → IsBehind ands order from k
step ands order ordered from k i inside defines used within uses by = record {
  line = i;
  within = inside;
  defines = defines;
  by = λ place low has.
      let earlier = ordered.earlier place used low within (subst (λ j. Uses ands j used) (sym has) uses) in
      let found = by earlier.0 (omega (arith, earlier.1, low)) earlier.2 in
      record { at = found.at; before = omega (arith, found.before, earlier.1); has = found.has };
}

-- what an and-line defines is reached only from what stands behind it
behind : (ands : List AndLine) (order : List ℕ) → IsOrdered ands order → (n from k : ℕ) → k < length ands
    → reaches ands n from (defined_at ands k) ≡ true → IsBehind ands order from k
behind ands order ordered zero from k inside h = here ands order from k inside (eqb-true from (defined_at ands k) h)
behind ands order ordered (suc n) from k inside h =
    let to = defined_at ands k in
    let steps = λ (line : AndLine). (variable_of line.defined == from)
    && (reaches ands n (variable_of line.first) to || reaches ands n (variable_of line.second) to) in
    elim (or_cases (from == to) (list_any steps ands) h) [
      | inl same ↦ here ands order from k inside (eqb-true from to same)
      | inr some ↦
          let found = passes_somewhere steps ands (record { defined = 0; first = 0; second = 0 }) some in
          let i = found.0 in
          let line = line_at ands i in
          let two = and_parts (variable_of line.defined == from)
          (reaches ands n (variable_of line.first) to || reaches ands n (variable_of line.second) to) found.2 in
          let defines = eqb-true (variable_of line.defined) from two.0 in
          elim (or_cases (reaches ands n (variable_of line.first) to) (reaches ands n (variable_of line.second) to)
          two.1) [
            | inl first ↦
                let next = behind ands order ordered n (variable_of line.first) k inside first in
                step ands order ordered from k i found.1 defines next.line next.within (inl (sym next.defines)) next.by
            | inr second ↦
                let next = behind ands order ordered n (variable_of line.second) k inside second in
                step ands order ordered from k i found.1 defines next.line next.within (inr (sym next.defines)) next.by
          ]
    ]

-- no and-line of an order uses one behind which it stands itself
apart : (ands : List AndLine) (order : List ℕ) → IsOrdered ands order → (k : ℕ) → k < length ands → (from : ℕ)
    → ((used : ℕ) → defined_at ands used ≡ from → Uses ands k used) → IsBehind ands order from k → ⊥
apart ands order ordered k inside from uses next =
    let own = ordered.has k inside in
    let place = own.0 in
    let earlier = ordered.earlier place next.line own.1 next.within
    (subst (λ j. Uses ands j next.line) (sym own.2) (uses next.line next.defines)) in
    let found = next.by earlier.0 (omega (arith, earlier.1, own.1)) earlier.2 in
    ordered.once found.at place (omega (arith, found.before, earlier.1)) own.1 (found.has ∙ sym own.2)

-- no and-line of an order lies on a cycle
none_on_cycle : (ands : List AndLine) (order : List ℕ) → IsOrdered ands order → (k : ℕ) → k < length ands
    → is_on_cycle ands k ≡ false
none_on_cycle ands order ordered k inside =
    let n = length ands in
    let to = defined_at ands k in
    let first = variable_of (line_at ands k).first in
    let second = variable_of (line_at ands k).second in
    let either = or_cases (reaches ands n first to) (reaches ands n second to) in
    false_from_ne_true (is_on_cycle ands k) (λ h. elim (either h) [
      | inl one ↦ apart ands order ordered k inside first (λ used same. inl (sym same))
          (behind ands order ordered n first k inside one)
      | inr other ↦ apart ands order ordered k inside second (λ used same. inr (sym same))
          (behind ands order ordered n second k inside other)
    ])

-- the circuit, where the gates have an order
pub made : (h : Header) (c text : Circuit) (order : List ℕ) → text ≡ c → IsOrdered text.ands order
    → without_cycle h c ≡ Ok text
made h c text order same ordered =
    let here = subst (λ (d : Circuit). IsOrdered d.ands order) same ordered in
    rw (found_none (is_on_cycle c.ands) 0 (length c.ands) (λ k inside. none_on_cycle c.ands order here k (omega (
      arith,
      inside,
    )))) (ap Ok (sym same))

-- the first and-line on a cycle
pub told : (h : Header) (c : Circuit) (index line : ℕ) → CycleIsFirst c.ands (Cycle index)
    → line ≡ 2 + h.inputs + h.outputs + index → without_cycle h c ≡ Err (at_line line (codes ": cycle"))
told h c index line first same =
    rw (found_first (is_on_cycle c.ands) 0 (length c.ands) index (omega arith) (omega (arith, first.0)) first.1 first.2)
    (ap (λ n. Err (at_line n (codes ": cycle"))) (sym same))
