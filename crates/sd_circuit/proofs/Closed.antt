-- The and-lines of a closed circuit define once.
use Rattle.std.proofs.Common.{◌≡◌, ℕ, ◌+◌, ◌<◌, ◌≤◌, length, map, get_or, inl, inr, sym, ◌∙◌}
use Rattle.std.proofs.Common.{ap, subst, arith, length-append}
use Rattle.std.proofs.lemmas.List.{length-map, get_or-append-add, get_or-map}
use Rattle.sd_model.specs.Circuit.{Circuit, AndLine}
use Rattle.sd_circuit.specs.Order.{IsClosed, IsDefined, DefineOnce, definitions, variable_of, line_at}

-- what an and-line defines is among the definitions
definition_at : (c : Circuit) (k : ℕ) → k < length c.ands
    → get_or (definitions c) (length c.inputs + k) 0 ≡ (line_at c.ands k).defined
definition_at c k inside =
    get_or-append-add c.inputs (map (λ (line : AndLine). line.defined) c.ands) k 0
    ∙ get_or-map (λ (line : AndLine). line.defined) c.ands k (record { defined = 0; first = 0; second = 0 })
    0 inside

-- so is its place
place_inside : (c : Circuit) (k : ℕ) → k < length c.ands → length c.inputs + k < length (definitions c)
place_inside c k inside =
    omega (
      arith,
      inside,
      length-append c.inputs (map (λ (line : AndLine). line.defined) c.ands),
      length-map c.ands (λ (line : AndLine). line.defined),
    )

-- a literal that is defined is of a variable of the circuit
defined_within : (c : Circuit) (literal : ℕ) → IsClosed c → IsDefined c literal → variable_of literal ≤ c.variables
defined_within c literal closed (inl constant) = omega (arith, constant)
defined_within c literal closed (inr (k, inside, is)) = subst (λ v. v ≤ c.variables) is (closed.within k inside)

pub closed_once : (c : Circuit) → IsClosed c → DefineOnce c.variables c.ands
closed_once c closed =
    record {
      defined = λ k inside.
          subst (λ l. variable_of l ≤ c.variables) (definition_at c k inside)
          (closed.within (length c.inputs + k) (place_inside c k inside));
      first = λ k inside. defined_within c (line_at c.ands k).first closed (closed.first k inside);
      second = λ k inside. defined_within c (line_at c.ands k).second closed (closed.second k inside);
      once = λ j k before inside same.
          let near : j < length c.ands = omega (arith, before, inside) in
          closed.once (length c.inputs + j) (length c.inputs + k) (omega (arith, before)) (place_inside c k inside)
          (ap variable_of (definition_at c j near) ∙ same ∙ ap variable_of (sym (definition_at c k inside)));
    }
