-- Marks tell which literals are defined.
use Rattle.std.proofs.Common.{◌≡◌, ℕ, ◌≤◌, Bool, not, ◌&&◌, ◌||◌, List}
use Rattle.std.proofs.Common.{refl, ap}
use Rattle.std.specs.Prelude.{nat_lt, slice_index_or, position}
use Rattle.sd_model.specs.Circuit.{AndLine, Circuit}
use Rattle.sd_circuit.specs.Order.{variable_of, definitions, line_at}
use Rattle.sd_aiger.specs.Reads.{Header, is_defined}
use Rattle.sd_aiger.specs.Steps.{AreMarked, IsRead, is_known}
use Rattle.sd_aiger.proofs.Lists.{same_position}

-- a literal is known where it is defined
known : (c : Circuit) (marks : List Bool) (literal : ℕ) → AreMarked c.variables (definitions c) marks
    → variable_of literal ≤ c.variables → is_known marks literal ≡ is_defined c literal
known c marks literal marked within = ap (λ b. nat_lt literal 2 || b) (marked.each (variable_of literal) within)

-- the first output that is not known
pub unknown_outputs : (h : Header) (c : Circuit) (marks : List Bool) → IsRead h c
    → AreMarked c.variables (definitions c) marks
    → position (λ output. not (is_known marks output)) c.outputs
    ≡ position (λ output. not (is_defined c output)) c.outputs
unknown_outputs h c marks read marked =
    same_position (λ output. not (is_known marks output)) (λ output. not (is_defined c output)) c.outputs 0
    (λ k inside. ap not (known c marks (slice_index_or c.outputs k 0) marked (read.output k inside)))

-- the first and-line with a right side that is not known
pub unknown_ands : (h : Header) (c : Circuit) (marks : List Bool) → IsRead h c
    → AreMarked c.variables (definitions c) marks
    → position (λ (line : AndLine). not (is_known marks line.first && is_known marks line.second)) c.ands
    ≡ position (λ (line : AndLine). not (is_defined c line.first && is_defined c line.second)) c.ands
unknown_ands h c marks read marked =
    same_position (λ (line : AndLine). not (is_known marks line.first && is_known marks line.second))
    (λ (line : AndLine). not (is_defined c line.first && is_defined c line.second)) c.ands
    (record { defined = 0; first = 0; second = 0 })
    (λ k inside. both (known c marks (line_at c.ands k).first marked (read.first k inside))
    (known c marks (line_at c.ands k).second marked (read.second k inside)))
  where
    both : {a b x y : Bool} → a ≡ b → x ≡ y → not (a && x) ≡ not (b && y)
    both first second = rw (first, second) refl
