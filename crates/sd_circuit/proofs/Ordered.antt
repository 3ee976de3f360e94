-- Where there is an order no and-line leads to itself.
use Rattle.std.proofs.Common.{◌≡◌, ℕ, suc, ◌<◌, false, List, length, get_or, sym, ◌∙◌, subst, arith}
use Rattle.sd_model.specs.Circuit.{AndLine}
use Rattle.sd_circuit.specs.Order.{Uses, IsOrdered, leads_within}
use Rattle.sd_circuit.proofs.Paths.{never_leads}

-- the and-line stands at a place before this one
abbrev StandsBefore : List ℕ → ℕ → ℕ → Type 0
StandsBefore order place k = (p : ℕ) × (p < length order) × (p < place) × (get_or order p 0 ≡ k)

-- what an and-line uses that stands at or before a place stands before it
uses_before : (ands : List AndLine) (order : List ℕ) (place p k used : ℕ) → IsOrdered ands order → p < length order
    → p < suc place → get_or order p 0 ≡ k → used < length ands → Uses ands k used → StandsBefore order place used
uses_before ands order place p k used ordered inside near is below uses =
    found (ordered.earlier p used inside below (subst (λ x. Uses ands x used) (sym is) uses))
  where
    found : (before : ℕ) × (before < p) × (get_or order before 0 ≡ used) → StandsBefore order place used
    found (before, less, there) = (before, omega (arith, less, inside), omega (arith, less, near), there)

pub ordered_no_cycle : (ands : List AndLine) (order : List ℕ) (k n : ℕ) → IsOrdered ands order → k < length ands
    → leads_within ands n k k ≡ false
ordered_no_cycle ands order k n ordered inside = from (ordered.has k inside)
  where
    from : (place : ℕ) × (place < length order) × (get_or order place 0 ≡ k) → leads_within ands n k k ≡ false
    from (place, below, is) =
        never_leads ands (StandsBefore order place) k
        (λ j used _ below' there uses.
        uses_before ands order place there.0 j used ordered there.1 (omega (arith, there.2)) there.3 below' uses)
        (λ used below' uses.
        uses_before ands order place place k used ordered below (omega arith) is below' uses)
        inside (λ there. ordered.once there.0 place there.2 below (there.3 ∙ sym is)) n
