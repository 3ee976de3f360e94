-- And-lines that use lesser ranks alone lie on no cycle, where ranks never rise.
use Rattle.std.proofs.Common.{◌≡◌, ℕ, ◌<◌, false, List, length, get_or, arith}
use Rattle.sd_model.specs.Circuit.{AndLine}
use Rattle.sd_circuit.specs.Order.{is_on_cycle}
use Rattle.sd_circuit.specs.Ranks.{NeverRise, FallBefore}
use Rattle.sd_circuit.proofs.Paths.{never_leads}

pub none_before : (ands : List AndLine) (ranks : List ℕ) (line : ℕ) → NeverRise ands ranks → FallBefore ands ranks line
    → line < length ands → (k : ℕ) → k < line → is_on_cycle ands k ≡ false
none_before ands ranks line never fall inside k before =
    never_leads ands (λ j. get_or ranks j 0 < get_or ranks k 0) k
    (λ j used below below' less uses. omega (arith, less, never j used below below' uses)) (fall k before)
    (omega (arith, before, inside)) (λ less. omega (arith, less)) (length ands)
