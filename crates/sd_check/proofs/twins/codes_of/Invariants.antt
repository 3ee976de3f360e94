use Rattle.std.proofs.Common.{◌≡◌, map, take}
use Rattle.sd_check.proofs.twins.codes_of.Given as goal

-- the first codes
abbrev pub invariant-loop-element : goal.invariant-loop-element
invariant-loop-element l = l.codes.items ≡ map (λ e. e.1) (take l.element-index l.elements)
