use Rattle.std.proofs.Common.{◌≡◌, false, not, take}
use Rattle.std.specs.FinMap.{get}
use Rattle.std.specs.List.{list_any}
use Rattle.sd_file.specs.Files.{entry_pairs}
use Rattle.sd_check.specs.Rules.{stands_among, node_at}
use Rattle.sd_check.proofs.forms.has_prime_outside.Given as goal

-- none of the first elements is outside
abbrev pub invariant-loop-element : goal.invariant-loop-element
invariant-loop-element l =
    list_any (λ e. not (stands_among (get l.ids) l.first l.end (node_at l.file e.0)))
    (take l.element (entry_pairs l.file l.index))
    ≡ false
