use Rattle.std.proofs.Common.{◌≡◌, true, take}
use Rattle.std.specs.List.{list_all}
use Rattle.sd_file.specs.Files.{entry_pairs}
use Rattle.sd_check.specs.Rules.{node_at, is_constant_node}
use Rattle.sd_check.proofs.forms.are_subs_constant.Given as goal

-- the first subs are constants
abbrev pub invariant-loop-element : goal.invariant-loop-element
invariant-loop-element l =
    list_all (λ e. is_constant_node (node_at l.file e.1)) (take l.element (entry_pairs l.file l.index)) ≡ true
