use Rattle.std.proofs.Common.{◌≡◌, map, take}
use Rattle.sd_file.specs.Files.{entry_pairs}
use Rattle.sd_check.specs.Judging.{built_pair}
use Rattle.sd_check.proofs.checker.elements_of.Given as goal

-- the first elements
abbrev pub invariant-loop-element : goal.invariant-loop-element
invariant-loop-element l = l.elements.items ≡ map (built_pair l.built) (take l.element (entry_pairs l.file l.index))
