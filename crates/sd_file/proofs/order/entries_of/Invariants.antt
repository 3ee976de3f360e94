use Rattle.sd_file.specs.Ranks.{HasEntries}
use Rattle.sd_file.proofs.order.entries_of.Given as goal

-- the entries so far are those of the first codes
abbrev pub invariant-loop-code : goal.invariant-loop-code
invariant-loop-code l = HasEntries l.m l.o l.group l.code-index l.entries.items
