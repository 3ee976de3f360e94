use Rattle.std.proofs.Common.{◌≡◌, ℕ, List, map, take, Bor}
use Rattle.sd_script.proofs.table.NameTable.texts.Given as goal

-- the words so far are copied
abbrev pub invariant-loop-word : goal.invariant-loop-word
invariant-loop-word l = l.names.items ≡ map (λ (k : Bor (List ℕ)). k.now) (take l.word-index l.word-items)
