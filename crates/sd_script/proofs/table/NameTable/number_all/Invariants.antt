use Rattle.std.proofs.Common.{◌≡◌, ◌≤◌, length, map, take, List, ℕ, Bor}
use Rattle.sd_script.specs.Scripts.{see_all, number_of_word}
use Rattle.sd_script.specs.Tables.{table_words}
use Rattle.sd_script.proofs.table.NameTable.number_all.Given as goal

-- the words so far are among those of the table, with their numbers there
abbrev pub invariant-loop-word : goal.invariant-loop-word
invariant-loop-word l = record {
  words : table_words l.self
      ≡ see_all (table_words l.initial.self) (map (λ (word : Bor (List ℕ)). word.now) (take l.word-index l.words));
  numbers : l.numbers.items ≡ map (number_of_word (table_words l.self))
      (map (λ (word : Bor (List ℕ)). word.now) (take l.word-index l.words));
  grown : length (table_words l.initial.self) ≤ length (table_words l.self);
}
