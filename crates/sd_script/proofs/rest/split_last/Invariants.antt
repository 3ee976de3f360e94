use Rattle.std.proofs.Common.{◌≡◌, ◌≤◌, true, length, map, ◌∷◌, ◌++◌, List, ℕ, Bor}
use Rattle.std.specs.List.{list_all}
use Rattle.sd_base.specs.Views.{words_left}
use Rattle.sd_script.specs.Forms.{is_name}
use Rattle.sd_script.proofs.rest.split_last.Given as goal

-- the names so far, the word in hand and what is left are the words of the line
abbrev pub invariant-loop-word : goal.invariant-loop-word
invariant-loop-word l = record {
  can_go : (goal.iterator-loop-word).can_next l.word-iterator;
  ends : (goal.iterator-loop-word).is_finite l.word-iterator;
  words : words_left l.words
      ≡ map (λ (word : Bor (List ℕ)). word.now) l.names.items ++ l.last ∷ words_left l.word-iterator;
  named : list_all is_name (map (λ (word : Bor (List ℕ)). word.now) l.names.items) ≡ true;
  few : length l.names.items ≤ 1024;
}
