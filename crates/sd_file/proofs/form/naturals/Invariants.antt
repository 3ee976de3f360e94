use Rattle.std.proofs.Common.{◌≡◌, ◌≤◌, ◌+◌, ◌++◌, length, option_map}
use Rattle.sd_base.specs.Numbers.{natural_value}
use Rattle.sd_base.specs.Views.{words_left}
use Rattle.sd_file.specs.Reads.{all_values}
use Rattle.sd_file.proofs.form.naturals.Given as goal

-- the numbers of what is left, put behind those that were read, are those of all words
abbrev pub invariant-loop-word : goal.invariant-loop-word
invariant-loop-word l = record {
  can_go : (goal.iterator-loop-word).can_next l.word-iterator;
  ends : (goal.iterator-loop-word).is_finite l.word-iterator;
  same : option_map (λ ns. l.numbers.items ++ ns) (all_values natural_value (words_left l.word-iterator))
      ≡ all_values natural_value (words_left l.fn.words);
  within_limit : length l.numbers.items + length (words_left l.word-iterator) ≤ length (words_left l.fn.words);
}
