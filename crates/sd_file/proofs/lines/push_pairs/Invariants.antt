use Rattle.std.proofs.Common.{◌≡◌, ◌++◌, drop}
use Rattle.sd_model.specs.Text.{spaced}
use Rattle.sd_file.specs.Numbers.{pair_words}
use Rattle.sd_file.proofs.lines.push_pairs.Given as goal

-- what is written, and what is left to write
abbrev pub invariant-loop-pair : goal.invariant-loop-pair
invariant-loop-pair l =
    l.text.items ++ spaced (pair_words l.numbers (drop l.pair-index l.pairs))
    ≡ l.fn.text.items ++ spaced (pair_words l.numbers l.pairs)
