use Rattle.std.proofs.Common.{◌≡◌, ◌++◌, drop}
use Rattle.std.specs.List.{flat_map}
use Rattle.sd_model.specs.Text.{line_text}
use Rattle.sd_file.specs.Numbers.{root_words}
use Rattle.sd_file.proofs.lines.push_roots.Given as goal

-- what is written, and what is left to write
abbrev pub invariant-loop-index : goal.invariant-loop-index
invariant-loop-index l =
    l.text.items ++ flat_map line_text (root_words l.numbers l.index (drop l.index l.nodes))
    ≡ l.fn.text.items ++ flat_map line_text (root_words l.numbers 0 l.nodes)
