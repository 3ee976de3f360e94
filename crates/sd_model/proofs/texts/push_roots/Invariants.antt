use Rattle.std.proofs.Common.{◌≡◌, ◌++◌, drop, map}
use Rattle.std.specs.List.{flat_map}
use Rattle.sd_model.specs.Text.{line_text, root_lines}
use Rattle.sd_model.specs.Seen.{diagram_of, diagrams_of}
use Rattle.sd_model.proofs.texts.push_roots.Given as goal

-- what is written, and what is left to write
abbrev pub invariant-loop-number : goal.invariant-loop-number
invariant-loop-number l =
    l.text.items ++ flat_map line_text
    (root_lines (diagrams_of l.nodes) l.number (map diagram_of (drop l.number l.roots)))
    ≡ l.fn.text.items ++ flat_map line_text (root_lines (diagrams_of l.nodes) 0 (map diagram_of l.roots))
