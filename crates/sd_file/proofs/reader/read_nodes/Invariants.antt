use Rattle.std.proofs.Common.{◌≡◌, ◌≤◌, ◌+◌, [], length}
use Rattle.sd_base.specs.Reading.{each_after}
use Rattle.sd_base.specs.Views.{content_left}
use Rattle.sd_file.specs.Reads.{entry_of}
use Rattle.sd_file.specs.Steps.{nodes_view, IsRead, word_count}
use Rattle.sd_file.proofs.reader.read_nodes.Given as goal

-- what is left, read after what was read, is all of it
abbrev pub invariant-loop-line : goal.invariant-loop-line
invariant-loop-line l = record {
  can_go : (goal.iterator-loop-line).can_next l.line-iterator;
  ends : (goal.iterator-loop-line).is_finite l.line-iterator;
  read : IsRead l.nodes;
  same : each_after (entry_of l.variables) (nodes_view l.nodes) (content_left l.line-iterator)
      ≡ each_after (entry_of l.variables) [] (content_left l.fn.lines);
  within_limit : length l.nodes.id_table.entries.items + word_count (content_left l.line-iterator) ≤ 67108864;
}
