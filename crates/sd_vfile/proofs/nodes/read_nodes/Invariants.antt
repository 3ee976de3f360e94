use Rattle.std.proofs.Common.{◌≡◌, []}
use Rattle.sd_base.specs.Reading.{each_after}
use Rattle.sd_base.specs.Views.{content_left}
use Rattle.sd_vfile.specs.Reads.{entry_of}
use Rattle.sd_vfile.specs.Steps.{entries_of}
use Rattle.sd_vfile.proofs.nodes.read_nodes.Given as goal

-- what is left of the text, read after what was read, is all of it
abbrev pub invariant-loop-line : goal.invariant-loop-line
invariant-loop-line l = record {
  can_go : (goal.iterator-loop-line).can_next l.line-iterator;
  ends : (goal.iterator-loop-line).is_finite l.line-iterator;
  same : each_after (entry_of l.variables) (entries_of l.forms.items) (content_left l.line-iterator)
      ≡ each_after (entry_of l.variables) [] (content_left l.fn.lines);
}
