use Rattle.std.proofs.Common.{◌≡◌, ◌≤◌}
use Rattle.sd_base.specs.Reading.{each_to}
use Rattle.sd_base.specs.Views.{lines_left}
use Rattle.sd_aiger.specs.Steps.{header_view, body_view, no_lines, line_read, IsMarked}
use Rattle.sd_aiger.proofs.body.read_body.Given as goal

-- what is left of the text, read after what was read, is all of it
abbrev pub invariant-loop-line : goal.invariant-loop-line
invariant-loop-line l = record {
  can_go : (goal.iterator-loop-line).can_next l.line-iterator;
  ends : (goal.iterator-loop-line).is_finite l.line-iterator;
  same : each_to (line_read (header_view l.header)) (body_view l.body) (lines_left l.line-iterator)
      ≡ each_to (line_read (header_view l.header)) (no_lines l.header.variables) (lines_left l.fn.lines);
  marked : IsMarked l.body;
  variables : l.body.variables ≤ 2000000;
}
