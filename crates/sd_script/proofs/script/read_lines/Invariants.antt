use Rattle.std.proofs.Common.{◌≡◌}
use Rattle.sd_base.specs.Lines.{numbered_lines_from}
use Rattle.sd_base.specs.Views.{lines_left}
use Rattle.sd_base.specs.Words.{lines_of}
use Rattle.sd_script.specs.Scripts.{after_lines, empty}
use Rattle.sd_script.specs.Read.{IsScript}
use Rattle.sd_script.specs.Steps.{script_view}
use Rattle.sd_script.proofs.script.read_lines.Given as goal

-- what is left of the text, read after what was read, is all of it
abbrev pub invariant-loop-line : goal.invariant-loop-line
invariant-loop-line l = record {
  can_go : (goal.iterator-loop-line).can_next l.line-iterator;
  ends : (goal.iterator-loop-line).is_finite l.line-iterator;
  same : after_lines l.variables l.outputs (script_view l.reader) (lines_left l.line-iterator)
      ≡ after_lines l.variables l.outputs empty (numbered_lines_from 1 (lines_of l.bytes));
  script : IsScript l.variables l.outputs (script_view l.reader);
}
