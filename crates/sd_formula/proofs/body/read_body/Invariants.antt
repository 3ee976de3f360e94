use Rattle.std.proofs.Common.{◌≡◌, ◌+◌, ◌≤◌, length}
use Rattle.sd_base.specs.Views.{content_left}
use Rattle.sd_formula.specs.Dimacs.{body_words}
use Rattle.sd_formula.specs.Steps.{body_view, no_parts, put_pieces}
use Rattle.sd_formula.proofs.body.read_body.Given as goal

-- what is left of the text, put behind what was read, is all of it
abbrev pub invariant-loop-line : goal.invariant-loop-line
invariant-loop-line l = record {
  can_go : (goal.iterator-loop-line).can_next l.line-iterator;
  ends : (goal.iterator-loop-line).is_finite l.line-iterator;
  same : put_pieces l.kind l.variables (body_view l.body) (body_words (content_left l.line-iterator))
      ≡ put_pieces l.kind l.variables no_parts (body_words (content_left l.fn.lines));
  within_limit : length l.body.literals.items + length (body_words (content_left l.line-iterator)) ≤ 67108864;
}
