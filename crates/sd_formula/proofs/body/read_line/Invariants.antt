use Rattle.std.proofs.Common.{◌≡◌, ◌+◌, ◌≤◌, map, length}
use Rattle.sd_base.specs.Views.{words_left, line_view}
use Rattle.sd_formula.specs.Dimacs.{words_at}
use Rattle.sd_formula.specs.Steps.{body_view, put_pieces}
use Rattle.sd_formula.proofs.body.read_line.Given as goal

-- what is left of the line, put behind what was read, is all of it
abbrev pub invariant-loop-word : goal.invariant-loop-word
invariant-loop-word l =
    let left = map (λ word. record { line = l.line.number; bytes = word }) (words_left l.word-iterator) in record {
      can_go : (goal.iterator-loop-word).can_next l.word-iterator;
      ends : (goal.iterator-loop-word).is_finite l.word-iterator;
      same : put_pieces l.kind l.variables (body_view l.body) left
          ≡ put_pieces l.kind l.variables (body_view l.initial.body) (words_at (line_view l.line));
      within_limit : length l.body.literals.items + length left
          ≤ length l.initial.body.literals.items + length (words_at (line_view l.line));
    }
