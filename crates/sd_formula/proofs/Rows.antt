-- Worked examples of texts in the format of DIMACS.
use Rattle.std.proofs.Common.{◌≡◌, true, false, ℤ, List, [], ◌∷◌, ◌++◌, refl, Ok, Err, pos, negsuc}
use Rattle.std.specs.Prelude.{codes}
use Rattle.sd_model.specs.Expression.{Group}
use Rattle.sd_model.specs.Text.{number_text}
use Rattle.sd_formula.specs.declared.formula.Kind.TheVariants.{Cnf, Dnf}
use Rattle.sd_formula.specs.Dimacs.{dimacs}
use Rattle.sd_base.specs.FaultTexts.{at_line}
use Rattle.sd_formula.specs.Generated.{generated_formula}

-- literals as a group without a mark
abbrev clause : List ℤ → Group
clause literals = record { exclusive = false; literals = literals }

-- literals as an exclusive group
abbrev exclusive : List ℤ → Group
exclusive literals = record { exclusive = true; literals = literals }

-- ---- texts that stand for a formula

-- a comment, the layout of the collection SATLIB, and a last line that is not read
satlib : dimacs Cnf (codes "c SATLIB layout\np cnf 2 2\n 1 2 0\n-1 2 0\n%\n0\n\n")
    ≡ Ok (record {
      kind = Cnf;
      variables = 2;
      groups = clause (pos 1 ∷ pos 2 ∷ []) ∷ clause (negsuc 0 ∷ pos 2 ∷ []) ∷ [];
    })
unfolding dimacs
satlib = refl

-- lines that end in CR and LF, and a byte past ASCII in a comment
windows : dimacs Dnf (codes "c " ++ 255 ∷ codes "\r\np dnf 2 1\r\n1 -2\r\n 0\r\n")
    ≡ Ok (record { kind = Dnf; variables = 2; groups = clause (pos 1 ∷ negsuc 1 ∷ []) ∷ [] })
unfolding dimacs
windows = refl

-- a group goes over lines, one of them blank and one a comment, and two groups share a line
over_lines : dimacs Dnf (codes " p\tdnf 2 2\r\n1\n\n c 0\n-2 0 0")
    ≡ Ok (record { kind = Dnf; variables = 2; groups = clause (pos 1 ∷ negsuc 1 ∷ []) ∷ clause [] ∷ [] })
unfolding dimacs
over_lines = refl

no_clauses : dimacs Cnf (codes "p cnf 17 0") ≡ Ok (record { kind = Cnf; variables = 17; groups = [] })
unfolding dimacs
no_clauses = refl

-- an empty clause; repeated and opposite literals; minus zero
kept_as_written : dimacs Cnf (codes "p cnf 2 2\n0 1 -1 1 -0")
    ≡ Ok (record { kind = Cnf; variables = 2; groups = clause [] ∷ clause (pos 1 ∷ negsuc 0 ∷ pos 1 ∷ []) ∷ [] })
unfolding dimacs
kept_as_written = refl

-- a percent sign ends the body where it is the first byte that is no separator
percent_after_spaces : dimacs Cnf (codes "p cnf 2 1\n1 2 0\n \t% 3\nq\n")
    ≡ Ok (record { kind = Cnf; variables = 2; groups = clause (pos 1 ∷ pos 2 ∷ []) ∷ [] })
unfolding dimacs
percent_after_spaces = refl

-- the mark as a word, joined to a literal and joined to a zero; an exclusive group may go over lines
exclusive_groups : dimacs Cnf (codes "p cnf 2 5\nx 1 2 0 x-1\n 0 1 0 x0\nx-0")
    ≡ Ok (record {
      kind = Cnf;
      variables = 2;
      groups = exclusive (pos 1 ∷ pos 2 ∷ []) ∷ exclusive (negsuc 0 ∷ []) ∷ clause (pos 1 ∷ []) ∷ exclusive []
          ∷ exclusive [] ∷ [];
    })
unfolding dimacs
exclusive_groups = refl

-- ---- faults of the header

empty : dimacs Cnf [] ≡ Err (codes ": no header")
unfolding dimacs
empty = refl

-- only a comment and a blank line
no_line : dimacs Cnf (codes "c p cnf 1 0\n \n") ≡ Err (codes ": no header")
unfolding dimacs
no_line = refl

-- compressed data
packed : dimacs Cnf (31 ∷ codes "p cnf 2 1\n") ≡ Err (codes ": no header")
unfolding dimacs
packed = refl

-- a percent sign before any header
percent_first : dimacs Cnf (codes "%\np cnf 2 0\n") ≡ Err (codes ": no header")
unfolding dimacs
percent_first = refl

other_kind : dimacs Dnf (codes "c x\np cnf 2 1\n1 2 0\n") ≡ Err (codes ": line 2: bad header")
unfolding dimacs number_text
other_kind = refl

five_words : dimacs Cnf (codes "p cnf 2 1 0\n") ≡ Err (codes ": line 1: bad header")
unfolding dimacs number_text
five_words = refl

negative : dimacs Cnf (codes "p cnf 2 -1\n") ≡ Err (codes ": line 1: bad header")
unfolding dimacs number_text
negative = refl

no_variables : dimacs Cnf (codes "p cnf 0 0\n") ≡ Err (codes ": variables out of range: 0")
unfolding dimacs number_text
no_variables = refl

too_many_variables : dimacs Cnf (codes "p cnf 1025 0\n") ≡ Err (codes ": variables out of range: 1025")
unfolding dimacs number_text
too_many_variables = refl

too_many_groups : dimacs Cnf (codes "p cnf 2 1000001\n") ≡ Err (codes ": too many groups: " ++ number_text 1000001)
unfolding dimacs
too_many_groups = refl

-- the number of variables is tested before that of groups, and both before the body
variables_first : dimacs Cnf (codes "p cnf 0 1000001\n") ≡ Err (codes ": variables out of range: 0")
unfolding dimacs number_text
variables_first = refl

groups_before_body : dimacs Cnf (codes "p cnf 2 1000001\nq\n")
    ≡ Err (codes ": too many groups: " ++ number_text 1000001)
unfolding dimacs
groups_before_body = refl

-- ---- faults of the body

out_of_range : dimacs Cnf (codes "p cnf 4 1\n1 5 0\n") ≡ Err (codes ": line 2: literal out of range: 5")
unfolding dimacs number_text
out_of_range = refl

eighteen_digits : dimacs Cnf (codes "p cnf 2 1\n1 999999999999999999 0\n")
    ≡ Err (at_line 2 (codes ": literal out of range: " ++ number_text 999999999999999999))
unfolding dimacs
eighteen_digits = refl

nineteen_digits : dimacs Cnf (codes "p cnf 2 1\n1 1000000000000000000 0\n") ≡ Err (codes ": line 2: bad word")
unfolding dimacs number_text
nineteen_digits = refl

second_header : dimacs Cnf (codes "p cnf 2 1\np cnf 2 1\n1 2 0\n") ≡ Err (codes ": line 2: bad word")
unfolding dimacs number_text
second_header = refl

-- a percent sign that is not first in its line is no integer
percent_inside : dimacs Cnf (codes "p cnf 2 1\n1 % 0\n") ≡ Err (codes ": line 2: bad word")
unfolding dimacs number_text
percent_inside = refl

-- no integer begins with a plus
plus : dimacs Cnf (codes "p cnf 2 1\n+1 0\n") ≡ Err (codes ": line 2: bad word")
unfolding dimacs number_text
plus = refl

-- the first word with a fault decides, in the order of the text
word_by_word : dimacs Cnf (codes "p cnf 2 1\n1 -3 +2\nq\n") ≡ Err (codes ": line 2: literal out of range: -3")
unfolding dimacs number_text
word_by_word = refl

bad_word_first : dimacs Cnf (codes "p cnf 2 1\n1 +2 -3\n") ≡ Err (codes ": line 2: bad word")
unfolding dimacs number_text
bad_word_first = refl

-- a mark stands only where a group begins, and only under cnf
mark_inside : dimacs Cnf (codes "p cnf 2 1\n1 x 2 0\n") ≡ Err (codes ": line 2: bad word")
unfolding dimacs number_text
mark_inside = refl

two_marks : dimacs Cnf (codes "p cnf 2 1\nx x 2 0\n") ≡ Err (codes ": line 2: bad word")
unfolding dimacs number_text
two_marks = refl

two_joined_marks : dimacs Cnf (codes "p cnf 2 1\nxx2 0\n") ≡ Err (codes ": line 2: bad word")
unfolding dimacs number_text
two_joined_marks = refl

mark_of_terms : dimacs Dnf (codes "p dnf 2 1\nx 1 0\n") ≡ Err (codes ": line 2: bad word")
unfolding dimacs number_text
mark_of_terms = refl

-- also where the number that is joined to it is out of range; at the beginning that number decides
mark_before_number : dimacs Cnf (codes "p cnf 2 1\n1 x3 0\n") ≡ Err (codes ": line 2: bad word")
unfolding dimacs number_text
mark_before_number = refl

number_after_mark : dimacs Cnf (codes "p cnf 2 1\nx3 0\n") ≡ Err (codes ": line 2: literal out of range: 3")
unfolding dimacs number_text
number_after_mark = refl

-- a mark alone begins a group
mark_not_ended : dimacs Cnf (codes "p cnf 2 1\nx\n%\n0\n") ≡ Err (codes ": last group is not ended")
unfolding dimacs
mark_not_ended = refl

not_ended : dimacs Cnf (codes "p cnf 2 1\n1 2\n") ≡ Err (codes ": last group is not ended")
unfolding dimacs
not_ended = refl

-- the end is tested before the count, and a zero after a percent sign ends nothing
not_ended_first : dimacs Cnf (codes "p cnf 2 3\n1 2 0 1\n%\n0\n") ≡ Err (codes ": last group is not ended")
unfolding dimacs
not_ended_first = refl

three_stated : dimacs Cnf (codes "p cnf 2 3\n1 2 0\n-1 0\n") ≡ Err (codes ": 3 stated, 2 found")
unfolding dimacs number_text
three_stated = refl

none_found : dimacs Cnf (codes "p cnf 2 1") ≡ Err (codes ": 1 stated, 0 found")
unfolding dimacs number_text
none_found = refl

more_found : dimacs Dnf (codes "p dnf 2 0\n0 0\n") ≡ Err (codes ": 0 stated, 2 found")
unfolding dimacs number_text
more_found = refl

-- ---- generated formulas

two_clauses : generated_formula 4 0 ≡ record {
  kind = Cnf;
  variables = 4;
  groups = clause (pos 1 ∷ pos 2 ∷ negsuc 2 ∷ []) ∷ clause (negsuc 1 ∷ pos 3 ∷ negsuc 3 ∷ []) ∷ [];
}
two_clauses = refl
