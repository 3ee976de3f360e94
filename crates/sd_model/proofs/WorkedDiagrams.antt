-- Worked diagrams: their texts, alone and together, and their sizes, by computation.
use Rattle.std.proofs.Common.{◌≡◌, ℕ, true, false, List, [], ◌∷◌, ◌++◌, length, refl}
use Rattle.std.specs.Prelude.{codes}
use Rattle.std.specs.List.{flat_map}
use Rattle.sd_model.specs.Diagram.{Diagram, Bottom, Top, Literal, Decomposition, Elements, End, Pair}
use Rattle.sd_model.specs.Size.{completed, size_of}
use Rattle.sd_model.specs.Text.{number_text, sdd_text, roots_text}

-- lines, each ended by a line feed
abbrev pub lines_text : List (List ℕ) → List ℕ
lines_text lines = flat_map (λ line. line ++ 10 ∷ []) lines

-- two elements
abbrev pub two : Diagram → Diagram → Diagram → Diagram → Elements
two p s q t = Pair p s (Pair q t End)

-- three elements
abbrev pub three : Diagram → Diagram → Diagram → Diagram → Diagram → Diagram → Elements
three p s q t u v = Pair p s (two q t u v)

-- 1 or 2, for (1 2)
abbrev pub disjunction : Diagram
disjunction = Decomposition 1 (two (Literal 0 1 false) (Literal 2 2 true) (Literal 0 1 true) Top)

text_of_disjunction : sdd_text disjunction
    ≡ lines_text (codes "sdd 5" ∷ codes "L 0 0 -1" ∷ codes "L 1 2 2" ∷ codes "L 2 0 1" ∷ codes "T 3"
    ∷ codes "D 4 1 2 0 1 2 3" ∷ [])
unfolding number_text completed roots_text sdd_text
text_of_disjunction = refl

length_of_disjunction : length (sdd_text disjunction) ≡ 51
unfolding number_text completed roots_text sdd_text
length_of_disjunction = refl

size_of_disjunction : size_of (disjunction ∷ []) ≡ 2
unfolding completed size_of
size_of_disjunction = refl

-- 1 and 2, for a node over the leaves of 1 and 2
abbrev pub one_and_two : Diagram
one_and_two = Decomposition 1 (two (Literal 0 1 false) Bottom (Literal 0 1 true) (Literal 2 2 true))

-- with the disjunction as the second root
text_of_both : roots_text (one_and_two ∷ disjunction ∷ [])
    ≡ lines_text (codes "sdd 7" ∷ codes "L 0 0 -1" ∷ codes "F 1" ∷ codes "L 2 0 1" ∷ codes "L 3 2 2"
    ∷ codes "D 4 1 2 0 1 2 3" ∷ codes "T 5" ∷ codes "D 6 1 2 0 3 2 5" ∷ codes "c root 0 4" ∷ codes "c root 1 6" ∷ [])
unfolding number_text completed roots_text
text_of_both = refl

-- with the literal 1 as the first root, which is complete before all others
text_of_literal_first : roots_text (Literal 0 1 true ∷ one_and_two ∷ [])
    ≡ lines_text (codes "sdd 5" ∷ codes "L 0 0 1" ∷ codes "L 1 0 -1" ∷ codes "F 2" ∷ codes "L 3 2 2"
    ∷ codes "D 4 1 2 1 2 0 3" ∷ codes "c root 0 0" ∷ codes "c root 1 4" ∷ [])
unfolding number_text completed roots_text
text_of_literal_first = refl

-- and with it as the second one, which stands under the first
text_of_literal_last : roots_text (one_and_two ∷ Literal 0 1 true ∷ [])
    ≡ lines_text (codes "sdd 5" ∷ codes "L 0 0 -1" ∷ codes "F 1" ∷ codes "L 2 0 1" ∷ codes "L 3 2 2"
    ∷ codes "D 4 1 2 0 1 2 3" ∷ codes "c root 0 4" ∷ codes "c root 1 2" ∷ [])
unfolding number_text completed roots_text
text_of_literal_last = refl

-- a root that is repeated has a line for each time
text_of_a_repeated_root : roots_text (Top ∷ Top ∷ [])
    ≡ lines_text (codes "sdd 1" ∷ codes "T 0" ∷ codes "c root 0 0" ∷ codes "c root 1 0" ∷ [])
unfolding number_text completed roots_text
text_of_a_repeated_root = refl

-- its negation
abbrev pub not_one_and_two : Diagram
not_one_and_two = Decomposition 1 (two (Literal 0 1 false) Top (Literal 0 1 true) (Literal 2 2 false))

-- 3 and 4, for the right child of ((1 2) (3 4))
abbrev pub three_and_four : Diagram
three_and_four = Decomposition 5 (two (Literal 4 3 false) Bottom (Literal 4 3 true) (Literal 6 4 true))

-- (1 and 2) or (3 and 4), for ((1 2) (3 4)): of the primes the one with the lesser first sub is the first
abbrev pub two_terms : Diagram
two_terms = Decomposition 3 (two one_and_two Top not_one_and_two three_and_four)

text_of_two_terms : sdd_text two_terms
    ≡ lines_text (codes "sdd 13" ∷ codes "L 0 0 -1" ∷ codes "F 1" ∷ codes "L 2 0 1" ∷ codes "L 3 2 2"
    ∷ codes "D 4 1 2 0 1 2 3" ∷ codes "T 5" ∷ codes "L 6 2 -2" ∷ codes "D 7 1 2 0 5 2 6" ∷ codes "L 8 4 -3"
    ∷ codes "L 9 4 3" ∷ codes "L 10 6 4" ∷ codes "D 11 5 2 8 1 9 10" ∷ codes "D 12 3 2 4 5 7 11" ∷ [])
unfolding number_text completed roots_text sdd_text
text_of_two_terms = refl

size_of_two_terms : size_of (two_terms ∷ []) ≡ 8
unfolding completed size_of
size_of_two_terms = refl

-- not 1, and 2 with a sign, for a node over the leaves of 1 and 2
abbrev pub not_one_and : Diagram → Diagram
not_one_and literal = Decomposition 1 (two (Literal 0 1 false) literal (Literal 0 1 true) Bottom)

-- 1 or (2 and 3), for (((1 2) 3) 4)
abbrev pub or_and : Diagram
or_and =
    Decomposition 3
    (three (Literal 0 1 true) Top (not_one_and (Literal 2 2 false)) Bottom
    (not_one_and (Literal 2 2 true)) (Literal 4 3 true))

text_of_or_and : sdd_text or_and
    ≡ lines_text (codes "sdd 10" ∷ codes "L 0 0 1" ∷ codes "T 1" ∷ codes "L 2 0 -1" ∷ codes "L 3 2 -2"
    ∷ codes "F 4" ∷ codes "D 5 1 2 2 3 0 4" ∷ codes "L 6 2 2" ∷ codes "D 7 1 2 2 6 0 4" ∷ codes "L 8 4 3"
    ∷ codes "D 9 3 3 0 1 5 4 7 8" ∷ [])
unfolding number_text completed roots_text sdd_text
text_of_or_and = refl

size_of_or_and : size_of (or_and ∷ []) ≡ 7
unfolding completed size_of
size_of_or_and = refl

-- 2 and 3, for the node over their leaves in ((1 (2 3)) 4)
abbrev pub two_and_three : Diagram
two_and_three = Decomposition 3 (two (Literal 2 2 false) Bottom (Literal 2 2 true) (Literal 4 3 true))

-- 1 or (2 and 3), for ((1 (2 3)) 4)
abbrev pub or_and_rotated : Diagram
or_and_rotated = Decomposition 1 (two (Literal 0 1 false) two_and_three (Literal 0 1 true) Top)

text_of_or_and_rotated : sdd_text or_and_rotated
    ≡ lines_text (codes "sdd 9" ∷ codes "L 0 0 -1" ∷ codes "L 1 2 -2" ∷ codes "F 2" ∷ codes "L 3 2 2"
    ∷ codes "L 4 4 3" ∷ codes "D 5 3 2 1 2 3 4" ∷ codes "L 6 0 1" ∷ codes "T 7" ∷ codes "D 8 1 2 0 5 6 7" ∷ [])
unfolding number_text completed roots_text sdd_text
text_of_or_and_rotated = refl

size_of_or_and_rotated : size_of (or_and_rotated ∷ []) ≡ 4
unfolding completed size_of
size_of_or_and_rotated = refl

-- 4 and 2, for the node over their leaves in (1 (3 (4 2)))
abbrev pub four_and_two : Diagram
four_and_two = Decomposition 5 (two (Literal 4 4 false) Bottom (Literal 4 4 true) (Literal 6 2 true))

-- 3 or (4 and 2), for the right child
abbrev pub three_or : Diagram
three_or = Decomposition 3 (two (Literal 2 3 false) four_and_two (Literal 2 3 true) Top)

-- (1 and 3) or (2 and 4), for (1 (3 (4 2))): the shared decomposition counts once
abbrev pub crossed_terms : Diagram
crossed_terms = Decomposition 1 (two (Literal 0 1 false) four_and_two (Literal 0 1 true) three_or)

text_of_crossed_terms : sdd_text crossed_terms
    ≡ lines_text (codes "sdd 12" ∷ codes "L 0 0 -1" ∷ codes "L 1 4 -4" ∷ codes "F 2" ∷ codes "L 3 4 4"
    ∷ codes "L 4 6 2" ∷ codes "D 5 5 2 1 2 3 4" ∷ codes "L 6 0 1" ∷ codes "L 7 2 -3" ∷ codes "L 8 2 3"
    ∷ codes "T 9" ∷ codes "D 10 3 2 7 5 8 9" ∷ codes "D 11 1 2 0 5 6 10" ∷ [])
unfolding number_text completed roots_text sdd_text
text_of_crossed_terms = refl

size_of_crossed_terms : size_of (crossed_terms ∷ []) ≡ 6
unfolding completed size_of
size_of_crossed_terms = refl

-- not 3 and not 4, or 3: the right side of the next diagram where 2 holds
abbrev pub three_or_not_four : Diagram
three_or_not_four = Decomposition 5 (two (Literal 4 3 false) (Literal 6 4 false) (Literal 4 3 true) Top)

-- 1 and not 2, for a node over the leaves of 1 and 2
abbrev pub one_and_not_two : Diagram
one_and_not_two = Decomposition 1 (two (Literal 0 1 false) Bottom (Literal 0 1 true) (Literal 2 2 false))

-- (1 or 2 or not 3) and (not 2 or 3 or not 4), for ((1 2) (3 4))
abbrev pub two_clauses : Diagram
two_clauses =
    Decomposition 3
    (three (Literal 2 2 true) three_or_not_four one_and_not_two Top
    (not_one_and (Literal 2 2 false)) (Literal 4 3 false))

text_of_two_clauses : sdd_text two_clauses
    ≡ lines_text (codes "sdd 13" ∷ codes "L 0 2 2" ∷ codes "L 1 4 -3" ∷ codes "L 2 6 -4" ∷ codes "L 3 4 3"
    ∷ codes "T 4" ∷ codes "D 5 5 2 1 2 3 4" ∷ codes "L 6 0 -1" ∷ codes "F 7" ∷ codes "L 8 0 1" ∷ codes "L 9 2 -2"
    ∷ codes "D 10 1 2 6 7 8 9" ∷ codes "D 11 1 2 6 9 8 7" ∷ codes "D 12 3 3 0 5 10 4 11 1" ∷ [])
unfolding number_text completed roots_text sdd_text
text_of_two_clauses = refl

size_of_two_clauses : size_of (two_clauses ∷ []) ≡ 9
unfolding completed size_of
size_of_two_clauses = refl
