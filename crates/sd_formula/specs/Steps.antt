-- How the reader and the generator go on, for the contracts of their private functions.
use Rattle.std.specs.Prelude.{ℕ, zero, suc, ◌≤◌, Bool, true, false, not, ◌&&◌, if◌then◌else◌}
use Rattle.std.specs.Prelude.{List, [], ◌∷◌, ◌++◌, drop, flat_map, Result, Ok, ℤ}
use Rattle.std.specs.List.{AllByRecursion}
use Rattle.sd_base.specs.Reading.{◌>>=◌}
use Rattle.sd_model.specs.Expression.{Group}
use Rattle.sd_formula.specs.declared.flat.End.{End}
use Rattle.sd_formula.specs.declared.formula.Kind.{Kind}
use Rattle.sd_formula.specs.declared.header.Header.{Header}
use Rattle.sd_formula.specs.declared.parts.Body.{Body}
use Rattle.sd_formula.specs.Dimacs.{Stated, BodyWord, literal_of_word, is_zero, is_mark, has_begun, word_pieces}
use Rattle.sd_formula.specs.Flat.{cut, last_end}
use Rattle.sd_formula.specs.Generated.{generated_clause}
use Rattle.sd_formula.specs.Formulas.{IsGroup}

-- what a header states
abbrev pub header_view : Header → Stated
header_view h = record { variables = h.variables; groups = h.groups }

-- two numbers as what a header states
abbrev pub pair_view : ℕ × ℕ → Stated
pair_view p = record { variables = p.0; groups = p.1 }

-- the groups so far, and what stands after the last zero
pub record Parts : Type 0 where
  pub closed : List Group
  pub open_part : Group

-- the groups that end at these indices, and the group of the literals after them
abbrev pub parts_of : List End → List ℤ → Bool → Parts
parts_of ends literals exclusive = record {
  closed = cut 0 ends literals;
  open_part = record { exclusive = exclusive; literals = drop (last_end 0 ends) literals };
}

-- the parts of a body
abbrev pub body_view : Body → Parts
body_view b = parts_of b.ends.items b.literals.items b.exclusive

-- a group that has not begun
abbrev pub no_group : Group
no_group = record { exclusive = false; literals = [] }

-- nothing yet
abbrev pub no_parts : Parts
no_parts = record { closed = []; open_part = no_group }

-- the part in hand as one more group
abbrev pub ended : Parts → Parts
ended p = record { closed = p.closed ++ p.open_part ∷ []; open_part = no_group }

-- one more literal in the part in hand
abbrev pub extended : Parts → ℤ → Parts
extended p z = record {
  closed = p.closed;
  open_part = record { exclusive = p.open_part.exclusive; literals = p.open_part.literals ++ z ∷ [] };
}

-- the part in hand as an exclusive group
abbrev pub marked : Parts → Parts
marked p = record {
  closed = p.closed;
  open_part = record { exclusive = true; literals = p.open_part.literals };
}

-- a literal is put, or a zero
abbrev pub put_literal : Parts → ℤ → Parts
put_literal p z = if is_zero z then ended p else extended p z

-- the literal or the zero of a word is put
abbrev pub literal_read : ℕ → Parts → BodyWord → Result Parts (List ℕ)
literal_read variables p word = do
  z ← literal_of_word variables word
  Ok (put_literal p z)

-- a word is put: the mark where a group begins, or a literal or a zero
abbrev pub put_word : Kind → ℕ → Parts → BodyWord → Result Parts (List ℕ)
put_word kind variables p word =
    if is_mark kind word && not (has_begun p.open_part) then Ok (marked p) else literal_read variables p word

-- words are put, up to the first that has a fault
abbrev pub put_words : Kind → ℕ → Parts → List BodyWord → Result Parts (List ℕ)
put_words kind variables p [] = Ok p
put_words kind variables p (word ∷ words) = do
  q ← put_word kind variables p word
  put_words kind variables q words

-- the words of lines are put, without the marks that are joined to them
abbrev pub put_pieces : Kind → ℕ → Parts → List BodyWord → Result Parts (List ℕ)
put_pieces kind variables p words = put_words kind variables p (flat_map (word_pieces kind) words)

-- the parts as one list
abbrev pub all_groups : Parts → List Group
all_groups p = p.closed ++ p.open_part ∷ []

-- the first clauses that are generated
abbrev pub generated_clauses : ℕ → ℕ → List Group
generated_clauses seed zero = []
generated_clauses seed (suc n) = generated_clauses seed n ++ generated_clause seed n ∷ []

-- ---- what is known of what was read

-- the numbers of a header are in range
pub record InRange (s : Stated) : Type 0 where
  pub at_least_one : 1 ≤ s.variables
  pub within_limit : s.variables ≤ 1024
  pub count : s.groups ≤ 1000000

-- the parts are groups of a formula of the kind and of v variables
pub record PartsFit (kind : Kind) (v : ℕ) (p : Parts) : Type 0 where
  pub closed : AllByRecursion (IsGroup kind v) p.closed
  pub open_part : IsGroup kind v p.open_part
