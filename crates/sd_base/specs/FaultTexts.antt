-- The texts of faults that readers share, after the name of the file.
use Rattle.std.specs.Prelude.{ℕ, suc, true, false, List, ◌++◌, codes, ℤ, pos, negsuc}
use Rattle.sd_model.specs.Text.{number_text, literal_text}

-- the text of a fault, with the number of its line
abbrev pub at_line : ℕ → List ℕ → List ℕ
at_line n text = codes ": line " ++ number_text n ++ text

-- two numbers that differ
abbrev pub counts : ℕ → ℕ → List ℕ
counts stated found = codes ": " ++ number_text stated ++ codes " stated, " ++ number_text found ++ codes " found"

-- a literal with its sign
abbrev pub signed_text : ℤ → List ℕ
signed_text (pos n) = literal_text n true
signed_text (negsuc i) = literal_text (suc i) false
