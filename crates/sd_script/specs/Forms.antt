-- The forms of the words of a script.
use Rattle.std.specs.Prelude.{ℕ, min, Bool, false, ◌&&◌, ◌||◌, ◌==◌, nat_le, if◌then◌else◌}
use Rattle.std.specs.Prelude.{List, [], ◌∷◌, length, map, Option, Some, None, option_map, ℤ, pos, int_le, unsigned_abs}
use Rattle.std.specs.Char.{is_ascii_alphabetic, is_ascii_alphanumeric}
use Rattle.std.specs.List.{list_all}
use Rattle.sd_base.specs.Numbers.{natural_value, integer_value}
pub use Rattle.sd_base.specs.Numbers.{is_within}

-- a word, as its bytes
abbrev pub Word : Type 0
Word = List ℕ

-- a letter or _ (byte 95)
abbrev pub starts_name : ℕ → Bool
starts_name b = is_ascii_alphabetic b || b == 95

-- a letter, a digit or _
abbrev pub continues_name : ℕ → Bool
continues_name b = is_ascii_alphanumeric b || b == 95

-- a letter or _, and at most 31 letters, digits or _ after it
abbrev pub is_name : Word → Bool
is_name [] = false
is_name (b ∷ bs) = starts_name b && nat_le (length bs) 31 && list_all continues_name bs

-- words that are 1 to 1,024 names
abbrev pub are_names : List Word → Bool
are_names words = is_within 1 1024 (length words) && list_all is_name words

-- no byte but 33 to 126
abbrev pub is_printable : Word → Bool
is_printable word = list_all (is_within 33 126) word

-- a word that names a file: at most 255 such bytes
abbrev pub is_file_name : Word → Bool
is_file_name word = nat_le (length word) 255 && is_printable word

-- a digit 0 or 1 (bytes 48 and 49)
abbrev pub is_bit : ℕ → Bool
is_bit b = b == 48 || b == 49

-- digits as truth values
abbrev pub digit_values : Word → List Bool
digit_values word = map (λ b. b == 49) word

-- a word of v digits 0 or 1, as truth values
abbrev pub bits_of : ℕ → Word → Option (List Bool)
bits_of v word = if length word == v && list_all is_bit word then Some (digit_values word) else None

-- a word that is a number; one past 4,294,967,295 is that one, which is out of each range
abbrev pub number_of : Word → Option ℕ
number_of word = option_map (min 4294967295) (natural_value word)

-- an integer as a literal; one of a variable past 2,147,483,647 is that one, which is out of range
abbrev pub literal_from : ℤ → ℤ
literal_from x = if nat_le (unsigned_abs x) 2147483647 then x else pos 2147483647

-- a word that is an integer, as a literal
abbrev pub literal_of : Word → Option ℤ
literal_of word = option_map literal_from (integer_value word)

-- an integer as a variable; one below 1 is 0, and one past 4,294,967,295 is that one, which are none
abbrev pub variable_from : ℤ → ℕ
variable_from x = if int_le (pos 1) x then min 4294967295 (unsigned_abs x) else 0

-- a word that is an integer, as a variable
abbrev pub variable_of : Word → Option ℕ
variable_of word = option_map variable_from (integer_value word)
