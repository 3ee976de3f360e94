-- The ordinary words: each option at most once, as `--WORD=VALUE` or `--WORD VALUE`, and a flag as `--WORD`.
use Rattle.std.specs.Prelude.{◌≡◌, Bool, true, not, ◌&&◌, ◌||◌, ◌==◌, List, [], ◌∷◌, ◌++◌}
use Rattle.std.specs.Prelude.{codes, find, if◌then◌else◌, option_map}
use Rattle.std.specs.List.{list_all}
use Rattle.std.specs.Str.{bytes_eq}
use Rattle.clap.specs.Walk.{Text}
use Rattle.sd_words.specs.ParsedOptions.{ParsedOptions}
use Rattle.sd_words.specs.Options.{is_flag, word_of}
use Rattle.sd_words.specs.declared.options.OptionName.{OptionName}

-- an option with its value, in one word or in two; a flag is one word by itself, and its value is `true`
pub record Setting : Type 0 where
  pub option : OptionName
  pub value : Text
  pub is_attached : Bool

-- the option's word with its two dashes
abbrev pub dashed : OptionName → Text
dashed o = codes "--" ++ word_of o

-- `--WORD=VALUE`
abbrev pub attached : OptionName → Text → Text
attached o value = codes "--" ++ (word_of o ++ 61 ∷ value)

-- the words of a setting, before others
abbrev pub words_of_setting : OptionName → Text → Bool → List Text → List Text
words_of_setting o value is_attached rest = if is_flag (word_of o) then dashed o ∷ rest
    else (if is_attached then attached o value ∷ rest else dashed o ∷ value ∷ rest)

-- the words of settings, one after another
abbrev pub words_of_settings : List Setting → List Text
words_of_settings [] = []
words_of_settings (s ∷ rest) = words_of_setting s.option s.value s.is_attached (words_of_settings rest)

-- a value in a word of its own begins with no hyphen
abbrev pub can_stand_apart : Text → Bool
can_stand_apart [] = true
can_stand_apart (x ∷ xs) = not (x == 45)

-- the value may stand where it does, and that of a flag is `true`
abbrev pub is_spelled : Setting → Bool
is_spelled s = if is_flag (word_of s.option) then bytes_eq s.value (codes "true")
    else s.is_attached || can_stand_apart s.value

-- the setting is one of the option with this word
abbrev pub sets : Text → Setting → Bool
sets word s = bytes_eq (word_of s.option) word

-- no option stands twice
abbrev pub has_each_once : List Setting → Bool
has_each_once [] = true
has_each_once (s ∷ rest) = list_all (λ q. not (sets (word_of q.option) s)) rest && has_each_once rest

-- the value that the settings give an option
abbrev pub setting_of : List Setting → ParsedOptions
setting_of settings word = option_map (λ s. s.value) (find (sets word) settings)

-- the words are those of the settings, and as they have to be
pub record Spells (settings : List Setting) (words : List Text) : Type 0 where
  pub once : has_each_once settings ≡ true
  pub spelled : list_all is_spelled settings ≡ true
  pub written : words ≡ words_of_settings settings
