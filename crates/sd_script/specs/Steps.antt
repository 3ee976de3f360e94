-- How the reader keeps a script, for the contracts of its private functions.
use Rattle.std.specs.Prelude.{◌≡◌, ℕ, ◌-◌, ◌<◌, ◌≤◌, Bool, true, false, ◌==◌, List, length, take}
use Rattle.std.specs.Prelude.{Result, Ok, Err, Some, None}
use Rattle.std.specs.List.{AllByRecursion}
use Rattle.sd_base.specs.Views.{words_left}
use Rattle.sd_script.specs.declared.command.Action.{Action}
use Rattle.sd_script.specs.declared.command.Action.TheVariants.{Value, Write}
use Rattle.sd_script.specs.declared.misread.Misread.{Misread}
use Rattle.sd_script.specs.declared.misread.Misread.TheVariants.{BadForm, OutOfMemory}
use Rattle.sd_script.specs.declared.rest.Rest as code
use Rattle.sd_script.specs.declared.reader.Reader.{Reader}
use Rattle.sd_script.specs.Commands.{uses, binds, frees, writes, is_load}
use Rattle.sd_script.specs.Forms.{Word, are_names}
use Rattle.sd_script.specs.Read.{reads}
use Rattle.sd_script.specs.Scripts.{Script, literals_fit, numbers_fit, formula_fits, is_within}
use Rattle.sd_script.specs.Table.{Seen, Rest, Part}
use Rattle.sd_script.specs.Tables.{table_words}

-- the names and files so far
abbrev pub seen_view : code.Rest → Seen
seen_view r = record { names = table_words r.names; files = table_words r.files }

-- what was seen so far, and the words that are left
abbrev pub rest_view : code.Rest → Rest
rest_view r = (seen_view r, words_left r.words)

-- what was read
abbrev pub script_view : Reader → Script
script_view r = record {
  commands = r.commands.items;
  names = table_words r.rest.names;
  files = table_words r.rest.files;
}

-- what a part answers: its value and what is left behind it, or that there is no word of its form
abbrev pub Answers : {A : Type 0} → Part A → Rest → Rest → Result A Misread → Type 0
Answers part before after (Ok x) = part before ≡ Some (x, after)
Answers part before after (Err BadForm) = part before ≡ None
Answers part before after (Err OutOfMemory) = Unit {0}

-- a value has as many bits as there are variables, and a write 1 to 1,024 names
abbrev pub lengths_fit : ℕ → Action → Bool
lengths_fit v (Value a bits) = length bits == v
lengths_fit v (Write names file) = is_within 1 1024 (length names)
lengths_fit v action = true

-- these numbers are all below a count
abbrev pub AreBelow : ℕ → List ℕ → Type 0
AreBelow count numbers = AllByRecursion (λ n. n < count) numbers

-- The numbers of a command are those of names and files that are seen then, and its lists are as long as they have to
-- be. No name and no file is forgotten.
pub record Makes (v : ℕ) (before after : Seen) (action : Action) : Type 0 where
  pub names : length before.names ≤ length after.names
  pub files : length before.files ≤ length after.files
  pub binds : AreBelow (length after.names) (binds action)
  pub uses : AreBelow (length after.names) (uses action)
  pub frees : AreBelow (length after.names) (frees action)
  pub reads : AreBelow (length after.files) (reads action)
  pub writes : AreBelow (length after.files) (writes action)
  pub lengths : lengths_fit v action ≡ true

-- the numbers of a command are in range, and so is the count of files that were loaded
pub record IsInRange (v o loaded : ℕ) (action : Action) : Type 0 where
  pub literals : literals_fit v action ≡ true
  pub numbers : numbers_fit v o action ≡ true
  pub formula : formula_fits o action ≡ true
  pub loads : is_load action ≡ true → loaded < 64

-- words of which those but the last are no names that a write may have
abbrev pub IsNoWrite : List Word → Type 0
IsNoWrite words = are_names (take (length words - 1) words) ≡ false
