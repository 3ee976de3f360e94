-- Which commands can be done: what they use is bound, and their numbers and files are those of the variables.
use Rattle.std.specs.Prelude.{◌≡◌, ℕ, Bool, true, false, not, ◌==◌, ◌&&◌, nat_le, nat_lt, List, [], ◌∷◌, ◌++◌}
use Rattle.std.specs.Prelude.{filter, map, length, unsigned_abs}
use Rattle.std.specs.List.{list_any, list_all}
pub use Rattle.sd_script.specs.Footprints.{has}
use Rattle.sd_commands.specs.declared.command.RunCommand.{RunCommand}
use Rattle.sd_commands.specs.declared.command.RunCommand.TheVariants as commands
use Rattle.sd_commands.specs.declared.command.NumberedCommand.{NumberedCommand}

-- the names that must be bound
abbrev pub uses : RunCommand → List ℕ
uses (commands.Combine operation n a b) = a ∷ b ∷ []
uses (commands.Negate n a) = a ∷ []
uses (commands.Given n a literal) = a ∷ []
uses (commands.Forget n a x) = a ∷ []
uses (commands.Drop a) = a ∷ []
uses (commands.Same a b) = a ∷ b ∷ []
uses (commands.Size a) = a ∷ []
uses (commands.Value a bits) = a ∷ []
uses (commands.Write names file) = names
uses command = []

-- the name that must be free, and is bound then
abbrev pub binds : RunCommand → List ℕ
binds (commands.Input n) = n ∷ []
binds (commands.Load n file) = n ∷ []
binds (commands.Literal n literal) = n ∷ []
binds (commands.Constant n value) = n ∷ []
binds (commands.Combine operation n a b) = n ∷ []
binds (commands.Negate n a) = n ∷ []
binds (commands.Given n a literal) = n ∷ []
binds (commands.Forget n a x) = n ∷ []
binds (commands.InputByParts n parts) = n ∷ []
binds (commands.Output n index) = n ∷ []
binds command = []

-- the name that is free then
abbrev pub frees : RunCommand → List ℕ
frees (commands.Drop a) = a ∷ []
frees command = []

-- the bound names after one more command
abbrev pub bound_after : List ℕ → RunCommand → List ℕ
bound_after names c = binds c ++ filter (λ n. not (has (frees c) n)) names

-- a literal is of a variable of 1 to v, so is a variable that is forgotten, a file is over v variables, a value has v
-- bits, a write has a name, and of o outputs one is named; what workers do is in no range, since `step` never does it
abbrev pub in_range : ℕ → ℕ → RunCommand → Bool
in_range v o (commands.Load n file) = file.variables == v
in_range v o (commands.Literal n literal) = nat_le 1 (unsigned_abs literal) && nat_le (unsigned_abs literal) v
in_range v o (commands.Given n a literal) = nat_le 1 (unsigned_abs literal) && nat_le (unsigned_abs literal) v
in_range v o (commands.Forget n a x) = nat_le 1 x && nat_le x v
in_range v o (commands.Value a bits) = length bits == v
in_range v o (commands.Write names file) = nat_le 1 (length names)
in_range v o (commands.InputByParts n parts) = false
in_range v o (commands.Choose rounds) = false
in_range v o (commands.Output n index) = nat_lt index o
in_range v o (commands.Check file ids) = file.variables == v
in_range v o command = true

-- the command can be done over v variables and o outputs, where these names are bound: it uses bound names alone, and
-- binds none again
pub record Fits (v o : ℕ) (names : List ℕ) (c : RunCommand) : Type 0 where
  pub used_bound : list_all (has names) (uses c) ≡ true
  pub free : list_any (has names) (binds c) ≡ false
  pub ranges : in_range v o c ≡ true

-- so can each of these commands, after those before it
abbrev pub AllFit : ℕ → ℕ → List ℕ → List NumberedCommand → Type 0
AllFit v o names [] = Unit {0}
AllFit v o names (c ∷ cs) = Fits v o names c.command × AllFit v o (bound_after names c.command) cs

-- commands that stand in no line
abbrev pub of_no_line : RunCommand → NumberedCommand
of_no_line c = record { line = 0; command = c }

-- such commands in a row
abbrev pub unnumbered : List RunCommand → List NumberedCommand
unnumbered commands = map of_no_line commands
