-- What holds of a script that is read.
use Rattle.std.specs.Prelude.{◌≡◌, ℕ, ◌-◌, ◌*◌, ◌<◌, Bool, true, false, ◌==◌, nat_le, nat_lt}
use Rattle.std.specs.Prelude.{List, [], ◌∷◌, ◌++◌, length, take, slice_get, Some, unsigned_abs}
use Rattle.std.specs.List.{list_any, list_all, AllByRecursion}
use Rattle.sd_script.specs.declared.command.Action.{Action}
use Rattle.sd_script.specs.declared.command.Action.TheVariants.{Input, Load, Output, Lit, Given, Forget, Turn}
use Rattle.sd_script.specs.declared.command.Action.TheVariants.{Minimise, Limit, Value, Write}
use Rattle.sd_script.specs.declared.command.Command.{Command}
use Rattle.sd_script.specs.Commands.{uses, binds, writes, has, bound, written_files}
use Rattle.sd_script.specs.Scripts.{Script, is_within}

-- the file that a command loads
abbrev pub reads : Action → List ℕ
reads (Load n file) = file ∷ []
reads action = []

-- The numbers of a command are in range over the variables 1 to v and a circuit of o outputs, where
-- o is 0 for a formula, which alone can be bound as it is; a value has as many bits as there are
-- variables, and a write has 1 to 1,024 names.
abbrev pub in_range : ℕ → ℕ → Action → Bool
in_range v o (Input n) = o == 0
in_range v o (Output n index) = nat_lt index o
in_range v o (Lit n literal) = is_within 1 v (unsigned_abs literal)
in_range v o (Given n a literal) = is_within 1 v (unsigned_abs literal)
in_range v o (Forget n a x) = is_within 1 v x
in_range v o (Turn kind p) = nat_le p (2 * v - 2)
in_range v o (Minimise rounds) = is_within 1 100 rounds
in_range v o (Limit k) = is_within 1 268435456 k
in_range v o (Value a bits) = length bits == v
in_range v o (Write names file) = is_within 1 1024 (length names)
in_range v o action = true

-- A command of a script can be done after the earlier ones: its names and files are the script's,
-- those that it uses are bound, the one that it binds is not, and no earlier one writes its file.
pub record IsAllowed (v o : ℕ) (s : Script) (earlier : List Command) (c : Command) : Type 0 where
  pub names : AllByRecursion (λ n. n < length s.names) (binds c.action ++ uses c.action)
  pub files : AllByRecursion (λ n. n < length s.files) (reads c.action ++ writes c.action)
  pub used_bound : list_all (has (bound earlier)) (uses c.action) ≡ true
  pub free : list_any (has (bound earlier)) (binds c.action) ≡ false
  pub unwritten : list_any (has (written_files earlier)) (writes c.action) ≡ false
  pub ranges : in_range v o c.action ≡ true

-- each command can be done after those before it
pub record IsScript (v o : ℕ) (s : Script) : Type 0 where
  pub allowed : (k : ℕ) (c : Command) → slice_get s.commands k ≡ Some c
      → IsAllowed v o s (take k s.commands) c
