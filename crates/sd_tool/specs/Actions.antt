-- How the commands of a script become those of a run.
use Rattle.std.specs.Prelude.{◌≡◌, ℕ, true, List, [], fold, length, take, Option, Some, None}
use Rattle.sd_script.specs.Commands as script
use Rattle.sd_script.specs.Read as reads
use Rattle.sd_script.specs.declared.command.Action.{Action}
use Rattle.sd_script.specs.declared.command.Action.TheVariants as actions
use Rattle.sd_script.specs.declared.command.Command.{Command as Line}
use Rattle.sd_commands.specs.Fits.{AllFit, uses, binds, frees, in_range, bound_after}
use Rattle.sd_commands.specs.declared.command.NumberedCommand.{NumberedCommand}
use Rattle.sd_commands.specs.declared.command.RunCommand.{RunCommand}
use Rattle.sd_commands.specs.declared.command.RunCommand.TheVariants as commands

-- the command of an action, if it is one without a file
abbrev pub plain_of : Action → Option RunCommand
plain_of (actions.Input n) = Some (commands.Input n)
plain_of (actions.Output n index) = Some (commands.Output n index)
plain_of (actions.Lit n literal) = Some (commands.Literal n literal)
plain_of (actions.Constant n value) = Some (commands.Constant n value)
plain_of (actions.Binary operation n a b) = Some (commands.Combine operation n a b)
plain_of (actions.Not n a) = Some (commands.Negate n a)
plain_of (actions.Given n a literal) = Some (commands.Given n a literal)
plain_of (actions.Forget n a x) = Some (commands.Forget n a x)
plain_of (actions.Drop a) = Some (commands.Drop a)
plain_of (actions.Turn kind p) = Some (commands.Turn kind p)
plain_of (actions.Minimise rounds) = Some (commands.Minimise rounds)
plain_of (actions.Limit limit) = Some (commands.Limit limit)
plain_of (actions.Same a b) = Some (commands.Same a b)
plain_of (actions.Size a) = Some (commands.Size a)
plain_of (actions.Value a bits) = Some (commands.Value a bits)
plain_of action = None

-- the command uses, binds and frees the names of the action, and is in range where the action is
pub record IsCommandOf (v o : ℕ) (action : Action) (command : RunCommand) : Type 0 where
  pub uses : uses command ≡ script.uses action
  pub binds : binds command ≡ script.binds action
  pub frees : frees command ≡ script.frees action
  pub in_range : reads.in_range v o action ≡ true → in_range v o command ≡ true

-- the names that commands leave bound
abbrev pub bound_by : List NumberedCommand → List ℕ
bound_by done = fold (λ names c. bound_after names c.command) [] done

-- The first lines of a script have become these commands: each fits behind those before it, and they bind the names
-- that the lines bind.
pub record AreCommandsOf (v o : ℕ) (lines : List Line) (index : ℕ) (done : List NumberedCommand) : Type 0 where
  pub count : length done ≡ index
  pub names : bound_by done ≡ script.bound (take index lines)
  pub fit : AllFit v o [] done
