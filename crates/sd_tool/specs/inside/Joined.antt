-- The four lines of a script that joins two formulas, each with its number, for proofs.
use Rattle.std.specs.Prelude.{◌≡◌, ℕ, [], ◌∷◌, Some}
use Rattle.sd_model.specs.declared.trees.Operation.{Operation}
use Rattle.sd_model.specs.Expression.{Expression}
use Rattle.sd_script.specs.Scripts.{Script}
use Rattle.sd_script.specs.declared.command.Action.TheVariants as actions
use Rattle.sd_script.specs.declared.command.Command.{Command as Line}
use Rattle.sd_tool.specs.Joined.{own_formula}

-- The script has these four lines: two bind a name to a formula each, the third joins these, and the last writes what
-- they are joined to.
pub record HasLinesOf (input : Expression) (script : Script) : Type 0 where
  pub first : Line
  pub second : Line
  pub third : Line
  pub last : Line
  pub lines : script.commands ≡ first ∷ second ∷ third ∷ last ∷ []
  pub f : ℕ
  pub g : ℕ
  pub h : ℕ
  pub left : Expression
  pub right : Expression
  pub binds_f : own_formula input first.action ≡ Some (f, left)
  pub binds_g : own_formula input second.action ≡ Some (g, right)
  pub two : ¬ (g ≡ f)
  pub operation : Operation
  pub joins : third.action ≡ actions.Binary operation h f g
  pub number : ℕ
  pub writes : last.action ≡ actions.Write (h ∷ []) number
