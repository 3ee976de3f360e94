-- What a script of four lines writes, said without the course of the run.
use Rattle.std.specs.Prelude.{◌≡◌, ℕ, List, [], ◌∷◌, map, Option, Some, None}
use Rattle.std.specs.FinMap.{insert}
use Rattle.sd_model.specs.declared.trees.Operation.{Operation}
use Rattle.sd_model.specs.Expression.{Expression, Constant, Atom, Combined}
use Rattle.sd_model.specs.Diagram.{Diagram}
use Rattle.sd_model.specs.Size.{IsDiagramOf}
use Rattle.sd_model.specs.Text.{sdd_text}
use Rattle.sd_formula.specs.Formulas.{expression_of}
use Rattle.sd_script.specs.Scripts.{Script, script_of}
use Rattle.sd_script.specs.declared.command.Action.{Action}
use Rattle.sd_script.specs.declared.command.Action.TheVariants as actions
use Rattle.sd_tool.specs.Readings.{file_name, announcement}
use Rattle.sd_tool.specs.Devices.{Seen}
use Rattle.sd_tool.specs.Written.{ReadsAs, Given}

-- a name and its formula, of a line that needs no other name: the input, a literal or a constant
abbrev pub own_formula : Expression → Action → Option (ℕ × Expression)
own_formula input (actions.Input n) = Some (n, input)
own_formula input (actions.Lit n literal) = Some (n, Atom literal)
own_formula input (actions.Constant n value) = Some (n, Constant value)
own_formula input action = None

-- The script has four lines. Two of them bind two names to a formula each, as `input f` and `lit g 1` do; the third
-- joins these, as `and h f g`, `or h f g` and `xor h f g` do; and `write h FILE` is the last.
pub record JoinsTwo (input : Expression) (script : Script) : Type 0 where
  pub first : Action
  pub second : Action
  pub operation : Operation
  pub f : ℕ
  pub g : ℕ
  pub h : ℕ
  pub number : ℕ
  pub lines : map (λ line. line.action) script.commands
      ≡ first ∷ second ∷ actions.Binary operation h f g ∷ actions.Write (h ∷ []) number ∷ []
  pub left : Expression
  pub right : Expression
  pub binds_f : own_formula input first ≡ Some (f, left)
  pub binds_g : own_formula input second ≡ Some (g, right)
  pub two : ¬ (g ≡ f)

-- The words name such a script, and an input file, and ask for no search behind a group.
pub record FourLines (words : List (List ℕ)) (seen : Seen) : Type 0 where
  pub given : Given words seen
  pub of_file : announcement given.job.input given.formula ≡ []
  pub plain : given.job.every ≡ None
  pub script_file : List ℕ
  pub asked : given.job.script ≡ Some script_file
  pub script : Script
  pub reads : ReadsAs given.files script_file (script_of given.formula.variables 0) script
  pub lines : JoinsTwo (expression_of given.formula) script

-- its file is the text of the canonical diagram of the two formulas joined, for the start tree, no other file changed,
-- and nothing was printed
pub record WritesJoined {words : List (List ℕ)} {seen : Seen} (run : FourLines words seen) : Type 0 where
  pub diagram : Diagram
  pub of_formulas :
      IsDiagramOf run.given.tree (Combined run.lines.operation run.lines.left run.lines.right) diagram
  pub files_are : seen.new.contents.files
      ≡ Some (insert run.given.files (file_name run.script run.lines.number) (sdd_text diagram))
  pub printed_is : seen.new.contents.printed ≡ seen.old.contents.printed
