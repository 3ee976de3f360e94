-- The manager that refused, by the plan, for the contracts of private functions and for proofs.
use Rattle.std.specs.Prelude.{◌≡◌, List, Option, Some, None}
use Rattle.sd_vtree.specs.Numbered.{plain_tree}
use Rattle.sd_manager.specs.Table.{Table}
use Rattle.sd_commands.specs.Effects.{Effect}
use Rattle.sd_commands.specs.Commands.{State, MayFill}
use Rattle.sd_commands.specs.Standing.{IsFilled, IsTreeLeft, HoldsNames}
use Rattle.sd_commands.specs.declared.command.NumberedCommand.{NumberedCommand}
use Rattle.sd_tool.specs.Ends.{End, ArenaFull}
use Rattle.sd_tool.specs.inside.Course.{IsAtCommand}
use Rattle.sd_tool.specs.inside.Plans.{Plan}

-- The manager holds the run's formulas at the command in hand, which may need the arena: its vtree is the tree of the
-- state there, at a search or an input the tree after the walks that were done, or at a choice that of a start or one
-- on the way of its search, and its roots hold the diagrams of the names that are bound there.
pub record HoldsAt (plan : Plan) (effects : List Effect) (t : Table) : Type 0 where
  pub state : State
  pub next : NumberedCommand
  pub at : IsAtCommand plan effects state next
  pub needs : MayFill state next.command
  pub left : IsTreeLeft plan.input state next.command (plain_tree t.vtree)
  pub holds : HoldsNames t state.names

-- at a full arena the manager that refused is kept, as it was at the command in hand, and at each other end none
abbrev pub KeepsOf : Plan → List Effect → End → Option Table → Type 0
KeepsOf plan effects (ArenaFull elements) None = ⊥
KeepsOf plan effects (ArenaFull elements) (Some t) = IsFilled elements t × HoldsAt plan effects t
KeepsOf plan effects end kept = kept ≡ None
