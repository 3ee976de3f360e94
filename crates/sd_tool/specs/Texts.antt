-- The texts that a run writes for the names of its commands.
use Rattle.std.specs.Prelude.{◌≡◌, ℕ, List, ◌∷◌, map}
use Rattle.sd_model.specs.Expression.{Expression}
use Rattle.sd_model.specs.Tree.{Tree}
use Rattle.sd_commands.specs.Commands.{IsTextOf, formula_named}
use Rattle.sd_commands.specs.declared.command.RunCommand.TheVariants as commands
use Rattle.sd_tool.specs.Readings.{Point, Stands}

-- At this point a command is next that writes diagrams: the tree there and the formulas of its names, and the text that
-- it writes.
abbrev pub WritesAt : Point → Tree → List Expression → List ℕ → Type 0
WritesAt (Stands input state (next ∷ left)) tree fs text = (names file : List ℕ)
    × (next.command ≡ commands.Write names file) × (tree ≡ state.tree) × (fs ≡ map (formula_named state) names)
    × IsTextOf tree fs text
WritesAt point tree fs text = ⊥
