-- What a run keeps of its diagrams: the manager whose arena refused, and else nothing. With it, all of an end.
use Rattle.std.specs.Prelude.{◌≡◌, ◌∷◌, Option, Some, None}
use Rattle.sd_vtree.specs.Numbered.{plain_tree}
use Rattle.sd_manager.specs.Table.{Table}
use Rattle.sd_manager.specs.Making.{IsPastBound}
use Rattle.sd_commands.specs.Standing.{IsTreeLeft, HoldsNames}
use Rattle.sd_tool.specs.Readings.{Point, Stands}
use Rattle.sd_tool.specs.Ends.{End, ArenaFull}
use Rattle.sd_tool.specs.Devices.{Seen, HasReason, WritesEndLine}

-- At a full arena the manager that refused is kept, as the command in hand left it: its bound is the whole one, which
-- the number passes by the rule of the arena; its vtree is the tree of the state there, or at a search or an input the
-- tree after the walks that were done, or at a choice that of a start or one on the way of its search; and its roots
-- hold the diagrams of the names that are bound there, and nothing else. At each other end none is kept.
abbrev pub KeepsManager : Point → End → Option Table → Type 0
KeepsManager (Stands input state (next ∷ left)) (ArenaFull elements) kept =
    (t : Table) × (kept ≡ Some t) × (t.bound ≡ 2147483647) × IsPastBound t elements
    × IsTreeLeft input state next.command (plain_tree t.vtree) × HoldsNames t state.names
KeepsManager point end kept = kept ≡ None

-- an end as it has to be: with its reason, with the manager that it keeps, and with its line on `err`
abbrev pub EndsSo : Point → End → Option Table → Seen → Type 0
EndsSo point end kept seen = HasReason end seen.old.contents.files seen.old.faults seen.new.faults
    × KeepsManager point end kept × WritesEndLine end seen.old seen.new
