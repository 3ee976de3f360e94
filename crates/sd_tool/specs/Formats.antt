-- What contracts say of the formats of files.
use Rattle.std.specs.Prelude.{ℕ, ◌≤◌, length}
use Rattle.sd_model.specs.Circuit.{Circuit}
use Rattle.sd_model.specs.Tree.{leaves}
use Rattle.sd_vtree.specs.Numbered.{plain_tree}
use Rattle.sd_tool.specs.Readings.{CheckedVtree}
use Rattle.sd_tool.specs.declared.formats.VtreeWithIds.{VtreeWithIds}

-- a number of variables is in range
abbrev pub AreVariables : ℕ → Type 0
AreVariables v = (1 ≤ v) × (v ≤ 1024)

-- a circuit has an input and an output, and not too many
pub record HasBothKinds (circuit : Circuit) : Type 0 where
  pub inputs : AreVariables (length circuit.inputs)
  pub outputs : AreVariables (length circuit.outputs)

-- a vtree with its ids, as the readings have it
abbrev pub checked_of : VtreeWithIds → CheckedVtree
checked_of read = record { variables = leaves (plain_tree read.vtree); tree = plain_tree read.vtree; ids = read.ids }
