-- What it means that a text is read back as a diagram.
use Rattle.std.specs.Prelude.{◌≡◌, ℕ, Bool, List, [], ◌∷◌, ◌++◌, Ok}
use Rattle.sd_model.specs.Expression.{expression_value}
use Rattle.sd_model.specs.Diagram.{Diagram, meaning}
use Rattle.sd_file.specs.Reads.{File, sdd_file, expression_of_file}

-- the text over the variables 1 to v is that of an SDD file whose value is the meaning of the diagram
pub record ReadsBack (v : ℕ) (text : List ℕ) (d : Diagram) : Type 0 where
  pub file : File
  pub reads : sdd_file v text ≡ Ok file
  pub value : (assignment : List Bool) → expression_value (expression_of_file file) assignment ≡ meaning d assignment

-- the list ends in the diagram
abbrev pub IsLastOf : List Diagram → Diagram → Type 0
IsLastOf ds d = (before : List Diagram) × (ds ≡ before ++ d ∷ [])
