-- When the kept answers are right for a manager.
use Rattle.std.specs.Prelude.{◌≡◌, ℕ, ◌≤◌, true, Contains}
use Rattle.sd_model.specs.Diagram.{Diagram, Literal}
use Rattle.sd_cache.specs.Entries.{Answers, Call}
use Rattle.sd_manager.specs.Table.{Table}
use Rattle.sd_manager.specs.Shown.{ShowsCanonical}
use Rattle.sd_apply.specs.Operations.{operation_value}
use Rattle.sd_apply.specs.Answers.{HasAnswer}

-- the diagram is a literal
abbrev pub IsLiteralDiagram : Diagram → Type 0
IsLiteralDiagram (Literal p v positive) = Unit {0}
IsLiteralDiagram d = ⊥

-- the diagram is a variable
abbrev pub IsVariable : Diagram → Type 0
IsVariable (Literal p v true) = Unit {0}
IsVariable d = ⊥

-- the second argument of an operation is 0 for negation, a literal for given, and a variable for
-- forget
pub record IsArgument (operation b : ℕ) (second : Diagram) : Type 0 where
  pub negation : operation ≡ 3 → b ≡ 0
  pub given : operation ≡ 4 → IsLiteralDiagram second
  pub forget : operation ≡ 5 → IsVariable second

-- an entry is of one of the seven operations, and names nodes that show canonical diagrams, and an
-- answer with the value of the operation at them
pub record IsRight (t : Table) (e : Call × ℕ) : Type 0 where
  pub served : e.0.operation ≤ 6
  pub first : Diagram
  pub second : Diagram
  pub first_is : ShowsCanonical t e.0.a first
  pub second_is : ShowsCanonical t e.0.b second
  pub argument : IsArgument e.0.operation e.0.b second
  pub answer : HasAnswer t (operation_value e.0.operation first second) e.1

-- the last epoch, 2^64 - 1, at which a manager stays
abbrev pub last_epoch : ℕ
last_epoch = 18446744073709551615

-- No entry has a later epoch than the manager, and the computed answers are of none; before the last epoch each entry
-- of the manager's own is right, and where the computed answers are of that one, so are they.
pub record Serves (c : Answers) (t : Table) : Type 0 where
  pub early : (e : Call × ℕ) → Contains c.entries e → e.0.epoch ≤ t.epoch
  pub right : ¬ (t.epoch ≡ last_epoch) → (e : Call × ℕ) → Contains c.entries e → e.0.epoch ≡ t.epoch →
      IsRight t e
  pub computed_early : c.epoch ≤ t.epoch
  pub computed_right : ¬ (t.epoch ≡ last_epoch) → c.epoch ≡ t.epoch → (e : Call × ℕ) → Contains c.computed e →
      IsRight t e
