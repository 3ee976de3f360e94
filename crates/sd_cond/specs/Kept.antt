-- The answers that an operation keeps while it goes on, for the contracts of private functions.
use Rattle.std.specs.Prelude.{◌≡◌, ℕ, Bool, true, false, List}
use Rattle.std.specs.List.{All}
use Rattle.sd_model.specs.Diagram.{Diagram}
use Rattle.sd_manager.specs.Table.{Table}
use Rattle.sd_cond.specs.declared.kept.Entry.{Entry}
use Rattle.sd_cond.specs.declared.kept.ForgetAnswers.{ForgetAnswers}
use Rattle.sd_cond.specs.declared.kept.KeptAnswers.{KeptAnswers}
use Rattle.sd_cond.specs.Calls.{conditioned, forgotten, IsAnswer}

-- an entry that is not free has the answer at its code
abbrev pub IsRightEntry : Table → (Diagram → List Bool → Bool) → Entry → Type 0
IsRightEntry t f e = ¬ (e.code ≡ 0) → IsAnswer t f e.code e.answer

-- so has each entry of a list
abbrev pub AreRightEntries : Table → (Diagram → List Bool → Bool) → List Entry → Type 0
AreRightEntries t f es = All (λ e. IsRightEntry t f e) es

-- what is kept for a code is the answer at it
pub record AreAnswers (t : Table) (f : Diagram → List Bool → Bool) (kept : KeptAnswers) : Type 0 where
  pub right : AreRightEntries t f kept.entries.items

-- what is kept is the answer of forgetting the variable x, of setting it to true, and of setting it to false
pub record AreForgetAnswers (t : Table) (x : ℕ) (kept : ForgetAnswers) : Type 0 where
  pub alone : AreAnswers t (forgotten x) kept.forgotten
  pub where_true : AreAnswers t (conditioned x true) kept.with_true
  pub where_false : AreAnswers t (conditioned x false) kept.with_false
