-- What holds of every job that words stand for: its numbers are in their ranges, and what is there goes together.
use Rattle.std.specs.Prelude.{◌≡◌, ℕ, ◌≤◌, true, false, Some, None}
use Rattle.clap.specs.Walk.{Text}
use Rattle.sd_words.specs.declared.jobs.InputWord.{InputWord}
use Rattle.sd_words.specs.declared.jobs.InputWord.TheVariants as input
use Rattle.sd_words.specs.declared.jobs.Job.{Job}
use Rattle.sd_words.specs.declared.jobs.TreeWord.TheVariants as tree

-- the words ask for a formula
abbrev pub IsFormulaWord : InputWord → Type 0
IsFormulaWord (input.Aag file) = ⊥
IsFormulaWord (input.Check file) = ⊥
IsFormulaWord word = Unit {0}

-- parts are of a formula, without a script and without searches behind groups
pub record IsInParts (job : Job) (count : ℕ) : Type 0 where
  pub at_least_one : 1 ≤ count
  pub within_limit : count ≤ 64
  pub formula : IsFormulaWord job.input
  pub script : job.script ≡ None
  pub every : job.every ≡ None

-- a choice of a start is for a formula, and no vtree, script, parts or searches behind groups are beside it
pub record IsChosen (job : Job) : Type 0 where
  pub formula : IsFormulaWord job.input
  pub tree : job.tree ≡ tree.Balanced
  pub script : job.script ≡ None
  pub every : job.every ≡ None
  pub parts : job.parts ≡ None

-- a circuit goes without parts, choice, workers and searches behind groups
pub record IsOfCircuit (job : Job) : Type 0 where
  pub every : job.every ≡ None
  pub parts : job.parts ≡ None
  pub workers : job.workers ≡ 1
  pub portfolio : job.portfolio ≡ false

-- a check has a vtree file, and nothing else is there
pub record IsCheck (job : Job) : Type 0 where
  pub tree_file : Text
  pub tree : job.tree ≡ tree.File tree_file
  pub script : job.script ≡ None
  pub out_vtree : job.out_vtree ≡ None
  pub out_sdd : job.out_sdd ≡ None
  pub minimise : job.minimise ≡ None
  pub every : job.every ≡ None
  pub slack : job.slack ≡ 200
  pub limit : job.limit ≡ 16777216
  pub parts : job.parts ≡ None
  pub workers : job.workers ≡ 1
  pub portfolio : job.portfolio ≡ false

-- the workers are 1 to 16, and parts, a choice, a circuit and a check stand beside nothing that they exclude
pub record FitsTogether (job : Job) : Type 0 where
  pub workers : (1 ≤ job.workers) × (job.workers ≤ 16)
  pub parts : (count : ℕ) → job.parts ≡ Some count → IsInParts job count
  pub chosen : job.portfolio ≡ true → IsChosen job
  pub circuit : (file : Text) → job.input ≡ input.Aag file → IsOfCircuit job
  pub checked : (file : Text) → job.input ≡ input.Check file → IsCheck job
