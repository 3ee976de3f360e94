-- What the words and told files give, and what the written files are, said without the course of the run.
use Rattle.std.specs.Prelude.{◌≡◌, ℕ, ◌≤◌, false, List, [], ◌∷◌, fold, length, map, Option, Some, None, Result, Ok}
use Rattle.std.specs.List.{AllZip, range_with_len}
use Rattle.std.specs.FinMap.{get, insert}
use Rattle.std.specs.Option.{option_map_or}
use Rattle.sd_base.specs.Files.{Files}
use Rattle.sd_base.specs.Sink.{told_then}
use Rattle.sd_aiger.specs.Reads.{aiger}
use Rattle.sd_model.specs.Circuit.{Circuit}
use Rattle.sd_model.specs.Expression.{Expression, OutputOf}
use Rattle.sd_model.specs.Diagram.{Diagram}
use Rattle.sd_model.specs.Size.{IsDiagramOf, size_of}
use Rattle.sd_model.specs.StartTrees.{balanced_tree, right_tree, left_tree}
use Rattle.sd_model.specs.Tree.{Tree}
use Rattle.sd_model.specs.Text.{roots_text, sdd_text, vtree_text}
use Rattle.sd_formula.specs.Dimacs.{Groups, dimacs}
use Rattle.sd_formula.specs.Formulas.{expression_of}
use Rattle.sd_formula.specs.Generated.{generated_formula}
use Rattle.sd_formula.specs.declared.formula.Kind.TheVariants as kinds
use Rattle.sd_vfile.specs.Reads.{vtree_file}
use Rattle.sd_search.specs.Search.{Found, IsSearch}
use Rattle.sd_words.specs.JobOf.{job_of}
use Rattle.sd_words.specs.Fitting.{IsFormulaWord}
use Rattle.sd_words.specs.declared.jobs.Job.{Job}
use Rattle.sd_words.specs.declared.jobs.InputWord.{InputWord}
use Rattle.sd_words.specs.declared.jobs.InputWord.TheVariants as inputs
use Rattle.sd_words.specs.declared.jobs.TreeWord.{TreeWord}
use Rattle.sd_words.specs.declared.jobs.TreeWord.TheVariants as trees
use Rattle.sd_starts.specs.Starts.{Chosen, IsChoice, tree_of_start}
use Rattle.sd_starts.specs.declared.start.Start.{Start}
use Rattle.sd_check.specs.Rules.{HasVerdict}
use Rattle.sd_check.specs.declared.rules.Verdict.{Verdict}
use Rattle.sd_file.specs.Reads.{File, sdd_file}
use Rattle.sd_commands.specs.Standing.{start}
use Rattle.sd_commands.specs.Commands.{Grows, PassesAtGroup, generated_line, size_line, search_line}
use Rattle.sd_commands.specs.Commands.{start_line, verdict_line}
use Rattle.sd_tool.specs.Effects.{Contents}
use Rattle.sd_tool.specs.Readings.{CheckedVtree, checked_vtree}
use Rattle.sd_tool.specs.Devices.{Seen, WritesEndLine}
use Rattle.sd_tool.specs.Ends.{OverLimit}

-- the file is there and not too long, and its text reads so
abbrev pub ReadsAs : {A E : Type 0} → Files → List ℕ → (List ℕ → Result A E) → A → Type 0
ReadsAs files file read value =
    (bytes : List ℕ) × (get files file ≡ Some bytes) × (length bytes ≤ 67108864) × (read bytes ≡ Ok value)

-- the formula of the words: that of a file, or the generated one
abbrev pub IsFormulaOf : Files → InputWord → Groups → Type 0
IsFormulaOf files (inputs.Cnf file) formula = ReadsAs files file (dimacs kinds.Cnf) formula
IsFormulaOf files (inputs.Dnf file) formula = ReadsAs files file (dimacs kinds.Dnf) formula
IsFormulaOf files (inputs.Generate count seed) formula = formula ≡ generated_formula count seed
IsFormulaOf files (inputs.Aag file) formula = ⊥
IsFormulaOf files (inputs.Check file) formula = ⊥

-- the start tree of the words, for a formula of so many variables: that of a shape, or that of a vtree file
abbrev pub IsStartTree : Files → TreeWord → ℕ → Tree → Type 0
IsStartTree files trees.Balanced v tree = tree ≡ balanced_tree v
IsStartTree files trees.Right v tree = tree ≡ right_tree v
IsStartTree files trees.Left v tree = tree ≡ left_tree v
IsStartTree files (trees.File file) v tree = ReadsAs files file (vtree_file v) tree

-- the words are accepted and the files told: what the words ask for, the formula and the start tree
pub record Given (words : List (List ℕ)) (seen : Seen) : Type 0 where
  pub files : Files
  pub told : seen.old.contents.files ≡ Some files
  pub job : Job
  pub named : job_of words ≡ Ok job
  pub formula : Groups
  pub input : IsFormulaOf files job.input formula
  pub tree : Tree
  pub starts : IsStartTree files job.tree formula.variables tree

-- without a script, parts or a choice of the start: the formula is compiled whole, over the start tree of the words
pub record IsPlainJob (job : Job) : Type 0 where
  pub alone : job.script ≡ None
  pub whole : job.parts ≡ None
  pub settled : job.portfolio ≡ false

-- so for a run of such words
pub record PlainRun (words : List (List ℕ)) (seen : Seen) : Type 0 where
  pub given : Given words seen
  pub plain : IsPlainJob given.job

-- the files are told, and the words are accepted, plain, and ask for a formula
abbrev pub IsPlain : List (List ℕ) → Seen → Type 0
IsPlain words seen = (files : Files) × (job : Job) × (seen.old.contents.files ≡ Some files) × (job_of words ≡ Ok job)
    × IsPlainJob job × IsFormulaWord job.input

-- the files with these bytes under a name that is there
abbrev pub with_output : Option (List ℕ) → List ℕ → Files → Files
with_output name bytes files = option_map_or (λ own. insert files own bytes) name files

-- what is printed with the line of a generated formula behind it
abbrev pub with_announcement : InputWord → Groups → Option (List ℕ) → Option (List ℕ)
with_announcement (inputs.Generate count seed) formula printed =
    told_then printed (generated_line formula.variables (length formula.groups))
with_announcement word formula printed = printed

-- The tree and what is printed, where the words ask for a search of formulas from a tree: the tree that it finds, and
-- its line behind. Else both stay.
abbrev pub IsFoundFor : Option ℕ → ℕ → List Expression → Tree → Option (List ℕ) → Tree → Option (List ℕ) → Type 0
IsFoundFor None slack fs tree printed found told = (found ≡ tree) × (told ≡ printed)
IsFoundFor (Some rounds) slack fs tree printed found told =
    (result : Found) × IsSearch fs slack rounds tree result × (found ≡ result.tree)
    × (told ≡ told_then printed (search_line result.before result.after result.rounds))

-- the same of one formula
abbrev pub IsFound : Option ℕ → ℕ → Expression → Tree → Option (List ℕ) → Tree → Option (List ℕ) → Type 0
IsFound rounds slack f tree printed found told = IsFoundFor rounds slack (f ∷ []) tree printed found told

-- Where the formula is compiled over a tree, and this was printed before: the vtree output is the text of the tree that
-- the search of the words found from it, or of itself where they ask for none. The diagram output is the text of the
-- formula's canonical diagram for it, no other file changed, and the size of that diagram was printed, after the line
-- of the search.
pub record IsWrittenFrom (files : Files) (job : Job) (formula : Groups) (tree : Tree) (printed : Option (List ℕ))
    (new : Contents)
    : Type 0 where
  pub found : Tree
  pub told : Option (List ℕ)
  pub search : IsFound job.minimise job.slack (expression_of formula) tree printed found told
  pub diagram : Diagram
  pub of_formula : IsDiagramOf found (expression_of formula) diagram
  pub files_are : new.files
      ≡ Some (with_output job.out_sdd (sdd_text diagram) (with_output job.out_vtree (vtree_text found) files))
  pub printed_is : new.printed ≡ told_then told (size_line (size_of (diagram ∷ [])))

-- The groups of the formula led from the start tree to a tree, which is that one where no search follows a group, and
-- the run wrote the formula over it, after the line of a generated formula.
pub record IsWritten (files : Files) (job : Job) (formula : Groups) (tree : Tree) (old new : Contents) : Type 0 where
  pub grown : Tree
  pub course : Grows formula (start tree job.limit job.slack job.every) (length formula.groups) grown
  pub writes : IsWrittenFrom files job formula grown (with_announcement job.input formula old.printed) new

-- a run without a script wrote so
abbrev pub WritesInput : {words : List (List ℕ)} {seen : Seen} → PlainRun words seen → Type 0
WritesInput {seen = seen} run = let given = run.given in
    IsWritten given.files given.job given.formula given.tree seen.old.contents seen.new.contents

-- the same of a job over told files: of its formula, over its start tree
abbrev pub WritesJob : Job → Files → Seen → Type 0
WritesJob job files seen = (formula : Groups) × IsFormulaOf files job.input formula
    × (tree : Tree) × IsStartTree files job.tree formula.variables tree
    × IsWritten files job formula tree seen.old.contents seen.new.contents

-- a job in parts, over told files, wrote its formula over its start tree, which stays
abbrev pub WritesParts : Job → Files → Seen → Type 0
WritesParts job files seen = (formula : Groups) × IsFormulaOf files job.input formula
    × (tree : Tree) × IsStartTree files job.tree formula.variables tree
    × IsWrittenFrom files job formula tree (with_announcement job.input formula seen.old.contents.printed)
    seen.new.contents

-- a job with a choice of the start wrote its formula over the tree of the start that was chosen, whose line was printed
-- before that of a search
pub record WritesChoice (job : Job) (files : Files) (seen : Seen) : Type 0 where
  pub formula : Groups
  pub input : IsFormulaOf files job.input formula
  pub start : Start
  pub size : ℕ
  pub choice : IsChoice formula
      (record { limit = job.limit; slack = job.slack; rounds = job.minimise }) (Chosen start size)
  pub writes : IsWrittenFrom files job formula (tree_of_start start formula.variables)
      (told_then (with_announcement job.input formula seen.old.contents.printed) (start_line start))
      seen.new.contents

-- a check of a file over the vtree of another printed the verdict on it, and changed no file
pub record WritesVerdict (file tree_file : List ℕ) (files : Files) (seen : Seen) : Type 0 where
  pub vtree : CheckedVtree
  pub reads_vtree : ReadsAs files tree_file checked_vtree vtree
  pub diagram : File
  pub reads_diagram : ReadsAs files file (sdd_file vtree.variables) diagram
  pub verdict : Verdict
  pub is_verdict : HasVerdict vtree.tree (get vtree.ids) diagram verdict
  pub files_are : seen.new.contents.files ≡ Some files
  pub printed_is : seen.new.contents.printed
      ≡ told_then seen.old.contents.printed (verdict_line diagram verdict)

-- the outputs of a circuit, in order
abbrev pub outputs_of : Circuit → List Expression
outputs_of circuit = map (OutputOf circuit) (range_with_len 0 (length circuit.outputs))

-- A circuit was read from a told file. The diagram output is the text of the canonical diagrams of its outputs, in
-- order, for the start tree, or for the tree that the search found for the outputs, the last first. The vtree output is
-- the text of that tree, and no other file changed. The size of each of these diagrams was printed, after the line of
-- the search.
pub record WritesOutputs (job : Job) (file out_sdd : List ℕ) (files : Files) (seen : Seen) : Type 0 where
  pub circuit : Circuit
  pub reads_circuit : ReadsAs files file aiger circuit
  pub tree : Tree
  pub starts : IsStartTree files job.tree (length circuit.inputs) tree
  pub found : Tree
  pub told : Option (List ℕ)
  pub search : IsFoundFor job.minimise job.slack (fold (λ fs f. f ∷ fs) [] (outputs_of circuit)) tree
      seen.old.contents.printed found told
  pub diagrams : List Diagram
  pub of_outputs : AllZip (IsDiagramOf found) (outputs_of circuit) diagrams
  pub files_are : seen.new.contents.files
      ≡ Some (insert (with_output job.out_vtree (vtree_text found) files) out_sdd (roots_text diagrams))
  pub printed_is : seen.new.contents.printed
      ≡ fold told_then told (map (λ d. size_line (size_of (d ∷ []))) diagrams)

-- The groups of the formula before this one are within the limit of the words, each on the tree to which those before
-- it lead from the start tree; with this one the size passes it.
abbrev pub PassesAt : {words : List (List ℕ)} {seen : Seen} → PlainRun words seen → ℕ → ℕ → Type 0
PassesAt run group size = let job = run.given.job in
    PassesAtGroup run.given.formula (start run.given.tree job.limit job.slack job.every) group size

-- the line tells the first such group and the size there
abbrev pub TellsGroup : {words : List (List ℕ)} {seen : Seen} → PlainRun words seen → Type 0
TellsGroup {seen = seen} run = (group size : ℕ) × PassesAt run group size
    × WritesEndLine (OverLimit 1 (Some group) size run.given.job.limit) seen.old seen.new
