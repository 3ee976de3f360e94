-- The points of a run, and how it comes to its commands: what it reads before the first one, when that is refused, and
-- which commands follow. A later reading is one more `Reads`.
use Rattle.std.specs.Prelude.{◌≡◌, ℕ, zero, suc, ◌-◌, ◌/◌, ◌<◌, ◌≤◌}
use Rattle.std.specs.Prelude.{List, [], ◌∷◌, ◌++◌, codes, length, map, slice_index_or, if◌then◌else◌}
use Rattle.std.specs.List.{enumerate_from, range_with_len}
use Rattle.std.specs.FinMap.{FinMap, get}
use Rattle.std.specs.Option.{option_map_or, option_to_list}
use Rattle.std.specs.Ordering.{nat_cmp}
use Rattle.std.specs.Prelude.{Option, Some, None, Result, Ok, Err}
use Rattle.sd_aiger.specs.Reads.{aiger}
use Rattle.sd_base.specs.Files.{Files}
use Rattle.sd_base.specs.Reading.{◌>>=◌}
use Rattle.sd_model.specs.Circuit.{Circuit}
use Rattle.sd_model.specs.Tree.{Tree}
use Rattle.sd_model.specs.StartTrees.{start_tree}
use Rattle.sd_formula.specs.declared.formula.Kind.TheVariants as kinds
use Rattle.sd_formula.specs.Dimacs.{Groups, dimacs}
use Rattle.sd_formula.specs.Formulas.{no_groups}
use Rattle.sd_formula.specs.Generated.{generated_formula}
use Rattle.sd_vfile.specs.Ids.{ids_of}
use Rattle.sd_vfile.specs.Reads.{vtree_file, variables_stated}
use Rattle.sd_file.specs.Reads.{File, sdd_file}
use Rattle.sd_script.specs.Scripts.{Script, script_of}
use Rattle.sd_script.specs.declared.command.Action.{Action}
use Rattle.sd_script.specs.declared.command.Action.TheVariants as actions
use Rattle.sd_script.specs.declared.command.Command.{Command as Line}
use Rattle.sd_words.specs.JobOf.{job_of}
use Rattle.sd_words.specs.declared.jobs.Job.{Job}
use Rattle.sd_words.specs.declared.jobs.InputWord.{InputWord}
use Rattle.sd_words.specs.declared.jobs.InputWord.TheVariants as inputs
use Rattle.sd_words.specs.declared.jobs.TreeWord.{TreeWord}
use Rattle.sd_words.specs.declared.jobs.TreeWord.TheVariants as trees
use Rattle.sd_commands.specs.Commands.{State, no_circuit}
use Rattle.sd_commands.specs.Standing.{start}
use Rattle.sd_commands.specs.declared.command.NumberedCommand.{NumberedCommand}
use Rattle.sd_commands.specs.declared.command.RunCommand.{RunCommand}
use Rattle.sd_commands.specs.declared.command.RunCommand.TheVariants as commands

-- Where a run stands: it is refused, with the status and the text of the line; it reads a file next, whose bytes are
-- there unless it is too long; or these commands are left, in a state, over this input.
pub data Point : Type 0 where
  Refuses : ℕ × List ℕ → Point
  Reads : (file : List ℕ) (next : Option (List ℕ) → Point) → Point
  Stands : (input : Groups) (state : State) (left : List NumberedCommand) → Point

-- ---- the commands

-- the name 0 for the formula, which is compiled as a whole or in so many parts
abbrev pub input_command : Job → RunCommand
input_command job = option_map_or (commands.InputByParts 0) job.parts (commands.Input 0)

-- the names of a run without a script: the numbers of the circuit's outputs, and 0 for a formula, which has no outputs
abbrev pub first_names : ℕ → List ℕ
first_names zero = 0 ∷ []
first_names (suc o) = range_with_len 0 (suc o)

-- what binds them
abbrev pub binding : Job → ℕ → List RunCommand
binding job zero = input_command job ∷ []
binding job (suc o) = map (λ i. commands.Output i i) (range_with_len 0 (suc o))

-- Without a script the formula or each output is compiled, a search is done where the words ask for one, the vtree and
-- the diagrams are written, and then each size is printed: these are the lines of a script, from 1 on.
abbrev pub default_of : Job → ℕ → List NumberedCommand
default_of job outputs = map (λ (n, command). record { line = n; command = command }) (enumerate_from 1
    (binding job outputs ++ map commands.Minimise (option_to_list job.minimise)
    ++ map commands.WriteVtree (option_to_list job.out_vtree)
    ++ map (commands.Write (first_names outputs)) (option_to_list job.out_sdd)
    ++ map commands.Size (first_names outputs)))

-- the name of a file of a script
abbrev pub file_name : Script → ℕ → List ℕ
file_name script n = slice_index_or script.files n []

-- what was read of a text, or the refusal of its fault, with this status and, behind the name of the file, the text of
-- the fault
abbrev pub or_refused : {A : Type 0} → ℕ → List ℕ → (A → Point) → Result A (List ℕ) → Point
or_refused status file next (Ok read) = next read
or_refused status file next (Err text) = Refuses (status, file ++ text)

-- A file is read next, by this reading of texts. It is refused, with this status, where it is too long, and where its
-- text has a fault.
abbrev pub reads : {A : Type 0} → ℕ → (List ℕ → Result A (List ℕ)) → List ℕ → (A → Point) → Point
reads status read file next = let long = Refuses (status, file ++ codes ": too long") in
    Reads file (λ text. option_map_or (λ bytes. or_refused status file next (read bytes)) text long)

-- a command of a script as one of the run; a file that it loads is read
abbrev pub with_action : ℕ → Script → (RunCommand → Point) → Action → Point
with_action v script next (actions.Input n) = next (commands.Input n)
with_action v script next (actions.Output n index) = next (commands.Output n index)
with_action v script next (actions.Load n file) =
    reads 2 (sdd_file v) (file_name script file) (λ read. next (commands.Load n read))
with_action v script next (actions.Lit n literal) = next (commands.Literal n literal)
with_action v script next (actions.Constant n value) = next (commands.Constant n value)
with_action v script next (actions.Binary operation n a b) = next (commands.Combine operation n a b)
with_action v script next (actions.Not n a) = next (commands.Negate n a)
with_action v script next (actions.Given n a literal) = next (commands.Given n a literal)
with_action v script next (actions.Forget n a x) = next (commands.Forget n a x)
with_action v script next (actions.Drop a) = next (commands.Drop a)
with_action v script next (actions.Turn kind p) = next (commands.Turn kind p)
with_action v script next (actions.Minimise rounds) = next (commands.Minimise rounds)
with_action v script next (actions.Limit limit) = next (commands.Limit limit)
with_action v script next (actions.Same a b) = next (commands.Same a b)
with_action v script next (actions.Size a) = next (commands.Size a)
with_action v script next (actions.Value a bits) = next (commands.Value a bits)
with_action v script next (actions.Write names file) = next (commands.Write names (file_name script file))
with_action v script next (actions.Vtree file) = next (commands.WriteVtree (file_name script file))

-- the commands of these lines, behind others
abbrev pub with_lines : ℕ → Script → (List NumberedCommand → Point) → List NumberedCommand → List Line → Point
with_lines v script begin done [] = begin done
with_lines v script begin done (line ∷ lines) = with_action v script
    (λ command. with_lines v script begin (done ++ record { line = line.line; command = command } ∷ []) lines)
    line.action

-- the commands of a job over so many variables and outputs: those of its script, or the stated ones
abbrev pub with_commands : Job → (variables outputs : ℕ) → (List NumberedCommand → Point) → Option (List ℕ)
    → Point
with_commands job v o begin None = begin (default_of job o)
with_commands job v o begin (Some file) =
    reads 3 (script_of v o) file (λ script. with_lines v script begin [] script.commands)

-- ---- the input and its tree

-- a generated formula is told of first, before all lines, by its numbers of variables and groups
abbrev pub announcement : InputWord → Groups → List NumberedCommand
announcement (inputs.Generate count seed) formula =
    record { line = 0; command = commands.Generated formula.variables (length formula.groups) } ∷ []
announcement word formula = []

-- then a start is chosen, where the words ask for that, with a search where they ask for one; it is of the first line
abbrev pub choice : Job → List NumberedCommand
choice job = if job.portfolio then record { line = 1; command = commands.Choose job.minimise } ∷ [] else []

-- no name is bound yet, and the limit, the slack and the number for searches are those of the words
abbrev pub first_state : Job → Tree → Circuit → State
first_state job tree circuit = record (start tree job.limit job.slack job.every) { circuit = circuit }

-- the commands over this formula, this circuit and this tree: with them all is accepted
abbrev pub with_tree : Job → Groups → Circuit → Tree → Point
with_tree job formula circuit tree = with_commands job formula.variables (length circuit.outputs)
    (λ commands. Stands formula (first_state job tree circuit)
    (announcement job.input formula ++ (choice job ++ commands))) job.script

-- the start tree over the variables in order of which each left child gets half, one, or all but one of what is there,
-- or the tree of a vtree file
abbrev pub with_tree_word : Job → Groups → Circuit → TreeWord → Point
with_tree_word job formula circuit trees.Balanced =
    with_tree job formula circuit (start_tree (λ m. m / 2) formula.variables)
with_tree_word job formula circuit trees.Right =
    with_tree job formula circuit (start_tree (λ m. 1) formula.variables)
with_tree_word job formula circuit trees.Left =
    with_tree job formula circuit (start_tree (λ m. m - 1) formula.variables)
with_tree_word job formula circuit (trees.File file) =
    reads 2 (vtree_file formula.variables) file (with_tree job formula circuit)

-- a formula over the tree of the words
abbrev pub with_formula : Job → Groups → Point
with_formula job formula = with_tree_word job formula no_circuit job.tree

-- a circuit over the tree of the words, whose variables are its inputs; there is no group then
abbrev pub with_circuit : Job → Circuit → Point
with_circuit job circuit =
    with_tree_word job (no_groups kinds.Cnf (length circuit.inputs)) circuit job.tree

-- ---- a file that is checked

-- the vtree of a file over as many variables as it states, and the positions of the file's ids
pub record CheckedVtree : Type 0 where
  pub variables : ℕ
  pub tree : Tree
  pub ids : FinMap nat_cmp ℕ

-- what a vtree file stands for beside a file that is checked
abbrev pub checked_vtree : List ℕ → Result CheckedVtree (List ℕ)
checked_vtree bytes = do
  variables ← variables_stated bytes
  tree ← vtree_file variables bytes
  ids ← ids_of variables bytes
  Ok (record { variables = variables; tree = tree; ids = ids })

-- the check is the only command; there is no formula, so there is no group
abbrev pub with_checked : Job → CheckedVtree → File → Point
with_checked job vtree read = Stands (no_groups kinds.Cnf vtree.variables) (first_state job vtree.tree no_circuit)
    (record { line = 0; command = commands.Check read vtree.ids } ∷ [])

-- the vtree file is read, and then the SDD file; without a vtree file the words were refused before
abbrev pub with_check : Job → List ℕ → TreeWord → Point
with_check job file (trees.File tree) = reads 2 checked_vtree tree
    (λ vtree. reads 2 (sdd_file vtree.variables) file (with_checked job vtree))
with_check job file word = Refuses (1, codes "no vtree")

-- ---- the words

-- a file of the input is read; a generated formula is there
abbrev pub with_input_word : Job → InputWord → Point
with_input_word job (inputs.Cnf file) = reads 2 (dimacs kinds.Cnf) file (with_formula job)
with_input_word job (inputs.Dnf file) = reads 2 (dimacs kinds.Dnf) file (with_formula job)
with_input_word job (inputs.Generate count seed) = with_formula job (generated_formula count seed)
with_input_word job (inputs.Aag file) = reads 2 aiger file (with_circuit job)
with_input_word job (inputs.Check file) = with_check job file job.tree

-- the readings of a run, in order
abbrev pub reading_of : List (List ℕ) → Point
reading_of words = or_refused 1 [] (λ job. with_input_word job job.input) (job_of words)

-- Where the files are told, the file of this name has this text, of at most 67,108,864 bytes. Of a longer one, which is
-- too long, no text is given.
abbrev pub IsText : Option Files → List ℕ → Option (List ℕ) → Type 0
IsText None file text = Unit {0}
IsText (Some files) file (Some bytes) = (get files file ≡ Some bytes) × (length bytes ≤ 67108864)
IsText (Some files) file None = (bytes : List ℕ) × (get files file ≡ Some bytes) × (67108864 < length bytes)
