-- The readings step by step, for the contracts of private functions and for proofs.
use Rattle.std.specs.Prelude.{◌≡◌, ℕ, List, [], ◌++◌, codes, map, Option, Result, Ok}
use Rattle.std.specs.List.{enumerate_from}
use Rattle.std.specs.Option.{option_map_or, option_to_list}
use Rattle.sd_base.specs.Files.{Files}
use Rattle.sd_model.specs.Circuit.{Circuit}
use Rattle.sd_model.specs.Tree.{Tree}
use Rattle.sd_formula.specs.declared.formula.Kind.{Kind}
use Rattle.sd_formula.specs.Dimacs.{Groups, dimacs}
use Rattle.sd_vfile.specs.Reads.{vtree_file}
use Rattle.sd_file.specs.Reads.{File, sdd_file}
use Rattle.sd_script.specs.Scripts.{Script, script_of}
use Rattle.sd_words.specs.JobOf.{job_of}
use Rattle.sd_words.specs.declared.jobs.Job.{Job}
use Rattle.sd_commands.specs.declared.command.NumberedCommand.{NumberedCommand}
use Rattle.sd_commands.specs.declared.command.RunCommand.{RunCommand}
use Rattle.sd_commands.specs.declared.command.RunCommand.TheVariants as commands
use Rattle.sd_script.specs.declared.command.Command.{Command as Line}
use Rattle.sd_tool.specs.Readings.{Point, Refuses, or_refused, with_lines, with_tree, with_formula}
use Rattle.sd_tool.specs.Readings.{with_input_word}
use Rattle.sd_tool.specs.Written.{IsFormulaOf, IsPlainJob}

-- commands in lines that follow one another, from this one on
abbrev pub in_lines : ℕ → List RunCommand → List NumberedCommand
in_lines first commands = map (λ (n, command). record { line = n; command = command }) (enumerate_from first commands)

-- a command for a file that is there
abbrev pub for_file : (List ℕ → RunCommand) → Option (List ℕ) → List RunCommand
for_file command file = map command (option_to_list file)

-- a search of so many rounds, where they are there
abbrev pub search_of : Option ℕ → List RunCommand
search_of rounds = map commands.Minimise (option_to_list rounds)

-- a command with the number of its line
abbrev pub in_line : Line → RunCommand → NumberedCommand
in_line line command = record { line = line.line; command = command }

-- a formula file and its kind
pub record Input : Type 0 where
  pub kind : Kind
  pub file : List ℕ

-- what reading a file gives: its bytes, or none where it is too long
abbrev pub Text : Type 0
Text = Option (List ℕ)

-- a text is read so, and refused where it is too long or has a fault
abbrev pub parsed : {A : Type 0} → ℕ → (List ℕ → Result A (List ℕ)) → List ℕ → (A → Point) → Text → Point
parsed status read file next text =
    option_map_or (λ bytes. or_refused status file next (read bytes)) text
    (Refuses (status, file ++ codes ": too long"))

-- a loaded file that was read
abbrev pub with_sdd_reading : List ℕ → (File → Point) → Result File (List ℕ) → Point
with_sdd_reading file next read = or_refused 2 file next read

-- the text of one over v variables
abbrev pub with_sdd : ℕ → List ℕ → (File → Point) → Text → Point
with_sdd v file next text = parsed 2 (sdd_file v) file next text

-- the commands of a script
abbrev pub script_reading : ℕ → (List NumberedCommand → Point) → Script → Point
script_reading v begin script = with_lines v script begin [] script.commands

-- a script that was read
abbrev pub with_script_reading : List ℕ → ℕ → (List NumberedCommand → Point) → Result Script (List ℕ) → Point
with_script_reading file v begin read = or_refused 3 file (script_reading v begin) read

-- the text of one over v variables and o outputs
abbrev pub with_script_text : List ℕ → ℕ → ℕ → (List NumberedCommand → Point) → Text → Point
with_script_text file v o begin text = parsed 3 (script_of v o) file (script_reading v begin) text

-- a vtree file that was read
abbrev pub with_vtree_reading : Job → Groups → Circuit → List ℕ → Result Tree (List ℕ) → Point
with_vtree_reading job formula circuit file read = or_refused 2 file (with_tree job formula circuit) read

-- the text of one
abbrev pub with_vtree_text : Job → Groups → Circuit → List ℕ → Text → Point
with_vtree_text job formula circuit file text =
    parsed 2 (vtree_file formula.variables) file (with_tree job formula circuit) text

-- a formula file that was read
abbrev pub with_formula_reading : Job → List ℕ → Result Groups (List ℕ) → Point
with_formula_reading job file read =
    or_refused 2 file (with_formula job) read

-- the text of one
abbrev pub with_input : Job → Input → Text → Point
with_input job input text =
    parsed 2 (dimacs input.kind) input.file (with_formula job) text

-- words that were read
abbrev pub with_job : Result Job (List ℕ) → Point
with_job read = or_refused 1 [] (λ job. with_input_word job job.input) read

-- the plain words ask for this formula
pub record IsInput (words : List (List ℕ)) (files : Files) (job : Job) (formula : Groups) : Type 0 where
  pub named : job_of words ≡ Ok job
  pub plain : IsPlainJob job
  pub input : IsFormulaOf files job.input formula
