-- The readings of the inputs, from the words to the commands.
use Rattle.std.proofs.Common.{◌≡◌, ℕ, List, [], ◌∷◌, ◌++◌, Option, Some, None, Result, Ok, Err}
use Rattle.std.proofs.Common.{Bool, true, false, IfOk, MatchResult, refl, sym, ap, subst, ◌∙◌}
use Rattle.std.specs.Prelude.{if◌then◌else◌}
use Rattle.std.specs.FinMap.{FinMap}
use Rattle.std.specs.Ordering.{nat_cmp}
use Rattle.std.specs.declared.alloc.AllocError.{AllocError}
use Rattle.sd_base.specs.Asked.{Request}
use Rattle.sd_base.specs.Files.{Files}
use Rattle.sd_circuit.specs.Circuits.{OrderedCircuit}
use Rattle.sd_file.specs.Reads.{File}
use Rattle.sd_formula.specs.Dimacs.{Groups}
use Rattle.sd_formula.specs.Formulas.{no_groups}
use Rattle.sd_formula.specs.declared.formula.Kind.TheVariants as kinds
use Rattle.sd_model.specs.Circuit.{Circuit}
use Rattle.sd_model.specs.Tree.{Tree}
use Rattle.sd_vtree.specs.Numbered.{Numbered, plain_tree}
use Rattle.sd_words.specs.Fitting.{FitsTogether}
use Rattle.sd_words.specs.declared.jobs.InputWord.{InputWord}
use Rattle.sd_words.specs.declared.jobs.InputWord.TheVariants as inputs
use Rattle.sd_words.specs.declared.jobs.Job.{Job}
use Rattle.sd_commands.specs.Commands.{no_circuit}
use Rattle.sd_commands.specs.Standing.{lines_of}
use Rattle.sd_commands.specs.declared.command.NumberedCommand.{NumberedCommand}
use Rattle.sd_commands.specs.declared.command.RunCommand.TheVariants as commands
use Rattle.sd_tool.specs.Readings.{Point, Stands, announcement, choice, first_state, with_checked, with_tree}
use Rattle.sd_tool.specs.Readings.{with_tree_word}
use Rattle.sd_tool.specs.inside.Asks.{ComesTo}
use Rattle.sd_tool.specs.declared.plan.Source.{Source}
use Rattle.sd_tool.specs.declared.stop.Stop.{Stop}
use Rattle.sd_tool.specs.declared.stop.Stop.TheVariants.{OutOfMemory}

-- what the code has of a formula or a circuit
pub source_leads : (asks : List Request → Type 0) (told : Option Files) (reading : Point) (job : Job) (source : Source)
    (formula : Groups) (circuit : Option OrderedCircuit) → source.formula ≡ formula → source.circuit ≡ circuit
    → ComesTo asks told reading (with_tree_word job formula (lines_of circuit) job.tree)
    → ComesTo asks told reading (with_tree_word job source.formula (lines_of source.circuit) job.tree)
source_leads asks told reading job source formula circuit same own a =
    subst (λ (f : Groups). ComesTo asks told reading (with_tree_word job f (lines_of source.circuit) job.tree))
    (sym same)
    (subst (λ (c : Option OrderedCircuit). ComesTo asks told reading (with_tree_word job formula (lines_of c) job.tree))
    (sym own) a)

-- the tree is a start tree that was made
pub start_gives : (reading : Point) (job : Job) (formula : Groups) (circuit : Circuit) (tree : Tree)
    (start : Result Numbered AllocError) (result : Result Numbered Stop)
    → reading ≡ with_tree job formula circuit tree → IfOk start (λ t. plain_tree t ≡ tree)
    → MatchResult start (λ t. result ≡ Ok t) (λ _. result ≡ Err OutOfMemory)
    → MatchResult result (λ t. reading ≡ with_tree job formula circuit (plain_tree t)) (λ stop. stop ≡ OutOfMemory)
start_gives reading job formula circuit tree (Ok t) result is made kept =
    subst (λ r. MatchResult r (λ t. reading ≡ with_tree job formula circuit (plain_tree t))
    (λ stop. stop ≡ OutOfMemory))
    (sym kept) (is ∙ ap (with_tree job formula circuit) (sym made))
start_gives reading job formula circuit tree (Err e) result is made kept =
    subst (λ r. MatchResult r (λ t. reading ≡ with_tree job formula circuit (plain_tree t))
    (λ stop. stop ≡ OutOfMemory))
    (sym kept) refl

-- beside a script there is no choice
pub no_choice : (job : Job) (file : List ℕ) → FitsTogether job → job.script ≡ Some file → choice job ≡ []
no_choice job file is there = go job.portfolio (λ e. (is.chosen e).script)
  where
    by : Bool → List NumberedCommand
    by chosen = if chosen then record { line = 1; command = commands.Choose job.minimise } ∷ [] else []

    go : (chosen : Bool) → (chosen ≡ true → job.script ≡ None) → by chosen ≡ []
    go true none = let bad : ⊥ = let e = none refl in cc in absurd bad
    go false none = refl

-- the inputs of a check
pub check_point : (job : Job) (name : List ℕ) (source : Source) (tree : Tree) (v : ℕ) (ids : FinMap nat_cmp ℕ)
    (file : File) (lines : List NumberedCommand) → job.input ≡ inputs.Check name
    → source.formula ≡ no_groups kinds.Cnf v → source.circuit ≡ None
    → lines ≡ record { line = 0; command = commands.Check file ids } ∷ []
    → Stands source.formula (first_state job tree (lines_of source.circuit))
    (announcement job.input source.formula ++ ([] ++ lines))
    ≡ with_checked job (record { variables = v; tree = tree; ids = ids }) file
check_point job name source tree v ids file lines is same none are =
    let f = no_groups kinds.Cnf v in
    ap (λ (g : Groups). Stands g (first_state job tree (lines_of source.circuit))
    (announcement job.input g ++ ([] ++ lines))) same
    ∙ ap (λ (c : Option OrderedCircuit). Stands f (first_state job tree (lines_of c))
    (announcement job.input f ++ ([] ++ lines))) none
    ∙ ap (λ (w : InputWord). Stands f (first_state job tree no_circuit) (announcement w f ++ ([] ++ lines))) is
    ∙ ap (λ (l : List NumberedCommand). Stands f (first_state job tree no_circuit) l) are
