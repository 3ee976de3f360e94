-- At status 0 a run in parts, and one with a choice of the start, write the texts of the input's diagram and its vtree.
use Rattle.std.proofs.Common.{◌≡◌, ℕ, ◌≤◌, Bool, true, false, List, [], ◌∷◌, ◌++◌, length, Option, Some, None}
use Rattle.std.proofs.Common.{arith, refl, sym, ap, subst, ◌∙◌}
use Rattle.std.specs.Option.{option_map_or}
use Rattle.std.specs.Prelude.{if◌then◌else◌}
use Rattle.sd_base.specs.Files.{Files}
use Rattle.sd_base.specs.Sink.{told_then}
use Rattle.sd_model.specs.StartTrees.{balanced_tree}
use Rattle.sd_model.specs.Tree.{Tree, IsVtree, leaves}
use Rattle.sd_formula.specs.Dimacs.{Groups}
use Rattle.sd_formula.specs.Formulas.{expression_of}
use Rattle.sd_formula.proofs.RangeLaws.{accepted_fits}
use Rattle.sd_formula.specs.declared.formula.Kind.TheVariants as kinds
use Rattle.sd_manager.specs.Table.{Table}
use Rattle.sd_starts.specs.Starts.{Choice, Chosen, AllPassed, IsChoice, tree_of_start}
use Rattle.sd_starts.specs.declared.start.Start.{Start}
use Rattle.sd_starts.specs.declared.start.Start.TheVariants as starts
use Rattle.sd_words.proofs.Fitting.{job_fits_together}
use Rattle.sd_words.specs.declared.jobs.Job.{Job}
use Rattle.sd_words.specs.declared.jobs.InputWord.{InputWord}
use Rattle.sd_words.specs.declared.jobs.InputWord.TheVariants as inputs
use Rattle.sd_commands.specs.Effects.{Effect, Print}
use Rattle.sd_commands.specs.Commands.{State, Done, Steps, at_start, by_choice, no_circuit, settings_of, start_line}
use Rattle.sd_commands.specs.Commands.{with_name}
use Rattle.sd_commands.specs.declared.command.NumberedCommand.{NumberedCommand}
use Rattle.sd_commands.specs.declared.command.RunCommand.TheVariants as commands
use Rattle.sd_commands.proofs.Outcomes.{parts_done, plain_growth}
use Rattle.sd_tool.specs.Devices.{Seen}
use Rattle.sd_tool.specs.Laws.{HasChosen, HasParted, HaveOneReading}
use Rattle.sd_tool.specs.Readings.{choice, default_of, first_state, with_input_word}
use Rattle.sd_tool.specs.Written.{IsFormulaOf, IsStartTree, with_announcement}
use Rattle.sd_tool.specs.inside.ByStatus.{IsOneCourse}
use Rattle.sd_tool.specs.inside.Course.{after_effects}
use Rattle.sd_tool.specs.inside.Readings.{with_job}
use Rattle.sd_tool.proofs.StartTrees.{balanced_fits, right_fits, left_fits}
use Rattle.sd_tool.proofs.WordsInRange.{IsInRange, in_range}
use Rattle.sd_tool.proofs.WrittenLemmas.{after_input, done_of_input, lines_behind}
use Rattle.sd_tool.proofs.WrittenLemmas.{writes_from}

-- ---- the number of workers

-- no reading looks at it
blind : (job : Job) (workers : ℕ) → with_input_word job job.input
    ≡ with_input_word (record job { workers = workers }) job.input
blind job workers = by job.input
  where
    by : (word : InputWord) → with_input_word job word ≡ with_input_word (record job { workers = workers }) word
    by (inputs.Cnf file) = refl
    by (inputs.Dnf file) = refl
    by (inputs.Generate count seed) = refl
    by (inputs.Aag file) = refl
    by (inputs.Check file) = refl

pub one_reading : (words others : List (List ℕ)) → HaveOneReading words others
one_reading words others job workers named renamed =
    ap with_job named ∙ blind job workers ∙ sym (ap with_job renamed)

-- ---- parts

-- the first line, where the formula is compiled in parts
parts_lines : (job : Job) (count : ℕ) → job.portfolio ≡ false → job.parts ≡ Some count
    → choice job ++ default_of job 0
    ≡ record { line = 1; command = commands.InputByParts 0 count } ∷ lines_behind job
parts_lines job count whole parts =
    ap (λ (b : Bool). (if b then record { line = 1; command = commands.Choose job.minimise } ∷ [] else [])
    ++ default_of job 0) whole
    ∙ ap (λ (p : Option ℕ). record {
      line = 1;
      command = option_map_or (commands.InputByParts 0) p (commands.Input 0);
    } ∷ lines_behind job) parts

-- behind it the formula is bound, over the tree as it was
after_parts : (input : Groups) (state last : State) (count : ℕ) (rest : List NumberedCommand) (effects : List Effect)
    → Steps input state (record { line = 1; command = commands.InputByParts 0 count } ∷ rest) effects last
    → Steps input (with_name state 0 (expression_of input)) rest effects last
after_parts input state last count rest effects (mid, first, others, step, steps, is) =
    let done = parts_done state mid first 0 (expression_of input) step.0 step.2 in
    let bound = with_name state 0 (expression_of input) in
    let all : effects ≡ others = is ∙ ap (λ (l : List Effect). l ++ others) done.1 in
    subst (λ l. Steps input bound rest l last) (sym all)
    (subst (λ s. Steps input s rest others last) done.0 steps)

-- beside parts there is no choice
unchosen : (b : Bool) (parts : Option ℕ) (count : ℕ) → parts ≡ Some count → (b ≡ true → parts ≡ None) → b ≡ false
unchosen false parts count there none = refl
unchosen true parts count there none = let e = none refl in let bad : ⊥ = cc in absurd bad

pub parted_at : (words : List (List ℕ)) (status : ℕ) (kept : Option Table) (seen : Seen)
    → IsOneCourse words status kept seen → HasParted words status seen
parted_at words status kept seen went files job count zero_ told named parts =
    let fits = job_fits_together words job named in
    let own = fits.parts count parts in
    let whole = unchosen job.portfolio job.parts count parts (λ e. (fits.chosen e).parts) in
    let done = done_of_input words status kept seen files job went zero_ told named own.script own.formula in
    let from = done.2 in
    let begun = done.3 in
    let printed = with_announcement job.input from.formula seen.old.contents.printed in
    let first = first_state job from.tree no_circuit in
    let steps = subst (λ l. Steps from.formula first l begun.effects done.1)
    (parts_lines job count whole parts) begun.steps in (
      from.formula,
      from.input,
      from.tree,
      from.start,
      writes_from files job from.formula from.formula from.tree done.1 begun.effects
          (record seen.old.contents { printed = printed }) seen.new.contents begun.valid told
          (after_parts from.formula first done.1 count (lines_behind job) begun.effects steps) begun.is,
    )

-- ---- the choice of a start

-- the first lines, where a start is chosen
choice_lines : (job : Job) → job.portfolio ≡ true → job.parts ≡ None
    → choice job ++ default_of job 0
    ≡ record { line = 1; command = commands.Choose job.minimise }
    ∷ record { line = 1; command = commands.Input 0 } ∷ lines_behind job
choice_lines job there whole =
    ap (λ (b : Bool). (if b then record { line = 1; command = commands.Choose job.minimise } ∷ [] else [])
    ++ default_of job 0) there
    ∙ ap (λ (p : Option ℕ). record { line = 1; command = commands.Choose job.minimise } ∷ record {
      line = 1;
      command = option_map_or (commands.InputByParts 0) p (commands.Input 0);
    } ∷ lines_behind job) whole

-- behind the first a start is chosen, and told
record AfterChoice (input : Groups) (state last : State) (rounds : Option ℕ) (rest : List NumberedCommand)
    (effects : List Effect)
    : Type 0 where
  start : Start
  size : ℕ
  choice : IsChoice input (settings_of state rounds) (Chosen start size)
  others : List Effect
  steps : Steps input (at_start state start) rest others last
  are : effects ≡ Print (start_line start) ∷ others

after_choice : (input : Groups) (state last : State) (rounds : Option ℕ) (rest : List NumberedCommand)
    (effects : List Effect)
    → Steps input state (record { line = 1; command = commands.Choose rounds } ∷ rest) effects last
    → AfterChoice input state last rounds rest effects
after_choice input state last rounds rest effects (mid, first, others, (end, is_choice, done), steps, is) =
    go end is_choice done
  where
    go : (end : Choice) → IsChoice input (settings_of state rounds) end → Done mid first ≡ by_choice state end
        → AfterChoice input state last rounds rest effects
    go (Chosen start size) own e =
        let same : mid ≡ at_start state start = cc in
        let told : first ≡ Print (start_line start) ∷ [] = cc in
        record {
          start = start;
          size = size;
          choice = own;
          others = others;
          steps = subst (λ s. Steps input s rest others last) same steps;
          are = is ∙ ap (λ (l : List Effect). l ++ others) told;
        }
    go (AllPassed group size) own e = let bad : ⊥ = cc in absurd bad

-- a formula has a variable
some_variable : (files : Files) (word : InputWord) (formula : Groups) → IsInRange word → IsFormulaOf files word formula
    → 1 ≤ formula.variables
some_variable files (inputs.Cnf file) formula fits (bytes, there, short, reads) =
    (accepted_fits kinds.Cnf bytes formula reads).at_least_one
some_variable files (inputs.Dnf file) formula fits (bytes, there, short, reads) =
    (accepted_fits kinds.Dnf bytes formula reads).at_least_one
some_variable files (inputs.Generate count seed) formula fits is =
    let three = fits.at_least_three in
    let same : formula.variables ≡ count = ap (λ (g : Groups). g.variables) is in
    omega (arith, three, same)
some_variable files (inputs.Aag file) formula fits is = absurd is
some_variable files (inputs.Check file) formula fits is = absurd is

-- a start over the balanced tree is one over its variables
start_over : (v : ℕ) (tree : Tree) (start : Start) → 1 ≤ v → tree ≡ balanced_tree v
    → tree_of_start start (leaves tree) ≡ tree_of_start start v
start_over v tree start some is =
    ap (tree_of_start start) (ap leaves is ∙ (balanced_fits v some).count)

-- the tree of a start is a vtree
start_valid : (v : ℕ) (start : Start) → 1 ≤ v → IsVtree (tree_of_start start v)
start_valid v starts.Balanced some = (balanced_fits v some).vtree
start_valid v starts.Right some = (right_fits v some).vtree
start_valid v starts.Left some = (left_fits v some).vtree

pub chosen_at : (words : List (List ℕ)) (status : ℕ) (kept : Option Table) (seen : Seen)
    → IsOneCourse words status kept seen → HasChosen words status seen
chosen_at words status kept seen went files job zero_ told named there =
    let own = (job_fits_together words job named).chosen there in
    let done = done_of_input words status kept seen files job went zero_ told named own.script own.formula in
    let from = done.2 in
    let begun = done.3 in
    let f = from.formula in
    let some = some_variable files job.input f (in_range words job named) from.input in
    let balanced : from.tree ≡ balanced_tree f.variables =
    subst (λ word. IsStartTree files word f.variables from.tree) own.tree from.start in
    let first = first_state job from.tree no_circuit in
    let after = after_choice f first done.1 job.minimise
    (record { line = 1; command = commands.Input 0 } ∷ lines_behind job) begun.effects
    (subst (λ l. Steps f first l begun.effects done.1) (choice_lines job there own.parts) begun.steps) in
    let bound = after_input f (at_start first after.start) done.1 1 (lines_behind job) after.others after.steps in
    let tree = tree_of_start after.start f.variables in
    let grown : bound.grown ≡ tree =
    plain_growth f (at_start first after.start) (length f.groups) bound.grown own.every bound.course
    ∙ start_over f.variables from.tree after.start some balanced in
    let printed = with_announcement job.input f seen.old.contents.printed in
    record {
      formula = f;
      input = from.input;
      start = after.start;
      size = after.size;
      choice = after.choice;
      writes = writes_from files job f f tree done.1 after.others
          (record seen.old.contents { printed = told_then printed (start_line after.start) }) seen.new.contents
          (start_valid f.variables after.start some) told
          (subst (λ t. Steps f (with_name (record first { tree = t }) 0 (expression_of f)) (lines_behind job)
          after.others done.1) grown bound.steps)
          (begun.is ∙ ap (λ l. after_effects l (record seen.old.contents { printed = printed })) after.are);
    }
