-- At status 0 a run without a script writes the texts of the input's diagram and of its vtree.
-- Equal texts of diagrams are one function.
use Rattle.std.proofs.Common.{◌≡◌, ◌↔◌, ℕ, ◌+◌, Bool, List, [], ◌∷◌, ◌++◌, length, Option, Some, None}
use Rattle.std.proofs.Common.{Result, Ok, Err}
use Rattle.std.proofs.Common.{codes}
use Rattle.std.specs.Prelude.{if◌then◌else◌, is_some}
use Rattle.std.specs.Option.{option_and_then, option_map_or}
use Rattle.std.proofs.Common.{inl, inr, refl, sym, ap, subst, ◌∙◌}
use Rattle.std.specs.List.{AllZip}
use Rattle.sd_base.specs.Files.{Files, told_with}
use Rattle.sd_base.specs.Sink.{told_then}
use Rattle.sd_model.specs.Circuit.{Circuit}
use Rattle.sd_model.specs.Expression.{Expression, AreOneFunction}
use Rattle.sd_model.specs.StartTrees.{balanced_tree, right_tree, left_tree}
use Rattle.sd_model.specs.Tree.{Tree, IsVtree, leaves}
use Rattle.sd_model.specs.Diagram.{Diagram}
use Rattle.sd_model.specs.Size.{IsDiagramOf, size_of}
use Rattle.sd_model.specs.Text.{sdd_text, roots_text, vtree_text}
use Rattle.sd_model.proofs.Determined.{diagram_determined}
use Rattle.sd_formula.specs.Dimacs.{Groups, dimacs}
use Rattle.sd_formula.specs.Formulas.{expression_of}
use Rattle.sd_formula.specs.Generated.{generated_formula}
use Rattle.sd_formula.specs.declared.formula.Kind.TheVariants as kinds
use Rattle.sd_vfile.specs.Reads.{vtree_file}
use Rattle.sd_manager.specs.Table.{Table}
use Rattle.sd_words.specs.Fitting.{IsFormulaWord}
use Rattle.sd_words.specs.JobOf.{job_of, job_of_parsed}
use Rattle.sd_words.specs.Numbers.{count_and_seed, number_of_text}
use Rattle.sd_words.specs.Ordinary.{Setting, setting_of}
use Rattle.sd_words.proofs.OrdinaryLaw.{ordinary_values_kept}
use Rattle.sd_words.specs.declared.jobs.Job.{Job}
use Rattle.sd_words.specs.declared.jobs.InputWord.{InputWord}
use Rattle.sd_words.specs.declared.jobs.InputWord.TheVariants as inputs
use Rattle.sd_words.specs.declared.jobs.TreeWord.{TreeWord}
use Rattle.sd_words.specs.declared.jobs.TreeWord.TheVariants as trees
use Rattle.sd_commands.specs.Effects.{Effect, Write, Print}
use Rattle.sd_commands.specs.Commands.{Grows, State, Done, Steps, IsTextOf, with_name, formula_named, size_line}
use Rattle.sd_commands.specs.Commands.{generated_line, no_circuit, search_line, formulas_of}
use Rattle.sd_commands.specs.Standing.{start}
use Rattle.sd_commands.specs.declared.command.NumberedCommand.{NumberedCommand}
use Rattle.sd_commands.specs.declared.command.RunCommand.{RunCommand}
use Rattle.sd_commands.specs.declared.command.RunCommand.TheVariants as commands
use Rattle.sd_commands.proofs.Outcomes.{input_done, grows_valid}
use Rattle.sd_commands.proofs.Searched.{search_valid}
use Rattle.sd_search.specs.Search.{Found, IsSearch}
use Rattle.sd_tool.specs.Effects.{Contents}
use Rattle.sd_tool.specs.Readings.{Point, Refuses, Reads, Stands, IsText}
use Rattle.sd_tool.specs.inside.Plans.{Plan, point_of, plan_for}
use Rattle.sd_tool.specs.inside.Readings.{Text}
use Rattle.sd_tool.specs.inside.Course.{ReadsTo, MayEnd, after_effects}
use Rattle.sd_tool.specs.inside.Readings.{Input, with_job, with_input, with_formula_reading, with_vtree_reading}
use Rattle.sd_tool.specs.Readings.{reading_of, with_input_word, with_tree_word}
use Rattle.sd_tool.specs.Readings.{with_tree, with_commands, default_of}
use Rattle.sd_tool.specs.inside.Readings.{in_lines, for_file}
use Rattle.sd_tool.specs.Readings.{announcement, choice, first_state}
use Rattle.sd_tool.specs.inside.Readings.{search_of}
use Rattle.sd_tool.specs.Ends.{Finished}
use Rattle.sd_tool.specs.Devices.{Seen}
use Rattle.sd_tool.specs.Laws.{ArePlain, HasWritten, HasWrittenValues}
use Rattle.sd_tool.specs.Course.{Goes, Course}
use Rattle.sd_tool.specs.Texts.{WritesAt}
use Rattle.sd_tool.specs.inside.ByStatus.{IsOneCourse}
use Rattle.sd_tool.specs.Written.{ReadsAs, IsFormulaOf, IsPlainJob, IsStartTree, IsWritten, IsWrittenFrom, PlainRun}
use Rattle.sd_tool.specs.Written.{with_output, with_announcement, IsFound, WritesInput, WritesJob}
use Rattle.sd_tool.proofs.AskLemmas.{by_reads_to}
use Rattle.sd_tool.proofs.ByStatus.{effects_at}
use Rattle.sd_tool.proofs.OneCourse.{steps_valid, whole_plan}
use Rattle.sd_tool.proofs.OnePoint.{one_plan_at}
use Rattle.sd_tool.proofs.SoundReadings.{valid_start}
use Rattle.sd_tool.proofs.RootsTexts.{texts_of_roots}
use Rattle.sd_tool.proofs.Walks.{all_of, commands_back}

-- a plan is that of an input and its tree, with the stated commands
pub record FromInput (words : List (List ℕ)) (files : Files) (job : Job) (plan : Plan) : Type 0 where
  pub formula : Groups
  pub tree : Tree
  pub named : job_of words ≡ Ok job
  pub input : IsFormulaOf files job.input formula
  pub start : IsStartTree files job.tree formula.variables tree
  pub is : plan ≡ plan_for job formula no_circuit tree (default_of job 0)

-- a plan over a tree is that of this tree
from_tree : (told : Option Files) (job : Job) (f : Groups) (circuit : Circuit) (tree : Tree) (plan : Plan)
    → job.script ≡ None → ReadsTo told (with_tree job f circuit tree) (point_of plan)
    → plan ≡ plan_for job f circuit tree (default_of job (length circuit.outputs))
from_tree told job f circuit tree plan alone p =
    let o = length circuit.outputs in
    let begin = λ (l : List NumberedCommand). point_of (plan_for job f circuit tree l) in
    let is : point_of plan ≡ point_of (plan_for job f circuit tree (default_of job o)) =
    subst (λ script. ReadsTo told (with_commands job f.variables o begin script) (point_of plan)) alone p in
    one_plan_at plan (plan_for job f circuit tree (default_of job o)) is

-- a plan after a formula and a circuit, with its tree
pub record FromTree (files : Files) (job : Job) (f : Groups) (circuit : Circuit) (plan : Plan) : Type 0 where
  pub tree : Tree
  pub start : IsStartTree files job.tree f.variables tree
  pub is : plan ≡ plan_for job f circuit tree (default_of job (length circuit.outputs))

-- a tree of the word is the tree of the plan
found_tree : (files : Files) (job : Job) (f : Groups) (circuit : Circuit) (plan : Plan) (word : TreeWord) (tree : Tree)
    → job.tree ≡ word → job.script ≡ None → IsStartTree files word f.variables tree
    → ReadsTo (Some files) (with_tree job f circuit tree) (point_of plan) → FromTree files job f circuit plan
found_tree files job f circuit plan word tree e alone start p = record {
  tree = tree;
  start = subst (λ w. IsStartTree files w f.variables tree) (sym e) start;
  is = from_tree (Some files) job f circuit tree plan alone p;
}

pub from_word : (files : Files) (job : Job) (f : Groups) (circuit : Circuit) (plan : Plan) (word : TreeWord)
    → job.tree ≡ word → job.script ≡ None
    → ReadsTo (Some files) (with_tree_word job f circuit word) (point_of plan) → FromTree files job f circuit plan
from_word files job f circuit plan trees.Balanced e alone p =
    found_tree files job f circuit plan trees.Balanced (balanced_tree f.variables) e alone refl p
from_word files job f circuit plan trees.Right e alone p =
    found_tree files job f circuit plan trees.Right (right_tree f.variables) e alone refl p
from_word files job f circuit plan trees.Left e alone p =
    found_tree files job f circuit plan trees.Left (left_tree f.variables) e alone refl p
from_word files job f circuit plan (trees.File file) e alone (inl p) = let bad : ⊥ = cc in absurd bad
from_word files job f circuit plan (trees.File file) e alone (inr (None, has, p)) = let bad : ⊥ = cc in absurd bad
from_word files job f circuit plan (trees.File file) e alone (inr (Some bytes, has, p)) =
    go (vtree_file f.variables bytes) refl p
  where
    go : (reading : Result Tree (List ℕ)) → vtree_file f.variables bytes ≡ reading
        → ReadsTo (Some files) (with_vtree_reading job f circuit file reading) (point_of plan)
        → FromTree files job f circuit plan
    go (Err fault) is p = let bad : ⊥ = cc in absurd bad
    go (Ok tree) is p =
        found_tree files job f circuit plan (trees.File file) tree e alone (bytes, has.0, has.1, is) p

-- a plan is made of a formula
from_formula : (files : Files) (job : Job) (file : List ℕ) (formula : Result Groups (List ℕ)) (plan : Plan)
    → job.script ≡ None → ReadsTo (Some files) (with_formula_reading job file formula) (point_of plan)
    → (f : Groups) × (formula ≡ Ok f) × FromTree files job f no_circuit plan
from_formula files job file (Err fault) plan alone p = let bad : ⊥ = cc in absurd bad
from_formula files job file (Ok formula) plan alone p =
    (formula, refl, from_word files job formula no_circuit plan job.tree refl alone p)

-- a formula of a word, and a plan that begins with it
record FromWord (files : Files) (job : Job) (word : InputWord) (plan : Plan) : Type 0 where
  formula : Groups
  of_word : IsFormulaOf files word formula
  from : FromTree files job formula no_circuit plan

-- the text of a formula file
from_text : (files : Files) (job : Job) (input : Input) (plan : Plan) (text : Text) → job.script ≡ None
    → IsText (Some files) input.file text → ReadsTo (Some files) (with_input job input text) (point_of plan)
    → (formula : Groups) × ReadsAs files input.file (dimacs input.kind) formula
    × FromTree files job formula no_circuit plan
from_text files job input plan None alone has p = let bad : ⊥ = cc in absurd bad
from_text files job input plan (Some bytes) alone has p =
    let found = from_formula files job input.file (dimacs input.kind bytes) plan alone p in (
      found.0,
      (bytes, has.0, has.1, found.1),
      found.2,
    )

-- the formula of a word
from_job : (files : Files) (job : Job) (plan : Plan) (word : InputWord) → job.script ≡ None → IsFormulaWord word
    → ReadsTo (Some files) (with_input_word job word) (point_of plan) → FromWord files job word plan
from_job files job plan (inputs.Cnf file) alone asks (inl p) = let bad : ⊥ = cc in absurd bad
from_job files job plan (inputs.Dnf file) alone asks (inl p) = let bad : ⊥ = cc in absurd bad
from_job files job plan (inputs.Cnf file) alone asks (inr p) =
    let found = from_text files job (record { kind = kinds.Cnf; file = file }) plan p.0 alone p.1 p.2 in
    record { formula = found.0; of_word = found.1; from = found.2 }
from_job files job plan (inputs.Dnf file) alone asks (inr p) =
    let found = from_text files job (record { kind = kinds.Dnf; file = file }) plan p.0 alone p.1 p.2 in
    record { formula = found.0; of_word = found.1; from = found.2 }
from_job files job plan (inputs.Aag file) alone asks p = absurd asks
from_job files job plan (inputs.Check file) alone asks p = absurd asks
from_job files job plan (inputs.Generate count seed) alone asks p = record {
  formula = generated_formula count seed;
  of_word = refl;
  from = from_word files job (generated_formula count seed) no_circuit plan job.tree refl alone p;
}

-- the plan of the readings comes from the input
from_input : (words : List (List ℕ)) (files : Files) (job : Job) (plan : Plan) → job_of words ≡ Ok job
    → job.script ≡ None → IsFormulaWord job.input → ReadsTo (Some files) (reading_of words) (point_of plan)
    → FromInput words files job plan
from_input words files job plan named alone asks p =
    let found = from_job files job plan job.input alone asks
    (subst (λ j. ReadsTo (Some files) (with_job j) (point_of plan)) named p) in
    record {
      formula = found.formula;
      tree = found.from.tree;
      named = named;
      input = found.of_word;
      start = found.from.start;
      is = found.from.is;
    }

-- ---- all commands done

-- what is written where there is a name for it
abbrev pub writes_to : Option (List ℕ) → List ℕ → List Effect
writes_to None bytes = []
writes_to (Some file) bytes = Write file bytes ∷ []

-- what the commands of a plan do, where name 0 is bound
record AllDone (state : State) (out_vtree out_sdd : Option (List ℕ)) (effects : List Effect) : Type 0 where
  diagram : Diagram
  of_value : IsDiagramOf state.tree (formula_named state 0) diagram
  are : effects
      ≡ writes_to out_vtree (vtree_text state.tree) ++ writes_to out_sdd (sdd_text diagram)
      ++ Print (size_line (size_of (diagram ∷ []))) ∷ []

-- a first command with one effect, and the others after it
record Before (input : Groups) (state last : State) (rest : List NumberedCommand) (effect : Effect)
    (effects : List Effect)
    : Type 0 where
  others : List Effect
  steps : Steps input state rest others last
  are : effects ≡ effect ∷ others

first_done : (input : Groups) (state mid last : State) (rest : List NumberedCommand) (effect : Effect)
    (first others effects : List Effect) → Done mid first ≡ Done state (effect ∷ [])
    → Steps input mid rest others last → effects ≡ first ++ others → Before input state last rest effect effects
first_done input state mid last rest effect first others effects done steps is =
    let same : mid ≡ state = cc in
    let wrote : first ≡ effect ∷ [] = cc in record {
      others = others;
      steps = subst (λ s. Steps input s rest others last) same steps;
      are = is ∙ ap (λ (l : List Effect). l ++ others) wrote;
    }

vtree_done : (input : Groups) (state last : State) (line : ℕ) (file : List ℕ) (rest : List NumberedCommand)
    (effects : List Effect)
    → Steps input state (record { line = line; command = commands.WriteVtree file } ∷ rest) effects last
    → Before input state last rest (Write file (vtree_text state.tree)) effects
vtree_done input state last line file rest effects (mid, first, others, step, steps, is) =
    first_done input state mid last rest _ first others effects step steps is

diagram_done : (input : Groups) (state last : State) (line : ℕ) (file : List ℕ) (rest : List NumberedCommand)
    (effects : List Effect)
    → Steps input state (record { line = line; command = commands.Write (0 ∷ []) file } ∷ rest) effects last
    → (text : List ℕ) × IsTextOf state.tree (formula_named state 0 ∷ []) text
    × Before input state last rest (Write file text) effects
diagram_done input state last line file rest effects (mid, first, others, step, steps, is) =
    (step.0, step.1, first_done input state mid last rest _ first others effects step.2 steps is)

pub one_diagram : (t : Tree) (f : Expression) (ds : List Diagram) → AllZip (IsDiagramOf t) (f ∷ []) ds
    → (d : Diagram) × IsDiagramOf t f d × (ds ≡ d ∷ [])
one_diagram t f [] p = absurd p
one_diagram t f (d ∷ []) p = (d, p.0, refl)
one_diagram t f (d ∷ e ∷ ds) p = absurd p.1

-- the size is printed last
size_done : (input : Groups) (state last : State) (line : ℕ) (effects : List Effect)
    → Steps input state (in_lines line (commands.Size 0 ∷ [])) effects last
    → (d : Diagram) × IsDiagramOf state.tree (formula_named state 0) d
    × (effects ≡ Print (size_line (size_of (d ∷ []))) ∷ [])
size_done input state last line effects (mid, first, others, step, steps, is) =
    let before = first_done input state mid last [] _ first others effects step.2 steps is in
    let found = one_diagram state.tree (formula_named state 0) step.1.diagrams step.1.each in
    let size : step.0 ≡ size_of (found.0 ∷ []) = sym step.1.size ∙ ap size_of found.2 in (
      found.0,
      found.1,
      before.are
          ∙ ap (λ (l : List Effect). Print (size_line step.0) ∷ l) before.steps.0
          ∙ ap (λ n. Print (size_line n) ∷ []) size,
    )

-- the text of one root is that of its diagram
pub single_text : (tree : Tree) (f : Expression) (text : List ℕ) → IsTextOf tree (f ∷ []) text
    → (d : Diagram) × IsDiagramOf tree f d × (text ≡ sdd_text d)
unfolding sdd_text
single_text tree f text is =
    let one = one_diagram tree f is.diagrams is.of_values in
    (one.0, one.1, is.is ∙ ap roots_text one.2)

-- the written text is that of the diagram whose size was printed
same_text : (tree : Tree) (f : Expression) (d : Diagram) (text : List ℕ) → IsVtree tree → IsTextOf tree (f ∷ []) text
    → IsDiagramOf tree f d → text ≡ sdd_text d
same_text tree f d text valid is of_value =
    let one = single_text tree f text is in
    one.2 ∙ ap sdd_text (diagram_determined tree f one.0 d valid one.1 of_value)

diagram_and_size : (input : Groups) (state last : State) (line : ℕ) (file : List ℕ) (effects : List Effect)
    → IsVtree state.tree
    → Steps input state (in_lines line (commands.Write (0 ∷ []) file ∷ commands.Size 0 ∷ [])) effects last
    → AllDone state None (Some file) effects
diagram_and_size input state last line file effects valid p =
    let one = diagram_done input state last line file (in_lines (line + 1) (commands.Size 0 ∷ [])) effects p in
    let two = size_done input state last (line + 1) one.2.others one.2.steps in record {
      diagram = two.0;
      of_value = two.1;
      are = one.2.are ∙ ap (λ (l : List Effect). Write file one.0 ∷ l) two.2
          ∙ ap (λ text. Write file text ∷ Print (size_line (size_of (two.0 ∷ []))) ∷ [])
          (same_text state.tree (formula_named state 0) two.0 one.0 valid one.1 two.1);
    }

size_alone : (input : Groups) (state last : State) (line : ℕ) (effects : List Effect)
    → Steps input state (in_lines line (commands.Size 0 ∷ [])) effects last → AllDone state None None effects
size_alone input state last line effects p =
    let two = size_done input state last line effects p in
    record { diagram = two.0; of_value = two.1; are = two.2 }

-- the stated commands after the first, one after another
all_done : (input : Groups) (state last : State) (line : ℕ) (out_vtree out_sdd : Option (List ℕ))
    (effects : List Effect) → IsVtree state.tree
    → Steps input state
    (in_lines line
    (for_file commands.WriteVtree out_vtree ++ for_file (commands.Write (0 ∷ [])) out_sdd ++ commands.Size 0 ∷ []))
    effects last
    → AllDone state out_vtree out_sdd effects
all_done input state last line None None effects valid p = size_alone input state last line effects p
all_done input state last line None (Some file) effects valid p =
    diagram_and_size input state last line file effects valid p
all_done input state last line (Some file) None effects valid p =
    let one = vtree_done input state last line file (in_lines (line + 1) (commands.Size 0 ∷ [])) effects p in
    let rest = size_alone input state last (line + 1) one.others one.steps in record {
      diagram = rest.diagram;
      of_value = rest.of_value;
      are = one.are ∙ ap (λ (l : List Effect). Write file (vtree_text state.tree) ∷ l) rest.are;
    }
all_done input state last line (Some file) (Some other) effects valid p =
    let one = vtree_done input state last line file
    (in_lines (line + 1) (commands.Write (0 ∷ []) other ∷ commands.Size 0 ∷ [])) effects p in
    let rest = diagram_and_size input state last (line + 1) other one.others valid one.steps in record {
      diagram = rest.diagram;
      of_value = rest.of_value;
      are = one.are ∙ ap (λ (l : List Effect). Write file (vtree_text state.tree) ∷ l) rest.are;
    }

-- name 0 is bound to the input first, without an effect, over the tree to which its groups lead
pub record AfterInput (input : Groups) (state last : State) (rest : List NumberedCommand) (effects : List Effect)
    : Type 0 where
  pub grown : Tree
  pub course : Grows input state (length input.groups) grown
  pub steps : Steps input (with_name (record state { tree = grown }) 0 (expression_of input)) rest effects last

pub after_input : (input : Groups) (state last : State) (line : ℕ) (rest : List NumberedCommand) (effects : List Effect)
    → Steps input state (record { line = line; command = commands.Input 0 } ∷ rest) effects last
    → AfterInput input state last rest effects
after_input input state last line rest effects (mid, first, others, step, steps, is) =
    let done = input_done input state mid 0 first step in
    let all : effects ≡ others = is ∙ ap (λ (l : List Effect). l ++ others) done.quiet in
    let bound = with_name (record state { tree = done.tree }) 0 (expression_of input) in
    record {
      grown = done.tree;
      course = done.course;
      steps = subst (λ l. Steps input bound rest l last) (sym all)
          (subst (λ s. Steps input s rest others last) done.next_is steps);
    }

-- ---- the search of the words

-- what it leaves and prints, where the words ask for one
abbrev SearchDone : Option ℕ → State → Tree → List Effect → Type 0
SearchDone None state tree effects = (tree ≡ state.tree) × (effects ≡ [])
SearchDone (Some rounds) state tree effects =
    (result : Found) × IsSearch (formulas_of state) state.slack rounds state.tree result × (tree ≡ result.tree)
    × (effects ≡ Print (search_line result.before result.after result.rounds) ∷ [])

-- it is done first, and the others after it
record AfterSearch (input : Groups) (state last : State) (rounds : Option ℕ) (rest : List RunCommand)
    (effects : List Effect)
    : Type 0 where
  tree : Tree
  line : ℕ
  before : List Effect
  others : List Effect
  search : SearchDone rounds state tree before
  steps : Steps input (record state { tree = tree }) (in_lines line rest) others last
  are : effects ≡ before ++ others

after_search : (input : Groups) (state last : State) (rounds : Option ℕ) (rest : List RunCommand)
    (effects : List Effect)
    → Steps input state (in_lines 2 (search_of rounds ++ rest)) effects last
    → AfterSearch input state last rounds rest effects
after_search input state last None rest effects p = record {
  tree = state.tree;
  line = 2;
  before = [];
  others = effects;
  search = (refl, refl);
  steps = p;
  are = refl;
}
after_search input state last (Some rounds) rest effects (mid, first, others, step, steps, is) =
    let found = step.0 in
    let e : Done mid first ≡ Done (record state { tree = found.tree })
    (Print (search_line found.before found.after found.rounds) ∷ []) = step.2 in
    let same : mid ≡ record state { tree = found.tree } = cc in
    let printed : first ≡ Print (search_line found.before found.after found.rounds) ∷ [] = cc in
    record {
      tree = found.tree;
      line = 3;
      before = first;
      others = others;
      search = (found, step.1, refl, printed);
      steps = subst (λ s. Steps input s (in_lines 3 rest) others last) same steps;
      are = is;
    }

-- the tree that it leaves is a vtree
searched_valid : (rounds : Option ℕ) (state : State) (tree : Tree) (effects : List Effect) → IsVtree state.tree
    → SearchDone rounds state tree effects → IsVtree tree
searched_valid None state tree effects valid done = subst IsVtree (sym done.0) valid
searched_valid (Some rounds) state tree effects valid done = subst IsVtree (sym done.2) (search_valid valid done.1)

-- what is printed with its line
abbrev told_behind : List Effect → Option (List ℕ) → Option (List ℕ)
told_behind [] printed = printed
told_behind (Print line ∷ effects) printed = told_behind effects (told_then printed line)
told_behind (Write file bytes ∷ effects) printed = told_behind effects printed

-- what the others leave, they leave behind the line
after_searched : (rounds : Option ℕ) (state : State) (tree : Tree) (before others : List Effect) (old : Contents)
    → SearchDone rounds state tree before
    → after_effects (before ++ others) old
    ≡ after_effects others (record old { printed = told_behind before old.printed })
after_searched None state tree before others old done =
    subst (λ l. after_effects (l ++ others) old
    ≡ after_effects others (record old { printed = told_behind l old.printed }))
    (sym done.1) refl
after_searched (Some rounds) state tree before others old done =
    subst (λ l. after_effects (l ++ others) old
    ≡ after_effects others (record old { printed = told_behind l old.printed }))
    (sym done.3) refl

-- the search is that of the formula
found_by : (rounds : Option ℕ) (state : State) (f : Expression) (tree : Tree) (before : List Effect)
    (printed : Option (List ℕ)) → formulas_of state ≡ f ∷ [] → SearchDone rounds state tree before
    → IsFound rounds state.slack f state.tree printed tree (told_behind before printed)
found_by None state f tree before printed only done = (done.0, ap (λ l. told_behind l printed) done.1)
found_by (Some rounds) state f tree before printed only done = (
  done.0,
  subst (λ fs. IsSearch fs state.slack rounds state.tree done.0) only done.1,
  done.2,
  ap (λ l. told_behind l printed) done.3,
)

-- the files after the commands
files_after : (out_vtree out_sdd : Option (List ℕ)) (vtree diagram line : List ℕ) (old : Contents) (files : Files)
    → old.files ≡ Some files
    → (after_effects (writes_to out_vtree vtree ++ writes_to out_sdd diagram ++ Print line ∷ []) old).files
    ≡ Some (with_output out_sdd diagram (with_output out_vtree vtree files))
files_after None None vtree diagram line old files told = told
files_after None (Some file) vtree diagram line old files told = ap (λ f. told_with f file diagram) told
files_after (Some file) None vtree diagram line old files told = ap (λ f. told_with f file vtree) told
files_after (Some file) (Some other) vtree diagram line old files told =
    ap (λ f. told_with (told_with f file vtree) other diagram) told

-- what is printed after them
printed_after : (out_vtree out_sdd : Option (List ℕ)) (vtree diagram line : List ℕ) (old : Contents)
    → (after_effects (writes_to out_vtree vtree ++ writes_to out_sdd diagram ++ Print line ∷ []) old).printed
    ≡ told_then old.printed line
printed_after None None vtree diagram line old = refl
printed_after None (Some file) vtree diagram line old = refl
printed_after (Some file) None vtree diagram line old = refl
printed_after (Some file) (Some other) vtree diagram line old = refl

-- ---- the line of a generated formula

-- the effect before all others
abbrev pub announces : InputWord → Groups → List Effect
announces (inputs.Generate count seed) formula =
    Print (generated_line formula.variables (length formula.groups)) ∷ []
announces word formula = []

-- the commands behind it, done
record Announced (input : Groups) (state last : State) (word : InputWord) (formula : Groups)
    (rest : List NumberedCommand) (effects : List Effect)
    : Type 0 where
  others : List Effect
  steps : Steps input state rest others last
  are : effects ≡ announces word formula ++ others

announced_done : (input : Groups) (state last : State) (word : InputWord) (formula : Groups)
    (rest : List NumberedCommand) (effects : List Effect)
    → Steps input state (announcement word formula ++ rest) effects last
    → Announced input state last word formula rest effects
announced_done input state last (inputs.Cnf file) formula rest effects p =
    record { others = effects; steps = p; are = refl }
announced_done input state last (inputs.Dnf file) formula rest effects p =
    record { others = effects; steps = p; are = refl }
announced_done input state last (inputs.Aag file) formula rest effects p =
    record { others = effects; steps = p; are = refl }
announced_done input state last (inputs.Check file) formula rest effects p =
    record { others = effects; steps = p; are = refl }
announced_done input state last (inputs.Generate count seed) formula rest effects p =
    let done = first_done input state p.0 last rest _ p.1 p.2 effects p.3 p.4 p.5 in
    record { others = done.others; steps = done.steps; are = done.are }

-- what the others leave, they leave behind the line
after_announced : (word : InputWord) (formula : Groups) (effects : List Effect) (old : Contents)
    → after_effects (announces word formula ++ effects) old
    ≡ after_effects effects (record old { printed = with_announcement word formula old.printed })
after_announced (inputs.Cnf file) formula effects old = refl
after_announced (inputs.Dnf file) formula effects old = refl
after_announced (inputs.Aag file) formula effects old = refl
after_announced (inputs.Check file) formula effects old = refl
after_announced (inputs.Generate count seed) formula effects old = refl

-- the state of a plan once its formula is bound, over this tree
abbrev pub compiled : Job → Groups → Tree → State
compiled job formula tree = with_name (start tree job.limit job.slack job.every) 0 (expression_of formula)

-- the commands behind the search
grouped : (rounds : Option ℕ) (vtree sdd : Option (List ℕ))
    → search_of rounds ++ for_file commands.WriteVtree vtree ++ for_file (commands.Write (0 ∷ [])) sdd ++
    commands.Size 0 ∷ []
    ≡ search_of rounds
    ++ (for_file commands.WriteVtree vtree ++ for_file (commands.Write (0 ∷ [])) sdd ++ commands.Size 0 ∷ [])
grouped None vtree sdd = refl
grouped (Some rounds) vtree sdd = refl

-- the stated lines behind those that bind the formula
abbrev pub lines_behind : Job → List NumberedCommand
lines_behind job = in_lines 2
    (search_of job.minimise ++ for_file commands.WriteVtree job.out_vtree ++ for_file (commands.Write (0 ∷ []))
    job.out_sdd
    ++ commands.Size 0 ∷ [])

-- they write the formula over a tree
pub writes_from : (files : Files) (job : Job) (formula input : Groups) (tree : Tree) (last : State)
    (effects : List Effect) (begun new : Contents) → IsVtree tree → begun.files ≡ Some files
    → Steps input (compiled job formula tree) (lines_behind job) effects last → new ≡ after_effects effects begun
    → IsWrittenFrom files job formula tree begun.printed new
writes_from files job formula input tree last effects begun new valid there steps is =
    let state = compiled job formula tree in
    let written : List RunCommand =
    for_file commands.WriteVtree job.out_vtree ++ for_file (commands.Write (0 ∷ [])) job.out_sdd ++ commands.Size 0
    ∷ [] in
    let searched = after_search input state last job.minimise written effects
    (subst (λ cs. Steps input state (in_lines 2 cs) effects last) (grouped job.minimise job.out_vtree job.out_sdd)
    steps) in
    let done = all_done input (record state { tree = searched.tree }) last searched.line job.out_vtree job.out_sdd
    searched.others (searched_valid job.minimise state searched.tree searched.before valid searched.search)
    searched.steps in
    let told = told_behind searched.before begun.printed in
    let mid : Contents = record begun { printed = told } in
    let now = is ∙ ap (λ l. after_effects l begun) searched.are
    ∙ after_searched job.minimise state searched.tree searched.before searched.others begun searched.search
    ∙ ap (λ l. after_effects l mid) done.are in
    record {
      found = searched.tree;
      told = told;
      search = found_by job.minimise state (expression_of formula) searched.tree searched.before begun.printed refl
          searched.search;
      diagram = done.diagram;
      of_formula = done.of_value;
      files_are = ap (λ (o : Contents). o.files) now
          ∙ files_after job.out_vtree job.out_sdd (vtree_text searched.tree) (sdd_text done.diagram) _ mid files there;
      printed_is = ap (λ (o : Contents). o.printed) now
          ∙ printed_after job.out_vtree job.out_sdd (vtree_text searched.tree) (sdd_text done.diagram) _ mid;
    }

-- without parts and a choice the formula is bound as a whole
pub plain_lines : (job : Job) → IsPlainJob job
    → choice job ++ default_of job 0 ≡ record { line = 1; command = commands.Input 0 } ∷ lines_behind job
plain_lines job plain =
    ap (λ (b : Bool). (if b then record { line = 1; command = commands.Choose job.minimise } ∷ [] else [])
    ++ default_of job 0) plain.settled
    ∙ ap (λ (parts : Option ℕ). record {
      line = 1;
      command = option_map_or (commands.InputByParts 0) parts (commands.Input 0);
    } ∷ lines_behind job) plain.whole

-- what a plan of an input does behind its opening line
pub record Opened (words : List (List ℕ)) (files : Files) (job : Job) (plan : Plan) (last : State) (old new : Contents)
    (from : FromInput words files job plan)
    : Type 0 where
  pub valid : IsVtree from.tree
  pub effects : List Effect
  pub steps : Steps from.formula (first_state job from.tree no_circuit) (choice job ++ default_of job 0) effects last
  pub is : new ≡ after_effects effects (record old { printed = with_announcement job.input from.formula old.printed })

opened : (words : List (List ℕ)) (files : Files) (job : Job) (plan : Plan) (last : State) (effects : List Effect)
    (old new : Contents) (from : FromInput words files job plan) → IsVtree plan.start.tree
    → Steps plan.input plan.start plan.commands effects last → new ≡ after_effects effects old
    → Opened words files job plan last old new from
opened words files job plan last effects old new from valid steps is =
    let own = plan_for job from.formula no_circuit from.tree (default_of job 0) in
    let told_of = announced_done own.input own.start last job.input from.formula (choice job ++ default_of job 0)
    effects (subst (λ (p : Plan). Steps p.input p.start p.commands effects last) from.is steps) in
    record {
      valid = subst (λ (p : Plan). IsVtree p.start.tree) from.is valid;
      effects = told_of.others;
      steps = told_of.steps;
      is = is ∙ ap (λ l. after_effects l old) told_of.are
          ∙ after_announced job.input from.formula told_of.others old;
    }

-- what a plan of an input does
plan_writes : (words : List (List ℕ)) (files : Files) (job : Job) (plan : Plan) (last : State)
    (old new : Contents) → old.files ≡ Some files → (from : FromInput words files job plan) → IsPlainJob job
    → Opened words files job plan last old new from → IsWritten files job from.formula from.tree old new
plan_writes words files job plan last old new there from plain begun =
    let first = first_state job from.tree no_circuit in
    let bound = after_input from.formula first last 1 (lines_behind job) begun.effects
    (subst (λ l. Steps from.formula first l begun.effects last) (plain_lines job plain) begun.steps) in
    record {
      grown = bound.grown;
      course = bound.course;
      writes = writes_from files job from.formula from.formula bound.grown last begun.effects
          (record old { printed = with_announcement job.input from.formula old.printed }) new
          (grows_valid from.formula first (length from.formula.groups) bound.grown begun.valid bound.course) there
          bound.steps begun.is;
    }

-- where all is done, the plan of the words and files wrote something of its input
pub done_of_input : (words : List (List ℕ)) (status : ℕ) (kept : Option Table) (seen : Seen) (files : Files) (job : Job)
    → IsOneCourse words status kept seen → status ≡ 0 → seen.old.contents.files ≡ Some files → job_of words ≡ Ok job
    → job.script ≡ None → IsFormulaWord job.input
    → (plan : Plan) × (last : State) × (from : FromInput words files job plan)
    × Opened words files job plan last seen.old.contents seen.new.contents from
done_of_input words status kept seen files job went zero_ told named alone asks =
    let all = (effects_at words status kept seen went).all zero_ in
    go all.0 (subst (λ f. MayEnd words f all.0 Finished) told all.1) all.2
  where
    go : (effects : List Effect) → MayEnd words (Some files) effects Finished
        → seen.new.contents ≡ after_effects effects seen.old.contents
        → (plan : Plan) × (last : State) × (from : FromInput words files job plan)
        × Opened words files job plan last seen.old.contents seen.new.contents from
    go effects (inl p) is = absurd p.0
    go effects (inr p) is =
        let from = from_input words files job p.0 named alone asks p.1 in (
          p.0,
          p.2.0,
          from,
          opened words files job p.0 p.2.0 effects seen.old.contents seen.new.contents from
              (valid_start (Some files) words p.0 p.1) (whole_plan p.0 p.2.0 effects p.2.1) is,
        )

-- at status 0 the formula of the job was written
wrote : (words : List (List ℕ)) (status : ℕ) (kept : Option Table) (seen : Seen) (files : Files) (job : Job)
    → IsOneCourse words status kept seen → status ≡ 0 → seen.old.contents.files ≡ Some files → job_of words ≡ Ok job
    → IsPlainJob job → IsFormulaWord job.input → WritesJob job files seen
wrote words status kept seen files job went zero_ told named plain asks =
    let done = done_of_input words status kept seen files job went zero_ told named plain.alone asks in
    let from = done.2 in (
      from.formula,
      from.input,
      from.tree,
      from.start,
      plan_writes words files job done.0 done.1 seen.old.contents seen.new.contents told from plain done.3,
    )

-- so that of the input
pub written_at : (words : List (List ℕ)) (status : ℕ) (kept : Option Table) (seen : Seen)
    → IsOneCourse words status kept seen → HasWritten words status seen
written_at words status kept seen went = λ zero_ plain. go plain.0 plain.1 plain.2 plain.3 plain.4
    (wrote words status kept seen plain.0 plain.1 went zero_ plain.2 plain.3 plain.4 plain.5)
  where
    go : (files : Files) (job : Job) → seen.old.contents.files ≡ Some files → job_of words ≡ Ok job
        → IsPlainJob job → WritesJob job files seen → (run : PlainRun words seen) × WritesInput run
    go files job told named plain (formula, input, tree, starts, writes) = (
      record {
        given = record {
          files = files;
          told = told;
          job = job;
          named = named;
          formula = formula;
          input = input;
          tree = tree;
          starts = starts;
        };
        plain = plain;
      },
      writes,
    )

-- ---- by the values of ordinary words

-- at status 0 the words have a job
has_job : (words : List (List ℕ)) (status : ℕ) (kept : Option Table) (seen : Seen)
    → IsOneCourse words status kept seen → status ≡ 0 → (job : Job) × (job_of words ≡ Ok job)
has_job words status kept seen went zero_ =
    let all = (effects_at words status kept seen went).all zero_ in
    go seen.old.contents.files (job_of words) refl all.0 all.1
  where
    go : (told : Option Files) (answer : Result Job (List ℕ)) → job_of words ≡ answer → (effects : List Effect)
        → MayEnd words told effects Finished → (job : Job) × (job_of words ≡ Ok job)
    go told (Ok job) is effects end = (job, is)
    go told (Err text) is effects (inl p) = absurd p.0
    go told (Err text) is effects (inr p) =
        let refused : point_of p.0 ≡ Refuses (1, text) =
        subst (λ j. ReadsTo told (with_job j) (point_of p.0)) is p.1 in
        let bad : ⊥ = cc in absurd bad

-- a job is plain where its options are
plain_values : (settings : List Setting) → ArePlain settings → IsPlainJob (job_of_parsed (setting_of settings))
unfolding job_of_parsed
plain_values settings plain = record {
  alone = plain.script;
  whole = ap (option_and_then (number_of_text (codes "parts"))) plain.parts;
  settled = ap is_some plain.portfolio;
}

-- and then it is of a formula
formula_of_values : (settings : List Setting) → ArePlain settings
    → IsFormulaWord (job_of_parsed (setting_of settings)).input
unfolding job_of_parsed
formula_of_values settings plain = by (setting_of settings (codes "cnf")) (setting_of settings (codes "dnf"))
    (setting_of settings (codes "aag")) (setting_of settings (codes "check"))
    (option_and_then count_and_seed (setting_of settings (codes "generate"))) plain.aag plain.check
  where
    by : (c d a k : Option (List ℕ)) (g : Option (ℕ × ℕ)) → a ≡ None → k ≡ None
        → IsFormulaWord (option_map_or inputs.Cnf c (option_map_or inputs.Dnf d (option_map_or inputs.Aag a
        (option_map_or inputs.Check k (option_map_or (λ g. inputs.Generate g.0 g.1) g (inputs.Generate 0 0))))))
    by (Some c) d a k g e f = tt
    by None (Some d) a k g e f = tt
    by None None (Some a) k g e f = let bad : ⊥ = cc in absurd bad
    by None None None (Some k) g e f = let bad : ⊥ = cc in absurd bad
    by None None None None (Some g) e f = tt
    by None None None None None e f = tt

-- at status 0 the formula of the values was written
pub values_written_at : (words : List (List ℕ)) (status : ℕ) (kept : Option Table) (seen : Seen)
    → IsOneCourse words status kept seen → HasWrittenValues words status seen
values_written_at words status kept seen went settings files zero_ spells plain told =
    let parsed = setting_of settings in
    let found = has_job words status kept seen went zero_ in
    let named : job_of words ≡ Ok (job_of_parsed parsed) =
    found.1 ∙ ap (λ (job : Job). Ok job) (ordinary_values_kept settings words found.0 spells found.1) in
    wrote words status kept seen files (job_of_parsed parsed) went zero_ told named (plain_values settings plain)
    (formula_of_values settings plain)

-- ---- equal texts

-- two texts for a vtree are equal exactly if their formulas are as many, and one function at each place
equal_to : (tree : Tree) (fs gs : List Expression) (a b : List ℕ) → IsVtree tree → IsTextOf tree fs a
    → IsTextOf tree gs b → (a ≡ b) ↔ AllZip (AreOneFunction (leaves tree)) fs gs
equal_to tree fs gs a b valid p q =
    subst (λ x. (x ≡ b) ↔ AllZip (AreOneFunction (leaves tree)) fs gs) (sym p.is)
    (subst (λ y. (roots_text p.diagrams ≡ y) ↔ AllZip (AreOneFunction (leaves tree)) fs gs) (sym q.is)
    (texts_of_roots tree fs gs p.diagrams q.diagrams valid p.of_values q.of_values))

-- a command that writes diagrams is come to over a vtree
writes_valid : (words : List (List ℕ)) (files : Option Files) (names : List (List ℕ)) (effects : List (List Effect))
    (point : Point) (tree : Tree) (fs : List Expression) (text : List ℕ)
    → Goes files (reading_of words) names effects point → WritesAt point tree fs text
    → IsVtree tree × IsTextOf tree fs text
writes_valid words files names effects (Refuses answer) tree fs text goes writes = absurd writes
writes_valid words files names effects (Reads file next) tree fs text goes writes = absurd writes
writes_valid words files names effects (Stands input state []) tree fs text goes writes = absurd writes
writes_valid words files names effects (Stands input state (next ∷ left)) tree fs text goes writes =
    let back = commands_back (λ requests. Unit {0}) files (reading_of words) names effects [] input state (next ∷ left)
    goes tt in
    let plan = back.plan in
    let valid = steps_valid plan.input plan.start state back.reaches.done (all_of effects)
    (valid_start files words plan (by_reads_to files (reading_of words) (point_of plan) back.led.names back.led.reads))
    back.reaches.steps in
    (subst IsVtree (sym writes.3) valid, writes.5)

-- and so for two writes to which a run may come
pub equal_texts : (words : List (List ℕ)) (files : Option Files) (one other : Course words files) (tree : Tree)
    (fs gs : List Expression) (a b : List ℕ) → WritesAt one.point tree fs a → WritesAt other.point tree gs b
    → (a ≡ b) ↔ AllZip (AreOneFunction (leaves tree)) fs gs
equal_texts words files one other tree fs gs a b first second =
    let left = writes_valid words files one.names one.effects one.point tree fs a one.goes first in
    let right = writes_valid words files other.names other.effects other.point tree gs b other.goes second in
    equal_to tree fs gs a b left.0 left.1 right.1
