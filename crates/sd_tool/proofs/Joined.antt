-- A run with a script of four lines writes the text of two formulas, joined.
use Rattle.std.proofs.Common.{◌≡◌, ℕ, false, List, [], ◌∷◌, ◌++◌, map, Option, Some, None, length}
use Rattle.std.proofs.Common.{Ok, inl, inr, refl, sym, ap, subst, ◌∙◌, codes, pos}
use Rattle.std.proofs.lemmas.Bool.{eq-eqb, ne_eqb}
use Rattle.std.specs.Option.{unwrap_or}
use Rattle.sd_base.specs.Files.{Files, told_with, with_file}
use Rattle.sd_model.specs.declared.trees.Operation.{Operation}
use Rattle.sd_model.specs.declared.trees.Operation.TheVariants.{And}
use Rattle.sd_model.specs.Expression.{Expression, Constant, Atom, Combined}
use Rattle.sd_model.specs.Diagram.{Diagram}
use Rattle.sd_model.specs.Size.{IsDiagramOf}
use Rattle.sd_model.specs.Text.{sdd_text}
use Rattle.sd_model.specs.Tree.{Tree}
use Rattle.sd_manager.specs.Table.{Table}
use Rattle.sd_formula.specs.Dimacs.{Groups}
use Rattle.sd_formula.specs.Formulas.{expression_of}
use Rattle.sd_script.specs.Scripts.{Script, script_of, see, number_of_word, command_of}
use Rattle.sd_script.specs.declared.command.Action.{Action}
use Rattle.sd_script.specs.declared.command.Action.TheVariants as actions
use Rattle.sd_script.specs.declared.command.Command.{Command as Line}
use Rattle.sd_words.proofs.Fitting.{job_fits_together}
use Rattle.sd_words.specs.declared.jobs.Job.{Job}
use Rattle.sd_words.specs.declared.jobs.TreeWord.{TreeWord}
use Rattle.sd_words.specs.declared.jobs.TreeWord.TheVariants as trees
use Rattle.sd_commands.specs.Effects.{Effect, Write}
use Rattle.sd_commands.specs.Commands.{State, Done, Step, Steps, IsTextOf, named, with_name, formula_named}
use Rattle.sd_commands.specs.Commands.{no_circuit}
use Rattle.sd_commands.specs.declared.command.NumberedCommand.{NumberedCommand}
use Rattle.sd_commands.specs.declared.command.RunCommand.{RunCommand}
use Rattle.sd_commands.specs.declared.command.RunCommand.TheVariants as commands
use Rattle.sd_commands.proofs.Outcomes.{settled_done, input_done, plain_growth}
use Rattle.sd_tool.specs.Effects.{Contents}
use Rattle.sd_tool.specs.Readings.{Point, Reads, reading_of}
use Rattle.sd_tool.specs.inside.Plans.{Plan, point_of, plan_for}
use Rattle.sd_tool.specs.inside.Course.{ReadsTo, MayEnd, after_effects}
use Rattle.sd_tool.specs.inside.Readings.{with_job, with_vtree_text, with_vtree_reading, with_script_text}
use Rattle.sd_tool.specs.Readings.{with_input_word, with_tree_word, with_tree, with_commands, with_lines}
use Rattle.sd_tool.specs.Readings.{with_action, announcement, file_name}
use Rattle.sd_tool.specs.inside.Readings.{in_line}
use Rattle.sd_tool.specs.inside.Readings.{with_script_reading, script_reading}
use Rattle.sd_tool.specs.Ends.{Finished}
use Rattle.sd_tool.specs.Devices.{Seen}
use Rattle.sd_tool.specs.Laws.{HasJoined}
use Rattle.sd_tool.specs.inside.ByStatus.{IsOneCourse}
use Rattle.sd_tool.specs.Written.{IsStartTree}
use Rattle.sd_tool.specs.Joined.{own_formula, JoinsTwo, FourLines}
use Rattle.sd_tool.specs.inside.Joined.{HasLinesOf}
use Rattle.sd_tool.proofs.ByStatus.{effects_at}
use Rattle.sd_tool.proofs.OneCourse.{whole_plan}
use Rattle.sd_tool.proofs.OnePoint.{one_point, one_plan_at}
use Rattle.sd_tool.proofs.OneRun.{formula_follows, ends_at_plan}
use Rattle.sd_tool.proofs.StillCommands.{is_move, AreStill}
use Rattle.sd_tool.proofs.InputLemmas.{no_choice}
use Rattle.sd_tool.proofs.PlainPlans.{formula_plan, formula_plan_is}
use Rattle.sd_tool.proofs.ReadingLemmas.{reads_on, reads_same}
use Rattle.sd_tool.proofs.WrittenLemmas.{single_text}

-- ---- the lines as commands

-- where a command is done, it leads to the state with one more name, without an effect
abbrev pub BindsName : Groups → State → RunCommand → ℕ → Expression → Type 0
BindsName input state command name f = (next : State) (effects : List Effect)
    → Step input state command (Done next effects) → (next ≡ with_name state name f) × (effects ≡ [])

-- a line that needs no other name is one command, which binds its name
record OwnLine (input : Groups) (action : Action) (name : ℕ) (f : Expression) : Type 0 where
  command : RunCommand
  still : is_move command ≡ false
  acts : (v : ℕ) (script : Script) (next : RunCommand → Point) → with_action v script next action ≡ next command
  binds : (state : State) → state.every ≡ None → BindsName input state command name f

-- an equal name is bound to an equal formula
binds_same : (input : Groups) (state : State) (command : RunCommand) (a b : ℕ × Expression) → Some a ≡ Some b
    → BindsName input state command a.0 a.1 → BindsName input state command b.0 b.1
binds_same input state command a b is binds =
    let same : a ≡ b = cc in subst (λ (p : ℕ × Expression). BindsName input state command p.0 p.1) same binds

own_line : (input : Groups) (action : Action) (name : ℕ) (f : Expression)
    → own_formula (expression_of input) action ≡ Some (name, f) → OwnLine input action name f
own_line input (actions.Input n) name f is = record {
  command = commands.Input n;
  still = refl;
  acts = λ v script next. refl;
  binds = λ state none. binds_same input state (commands.Input n) (n, expression_of input) (name, f) is
      (λ next effects step.
      let done = input_done input state next n effects step in
      let tree = plain_growth input state (length input.groups) done.tree none done.course in (
        done.next_is ∙ ap (λ t. with_name (record state { tree = t }) n (expression_of input)) tree,
        done.quiet,
      ));
}
own_line input (actions.Lit n literal) name f is = record {
  command = commands.Literal n literal;
  still = refl;
  acts = λ v script next. refl;
  binds = λ state none. binds_same input state (commands.Literal n literal) (n, Atom literal) (name, f) is
      (λ next effects step. settled_done (with_name state n (Atom literal)) next effects step);
}
own_line input (actions.Constant n value) name f is = record {
  command = commands.Constant n value;
  still = refl;
  acts = λ v script next. refl;
  binds = λ state none. binds_same input state (commands.Constant n value) (n, Constant value) (name, f) is
      (λ next effects step. settled_done (with_name state n (Constant value)) next effects step);
}
own_line input action name f is = let bad : ⊥ = cc in absurd bad

-- the commands of four lines
module _ (v : ℕ) (script : Script) (begin : List NumberedCommand → Point) where
  -- one line more
  line_more : (done : List NumberedCommand) (l : Line) (ls : List Line) (c : RunCommand)
      → ((next : RunCommand → Point) → with_action v script next l.action ≡ next c)
      → with_lines v script begin done (l ∷ ls) ≡ with_lines v script begin (done ++ in_line l c ∷ []) ls
  line_more done l ls c acts = acts (λ command. with_lines v script begin (done ++ in_line l command ∷ []) ls)

  four_lines : (k l m n : Line) (a b c d : RunCommand)
      → ((next : RunCommand → Point) → with_action v script next k.action ≡ next a)
      → ((next : RunCommand → Point) → with_action v script next l.action ≡ next b)
      → ((next : RunCommand → Point) → with_action v script next m.action ≡ next c)
      → ((next : RunCommand → Point) → with_action v script next n.action ≡ next d)
      → with_lines v script begin [] (k ∷ l ∷ m ∷ n ∷ [])
      ≡ begin (in_line k a ∷ in_line l b ∷ in_line m c ∷ in_line n d ∷ [])
  four_lines k l m n a b c d p q r s =
      line_more [] k (l ∷ m ∷ n ∷ []) a p ∙ line_more (in_line k a ∷ []) l (m ∷ n ∷ []) b q
      ∙ line_more (in_line k a ∷ in_line l b ∷ []) m (n ∷ []) c r
      ∙ line_more (in_line k a ∷ in_line l b ∷ in_line m c ∷ []) n [] d s

module _ (input : Groups) (script : Script) (two : HasLinesOf (expression_of input) script) where
  first_line : OwnLine input two.first.action two.f two.left
  first_line = own_line input two.first.action two.f two.left two.binds_f

  second_line : OwnLine input two.second.action two.g two.right
  second_line = own_line input two.second.action two.g two.right two.binds_g

  -- the commands of the script
  abbrev four_commands : List NumberedCommand
  four_commands =
      in_line two.first (own_line input two.first.action two.f two.left two.binds_f).command
      ∷ in_line two.second (own_line input two.second.action two.g two.right two.binds_g).command
      ∷ in_line two.third (commands.Combine two.operation two.h two.f two.g)
      ∷ in_line two.last (commands.Write (two.h ∷ []) (file_name script two.number)) ∷ []

  -- none of them moves the vtree
  four_still : AreStill four_commands
  four_still = (
    (own_line input two.first.action two.f two.left two.binds_f).still,
    ((own_line input two.second.action two.g two.right two.binds_g).still, (refl, (refl, tt))),
  )

  -- the four lines become these commands
  script_leads : (v : ℕ) (begin : List NumberedCommand → Point)
      → script_reading v begin script ≡ begin four_commands
  script_leads v begin =
      let one = own_line input two.first.action two.f two.left two.binds_f in
      let other = own_line input two.second.action two.g two.right two.binds_g in
      ap (λ ls. with_lines v script begin [] ls) two.lines
      ∙ four_lines v script begin two.first two.second two.third two.last one.command other.command
      (commands.Combine two.operation two.h two.f two.g) (commands.Write (two.h ∷ []) (file_name script two.number))
      (one.acts v script) (other.acts v script) (λ next. ap (with_action v script next) two.joins)
      (λ next. ap (with_action v script next) two.writes)

-- ---- the readings lead to the plan

-- the start tree of the words is followed
tree_follows : (files : Files) (job : Job) (f : Groups) (tree : Tree) (point : Point) (word : TreeWord)
    → IsStartTree files word f.variables tree → ReadsTo (Some files) (with_tree job f no_circuit tree) point
    → ReadsTo (Some files) (with_tree_word job f no_circuit word) point
tree_follows files job f tree point trees.Balanced is led =
    subst (λ t. ReadsTo (Some files) (with_tree job f no_circuit t) point) is led
tree_follows files job f tree point trees.Right is led =
    subst (λ t. ReadsTo (Some files) (with_tree job f no_circuit t) point) is led
tree_follows files job f tree point trees.Left is led =
    subst (λ t. ReadsTo (Some files) (with_tree job f no_circuit t) point) is led
tree_follows files job f tree point (trees.File file) (bytes, there, short, reads) led =
    inr (
      Some bytes,
      (there, short),
      reads_on (Some files) (with_vtree_text job f no_circuit file (Some bytes)) (with_tree job f no_circuit tree) point
          (reads_same (Some files) _ _ (ap (with_vtree_reading job f no_circuit file) reads)) led,
    )

module _ {words : List (List ℕ)} {seen : Seen} (run : FourLines words seen) where
  -- where the script becomes these commands, it is a plan
  script_follows : (cs : List NumberedCommand)
      → ((begin : List NumberedCommand → Point)
      → script_reading run.given.formula.variables begin run.script ≡ begin cs)
      → ReadsTo (Some run.given.files) (with_tree run.given.job run.given.formula no_circuit run.given.tree)
      (point_of (formula_plan run.given.job run.given.formula run.given.tree cs))
  script_follows cs becomes =
      let told = Some run.given.files in
      let job = run.given.job in
      let formula = run.given.formula in
      let tree = run.given.tree in
      let begin = λ (l : List NumberedCommand). point_of (plan_for job formula no_circuit tree l) in
      let asks = Reads run.script_file (with_script_text run.script_file formula.variables 0 begin) in
      let none = no_choice job run.script_file (job_fits_together words job run.given.named) run.asked in
      let same = ap point_of (formula_plan_is job formula tree cs none) in
      let read : ReadsTo told asks (begin cs) =
      inr (
        Some run.reads.0,
        (run.reads.1, run.reads.2),
        reads_same told _ _
            (ap (with_script_reading run.script_file formula.variables begin) run.reads.3 ∙ becomes begin),
      ) in
      subst (ReadsTo told (with_tree job formula no_circuit tree)) same
      (reads_on told (with_tree job formula no_circuit tree) asks (begin cs)
      (reads_same told _ _ (ap (with_commands job formula.variables 0 begin) run.asked)) read)

  -- the words, the input, the tree and the script lead to it
  leads_to_script : (cs : List NumberedCommand)
      → ((begin : List NumberedCommand → Point)
      → script_reading run.given.formula.variables begin run.script ≡ begin cs)
      → ReadsTo (Some run.given.files) (reading_of words)
      (point_of (formula_plan run.given.job run.given.formula run.given.tree cs))
  leads_to_script cs becomes =
      let told = Some run.given.files in
      let job = run.given.job in
      let formula = run.given.formula in
      let tree = run.given.tree in
      let point = point_of (formula_plan job formula tree cs) in
      let named : ReadsTo told (reading_of words) (with_input_word job job.input) =
      reads_same told _ _ (ap with_job run.given.named) in
      reads_on told (reading_of words) (with_input_word job job.input) point named
      (reads_on told (with_input_word job job.input) (with_tree_word job formula no_circuit job.tree) point
      (formula_follows run.given.files job formula job.input run.given.input)
      (tree_follows run.given.files job formula tree point job.tree run.given.starts (script_follows cs becomes)))

-- ---- the commands, done

-- a command that binds a name, and the others after it
bind_done : (input : Groups) (state last : State) (name : ℕ) (f : Expression) (command : NumberedCommand)
    (rest : List NumberedCommand) (effects : List Effect) → BindsName input state command.command name f
    → Steps input state (command ∷ rest) effects last → Steps input (with_name state name f) rest effects last
bind_done input state last name f command rest effects binds (mid, first, others, step, steps, is) =
    let done = binds mid first step in
    let all : effects ≡ others = is ∙ ap (λ (l : List Effect). l ++ others) done.1 in
    subst (λ l. Steps input (with_name state name f) rest l last) (sym all)
    (subst (λ s. Steps input s rest others last) done.0 steps)

-- a last command that writes a diagram
write_done : (input : Groups) (state last : State) (name : ℕ) (file : List ℕ) (line : Line) (effects : List Effect)
    → Steps input state (in_line line (commands.Write (name ∷ []) file) ∷ []) effects last
    → (text : List ℕ) × IsTextOf state.tree (formula_named state name ∷ []) text × (effects ≡ Write file text ∷ [])
write_done input state last name file line effects (mid, first, others, step, steps, is) =
    let wrote : first ≡ Write file step.0 ∷ [] = let e = step.2 in cc in
    (step.0, step.1, is ∙ ap (λ (l : List Effect). l ++ others) wrote ∙ ap (λ l. Write file step.0 ∷ l) steps.0)

-- the name that was bound last
named_first : (entries : List (ℕ × Expression)) (name : ℕ) (f : Expression)
    → unwrap_or (named ((name, f) ∷ entries) name) (Constant false) ≡ f
named_first entries name f = rw (eq-eqb name name refl) refl

-- a name that was bound before another one
named_before : (entries : List (ℕ × Expression)) (name other : ℕ) (f : Expression) → ¬ (other ≡ name)
    → unwrap_or (named ((other, f) ∷ entries) name) (Constant false)
    ≡ unwrap_or (named entries name) (Constant false)
named_before entries name other f differ = rw (ne_eqb other name differ) refl

-- the two names and the joined one stand for their formulas
joined_formula : (state : State) (f g h : ℕ) (left right : Expression) (operation : Operation) → ¬ (g ≡ f)
    → let both = with_name (with_name state f left) g right in
    formula_named (with_name both h (Combined operation (formula_named both f) (formula_named both g))) h
    ≡ Combined operation left right
joined_formula state f g h left right operation differ =
    let both = with_name (with_name state f left) g right in
    named_first both.names h (Combined operation (formula_named both f) (formula_named both g))
    ∙ ap (λ x. Combined operation x (formula_named both g))
    (named_before ((f, left) ∷ state.names) f g right differ ∙ named_first state.names f left)
    ∙ ap (λ y. Combined operation left y) (named_first ((f, left) ∷ state.names) g right)

-- four commands that are all done write the joined formula
four_done : (input : Groups) (script : Script) (two : HasLinesOf (expression_of input) script) (state last : State)
    (effects : List Effect) → state.every ≡ None → Steps input state (four_commands input script two) effects last
    → (text : List ℕ) × IsTextOf state.tree (Combined two.operation two.left two.right ∷ []) text
    × (effects ≡ Write (file_name script two.number) text ∷ [])
four_done input script two state last effects none steps =
    let one = own_line input two.first.action two.f two.left two.binds_f in
    let other = own_line input two.second.action two.g two.right two.binds_g in
    let second = in_line two.second other.command in
    let combine = in_line two.third (commands.Combine two.operation two.h two.f two.g) in
    let write = in_line two.last (commands.Write (two.h ∷ []) (file_name script two.number)) in
    let a = with_name state two.f two.left in
    let b = with_name a two.g two.right in
    let value = Combined two.operation (formula_named b two.f) (formula_named b two.g) in
    let c = with_name b two.h value in
    let after_first = bind_done input state last two.f two.left (in_line two.first one.command)
    (second ∷ combine ∷ write ∷ []) effects (one.binds state none) steps in
    let after_second = bind_done input a last two.g two.right second (combine ∷ write ∷ []) effects
    (other.binds a none) after_first in
    let after_third = bind_done input b last two.h value combine (write ∷ []) effects
    (λ next done step. settled_done (with_name b two.h value) next done step) after_second in
    let done = write_done input c last two.h (file_name script two.number) two.last effects after_third in (
      done.0,
      subst (λ f. IsTextOf state.tree (f ∷ []) done.0)
          (joined_formula state two.f two.g two.h two.left two.right two.operation two.two) done.1,
      done.2,
    )

-- ---- the run

-- readings that lead to two plans lead to one
one_plan : (words : List (List ℕ)) (files : Files) (a b : Plan) → ReadsTo (Some files) (reading_of words) (point_of a)
    → ReadsTo (Some files) (reading_of words) (point_of b) → b ≡ a
one_plan words files a b p q =
    elim (one_point files (reading_of words) (point_of a) (point_of b) tt p q) [
      | inl is ↦ one_plan_at b a is
      | inr asks ↦ let e = asks.is in let bad : ⊥ = cc in absurd bad
    ]

-- the file is the text of the formula's canonical diagram for the tree, no other file changed, and nothing was printed
record WritesDiagram (files : Files) (tree : Tree) (f : Expression) (file : List ℕ) (old new : Contents)
    : Type 0 where
  diagram : Diagram
  of_formula : IsDiagramOf tree f diagram
  files_are : new.files ≡ Some (with_file files file (sdd_text diagram))
  printed_is : new.printed ≡ old.printed

-- what this effect leaves
leaves_text : (files : Files) (tree : Tree) (f : Expression) (file text : List ℕ) (effects : List Effect)
    (old new : Contents) → old.files ≡ Some files → effects ≡ Write file text ∷ [] → IsTextOf tree (f ∷ []) text
    → new ≡ after_effects effects old → WritesDiagram files tree f file old new
leaves_text files tree f file text effects old new told are is_text is =
    let now : new ≡ after_effects (Write file text ∷ []) old = is ∙ ap (λ l. after_effects l old) are in
    let one = single_text tree f text is_text in record {
      diagram = one.0;
      of_formula = one.1;
      files_are = ap (λ (o : Contents). o.files) now ∙ ap (λ t. told_with t file text) told
          ∙ ap (λ b. Some (with_file files file b)) one.2;
      printed_is = ap (λ (o : Contents). o.printed) now;
    }

-- four lines with these actions
record AreFour (lines : List Line) (a b c d : Action) : Type 0 where
  k : Line
  l : Line
  m : Line
  n : Line
  are : lines ≡ k ∷ l ∷ m ∷ n ∷ []
  first : k.action ≡ a
  second : l.action ≡ b
  third : m.action ≡ c
  last : n.action ≡ d

four_are : (lines : List Line) (a b c d : Action) → map (λ line. line.action) lines ≡ a ∷ b ∷ c ∷ d ∷ []
    → AreFour lines a b c d
four_are [] a b c d is = let bad : ⊥ = cc in absurd bad
four_are (k ∷ []) a b c d is = let bad : ⊥ = cc in absurd bad
four_are (k ∷ l ∷ []) a b c d is = let bad : ⊥ = cc in absurd bad
four_are (k ∷ l ∷ m ∷ []) a b c d is = let bad : ⊥ = cc in absurd bad
four_are (k ∷ l ∷ m ∷ n ∷ []) a b c d is =
    record { k = k; l = l; m = m; n = n; are = refl; first = cc; second = cc; third = cc; last = cc }
four_are (k ∷ l ∷ m ∷ n ∷ o ∷ lines) a b c d is = let bad : ⊥ = cc in absurd bad

-- the lines of a script, by their actions
abbrev lines_of : (input : Expression) (script : Script) → JoinsTwo input script → HasLinesOf input script
lines_of input script q =
    let four = four_are script.commands q.first q.second (actions.Binary q.operation q.h q.f q.g)
    (actions.Write (q.h ∷ []) q.number) q.lines in
    record {
      first = four.k;
      second = four.l;
      third = four.m;
      last = four.n;
      lines = four.are;
      f = q.f;
      g = q.g;
      h = q.h;
      left = q.left;
      right = q.right;
      binds_f = subst (λ a. own_formula input a ≡ Some (q.f, q.left)) (sym four.first) q.binds_f;
      binds_g = subst (λ a. own_formula input a ≡ Some (q.g, q.right)) (sym four.second) q.binds_g;
      two = q.two;
      operation = q.operation;
      joins = four.third;
      number = q.number;
      writes = four.last;
    }

-- a run with a script of four lines
pub joined_at : (words : List (List ℕ)) (status : ℕ) (kept : Option Table) (seen : Seen)
    → IsOneCourse words status kept seen → HasJoined words status seen
joined_at words status kept seen went = λ run.
    let given = run.given in
    let two = lines_of (expression_of given.formula) run.script run.lines in
    let cs = four_commands given.formula run.script two in
    let plan = formula_plan given.job given.formula given.tree cs in
    let led = leads_to_script run cs (script_leads given.formula run.script two given.formula.variables) in (
      λ zero_.
          let all = (effects_at words status kept seen went).all zero_ in
          let wrote = writes given.files given.job given.formula given.tree run.script two given.told run.of_file
          run.plain led all.0 (subst (λ f. MayEnd words f all.0 Finished) given.told all.1) all.2 in
          record {
            diagram = wrote.diagram;
            of_formulas = wrote.of_formula;
            files_are = wrote.files_are;
            printed_is = wrote.printed_is;
          },
      ends_at_plan words status kept seen went given.files plan given.told led
          (subst AreStill (ap (λ begin. begin ++ cs) (sym run.of_file))
          (four_still given.formula run.script two)),
    )
  where
    writes : (files : Files) (job : Job) (formula : Groups) (tree : Tree) (script : Script)
        (two : HasLinesOf (expression_of formula) script) → seen.old.contents.files ≡ Some files
        → announcement job.input formula ≡ [] → job.every ≡ None → ReadsTo (Some files) (reading_of words)
        (point_of (formula_plan job formula tree (four_commands formula script two)))
        → (effects : List Effect) → MayEnd words (Some files) effects Finished
        → seen.new.contents ≡ after_effects effects seen.old.contents
        → WritesDiagram files tree (Combined two.operation two.left two.right) (file_name script two.number)
        seen.old.contents seen.new.contents
    writes files job formula tree script two told none plain led effects (inl p) is = absurd p.0
    writes files job formula tree script two told none plain led effects (inr p) is =
        let cs = four_commands formula script two in
        let plan = formula_plan job formula tree cs in
        let same = one_plan words files plan p.0 led p.1 in
        let all = subst (λ (q : Plan). Steps q.input q.start q.commands effects p.2.0) same
        (whole_plan p.0 p.2.0 effects p.2.1) in
        let steps = subst (λ (l : List NumberedCommand). Steps plan.input plan.start (l ++ cs) effects p.2.0) none
        all in
        let done = four_done formula script two plan.start p.2.0 effects plain steps in
        leaves_text files tree (Combined two.operation two.left two.right) (file_name script two.number) done.0 effects
        seen.old.contents seen.new.contents told done.2 done.1 is

-- ---- a script of this form

-- the input and a literal, joined by and
worked : (v : ℕ) × (script : Script)
    × (script_of v 0 (codes "input f\nlit g 1\nand h f g\nwrite h out\n") ≡ Ok script)
    × ((input : Expression) → (two : JoinsTwo input script)
    × (Combined two.operation two.left two.right ≡ Combined And input (Atom (pos 1)))
    × (file_name script two.number ≡ codes "out"))
unfolding script_of see number_of_word command_of
worked = (
  2,
  _,
  refl,
  λ input. (
    record {
      first = _;
      second = _;
      operation = And;
      f = 0;
      g = 1;
      h = 2;
      number = 0;
      lines = refl;
      left = input;
      right = Atom (pos 1);
      binds_f = refl;
      binds_g = refl;
      two = λ e. cc;
    },
    refl,
    refl,
  ),
)
