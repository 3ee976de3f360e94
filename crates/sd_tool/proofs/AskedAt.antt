-- What a run asks of the shelf, status by status.
use Rattle.std.proofs.Common.{◌≡◌, ◌⊎◌, ℕ, List, [], ◌∷◌, ◌++◌, length, map, Option, Some, None, Result, Ok, Err}
use Rattle.std.proofs.Common.{inl, inr, refl, sym, ap, subst, ◌∙◌}
use Rattle.std.proofs.lemmas.List.{append-nil, map-append}
use Rattle.sd_aiger.specs.Reads.{aiger}
use Rattle.sd_base.specs.Asked.{Request, ToRead, ToWrite}
use Rattle.sd_base.specs.Files.{Files}
use Rattle.sd_model.specs.Circuit.{Circuit}
use Rattle.sd_model.specs.StartTrees.{balanced_tree, right_tree, left_tree}
use Rattle.sd_model.specs.Tree.{Tree}
use Rattle.sd_manager.specs.Table.{Table}
use Rattle.sd_formula.specs.Dimacs.{Groups, dimacs}
use Rattle.sd_formula.specs.Formulas.{no_groups}
use Rattle.sd_formula.specs.Generated.{generated_formula}
use Rattle.sd_formula.specs.declared.formula.Kind.TheVariants as kinds
use Rattle.sd_vfile.specs.Reads.{vtree_file}
use Rattle.sd_file.specs.Reads.{File, sdd_file}
use Rattle.sd_script.specs.Scripts.{Script, script_of}
use Rattle.sd_script.specs.declared.command.Action.{Action}
use Rattle.sd_script.specs.declared.command.Action.TheVariants as actions
use Rattle.sd_script.specs.declared.command.Command.{Command as Line}
use Rattle.sd_words.specs.JobOf.{job_of}
use Rattle.sd_words.specs.declared.jobs.Job.{Job}
use Rattle.sd_words.specs.declared.jobs.InputWord.{InputWord}
use Rattle.sd_words.specs.declared.jobs.InputWord.TheVariants as inputs
use Rattle.sd_words.specs.declared.jobs.TreeWord.{TreeWord}
use Rattle.sd_words.specs.declared.jobs.TreeWord.TheVariants as trees
use Rattle.sd_commands.specs.Commands.{no_circuit}
use Rattle.sd_commands.specs.Effects.{Effect, Write, Print}
use Rattle.sd_commands.specs.declared.command.NumberedCommand.{NumberedCommand}
use Rattle.sd_commands.specs.declared.command.RunCommand.{RunCommand}
use Rattle.sd_commands.specs.declared.command.RunCommand.TheVariants as commands
use Rattle.sd_tool.specs.inside.Asks.{ReadsBy, GoesTo, writings, begun}
use Rattle.sd_tool.specs.Readings.{Point, Refuses, Reads, Stands, CheckedVtree, checked_vtree, or_refused, reads}
use Rattle.sd_tool.specs.Readings.{with_check, with_checked, with_circuit}
use Rattle.sd_tool.specs.inside.Plans.{point_of, plan_for}
use Rattle.sd_tool.specs.inside.Readings.{Text}
use Rattle.sd_tool.specs.Laws.{HasAsked}
use Rattle.sd_tool.specs.Devices.{Seen}
use Rattle.sd_tool.specs.Ends.{End, Finished, Refused, Unreadable, Unwritable, OutOfMemory, ArenaFull, OverLimit}
use Rattle.sd_tool.specs.Ends.{NotMovable, status_of}
use Rattle.sd_tool.specs.inside.ByStatus.{IsOneCourse}
use Rattle.sd_tool.specs.inside.Readings.{Input, with_job, with_input, with_formula_reading}
use Rattle.sd_tool.specs.Readings.{reading_of, with_input_word, with_tree_word, with_tree, with_commands}
use Rattle.sd_tool.specs.inside.Readings.{with_vtree_text, with_vtree_reading, script_reading}
use Rattle.sd_tool.specs.Readings.{with_lines, with_action, file_name}
use Rattle.sd_tool.specs.inside.Readings.{in_line, parsed}
use Rattle.sd_tool.specs.inside.Readings.{with_script_text, with_script_reading, with_sdd, with_sdd_reading}
use Rattle.sd_tool.proofs.ByStatus.{no_idle, unwritable_status}

-- ---- the words are refused before any reading

-- whatever the texts, the words are not refused from here on
abbrev pub AreAccepted : Point → Type 0
AreAccepted (Refuses refusal) = refusal.0 ≡ 1 → ⊥
AreAccepted (Stands input state left) = Unit {0}
AreAccepted (Reads file next) = (text : Text) → AreAccepted (next text)

-- so they are not at any point
accepted_on : (files : Option Files) (reading : Point) (names : List (List ℕ)) (refusal : ℕ × List ℕ)
    → AreAccepted reading → ReadsBy files reading names (Refuses refusal) → refusal.0 ≡ 1 → ⊥
accepted_on files reading [] refusal accepted a = subst AreAccepted (sym a) accepted
accepted_on files (Refuses found) (x ∷ xs) refusal accepted a = absurd a
accepted_on files (Stands input state left) (x ∷ xs) refusal accepted a = absurd a
accepted_on files (Reads file next) (x ∷ xs) refusal accepted a =
    accepted_on files (next a.0) xs refusal (accepted a.0) a.3

accepted_sdd : (v : ℕ) (file : List ℕ) (next : File → Point) (text : Text) → ((read : File) → AreAccepted (next read))
    → AreAccepted (with_sdd v file next text)
accepted_sdd v file next None accepted = λ e. cc
accepted_sdd v file next (Some bytes) accepted = go (sdd_file v bytes)
  where
    go : (read : Result File (List ℕ)) → AreAccepted (with_sdd_reading file next read)
    go (Ok read) = accepted read
    go (Err fault) = λ e. cc

accepted_action : (v : ℕ) (s : Script) (next : RunCommand → Point) (action : Action)
    → ((command : RunCommand) → AreAccepted (next command)) → AreAccepted (with_action v s next action)
accepted_action v s next (actions.Input n) accepted = accepted (commands.Input n)
accepted_action v s next (actions.Output n index) accepted = accepted (commands.Output n index)
accepted_action v s next (actions.Load n file) accepted = λ text.
    accepted_sdd v (file_name s file) (λ read. next (commands.Load n read)) text
    (λ read. accepted (commands.Load n read))
accepted_action v s next (actions.Lit n literal) accepted = accepted (commands.Literal n literal)
accepted_action v s next (actions.Constant n value) accepted = accepted (commands.Constant n value)
accepted_action v s next (actions.Binary operation n a b) accepted = accepted (commands.Combine operation n a b)
accepted_action v s next (actions.Not n a) accepted = accepted (commands.Negate n a)
accepted_action v s next (actions.Given n a literal) accepted = accepted (commands.Given n a literal)
accepted_action v s next (actions.Forget n a x) accepted = accepted (commands.Forget n a x)
accepted_action v s next (actions.Drop a) accepted = accepted (commands.Drop a)
accepted_action v s next (actions.Turn kind p) accepted = accepted (commands.Turn kind p)
accepted_action v s next (actions.Minimise rounds) accepted = accepted (commands.Minimise rounds)
accepted_action v s next (actions.Limit limit) accepted = accepted (commands.Limit limit)
accepted_action v s next (actions.Same a b) accepted = accepted (commands.Same a b)
accepted_action v s next (actions.Size a) accepted = accepted (commands.Size a)
accepted_action v s next (actions.Value a bits) accepted = accepted (commands.Value a bits)
accepted_action v s next (actions.Write names file) accepted = accepted (commands.Write names (file_name s file))
accepted_action v s next (actions.Vtree file) accepted = accepted (commands.WriteVtree (file_name s file))

accepted_lines : (v : ℕ) (s : Script) (begin : List NumberedCommand → Point) (done : List NumberedCommand)
    (lines : List Line)
    → ((cs : List NumberedCommand) → AreAccepted (begin cs)) → AreAccepted (with_lines v s begin done lines)
accepted_lines v s begin done [] accepted = accepted done
accepted_lines v s begin done (line ∷ lines) accepted =
    accepted_action v s (λ command. with_lines v s begin (done ++ in_line line command ∷ []) lines) line.action
    (λ command. accepted_lines v s begin (done ++ in_line line command ∷ []) lines accepted)

accepted_script : (v : ℕ) (s : Script) (begin : List NumberedCommand → Point)
    → ((cs : List NumberedCommand) → AreAccepted (begin cs)) → AreAccepted (script_reading v begin s)
accepted_script v s begin accepted = accepted_lines v s begin [] s.commands accepted

accepted_script_text : (file : List ℕ) (v o : ℕ) (begin : List NumberedCommand → Point) (text : Text)
    → ((cs : List NumberedCommand) → AreAccepted (begin cs)) → AreAccepted (with_script_text file v o begin text)
accepted_script_text file v o begin None accepted = λ e. cc
accepted_script_text file v o begin (Some bytes) accepted = go (script_of v o bytes)
  where
    go : (read : Result Script (List ℕ)) → AreAccepted (with_script_reading file v begin read)
    go (Ok s) = accepted_script v s begin accepted
    go (Err fault) = λ e. cc

accepted_tree : (job : Job) (f : Groups) (circuit : Circuit) (tree : Tree) → AreAccepted (with_tree job f circuit tree)
accepted_tree job f circuit tree = go job.script
  where
    go : (file : Option (List ℕ))
        → AreAccepted (with_commands job f.variables (length circuit.outputs)
        (λ cs. point_of (plan_for job f circuit tree cs)) file)
    go None = tt
    go (Some file) = λ text.
        accepted_script_text file f.variables (length circuit.outputs)
        (λ cs. point_of (plan_for job f circuit tree cs)) text (λ cs. tt)

accepted_tree_word : (job : Job) (f : Groups) (circuit : Circuit) (word : TreeWord)
    → AreAccepted (with_tree_word job f circuit word)
accepted_tree_word job f circuit trees.Balanced = accepted_tree job f circuit (balanced_tree f.variables)
accepted_tree_word job f circuit trees.Right = accepted_tree job f circuit (right_tree f.variables)
accepted_tree_word job f circuit trees.Left = accepted_tree job f circuit (left_tree f.variables)
accepted_tree_word job f circuit (trees.File file) = λ text. read text
  where
    go : (read : Result Tree (List ℕ)) → AreAccepted (with_vtree_reading job f circuit file read)
    go (Ok tree) = accepted_tree job f circuit tree
    go (Err fault) = λ e. cc

    read : (text : Text) → AreAccepted (with_vtree_text job f circuit file text)
    read None = λ e. cc
    read (Some bytes) = go (vtree_file f.variables bytes)

accepted_input : (job : Job) (input : Input) (text : Text) → AreAccepted (with_input job input text)
accepted_input job input None = λ e. cc
accepted_input job input (Some bytes) = go (dimacs input.kind bytes)
  where
    go : (read : Result Groups (List ℕ)) → AreAccepted (with_formula_reading job input.file read)
    go (Ok f) = accepted_tree_word job f no_circuit job.tree
    go (Err fault) = λ e. cc

accepted_circuit : (job : Job) (file : List ℕ) (text : Text)
    → AreAccepted (parsed 2 aiger file (with_circuit job) text)
accepted_circuit job file None = λ e. cc
accepted_circuit job file (Some bytes) = go (aiger bytes)
  where
    go : (read : Result Circuit (List ℕ)) → AreAccepted (or_refused 2 file (with_circuit job) read)
    go (Ok circuit) =
        accepted_tree_word job (no_groups kinds.Cnf (length circuit.inputs)) circuit job.tree
    go (Err fault) = λ e. cc

accepted_check : (job : Job) (file tree : List ℕ) → AreAccepted (with_check job file (trees.File tree))
accepted_check job file tree = λ text. read text
  where
    go : (read : Result CheckedVtree (List ℕ))
        → AreAccepted (or_refused 2 tree (λ vtree. reads 2 (sdd_file vtree.variables) file (with_checked job vtree))
        read)
    go (Ok vtree) = λ text. accepted_sdd vtree.variables file (with_checked job vtree) text (λ read. tt)
    go (Err fault) = λ e. cc

    read : (text : Text)
        → AreAccepted (parsed 2 checked_vtree tree (λ vtree. reads 2 (sdd_file vtree.variables) file
        (with_checked job vtree)) text)
    read None = λ e. cc
    read (Some bytes) = go (checked_vtree bytes)

-- words that are refused in spite of their reading are refused before any file
none_of_word : (files : Option Files) (job : Job) (word : InputWord) (names : List (List ℕ)) (refusal : ℕ × List ℕ)
    → ReadsBy files (with_input_word job word) names (Refuses refusal) → refusal.0 ≡ 1 → names ≡ []
none_of_word files job (inputs.Cnf file) names refusal a e =
    absurd (accepted_on files (with_input_word job (inputs.Cnf file)) names refusal
    (λ text. accepted_input job (record { kind = kinds.Cnf; file = file }) text) a e)
none_of_word files job (inputs.Dnf file) names refusal a e =
    absurd (accepted_on files (with_input_word job (inputs.Dnf file)) names refusal
    (λ text. accepted_input job (record { kind = kinds.Dnf; file = file }) text) a e)
none_of_word files job (inputs.Generate count seed) names refusal a e =
    absurd (accepted_on files (with_input_word job (inputs.Generate count seed)) names refusal
    (accepted_tree_word job (generated_formula count seed) no_circuit job.tree) a e)
none_of_word files job (inputs.Aag file) names refusal a e =
    absurd (accepted_on files (with_input_word job (inputs.Aag file)) names refusal
    (λ text. accepted_circuit job file text) a e)
none_of_word files job (inputs.Check file) names refusal a e = by_tree job.tree names a
  where
    by_tree : (word : TreeWord) (names : List (List ℕ)) → ReadsBy files (with_check job file word) names
        (Refuses refusal)
        → names ≡ []
    by_tree (trees.File tree) names a =
        absurd (accepted_on files (with_check job file (trees.File tree)) names refusal (accepted_check job file tree) a
        e)
    by_tree trees.Balanced [] a = refl
    by_tree trees.Balanced (x ∷ xs) a = absurd a
    by_tree trees.Right [] a = refl
    by_tree trees.Right (x ∷ xs) a = absurd a
    by_tree trees.Left [] a = refl
    by_tree trees.Left (x ∷ xs) a = absurd a

-- where the words are refused, no file was read before
none_read : (files : Option Files) (words : List (List ℕ)) (names : List (List ℕ)) (refusal : ℕ × List ℕ)
    → ReadsBy files (reading_of words) names (Refuses refusal) → refusal.0 ≡ 1 → names ≡ []
none_read files words names refusal = go (job_of words) names
  where
    go : (job : Result Job (List ℕ)) (names : List (List ℕ)) → ReadsBy files (with_job job) names (Refuses refusal)
        → refusal.0 ≡ 1 → names ≡ []
    go (Err fault) [] a e = refl
    go (Err fault) (x ∷ xs) a e = absurd a
    go (Ok job) names a e = none_of_word files job job.input names refusal a e

-- ---- the order

-- the names that effects write
writings_names : (effects : List Effect) → (names : List (List ℕ)) × (writings effects ≡ map ToWrite names)
writings_names [] = ([], refl)
writings_names (Write file bytes ∷ effects) =
    let rest = writings_names effects in
    (file ∷ rest.0, ap (λ (l : List Request). ToWrite file ∷ l) rest.1)
writings_names (Print line ∷ effects) = writings_names effects

-- readings, of which one is the last
with_last : (asks : List Request → Type 0) (names : List (List ℕ)) (file : List ℕ)
    → asks (map ToRead names ++ ToRead file ∷ []) → asks (map ToRead (names ++ file ∷ []))
with_last asks names file asked = subst asks (sym (map-append ToRead names (file ∷ []))) asked

-- readings alone are in order
only_readings : (asks : List Request → Type 0) (names : List (List ℕ)) → asks (map ToRead names)
    → (names files : List (List ℕ)) × asks (map ToRead names ++ map ToWrite files)
only_readings asks names asked = (names, [], subst asks (sym (append-nil (map ToRead names))) asked)

-- no file is read after one is written
order_of : (asks : List Request → Type 0) (words : List (List ℕ)) (files : Option Files) (effects : List Effect)
    (end : End) (kept : Option Table) → GoesTo asks words files effects end kept
    → (names files : List (List ℕ)) × asks (map ToRead names ++ map ToWrite files)
order_of asks words files effects end kept (inr p) =
    let written = writings_names (begun effects end) in
    (p.1.names, written.0, subst (λ l. asks (map ToRead p.1.names ++ l)) written.1 p.1.asked)
order_of asks words files effects Finished kept (inl p) = absurd p.0
order_of asks words files effects (Refused refusal) kept (inl p) = only_readings asks p.0.names p.0.asked
order_of asks words files effects (Unreadable file) kept (inl p) =
    only_readings asks (p.0.1.names ++ file ∷ []) (with_last asks p.0.1.names file p.0.1.asked)
order_of asks words files effects (Unwritable effect) kept (inl p) = absurd p.0
order_of asks words files effects OutOfMemory kept (inl (inl p, none, free)) = only_readings asks p.1.names p.1.asked
order_of asks words files effects OutOfMemory kept (inl (inr p, none, free)) =
    only_readings asks (p.1.1.names ++ p.0 ∷ []) (with_last asks p.1.1.names p.0 p.1.1.asked)
order_of asks words files effects (ArenaFull n) kept (inl p) = absurd p.0
order_of asks words files effects (OverLimit l g n k) kept (inl p) = absurd p.0
order_of asks words files effects (NotMovable l) kept (inl p) = absurd p.0

-- ---- status by status

-- what is asked of the shelf, status by status
pub asked_at : (words : List (List ℕ)) (status : ℕ) (kept : Option Table) (seen : Seen)
    → IsOneCourse words status kept seen → HasAsked words status seen
asked_at words status kept seen went = (
  none went.end went.goes went.status_is,
  alone went.end went.goes went.status_is,
  order_of seen.asked words seen.old.contents.files went.effects went.end kept went.goes,
)
  where
    none : (end : End) → GoesTo seen.asked words seen.old.contents.files went.effects end kept
        → status ≡ status_of end → status ≡ 1 → seen.asked []
    none Finished goes is s = cc
    none (Refused refusal) (inl p) is s =
        subst (λ (l : List (List ℕ)). seen.asked (map ToRead l))
        (none_read seen.old.contents.files words p.0.names refusal p.0.reads (sym is ∙ s)) p.0.asked
    none (Refused refusal) (inr p) is s = absurd p.2
    none (Unreadable file) goes is s = cc
    none (Unwritable effect) goes is s = let six = is ∙ unwritable_status effect in cc
    none OutOfMemory goes is s = cc
    none (ArenaFull n) goes is s = cc
    none (OverLimit l g n k) goes is s = cc
    none (NotMovable l) goes is s = cc

    alone : (end : End) → GoesTo seen.asked words seen.old.contents.files went.effects end kept
        → status ≡ status_of end → (status ≡ 1) ⊎ (status ≡ 2) ⊎ (status ≡ 5)
        → (names : List (List ℕ)) × seen.asked (map ToRead names)
    alone Finished goes is s = no_idle status 0 refl is s
    alone (Refused refusal) (inl p) is s = (p.0.names, p.0.asked)
    alone (Refused refusal) (inr p) is s = absurd p.2
    alone (Unreadable file) (inl p) is s =
        (p.0.1.names ++ file ∷ [], with_last seen.asked p.0.1.names file p.0.1.asked)
    alone (Unreadable file) (inr p) is s = absurd p.2
    alone (Unwritable effect) goes is s = no_idle status 6 refl (is ∙ unwritable_status effect) s
    alone OutOfMemory goes is s = no_idle status 7 refl is s
    alone (ArenaFull n) goes is s = no_idle status 8 refl is s
    alone (OverLimit l g n k) goes is s = no_idle status 4 refl is s
    alone (NotMovable l) goes is s = no_idle status 3 refl is s
