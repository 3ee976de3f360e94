-- Where the readings of a run are over, a refusal has one of three statuses, and a plan begins with a vtree.
use Rattle.std.proofs.Common.{◌≡◌, ◌⊎◌, ℕ, ◌≤◌, List, [], ◌∷◌, ◌++◌, length, Option, Some, None, Result, Ok, Err}
use Rattle.std.proofs.Common.{inl, inr, refl, sym, subst, arith}
use Rattle.std.specs.FinMap.{FinMap}
use Rattle.std.specs.Ordering.{nat_cmp}
use Rattle.sd_aiger.specs.Reads.{aiger}
use Rattle.sd_base.specs.Files.{Files}
use Rattle.sd_base.specs.Reading.{◌>>=◌}
use Rattle.sd_model.specs.Circuit.{Circuit}
use Rattle.sd_model.specs.Tree.{Tree, IsVtree}
use Rattle.sd_model.specs.StartTrees.{balanced_tree, right_tree, left_tree}
use Rattle.sd_formula.specs.Dimacs.{Groups, dimacs}
use Rattle.sd_formula.specs.Formulas.{no_groups}
use Rattle.sd_formula.specs.Generated.{IsGenerable, generated_formula}
use Rattle.sd_formula.specs.declared.formula.Kind.TheVariants as kinds
use Rattle.sd_formula.proofs.RangeLaws.{accepted_fits}
use Rattle.sd_vfile.specs.Ids.{ids_of}
use Rattle.sd_vfile.specs.Reads.{vtree_file, variables_stated}
use Rattle.sd_vfile.proofs.Accepted.{accepted}
use Rattle.sd_file.specs.Reads.{File, sdd_file}
use Rattle.sd_script.specs.Scripts.{Script, script_of}
use Rattle.sd_script.specs.declared.command.Action.{Action}
use Rattle.sd_script.specs.declared.command.Action.TheVariants as actions
use Rattle.sd_script.specs.declared.command.Command.{Command as Line}
use Rattle.sd_words.specs.JobOf.{job_of}
use Rattle.sd_words.specs.declared.jobs.Job.{Job}
use Rattle.sd_words.specs.declared.jobs.InputWord.{InputWord}
use Rattle.sd_words.specs.declared.jobs.InputWord.TheVariants as inputs
use Rattle.sd_words.specs.declared.jobs.TreeWord.{TreeWord}
use Rattle.sd_words.specs.declared.jobs.TreeWord.TheVariants as trees
use Rattle.sd_commands.specs.Commands.{no_circuit}
use Rattle.sd_commands.specs.declared.command.NumberedCommand.{NumberedCommand}
use Rattle.sd_commands.specs.declared.command.RunCommand.{RunCommand}
use Rattle.sd_commands.specs.declared.command.RunCommand.TheVariants as commands
use Rattle.sd_tool.specs.Readings.{Point, Refuses, Reads, Stands}
use Rattle.sd_tool.specs.inside.Plans.{Plan, point_of, plan_for}
use Rattle.sd_tool.specs.inside.Course.{ReadsTo}
use Rattle.sd_tool.specs.Readings.{CheckedVtree, checked_vtree, with_check, with_checked, with_circuit, reads}
use Rattle.sd_tool.specs.Readings.{or_refused}
use Rattle.sd_tool.specs.inside.Readings.{Text, Input, parsed, with_job, with_input, with_formula_reading}
use Rattle.sd_tool.specs.Readings.{reading_of, with_input_word, with_tree_word, with_tree, with_commands}
use Rattle.sd_tool.specs.inside.Readings.{with_vtree_text, with_vtree_reading, script_reading}
use Rattle.sd_tool.specs.Readings.{with_lines, with_action, file_name, default_of}
use Rattle.sd_tool.specs.inside.Readings.{in_line}
use Rattle.sd_tool.specs.inside.Readings.{with_script_text, with_script_reading, with_sdd, with_sdd_reading}
use Rattle.sd_tool.proofs.Circuits.{both_kinds}
use Rattle.sd_tool.proofs.StartTrees.{balanced_fits, right_fits, left_fits}
use Rattle.sd_tool.proofs.WordsInRange.{IsInRange, in_range}

-- ---- all ends of readings

-- the status of a refusal
abbrev pub IsRefusedWith : ℕ → Type 0
IsRefusedWith status = (status ≡ 1) ⊎ (status ≡ 2) ⊎ (status ≡ 3)

-- whatever the texts, the readings are over at a refusal with its status, or at a plan over a vtree
abbrev pub AreSound : Point → Type 0
AreSound (Refuses answer) = IsRefusedWith answer.0
AreSound (Stands input state left) = IsVtree state.tree
AreSound (Reads file next) = (text : Text) → AreSound (next text)

-- so is the point where they are over
sound_refusal : (told : Option Files) (reading : Point) (refusal : ℕ × List ℕ) → AreSound reading
    → ReadsTo told reading (Refuses refusal) → IsRefusedWith refusal.0
sound_refusal told (Refuses found) refusal sound is = subst AreSound (sym is) sound
sound_refusal told (Stands input state left) refusal sound is = subst AreSound (sym is) sound
sound_refusal told (Reads file next) refusal sound (inl is) = let bad : ⊥ = cc in absurd bad
sound_refusal told (Reads file next) refusal sound (inr a) =
    sound_refusal told (next a.0) refusal (sound a.0) a.2

sound_plan : (told : Option Files) (reading : Point) (plan : Plan) → AreSound reading
    → ReadsTo told reading (point_of plan) → IsVtree plan.start.tree
sound_plan told (Refuses found) plan sound is = subst AreSound (sym is) sound
sound_plan told (Stands input state left) plan sound is = subst AreSound (sym is) sound
sound_plan told (Reads file next) plan sound (inl is) = let bad : ⊥ = cc in absurd bad
sound_plan told (Reads file next) plan sound (inr a) = sound_plan told (next a.0) plan (sound a.0) a.2

-- ---- the commands

sound_sdd : (v : ℕ) (file : List ℕ) (next : File → Point) (text : Text) → ((read : File) → AreSound (next read))
    → AreSound (with_sdd v file next text)
sound_sdd v file next None sound = inr (inl refl)
sound_sdd v file next (Some bytes) sound = go (sdd_file v bytes)
  where
    go : (read : Result File (List ℕ)) → AreSound (with_sdd_reading file next read)
    go (Ok read) = sound read
    go (Err fault) = inr (inl refl)

sound_action : (v : ℕ) (s : Script) (next : RunCommand → Point) (action : Action)
    → ((command : RunCommand) → AreSound (next command)) → AreSound (with_action v s next action)
sound_action v s next (actions.Input n) sound = sound (commands.Input n)
sound_action v s next (actions.Output n index) sound = sound (commands.Output n index)
sound_action v s next (actions.Load n file) sound = λ text.
    sound_sdd v (file_name s file) (λ read. next (commands.Load n read)) text (λ read. sound (commands.Load n read))
sound_action v s next (actions.Lit n literal) sound = sound (commands.Literal n literal)
sound_action v s next (actions.Constant n value) sound = sound (commands.Constant n value)
sound_action v s next (actions.Binary operation n a b) sound = sound (commands.Combine operation n a b)
sound_action v s next (actions.Not n a) sound = sound (commands.Negate n a)
sound_action v s next (actions.Given n a literal) sound = sound (commands.Given n a literal)
sound_action v s next (actions.Forget n a x) sound = sound (commands.Forget n a x)
sound_action v s next (actions.Drop a) sound = sound (commands.Drop a)
sound_action v s next (actions.Turn kind p) sound = sound (commands.Turn kind p)
sound_action v s next (actions.Minimise rounds) sound = sound (commands.Minimise rounds)
sound_action v s next (actions.Limit limit) sound = sound (commands.Limit limit)
sound_action v s next (actions.Same a b) sound = sound (commands.Same a b)
sound_action v s next (actions.Size a) sound = sound (commands.Size a)
sound_action v s next (actions.Value a bits) sound = sound (commands.Value a bits)
sound_action v s next (actions.Write names file) sound = sound (commands.Write names (file_name s file))
sound_action v s next (actions.Vtree file) sound = sound (commands.WriteVtree (file_name s file))

sound_lines : (v : ℕ) (s : Script) (begin : List NumberedCommand → Point) (done : List NumberedCommand)
    (lines : List Line)
    → ((cs : List NumberedCommand) → AreSound (begin cs)) → AreSound (with_lines v s begin done lines)
sound_lines v s begin done [] sound = sound done
sound_lines v s begin done (line ∷ lines) sound =
    sound_action v s (λ command. with_lines v s begin (done ++ in_line line command ∷ []) lines) line.action
    (λ command. sound_lines v s begin (done ++ in_line line command ∷ []) lines sound)

sound_script : (v : ℕ) (s : Script) (begin : List NumberedCommand → Point) →
    ((cs : List NumberedCommand) → AreSound (begin cs))
    → AreSound (script_reading v begin s)
sound_script v s begin sound = sound_lines v s begin [] s.commands sound

sound_script_text : (file : List ℕ) (v o : ℕ) (begin : List NumberedCommand → Point) (text : Text)
    → ((cs : List NumberedCommand) → AreSound (begin cs)) → AreSound (with_script_text file v o begin text)
sound_script_text file v o begin None sound = inr (inr refl)
sound_script_text file v o begin (Some bytes) sound = go (script_of v o bytes)
  where
    go : (read : Result Script (List ℕ)) → AreSound (with_script_reading file v begin read)
    go (Ok s) = sound_script v s begin sound
    go (Err fault) = inr (inr refl)

sound_commands : (job : Job) (v o : ℕ) (begin : List NumberedCommand → Point) (file : Option (List ℕ))
    → ((cs : List NumberedCommand) → AreSound (begin cs)) → AreSound (with_commands job v o begin file)
sound_commands job v o begin None sound = sound (default_of job o)
sound_commands job v o begin (Some file) sound = λ text. sound_script_text file v o begin text sound

-- ---- the input and its tree

sound_tree : (job : Job) (f : Groups) (c : Circuit) (tree : Tree) → IsVtree tree → AreSound (with_tree job f c tree)
sound_tree job f c tree is = sound_commands job f.variables (length c.outputs)
    (λ cs. point_of (plan_for job f c tree cs)) job.script (λ cs. is)

sound_tree_word : (job : Job) (f : Groups) (c : Circuit) (word : TreeWord) → 1 ≤ f.variables
    → AreSound (with_tree_word job f c word)
sound_tree_word job f c trees.Balanced some =
    sound_tree job f c (balanced_tree f.variables) (balanced_fits f.variables some).vtree
sound_tree_word job f c trees.Right some =
    sound_tree job f c (right_tree f.variables) (right_fits f.variables some).vtree
sound_tree_word job f c trees.Left some =
    sound_tree job f c (left_tree f.variables) (left_fits f.variables some).vtree
sound_tree_word job f c (trees.File file) some = λ text. read text
  where
    go : (bytes : List ℕ) (read : Result Tree (List ℕ)) → vtree_file f.variables bytes ≡ read
        → AreSound (with_vtree_reading job f c file read)
    go bytes (Ok tree) is = sound_tree job f c tree (accepted f.variables bytes tree is).vtree
    go bytes (Err fault) is = inr (inl refl)

    read : (text : Text) → AreSound (with_vtree_text job f c file text)
    read None = inr (inl refl)
    read (Some bytes) = go bytes (vtree_file f.variables bytes) refl

sound_input : (job : Job) (input : Input) (text : Text) → AreSound (with_input job input text)
sound_input job input None = inr (inl refl)
sound_input job input (Some bytes) = go (dimacs input.kind bytes) refl
  where
    go : (read : Result Groups (List ℕ)) → dimacs input.kind bytes ≡ read
        → AreSound (with_formula_reading job input.file read)
    go (Ok f) is = sound_tree_word job f no_circuit job.tree (accepted_fits input.kind bytes f is).at_least_one
    go (Err fault) is = inr (inl refl)

sound_circuit : (job : Job) (file : List ℕ) (text : Text) → AreSound (parsed 2 aiger file (with_circuit job) text)
sound_circuit job file None = inr (inl refl)
sound_circuit job file (Some bytes) = go (aiger bytes) refl
  where
    go : (read : Result Circuit (List ℕ)) → aiger bytes ≡ read → AreSound (or_refused 2 file (with_circuit job) read)
    go (Ok c) is =
        sound_tree_word job (no_groups kinds.Cnf (length c.inputs)) c job.tree (both_kinds bytes c is).inputs.0
    go (Err fault) is = inr (inl refl)

-- ---- a check

-- the tree of a vtree file that is read so
checked_tree : (bytes : List ℕ) (vtree : CheckedVtree) → checked_vtree bytes ≡ Ok vtree → IsVtree vtree.tree
checked_tree bytes vtree e = by (variables_stated bytes) e
  where
    last : (v : ℕ) (tree : Tree) (ids : Result (FinMap nat_cmp ℕ) (List ℕ)) → IsVtree tree
        → (ids >>= λ ids. Ok (record { variables = v; tree = tree; ids = ids })) ≡ Ok vtree → IsVtree vtree.tree
    last v tree (Ok ids) is e =
        let same : record { variables = v; tree = tree; ids = ids } ≡ vtree = cc in
        subst (λ (c : CheckedVtree). IsVtree c.tree) same is
    last v tree (Err fault) is e = let bad : ⊥ = cc in absurd bad

    with_tree_of : (v : ℕ) (tree : Result Tree (List ℕ)) → vtree_file v bytes ≡ tree
        → (tree >>= λ tree. ids_of v bytes >>= λ ids. Ok (record { variables = v; tree = tree; ids = ids })) ≡ Ok vtree
        → IsVtree vtree.tree
    with_tree_of v (Ok tree) is e = last v tree (ids_of v bytes) (accepted v bytes tree is).vtree e
    with_tree_of v (Err fault) is e = let bad : ⊥ = cc in absurd bad

    by : (v : Result ℕ (List ℕ))
        → (v >>= λ v. vtree_file v bytes >>= λ tree. ids_of v bytes >>= λ ids.
        Ok (record { variables = v; tree = tree; ids = ids })) ≡ Ok vtree → IsVtree vtree.tree
    by (Ok v) e = with_tree_of v (vtree_file v bytes) refl e
    by (Err fault) e = let bad : ⊥ = cc in absurd bad

sound_checked : (job : Job) (file : List ℕ) (vtree : CheckedVtree) (text : Text) → IsVtree vtree.tree
    → AreSound (with_sdd vtree.variables file (with_checked job vtree) text)
sound_checked job file vtree text is = sound_sdd vtree.variables file (with_checked job vtree) text (λ read. is)

sound_check : (job : Job) (file : List ℕ) (word : TreeWord) → AreSound (with_check job file word)
sound_check job file trees.Balanced = inl refl
sound_check job file trees.Right = inl refl
sound_check job file trees.Left = inl refl
sound_check job file (trees.File tree) = λ text. read text
  where
    next : CheckedVtree → Point
    next vtree = reads 2 (sdd_file vtree.variables) file (with_checked job vtree)

    go : (bytes : List ℕ) (read : Result CheckedVtree (List ℕ)) → checked_vtree bytes ≡ read
        → AreSound (or_refused 2 tree next read)
    go bytes (Ok vtree) is = λ text. sound_checked job file vtree text (checked_tree bytes vtree is)
    go bytes (Err fault) is = inr (inl refl)

    read : (text : Text) → AreSound (parsed 2 checked_vtree tree next text)
    read None = inr (inl refl)
    read (Some bytes) = go bytes (checked_vtree bytes) refl

-- ---- the words

sound_input_word : (job : Job) (word : InputWord) → IsInRange word → AreSound (with_input_word job word)
sound_input_word job (inputs.Cnf file) fits = λ text. sound_input job (record { kind = kinds.Cnf; file = file }) text
sound_input_word job (inputs.Dnf file) fits = λ text. sound_input job (record { kind = kinds.Dnf; file = file }) text
sound_input_word job (inputs.Generate count seed) fits =
    sound_tree_word job (generated_formula count seed) no_circuit job.tree (some_of count seed fits)
  where
    some_of : (n s : ℕ) → IsGenerable n s → 1 ≤ n
    some_of n s fits = let three = fits.at_least_three in omega arith
sound_input_word job (inputs.Aag file) fits = λ text. sound_circuit job file text
sound_input_word job (inputs.Check file) fits = sound_check job file job.tree

sound_words : (ws : List (List ℕ)) → AreSound (reading_of ws)
sound_words ws = go (job_of ws) refl
  where
    go : (job : Result Job (List ℕ)) → job_of ws ≡ job → AreSound (with_job job)
    go (Ok job) is = sound_input_word job job.input (in_range ws job is)
    go (Err fault) is = inl refl

-- a run is refused with one of three statuses
pub refused_with : (told : Option Files) (ws : List (List ℕ)) (refusal : ℕ × List ℕ)
    → ReadsTo told (reading_of ws) (Refuses refusal) → IsRefusedWith refusal.0
refused_with told ws refusal a = sound_refusal told (reading_of ws) refusal (sound_words ws) a

-- the plan of a run begins with a vtree
pub valid_start : (told : Option Files) (ws : List (List ℕ)) (plan : Plan)
    → ReadsTo told (reading_of ws) (point_of plan) → IsVtree plan.start.tree
valid_start told ws plan a = sound_plan told (reading_of ws) plan (sound_words ws) a
