-- A run without a script passes its limit where the first groups of its input do.
use Rattle.std.proofs.Common.{◌≡◌, ℕ, List, [], ◌∷◌, ◌++◌, length, Option, Some, None, inl, inr}
use Rattle.std.proofs.Common.{refl, sym, ap, subst, ◌∙◌, lit≤}
use Rattle.sd_base.specs.Files.{Files}
use Rattle.sd_model.specs.Tree.{Tree}
use Rattle.sd_manager.specs.Table.{Table}
use Rattle.sd_formula.specs.Dimacs.{Groups}
use Rattle.sd_words.specs.declared.jobs.Job.{Job}
use Rattle.sd_words.specs.declared.jobs.InputWord.{InputWord}
use Rattle.sd_words.specs.declared.jobs.InputWord.TheVariants as inputs
use Rattle.sd_commands.specs.Effects.{Effect}
use Rattle.sd_commands.specs.Commands.{State, Done, OverLimit as PassesLimit, Step, Steps, PassesAtGroup}
use Rattle.sd_commands.specs.Commands.{BindsInput}
use Rattle.sd_commands.specs.Standing.{start}
use Rattle.sd_commands.specs.declared.command.NumberedCommand.{NumberedCommand}
use Rattle.sd_commands.specs.declared.command.RunCommand.TheVariants as commands
use Rattle.sd_tool.specs.inside.Course.{EndsAmong, MayEnd}
use Rattle.sd_tool.specs.Devices.{Seen, WritesEndLine}
use Rattle.sd_tool.specs.Ends.{OverLimit}
use Rattle.sd_tool.specs.Laws.{HasLimit}
use Rattle.sd_tool.specs.inside.ByStatus.{IsOneCourse}
use Rattle.sd_tool.specs.Readings.{reading_of, announcement}
use Rattle.sd_tool.specs.inside.Plans.{Plan}
use Rattle.sd_tool.specs.inside.Readings.{in_lines, for_file}
use Rattle.sd_tool.specs.inside.Readings.{search_of}
use Rattle.sd_tool.specs.Written.{IsStartTree}
use Rattle.sd_tool.specs.inside.Readings.{IsInput}
use Rattle.sd_tool.proofs.ByStatus.{end_at}
use Rattle.sd_tool.proofs.PlainPlans.{plain_plan}
use Rattle.sd_tool.proofs.OneRun.{comes_to_own, plain_input, leads_to_plan, same_plan}
use Rattle.sd_tool.proofs.WrittenLemmas.{announces}

-- ---- commands that pass no limit

-- none of these commands passes a limit, in any state
abbrev pub AreQuiet : Groups → List NumberedCommand → Type 0
AreQuiet input [] = Unit {0}
AreQuiet input (c ∷ cs) =
    ((state : State) (group : Option ℕ) (size limit : ℕ) → Step input state c.command (PassesLimit group size limit)
    → ⊥)
    × AreQuiet input cs

-- so neither does one of them
quiet_at : (input : Groups) (state : State) (all done left : List NumberedCommand) (next : NumberedCommand)
    (group : Option ℕ) (size limit : ℕ) → done ++ next ∷ left ≡ all → AreQuiet input all
    → Step input state next.command (PassesLimit group size limit) → ⊥
quiet_at input state [] [] left next group size limit same quiet refused = cc
quiet_at input state [] (d ∷ done) left next group size limit same quiet refused = cc
quiet_at input state (c ∷ cs) [] left next group size limit same quiet refused =
    let one : next ≡ c = cc in
    quiet.0 state group size limit
    (subst (λ (x : NumberedCommand). Step input state x.command (PassesLimit group size limit)) one refused)
quiet_at input state (c ∷ cs) (d ∷ done) left next group size limit same quiet refused =
    let rest : done ++ next ∷ left ≡ cs = cc in
    quiet_at input state cs done left next group size limit rest quiet.1 refused

-- the commands after the input
abbrev pub after_input : Job → List NumberedCommand
after_input job = in_lines 2
    (search_of job.minimise ++ for_file commands.WriteVtree job.out_vtree ++ for_file (commands.Write (0 ∷ []))
    job.out_sdd
    ++ commands.Size 0 ∷ [])

quiet_after : (input : Groups) (job : Job) → AreQuiet input (after_input job)
quiet_after input job = go job.minimise job.out_vtree job.out_sdd
  where
    search : (rounds : ℕ) (state : State) (group : Option ℕ) (size limit : ℕ)
        → Step input state (commands.Minimise rounds) (PassesLimit group size limit) → ⊥
    search rounds state group size limit p = let e = p.2 in cc

    vtree : (file : List ℕ) (state : State) (group : Option ℕ) (size limit : ℕ)
        → Step input state (commands.WriteVtree file) (PassesLimit group size limit) → ⊥
    vtree file state group size limit p = cc

    diagram : (file : List ℕ) (state : State) (group : Option ℕ) (size limit : ℕ)
        → Step input state (commands.Write (0 ∷ []) file) (PassesLimit group size limit) → ⊥
    diagram file state group size limit p = let e = p.2 in cc

    printed : (state : State) (group : Option ℕ) (size limit : ℕ)
        → Step input state (commands.Size 0) (PassesLimit group size limit) → ⊥
    printed state group size limit p = let e = p.2 in cc

    go : (n : Option ℕ) (t d : Option (List ℕ)) → AreQuiet input (in_lines 2
        (search_of n ++ for_file commands.WriteVtree t ++ for_file (commands.Write (0 ∷ [])) d ++ commands.Size 0 ∷ []))
    go None None None = (printed, tt)
    go None None (Some d) = (diagram d, (printed, tt))
    go None (Some t) None = (vtree t, (printed, tt))
    go None (Some t) (Some d) = (vtree t, (diagram d, (printed, tt)))
    go (Some n) None None = (search n, (printed, tt))
    go (Some n) None (Some d) = (search n, (diagram d, (printed, tt)))
    go (Some n) (Some t) None = (search n, (vtree t, (printed, tt)))
    go (Some n) (Some t) (Some d) = (search n, (vtree t, (diagram d, (printed, tt))))

-- ---- the input is refused

-- the input, in line 1
abbrev pub input_line : NumberedCommand
input_line = record { line = 1; command = commands.Input 0 }

-- the refused command is the input, at the start
record IsAtInput (first state : State) (next : NumberedCommand) : Type 0 where
  next_is : next ≡ input_line
  state_is : state ≡ first

-- a command that is refused is the input
at_input : (input formula : Groups) (first state : State) (word : InputWord) (rest done left : List NumberedCommand)
    (next : NumberedCommand) (effects : List Effect) (group : Option ℕ) (size limit : ℕ) → AreQuiet input rest
    → done ++ next ∷ left ≡ announcement word formula ++ input_line ∷ rest → Steps input first done effects state
    → Step input state next.command (PassesLimit group size limit) → IsAtInput first state next
at_input input formula first state (inputs.Cnf file) rest [] left next effects group size limit quiet same p refused =
    record { next_is = cc; state_is = p.1 }
at_input input formula first state (inputs.Dnf file) rest [] left next effects group size limit quiet same p refused =
    record { next_is = cc; state_is = p.1 }
at_input input formula first state (inputs.Cnf file) rest (d ∷ done) left next effects group size limit quiet same p
    refused =
    let later : done ++ next ∷ left ≡ rest = cc in
    absurd (quiet_at input state rest done left next group size limit later quiet refused)
at_input input formula first state (inputs.Dnf file) rest (d ∷ done) left next effects group size limit quiet same p
    refused =
    let later : done ++ next ∷ left ≡ rest = cc in
    absurd (quiet_at input state rest done left next group size limit later quiet refused)
at_input input formula first state (inputs.Aag file) rest [] left next effects group size limit quiet same p refused =
    record { next_is = cc; state_is = p.1 }
at_input input formula first state (inputs.Check file) rest [] left next effects group size limit quiet same p refused =
    record { next_is = cc; state_is = p.1 }
at_input input formula first state (inputs.Aag file) rest (d ∷ done) left next effects group size limit quiet same p
    refused =
    let later : done ++ next ∷ left ≡ rest = cc in
    absurd (quiet_at input state rest done left next group size limit later quiet refused)
at_input input formula first state (inputs.Check file) rest (d ∷ done) left next effects group size limit quiet same p
    refused =
    let later : done ++ next ∷ left ≡ rest = cc in
    absurd (quiet_at input state rest done left next group size limit later quiet refused)
at_input input formula first state (inputs.Generate count seed) rest [] left next effects group size limit quiet same p
    refused =
    let one : next.command ≡ commands.Generated formula.variables (length formula.groups) =
    let e : ◌≡◌ {A = List NumberedCommand} (next ∷ left) (record {
      line = 0;
      command = commands.Generated formula.variables (length formula.groups);
    } ∷ input_line ∷ rest) = same in cc in
    let bad = subst (λ c. Step input state c (PassesLimit group size limit)) one refused in
    absurd cc
at_input input formula first state (inputs.Generate count seed) rest (d ∷ []) left next effects group size limit quiet
    same p refused =
    let one : d.command ≡ commands.Generated formula.variables (length formula.groups) = cc in
    let done = subst (λ c. Step input first c (Done p.0 p.1)) one p.3 in
    let begun : p.0 ≡ first = cc in
    record { next_is = cc; state_is = p.4.1 ∙ begun }
at_input input formula first state (inputs.Generate count seed) rest (d ∷ e ∷ done) left next effects group size limit
    quiet same p refused =
    let later : done ++ next ∷ left ≡ rest = cc in
    absurd (quiet_at input state rest done left next group size limit later quiet refused)

-- an input that is refused passes the limit at one of its groups
refused_group : (input : Groups) (state : State) (name : ℕ) (group : Option ℕ) (size limit : ℕ)
    → BindsInput input state name (PassesLimit group size limit)
    → (g : ℕ) × PassesAtGroup input state g size × (group ≡ Some g) × (limit ≡ state.limit)
refused_group input state name group size limit (inl p) = let e = p.2 in let bad : ⊥ = cc in absurd bad
refused_group input state name group size limit (inr p) =
    let e = p.3 in
    let same : p.1 ≡ size = cc in
    (p.0, subst (PassesAtGroup input state p.0) same p.2, cc, cc)

-- ---- the run

-- the plan of an input on its start tree
abbrev pub plan_of_input : Job → Groups → Tree → Plan
plan_of_input job formula tree = plain_plan job formula tree

-- where its commands pass the limit, the input does
passes_among : (job : Job) (formula : Groups) (tree : Tree) (effects : List Effect) (line : ℕ) (group : Option ℕ)
    (size limit : ℕ) → EndsAmong (plan_of_input job formula tree) effects (OverLimit line group size limit)
    → (g : ℕ) × PassesAtGroup formula (start tree job.limit job.slack job.every) g size
    × (OverLimit line group size limit ≡ OverLimit 1 (Some g) size job.limit)
passes_among job formula tree effects line group size limit (state, next, at, is_line, refused) =
    let first = start tree job.limit job.slack job.every in
    let is = at_input formula formula first state job.input (after_input job) at.reaches.done at.left next effects
    group size limit (quiet_after formula job) at.reaches.in_order at.reaches.steps refused in
    let own = subst (λ s. Step formula s (commands.Input 0) (PassesLimit group size limit)) is.state_is
    (subst (λ (n : NumberedCommand). Step formula state n.command (PassesLimit group size limit)) is.next_is refused) in
    let found = refused_group formula first 0 group size limit own in
    let one : line ≡ 1 = sym is_line ∙ ap (λ (n : NumberedCommand). n.line) is.next_is in
    let told = found.2 in
    let most = found.3 in
    (found.0, found.1, cc)

-- so do those of the words and files
passes_input : (words : List (List ℕ)) (files : Files) (job : Job) (formula : Groups) (tree : Tree)
    (effects : List Effect) (line : ℕ) (group : Option ℕ) (size limit : ℕ) → IsInput words files job formula
    → IsStartTree files job.tree formula.variables tree
    → MayEnd words (Some files) effects (OverLimit line group size limit)
    → (g : ℕ) × PassesAtGroup formula (start tree job.limit job.slack job.every) g size
    × (OverLimit line group size limit ≡ OverLimit 1 (Some g) size job.limit)
passes_input words files job formula tree effects line group size limit input begins (inl p) = absurd p.0
passes_input words files job formula tree effects line group size limit input begins (inr p) =
    let leads = leads_to_plan words files job formula tree input begins in
    let same = same_plan files (reading_of words) p.0 (plan_of_input job formula tree) p.1 leads in
    passes_among job formula tree effects line group size limit
    (subst (λ (q : Plan). EndsAmong q effects (OverLimit line group size limit)) same p.2)

-- the line of a generated formula, done
announced_steps : (formula : Groups) (state : State) (word : InputWord)
    → Steps formula state (announcement word formula) (announces word formula) state
announced_steps formula state (inputs.Cnf file) = (refl, refl)
announced_steps formula state (inputs.Dnf file) = (refl, refl)
announced_steps formula state (inputs.Aag file) = (refl, refl)
announced_steps formula state (inputs.Check file) = (refl, refl)
announced_steps formula state (inputs.Generate count seed) = (state, _, [], refl, (refl, refl), refl)

-- an input that passes the limit is where the words and files lead
leads_to_limit : (words : List (List ℕ)) (files : Files) (job : Job) (formula : Groups) (tree : Tree) (group size : ℕ)
    → IsInput words files job formula → IsStartTree files job.tree formula.variables tree
    → PassesAtGroup formula (start tree job.limit job.slack job.every) group size
    → MayEnd words (Some files) (announces job.input formula) (OverLimit 1 (Some group) size job.limit)
leads_to_limit words files job formula tree group size input begins passes =
    let first = start tree job.limit job.slack job.every in
    inr (
      plan_of_input job formula tree,
      leads_to_plan words files job formula tree input begins,
      (
        first,
        input_line,
        record {
          left = after_input job;
          reaches = record {
            done = announcement job.input formula;
            in_order = refl;
            steps = announced_steps formula first job.input;
          };
        },
        refl,
        inr (group, size, passes, refl),
      ),
    )

-- a run without a script passes its limit where its input does
pub limited_at : (words : List (List ℕ)) (status : ℕ) (kept : Option Table) (seen : Seen)
    → IsOneCourse words status kept seen → HasLimit words status seen
limited_at words status kept seen went = λ run.
    let given = run.given in
    let input = plain_input run in (
      λ four.
          let passed = (end_at words status kept seen went).over_limit four in
          let found = passes_input words given.files given.job given.formula given.tree passed.effects passed.at_line
          passed.group passed.size passed.limit input given.starts
          (subst (λ f. MayEnd words f passed.effects
          (OverLimit passed.at_line passed.group passed.size passed.limit)) given.told passed.in_hand) in (
            found.0,
            passed.size,
            found.1,
            subst (λ e. WritesEndLine e seen.old seen.new) found.2 passed.line,
          ),
      λ group size passes calm.
          elim (comes_to_own words status kept seen went calm given.files given.told
          (announces given.job.input given.formula) (OverLimit 1 (Some group) size given.job.limit) (lit≤ tt)
          (leads_to_limit words given.files given.job given.formula given.tree group size input given.starts passes)) [
            | inl own ↦ inl own.0
            | inr free ↦ inr free
          ],
    )
