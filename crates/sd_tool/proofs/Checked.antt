-- At status 0 a check prints the verdict on its file.
use Rattle.std.proofs.Common.{◌≡◌, ℕ, List, [], ◌∷◌, ◌++◌, Option, Some, None, Result, Ok, Err}
use Rattle.std.proofs.Common.{inl, inr, refl, ap, subst, ◌∙◌}
use Rattle.std.specs.FinMap.{get}
use Rattle.sd_base.specs.Files.{Files}
use Rattle.sd_check.specs.Rules.{HasVerdict}
use Rattle.sd_check.specs.declared.rules.Verdict.{Verdict}
use Rattle.sd_file.specs.Reads.{File, sdd_file}
use Rattle.sd_formula.specs.Formulas.{no_groups}
use Rattle.sd_formula.specs.declared.formula.Kind.TheVariants as kinds
use Rattle.sd_manager.specs.Table.{Table}
use Rattle.sd_words.specs.declared.jobs.Job.{Job}
use Rattle.sd_words.specs.declared.jobs.TreeWord.TheVariants as trees
use Rattle.sd_commands.specs.Effects.{Effect, Print}
use Rattle.sd_commands.specs.Commands.{State, Steps, no_circuit, verdict_line}
use Rattle.sd_commands.specs.declared.command.RunCommand.TheVariants as commands
use Rattle.sd_tool.specs.Devices.{Seen}
use Rattle.sd_tool.specs.Effects.{Contents}
use Rattle.sd_tool.specs.Ends.{Finished}
use Rattle.sd_tool.specs.Laws.{HasChecked}
use Rattle.sd_tool.specs.Readings.{CheckedVtree, Point, checked_vtree, first_state, or_refused, reading_of, reads}
use Rattle.sd_tool.specs.Readings.{with_check, with_checked, with_input_word}
use Rattle.sd_tool.specs.Written.{ReadsAs, WritesVerdict}
use Rattle.sd_tool.specs.inside.ByStatus.{IsOneCourse}
use Rattle.sd_tool.specs.inside.Course.{MayEnd, ReadsTo, after_effects}
use Rattle.sd_tool.specs.inside.Plans.{Plan, point_of}
use Rattle.sd_tool.specs.inside.Readings.{with_job}
use Rattle.sd_tool.proofs.ByStatus.{effects_at}
use Rattle.sd_tool.proofs.OneCourse.{whole_plan}
use Rattle.sd_tool.proofs.OnePoint.{one_plan_at}

-- a file that was read before a plan is there and reads so
pub record WasRead {A : Type 0} (files : Files) (read : List ℕ → Result A (List ℕ)) (file : List ℕ) (next : A → Point)
    (plan : Plan)
    : Type 0 where
  pub value : A
  pub reads_as : ReadsAs files file read value
  pub goes_on : ReadsTo (Some files) (next value) (point_of plan)

pub was_read : {A : Type 0} (files : Files) (read : List ℕ → Result A (List ℕ)) (file : List ℕ) (next : A → Point)
    (plan : Plan) → ReadsTo (Some files) (reads 2 read file next) (point_of plan)
    → WasRead files read file next plan
was_read files read file next plan (inl p) = let bad : ⊥ = cc in absurd bad
was_read files read file next plan (inr (None, has, p)) = let bad : ⊥ = cc in absurd bad
was_read {A = A} files read file next plan (inr (Some bytes, has, p)) = go (read bytes) refl p
  where
    go : (result : Result A (List ℕ)) → read bytes ≡ result
        → ReadsTo (Some files) (or_refused 2 file next result) (point_of plan) → WasRead files read file next plan
    go (Err fault) is p = let bad : ⊥ = cc in absurd bad
    go (Ok value) is p = record { value = value; reads_as = (bytes, has.0, has.1, is); goes_on = p }

-- the plan of a check
abbrev check_plan : Job → CheckedVtree → File → Plan
check_plan job vtree read = record {
  input = no_groups kinds.Cnf vtree.variables;
  start = first_state job vtree.tree no_circuit;
  commands = record { line = 0; command = commands.Check read vtree.ids } ∷ [];
}

-- its one command prints the verdict
record IsVerdictTold (vtree : CheckedVtree) (read : File) (effects : List Effect) : Type 0 where
  verdict : Verdict
  is_verdict : HasVerdict vtree.tree (get vtree.ids) read verdict
  are : effects ≡ Print (verdict_line read verdict) ∷ []

verdict_told : (job : Job) (vtree : CheckedVtree) (read : File) (effects : List Effect) (last : State)
    → Steps (no_groups kinds.Cnf vtree.variables) (first_state job vtree.tree no_circuit)
    (record { line = 0; command = commands.Check read vtree.ids } ∷ []) effects last
    → IsVerdictTold vtree read effects
verdict_told job vtree read effects last (mid, first, others, (verdict, is_verdict, done), steps, is) =
    let told : first ≡ Print (verdict_line read verdict) ∷ [] = cc in
    record {
      verdict = verdict;
      is_verdict = is_verdict;
      are = is ∙ ap (λ (l : List Effect). l ++ others) told
          ∙ ap (λ l. Print (verdict_line read verdict) ∷ l) steps.0;
    }

pub checked_at : (words : List (List ℕ)) (status : ℕ) (kept : Option Table) (seen : Seen)
    → IsOneCourse words status kept seen → HasChecked words status seen
checked_at words status kept seen went files job file tree_file zero_ told named asks over =
    let all = (effects_at words status kept seen went).all zero_ in
    go all.0 (subst (λ f. MayEnd words f all.0 Finished) told all.1) all.2
  where
    at_check : ReadsTo (Some files) (reading_of words)
        ≡ ReadsTo (Some files) (with_check job file (trees.File tree_file))
    at_check =
        ap (λ j. ReadsTo (Some files) (with_job j)) named
        ∙ ap (λ word. ReadsTo (Some files) (with_input_word job word)) asks
        ∙ ap (λ word. ReadsTo (Some files) (with_check job file word)) over

    go : (effects : List Effect) → MayEnd words (Some files) effects Finished
        → seen.new.contents ≡ after_effects effects seen.old.contents → WritesVerdict file tree_file files seen
    go effects (inl p) is = absurd p.0
    go effects (inr (plan, led, ends)) is =
        let vtree = was_read files checked_vtree tree_file
        (λ vtree. reads 2 (sdd_file vtree.variables) file (with_checked job vtree)) plan
        (subst (λ (reaches : Point → Type 0). reaches (point_of plan)) at_check led) in
        let diagram = was_read files (sdd_file vtree.value.variables) file (with_checked job vtree.value) plan
        vtree.goes_on in
        let same : plan ≡ check_plan job vtree.value diagram.value =
        one_plan_at plan (check_plan job vtree.value diagram.value) diagram.goes_on in
        let done = verdict_told job vtree.value diagram.value effects ends.0
        (subst (λ (p : Plan). Steps p.input p.start p.commands effects ends.0) same
        (whole_plan plan ends.0 effects ends.1)) in
        let now = is ∙ ap (λ l. after_effects l seen.old.contents) done.are in
        record {
          vtree = vtree.value;
          reads_vtree = vtree.reads_as;
          diagram = diagram.value;
          reads_diagram = diagram.reads_as;
          verdict = done.verdict;
          is_verdict = done.is_verdict;
          files_are = ap (λ (o : Contents). o.files) now ∙ told;
          printed_is = ap (λ (o : Contents). o.printed) now;
        }
