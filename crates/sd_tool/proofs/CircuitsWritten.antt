-- At status 0 a run of a circuit writes the text of the diagrams of its outputs.
use Rattle.std.proofs.Common.{arith, ◌≡◌, ℕ, ◌+◌, ◌<◌, ◌≤◌, zero, suc, Bool, false, List, [], ◌∷◌, ◌++◌, length, map}
use Rattle.std.proofs.Common.{append_assoc, Option, Some, None, inl, inr, refl, sym, ap, ap₂, subst, ◌∙◌}
use Rattle.std.specs.Prelude.{fold, if◌then◌else◌}
use Rattle.std.specs.FinMap.{insert}
use Rattle.std.specs.List.{AllZip, range_with_len}
use Rattle.std.specs.Option.{unwrap_or}
use Rattle.std.proofs.lemmas.Bool.{eq-eqb, ne_eqb}
use Rattle.sd_aiger.specs.Reads.{aiger}
use Rattle.sd_base.specs.Files.{Files, told_with}
use Rattle.sd_base.specs.Sink.{told_then}
use Rattle.sd_model.specs.Circuit.{Circuit}
use Rattle.sd_model.specs.Expression.{Expression, Constant, OutputOf}
use Rattle.sd_model.specs.Diagram.{Diagram}
use Rattle.sd_model.specs.Size.{IsDiagramOf, size_of}
use Rattle.sd_model.specs.Text.{roots_text, vtree_text}
use Rattle.sd_model.specs.Tree.{Tree, IsVtree}
use Rattle.sd_model.proofs.Determined.{diagram_determined}
use Rattle.sd_formula.specs.Dimacs.{Groups}
use Rattle.sd_formula.specs.Formulas.{no_groups}
use Rattle.sd_formula.specs.declared.formula.Kind.TheVariants as kinds
use Rattle.sd_manager.specs.Table.{Table}
use Rattle.sd_words.proofs.Fitting.{job_fits_together}
use Rattle.sd_words.specs.declared.jobs.Job.{Job}
use Rattle.sd_words.specs.declared.jobs.InputWord.{InputWord}
use Rattle.sd_words.specs.declared.jobs.InputWord.TheVariants as inputs
use Rattle.sd_commands.specs.Effects.{Effect, Write, Print}
use Rattle.sd_commands.specs.Commands.{State, Steps, IsTextOf, formula_named, formulas_of, named, search_line}
use Rattle.sd_commands.specs.Commands.{size_line, with_name}
use Rattle.sd_commands.specs.declared.command.NumberedCommand.{NumberedCommand}
use Rattle.sd_commands.specs.declared.command.RunCommand.{RunCommand}
use Rattle.sd_commands.specs.declared.command.RunCommand.TheVariants as commands
use Rattle.sd_commands.proofs.Outcomes.{settled_done}
use Rattle.sd_commands.proofs.Searched.{search_valid}
use Rattle.sd_tool.specs.Devices.{Seen}
use Rattle.sd_tool.specs.Effects.{Contents}
use Rattle.sd_tool.specs.Ends.{Finished}
use Rattle.sd_tool.specs.Laws.{HasCircuits}
use Rattle.sd_tool.specs.Readings.{announcement, choice, default_of, first_state, with_circuit}
use Rattle.sd_tool.specs.Readings.{with_input_word}
use Rattle.sd_tool.specs.Written.{IsFoundFor, WritesOutputs, outputs_of, with_output}
use Rattle.sd_tool.specs.inside.ByStatus.{IsOneCourse}
use Rattle.sd_tool.specs.inside.Course.{MayEnd, ReadsTo, after_effects}
use Rattle.sd_tool.specs.inside.Plans.{Plan, point_of}
use Rattle.sd_tool.specs.inside.Readings.{for_file, in_lines, search_of, with_job}
use Rattle.sd_tool.proofs.ByStatus.{effects_at}
use Rattle.sd_tool.proofs.Checked.{was_read}
use Rattle.sd_tool.proofs.Circuits.{both_kinds}
use Rattle.sd_tool.proofs.OneCourse.{whole_plan}
use Rattle.sd_tool.proofs.SoundReadings.{valid_start}
use Rattle.sd_tool.proofs.WrittenLemmas.{from_word, one_diagram}

-- ---- the files behind effects

-- the files that effects leave: a line changes none
abbrev written_in : List Effect → Option Files → Option Files
written_in [] told = told
written_in (Write file bytes ∷ effects) told = written_in effects (told_with told file bytes)
written_in (Print line ∷ effects) told = written_in effects told

-- what effects print
abbrev printed_in : List Effect → Option (List ℕ) → Option (List ℕ)
printed_in [] told = told
printed_in (Write file bytes ∷ effects) told = printed_in effects told
printed_in (Print line ∷ effects) told = printed_in effects (told_then told line)

printed_by : (effects : List Effect) (old : Contents)
    → (after_effects effects old).printed ≡ printed_in effects old.printed
printed_by [] old = refl
printed_by (Write file bytes ∷ effects) old =
    printed_by effects (record old { files = told_with old.files file bytes })
printed_by (Print line ∷ effects) old = printed_by effects (record old { printed = told_then old.printed line })

files_by : (effects : List Effect) (old : Contents) → (after_effects effects old).files ≡ written_in effects old.files
files_by [] old = refl
files_by (Write file bytes ∷ effects) old =
    files_by effects (record old { files = told_with old.files file bytes })
files_by (Print line ∷ effects) old = files_by effects (record old { printed = told_then old.printed line })

-- ---- the names of the outputs

-- the names with those of so many outputs before them, the last first
abbrev output_names : Circuit → List (ℕ × Expression) → (first count : ℕ) → List (ℕ × Expression)
output_names c names first zero = names
output_names c names first (suc n) = output_names c ((first, OutputOf c first) ∷ names) (first + 1) n

-- the state with them
abbrev with_outputs : State → (first count : ℕ) → State
with_outputs state first count = record state { names = output_names state.circuit state.names first count }

-- their formulas, the last first
formulas_back : (c : Circuit) (names : List (ℕ × Expression)) (first n : ℕ)
    → map (λ entry. entry.1) (output_names c names first n)
    ≡ fold (λ fs f. f ∷ fs) (map (λ entry. entry.1) names) (map (OutputOf c) (range_with_len first n))
formulas_back c names first zero = refl
formulas_back c names first (suc n) = formulas_back c ((first, OutputOf c first) ∷ names) (first + 1) n

-- the formula of a name among names
abbrev named_in : List (ℕ × Expression) → ℕ → Expression
named_in names j = unwrap_or (named names j) (Constant false)

-- a lower name keeps its formula
still_named : (c : Circuit) (names : List (ℕ × Expression)) (j first n : ℕ) → j < first
    → named_in (output_names c names first n) j ≡ named_in names j
still_named c names j first zero less = refl
still_named c names j first (suc n) less =
    still_named c ((first, OutputOf c first) ∷ names) j (first + 1) n (omega (arith, less))
    ∙ rw (ne_eqb first j (λ e. omega (arith, less, e))) refl

-- each output's name stands for it
outputs_named : (c : Circuit) (names : List (ℕ × Expression)) (first n : ℕ)
    → map (named_in (output_names c names first n)) (range_with_len first n)
    ≡ map (OutputOf c) (range_with_len first n)
outputs_named c names first zero = refl
outputs_named c names first (suc n) =
    let more = (first, OutputOf c first) ∷ names in
    let own : named_in (output_names c more (first + 1) n) first ≡ OutputOf c first =
    still_named c more first (first + 1) n (omega arith) ∙ rw (eq-eqb first first refl) refl in
    ap₂ (λ x xs. x ∷ xs) own (outputs_named c more (first + 1) n)

-- ---- the commands, done

-- the outputs are bound, without an effect
bind_outputs : (input : Groups) (state last : State) (line first n : ℕ) (rest : List RunCommand) (effects : List Effect)
    → Steps input state (in_lines line (map (λ i. commands.Output i i) (range_with_len first n) ++ rest)) effects last
    → (next : ℕ) × Steps input (with_outputs state first n) (in_lines next rest) effects last
bind_outputs input state last line first zero rest effects p = (line, p)
bind_outputs input state last line first (suc n) rest effects (mid, one, others, step, steps, is) =
    let bound = with_name state first (OutputOf state.circuit first) in
    let done = settled_done bound mid one step in
    let others_cs = map (λ i. commands.Output i i) (range_with_len (first + 1) n) ++ rest in
    let again = bind_outputs input bound last (line + 1) (first + 1) n rest others
    (subst (λ s. Steps input s (in_lines (line + 1) others_cs) others last) done.0 steps) in
    let same : effects ≡ others = is ∙ ap (λ (l : List Effect). l ++ others) done.1 in (
      again.0,
      subst (λ l. Steps input (with_outputs state first (suc n)) (in_lines again.0 rest) l last) (sym same) again.1,
    )

-- commands are left, behind which the files are these, and this is printed
record Left (input : Groups) (state last : State) (rest : List RunCommand) (effects : List Effect) (old new : Files)
    (before told : Option (List ℕ))
    : Type 0 where
  next : ℕ
  others : List Effect
  steps : Steps input state (in_lines next rest) others last
  files_are : written_in effects (Some old) ≡ written_in others (Some new)
  printed_is : printed_in effects before ≡ printed_in others told

-- the search of the words
search_first : (input : Groups) (state last : State) (line : ℕ) (rounds : Option ℕ) (rest : List RunCommand)
    (effects : List Effect) (files : Files) (printed : Option (List ℕ)) → IsVtree state.tree
    → Steps input state (in_lines line (search_of rounds ++ rest)) effects last
    → (tree : Tree) × (told : Option (List ℕ)) × IsVtree tree
    × IsFoundFor rounds state.slack (formulas_of state) state.tree printed tree told
    × Left input (record state { tree = tree }) last rest effects files files printed told
search_first input state last line None rest effects files printed valid p = (
  state.tree,
  printed,
  valid,
  (refl, refl),
  record { next = line; others = effects; steps = p; files_are = refl; printed_is = refl },
)
search_first input state last line (Some rounds) rest effects files printed valid
    (mid, first, others, (found, is_search, done), steps, is) =
    let same : mid ≡ record state { tree = found.tree } = cc in
    let line_is : first ≡ Print (search_line found.before found.after found.rounds) ∷ [] = cc in
    let are = is ∙ ap (λ (l : List Effect). l ++ others) line_is in (
      found.tree,
      told_then printed (search_line found.before found.after found.rounds),
      search_valid valid is_search,
      (found, is_search, refl, refl),
      record {
        next = line + 1;
        others = others;
        steps = subst (λ s. Steps input s (in_lines (line + 1) rest) others last) same steps;
        files_are = ap (λ l. written_in l (Some files)) are;
        printed_is = ap (λ l. printed_in l printed) are;
      },
    )

-- the vtree is written
vtree_next : (input : Groups) (state last : State) (line : ℕ) (out : Option (List ℕ)) (rest : List RunCommand)
    (effects : List Effect) (files : Files) (printed : Option (List ℕ))
    → Steps input state (in_lines line (for_file commands.WriteVtree out ++ rest)) effects last
    → Left input state last rest effects files (with_output out (vtree_text state.tree) files) printed printed
vtree_next input state last line None rest effects files printed p =
    record { next = line; others = effects; steps = p; files_are = refl; printed_is = refl }
vtree_next input state last line (Some file) rest effects files printed (mid, first, others, done, steps, is) =
    let same : mid ≡ state = cc in
    let wrote : first ≡ Write file (vtree_text state.tree) ∷ [] = cc in
    let are = is ∙ ap (λ (l : List Effect). l ++ others) wrote in
    record {
      next = line + 1;
      others = others;
      steps = subst (λ s. Steps input s (in_lines (line + 1) rest) others last) same steps;
      files_are = ap (λ l. written_in l (Some files)) are;
      printed_is = ap (λ l. printed_in l printed) are;
    }

-- the diagrams are written
diagrams_next : (input : Groups) (state last : State) (line : ℕ) (names : List ℕ) (file : List ℕ)
    (rest : List RunCommand) (effects : List Effect) (files : Files) (printed : Option (List ℕ))
    → Steps input state (in_lines line (commands.Write names file ∷ rest)) effects last
    → (text : List ℕ) × IsTextOf state.tree (map (formula_named state) names) text
    × Left input state last rest effects files (insert files file text) printed printed
diagrams_next input state last line names file rest effects files printed
    (mid, first, others, (text, is_text, done), steps, is) =
    let same : mid ≡ state = cc in
    let wrote : first ≡ Write file text ∷ [] = cc in
    let are = is ∙ ap (λ (l : List Effect). l ++ others) wrote in (
      text,
      is_text,
      record {
        next = line + 1;
        others = others;
        steps = subst (λ s. Steps input s (in_lines (line + 1) rest) others last) same steps;
        files_are = ap (λ l. written_in l (Some files)) are;
        printed_is = ap (λ l. printed_in l printed) are;
      },
    )

-- sizes change no file
sizes_last : (input : Groups) (state last : State) (line : ℕ) (names : List ℕ) (effects : List Effect)
    (told : Option Files) → Steps input state (in_lines line (map commands.Size names)) effects last
    → written_in effects told ≡ told
sizes_last input state last line [] effects told p = ap (λ l. written_in l told) p.0
sizes_last input state last line (name ∷ names) effects told (mid, first, others, (size, has, done), steps, is) =
    let printed : first ≡ Print (size_line size) ∷ [] = cc in
    ap (λ l. written_in l told) (is ∙ ap (λ (l : List Effect). l ++ others) printed)
    ∙ sizes_last input mid last (line + 1) names others told steps

-- the line of a diagram's size
abbrev line_of_size : Diagram → List ℕ
line_of_size d = size_line (size_of (d ∷ []))

-- they print those of the diagrams
sizes_printed : (input : Groups) (state last : State) (line : ℕ) (names : List ℕ) (ds : List Diagram)
    (effects : List Effect) (told : Option (List ℕ)) → IsVtree state.tree
    → AllZip (IsDiagramOf state.tree) (map (formula_named state) names) ds
    → Steps input state (in_lines line (map commands.Size names)) effects last
    → printed_in effects told ≡ fold told_then told (map line_of_size ds)
sizes_printed input state last line [] [] effects told valid each p = ap (λ l. printed_in l told) p.0
sizes_printed input state last line [] (d ∷ ds) effects told valid each p = absurd each
sizes_printed input state last line (name ∷ names) [] effects told valid each p = absurd each
sizes_printed input state last line (name ∷ names) (d ∷ ds) effects told valid each
    (mid, first, others, (size, has, done), steps, is) =
    let same : mid ≡ state = cc in
    let line_is : first ≡ Print (size_line size) ∷ [] = cc in
    let f = formula_named state name in
    let one = one_diagram state.tree f has.diagrams has.each in
    let own : size_line size ≡ line_of_size d =
    ap size_line (sym has.size ∙ ap size_of one.2)
    ∙ ap line_of_size (diagram_determined state.tree f one.0 d valid one.1 each.0) in
    ap (λ l. printed_in l told) (is ∙ ap (λ (l : List Effect). l ++ others) line_is)
    ∙ ap (λ l. printed_in others (told_then told l)) own
    ∙ sizes_printed input state last (line + 1) names ds others (told_then told (line_of_size d)) valid each.1
    (subst (λ s. Steps input s (in_lines (line + 1) (map commands.Size names)) others last) same steps)

-- ---- the stated lines

-- the lines behind those that bind the outputs
abbrev behind_outputs : Job → ℕ → List RunCommand
behind_outputs job o = search_of job.minimise ++ for_file commands.WriteVtree job.out_vtree
    ++ for_file (commands.Write (range_with_len 0 o)) job.out_sdd ++ map commands.Size (range_with_len 0 o)

regrouped : {A : Type 0} (a b c d e : List A) → a ++ b ++ c ++ d ++ e ≡ a ++ (b ++ c ++ d ++ e)
regrouped a b c d e =
    ap (λ l. l ++ d ++ e) (append_assoc a b c) ∙ ap (λ l. l ++ e) (append_assoc a (b ++ c) d)
    ∙ append_assoc a (b ++ c ++ d) e

output_lines : (job : Job) (o : ℕ) → 1 ≤ o
    → default_of job o ≡ in_lines 1 (map (λ i. commands.Output i i) (range_with_len 0 o) ++ behind_outputs job o)
output_lines job zero some = absurd (omega (arith, some))
output_lines job (suc o) some =
    let names = range_with_len 0 (suc o) in
    ap (in_lines 1)
    (regrouped (map (λ i. commands.Output i i) names) (search_of job.minimise)
    (for_file commands.WriteVtree job.out_vtree) (for_file (commands.Write names) job.out_sdd)
    (map commands.Size names))

-- no line stands before them
no_line_before : (job : Job) (f : Groups) (file : List ℕ) (lines : List NumberedCommand) → job.input ≡ inputs.Aag file
    → job.portfolio ≡ false → announcement job.input f ++ (choice job ++ lines) ≡ lines
no_line_before job f file lines asks whole =
    ap (λ (word : InputWord). announcement word f ++ (choice job ++ lines)) asks
    ∙ ap (λ (b : Bool). (if b then record { line = 1; command = commands.Choose job.minimise } ∷ [] else []) ++ lines)
    whole

-- what they write
record OutputsDone (job : Job) (circuit : Circuit) (tree : Tree) (out_sdd : List ℕ) (files : Files)
    (printed : Option (List ℕ)) (effects : List Effect)
    : Type 0 where
  found : Tree
  told : Option (List ℕ)
  search : IsFoundFor job.minimise job.slack (fold (λ fs f. f ∷ fs) [] (outputs_of circuit)) tree printed found told
  diagrams : List Diagram
  of_outputs : AllZip (IsDiagramOf found) (outputs_of circuit) diagrams
  files_are : written_in effects (Some files)
      ≡ Some (insert (with_output job.out_vtree (vtree_text found) files) out_sdd (roots_text diagrams))
  printed_is : printed_in effects printed ≡ fold told_then told (map line_of_size diagrams)

outputs_done : (input : Groups) (job : Job) (circuit : Circuit) (tree : Tree) (out_sdd : List ℕ) (files : Files)
    (printed : Option (List ℕ)) (effects : List Effect) (last : State) → IsVtree tree → job.out_sdd ≡ Some out_sdd
    → Steps input (first_state job tree circuit)
    (in_lines 1 (map (λ i. commands.Output i i) (range_with_len 0 (length circuit.outputs))
    ++ behind_outputs job (length circuit.outputs))) effects last
    → OutputsDone job circuit tree out_sdd files printed effects
outputs_done input job circuit tree out_sdd files printed effects last valid named_file steps =
    let o = length circuit.outputs in
    let names = range_with_len 0 o in
    let first = first_state job tree circuit in
    let state = with_outputs first 0 o in
    let sizes = map commands.Size names in
    let bound = bind_outputs input first last 1 0 o (behind_outputs job o) effects steps in
    let searched = search_first input state last bound.0 job.minimise
    (for_file commands.WriteVtree job.out_vtree ++ for_file (commands.Write names) job.out_sdd ++ sizes) effects files
    printed valid
    (subst (λ cs. Steps input state (in_lines bound.0 cs) effects last) (grouped job.minimise) bound.1) in
    let found = searched.0 in
    let told = searched.1 in
    let at = record state { tree = found } in
    let left = searched.4 in
    let vtree = vtree_next input at last left.next job.out_vtree (commands.Write names out_sdd ∷ sizes) left.others
    files told (subst (λ (cs : List RunCommand). Steps input at (in_lines left.next cs) left.others last)
    (ap (λ (out : Option (List ℕ)). for_file commands.WriteVtree job.out_vtree ++ for_file (commands.Write names) out
    ++ sizes) named_file
    ∙ append_assoc (for_file commands.WriteVtree job.out_vtree) (commands.Write names out_sdd ∷ []) sizes)
    left.steps) in
    let written = with_output job.out_vtree (vtree_text found) files in
    let wrote = diagrams_next input at last vtree.next names out_sdd sizes vtree.others written told vtree.steps in
    let ds = wrote.1.diagrams in
    let left_last = wrote.2 in
    record {
      found = found;
      told = told;
      search = subst (λ fs. IsFoundFor job.minimise job.slack fs tree printed found told) (formulas_back circuit [] 0 o)
          searched.3;
      diagrams = ds;
      of_outputs = subst (λ fs. AllZip (IsDiagramOf found) fs ds) (outputs_named circuit [] 0 o) wrote.1.of_values;
      files_are = left.files_are ∙ vtree.files_are ∙ left_last.files_are
          ∙ sizes_last input at last left_last.next names left_last.others (Some (insert written out_sdd wrote.0))
          left_last.steps
          ∙ ap (λ text. Some (insert written out_sdd text)) wrote.1.is;
      printed_is = left.printed_is ∙ vtree.printed_is ∙ left_last.printed_is
          ∙ sizes_printed input at last left_last.next names ds left_last.others told searched.2 wrote.1.of_values
          left_last.steps;
    }
  where
    grouped : (rounds : Option ℕ) → search_of rounds ++ for_file commands.WriteVtree job.out_vtree
        ++ for_file (commands.Write (range_with_len 0 (length circuit.outputs))) job.out_sdd
        ++ map commands.Size (range_with_len 0 (length circuit.outputs))
        ≡ search_of rounds ++ (for_file commands.WriteVtree job.out_vtree
        ++ for_file (commands.Write (range_with_len 0 (length circuit.outputs))) job.out_sdd
        ++ map commands.Size (range_with_len 0 (length circuit.outputs)))
    grouped None = refl
    grouped (Some rounds) = refl

-- ---- the run

pub circuits_at : (words : List (List ℕ)) (status : ℕ) (kept : Option Table) (seen : Seen)
    → IsOneCourse words status kept seen → HasCircuits words status seen
circuits_at words status kept seen went files job file out_sdd zero_ told named asks alone named_file =
    let all = (effects_at words status kept seen went).all zero_ in
    go all.0 (subst (λ f. MayEnd words f all.0 Finished) told all.1) all.2
  where
    go : (effects : List Effect) → MayEnd words (Some files) effects Finished
        → seen.new.contents ≡ after_effects effects seen.old.contents → WritesOutputs job file out_sdd files seen
    go effects (inl p) is = absurd p.0
    go effects (inr (plan, led, ends)) is =
        let fits = (job_fits_together words job named).circuit file asks in
        let read = was_read files aiger file (with_circuit job) plan
        (subst (λ word. ReadsTo (Some files) (with_input_word job word) (point_of plan)) asks
        (subst (λ j. ReadsTo (Some files) (with_job j) (point_of plan)) named led)) in
        let circuit = read.value in
        let input = no_groups kinds.Cnf (length circuit.inputs) in
        let from = from_word files job input circuit plan job.tree refl alone read.goes_on in
        let o = length circuit.outputs in
        let some = (both_kinds read.reads_as.0 circuit read.reads_as.3).outputs.0 in
        let steps = subst (λ (p : Plan). Steps p.input p.start p.commands effects ends.0) from.is
        (whole_plan plan ends.0 effects ends.1) in
        let stated = subst (λ l. Steps input (first_state job from.tree circuit) l effects ends.0)
        (no_line_before job input file (default_of job o) asks fits.portfolio ∙ output_lines job o some) steps in
        let valid = subst (λ (p : Plan). IsVtree p.start.tree) from.is (valid_start (Some files) words plan led) in
        let done = outputs_done input job circuit from.tree out_sdd files seen.old.contents.printed effects ends.0 valid
        named_file stated in
        record {
          circuit = circuit;
          reads_circuit = read.reads_as;
          tree = from.tree;
          starts = from.start;
          found = done.found;
          told = done.told;
          search = done.search;
          diagrams = done.diagrams;
          of_outputs = done.of_outputs;
          files_are = ap (λ (o : Contents). o.files) is ∙ files_by effects seen.old.contents
              ∙ ap (written_in effects) told ∙ done.files_are;
          printed_is = ap (λ (o : Contents). o.printed) is ∙ printed_by effects seen.old.contents ∙ done.printed_is;
        }
