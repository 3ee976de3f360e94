-- Over told files there is one course: where the words and the files lead to an end of their own, a run in which no
-- device fails comes to that end, or memory ran out.
use Rattle.std.proofs.Common.{◌≡◌, ◌≢◌, ◌⊎◌, ℕ, ◌≤◌, arith, List, Option, Some, None, inl, inr, refl, sym}
use Rattle.std.proofs.Common.{ap, subst, ◌∙◌}
use Rattle.sd_base.specs.Files.{Files, Lacks}
use Rattle.sd_model.specs.StartTrees.{balanced_tree, right_tree, left_tree}
use Rattle.sd_model.specs.Tree.{Tree}
use Rattle.sd_manager.specs.Table.{Table}
use Rattle.sd_formula.specs.Dimacs.{Groups}
use Rattle.sd_words.specs.declared.jobs.Job.{Job}
use Rattle.sd_words.specs.declared.jobs.InputWord.{InputWord}
use Rattle.sd_words.specs.declared.jobs.InputWord.TheVariants as inputs
use Rattle.sd_words.specs.declared.jobs.TreeWord.{TreeWord}
use Rattle.sd_words.specs.declared.jobs.TreeWord.TheVariants as trees
use Rattle.sd_commands.specs.Effects.{Effect, Write, Print}
use Rattle.sd_commands.specs.Commands.{no_circuit}
use Rattle.sd_tool.specs.Readings.{Point, Refuses, Reads, reading_of}
use Rattle.sd_tool.specs.inside.Plans.{Plan, point_of, plan_for}
use Rattle.sd_tool.specs.inside.Readings.{Text}
use Rattle.sd_tool.specs.inside.Course.{EndLeaves, EndsAmong, ReadsTo, MayEnd, IsOwn, after_effects}
use Rattle.sd_tool.specs.Readings.{with_input_word, with_tree_word, with_tree, with_commands}
use Rattle.sd_tool.specs.inside.Readings.{with_job, with_formula_reading, with_vtree_text, with_vtree_reading, IsInput}
use Rattle.sd_tool.specs.Ends.{End, Finished, Refused, Unreadable, Unwritable, OutOfMemory, ArenaFull, OverLimit}
use Rattle.sd_tool.specs.Ends.{NotMovable, status_of}
use Rattle.sd_tool.specs.Devices.{Seen, Faults, IsCalm, HasReason, WritesEndLine}
use Rattle.sd_tool.specs.inside.Devices.{NoneRose}
use Rattle.sd_tool.specs.Laws.{LacksRoom, IsDoneOrOverLimit}
use Rattle.sd_tool.specs.Theorem.{IsComplete}
use Rattle.sd_tool.specs.inside.ByStatus.{IsOneCourse}
use Rattle.sd_tool.specs.Written.{IsFormulaOf, IsPlainJob, IsStartTree, PlainRun}
use Rattle.sd_tool.proofs.AskLemmas.{goes_may_end}
use Rattle.sd_tool.proofs.OneCourse.{one_end_among}
use Rattle.sd_tool.proofs.SoundReadings.{valid_start}
use Rattle.sd_tool.proofs.OnePoint.{one_point, one_plan_at}
use Rattle.sd_tool.proofs.PlainPlans.{plain_plan, plain_is}
use Rattle.sd_tool.proofs.ReadingLemmas.{reads_on, reads_same}
use Rattle.sd_tool.proofs.StillCommands.{AreStill, never_unmoved, default_still}
use Rattle.sd_tool.proofs.Walks.{all_of, leaves_all, course_may_end}

-- the readings come to one plan
pub same_plan : (files : Files) (reading : Point) (a b : Plan) → ReadsTo (Some files) reading (point_of a)
    → ReadsTo (Some files) reading (point_of b) → a ≡ b
same_plan files reading a b p q = elim (one_point files reading (point_of a) (point_of b) tt p q) [
  | inl is ↦ sym (one_plan_at b a is)
  | inr asks ↦ let e = asks.is in let bad : ⊥ = cc in absurd bad
]

-- a refusal and a plan exclude each other
no_plan : (files : Files) (reading : Point) (refusal : ℕ × List ℕ) (plan : Plan)
    → ReadsTo (Some files) reading (Refuses refusal) → ReadsTo (Some files) reading (point_of plan) → ⊥
no_plan files reading refusal plan p q = elim (one_point files reading (Refuses refusal) (point_of plan) tt p q) [
  | inl is ↦ let bad : ⊥ = cc in bad
  | inr asks ↦ let e = asks.is in let bad : ⊥ = cc in bad
]

-- or to one refusal
same_refusal : (files : Files) (reading : Point) (a b : ℕ × List ℕ) → ReadsTo (Some files) reading (Refuses a)
    → ReadsTo (Some files) reading (Refuses b) → Refused b ≡ Refused a
same_refusal files reading a b p q = elim (one_point files reading (Refuses a) (Refuses b) tt p q) [
  | inl is ↦ let e : b ≡ a = cc in ap Refused e
  | inr asks ↦ let e = asks.is in let bad : ⊥ = cc in absurd bad
]

-- own ends, of the readings or among the commands, are one
one_own : (words : List (List ℕ)) (files : Files) (effects done : List Effect) (own end : End) → IsOwn own → IsOwn end
    → MayEnd words (Some files) effects own → MayEnd words (Some files) done end → (end ≡ own) × (done ≡ effects)
one_own words files effects done own end a b (inr p) (inr q) =
    let same = same_plan files (reading_of words) p.0 q.0 p.1 q.1 in
    one_end_among p.0 effects done own end (valid_start (Some files) words p.0 p.1) a b p.2
    (subst (λ (plan : Plan). EndsAmong plan done end) (sym same) q.2)
one_own words files effects done Finished end a b (inl p) q = absurd p.0
one_own words files effects done own Finished a b p (inl q) = absurd q.0
one_own words files effects done (OverLimit l g n k) end a b (inl p) q = absurd p.0
one_own words files effects done own (OverLimit l g n k) a b p (inl q) = absurd q.0
one_own words files effects done (NotMovable l) end a b (inl p) q = absurd p.0
one_own words files effects done own (NotMovable l) a b p (inl q) = absurd q.0
one_own words files effects done (Refused r) (Refused s) a b (inl p) (inl q) =
    (same_refusal files (reading_of words) r s p.0 q.0, q.1 ∙ sym p.1)
one_own words files effects done (Refused r) end a b (inl p) (inr q) =
    absurd (no_plan files (reading_of words) r q.0 p.0 q.1)
one_own words files effects done own (Refused s) a b (inr p) (inl q) =
    absurd (no_plan files (reading_of words) s p.0 q.0 p.1)
one_own words files effects done (Unreadable file) end a b p q = absurd a
one_own words files effects done (Unwritable effect) end a b p q = absurd a
one_own words files effects done OutOfMemory end a b p q = absurd a
one_own words files effects done (ArenaFull n) end a b p q = absurd a
one_own words files effects done own (Unreadable file) a b p q = absurd b
one_own words files effects done own (Unwritable effect) a b p q = absurd b
one_own words files effects done own OutOfMemory a b p q = absurd b
one_own words files effects done own (ArenaFull n) a b p q = absurd b

-- readings that come to a plan ask for no file that is not there
asked_before : (plan : Plan) (files : Files) (reading : Point) (file : List ℕ) (next : Text → Point)
    → ReadsTo (Some files) reading (point_of plan) → ReadsTo (Some files) reading (Reads file next)
    → Lacks (Some files) file → ⊥
asked_before plan files reading file next leads asked lacks =
    elim (one_point files reading (point_of plan) (Reads file next) tt leads asked) [
      | inl is ↦ let bad : ⊥ = cc in bad
      | inr asks ↦
          let e = asks.is in
          let same : file ≡ asks.file = cc in
          asks.there (subst (Lacks (Some files)) same lacks)
    ]

-- the readings of an own end ask for no file that is not there
none_missing : (words : List (List ℕ)) (files : Files) (effects : List Effect) (own : End) (file : List ℕ)
    (next : Text → Point) → IsOwn own → MayEnd words (Some files) effects own
    → ReadsTo (Some files) (reading_of words) (Reads file next) → Lacks (Some files) file → ⊥
none_missing words files effects own file next a (inr p) q lacks =
    asked_before p.0 files (reading_of words) file next p.1 q lacks
none_missing words files effects Finished file next a (inl p) q lacks = absurd p.0
none_missing words files effects (Refused r) file next a (inl p) q lacks =
    elim (one_point files (reading_of words) (Refuses r) (Reads file next) tt p.0 q) [
      | inl is ↦ let bad : ⊥ = cc in bad
      | inr asks ↦
          let e = asks.is in
          let same : file ≡ asks.file = cc in
          asks.there (subst (Lacks (Some files)) same lacks)
    ]
none_missing words files effects (Unreadable name) file next a (inl p) q lacks = absurd a
none_missing words files effects (Unwritable effect) file next a (inl p) q lacks = absurd a
none_missing words files effects OutOfMemory file next a (inl p) q lacks = absurd a
none_missing words files effects (ArenaFull n) file next a (inl p) q lacks = absurd a
none_missing words files effects (OverLimit l g n k) file next a (inl p) q lacks = absurd p.0
none_missing words files effects (NotMovable l) file next a (inl p) q lacks = absurd p.0

-- the end of a run is determined, but for devices and memory
no_other_end : (words : List (List ℕ)) (files : Files) (effects done : List Effect) (own end : End)
    (before now : Faults) → IsOwn own → MayEnd words (Some files) effects own → MayEnd words (Some files) done end
    → HasReason end (Some files) before now → NoneRose before now
    → ((end ≡ own) × (done ≡ effects)) ⊎ (end ≡ OutOfMemory) ⊎ ((n : ℕ) × (end ≡ ArenaFull n))
no_other_end words files effects done own Finished before now a all may_end cause calm =
    inl (one_own words files effects done own Finished a tt all may_end)
no_other_end words files effects done own (Refused r) before now a all may_end cause calm =
    inl (one_own words files effects done own (Refused r) a tt all may_end)
no_other_end words files effects done own (OverLimit l g n k) before now a all may_end cause calm =
    inl (one_own words files effects done own (OverLimit l g n k) a tt all may_end)
no_other_end words files effects done own (NotMovable l) before now a all may_end cause calm =
    inl (one_own words files effects done own (NotMovable l) a tt all may_end)
no_other_end words files effects done own (Unreadable file) before now a all (inl asked) (inl lacks) calm =
    absurd (none_missing words files effects own file asked.0.0 a all asked.0.1 lacks)
no_other_end words files effects done own (Unreadable file) before now a all (inl asked) (inr rose) calm =
    absurd (calm.read rose)
no_other_end words files effects done own (Unreadable file) before now a all (inr may_end) cause calm = absurd may_end.2
no_other_end words files effects done own (Unwritable (Write file bytes)) before now a all may_end cause calm =
    absurd (calm.write cause)
no_other_end words files effects done own (Unwritable (Print line)) before now a all may_end cause calm =
    absurd (calm.print cause)
no_other_end words files effects done own OutOfMemory before now a all may_end cause calm = inr (inl refl)
no_other_end words files effects done own (ArenaFull n) before now a all may_end cause calm = inr (inr (n, refl))

-- an end of status 0 to 4 is an end of its own
own_end : (end : End) → status_of end ≤ 4 → IsOwn end
own_end Finished few = tt
own_end (Refused refusal) few = tt
own_end (Unreadable file) few = absurd (omega (arith, few))
own_end (Unwritable (Write file bytes)) few = absurd (omega (arith, few))
own_end (Unwritable (Print line)) few = absurd (omega (arith, few))
own_end OutOfMemory few = absurd (omega (arith, few))
own_end (ArenaFull n) few = absurd (omega (arith, few))
own_end (OverLimit l g n k) few = tt
own_end (NotMovable l) few = tt

-- no device failed
none_rose : (seen : Seen) → IsCalm seen → NoneRose seen.old.faults seen.new.faults
none_rose seen calm = record { read = calm.read; write = calm.write; print = calm.print }

-- the run came to this end, with these effects and its line
abbrev pub CameTo : ℕ → Seen → List Effect → End → Type 0
CameTo status seen effects end = (status ≡ status_of end)
    × EndLeaves end (after_effects effects seen.old.contents) seen.new.contents × WritesEndLine end seen.old seen.new

-- where the words and the files lead to an end of their own, the run came to it, or there was no memory
pub comes_to_own : (words : List (List ℕ)) (status : ℕ) (kept : Option Table) (seen : Seen)
    → IsOneCourse words status kept seen → IsCalm seen → (files : Files) → seen.old.contents.files ≡ Some files
    → (effects : List Effect) (end : End) → status_of end ≤ 4 → MayEnd words (Some files) effects end
    → CameTo status seen effects end ⊎ LacksRoom status
comes_to_own words status kept seen went calm files told effects own few leads =
    let own_is = own_end own few in
    let may_end = subst (λ f. MayEnd words f went.effects went.end) told
    (goes_may_end seen.asked words seen.old.contents.files went.effects went.end kept went.goes) in
    let reason = subst (λ f. HasReason went.end f seen.old.faults seen.new.faults) told went.reason in
    elim (no_other_end words files effects went.effects own went.end seen.old.faults seen.new.faults own_is leads
    may_end reason (none_rose seen calm)) [
      | inl whole ↦ inl (
        went.status_is ∙ ap status_of whole.0,
        subst (λ e. EndLeaves e (after_effects effects seen.old.contents) seen.new.contents) whole.0
            (subst (λ l. EndLeaves went.end (after_effects l seen.old.contents) seen.new.contents) whole.1
            went.leaves),
        subst (λ e. WritesEndLine e seen.old seen.new) whole.0 went.line,
      )
      | inr (inl memory) ↦ inr (inl (went.status_is ∙ ap status_of memory))
      | inr (inr full) ↦ inr (inr (went.status_is ∙ ap status_of full.1))
    ]

-- a tree leads to its plan
leads_at_tree : (told : Option Files) (job : Job) (f : Groups) (own tree : Tree) → IsPlainJob job → own ≡ tree
    → ReadsTo told (with_tree job f no_circuit own) (point_of (plain_plan job f tree))
leads_at_tree told job f own tree plain is =
    reads_same told _ _
    (ap (with_commands job f.variables 0 (λ commands. point_of (plan_for job f no_circuit own commands))) plain.alone
    ∙ ap point_of (plain_is job f own plain) ∙ ap (λ t. point_of (plain_plan job f t)) is)

-- a start tree of the words leads to its plan
leads_with_tree : (files : Files) (job : Job) (f : Groups) (tree : Tree) (word : TreeWord) → IsPlainJob job
    → IsStartTree files word f.variables tree
    → ReadsTo (Some files) (with_tree_word job f no_circuit word) (point_of (plain_plan job f tree))
leads_with_tree files job f tree trees.Balanced plain is =
    leads_at_tree (Some files) job f (balanced_tree f.variables) tree plain (sym is)
leads_with_tree files job f tree trees.Right plain is =
    leads_at_tree (Some files) job f (right_tree f.variables) tree plain (sym is)
leads_with_tree files job f tree trees.Left plain is =
    leads_at_tree (Some files) job f (left_tree f.variables) tree plain (sym is)
leads_with_tree files job f tree (trees.File file) plain (bytes, there, short, reads) =
    inr (
      Some bytes,
      (there, short),
      reads_on (Some files) (with_vtree_text job f no_circuit file (Some bytes)) (with_tree job f no_circuit tree) _
          (reads_same (Some files) _ _ (ap (with_vtree_reading job f no_circuit file) reads))
          (leads_at_tree (Some files) job f tree tree plain refl),
    )

-- the words lead to their input
job_follows : (words : List (List ℕ)) (files : Files) (job : Job) (f : Groups) (input : IsInput words files job f)
    → ReadsTo (Some files) (reading_of words) (with_input_word job job.input)
job_follows words files job f input =
    reads_same (Some files) _ _ (ap with_job input.named)

-- and to its formula
pub formula_follows : (files : Files) (job : Job) (f : Groups) (word : InputWord) → IsFormulaOf files word f
    → ReadsTo (Some files) (with_input_word job word) (with_tree_word job f no_circuit job.tree)
formula_follows files job f (inputs.Cnf file) (bytes, there, short, reads) =
    inr (Some bytes, (there, short), reads_same (Some files) _ _ (ap (with_formula_reading job file) reads))
formula_follows files job f (inputs.Dnf file) (bytes, there, short, reads) =
    inr (Some bytes, (there, short), reads_same (Some files) _ _ (ap (with_formula_reading job file) reads))
formula_follows files job f (inputs.Generate count seed) is =
    reads_same (Some files) _ _ (ap (λ g. with_tree_word job g no_circuit job.tree) (sym is))
formula_follows files job f (inputs.Aag file) is = absurd is
formula_follows files job f (inputs.Check file) is = absurd is

-- an input with a start tree leads to its plan
pub leads_to_plan : (words : List (List ℕ)) (files : Files) (job : Job) (f : Groups) (tree : Tree)
    → IsInput words files job f → IsStartTree files job.tree f.variables tree
    → ReadsTo (Some files) (reading_of words) (point_of (plain_plan job f tree))
leads_to_plan words files job f tree input start =
    let told = Some files in
    let asks = with_input_word job job.input in
    reads_on told (reading_of words) asks _ (job_follows words files job f input)
    (reads_on told asks (with_tree_word job f no_circuit job.tree) _ (formula_follows files job f job.input input.input)
    (leads_with_tree files job f tree job.tree input.plain start))

-- where the readings lead to a plan and no device fails, all is done, or the size passes the limit, or there was no
-- memory
pub done_or_none : (words : List (List ℕ)) (files : Files) (plan : Plan) (effects : List Effect) (end : End)
    (before now : Faults) → ReadsTo (Some files) (reading_of words) (point_of plan)
    → AreStill plan.commands → MayEnd words (Some files) effects end
    → HasReason end (Some files) before now → NoneRose before now
    → (status_of end ≡ 0) ⊎ (status_of end ≡ 4) ⊎ (status_of end ≡ 7) ⊎ (status_of end ≡ 8)
done_or_none words files plan effects Finished before now leads still may_end cause calm = inl refl
done_or_none words files plan effects (Refused r) before now leads still (inl p) cause calm =
    absurd (no_plan files (reading_of words) r plan p.0 leads)
done_or_none words files plan effects (Refused r) before now leads still (inr p) cause calm = absurd p.2
done_or_none words files plan effects (Unreadable file) before now leads still (inl p) (inl lacks) calm =
    absurd (asked_before plan files (reading_of words) file p.0.0 leads p.0.1 lacks)
done_or_none words files plan effects (Unreadable file) before now leads still may_end (inr rose) calm =
    absurd (calm.read rose)
done_or_none words files plan effects (Unreadable file) before now leads still (inr p) cause calm = absurd p.2
done_or_none words files plan effects (Unwritable (Write file bytes)) before now leads still may_end cause calm =
    absurd (calm.write cause)
done_or_none words files plan effects (Unwritable (Print line)) before now leads still may_end cause calm =
    absurd (calm.print cause)
done_or_none words files plan effects (OverLimit l g n k) before now leads still may_end cause calm = inr (inl refl)
done_or_none words files plan effects OutOfMemory before now leads still may_end cause calm = inr (inr (inl refl))
done_or_none words files plan effects (ArenaFull n) before now leads still may_end cause calm = inr (inr (inr refl))
done_or_none words files plan effects (NotMovable l) before now leads still (inl p) cause calm = absurd p.0
done_or_none words files plan effects (NotMovable l) before now leads still (inr p) cause calm =
    let same = same_plan files (reading_of words) p.0 plan p.1 leads in
    absurd (never_unmoved plan effects l still
    (subst (λ (q : Plan). EndsAmong q effects (NotMovable l)) same p.2))

-- so a run in which no device failed ended so
pub ends_at_plan : (words : List (List ℕ)) (status : ℕ) (kept : Option Table) (seen : Seen)
    (went : IsOneCourse words status kept seen) (files : Files) (plan : Plan) → seen.old.contents.files ≡ Some files
    → ReadsTo (Some files) (reading_of words) (point_of plan) → AreStill plan.commands → IsCalm seen
    → (status ≡ 0) ⊎ (status ≡ 4) ⊎ LacksRoom status
ends_at_plan words status kept seen went files plan told leads still calm =
    let may_end = subst (λ f. MayEnd words f went.effects went.end) told
    (goes_may_end seen.asked words seen.old.contents.files went.effects went.end kept went.goes) in
    let reason = subst (λ f. HasReason went.end f seen.old.faults seen.new.faults) told went.reason in
    elim (done_or_none words files plan went.effects went.end seen.old.faults seen.new.faults leads still may_end reason
    (none_rose seen calm)) [
      | inl done ↦ inl (went.status_is ∙ done)
      | inr (inl passes) ↦ inr (inl (went.status_is ∙ passes))
      | inr (inr (inl memory)) ↦ inr (inr (inl (went.status_is ∙ memory)))
      | inr (inr (inr full)) ↦ inr (inr (inr (went.status_is ∙ full)))
    ]

-- the words of a run without a script
pub plain_input : {words : List (List ℕ)} {seen : Seen} (run : PlainRun words seen)
    → IsInput words run.given.files run.given.job run.given.formula
plain_input run = record { named = run.given.named; plain = run.plain; input = run.given.input }

-- files that are told are some
told_files : (told : Option Files) → told ≢ None → (files : Files) × (told ≡ Some files)
told_files None some = absurd (some refl)
told_files (Some files) some = (files, refl)

-- a run that went somewhere is complete
pub completes : (words : List (List ℕ)) (status : ℕ) (kept : Option Table) (seen : Seen)
    → IsOneCourse words status kept seen → IsComplete words status seen
completes words status kept seen went = λ calm some own few.
    let told = told_files seen.old.contents.files some in
    let leads = subst (λ f. MayEnd words f (all_of own.effects) own.end) told.1
    (course_may_end words seen.old.contents.files own few) in
    elim (comes_to_own words status kept seen went calm told.0 told.1 (all_of own.effects) own.end few leads) [
      | inl came ↦
          inr (inr (came.0, leaves_all seen own.effects (all_of own.effects) own.end refl came.1, came.2))
      | inr (inl memory) ↦ inl memory
      | inr (inr full) ↦ inr (inl full)
    ]

-- without a script it is done or passes its limit, or there was no memory
pub done_or_over : (words : List (List ℕ)) (status : ℕ) (kept : Option Table) (seen : Seen)
    → IsOneCourse words status kept seen → IsDoneOrOverLimit words status seen
done_or_over words status kept seen went = λ run calm.
    let given = run.given in
    ends_at_plan words status kept seen went given.files
    (plain_plan given.job given.formula given.tree) given.told
    (leads_to_plan words given.files given.job given.formula given.tree (plain_input run) given.starts)
    (subst (λ (plan : Plan). AreStill plan.commands) (plain_is given.job given.formula given.tree run.plain)
    (default_still given.job given.formula 0)) calm
