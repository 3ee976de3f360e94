-- The course of a run as one walk over points: from its readings and the commands of its plan, and back to them.
use Rattle.std.proofs.Common.{◌≡◌, ℕ, ◌≤◌, arith, List, [], ◌∷◌, ◌++◌, map, flat_map, Option, Some, None, inl, inr}
use Rattle.std.proofs.Common.{refl, sym, ap, subst, ◌∙◌, append_assoc}
use Rattle.std.proofs.lemmas.List.{append-nil}
use Rattle.std.proofs.lemmas.List.Concat.{flat_map-append}
use Rattle.sd_base.specs.Asked.{Request, ToRead}
use Rattle.sd_base.specs.Files.{Files}
use Rattle.sd_vtree.specs.Numbered.{plain_tree}
use Rattle.sd_manager.specs.Table.{Table}
use Rattle.sd_formula.specs.Dimacs.{Groups}
use Rattle.sd_commands.specs.Effects.{Effect}
use Rattle.sd_commands.specs.Commands.{State, Done, OverLimit as PassesLimit, NotMovable as Unmoved, Step, Steps}
use Rattle.sd_commands.specs.Standing.{IsFilled, IsTreeLeft}
use Rattle.sd_commands.specs.declared.command.NumberedCommand.{NumberedCommand}
use Rattle.sd_tool.specs.Effects.{Contents, after}
use Rattle.sd_tool.specs.Readings.{Point, Refuses, Reads, Stands, reading_of}
use Rattle.sd_tool.specs.Course.{Goes, asked_by, EndsAt, Course, Leaves}
use Rattle.sd_tool.specs.Devices.{Seen, HasReason, WritesEndLine}
use Rattle.sd_tool.specs.Ends.{End, Finished, Refused, Unreadable, Unwritable, OutOfMemory, ArenaFull, OverLimit}
use Rattle.sd_tool.specs.Ends.{NotMovable, status_of}
use Rattle.sd_tool.specs.KeptManager.{KeepsManager}
use Rattle.sd_tool.specs.Theorem.{IsCourse}
use Rattle.sd_tool.specs.inside.Asks.{ReadsBy, ComesTo, AsksLast, writings, begun, GoesTo}
use Rattle.sd_tool.specs.inside.ByStatus.{IsOneCourse}
use Rattle.sd_tool.specs.inside.Course.{EndLeaves, Reaches, MayEnd, after_effects}
use Rattle.sd_tool.specs.inside.Kept.{HoldsAt, KeepsOf}
use Rattle.sd_tool.specs.inside.Plans.{Plan, point_of}
use Rattle.sd_tool.proofs.AskLemmas.{goes_may_end}
use Rattle.sd_tool.proofs.StepLemmas.{after_append}

-- ---- the effects of commands, as one list

-- all of them, in order
abbrev pub all_of : List (List Effect) → List Effect
all_of effects = flat_map (λ first. first) effects

-- they leave what those of each command leave, one after another
pub after_all : (effects : List (List Effect)) (old : Contents) → after_effects (all_of effects) old ≡ after effects old
after_all [] old = refl
after_all (first ∷ others) old =
    after_append first (all_of others) old ∙ after_all others (after_effects first old)

-- and ask for what those ask for
asks_all : (effects : List (List Effect)) → flat_map (flat_map asked_by) effects ≡ writings (all_of effects)
asks_all [] = refl
asks_all (first ∷ others) =
    ap (λ (l : List Request). writings first ++ l) (asks_all others)
    ∙ sym (flat_map-append asked_by first (all_of others))

-- ---- forth

-- where files lead to a point, the commands there go on
goes_on : (files : Option Files) (names : List (List ℕ)) (from mid to : Point) (effects : List (List Effect))
    → ReadsBy files from names mid → Goes files mid [] effects to → Goes files from names effects to
goes_on files [] from mid to effects p q = subst (λ point. Goes files point [] effects to) p q
goes_on files (x ∷ xs) (Refuses answer) mid to effects p q = absurd p
goes_on files (x ∷ xs) (Stands input state left) mid to effects p q = absurd p
goes_on files (x ∷ xs) (Reads file next) mid to effects p q =
    (p.0, p.1, p.2, goes_on files xs (next p.0) mid to effects p.3 q)

-- commands that are done lead from their point to that of the others, with the effects of each
record Walks (files : Option Files) (from to : Point) (effects : List Effect) : Type 0 where
  each : List (List Effect)
  are : all_of each ≡ effects
  goes : Goes files from [] each to

done_go : (files : Option Files) (input : Groups) (start last : State) (done left : List NumberedCommand)
    (effects : List Effect) → Steps input start done effects last
    → Walks files (Stands input start (done ++ left)) (Stands input last left) effects
done_go files input start last [] left effects p =
    record { each = []; are = sym p.0; goes = ap (λ (s : State). Stands input s left) p.1 }
done_go files input start last (next ∷ done) left effects p =
    let rest = done_go files input p.0 last done left p.2 p.4 in
    record {
      each = p.1 ∷ rest.each;
      are = ap (λ (l : List Effect). p.1 ++ l) rest.are ∙ sym p.5;
      goes = (p.0, p.3, rest.goes);
    }

-- so they do from the point of their plan
plan_goes : (files : Option Files) (plan : Plan) (effects : List Effect) (state : State) (left : List NumberedCommand)
    → Reaches plan effects state left → Walks files (point_of plan) (Stands plan.input state left) effects
plan_goes files plan effects state left reaches =
    let walk = done_go files plan.input plan.start state reaches.done left effects reaches.steps in
    subst (λ l. Walks files (Stands plan.input plan.start l) (Stands plan.input state left) effects) reaches.in_order
    walk

-- memory may run out at each point
memory_here : (point : Point) → EndsAt point OutOfMemory []
memory_here (Refuses answer) = tt
memory_here (Reads file next) = tt
memory_here (Stands input state []) = tt
memory_here (Stands input state (next ∷ left)) = tt

-- the arena was not full
abbrev pub IsNotFull : End → Type 0
IsNotFull (ArenaFull n) = ⊥
IsNotFull end = Unit {0}

-- then no manager is kept
keeps_none : (point : Point) (end : End) (kept : Option Table) → IsNotFull end → kept ≡ None
    → KeepsManager point end kept
keeps_none (Refuses answer) end kept free none = none
keeps_none (Reads file next) end kept free none = none
keeps_none (Stands input state []) end kept free none = none
keeps_none (Stands input state (next ∷ left)) Finished kept free none = none
keeps_none (Stands input state (next ∷ left)) (Refused answer) kept free none = none
keeps_none (Stands input state (next ∷ left)) (Unreadable file) kept free none = none
keeps_none (Stands input state (next ∷ left)) (Unwritable effect) kept free none = none
keeps_none (Stands input state (next ∷ left)) OutOfMemory kept free none = none
keeps_none (Stands input state (next ∷ left)) (ArenaFull n) kept free none = absurd free
keeps_none (Stands input state (next ∷ left)) (OverLimit l g n k) kept free none = none
keeps_none (Stands input state (next ∷ left)) (NotMovable l) kept free none = none

-- the manager that was kept at a full arena
record IsKept (plan : Plan) (effects : List Effect) (elements : ℕ) (kept : Option Table) : Type 0 where
  manager : Table
  is : kept ≡ Some manager
  filled : IsFilled elements manager
  holds : HoldsAt plan effects manager

kept_full : (plan : Plan) (effects : List Effect) (elements : ℕ) (kept : Option Table)
    → KeepsOf plan effects (ArenaFull elements) kept → IsKept plan effects elements kept
kept_full plan effects elements None keeps = absurd keeps
kept_full plan effects elements (Some t) keeps = record { manager = t; is = refl; filled = keeps.0; holds = keeps.1 }

-- what an end leaves after the effects of each command, by their contents and by what shows
leaves_forth : (seen : Seen) (effects : List (List Effect)) (end : End)
    → EndLeaves end (after effects seen.old.contents) seen.new.contents → Leaves effects end seen
leaves_forth seen effects Finished leaves = leaves
leaves_forth seen effects (Refused answer) leaves = leaves
leaves_forth seen effects (Unreadable file) leaves = leaves
leaves_forth seen effects (Unwritable effect) leaves = leaves
leaves_forth seen effects OutOfMemory leaves = leaves
leaves_forth seen effects (ArenaFull n) leaves = leaves
leaves_forth seen effects (OverLimit l g n k) leaves = leaves
leaves_forth seen effects (NotMovable l) leaves = leaves

leaves_back : (seen : Seen) (effects : List (List Effect)) (end : End) → Leaves effects end seen
    → EndLeaves end (after effects seen.old.contents) seen.new.contents
leaves_back seen effects Finished leaves = leaves
leaves_back seen effects (Refused answer) leaves = leaves
leaves_back seen effects (Unreadable file) leaves = leaves
leaves_back seen effects (Unwritable effect) leaves = leaves
leaves_back seen effects OutOfMemory leaves = leaves
leaves_back seen effects (ArenaFull n) leaves = leaves
leaves_back seen effects (OverLimit l g n k) leaves = leaves
leaves_back seen effects (NotMovable l) leaves = leaves

-- so after all effects as one list
pub leaves_all : (seen : Seen) (effects : List (List Effect)) (all : List Effect) (end : End) → all_of effects ≡ all
    → EndLeaves end (after_effects all seen.old.contents) seen.new.contents → Leaves effects end seen
leaves_all seen effects all end are leaves =
    leaves_forth seen effects end
    (subst (λ (c : Contents). EndLeaves end c seen.new.contents)
    (ap (λ (l : List Effect). after_effects l seen.old.contents) (sym are) ∙ after_all effects seen.old.contents)
    leaves)

-- with no more requests
with_none : (asks : List Request → Type 0) (files : Option Files) (reading point : Point)
    → ComesTo asks files reading point → ComesTo (λ earlier. asks (earlier ++ [])) files reading point
with_none asks files reading point p =
    record { names = p.names; asked = subst asks (sym (append-nil (map ToRead p.names))) p.asked; reads = p.reads }

module _ (words : List (List ℕ)) (status : ℕ) (kept : Option Table) (seen : Seen) (effects : List Effect) where
  -- an end of the readings
  by_readings : (end : End) (point : Point) (last : List Request)
      → ComesTo (λ earlier. seen.asked (earlier ++ last)) seen.old.contents.files (reading_of words) point
      → EndsAt point end last → effects ≡ [] → status ≡ status_of end
      → EndLeaves end (after_effects effects seen.old.contents) seen.new.contents
      → HasReason end seen.old.contents.files seen.old.faults seen.new.faults → KeepsManager point end kept
      → WritesEndLine end seen.old seen.new → IsCourse words status kept seen
  by_readings end point last led ends none is leaves reason keeps line = (
    record {
      names = led.names;
      effects = [];
      point = point;
      end = end;
      begun = last;
      goes = led.reads;
      ends = ends;
    },
    is,
    subst (λ (l : List Request). seen.asked (l ++ last)) (sym (append-nil (map ToRead led.names))) led.asked,
    (
      leaves_all seen [] effects end (sym none) leaves,
      (reason, keeps, line),
    ),
  )

  -- an end among the commands
  by_commands : (end : End) (plan : Plan) (state : State) (left : List NumberedCommand) (last : List Request)
      → ComesTo (λ readings. seen.asked (readings ++ writings (begun effects end))) seen.old.contents.files
      (reading_of words) (point_of plan)
      → Reaches plan effects state left → EndsAt (Stands plan.input state left) end last
      → writings (begun effects end) ≡ writings effects ++ last → status ≡ status_of end
      → EndLeaves end (after_effects effects seen.old.contents) seen.new.contents
      → HasReason end seen.old.contents.files seen.old.faults seen.new.faults
      → KeepsManager (Stands plan.input state left) end kept → WritesEndLine end seen.old seen.new
      → IsCourse words status kept seen
  by_commands end plan state left last led reaches ends asks is leaves reason keeps line =
      let walk = plan_goes seen.old.contents.files plan effects state left reaches in
      let all : writings effects ≡ flat_map (flat_map asked_by) walk.each =
      ap writings (sym walk.are) ∙ sym (asks_all walk.each) in (
        record {
          names = led.names;
          effects = walk.each;
          point = Stands plan.input state left;
          end = end;
          begun = last;
          goes = goes_on seen.old.contents.files led.names (reading_of words) (point_of plan)
              (Stands plan.input state left) walk.each led.reads walk.goes;
          ends = ends;
        },
        is,
        subst seen.asked
            (ap (λ (l : List Request). map ToRead led.names ++ l) (asks ∙ ap (λ (l : List Request). l ++ last) all)
            ∙ sym (append_assoc (map ToRead led.names) (flat_map (flat_map asked_by) walk.each) last))
            led.asked,
        (
          leaves_all seen walk.each effects end walk.are leaves,
          (reason, keeps, line),
        ),
      )

  -- each end
  by_end : (end : End) → GoesTo seen.asked words seen.old.contents.files effects end kept → status ≡ status_of end
      → EndLeaves end (after_effects effects seen.old.contents) seen.new.contents
      → HasReason end seen.old.contents.files seen.old.faults seen.new.faults → WritesEndLine end seen.old seen.new
      → IsCourse words status kept seen
  by_end (Refused answer) (inl p) is leaves reason line =
      by_readings (Refused answer) (Refuses answer) []
      (with_none seen.asked seen.old.contents.files (reading_of words) (Refuses answer) p.0) refl p.1 is leaves reason
      p.2 line
  by_end (Unreadable file) (inl p) is leaves reason line =
      by_readings (Unreadable file) (Reads file p.0.0) (ToRead file ∷ []) p.0.1 (refl, refl) p.1 is leaves reason p.2
      line
  by_end OutOfMemory (inl (inl p, none, free)) is leaves reason line =
      by_readings OutOfMemory p.0 []
      (with_none seen.asked seen.old.contents.files (reading_of words) p.0 p.1) (memory_here p.0) none is leaves reason
      (keeps_none p.0 OutOfMemory kept tt free) line
  by_end OutOfMemory (inl (inr p, none, free)) is leaves reason line =
      by_readings OutOfMemory (Reads p.0 p.1.0) (ToRead p.0 ∷ []) p.1.1 refl none is leaves reason free line
  by_end OutOfMemory (inr p) is leaves reason line =
      by_commands OutOfMemory p.0 p.2.0 p.2.1 [] p.1 p.2.2 (memory_here (Stands p.0.input p.2.0 p.2.1))
      (sym (append-nil (writings effects))) is leaves reason
      (keeps_none (Stands p.0.input p.2.0 p.2.1) OutOfMemory kept tt p.3) line
  by_end Finished (inr p) is leaves reason line =
      by_commands Finished p.0 p.2.0 [] [] p.1 p.2.1 tt (sym (append-nil (writings effects))) is leaves reason p.3 line
  by_end (Unwritable effect) (inr p) is leaves reason line =
      by_commands (Unwritable effect) p.0 p.2.0 (p.2.1 ∷ p.2.2.left) (asked_by effect) p.1 p.2.2.reaches (refl, p.2.3)
      (flat_map-append asked_by effects (effect ∷ [])
      ∙ ap (λ (l : List Request). writings effects ++ l) (append-nil (asked_by effect)))
      is leaves reason p.3 line
  by_end (ArenaFull n) (inr p) is leaves reason line =
      let full = kept_full p.0 effects n kept p.3 in
      let at = full.holds in
      by_commands (ArenaFull n) p.0 at.state (at.next ∷ at.at.left) [] p.1 at.at.reaches at.needs
      (sym (append-nil (writings effects))) is leaves reason
      (full.manager, full.is, full.filled.whole, full.filled.rule, at.left, at.holds) line
  by_end (OverLimit l g n k) (inr p) is leaves reason line =
      by_commands (OverLimit l g n k) p.0 p.2.0 (p.2.1 ∷ p.2.2.left) [] p.1 p.2.2.reaches (sym p.2.3, p.2.4)
      (sym (append-nil (writings effects))) is leaves reason p.3 line
  by_end (NotMovable l) (inr p) is leaves reason line =
      by_commands (NotMovable l) p.0 p.2.0 (p.2.1 ∷ p.2.2.left) [] p.1 p.2.2.reaches (sym p.2.3, p.2.4)
      (sym (append-nil (writings effects))) is leaves reason p.3 line
  by_end (Refused answer) (inr p) is leaves reason line = absurd p.2
  by_end (Unreadable file) (inr p) is leaves reason line = absurd p.2
  by_end end (inl p) is leaves reason line = absurd p.0

-- the course of a run
pub course_of : (words : List (List ℕ)) (status : ℕ) (kept : Option Table) (seen : Seen)
    → IsOneCourse words status kept seen → IsCourse words status kept seen
course_of words status kept seen went =
    by_end words status kept seen went.effects went.end went.goes went.status_is went.leaves went.reason went.line

-- ---- back

-- the point at which no file is read any more
record ReadsThen (files : Option Files) (from : Point) (names : List (List ℕ)) (effects : List (List Effect))
    (to : Point) : Type 0 where
  mid : Point
  reads : ReadsBy files from names mid
  goes : Goes files mid [] effects to

reads_first : (files : Option Files) (names : List (List ℕ)) (from to : Point) (effects : List (List Effect))
    → Goes files from names effects to → ReadsThen files from names effects to
reads_first files [] from to effects p = record { mid = from; reads = refl; goes = p }
reads_first files (x ∷ xs) (Refuses answer) to effects p = absurd p
reads_first files (x ∷ xs) (Stands input state left) to effects p = absurd p
reads_first files (x ∷ xs) (Reads file next) to effects p =
    let rest = reads_first files xs (next p.0) to effects p.3 in
    record { mid = rest.mid; reads = (p.0, p.1, p.2, rest.reads); goes = rest.goes }

-- a point that is no one before commands
abbrev IsBefore : Point → Type 0
IsBefore (Stands input state left) = ⊥
IsBefore point = Unit {0}

-- to such a point no command leads
none_done : (files : Option Files) (mid to : Point) (effects : List (List Effect)) → IsBefore to
    → Goes files mid [] effects to → (to ≡ mid) × (effects ≡ [])
none_done files mid to [] before p = (p, refl)
none_done files (Refuses answer) to (first ∷ others) before p = absurd p
none_done files (Reads file next) to (first ∷ others) before p = absurd p
none_done files (Stands input state []) to (first ∷ others) before p = absurd p
none_done files (Stands input state (next ∷ left)) to (first ∷ others) before p =
    absurd (subst IsBefore (none_done files (Stands input p.0 left) to others before p.2).0 before)

-- so it is one of the readings
readings_back : (asks : List Request → Type 0) (files : Option Files) (reading point : Point) (names : List (List ℕ))
    (effects : List (List Effect)) (last : List Request) → IsBefore point → Goes files reading names effects point
    → asks (map ToRead names ++ flat_map (flat_map asked_by) effects ++ last)
    → ComesTo (λ earlier. asks (earlier ++ last)) files reading point × (all_of effects ≡ [])
readings_back asks files reading point names effects last before goes asked =
    let first = reads_first files names reading point effects goes in
    let none = none_done files first.mid point effects before first.goes in (
      record {
        names = names;
        asked = subst (λ (l : List Request). asks (l ++ last))
            (ap (λ (l : List (List Effect)). map ToRead names ++ flat_map (flat_map asked_by) l) none.1
            ∙ append-nil (map ToRead names))
            asked;
        reads = subst (ReadsBy files reading names) (sym none.0) first.reads;
      },
      ap all_of none.1,
    )

-- without more requests
without_none : (asks : List Request → Type 0) (files : Option Files) (reading point : Point)
    → ComesTo (λ earlier. asks (earlier ++ [])) files reading point → ComesTo asks files reading point
without_none asks files reading point p =
    record { names = p.names; asked = subst asks (append-nil (map ToRead p.names)) p.asked; reads = p.reads }

-- a last file that is asked for
last_back : (asks : List Request → Type 0) (files : Option Files) (reading : Point) (file name : List ℕ)
    (next : Option (List ℕ) → Point) (last : List Request) → name ≡ file → last ≡ ToRead file ∷ []
    → ComesTo (λ earlier. asks (earlier ++ last)) files reading (Reads file next) → AsksLast asks files reading name
last_back asks files reading file name next last same is p = (
  next,
  record {
    names = p.names;
    asked = subst (λ (l : List Request). asks (map ToRead p.names ++ l))
        (is ∙ ap (λ (n : List ℕ). ToRead n ∷ []) (sym same)) p.asked;
    reads = subst (λ (n : List ℕ). ReadsBy files reading p.names (Reads n next)) (sym same) p.reads;
  },
)

-- commands that were done to here
record CameFrom (input : Groups) (start last : State) (all left : List NumberedCommand) (effects : List Effect)
    : Type 0 where
  done : List NumberedCommand
  in_order : done ++ left ≡ all
  steps : Steps input start done effects last

done_back : (files : Option Files) (input first : Groups) (start last : State) (all left : List NumberedCommand)
    (effects : List (List Effect)) → Goes files (Stands first start all) [] effects (Stands input last left)
    → (input ≡ first) × CameFrom first start last all left (all_of effects)
done_back files input first start last all left [] p =
    let e : Stands input last left ≡ Stands first start all = p in
    let one : input ≡ first = cc in
    let state : last ≡ start = cc in
    let rest : left ≡ all = cc in
    (one, record { done = []; in_order = rest; steps = (refl, state) })
done_back files input first start last [] left (here ∷ others) p = absurd p
done_back files input first start last (next ∷ all) left (here ∷ others) p =
    let back = done_back files input first p.0 last all left others p.2 in (
      back.0,
      record {
        done = next ∷ back.1.done;
        in_order = ap (λ (l : List NumberedCommand). next ∷ l) back.1.in_order;
        steps = (p.0, here, all_of others, p.1, back.1.steps, refl);
      },
    )

-- the plan of a point before commands, and how far its commands are done
record IsOfPlan (mid : Point) (input : Groups) (state : State) (left : List NumberedCommand) (effects : List Effect)
    : Type 0 where
  plan : Plan
  is : mid ≡ point_of plan
  same : input ≡ plan.input
  reaches : Reaches plan effects state left

plan_back : (files : Option Files) (mid : Point) (input : Groups) (state : State) (left : List NumberedCommand)
    (effects : List (List Effect)) → Goes files mid [] effects (Stands input state left)
    → IsOfPlan mid input state left (all_of effects)
plan_back files (Refuses answer) input state left [] p = let bad : ⊥ = cc in absurd bad
plan_back files (Refuses answer) input state left (first ∷ others) p = absurd p
plan_back files (Reads file next) input state left [] p = let bad : ⊥ = cc in absurd bad
plan_back files (Reads file next) input state left (first ∷ others) p = absurd p
plan_back files (Stands first start all) input state left effects p =
    let back = done_back files input first start state all left effects p in
    record {
      plan = record { input = first; start = start; commands = all };
      is = refl;
      same = back.0;
      reaches = record { done = back.1.done; in_order = back.1.in_order; steps = back.1.steps };
    }

-- the readings led to a plan, whose commands led on
pub record ByPlan (asks : List Request → Type 0) (files : Option Files) (reading : Point) (input : Groups)
    (state : State) (left : List NumberedCommand) (effects : List Effect) (last : List Request) : Type 0 where
  pub plan : Plan
  pub same : input ≡ plan.input
  pub led : ComesTo (λ readings. asks (readings ++ writings effects ++ last)) files reading (point_of plan)
  pub reaches : Reaches plan effects state left

pub commands_back : (asks : List Request → Type 0) (files : Option Files) (reading : Point) (names : List (List ℕ))
    (effects : List (List Effect)) (last : List Request) (input : Groups) (state : State)
    (left : List NumberedCommand) → Goes files reading names effects (Stands input state left)
    → asks (map ToRead names ++ flat_map (flat_map asked_by) effects ++ last)
    → ByPlan asks files reading input state left (all_of effects) last
commands_back asks files reading names effects last input state left goes asked =
    let first = reads_first files names reading (Stands input state left) effects goes in
    let back = plan_back files first.mid input state left effects first.goes in
    record {
      plan = back.plan;
      same = back.same;
      led = record {
        names = names;
        asked = subst (λ (l : List Request). asks (map ToRead names ++ l ++ last)) (asks_all effects) asked;
        reads = subst (ReadsBy files reading names) back.is first.reads;
      };
      reaches = back.reaches;
    }

-- what is asked, as at this end
led_at : (asks : List Request → Type 0) (files : Option Files) (reading : Point) (effects : List Effect) (end : End)
    (plan : Plan) (last : List Request) → writings effects ++ last ≡ writings (begun effects end)
    → ComesTo (λ readings. asks (readings ++ writings effects ++ last)) files reading (point_of plan)
    → ComesTo (λ readings. asks (readings ++ writings (begun effects end))) files reading (point_of plan)
led_at asks files reading effects end plan last is p = record {
  names = p.names;
  asked = subst asks
      (append_assoc (map ToRead p.names) (writings effects) last
      ∙ ap (λ (l : List Request). map ToRead p.names ++ l) is)
      p.asked;
  reads = p.reads;
}

module _ (asks : List Request → Type 0) (words : List (List ℕ)) (files : Option Files) (kept : Option Table)
    (names : List (List ℕ)) (effects : List (List Effect)) where
  -- each end at its point
  pub goes_back : (point : Point) (end : End) (last : List Request) → Goes files (reading_of words) names effects point
      → EndsAt point end last → asks (map ToRead names ++ flat_map (flat_map asked_by) effects ++ last)
      → KeepsManager point end kept → GoesTo asks words files (all_of effects) end kept
  goes_back (Refuses answer) (Refused found) [] goes ends asked keeps =
      let back = readings_back asks files (reading_of words) (Refuses answer) names effects [] tt goes asked in
      let led = without_none asks files (reading_of words) (Refuses answer) back.0 in
      inl (
        subst (λ (a : ℕ × List ℕ). ComesTo asks files (reading_of words) (Refuses a)) (sym ends) led,
        back.1,
        keeps,
      )
  goes_back (Refuses answer) OutOfMemory [] goes ends asked keeps =
      let back = readings_back asks files (reading_of words) (Refuses answer) names effects [] tt goes asked in
      inl (
        inl (Refuses answer, without_none asks files (reading_of words) (Refuses answer) back.0),
        back.1,
        keeps,
      )
  goes_back (Reads file next) (Unreadable name) last goes ends asked keeps =
      let back = readings_back asks files (reading_of words) (Reads file next) names effects last tt goes asked in
      inl (last_back asks files (reading_of words) file name next last ends.0 ends.1 back.0, back.1, keeps)
  goes_back (Reads file next) OutOfMemory [] goes ends asked keeps =
      let back = readings_back asks files (reading_of words) (Reads file next) names effects [] tt goes asked in
      inl (
        inl (Reads file next, without_none asks files (reading_of words) (Reads file next) back.0),
        back.1,
        keeps,
      )
  goes_back (Reads file next) OutOfMemory (request ∷ []) goes ends asked keeps =
      let last = request ∷ [] in
      let back = readings_back asks files (reading_of words) (Reads file next) names effects last tt goes asked in
      let is = ap (λ (r : Request). r ∷ []) ends in
      inl (
        inr (file, last_back asks files (reading_of words) file file next last refl is back.0),
        back.1,
        keeps,
      )
  goes_back (Stands input state []) Finished [] goes ends asked keeps =
      let back = commands_back asks files (reading_of words) names effects [] input state [] goes asked in
      let led = led_at asks files (reading_of words) (all_of effects) Finished back.plan []
      (append-nil (writings (all_of effects))) back.led in
      inr (back.plan, led, (state, back.reaches), keeps)
  goes_back (Stands input state []) OutOfMemory [] goes ends asked keeps =
      let back = commands_back asks files (reading_of words) names effects [] input state [] goes asked in
      let led = led_at asks files (reading_of words) (all_of effects) OutOfMemory back.plan []
      (append-nil (writings (all_of effects))) back.led in
      inr (back.plan, led, (state, [], back.reaches), keeps)
  goes_back (Stands input state (next ∷ left)) OutOfMemory [] goes ends asked keeps =
      let back = commands_back asks files (reading_of words) names effects [] input state (next ∷ left) goes asked in
      let led = led_at asks files (reading_of words) (all_of effects) OutOfMemory back.plan []
      (append-nil (writings (all_of effects))) back.led in
      inr (back.plan, led, (state, next ∷ left, back.reaches), keeps)
  goes_back (Stands input state (next ∷ left)) (Unwritable effect) last goes ends asked keeps =
      let all = all_of effects in
      let back = commands_back asks files (reading_of words) names effects last input state (next ∷ left) goes asked in
      let whole = ap (λ (l : List Request). writings all ++ l) (ends.0 ∙ sym (append-nil (asked_by effect)))
      ∙ sym (flat_map-append asked_by all (effect ∷ [])) in
      let led = led_at asks files (reading_of words) all (Unwritable effect) back.plan last whole back.led in
      inr (
        back.plan,
        led,
        (
          state,
          next,
          record { left = left; reaches = back.reaches },
          (
            ends.1.0,
            subst (λ (i : Groups). Step i state next.command (Done ends.1.0 (effect ∷ []))) back.same ends.1.1,
          ),
        ),
        keeps,
      )
  goes_back (Stands input state (next ∷ left)) (ArenaFull n) [] goes ends asked keeps =
      let back = commands_back asks files (reading_of words) names effects [] input state (next ∷ left) goes asked in
      let led = led_at asks files (reading_of words) (all_of effects) (ArenaFull n) back.plan []
      (append-nil (writings (all_of effects))) back.led in
      inr (
        back.plan,
        led,
        (state, next, record { left = left; reaches = back.reaches }, ends),
        subst (KeepsOf back.plan (all_of effects) (ArenaFull n)) (sym keeps.1) (
          record { whole = keeps.2; rule = keeps.3 },
          record {
            state = state;
            next = next;
            at = record { left = left; reaches = back.reaches };
            needs = ends;
            left = subst (λ (i : Groups). IsTreeLeft i state next.command (plain_tree keeps.0.vtree)) back.same keeps.4;
            holds = keeps.5;
          },
        ),
      )
  goes_back (Stands input state (next ∷ left)) (OverLimit l g n k) [] goes ends asked keeps =
      let back = commands_back asks files (reading_of words) names effects [] input state (next ∷ left) goes asked in
      let led = led_at asks files (reading_of words) (all_of effects) (OverLimit l g n k) back.plan []
      (append-nil (writings (all_of effects))) back.led in
      inr (
        back.plan,
        led,
        (
          state,
          next,
          record { left = left; reaches = back.reaches },
          sym ends.0,
          subst (λ (i : Groups). Step i state next.command (PassesLimit g n k)) back.same ends.1,
        ),
        keeps,
      )
  goes_back (Stands input state (next ∷ left)) (NotMovable l) [] goes ends asked keeps =
      let back = commands_back asks files (reading_of words) names effects [] input state (next ∷ left) goes asked in
      let led = led_at asks files (reading_of words) (all_of effects) (NotMovable l) back.plan []
      (append-nil (writings (all_of effects))) back.led in
      inr (
        back.plan,
        led,
        (
          state,
          next,
          record { left = left; reaches = back.reaches },
          sym ends.0,
          subst (λ (i : Groups). Step i state next.command Unmoved) back.same ends.1,
        ),
        keeps,
      )
  goes_back point end last goes ends asked keeps = absurd ends

-- the course of a run, by its readings and its plan
pub one_course : (words : List (List ℕ)) (status : ℕ) (kept : Option Table) (seen : Seen)
    → IsCourse words status kept seen → IsOneCourse words status kept seen
one_course words status kept seen (course, is, asked, (leaves, (reason, keeps, line))) = record {
  effects = all_of course.effects;
  end = course.end;
  goes = goes_back seen.asked words seen.old.contents.files kept course.names course.effects course.point course.end
      course.begun course.goes course.ends asked keeps;
  status_is = is;
  leaves = subst (λ (c : Contents). EndLeaves course.end c seen.new.contents)
      (sym (after_all course.effects seen.old.contents)) (leaves_back seen course.effects course.end leaves);
  reason = reason;
  line = line;
}

-- an end of status 0 to 4 is at no full arena
not_full : (end : End) → status_of end ≤ 4 → IsNotFull end
not_full (ArenaFull n) few = omega (arith, few)
not_full Finished few = tt
not_full (Refused answer) few = tt
not_full (Unreadable file) few = tt
not_full (Unwritable effect) few = tt
not_full OutOfMemory few = tt
not_full (OverLimit l g n k) few = tt
not_full (NotMovable l) few = tt

-- so a run may come to it, by its readings and its plan
pub course_may_end : (words : List (List ℕ)) (files : Option Files) (course : Course words files)
    → status_of course.end ≤ 4 → MayEnd words files (all_of course.effects) course.end
course_may_end words files course few =
    goes_may_end (λ requests. Unit {0}) words files (all_of course.effects) course.end None
    (goes_back (λ requests. Unit {0}) words files None course.names course.effects course.point course.end
    course.begun course.goes course.ends tt
    (keeps_none course.point course.end None (not_full course.end few) refl))
