-- How a run ends: at its readings, among its commands, or at the end of them.
use Rattle.std.proofs.Common.{◌≡◌, ℕ, List, [], Option, Some, None, Result, Ok, Err}
use Rattle.std.proofs.Common.{inl, inr, cond, refl, sym, ap, subst, ◌∙◌}
use Rattle.sd_base.specs.Asked.{Request}
use Rattle.sd_base.specs.Files.{Files}
use Rattle.sd_manager.specs.Table.{Table}
use Rattle.sd_commands.specs.Effects.{Effect, Write, Print}
use Rattle.sd_tool.specs.Effects.{Contents}
use Rattle.sd_tool.specs.Readings.{reading_of}
use Rattle.sd_tool.specs.inside.Plans.{Plan, point_of}
use Rattle.sd_tool.specs.inside.Asks.{ComesTo}
use Rattle.sd_tool.specs.inside.Course.{EndLeaves, EndsAmong, after_effects}
use Rattle.sd_tool.specs.inside.ByStatus.{IsOneCourse}
use Rattle.sd_tool.specs.Ends.{End, Finished, Refused, Unreadable, Unwritable, OutOfMemory as NoMemory}
use Rattle.sd_tool.specs.Ends.{ArenaFull as NoRoom, OverLimit as Passes, NotMovable as Unmoved, line_of, status_of}
use Rattle.sd_tool.specs.Refusals.{refusal_status, refusal_answer}
use Rattle.sd_tool.specs.inside.Kept.{KeepsOf}
use Rattle.sd_tool.specs.Devices.{Moment, Seen, Faults, HasReason, WritesLine, WritesEndLine}
use Rattle.sd_tool.specs.inside.Devices.{NotFewer, AppendsLine}
use Rattle.sd_tool.specs.Stops.{stop_status, stop_text, StandsFor, StopsReading, RunsToEnd, PlanEnds, RunEnds}
use Rattle.sd_tool.specs.Stops.{IsFullAt, is_full}
use Rattle.sd_tool.specs.declared.refusal.Refusal.{Refusal}
use Rattle.sd_tool.specs.declared.refusal.Refusal.TheVariants as refusals
use Rattle.sd_tool.specs.declared.stop.Stop.{Stop}
use Rattle.sd_tool.specs.declared.stop.Stop.TheVariants as stops
use Rattle.sd_tool.specs.declared.stop.Stop.TheVariants.{ReadFault, WriteFault, OutputFault, OutOfMemory, ArenaFull}
use Rattle.sd_tool.specs.declared.stop.Stop.TheVariants.{OverLimit, NotMovable}
use Rattle.sd_tool.proofs.AskLemmas.{Joins}
use Rattle.sd_tool.proofs.Fronts.{writes_line}
use Rattle.sd_tool.proofs.StepLemmas.{cause_since}

-- the readings stop, and nothing was done
pub reading_stops : {asks : List Request → Type 0} (words : List (List ℕ)) (stop : Stop) (kept : Option Table)
    (old new : Contents)
    (before now : Faults) → kept ≡ None → new ≡ old
    → StopsReading asks stop old.files (reading_of words) before.read now.read
    → RunEnds asks words kept (Err stop) old new before now
reading_stops words (stops.Refused refusal) kept old new before now none same stops = record {
  end = Refused (refusal_answer refusal);
  at = record { status = refl; text = refl; stopped = λ e. cc };
  effects = [];
  goes = inl (stops, refl, none);
  leaves = same;
  reason = tt;
}
reading_stops words (ReadFault file) kept old new before now none same stops = record {
  end = Unreadable file;
  at = record { status = refl; text = refl; stopped = λ e. cc };
  effects = [];
  goes = inl (stops.0, refl, none);
  leaves = same;
  reason = stops.1;
}
reading_stops words (WriteFault file) kept old new before now none same stops = absurd stops
reading_stops words OutputFault kept old new before now none same stops = absurd stops
reading_stops words (ArenaFull n) kept old new before now none same stops = absurd stops
reading_stops words (OverLimit l g n k) kept old new before now none same stops = absurd stops
reading_stops words (NotMovable l) kept old new before now none same stops = absurd stops
reading_stops words OutOfMemory kept old new before now none same stops = record {
  end = NoMemory;
  at = record { status = refl; text = refl; stopped = λ e. cc };
  effects = [];
  goes = inl (stops, refl, none);
  leaves = same;
  reason = tt;
}

-- a cause among the commands is a cause in the whole run
pub cause_from : (plan : Plan) (effects : List Effect) (end : End) (files others : Option Files)
    (first mid last : Faults) → EndsAmong plan effects end → NotFewer first mid → HasReason end files mid last
    → HasReason end others first last
cause_from plan effects Finished files others first mid last ends fewer cause = tt
cause_from plan effects (Refused r) files others first mid last ends fewer cause = absurd ends
cause_from plan effects (Unreadable file) files others first mid last ends fewer cause = absurd ends
cause_from plan effects (Unwritable effect) files others first mid last ends fewer cause =
    cause_since effect files others first mid last fewer cause
cause_from plan effects NoMemory files others first mid last ends fewer cause = tt
cause_from plan effects (NoRoom n) files others first mid last ends fewer cause = tt
cause_from plan effects (Passes l g n k) files others first mid last ends fewer cause = tt
cause_from plan effects (Unmoved l) files others first mid last ends fewer cause = tt

-- a refusal has not the status of a full arena
pub no_refusal : (refusal : Refusal) → refusal_status refusal ≡ 8 → ⊥
no_refusal (refusals.BadWords fault) e = let bad : ⊥ = cc in bad
no_refusal (refusals.TooLong file) e = let bad : ⊥ = cc in bad
no_refusal (refusals.BadFormula file fault) e = let bad : ⊥ = cc in bad
no_refusal (refusals.BadVtree file fault) e = let bad : ⊥ = cc in bad
no_refusal (refusals.BadCircuit file fault) e = let bad : ⊥ = cc in bad
no_refusal (refusals.BadSdd file fault) e = let bad : ⊥ = cc in bad
no_refusal (refusals.LongScript file) e = let bad : ⊥ = cc in bad
no_refusal (refusals.BadScript file fault) e = let bad : ⊥ = cc in bad

-- the manager of a full arena is kept
kept_full : (plan : Plan) (effects : List Effect) (end : End) (t : Table) → EndsAmong plan effects end
    → 8 ≡ status_of end → IsFullAt plan effects end t → KeepsOf plan effects end (Some t)
kept_full plan effects Finished t ends is full_at = cc
kept_full plan effects (Refused answer) t ends is full_at = absurd ends
kept_full plan effects (Unreadable file) t ends is full_at = cc
kept_full plan effects (Unwritable (Write file bytes)) t ends is full_at = cc
kept_full plan effects (Unwritable (Print line)) t ends is full_at = cc
kept_full plan effects NoMemory t ends is full_at = cc
kept_full plan effects (NoRoom n) t ends is full_at = full_at
kept_full plan effects (Passes l g n k) t ends is full_at = cc
kept_full plan effects (Unmoved l) t ends is full_at = cc

-- at each other end nothing is kept
kept_none : (plan : Plan) (effects : List Effect) (end : End) → (status_of end ≡ 8 → ⊥) → KeepsOf plan effects end None
kept_none plan effects Finished other = refl
kept_none plan effects (Refused refusal) other = refl
kept_none plan effects (Unreadable file) other = refl
kept_none plan effects (Unwritable effect) other = refl
kept_none plan effects NoMemory other = refl
kept_none plan effects (NoRoom n) other = absurd (other refl)
kept_none plan effects (Passes l g n k) other = refl
kept_none plan effects (Unmoved l) other = refl

-- the commands came to an end, and what is kept is that of the end
carried : {asks : List Request → Type 0} (plan : Plan) (t : Table) (kept : Option Table)
    (result : Result (Unit {0}) Stop)
    (old new : Contents) (before now : Faults) → (goes : RunsToEnd asks plan t result old new before now)
    → KeepsOf plan goes.effects goes.end kept → PlanEnds asks plan kept result old new before now
carried plan t kept result old new before now goes keeps = record {
  end = goes.end;
  at = goes.at;
  effects = goes.effects;
  ends = goes.ends;
  asked = goes.asked;
  keeps = keeps;
  leaves = goes.leaves;
  reason = goes.reason;
}

-- all commands were done
pub carried_done : {asks : List Request → Type 0} (plan : Plan) (t : Table) (kept : Option Table)
    (old new : Contents) (before now : Faults) → kept ≡ None → RunsToEnd asks plan t (Ok tt) old new before now
    → PlanEnds asks plan kept (Ok tt) old new before now
carried_done plan t kept old new before now none goes =
    carried plan t kept (Ok tt) old new before now goes
    (subst (KeepsOf plan goes.effects goes.end) (sym none)
    (kept_none plan goes.effects goes.end (λ e. other goes.at e)))
  where
    other : goes.end ≡ Finished → status_of goes.end ≡ 8 → ⊥
    other is e = let zero_ = ap status_of is in let bad : ⊥ = cc in bad

-- what is kept after a stop that is no full arena
kept_other : (plan : Plan) (effects : List Effect) (stop : Stop) (end : End) (kept was : Option Table) → was ≡ None
    → kept ≡ was → stop_status stop ≡ status_of end → (stop_status stop ≡ 8 → ⊥) → KeepsOf plan effects end kept
kept_other plan effects stop end kept was none is status other =
    subst (KeepsOf plan effects end) (sym (is ∙ none)) (kept_none plan effects end (λ e. other (status ∙ e)))

-- what is kept after a stop is what its end keeps
keeps_at : (plan : Plan) (effects : List Effect) (stop : Stop) (end : End) (t : Table) (kept was : Option Table)
    → was ≡ None → kept ≡ cond (is_full stop) (Some t) was → EndsAmong plan effects end
    → stop_status stop ≡ status_of end → IsFullAt plan effects end t → KeepsOf plan effects end kept
keeps_at plan effects (ArenaFull n) end t kept was none is ends status full_at =
    subst (KeepsOf plan effects end) (sym is) (kept_full plan effects end t ends status full_at)
keeps_at plan effects (stops.Refused refusal) end t kept was none is ends status full_at =
    kept_other plan effects (stops.Refused refusal) end kept was none is status (no_refusal refusal)
keeps_at plan effects (ReadFault file) end t kept was none is ends status full_at =
    kept_other plan effects (ReadFault file) end kept was none is status (λ e. cc)
keeps_at plan effects (WriteFault file) end t kept was none is ends status full_at =
    kept_other plan effects (WriteFault file) end kept was none is status (λ e. cc)
keeps_at plan effects OutputFault end t kept was none is ends status full_at =
    kept_other plan effects OutputFault end kept was none is status (λ e. cc)
keeps_at plan effects OutOfMemory end t kept was none is ends status full_at =
    kept_other plan effects OutOfMemory end kept was none is status (λ e. cc)
keeps_at plan effects (OverLimit l g n k) end t kept was none is ends status full_at =
    kept_other plan effects (OverLimit l g n k) end kept was none is status (λ e. cc)
keeps_at plan effects (NotMovable l) end t kept was none is ends status full_at =
    kept_other plan effects (NotMovable l) end kept was none is status (λ e. cc)

-- the commands stopped, and the manager is kept if it was full
pub carried_stop : {asks : List Request → Type 0} (plan : Plan) (t : Table) (kept was : Option Table) (stop : Stop)
    (old new : Contents) (before now : Faults) → was ≡ None → kept ≡ cond (is_full stop) (Some t) was
    → RunsToEnd asks plan t (Err stop) old new before now → PlanEnds asks plan kept (Err stop) old new before now
carried_stop plan t kept was stop old new before now none is goes =
    carried plan t kept (Err stop) old new before now goes
    (keeps_at plan goes.effects stop goes.end t kept was none is goes.ends goes.at.status goes.full_at)

-- the commands go on from where the readings led
pub commands_go : {a b c : List Request → Type 0} (words : List (List ℕ)) (plan : Plan) (kept : Option Table)
    (result : Result (Unit {0}) Stop)
    (old mid new : Contents) (first before last : Faults) → Joins a b c
    → ComesTo a old.files (reading_of words) (point_of plan)
    → mid ≡ old → NotFewer first before → PlanEnds b plan kept result mid new before last
    → RunEnds c words kept result old new first last
commands_go words plan kept result old mid new first before last join led same fewer goes = record {
  end = goes.end;
  at = goes.at;
  effects = goes.effects;
  goes = inr (
    plan,
    record { names = led.names; asked = join.meets _ _ led.asked goes.asked; reads = led.reads },
    goes.ends,
    goes.keeps,
  );
  leaves = subst (λ (o : Contents). EndLeaves goes.end (after_effects goes.effects o) new) same goes.leaves;
  reason = cause_from plan goes.effects goes.end mid.files old.files first before last goes.ends fewer goes.reason;
}

says_end : (stop : Stop) (end : End) (old new : Moment) → StandsFor stop end
    → WritesLine (line_of (stop_text stop)) old.errors new.errors old.err_faults new.err_faults
    → WritesEndLine end old new
says_end stop Finished old new at says = absurd (at.stopped refl)
says_end stop (Refused r) old new at says =
    subst (λ t. WritesLine (line_of t) old.errors new.errors old.err_faults new.err_faults) at.text says
says_end stop (Unreadable file) old new at says =
    subst (λ t. WritesLine (line_of t) old.errors new.errors old.err_faults new.err_faults) at.text says
says_end stop (Unwritable effect) old new at says =
    subst (λ t. WritesLine (line_of t) old.errors new.errors old.err_faults new.err_faults) at.text says
says_end stop NoMemory old new at says =
    subst (λ t. WritesLine (line_of t) old.errors new.errors old.err_faults new.err_faults) at.text says
says_end stop (NoRoom n) old new at says =
    subst (λ t. WritesLine (line_of t) old.errors new.errors old.err_faults new.err_faults) at.text says
says_end stop (Unmoved l) old new at says =
    subst (λ t. WritesLine (line_of t) old.errors new.errors old.err_faults new.err_faults) at.text says
says_end stop (Passes l g n k) old new at says =
    subst (λ t. WritesLine (line_of t) old.errors new.errors old.err_faults new.err_faults) at.text says

-- a run that stopped and said so went to that end
pub went_to_stop : (words : List (List ℕ)) (stop : Stop) (status : ℕ) (text : List ℕ) (kept : Option Table)
    (seen : Seen)
    → RunEnds seen.asked words kept (Err stop) seen.old.contents seen.new.contents seen.old.faults seen.new.faults
    → status ≡ stop_status stop → text ≡ stop_text stop
    → AppendsLine (line_of text) seen.old.errors seen.new.errors seen.old.err_faults seen.new.err_faults
    → IsOneCourse words status kept seen
went_to_stop words stop status text kept seen attempt is text_is says = record {
  effects = attempt.effects;
  end = attempt.end;
  goes = attempt.goes;
  status_is = is ∙ attempt.at.status;
  leaves = attempt.leaves;
  reason = attempt.reason;
  line = says_end stop attempt.end seen.old seen.new attempt.at
      (subst (λ t. WritesLine (line_of t) seen.old.errors seen.new.errors seen.old.err_faults seen.new.err_faults)
      text_is
      (writes_line (line_of text) seen.old.errors seen.new.errors seen.old.err_faults seen.new.err_faults says));
}
