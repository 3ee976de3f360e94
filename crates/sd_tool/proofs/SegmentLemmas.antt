-- Segments of commands, one behind another.
use Rattle.std.proofs.Common.{◌≡◌, ℕ, ◌+◌, ◌≤◌, List, [], ◌∷◌, ◌++◌, length, take, drop, Result, Ok, Err, fold, cond}
use Rattle.std.proofs.Common.{Option, Some, None}
use Rattle.std.proofs.Common.{refl, sym, ap, subst, ◌∙◌, append_assoc, take-append-drop}
use Rattle.std.proofs.lemmas.List.{append-nil, take_all, take_more}
use Rattle.sd_base.specs.Asked.{Request}
use Rattle.sd_formula.specs.Dimacs.{Groups}
use Rattle.sd_manager.specs.Table.{Table}
use Rattle.sd_commands.specs.Effects.{Effect}
use Rattle.sd_commands.specs.Commands.{State, Steps}
use Rattle.sd_commands.specs.Fits.{AllFit, bound_after}
use Rattle.sd_model.specs.Tree.{leaves}
use Rattle.sd_vtree.specs.Numbered.{plain_tree}
use Rattle.sd_commands.specs.Standing.{Represents, names_of}
use Rattle.sd_commands.specs.declared.command.NumberedCommand.{NumberedCommand}
use Rattle.sd_commands.specs.declared.state.RunState.{RunState}
use Rattle.sd_commands.proofs.Outcomes.{names_after, circuit_after}
use Rattle.sd_tool.specs.Effects.{Contents}
use Rattle.sd_tool.specs.Ends.{End, Finished, Refused, Unreadable, Unwritable, OutOfMemory, ArenaFull, OverLimit}
use Rattle.sd_tool.specs.Ends.{NotMovable}
use Rattle.sd_tool.specs.Devices.{Faults}
use Rattle.sd_tool.specs.inside.Devices.{NotFewer}
use Rattle.sd_tool.specs.inside.Asks.{begun, writings}
use Rattle.sd_tool.specs.inside.Course.{EndLeaves, EndsAmong, IsAtCommand, Reaches, after_effects}
use Rattle.sd_tool.specs.inside.Segments.{segment, AreDone, DoesAll, RunsSegment, CanRun, refuser}
use Rattle.sd_tool.specs.inside.Plans.{Plan}
use Rattle.sd_tool.specs.Stops.{IsFullAt, PlanEnds, RunsToEnd, is_full}
use Rattle.sd_tool.specs.declared.stop.Halt.{Halt}
use Rattle.sd_tool.specs.declared.stop.Stop.{Stop}
use Rattle.sd_tool.proofs.AskLemmas.{Joins}
use Rattle.sd_tool.proofs.EndLemmas.{carried_done, carried_stop, cause_from}
use Rattle.sd_tool.proofs.StepLemmas.{IsNext, left_at, after_append, writings_append}

-- ---- commands that are done behind others

-- two lists of commands are done one behind the other
steps_append : (input : Groups) (start mid new : State) (xs ys : List NumberedCommand) (e f : List Effect)
    → Steps input start xs e mid → Steps input mid ys f new → Steps input start (xs ++ ys) (e ++ f) new
steps_append input start mid new [] ys e f a b =
    subst (λ (l : List Effect). Steps input start ys (l ++ f) new) (sym a.0)
    (subst (λ (s : State). Steps input s ys f new) a.1 b)
steps_append input start mid new (command ∷ xs) ys e f a b = (
  a.0,
  a.1,
  a.2 ++ f,
  a.3,
  steps_append input a.0 mid new xs ys a.2 f a.4 b,
  ap (λ (l : List Effect). l ++ f) a.5 ∙ append_assoc a.1 a.2 f,
)

-- the names that are bound behind commands
pub names_by : (input : Groups) (start state : State) (xs : List NumberedCommand) (e : List Effect)
    → Steps input start xs e state
    → names_of state ≡ fold (λ names c. bound_after names c.command) (names_of start) xs
names_by input start state [] e a = ap names_of a.1
names_by input start state (command ∷ xs) e a =
    names_by input a.0 state xs a.2 a.4
    ∙ ap (λ names. fold (λ names c. bound_after names c.command) names xs)
    (names_after input start a.0 command.command a.1 a.3)

-- no command changes the circuit
pub circuit_by : (input : Groups) (start state : State) (xs : List NumberedCommand) (e : List Effect)
    → Steps input start xs e state → state.circuit ≡ start.circuit
circuit_by input start state [] e a = ap (λ (s : State). s.circuit) a.1
circuit_by input start state (command ∷ xs) e a =
    circuit_by input a.0 state xs a.2 a.4 ∙ circuit_after input start a.0 command.command a.1 a.3

-- commands that fit behind others fit in the state after these
fit_behind : (v o : ℕ) (input : Groups) (start state : State) (xs ys : List NumberedCommand) (e : List Effect)
    → Steps input start xs e state → AllFit v o (names_of start) (xs ++ ys) → AllFit v o (names_of state) ys
fit_behind v o input start state [] ys e a fit = subst (λ (s : State). AllFit v o (names_of s) ys) (sym a.1) fit
fit_behind v o input start state (command ∷ xs) ys e a fit =
    fit_behind v o input a.0 state xs ys a.2 a.4
    (subst (λ names. AllFit v o names (xs ++ ys)) (sym (names_after input start a.0 command.command a.1 a.3)) fit.1)

-- what is done behind a segment is done in the whole
pub done_behind : {a b c : List Request → Type 0} (input : Groups) (start mid state : State)
    (xs ys : List NumberedCommand) (old now new : Contents) → Joins a b c
    → AreDone a (segment input start xs) mid old now → AreDone b (segment input mid ys) state now new
    → AreDone c (segment input start (xs ++ ys)) state old new
done_behind {c = c} input start mid state xs ys old now new join p q = record {
  effects = p.effects ++ q.effects;
  steps = steps_append input start mid state xs ys p.effects q.effects p.steps q.steps;
  asked = subst c (sym (writings_append p.effects q.effects)) (join.meets _ _ p.asked q.asked);
  leaves = q.leaves ∙ ap (after_effects q.effects) p.leaves ∙ sym (after_append p.effects q.effects old);
}

-- ---- ends behind a segment

reaches_behind : (input : Groups) (start mid state : State) (xs ys left : List NumberedCommand) (e f : List Effect)
    → Steps input start xs e mid → Reaches (segment input mid ys) f state left
    → Reaches (segment input start (xs ++ ys)) (e ++ f) state left
reaches_behind input start mid state xs ys left e f done r = record {
  done = xs ++ r.done;
  in_order = append_assoc xs r.done left ∙ ap (λ (l : List NumberedCommand). xs ++ l) r.in_order;
  steps = steps_append input start mid state xs r.done e f done r.steps;
}

at_behind : (input : Groups) (start mid state : State) (xs ys : List NumberedCommand) (next : NumberedCommand)
    (e f : List Effect) → Steps input start xs e mid → IsAtCommand (segment input mid ys) f state next
    → IsAtCommand (segment input start (xs ++ ys)) (e ++ f) state next
at_behind input start mid state xs ys next e f done at = record {
  left = at.left;
  reaches = reaches_behind input start mid state xs ys (next ∷ at.left) e f done at.reaches;
}

-- an end among commands behind a segment is one of the whole
ends_behind : (input : Groups) (start mid : State) (xs ys : List NumberedCommand) (e f : List Effect) (end : End)
    → Steps input start xs e mid → EndsAmong (segment input mid ys) f end
    → EndsAmong (segment input start (xs ++ ys)) (e ++ f) end
ends_behind input start mid xs ys e f Finished done p =
    (p.0, reaches_behind input start mid p.0 xs ys [] e f done p.1)
ends_behind input start mid xs ys e f (Refused answer) done p = absurd p
ends_behind input start mid xs ys e f (Unreadable file) done p = absurd p
ends_behind input start mid xs ys e f (Unwritable effect) done p =
    (p.0, p.1, at_behind input start mid p.0 xs ys p.1 e f done p.2, p.3)
ends_behind input start mid xs ys e f OutOfMemory done p =
    (p.0, p.1, reaches_behind input start mid p.0 xs ys p.1 e f done p.2)
ends_behind input start mid xs ys e f (ArenaFull n) done p =
    (p.0, p.1, at_behind input start mid p.0 xs ys p.1 e f done p.2, p.3)
ends_behind input start mid xs ys e f (OverLimit line group size limit) done p =
    (p.0, p.1, at_behind input start mid p.0 xs ys p.1 e f done p.2, p.3, p.4)
ends_behind input start mid xs ys e f (NotMovable line) done p =
    (p.0, p.1, at_behind input start mid p.0 xs ys p.1 e f done p.2, p.3, p.4)

-- so is the manager of a full arena
full_behind : (input : Groups) (start mid : State) (xs ys : List NumberedCommand) (e f : List Effect) (end : End)
    (t : Table) → Steps input start xs e mid → IsFullAt (segment input mid ys) f end t
    → IsFullAt (segment input start (xs ++ ys)) (e ++ f) end t
full_behind input start mid xs ys e f (ArenaFull n) t done p = (
  p.0,
  record {
    state = p.1.state;
    next = p.1.next;
    at = at_behind input start mid p.1.state xs ys p.1.next e f done p.1.at;
    needs = p.1.needs;
    left = p.1.left;
    holds = p.1.holds;
  },
)
full_behind input start mid xs ys e f Finished t done p = tt
full_behind input start mid xs ys e f (Refused answer) t done p = tt
full_behind input start mid xs ys e f (Unreadable file) t done p = tt
full_behind input start mid xs ys e f (Unwritable effect) t done p = tt
full_behind input start mid xs ys e f OutOfMemory t done p = tt
full_behind input start mid xs ys e f (OverLimit line group size limit) t done p = tt
full_behind input start mid xs ys e f (NotMovable line) t done p = tt

-- the writings that are begun behind others
begun_append : (e f : List Effect) (end : End) → writings (begun (e ++ f) end) ≡ writings e ++ writings (begun f end)
begun_append e f Finished = writings_append e f
begun_append e f (Refused answer) = writings_append e f
begun_append e f (Unreadable file) = writings_append e f
begun_append e f (Unwritable effect) =
    ap writings (append_assoc e f (effect ∷ [])) ∙ writings_append e (f ++ effect ∷ [])
begun_append e f OutOfMemory = writings_append e f
begun_append e f (ArenaFull n) = writings_append e f
begun_append e f (OverLimit line group size limit) = writings_append e f
begun_append e f (NotMovable line) = writings_append e f

-- a run that ends behind a segment ends so in the whole
pub stops_behind : {a b c : List Request → Type 0} (input : Groups) (start mid : State)
    (xs ys : List NumberedCommand) (t : Table) (stop : Stop) (old now new : Contents) (first before last : Faults)
    → Joins a b c → NotFewer first before → AreDone a (segment input start xs) mid old now
    → RunsToEnd b (segment input mid ys) t (Err stop) now new before last
    → RunsToEnd c (segment input start (xs ++ ys)) t (Err stop) old new first last
stops_behind {c = c} input start mid xs ys t stop old now new first before last join fewer done goes = record {
  end = goes.end;
  at = goes.at;
  effects = done.effects ++ goes.effects;
  ends = ends_behind input start mid xs ys done.effects goes.effects goes.end done.steps goes.ends;
  asked = subst c (sym (begun_append done.effects goes.effects goes.end)) (join.meets _ _ done.asked goes.asked);
  full_at = full_behind input start mid xs ys done.effects goes.effects goes.end t done.steps goes.full_at;
  leaves = subst (λ (o : Contents). EndLeaves goes.end o new)
      (ap (after_effects goes.effects) done.leaves ∙ sym (after_append done.effects goes.effects old)) goes.leaves;
  reason = cause_from (segment input mid ys) goes.effects goes.end now.files old.files first before last goes.ends
      fewer goes.reason;
}

-- a segment behind one that was done
pub runs_behind : {a b c : List Request → Type 0} (input : Groups) (start mid : State)
    (xs ys : List NumberedCommand) (code : RunState) (result : Result (Unit {0}) Halt) (old now new : Contents)
    (first before last : Faults) → Joins a b c → NotFewer first before
    → AreDone a (segment input start xs) mid old now
    → RunsSegment b (segment input mid ys) code result now new before last
    → RunsSegment c (segment input start (xs ++ ys)) code result old new first last
runs_behind input start mid xs ys code (Ok u) old now new first before last join fewer done goes =
    (goes.0, done_behind input start mid goes.0 xs ys old now new join done goes.1, goes.2)
runs_behind input start mid xs ys code (Err halt) old now new first before last join fewer done goes =
    stops_behind input start mid xs ys (refuser halt code.manager) halt.stop old now new first before last join fewer
    done goes

-- ---- ends before other commands

reaches_before : (input : Groups) (start state : State) (xs ys left : List NumberedCommand) (e : List Effect)
    → Reaches (segment input start xs) e state left → Reaches (segment input start (xs ++ ys)) e state (left ++ ys)
reaches_before input start state xs ys left e r = record {
  done = r.done;
  in_order = sym (append_assoc r.done left ys) ∙ ap (λ (l : List NumberedCommand). l ++ ys) r.in_order;
  steps = r.steps;
}

at_before : (input : Groups) (start state : State) (xs ys : List NumberedCommand) (next : NumberedCommand)
    (e : List Effect) → IsAtCommand (segment input start xs) e state next
    → IsAtCommand (segment input start (xs ++ ys)) e state next
at_before input start state xs ys next e at = record {
  left = at.left ++ ys;
  reaches = reaches_before input start state xs ys (next ∷ at.left) e at.reaches;
}

-- an end among a segment is one of the whole
ends_before : (input : Groups) (start : State) (xs ys : List NumberedCommand) (e : List Effect) (end : End)
    → (end ≡ Finished → ⊥) → EndsAmong (segment input start xs) e end
    → EndsAmong (segment input start (xs ++ ys)) e end
ends_before input start xs ys e Finished other p = absurd (other refl)
ends_before input start xs ys e (Refused answer) other p = absurd p
ends_before input start xs ys e (Unreadable file) other p = absurd p
ends_before input start xs ys e (Unwritable effect) other p =
    (p.0, p.1, at_before input start p.0 xs ys p.1 e p.2, p.3)
ends_before input start xs ys e OutOfMemory other p =
    (p.0, p.1 ++ ys, reaches_before input start p.0 xs ys p.1 e p.2)
ends_before input start xs ys e (ArenaFull n) other p =
    (p.0, p.1, at_before input start p.0 xs ys p.1 e p.2, p.3)
ends_before input start xs ys e (OverLimit line group size limit) other p =
    (p.0, p.1, at_before input start p.0 xs ys p.1 e p.2, p.3, p.4)
ends_before input start xs ys e (NotMovable line) other p =
    (p.0, p.1, at_before input start p.0 xs ys p.1 e p.2, p.3, p.4)

full_before : (input : Groups) (start : State) (xs ys : List NumberedCommand) (e : List Effect) (end : End) (t : Table)
    → IsFullAt (segment input start xs) e end t → IsFullAt (segment input start (xs ++ ys)) e end t
full_before input start xs ys e (ArenaFull n) t p = (
  p.0,
  record {
    state = p.1.state;
    next = p.1.next;
    at = at_before input start p.1.state xs ys p.1.next e p.1.at;
    needs = p.1.needs;
    left = p.1.left;
    holds = p.1.holds;
  },
)
full_before input start xs ys e Finished t p = tt
full_before input start xs ys e (Refused answer) t p = tt
full_before input start xs ys e (Unreadable file) t p = tt
full_before input start xs ys e (Unwritable effect) t p = tt
full_before input start xs ys e OutOfMemory t p = tt
full_before input start xs ys e (OverLimit line group size limit) t p = tt
full_before input start xs ys e (NotMovable line) t p = tt

-- a run that stops in a segment stops so in the whole
pub stops_before : {asks : List Request → Type 0} (input : Groups) (start : State) (xs ys : List NumberedCommand)
    (t : Table) (stop : Stop) (old new : Contents) (before last : Faults)
    → RunsToEnd asks (segment input start xs) t (Err stop) old new before last
    → RunsToEnd asks (segment input start (xs ++ ys)) t (Err stop) old new before last
stops_before input start xs ys t stop old new before last goes = record {
  end = goes.end;
  at = goes.at;
  effects = goes.effects;
  ends = ends_before input start xs ys goes.effects goes.end goes.at.stopped goes.ends;
  asked = goes.asked;
  full_at = full_before input start xs ys goes.effects goes.end t goes.full_at;
  leaves = goes.leaves;
  reason = goes.reason;
}

-- a whole that is done comes to its end
pub comes_to_end : {asks : List Request → Type 0} (input : Groups) (start : State) (xs : List NumberedCommand)
    (code : RunState) (t : Table) (old new : Contents) (before last : Faults)
    → DoesAll asks (segment input start xs) code old new
    → RunsToEnd asks (segment input start xs) t (Ok tt) old new before last
comes_to_end input start xs code t old new before last all = record {
  end = Finished;
  at = refl;
  effects = all.1.effects;
  ends = (all.0, record { done = xs; in_order = append-nil xs; steps = all.1.steps });
  asked = all.1.asked;
  full_at = tt;
  leaves = all.1.leaves;
  reason = tt;
}

-- ---- the commands of a list, one after another

-- those before the command and it are the first ones of the list
to_next : (commands : List NumberedCommand) (index : ℕ) (c : NumberedCommand) → IsNext commands index c
    → take index commands ++ c ∷ [] ≡ take (index + 1) commands
to_next commands index c next =
    ap (λ x. take index commands ++ x ∷ []) next.is ∙ sym (take_more commands index c next.within)

-- the commands before this one are done, so it can be done
pub can_next : {asks : List Request → Type 0} (input : Groups) (start : State) (commands : List NumberedCommand)
    (index : ℕ) (c : NumberedCommand) (was code : RunState) (old now : Contents) → IsNext commands index c
    → CanRun input was start commands → leaves (plain_tree code.manager.vtree) ≡ leaves (plain_tree was.manager.vtree)
    → DoesAll asks (segment input start (take index commands)) code old now
    → (seen : State) × CanRun input code seen (c ∷ [])
can_next input start commands index c was code old now next can same done =
    let o = length done.0.circuit.outputs in
    let all : AllFit input.variables o (names_of done.0) (drop index commands) =
    fit_behind input.variables o input start done.0 (take index commands) (drop index commands) done.1.effects
    done.1.steps
    (subst (λ (l : List NumberedCommand). AllFit input.variables o (names_of start) l)
    (sym (take-append-drop index commands))
    (subst (λ circuit. AllFit input.variables (length circuit.outputs) (names_of start) commands)
    (sym (circuit_by input start done.0 (take index commands) done.1.effects done.1.steps)) can.fit)) in
    let fit = subst (AllFit input.variables o (names_of done.0)) (left_at commands index c next) all in (
      done.0,
      record { represents = done.2; variables = same ∙ can.variables; fit = (fit.0, tt) },
    )

-- it is done, and so are the commands up to it
pub does_next : {a b c : List Request → Type 0} (input : Groups) (start : State) (commands : List NumberedCommand)
    (index other : ℕ) (command : NumberedCommand) (code code' : RunState) (old now new : Contents)
    → Joins a b c → IsNext commands index command → other ≡ index + 1
    → DoesAll a (segment input start (take index commands)) code old now
    → ((seen : State) → Represents code seen → DoesAll b (segment input seen (command ∷ [])) code' now new)
    → DoesAll c (segment input start (take other commands)) code' old new
does_next {c = c} input start commands index other command code code' old now new join next is done goes =
    let then_on = goes done.0 done.2 in
    subst (λ (l : List NumberedCommand). DoesAll c (segment input start l) code' old new)
    (to_next commands index command next ∙ ap (λ n. take n commands) (sym is)) (
      then_on.0,
      done_behind input start done.0 then_on.0 (take index commands) (command ∷ []) old now new join done.1
          then_on.1,
      then_on.2,
    )

-- it stops, and so does the run
pub stops_next : {a b c : List Request → Type 0} (input : Groups) (start : State) (commands : List NumberedCommand)
    (index : ℕ) (command : NumberedCommand) (code code' : RunState) (halt : Halt) (old now new : Contents)
    (first before last : Faults) → Joins a b c → IsNext commands index command → NotFewer first before
    → DoesAll a (segment input start (take index commands)) code old now
    → ((seen : State) → Represents code seen
    → RunsSegment b (segment input seen (command ∷ [])) code' (Err halt) now new before last)
    → RunsSegment c (segment input start commands) code' (Err halt) old new first last
stops_next {c = c} input start commands index command code code' halt old now new first before last join next fewer
    done goes =
    subst (λ (l : List NumberedCommand). RunsSegment c (segment input start l) code' (Err halt) old new first last)
    (ap (λ (l : List NumberedCommand). l ++ drop (index + 1) commands) (to_next commands index command next)
    ∙ take-append-drop (index + 1) commands)
    (stops_before input start (take index commands ++ command ∷ []) (drop (index + 1) commands)
    (refuser halt code'.manager) halt.stop old new first last
    (stops_behind input start done.0 (take index commands) (command ∷ []) (refuser halt code'.manager) halt.stop old
    now new first before last join fewer done.1 (goes done.0 done.2)))

-- all of them are done
pub does_last : {asks : List Request → Type 0} (input : Groups) (start : State) (commands : List NumberedCommand)
    (index : ℕ) (code : RunState) (old new : Contents) → length commands ≤ index
    → DoesAll asks (segment input start (take index commands)) code old new
    → DoesAll asks (segment input start commands) code old new
does_last {asks = asks} input start commands index code old new all done =
    subst (λ (l : List NumberedCommand). DoesAll asks (segment input start l) code old new)
    (take_all index commands all) done

-- ---- what is kept

-- all commands of a plan were done
pub carried_all : {asks : List Request → Type 0} (plan : Plan) (code : RunState) (kept : Option Table)
    (old new : Contents) (before now : Faults) → kept ≡ None → DoesAll asks plan code old new
    → PlanEnds asks plan kept (Ok tt) old new before now
carried_all plan code kept old new before now none all =
    carried_done plan code.manager kept old new before now none
    (comes_to_end plan.input plan.start plan.commands code code.manager old new before now all)

-- or they stopped, and the manager is kept whose arena was full
pub carried_halt : {asks : List Request → Type 0} (plan : Plan) (code : RunState) (halt : Halt)
    (kept was : Option Table) (stop : Stop) (old new : Contents) (before now : Faults) → was ≡ None
    → stop ≡ halt.stop → kept ≡ cond (is_full halt.stop) (Some (refuser halt code.manager)) was
    → RunsSegment asks plan code (Err halt) old new before now → PlanEnds asks plan kept (Err stop) old new before now
carried_halt {asks = asks} plan code halt kept was stop old new before now none is keeps goes =
    subst (λ s. PlanEnds asks plan kept (Err s) old new before now) (sym is)
    (carried_stop plan (refuser halt code.manager) kept was halt.stop old new before now none keeps goes)
