-- The first commands of a plan: what tells of a generated formula, and the opening.
use Rattle.std.proofs.Common.{◌≡◌, ℕ, List, [], ◌∷◌, ◌++◌, length, fold}
use Rattle.std.proofs.Common.{Option, Some, None, Result, Ok, Err, OnOk, IfErr}
use Rattle.std.proofs.Common.{refl, sym, ap, subst, ◌∙◌, unwrap_or}
use Rattle.std.specs.Option.{option_to_list}
use Rattle.sd_base.specs.Asked.{Request}
use Rattle.sd_model.specs.Tree.{Tree, leaves}
use Rattle.sd_formula.specs.Dimacs.{Groups}
use Rattle.sd_vtree.specs.Numbered.{plain_tree}
use Rattle.sd_manager.specs.Table.{Table}
use Rattle.sd_commands.specs.Effects.{Effect}
use Rattle.sd_commands.specs.Commands.{State, Done, Step, Steps}
use Rattle.sd_commands.specs.Fits.{AllFit, bound_after}
use Rattle.sd_commands.specs.Opening.{FollowsInput, IsHandedBack, IsOpeningStopped, IsStoppedByParts, OpensChosen}
use Rattle.sd_commands.specs.Opening.{StopsWithRoom}
use Rattle.sd_commands.specs.Standing.{Represents, StepsTo, StopsAt, IsAsBefore, IsLeft, HoldsNames}
use Rattle.sd_commands.specs.Standing.{effects_of, names_of, start}
use Rattle.sd_commands.specs.declared.command.Effect.{Effect as CodeEffect}
use Rattle.sd_commands.specs.declared.command.NumberedCommand.{NumberedCommand}
use Rattle.sd_commands.specs.declared.command.RunCommand.{RunCommand}
use Rattle.sd_commands.specs.declared.command.RunCommand.TheVariants as commands
use Rattle.sd_commands.specs.declared.error.CommandError.{CommandError}
use Rattle.sd_commands.specs.declared.error.CommandError.TheVariants as errors
use Rattle.sd_commands.specs.declared.opening.Opened.{Opened}
use Rattle.sd_commands.specs.declared.state.RunState.{RunState}
use Rattle.sd_commands.proofs.Standing.{holds_names, left_state}
use Rattle.sd_tool.specs.Effects.{Contents}
use Rattle.sd_tool.specs.Devices.{Faults}
use Rattle.sd_tool.specs.PlanViews.{start_of, plan_of, opening_commands, opened_names, IsReady, IsTold, CanOpen}
use Rattle.sd_tool.specs.inside.Asks.{writings}
use Rattle.sd_tool.specs.inside.Course.{after_effects}
use Rattle.sd_tool.specs.inside.Devices.{NotFewer}
use Rattle.sd_tool.specs.inside.Readings.{search_of, in_lines}
use Rattle.sd_tool.specs.inside.Segments.{segment, AreDone, DoesAll, RunsSegment, CanBegin, CanRun}
use Rattle.sd_tool.specs.inside.Segments.{StopsByParts, StopsChoosing, refuser}
use Rattle.sd_tool.specs.Stops.{FailsAt, RunsToEnd, stop_of}
use Rattle.sd_tool.specs.declared.plan.Opening.{Opening}
use Rattle.sd_tool.specs.declared.plan.Opening.TheVariants.{Nothing, Parts, Choice}
use Rattle.sd_tool.specs.declared.plan.RunPlan.{RunPlan}
use Rattle.sd_tool.specs.declared.stop.Halt.{Halt}
use Rattle.sd_tool.specs.declared.stop.Stop.{Stop}
use Rattle.sd_tool.proofs.AskLemmas.{Joins}
use Rattle.sd_tool.proofs.StepLemmas.{LeavesAt, no_fewer, one_done, one_fails, one_stops}
use Rattle.sd_tool.proofs.SegmentLemmas.{names_by, circuit_by, done_behind, runs_behind, stops_behind, stops_before}

-- ---- a command of `step`

-- what a command that stops leaves, where an arena was full
left_at_stop : (input : Groups) (command : RunCommand) (old new : RunState) (seen : State) (error : CommandError)
    → Represents old seen → IsLeft input command old new → LeavesAt input seen command new.manager error
left_at_stop input command old new seen (errors.ArenaFull n) was left =
    let same = left_state input command old new seen was left in
    (same.1, holds_names new (record seen { tree = plain_tree new.manager.vtree }) same.0)
left_at_stop input command old new seen (errors.OverLimit group size limit) was left = tt
left_at_stop input command old new seen errors.NotMovable was left = tt
left_at_stop input command old new seen errors.OutOfMemory was left = tt

-- it stops
pub step_stops : {asks : List Request → Type 0} (input : Groups) (c : NumberedCommand) (old new : RunState)
    (seen : State) (error : CommandError) (halt : Halt) (same : Contents) (before : Faults)
    → halt ≡ record { stop = stop_of c.line error; manager = None } → asks [] → Represents old seen
    → StopsAt input seen c.command new.manager error → IsLeft input c.command old new
    → RunsSegment asks (segment input seen (c ∷ [])) new (Err halt) same same before before
step_stops {asks = asks} input c old new seen error halt same before is none was stops left =
    subst (λ h. RunsSegment asks (segment input seen (c ∷ [])) new (Err h) same same before before) (sym is)
    (one_stops input seen c new.manager error same same before before none refl stops
    (left_at_stop input c.command old new seen error was left))

-- it is done, with its effect
pub step_done : {asks : List Request → Type 0} (input : Groups) (c : NumberedCommand) (code : RunState)
    (seen : State) (asked : Option CodeEffect) (old new : Contents) → StepsTo input seen c.command code asked
    → new ≡ after_effects (effects_of asked) old → asks (writings (effects_of asked))
    → DoesAll asks (segment input seen (c ∷ [])) code old new
step_done input c code seen asked old new done does asked_so =
    (done.next, one_done input seen done.next c asked old new done.step does asked_so, done.represents)

-- its effect fails
pub step_fails : {asks : List Request → Type 0} (input : Groups) (c : NumberedCommand) (code : RunState)
    (seen : State) (asked : Option CodeEffect) (stop : Stop) (halt : Halt) (old new : Contents) (before now : Faults)
    → halt ≡ record { stop = stop; manager = None } → StepsTo input seen c.command code asked
    → FailsAt stop (effects_of asked) old new before now → asks (writings (effects_of asked))
    → RunsSegment asks (segment input seen (c ∷ [])) code (Err halt) old new before now
step_fails {asks = asks} input c code seen asked stop halt old new before now is done fails asked_so =
    subst (λ h. RunsSegment asks (segment input seen (c ∷ [])) code (Err h) old new before now) (sym is)
    (one_fails input seen done.next c asked code.manager stop old new before now done.step fails asked_so)

-- ---- the line that tells of a generated formula

-- it can be done first
pub told_fits : (v o : ℕ) (told : Option NumberedCommand) → IsTold told → AllFit v o [] (option_to_list told)
told_fits v o None is = tt
told_fits v o (Some line) is =
    subst (λ (c : RunCommand). AllFit v o [] (record { line = line.line; command = c } ∷ [])) (sym is.2)
    (record { used_bound = refl; free = refl; ranges = refl }, tt)

-- the state stays
pub told_stays : (input : Groups) (seen state : State) (told : Option NumberedCommand) (e : List Effect) → IsTold told
    → Steps input seen (option_to_list told) e state → state ≡ seen
told_stays input seen state None e is steps = steps.1
told_stays input seen state (Some line) e is steps =
    let step = subst (λ (c : RunCommand). Step input seen c (Done steps.0 steps.1)) is.2 steps.3 in
    let same : steps.0 ≡ seen = cc in steps.4.1 ∙ same

-- ---- an input by parts

-- the line of an input by parts
abbrev parts_line : ℕ → NumberedCommand
parts_line count = record { line = 1; command = commands.InputByParts 0 count }

-- a manager that is handed back is the one that refused
handed_back : {asks : List Request → Type 0} (input : Groups) (seen : State) (c : NumberedCommand)
    (error : CommandError) (t : Table) (same : Contents) (before : Faults) → asks [] → seen.names ≡ []
    → IsHandedBack input seen c.command error t
    → RunsToEnd asks (segment input seen (c ∷ [])) t (Err (stop_of c.line error)) same same before before
handed_back input seen c (errors.ArenaFull n) t same before none names back =
    one_stops input seen c t (errors.ArenaFull n) same same before before none refl (back.may_fill, back.filled)
    (back.tree, subst (HoldsNames t) (sym names) back.nothing)
handed_back input seen c (errors.OverLimit group size limit) t same before none names back = absurd back
handed_back input seen c errors.NotMovable t same before none names back = absurd back
handed_back input seen c errors.OutOfMemory t same before none names back = absurd back

-- an input by parts leaves what was there before
left_by_parts : (input : Groups) (count : ℕ) (old new : RunState) (seen : State) (error : CommandError)
    → Represents old seen → IsAsBefore old new → LeavesAt input seen (commands.InputByParts 0 count) new.manager error
left_by_parts input count old new seen (errors.ArenaFull n) was left =
    let now = left.represents seen was in (sym now.tree, holds_names new seen now)
left_by_parts input count old new seen (errors.OverLimit group size limit) was left = tt
left_by_parts input count old new seen errors.NotMovable was left = tt
left_by_parts input count old new seen errors.OutOfMemory was left = tt

-- the input is bound by parts
pub parts_done : {asks : List Request → Type 0} (input : Groups) (count : ℕ) (code : RunState) (seen : State)
    (same : Contents) → asks [] → StepsTo input seen (commands.InputByParts 0 count) code None
    → DoesAll asks (segment input seen (opening_commands (Parts count))) code same same
parts_done input count code seen same none done = step_done input (parts_line count) code seen None same same done
    refl none

-- or it is not
pub parts_stop : {asks : List Request → Type 0} (input : Groups) (count : ℕ) (old new : RunState) (seen : State)
    (halt : Halt) (same : Contents) (before : Faults) → asks [] → Represents old seen → seen.names ≡ []
    → StopsByParts input seen count old new halt
    → RunsSegment asks (segment input seen (opening_commands (Parts count))) new (Err halt) same same before before
parts_stop {asks = asks} input count old new seen halt same before none was names stops =
    subst (λ s. RunsToEnd asks (segment input seen (parts_line count ∷ [])) (refuser halt new.manager) (Err s) same same
    before before) (sym stops.is) (go halt.manager stops.stopped)
  where
    go : (m : Option Table) → IsStoppedByParts input seen (commands.InputByParts 0 count) new.manager stops.error m
        → RunsToEnd asks (segment input seen (parts_line count ∷ [])) (unwrap_or m new.manager)
        (Err (stop_of 1 stops.error)) same same before before
    go None stopped = one_stops input seen (parts_line count) new.manager stops.error same same before before none refl
        stopped (left_by_parts input count old new seen stops.error was stops.same)
    go (Some t) back = handed_back input seen (parts_line count) stops.error t same before none names back

-- as the code answers
parts_go : (asks : List Request → Type 0) (input : Groups) (count : ℕ) (old new : RunState) (seen : State)
    (result : Result (Unit {0}) Halt) (same : Contents) (before : Faults) → asks []
    → CanBegin input old seen (Parts count)
    → OnOk result (StepsTo input seen (commands.InputByParts 0 count) new None)
    → IfErr result (StopsByParts input seen count old new)
    → RunsSegment asks (segment input seen (opening_commands (Parts count))) new result same same before before
parts_go asks input count old new seen (Ok u) same before none can done stops =
    parts_done input count new seen same none done
parts_go asks input count old new seen (Err halt) same before none can done stops =
    parts_stop input count old new seen halt same before none can.represents can.none stops

-- an opening by parts goes so
pub opens_by_parts : (asks : List Request → Type 0) (input : Groups) (opening : Opening) (count : ℕ)
    (old new : RunState) (seen : State) (result : Result (Unit {0}) Halt) (same : Contents) (before : Faults)
    → opening ≡ Parts count → asks []
    → ((seen : State) → CanBegin input old seen (Parts count)
    → OnOk result (StepsTo input seen (commands.InputByParts 0 count) new None))
    → ((seen : State) → CanBegin input old seen (Parts count) → IfErr result (StopsByParts input seen count old new))
    → CanBegin input old seen opening
    → RunsSegment asks (segment input seen (opening_commands opening)) new result same same before before
opens_by_parts asks input opening count old new seen result same before is none done stops can =
    let own = subst (CanBegin input old seen) is can in
    subst (λ (o : Opening). RunsSegment asks (segment input seen (opening_commands o)) new result same same before
    before) (sym is)
    (parts_go asks input count old new seen result same before none own (done seen own) (stops seen own))

-- ---- a choice

-- the line of a choice
abbrev choice_line : Option ℕ → NumberedCommand
choice_line rounds = record { line = 1; command = commands.Choose rounds }

-- that of its input
abbrev input_line : NumberedCommand
input_line = record { line = 1; command = commands.Input 0 }

-- that of its search
abbrev search_line : ℕ → NumberedCommand
search_line rounds = record { line = 2; command = commands.Minimise rounds }

-- where there is room, it stops without a manager
stops_with_room : {asks : List Request → Type 0} (input : Groups) (seen : State) (c : NumberedCommand)
    (error : CommandError) (t : Table) (same : Contents) (before : Faults) → asks []
    → StopsWithRoom input seen c.command error
    → RunsToEnd asks (segment input seen (c ∷ [])) t (Err (stop_of c.line error)) same same before before
stops_with_room input seen c (errors.ArenaFull n) t same before none stops = absurd stops
stops_with_room input seen c (errors.OverLimit group size limit) t same before none stops =
    one_stops input seen c t (errors.OverLimit group size limit) same same before before none refl stops tt
stops_with_room input seen c errors.NotMovable t same before none stops =
    one_stops input seen c t errors.NotMovable same same before before none refl stops tt
stops_with_room input seen c errors.OutOfMemory t same before none stops =
    one_stops input seen c t errors.OutOfMemory same same before before none refl stops tt

-- no start is chosen
pub choice_stops : {asks : List Request → Type 0} (input : Groups) (rounds : Option ℕ) (code : RunState) (seen : State)
    (halt : Halt) (same : Contents) (before : Faults) → asks [] → seen.names ≡ []
    → StopsChoosing input seen rounds halt
    → RunsSegment asks (segment input seen (opening_commands (Choice rounds))) code (Err halt) same same before before
choice_stops {asks = asks} input rounds code seen halt same before none names stops =
    stops_before input seen (choice_line rounds ∷ []) (input_line ∷ in_lines 2 (search_of rounds))
    (refuser halt code.manager) halt.stop same same before before
    (subst (λ s. RunsToEnd asks (segment input seen (choice_line rounds ∷ [])) (refuser halt code.manager) (Err s) same
    same before before) (sym stops.is) (go halt.manager stops.stopped))
  where
    go : (m : Option Table) → IsOpeningStopped input seen (commands.Choose rounds) stops.error m
        → RunsToEnd asks (segment input seen (choice_line rounds ∷ [])) (unwrap_or m code.manager)
        (Err (stop_of 1 stops.error)) same same before before
    go None stopped = stops_with_room input seen (choice_line rounds) stops.error code.manager same before none stopped
    go (Some t) back = handed_back input seen (choice_line rounds) stops.error t same before none names back

-- an opening by a choice stops so
pub stops_by_choice : (asks : List Request → Type 0) (input : Groups) (opening : Opening) (rounds : Option ℕ)
    (code : RunState) (seen : State) (halt : Halt) (same : Contents) (before : Faults) → opening ≡ Choice rounds
    → asks []
    → ((seen : State) → CanBegin input code seen (Choice rounds) → StopsChoosing input seen rounds halt)
    → CanBegin input code seen opening
    → RunsSegment asks (segment input seen (opening_commands opening)) code (Err halt) same same before before
stops_by_choice asks input opening rounds code seen halt same before is none stops can =
    let own = subst (CanBegin input code seen) is can in
    subst (λ (o : Opening). RunsSegment asks (segment input seen (opening_commands o)) code (Err halt) same same before
    before) (sym is) (choice_stops input rounds code seen halt same before none own.none (stops seen own))

-- the line of the choice is not printed
pub choice_fails : {asks : List Request → Type 0} (input : Groups) (rounds : Option ℕ) (seen : State)
    (opened : Opened) (stop : Stop) (halt : Halt) (old new : Contents) (before now : Faults)
    → halt ≡ record { stop = stop; manager = None } → OpensChosen input seen rounds opened
    → FailsAt stop (effects_of (Some opened.told)) old new before now → asks (writings (effects_of (Some opened.told)))
    → RunsSegment asks (segment input seen (opening_commands (Choice rounds))) opened.state (Err halt) old new
    before now
choice_fails {asks = asks} input rounds seen opened stop halt old new before now is opens fails asked_so =
    subst (λ h. RunsSegment asks (segment input seen (opening_commands (Choice rounds))) opened.state (Err h) old new
    before now) (sym is)
    (stops_before input seen (choice_line rounds ∷ []) (input_line ∷ in_lines 2 (search_of rounds))
    opened.state.manager stop old new before now
    (one_fails input seen opens.chosen (choice_line rounds) (Some opened.told) opened.state.manager stop old new
    before now opens.choose fails asked_so))

-- it is printed, and the input is bound
bound_by_choice : {a : List Request → Type 0} (input : Groups) (rounds : Option ℕ) (seen : State) (opened : Opened)
    (old new : Contents) (opens : OpensChosen input seen rounds opened)
    → new ≡ after_effects (effects_of (Some opened.told)) old → a (writings (effects_of (Some opened.told)))
    → AreDone a (segment input seen (choice_line rounds ∷ input_line ∷ [])) opens.bound old new
bound_by_choice input rounds seen opened old new opens does asked_so = record {
  effects = effects_of (Some opened.told);
  steps = (
    opens.chosen,
    effects_of (Some opened.told),
    [],
    opens.choose,
    (opens.bound, [], [], opens.bind, (refl, refl), refl),
    refl,
  );
  asked = asked_so;
  leaves = does;
}

-- the line of the search is printed, where one is asked for
pub choice_done : {a b c : List Request → Type 0} (input : Groups) (rounds : Option ℕ) (seen : State)
    (opened : Opened) (old mid new : Contents) → Joins a b c → OpensChosen input seen rounds opened
    → mid ≡ after_effects (effects_of (Some opened.told)) old → a (writings (effects_of (Some opened.told)))
    → new ≡ after_effects (effects_of opened.searched) mid → b (writings (effects_of opened.searched))
    → DoesAll c (segment input seen (opening_commands (Choice rounds))) opened.state old new
choice_done {a = a} {b = b} {c = c} input rounds seen opened old mid new join opens does asked_so then_does then_asked =
    go rounds opens.search
  where
    front : AreDone a (segment input seen (choice_line rounds ∷ input_line ∷ [])) opens.bound old mid
    front = bound_by_choice input rounds seen opened old mid opens does asked_so

    go : (r : Option ℕ) → FollowsInput input opens.bound r opened.state opened.searched
        → DoesAll c (segment input seen (choice_line rounds ∷ input_line ∷ in_lines 2 (search_of r))) opened.state old
        new
    go None last = (
      opens.bound,
      done_behind input seen opens.bound opens.bound (choice_line rounds ∷ input_line ∷ []) [] old mid new join front
          (record {
            effects = [];
            steps = (refl, refl);
            asked = subst (λ (e : Option CodeEffect). b (writings (effects_of e))) last.0 then_asked;
            leaves = subst (λ (e : Option CodeEffect). new ≡ after_effects (effects_of e) mid) last.0 then_does;
          }),
      last.1,
    )
    go (Some r) last = (
      last.next,
      done_behind input seen opens.bound last.next (choice_line rounds ∷ input_line ∷ []) (search_line r ∷ []) old mid
          new join front
          (one_done input opens.bound last.next (search_line r) opened.searched mid new last.step then_does then_asked),
      last.represents,
    )

-- or it is not
pub search_fails : {a b c : List Request → Type 0} (input : Groups) (rounds : Option ℕ) (seen : State)
    (opened : Opened) (stop : Stop) (halt : Halt) (old mid new : Contents) (first before last : Faults)
    → halt ≡ record { stop = stop; manager = None } → Joins a b c → NotFewer first before
    → OpensChosen input seen rounds opened
    → mid ≡ after_effects (effects_of (Some opened.told)) old → a (writings (effects_of (Some opened.told)))
    → FailsAt stop (effects_of opened.searched) mid new before last → b (writings (effects_of opened.searched))
    → RunsSegment c (segment input seen (opening_commands (Choice rounds))) opened.state (Err halt) old new first last
search_fails {a = a} {b = b} {c = c} input rounds seen opened stop halt old mid new first before last is join fewer
    opens does asked_so fails then_asked =
    subst (λ h. RunsSegment c (segment input seen (opening_commands (Choice rounds))) opened.state (Err h) old new
    first last) (sym is) (go rounds opens.search)
  where
    front : AreDone a (segment input seen (choice_line rounds ∷ input_line ∷ [])) opens.bound old mid
    front = bound_by_choice input rounds seen opened old mid opens does asked_so

    go : (r : Option ℕ) → FollowsInput input opens.bound r opened.state opened.searched
        → RunsToEnd c (segment input seen (choice_line rounds ∷ input_line ∷ in_lines 2 (search_of r)))
        opened.state.manager (Err stop) old new first last
    go None follows =
        let one = subst (λ (e : Option CodeEffect). effects_of e ≡ fails.effect ∷ []) follows.0 fails.one in
        let bad : ⊥ = cc in absurd bad
    go (Some r) follows =
        stops_behind input seen opens.bound (choice_line rounds ∷ input_line ∷ []) (search_line r ∷ [])
        opened.state.manager stop old mid new first before last join fewer front
        (one_fails input opens.bound follows.next (search_line r) opened.searched opened.state.manager stop mid new
        before last follows.step fails then_asked)

-- ---- all of them

-- the names that are bound behind the opening
pub names_opened : (input : Groups) (seen state : State) (opening : Opening) (e : List Effect) → seen.names ≡ []
    → Steps input seen (opening_commands opening) e state → names_of state ≡ opened_names opening
names_opened input seen state opening e none steps =
    names_by input seen state (opening_commands opening) e steps
    ∙ ap (λ names. fold (λ names c. bound_after names c.command) names (opening_commands opening))
    (ap (λ entries. names_of (record seen { names = entries })) none) ∙ go opening
  where
    go : (o : Opening) → fold (λ names c. bound_after names c.command) [] (opening_commands o) ≡ opened_names o
    go Nothing = refl
    go (Parts count) = refl
    go (Choice None) = refl
    go (Choice (Some rounds)) = refl

-- the state of a choice is that of its settings
begins_at : (input : Groups) (code : RunState) (seen : State) (rounds : Option ℕ) (limit slack : ℕ)
    → limit ≡ code.limit → slack ≡ code.slack → CanBegin input code seen (Choice rounds)
    → start seen.tree limit slack None ≡ seen
begins_at input code seen rounds limit slack is_limit is_slack can =
    ap (λ l. start seen.tree l slack None) (is_limit ∙ sym can.represents.limit)
    ∙ ap (λ s. start seen.tree seen.limit s None) (is_slack ∙ sym can.represents.slack) ∙ sym can.opens

-- so what is opened is opened in this state
pub opens_at : (input : Groups) (code : RunState) (seen : State) (rounds : Option ℕ) (limit slack : ℕ)
    (opened : Opened) → limit ≡ code.limit → slack ≡ code.slack → CanBegin input code seen (Choice rounds)
    → ((tree : Tree) → leaves tree ≡ input.variables → OpensChosen input (start tree limit slack None) rounds opened)
    → OpensChosen input seen rounds opened
opens_at input code seen rounds limit slack opened is_limit is_slack can opens =
    subst (λ s. OpensChosen input s rounds opened) (begins_at input code seen rounds limit slack is_limit is_slack can)
    (opens seen.tree (ap leaves can.represents.tree ∙ can.variables))

-- and what stops, stops in this state
pub stops_choosing : (input : Groups) (code : RunState) (seen : State) (rounds : Option ℕ) (limit slack : ℕ)
    (error : CommandError) (manager : Option Table) (halt : Halt) → limit ≡ code.limit → slack ≡ code.slack
    → halt ≡ record { stop = stop_of 1 error; manager = manager } → CanBegin input code seen (Choice rounds)
    → ((tree : Tree) → leaves tree ≡ input.variables
    → IsOpeningStopped input (start tree limit slack None) (commands.Choose rounds) error manager)
    → StopsChoosing input seen rounds halt
stops_choosing input code seen rounds limit slack error manager halt is_limit is_slack is can stops = record {
  error = error;
  stopped = subst (IsOpeningStopped input seen (commands.Choose rounds) error)
      (sym (ap (λ (h : Halt). h.manager) is))
      (subst (λ s. IsOpeningStopped input s (commands.Choose rounds) error manager)
      (begins_at input code seen rounds limit slack is_limit is_slack can)
      (stops seen.tree (ap leaves can.represents.tree ∙ can.variables)));
  is = ap (λ (h : Halt). h.stop) is;
}

-- ---- the stages of a plan

-- the first line can be done
pub can_tell : (plan : RunPlan) → IsReady plan
    → (seen : State) × CanRun plan.formula plan.state seen (option_to_list plan.told)
can_tell plan ready = (
  start_of plan.state,
  record {
    represents = ready.represents;
    variables = ready.variables;
    fit = told_fits plan.formula.variables _ plan.told ready.told;
  },
)

-- behind it the opening can be done
pub can_begin : {asks : List Request → Type 0} (plan : RunPlan) (code : RunState) (old now : Contents) → IsReady plan
    → leaves (plain_tree code.manager.vtree) ≡ leaves (plain_tree plan.state.manager.vtree)
    → (done : DoesAll asks (segment plan.formula (start_of plan.state) (option_to_list plan.told)) code old now)
    → CanBegin plan.formula code done.0 plan.opening
can_begin plan code old now ready same done =
    let stays = told_stays plan.formula (start_of plan.state) done.0 plan.told done.1.effects ready.told done.1.steps in
    record {
      represents = done.2;
      variables = same ∙ ready.variables;
      none = ap (λ (s : State). s.names) stays;
      opens = subst (λ (s : State). CanOpen s plan.opening) (sym stays) ready.opens;
    }

-- and then the commands
pub can_go_on : {a b : List Request → Type 0} (plan : RunPlan) (code last : RunState) (old mid now : Contents)
    → IsReady plan
    → leaves (plain_tree last.manager.vtree) ≡ leaves (plain_tree plan.state.manager.vtree)
    → (told : DoesAll a (segment plan.formula (start_of plan.state) (option_to_list plan.told)) code old mid)
    → DoesAll b (segment plan.formula told.0 (opening_commands plan.opening)) last mid now
    → (seen : State) × CanRun plan.formula last seen plan.commands.items
can_go_on plan code last old mid now ready same told done =
    let stays = told_stays plan.formula (start_of plan.state) told.0 plan.told told.1.effects ready.told told.1.steps in
    let names = names_opened plan.formula told.0 done.0 plan.opening done.1.effects
    (ap (λ (s : State). s.names) stays) done.1.steps in
    let circuit = circuit_by plan.formula told.0 done.0 (opening_commands plan.opening) done.1.effects done.1.steps
    ∙ ap (λ (s : State). s.circuit) stays in (
      done.0,
      record {
        represents = done.2;
        variables = same ∙ ready.variables;
        fit = subst (λ c. AllFit plan.formula.variables (length c.outputs) (names_of done.0) plan.commands.items)
            (sym circuit)
            (subst (λ names. AllFit plan.formula.variables
            (length plan.state.shared.circuit.text.outputs) names plan.commands.items) (sym names) ready.fit);
      },
    )

-- the run stops at the first line
pub halts_telling : {asks : List Request → Type 0} (plan : RunPlan) (code : RunState) (halt : Halt)
    (old new : Contents) (before last : Faults)
    → RunsSegment asks (segment plan.formula (start_of plan.state) (option_to_list plan.told)) code (Err halt) old new
    before last
    → RunsSegment asks (plan_of plan) code (Err halt) old new before last
halts_telling plan code halt old new before last goes =
    stops_before plan.formula (start_of plan.state) (option_to_list plan.told ++ opening_commands plan.opening)
    plan.commands.items (refuser halt code.manager) halt.stop old new before last
    (stops_before plan.formula (start_of plan.state) (option_to_list plan.told) (opening_commands plan.opening)
    (refuser halt code.manager) halt.stop old new before last goes)

-- or at the opening
pub halts_opening : {a b c : List Request → Type 0} (plan : RunPlan) (code last : RunState) (halt : Halt)
    (old mid new : Contents) (first before now : Faults) → Joins a b c → NotFewer first before
    → (told : DoesAll a (segment plan.formula (start_of plan.state) (option_to_list plan.told)) code old mid)
    → RunsSegment b (segment plan.formula told.0 (opening_commands plan.opening)) last (Err halt) mid new before now
    → RunsSegment c (plan_of plan) last (Err halt) old new first now
halts_opening plan code last halt old mid new first before now join fewer told goes =
    stops_before plan.formula (start_of plan.state) (option_to_list plan.told ++ opening_commands plan.opening)
    plan.commands.items (refuser halt last.manager) halt.stop old new first now
    (stops_behind plan.formula (start_of plan.state) told.0 (option_to_list plan.told) (opening_commands plan.opening)
    (refuser halt last.manager) halt.stop old mid new first before now join fewer told.1 goes)

-- or among the commands, or it does all
pub goes_on : {a b c d e : List Request → Type 0} (plan : RunPlan) (code opened last : RunState)
    (result : Result (Unit {0}) Halt) (old mid now new : Contents) (first before then_on after_ : Faults)
    → Joins a b c → Joins c d e → NotFewer first before → NotFewer before then_on
    → (told : DoesAll a (segment plan.formula (start_of plan.state) (option_to_list plan.told)) code old mid)
    → (done : DoesAll b (segment plan.formula told.0 (opening_commands plan.opening)) opened mid now)
    → RunsSegment d (segment plan.formula done.0 plan.commands.items) last result now new then_on after_
    → RunsSegment e (plan_of plan) last result old new first after_
goes_on plan code opened last result old mid now new first before then_on after_ join other fewer no_fewer_then told
    done goes =
    runs_behind plan.formula (start_of plan.state) done.0
    (option_to_list plan.told ++ opening_commands plan.opening) plan.commands.items last result old now new first
    then_on
    after_ other (no_fewer first before then_on fewer no_fewer_then)
    (done_behind plan.formula (start_of plan.state) told.0 done.0 (option_to_list plan.told)
    (opening_commands plan.opening) old mid now join told.1 done.1) goes
