-- What a command comes to, from what was bound or handed out.
use Rattle.std.proofs.Common.{◌≡◌, ℕ, Bool, true, false, ◌||◌, eqb, List, [], ◌∷◌, map}
use Rattle.std.proofs.Common.{Option, Some, None, Result, Ok, Err, IfOk, IfErr, refl, sym, ap, subst, ◌∙◌}
use Rattle.std.proofs.Common.{inl, inr, ◌<◌, ◌≤◌, ◌+◌, length, get_or, drop, arith}
use Rattle.std.proofs.Math.ListN.{get_or-map}
use Rattle.std.proofs.lemmas.List.{length-map}
use Rattle.std.specs.List.{list_all, list_any, AllByRecursion}
use Rattle.std.specs.Option.{IsSome}
use Rattle.std.specs.declared.alloc.AllocError.{AllocError}
use Rattle.std.proofs.lemmas.Bool.{cases_Bool, and_parts, ltb-true}
use Rattle.std.specs.Prelude.{nat_le}
use Rattle.sd_model.specs.Circuit.{Circuit}
use Rattle.sd_runs.specs.declared.error.TakeError.{TakeError}
use Rattle.sd_runs.specs.declared.error.TakeError.TheVariants as taking
use Rattle.sd_model.specs.Expression.{Expression}
use Rattle.sd_formula.specs.Dimacs.{Groups}
use Rattle.sd_manager.specs.Table.{Table}
use Rattle.sd_manager.specs.Making.{KeepsRule}
use Rattle.sd_commands.specs.Effects.{Write, Print}
use Rattle.sd_commands.specs.Commands.{State, Outcome, Done, OverLimit, Step, Settles, MayFill, named}
use Rattle.sd_commands.specs.Fits.{Fits, AllFit, has, uses, binds, in_range, bound_after, of_no_line, unnumbered}
use Rattle.sd_commands.specs.Standing.{Represents, HoldsName, HasRoot, IsFree, SettlesAt, IsNotSettled, HandsOut}
use Rattle.sd_commands.specs.Standing.{StepsTo, StopsAt, names_of, effects_of, error_of_operation}
use Rattle.sd_commands.specs.declared.command.RunCommand.{RunCommand}
use Rattle.sd_commands.specs.declared.command.RunCommand.TheVariants as commands
use Rattle.sd_commands.specs.declared.command.Effect.{Effect as CodeEffect}
use Rattle.sd_commands.specs.declared.command.Effect.TheVariants.{WriteFile, PrintLine}
use Rattle.sd_commands.specs.declared.error.CommandError.{CommandError}
use Rattle.sd_commands.specs.declared.error.CommandError.TheVariants as errors
use Rattle.sd_commands.specs.declared.state.RunState.{RunState}
use Rattle.sd_commands.proofs.Names.{named_not}
use Rattle.sd_commands.proofs.Settling.{settles_within, settles_past}
use Rattle.sd_commands.proofs.Outcomes.{fit_at}

-- ---- the total size settles a command

-- it leads to its state
pub settled_steps : (input : Groups) (seen next : State) (command : RunCommand) (code : RunState)
    (result : Result (Option CodeEffect) CommandError)
    → ((outcome : Outcome) → Settles next outcome → Step input seen command outcome)
    → IfOk result (λ effect. SettlesAt next code effect)
    → IfOk result (λ effect. StepsTo input seen command code effect)
settled_steps input seen next command code (Err e) step settles = tt
settled_steps input seen next command code (Ok effect) step settles = record {
  next = next;
  step = subst (λ a. Step input seen command (Done next (effects_of a))) (sym settles.quiet)
      (step (Done next []) (settles_within next settles.within));
  represents = settles.represents;
}

-- or it stops
pub settled_stops : (input : Groups) (seen next : State) (command : RunCommand) (t : Table)
    (result : Result (Option CodeEffect) CommandError)
    → ((outcome : Outcome) → Settles next outcome → Step input seen command outcome)
    → IfErr result (λ e. IsNotSettled next e) → IfErr result (λ e. StopsAt input seen command t e)
settled_stops input seen next command t (Ok effect) step h = tt
settled_stops input seen next command t (Err (errors.OverLimit group size limit)) step h =
    subst (λ g. Step input seen command (OverLimit g size limit)) (sym h.0)
    (subst (λ l. Step input seen command (OverLimit None size l)) (sym h.2)
    (step (OverLimit None size next.limit) (settles_past next size h.1)))
settled_stops input seen next command t (Err (errors.ArenaFull elements)) step h = absurd h
settled_stops input seen next command t (Err errors.NotMovable) step h = absurd h
settled_stops input seen next command t (Err errors.OutOfMemory) step h = tt

-- an operation before it stops
pub operation_stops : (input : Groups) (seen : State) (command : RunCommand) (t : Table) (e : TakeError)
    → MayFill seen command → t.bound ≡ 2147483647 → KeepsRule t e
    → StopsAt input seen command t (error_of_operation e)
operation_stops input seen command t (taking.ArenaFull elements) fill bound rule =
    (fill, record { whole = bound; rule = rule })
operation_stops input seen command t taking.OutOfMemory fill bound rule = tt

-- ---- a command with an effect, and no change of the state

-- a line is printed
pub printed : (input : Groups) (seen : State) (command : RunCommand) (code : RunState) (line said : List ℕ)
    → Represents code seen → Step input seen command (Done seen (Print said ∷ [])) → line ≡ said
    → StepsTo input seen command code (Some (PrintLine line))
printed input seen command code line said was step is = record {
  next = seen;
  step = subst (λ l. Step input seen command (Done seen (Print l ∷ []))) (sym is) step;
  represents = was;
}

-- a file is written
pub written : (input : Groups) (seen : State) (command : RunCommand) (code : RunState)
    (name file text said : List ℕ) → Represents code seen → Step input seen command (Done seen (Write file said ∷ []))
    → name ≡ file → text ≡ said → StepsTo input seen command code (Some (WriteFile name text))
written input seen command code name file text said was step names is = record {
  next = seen;
  step = subst (λ n. Step input seen command (Done seen (Write n text ∷ []))) (sym names)
      (subst (λ l. Step input seen command (Done seen (Write file l ∷ []))) (sym is) step);
  represents = was;
}

-- what is handed out is the command's
pub handed_steps : (input : Groups) (seen : State) (command : RunCommand) (code : RunState)
    (effect : Result CodeEffect AllocError) (result : Result (Option CodeEffect) CommandError)
    → IfOk effect (λ a. StepsTo input seen command code (Some a)) → HandsOut effect result
    → IfOk result (λ a. StepsTo input seen command code a)
handed_steps input seen command code (Err e) result steps out =
    subst (λ r. IfOk r (λ a. StepsTo input seen command code a)) (sym out) tt
handed_steps input seen command code (Ok effect) result steps out =
    subst (λ r. IfOk r (λ a. StepsTo input seen command code a)) (sym out) steps

-- or there was no memory for it
pub handed_stops : (input : Groups) (seen : State) (command : RunCommand) (t : Table)
    (effect : Result CodeEffect AllocError) (result : Result (Option CodeEffect) CommandError)
    → HandsOut effect result → IfErr result (λ e. StopsAt input seen command t e)
handed_stops input seen command t (Err e) result out =
    subst (λ r. IfErr r (λ e. StopsAt input seen command t e)) (sym out) tt
handed_stops input seen command t (Ok effect) result out =
    subst (λ r. IfErr r (λ e. StopsAt input seen command t e)) (sym out) tt

-- ---- what a command needs

-- a name that is among the bound ones has a formula
named_has : (es : List (ℕ × Expression)) (n : ℕ) → has (map (λ e. e.0) es) n ≡ true → IsSome (named es n)
named_has [] n h = absurd cc
named_has (e ∷ es) n h = elim (cases_Bool (eqb e.0 n)) [
  | inl here ↦ rw here refl
  | inr apart ↦
      let later : has (map (λ e. e.0) es) n ≡ true = rw apart at h in
      rw apart (named_has es n later)
]

-- so it has a root
has_root : (code : RunState) (seen : State) (name : ℕ) → Represents code seen → has (names_of seen) name ≡ true
    → HasRoot code name
has_root code seen name was h = both _ _ (was.holds name) (named_has seen.names name h)
  where
    both : (r : Option ℕ) (v : Option Expression) → HoldsName code.manager r v → IsSome v → IsSome r
    both (Some r) v holds some = refl
    both None None holds some = absurd cc
    both None (Some value) holds some = absurd holds

-- the first name that a command uses
pub first_used : (code : RunState) (seen : State) (v o : ℕ) (command : RunCommand) (a : ℕ) (others : List ℕ)
    → Represents code seen → Fits v o (names_of seen) command → uses command ≡ a ∷ others → HasRoot code a
first_used code seen v o command a others was fits is =
    let all : list_all (has (names_of seen)) (a ∷ others) ≡ true =
    ap (list_all (has (names_of seen))) (sym is) ∙ fits.used_bound in
    has_root code seen a was (and_parts _ _ all).0

-- and the second one
pub second_used : (code : RunState) (seen : State) (v o : ℕ) (command : RunCommand) (a b : ℕ) (others : List ℕ)
    → Represents code seen → Fits v o (names_of seen) command → uses command ≡ a ∷ b ∷ others → HasRoot code b
second_used code seen v o command a b others was fits is =
    let all : list_all (has (names_of seen)) (a ∷ b ∷ others) ≡ true =
    ap (list_all (has (names_of seen))) (sym is) ∙ fits.used_bound in
    has_root code seen b was (and_parts _ _ (and_parts _ _ all).1).0

-- all names that a command uses
pub all_used : (code : RunState) (seen : State) (v o : ℕ) (command : RunCommand) (names : List ℕ)
    → Represents code seen → Fits v o (names_of seen) command → uses command ≡ names
    → AllByRecursion (HasRoot code) names
all_used code seen v o command names was fits is =
    go names (ap (list_all (has (names_of seen))) (sym is) ∙ fits.used_bound)
  where
    go : (ns : List ℕ) → list_all (has (names_of seen)) ns ≡ true → AllByRecursion (HasRoot code) ns
    go [] h = tt
    go (n ∷ ns) h =
        let both = and_parts _ _ h in (has_root code seen n was both.0, go ns both.1)

-- a write has a name
pub some_named : (v o : ℕ) (names : List ℕ) (command : RunCommand) (file bound : List ℕ)
    → Fits v o bound command → command ≡ commands.Write names file → 1 ≤ length names
some_named v o names command file bound fits is = go names (ap (in_range v o) (sym is) ∙ fits.ranges)
  where
    go : (ns : List ℕ) → nat_le 1 (length ns) ≡ true → 1 ≤ length ns
    go [] h = cc
    go (n ∷ ns) h = omega arith

-- the name that a command binds is free
pub binds_free : (code : RunState) (seen : State) (v o : ℕ) (command : RunCommand) (name : ℕ)
    → Represents code seen → Fits v o (names_of seen) command → binds command ≡ name ∷ [] → IsFree code name
binds_free code seen v o command name was fits is =
    let none : list_any (has (names_of seen)) (name ∷ []) ≡ false =
    ap (list_any (has (names_of seen))) (sym is) ∙ fits.free in
    free _ _ (was.holds name) (named_not seen.names name (one (has (names_of seen) name) none))
  where
    one : (b : Bool) → b || false ≡ false → b ≡ false
    one true h = absurd cc
    one false h = refl

    free : (r : Option ℕ) (v : Option Expression) → HoldsName code.manager r v → v ≡ None → r ≡ None
    free None v holds none = refl
    free (Some r) None holds none = absurd holds
    free (Some r) (Some value) holds none = absurd cc

-- an output is one of the circuit
pub output_there : (code : RunState) (seen : State) (v : ℕ) (command : RunCommand) (name index : ℕ)
    → Represents code seen → Fits v (length seen.circuit.outputs) (names_of seen) command
    → command ≡ commands.Output name index → index < length code.shared.circuit.text.outputs
output_there code seen v command name index was fits is =
    subst (λ (c : Circuit). index < length c.outputs) was.circuit
    (ltb-true index (length seen.circuit.outputs)
    (ap (in_range v (length seen.circuit.outputs)) (sym is) ∙ fits.ranges))

-- ---- commands of no line

-- one of them can be done, and so can those after it
pub fit_next : (v o : ℕ) (names : List ℕ) (commands : List RunCommand) (i : ℕ) (c : RunCommand) → i < length commands
    → c ≡ get_or commands i c → AllFit v o names (drop i (unnumbered commands))
    → Fits v o names c × AllFit v o (bound_after names c) (drop (i + 1) (unnumbered commands))
fit_next v o names commands i c below at fit =
    fit_at v o names (unnumbered commands) i (of_no_line c)
    (subst (λ n. i < n) (sym (length-map commands of_no_line)) below)
    (ap of_no_line at ∙ sym (get_or-map of_no_line commands i c)) fit
