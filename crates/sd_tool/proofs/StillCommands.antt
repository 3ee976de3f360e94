-- Commands that do not move the vtree, so that no place of theirs is not movable.
use Rattle.std.proofs.Common.{◌≡◌, ℕ, zero, suc, ◌+◌, Bool, true, false, Option, Some, None, List, [], ◌∷◌, ◌++◌}
use Rattle.std.proofs.Common.{inl, inr, map, refl, sym, subst}
use Rattle.std.specs.List.{range_with_len}
use Rattle.std.specs.Option.{option_map_or, option_to_list}
use Rattle.std.specs.Prelude.{if◌then◌else◌}
use Rattle.sd_formula.specs.Dimacs.{Groups}
use Rattle.sd_formula.specs.Formulas.{expression_of}
use Rattle.sd_parts.specs.Parts.{PartsOutcome, Joined, Passed}
use Rattle.sd_starts.specs.Starts.{Choice, Chosen, AllPassed}
use Rattle.sd_words.specs.declared.jobs.Job.{Job}
use Rattle.sd_words.specs.declared.jobs.InputWord.{InputWord}
use Rattle.sd_words.specs.declared.jobs.InputWord.TheVariants as inputs
use Rattle.sd_commands.specs.Effects.{Effect}
use Rattle.sd_commands.specs.Commands.{State, NotMovable as Unmoved, Step, Settles, by_parts, by_choice}
use Rattle.sd_commands.specs.declared.command.NumberedCommand.{NumberedCommand}
use Rattle.sd_commands.specs.declared.command.RunCommand.{RunCommand}
use Rattle.sd_commands.specs.declared.command.RunCommand.TheVariants as commands
use Rattle.sd_commands.proofs.Settling.{never_unmoved as never_settled}
use Rattle.sd_tool.specs.Readings.{announcement, binding, choice, default_of, first_names}
use Rattle.sd_tool.specs.inside.Plans.{Plan}
use Rattle.sd_tool.specs.inside.Readings.{in_lines}
use Rattle.sd_tool.specs.Ends.{NotMovable}
use Rattle.sd_tool.specs.inside.Course.{EndsAmong}

-- a command moves the vtree
abbrev pub is_move : RunCommand → Bool
is_move (commands.Turn kind p) = true
is_move command = false

-- none of these commands does
abbrev pub AreStill : List NumberedCommand → Type 0
AreStill [] = Unit {0}
AreStill (command ∷ commands) = (is_move command.command ≡ false) × AreStill commands

-- a command that leads to a state is not refused so
not_settled : (next : State) → Settles next Unmoved → ⊥
not_settled next p = never_settled next p

-- a command that does not is no place that is not movable
not_unmoved : (input : Groups) (state : State) (command : RunCommand) → is_move command ≡ false
    → Step input state command Unmoved → ⊥
not_unmoved input state (commands.Turn kind p) still step = cc
not_unmoved input state (commands.Generated v g) still step = cc
not_unmoved input state (commands.Input n) still (inl p) = let e = p.2 in cc
not_unmoved input state (commands.Input n) still (inr p) = let e = p.3 in cc
not_unmoved input state (commands.Load n file) still p = not_settled _ p
not_unmoved input state (commands.Literal n literal) still p = not_settled _ p
not_unmoved input state (commands.Constant n value) still p = not_settled _ p
not_unmoved input state (commands.Combine operation n a b) still p = not_settled _ p
not_unmoved input state (commands.Negate n a) still p = not_settled _ p
not_unmoved input state (commands.Given n a literal) still p = not_settled _ p
not_unmoved input state (commands.Forget n a x) still p = not_settled _ p
not_unmoved input state (commands.Drop a) still step = cc
not_unmoved input state (commands.Minimise rounds) still p = let e = p.2 in cc
not_unmoved input state (commands.Limit limit) still p = not_settled _ p
not_unmoved input state (commands.Same a b) still p = let e = p.2 in cc
not_unmoved input state (commands.Size a) still p = let e = p.2 in cc
not_unmoved input state (commands.Value a bits) still step = cc
not_unmoved input state (commands.Write names file) still p = let e = p.2 in cc
not_unmoved input state (commands.WriteVtree file) still step = cc
not_unmoved input state (commands.InputByParts n count) still p = by_end p.0 p.2
  where
    by_end : (end : PartsOutcome) → Unmoved ≡ by_parts state n (expression_of input) end → ⊥
    by_end Joined e = cc
    by_end (Passed group size) e = cc
not_unmoved input state (commands.Choose rounds) still p = by_end p.0 p.2
  where
    by_end : (choice : Choice) → Unmoved ≡ by_choice state choice → ⊥
    by_end (Chosen start size) e = cc
    by_end (AllPassed group size) e = cc
not_unmoved input state (commands.Output n index) still p = not_settled _ p
not_unmoved input state (commands.Check file ids) still p = let e = p.2 in cc

-- each of them does not
still_at : (done left : List NumberedCommand) (command : NumberedCommand) → AreStill (done ++ command ∷ left)
    → is_move command.command ≡ false
still_at [] left command still = still.0
still_at (first ∷ done) left command still = still_at done left command still.1

-- so they do not end there
pub never_unmoved : (plan : Plan) (effects : List Effect) (line : ℕ) → AreStill plan.commands
    → EndsAmong plan effects (NotMovable line) → ⊥
never_unmoved plan effects line still (state, next, at, is_line, step) =
    not_unmoved plan.input state next.command
    (still_at at.reaches.done at.left next (subst AreStill (sym at.reaches.in_order) still)) step

-- commands without lines of that kind
abbrev AreStillAlone : List RunCommand → Type 0
AreStillAlone [] = Unit {0}
AreStillAlone (command ∷ commands) = (is_move command ≡ false) × AreStillAlone commands

still_on : (cs ds : List RunCommand) → AreStillAlone cs → AreStillAlone ds → AreStillAlone (cs ++ ds)
still_on [] ds p q = q
still_on (c ∷ cs) ds p q = (p.0, still_on cs ds p.1 q)

still_lines : (first : ℕ) (cs : List RunCommand) → AreStillAlone cs → AreStill (in_lines first cs)
still_lines first [] p = tt
still_lines first (c ∷ cs) p = (p.0, still_lines (first + 1) cs p.1)

-- one command for each of a list
still_each : {A : Type 0} (f : A → RunCommand) → ((x : A) → is_move (f x) ≡ false) → (xs : List A)
    → AreStillAlone (map f xs)
still_each f still [] = tt
still_each f still (x ∷ xs) = (still x, still_each f still xs)

still_append : (xs ys : List NumberedCommand) → AreStill xs → AreStill ys → AreStill (xs ++ ys)
still_append [] ys p q = q
still_append (x ∷ xs) ys p q = (p.0, still_append xs ys p.1 q)

-- what binds the first names
still_binding : (job : Job) (outputs : ℕ) → AreStillAlone (binding job outputs)
still_binding job zero = go job.parts
  where
    go : (parts : Option ℕ) → AreStillAlone (option_map_or (commands.InputByParts 0) parts (commands.Input 0) ∷ [])
    go None = (refl, tt)
    go (Some count) = (refl, tt)
still_binding job (suc o) = still_each (λ i. commands.Output i i) (λ i. refl) (range_with_len 0 (suc o))

-- the commands of a job without a script are of that kind
pub default_still : (job : Job) (f : Groups) (outputs : ℕ)
    → AreStill (announcement job.input f ++ (choice job ++ default_of job outputs))
default_still job f outputs =
    still_append (announcement job.input f) (choice job ++ default_of job outputs) (told job.input)
    (still_append (choice job) (default_of job outputs) (chosen job.portfolio) (still_lines 1 _ all))
  where
    told : (word : InputWord) → AreStill (announcement word f)
    told (inputs.Cnf file) = tt
    told (inputs.Dnf file) = tt
    told (inputs.Generate count seed) = (refl, tt)
    told (inputs.Aag file) = tt
    told (inputs.Check file) = tt

    chosen : (b : Bool)
        → AreStill (if b then record { line = 1; command = commands.Choose job.minimise } ∷ [] else [])
    chosen true = (refl, tt)
    chosen false = tt

    all : AreStillAlone (binding job outputs ++ map commands.Minimise (option_to_list job.minimise)
        ++ map commands.WriteVtree (option_to_list job.out_vtree)
        ++ map (commands.Write (first_names outputs)) (option_to_list job.out_sdd)
        ++ map commands.Size (first_names outputs))
    all =
        still_on _ _ (still_on _ _ (still_on _ _ (still_on _ _ (still_binding job outputs)
        (still_each commands.Minimise (λ r. refl) (option_to_list job.minimise)))
        (still_each commands.WriteVtree (λ file. refl) (option_to_list job.out_vtree)))
        (still_each (commands.Write (first_names outputs)) (λ file. refl) (option_to_list job.out_sdd)))
        (still_each commands.Size (λ n. refl) (first_names outputs))
