-- The commands of a run, and what each comes to. A later command is a case more of `RunCommand` and of `Step`.
use Rattle.std.specs.Prelude.{◌≡◌, ◌⊎◌, ◌↔◌, ℕ, zero, suc, ◌%◌, ◌<◌, ◌≤◌, nat_le, Bool, true, false, not, ◌==◌}
use Rattle.std.specs.Prelude.{List, [], ◌∷◌, ◌++◌, map, filter, length, take, codes, Option, Some, None, unwrap_or}
use Rattle.std.specs.Prelude.{if◌then◌else◌, MatchBool, MatchOption}
use Rattle.sd_model.specs.Circuit.{Circuit}
use Rattle.sd_model.specs.Expression.{Expression, Constant, Atom, Combined, Negated, Conditioned, Forgotten, OutputOf}
use Rattle.sd_model.specs.Expression.{expression_value, AreOneFunction}
use Rattle.sd_model.specs.Tree.{Tree, leaves}
use Rattle.sd_model.specs.Moves.{moved_at}
use Rattle.sd_model.specs.Diagram.{Diagram}
use Rattle.sd_model.specs.Size.{IsDiagramOf, HasSize}
use Rattle.sd_model.specs.Text.{number_text, line_of_words, roots_text, vtree_text}
use Rattle.std.specs.FinMap.{get}
use Rattle.std.specs.List.{AllZip}
use Rattle.std.specs.Option.{option_map_or, IsSome}
use Rattle.sd_formula.specs.Dimacs.{Groups}
use Rattle.sd_formula.specs.Formulas.{expression_of}
use Rattle.sd_file.specs.Files.{entry_at}
use Rattle.sd_file.specs.Reads.{File, expression_of_file}
use Rattle.sd_search.specs.Search.{Found, IsSearch}
use Rattle.sd_parts.specs.Parts.{PartsOutcome, Joined, Passed, IsPartsOutcome}
use Rattle.sd_starts.specs.Starts.{tree_of_start, Choice, Chosen, AllPassed, IsChoice}
use Rattle.sd_starts.specs.declared.start.Settings.{Settings}
use Rattle.sd_starts.specs.declared.start.Start.{Start}
use Rattle.sd_starts.specs.declared.start.Start.TheVariants.{Balanced, Right, Left}
use Rattle.sd_check.specs.Rules.{HasVerdict}
use Rattle.sd_check.specs.declared.rules.Rule.{Rule}
use Rattle.sd_check.specs.declared.rules.Rule.TheVariants as rules
use Rattle.sd_check.specs.declared.rules.Verdict.{Verdict}
use Rattle.sd_check.specs.declared.rules.Verdict.TheVariants.{Yes, No}
use Rattle.sd_commands.specs.Effects.{Effect, Write, Print}
use Rattle.sd_commands.specs.declared.command.RunCommand.{RunCommand}
use Rattle.sd_commands.specs.declared.command.RunCommand.TheVariants as commands
use Rattle.sd_commands.specs.declared.command.NumberedCommand.{NumberedCommand}

-- What a run holds between two commands: the bound names with their formulas, the last one first, the tree, the limit
-- of the total size, and the circuit. A walk of a search may reach so many hundredths (`slack`) of the size at its
-- start. Where `every` is there, a search follows each group of the input whose number is a multiple of it.
pub record State : Type 0 where
  pub names : List (ℕ × Expression)
  pub tree : Tree
  pub limit : ℕ
  pub slack : ℕ
  pub every : Option ℕ
  pub circuit : Circuit

-- the circuit of a run without one: it has no lines
abbrev pub no_circuit : Circuit
no_circuit = record { variables = 0; inputs = []; outputs = []; ands = [] }

-- a command is done, with a new state and at most one effect; its place is not movable; or the total size passes the
-- limit, at a group of the input or after the command
pub data Outcome : Type 0 where
  Done : (state : State) (effects : List Effect) → Outcome
  NotMovable : Outcome
  OverLimit : (group : Option ℕ) (size limit : ℕ) → Outcome

-- the formula of a name, if it is bound
abbrev pub named : List (ℕ × Expression) → ℕ → Option Expression
named [] name = None
named (entry ∷ entries) name = if entry.0 == name then Some entry.1 else named entries name

-- the formula of a bound name
abbrev pub formula_named : State → ℕ → Expression
formula_named state name = unwrap_or (named state.names name) (Constant false)

-- the state with one more name
abbrev pub with_name : State → ℕ → Expression → State
with_name state name f = record state { names = (name, f) ∷ state.names }

-- the state without a name
abbrev pub dropped : State → ℕ → State
dropped state name = record state { names = filter (λ entry. not (entry.0 == name)) state.names }

-- the formulas of the bound names
abbrev pub formulas_of : State → List Expression
formulas_of state = map (λ entry. entry.1) state.names

-- the size of the formulas' diagrams together is within the limit
abbrev pub AreWithin : List Expression → Tree → ℕ → Type 0
AreWithin fs tree limit = (size : ℕ) × HasSize fs tree size × (size ≤ limit)

-- that size passes the limit
abbrev pub PassLimit : List Expression → Tree → (limit size : ℕ) → Type 0
PassLimit fs tree limit size = HasSize fs tree size × (limit < size)

-- A command leads to this state, and does nothing outside, where the total size there is within the limit. Else it is
-- refused.
abbrev pub Settles : State → Outcome → Type 0
Settles next outcome = (size : ℕ) × HasSize (formulas_of next) next.tree size
    × (outcome ≡ (if nat_le size next.limit then Done next [] else OverLimit None size next.limit))

-- the name is bound to the formula, if the total size is then within the limit
abbrev pub Binds : State → ℕ → Expression → Outcome → Type 0
Binds state name f outcome = Settles (with_name state name f) outcome

-- the formula of the first groups of the input, beside those of the bound names
abbrev pub with_groups : Groups → State → ℕ → List Expression
with_groups input state count =
    expression_of (record input { groups = take count input.groups }) ∷ formulas_of state

-- a search of at most so many rounds from one tree finds the other
abbrev pub IsSearched : List Expression → ℕ → ℕ → Tree → Tree → Type 0
IsSearched fs slack rounds before after =
    (found : Found) × IsSearch fs slack rounds before found × (after ≡ found.tree)

-- a search follows the group of this number, counted from 1, where the number is a multiple of `every`
abbrev pub is_due : Option ℕ → ℕ → Bool
is_due every group = option_map_or (λ k. group % k == 0) every false

-- the tree after a group: where a search is due, one of one round over the formulas leads to it, and else it stays
abbrev pub FollowsBy : (List Expression → ℕ → ℕ → Tree → Tree → Type 0)
    → Bool → List Expression → ℕ → Tree → Tree → Type 0
FollowsBy Search due fs slack before after =
    MatchBool due (Search fs slack 1 before after) (after ≡ before)

-- the same where the search is done
abbrev pub Follows : Bool → List Expression → ℕ → Tree → Tree → Type 0
Follows = FollowsBy IsSearched

-- So many groups of the input lead to this tree: with each of them the total size is within the limit, under the tree
-- that is there then, and a search follows each behind which one is due. It is done, but behind the last of the groups
-- it is as `Search` says.
abbrev pub GrowsBy : (List Expression → ℕ → ℕ → Tree → Tree → Type 0)
    → Groups → State → ℕ → Tree → Type 0
GrowsBy Search input state zero tree = tree ≡ state.tree
GrowsBy Search input state (suc n) tree = (before : Tree) × GrowsBy IsSearched input state n before
    × AreWithin (with_groups input state (suc n)) before state.limit
    × FollowsBy Search (is_due state.every (suc n)) (with_groups input state (suc n)) state.slack
    before tree

-- the same where each search is done
abbrev pub Grows : Groups → State → ℕ → Tree → Type 0
Grows = GrowsBy IsSearched

-- this group is the first with which the total size passes the limit, under the tree to which those before it lead
abbrev pub PassesAtGroup : Groups → State → (group size : ℕ) → Type 0
PassesAtGroup input state group size = (done : ℕ) × (tree : Tree) × (group ≡ suc done)
    × (group ≤ length input.groups) × Grows input state done tree
    × PassLimit (with_groups input state group) tree state.limit size

-- The name is bound to the input, over the tree to which all groups lead. Or the command is refused at the first group
-- with which the total size passes the limit.
abbrev pub BindsInput : Groups → State → ℕ → Outcome → Type 0
BindsInput input state name outcome =
    ((tree : Tree) × Grows input state (length input.groups) tree
    × (outcome ≡ Done (with_name (record state { tree = tree }) name (expression_of input)) []))
    ⊎ ((group size : ℕ) × PassesAtGroup input state group size
    × (outcome ≡ OverLimit (Some group) size state.limit))

-- what a move comes to: over the moved tree, if there is one
abbrev pub Moves : State → Option Tree → Outcome → Type 0
Moves state moved outcome =
    MatchOption moved (outcome ≡ NotMovable)
    (λ tree. Settles (record state { tree = tree }) outcome)

-- the command writes or prints this, and the state stays
abbrev pub Does : State → Effect → Outcome → Type 0
Does state effect outcome = outcome ≡ Done state (effect ∷ [])

-- the text of the canonical diagrams of formulas, in their order
pub record IsTextOf (tree : Tree) (fs : List Expression) (text : List ℕ) : Type 0 where
  pub diagrams : List Diagram
  pub of_values : AllZip (IsDiagramOf tree) fs diagrams
  pub is : text ≡ roots_text diagrams

-- a line that is printed: a word and numbers
abbrev pub told_line : List ℕ → List ℕ → List ℕ
told_line word numbers = line_of_words (word ∷ map number_text numbers)

-- the line of a generated formula: how many variables and groups it has
abbrev pub generated_line : ℕ → ℕ → List ℕ
generated_line variables groups = told_line (codes "generated") (variables ∷ groups ∷ [])

-- the line with the size of a diagram
abbrev pub size_line : ℕ → List ℕ
size_line n = told_line (codes "size") (n ∷ [])

-- the line that says whether two formulas are one function
abbrev pub same_line : Bool → List ℕ
same_line same = told_line (if same then codes "same" else codes "differ") []

-- the line with a truth value
abbrev pub value_line : Bool → List ℕ
value_line value = told_line (codes "value") ((if value then 1 else 0) ∷ [])

-- the line of a search: the total size at its start and at its end, and the number of rounds
abbrev pub search_line : (before after rounds : ℕ) → List ℕ
search_line before after rounds = told_line (codes "minimise") (before ∷ after ∷ rounds ∷ [])

-- a search of at most so many rounds is done: the names keep their formulas over the tree that it finds, and its line
-- is printed
abbrev pub Searches : State → ℕ → Outcome → Type 0
Searches state rounds outcome =
    (found : Found) × IsSearch (formulas_of state) state.slack rounds state.tree found
    × (outcome ≡ Done (record state { tree = found.tree })
    (Print (search_line found.before found.after found.rounds) ∷ []))

-- the line is printed that says whether two formulas are one function
abbrev pub Compares : State → Expression → Expression → Outcome → Type 0
Compares state f g outcome =
    (answer : Bool) × ((answer ≡ true) ↔ AreOneFunction (leaves state.tree) f g)
    × Does state (Print (same_line answer)) outcome

-- What an input by parts comes to: its name is bound to the formula, or the group that passes the limit is told.
abbrev pub by_parts : State → ℕ → Expression → PartsOutcome → Outcome
by_parts state name f Joined = Done (with_name state name f) []
by_parts state name f (Passed group size) = OverLimit (Some group) size state.limit

-- what is asked of each start
abbrev pub settings_of : State → Option ℕ → Settings
settings_of state rounds = record { limit = state.limit; slack = state.slack; rounds = rounds }

-- the word for a start
abbrev pub start_word : Start → List ℕ
start_word Balanced = codes "balanced"
start_word Right = codes "right"
start_word Left = codes "left"

-- the line with the start that was chosen
abbrev pub start_line : Start → List ℕ
start_line start = line_of_words (codes "start" ∷ start_word start ∷ [])

-- the state over the tree of a start
abbrev pub at_start : State → Start → State
at_start state start = record state { tree = tree_of_start start (leaves state.tree) }

-- What a choice comes to: the tree is that of the start that was chosen, which is printed, or the group that passes the
-- limit is told.
abbrev pub by_choice : State → Choice → Outcome
by_choice state (Chosen start size) = Done (at_start state start) (Print (start_line start) ∷ [])
by_choice state (AllPassed group size) = OverLimit (Some group) size state.limit

-- the word for a rule that a node of a file may break
abbrev pub rule_word : Rule → List ℕ
rule_word rules.Vtree = codes "vtree"
rule_word rules.Prime = codes "prime"
rule_word rules.Sub = codes "sub"
rule_word rules.Count = codes "count"
rule_word rules.Overlap = codes "overlap"
rule_word rules.Cover = codes "cover"
rule_word rules.Subs = codes "subs"
rule_word rules.Trim = codes "trim"

-- the line that says that the node of an id breaks a rule
abbrev pub refusal_line : ℕ → Rule → List ℕ
refusal_line id rule = line_of_words (codes "no" ∷ number_text id ∷ rule_word rule ∷ [])

-- the line with the verdict on a file: where a node breaks a rule, its id and the rule
abbrev pub verdict_line : File → Verdict → List ℕ
verdict_line file Yes = line_of_words (codes "yes" ∷ [])
verdict_line file (No node rule) = refusal_line (entry_at file node).id rule

-- What a command comes to in a state, where this formula is the input. At a move the names keep their formulas over
-- the moved tree, if the total size is then within the limit; where there is no such tree, the place is not movable.
-- At a search they keep them over the tree that it finds, of at most so many rounds; the size at its start, the one
-- at its end and its rounds are printed. At a choice the input is compiled alone over each start, and searched with
-- the rounds. At a check the verdict on the file is printed, where the ids of its vtree have these positions.
abbrev pub Step : Groups → State → RunCommand → Outcome → Type 0
Step input state (commands.Generated variables groups) outcome =
    Does state (Print (generated_line variables groups)) outcome
Step input state (commands.Input n) outcome = BindsInput input state n outcome
Step input state (commands.Load n file) outcome = Binds state n (expression_of_file file) outcome
Step input state (commands.Literal n literal) outcome = Binds state n (Atom literal) outcome
Step input state (commands.Constant n value) outcome = Binds state n (Constant value) outcome
Step input state (commands.Combine operation n a b) outcome =
    Binds state n (Combined operation (formula_named state a) (formula_named state b)) outcome
Step input state (commands.Negate n a) outcome = Binds state n (Negated (formula_named state a)) outcome
Step input state (commands.Given n a literal) outcome =
    Binds state n (Conditioned (formula_named state a) literal) outcome
Step input state (commands.Forget n a x) outcome = Binds state n (Forgotten (formula_named state a) x) outcome
Step input state (commands.Drop a) outcome = outcome ≡ Done (dropped state a) []
Step input state (commands.Turn kind p) outcome = Moves state (moved_at kind state.tree p) outcome
Step input state (commands.Minimise rounds) outcome = Searches state rounds outcome
Step input state (commands.Limit limit) outcome = Settles (record state { limit = limit }) outcome
Step input state (commands.Same a b) outcome =
    Compares state (formula_named state a) (formula_named state b) outcome
Step input state (commands.Size a) outcome =
    (n : ℕ) × HasSize (formula_named state a ∷ []) state.tree n
    × Does state (Print (size_line n)) outcome
Step input state (commands.Value a bits) outcome =
    Does state (Print (value_line (expression_value (formula_named state a) bits))) outcome
Step input state (commands.Write names file) outcome =
    (text : List ℕ) × IsTextOf state.tree (map (formula_named state) names) text
    × Does state (Write file text) outcome
Step input state (commands.WriteVtree file) outcome = Does state (Write file (vtree_text state.tree)) outcome
Step input state (commands.InputByParts n parts) outcome =
    (end : PartsOutcome) × IsPartsOutcome state.tree state.limit (formulas_of state) input parts end
    × (outcome ≡ by_parts state n (expression_of input) end)
Step input state (commands.Choose rounds) outcome =
    (choice : Choice) × IsChoice input (settings_of state rounds) choice × (outcome ≡ by_choice state choice)
Step input state (commands.Output n index) outcome = Binds state n (OutputOf state.circuit index) outcome
Step input state (commands.Check file ids) outcome =
    (verdict : Verdict) × HasVerdict state.tree (get ids) file verdict
    × Does state (Print (verdict_line file verdict)) outcome

-- The command may need the arena of the diagrams in this state. A move may only where it is defined: its place is
-- looked at first.
abbrev pub MayFill : State → RunCommand → Type 0
MayFill state (commands.Input n) = Unit {0}
MayFill state (commands.Load n file) = Unit {0}
MayFill state (commands.Combine operation n a b) = Unit {0}
MayFill state (commands.Negate n a) = Unit {0}
MayFill state (commands.Given n a literal) = Unit {0}
MayFill state (commands.Forget n a x) = Unit {0}
MayFill state (commands.Turn kind p) = IsSome (moved_at kind state.tree p)
MayFill state (commands.Minimise rounds) = Unit {0}
MayFill state (commands.InputByParts n parts) = Unit {0}
MayFill state (commands.Choose rounds) = Unit {0}
MayFill state (commands.Output n index) = Unit {0}
MayFill state (commands.Check file ids) = Unit {0}
MayFill state command = ⊥

-- these commands are all done, one after another, with these effects
abbrev pub Steps : Groups → State → List NumberedCommand → List Effect → State → Type 0
Steps input old [] effects new = (effects ≡ []) × (new ≡ old)
Steps input old (command ∷ commands) effects new =
    (mid : State) × (first : List Effect) × (others : List Effect)
    × Step input old command.command (Done mid first) × Steps input mid commands others new
    × (effects ≡ first ++ others)
