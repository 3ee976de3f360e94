-- A command has one outcome; where it is done the tree is a vtree, and the bound names are those that are expected.
use Rattle.std.proofs.Common.{◌≡◌, ◌↔◌, ℕ, Bool, true, false, not, eqb, if◌then◌else◌, List, [], ◌∷◌, filter, map}
use Rattle.std.proofs.Common.{zero, suc, ◌≤◌, ◌+◌, ◌<◌, length, get_or, drop}
use Rattle.std.proofs.Common.{add-one, refl, sym, ap, subst, ◌∙◌, inl, inr}
use Rattle.std.proofs.Common.{Option, Some, None, arith}
use Rattle.std.specs.Prelude.{nat_le}
use Rattle.std.specs.FinMap.{get}
use Rattle.std.proofs.Math.Seq.{drop-cons}
use Rattle.std.proofs.lemmas.Bool.{cases_eq, cases_order, eq-eqb, ne_eqb}
use Rattle.sd_model.specs.Tree.{Tree, IsVtree, leaves}
use Rattle.sd_model.specs.Moves.{moved_at}
use Rattle.sd_model.specs.declared.trees.Move.{Move}
use Rattle.sd_model.specs.Text.{roots_text}
use Rattle.sd_model.specs.Expression.{Expression, Constant, Atom, Combined, Negated, Conditioned, Forgotten, OutputOf}
use Rattle.sd_model.specs.Expression.{AreOneFunction}
use Rattle.sd_model.specs.Size.{HasSize}
use Rattle.sd_model.proofs.Determined.{diagrams_determined, size_determined}
use Rattle.sd_formula.specs.Dimacs.{Groups}
use Rattle.sd_formula.specs.Formulas.{expression_of}
use Rattle.sd_file.specs.Reads.{expression_of_file}
use Rattle.sd_search.proofs.Determined.{search_determined}
use Rattle.sd_parts.specs.Parts.{PartsOutcome, Joined, Passed}
use Rattle.sd_parts.proofs.OneOutcome.{one_outcome as one_parts}
use Rattle.sd_starts.specs.Starts.{Choice, Chosen, AllPassed}
use Rattle.sd_starts.specs.declared.start.Start.{Start}
use Rattle.sd_check.proofs.Verdicts.{verdict_once}
use Rattle.sd_commands.specs.Effects.{Effect, Write, Print}
use Rattle.sd_commands.specs.Commands.{State, Outcome, Done, OverLimit, Step, Settles, Binds, BindsInput}
use Rattle.sd_commands.specs.Commands.{Moves, AreWithin, PassesAtGroup, IsTextOf, formulas_of, with_groups}
use Rattle.sd_commands.specs.Commands.{Grows, Follows, is_due}
use Rattle.sd_commands.specs.Commands.{with_name, formula_named, size_line, same_line, search_line}
use Rattle.sd_commands.specs.Commands.{by_parts, by_choice, at_start, settings_of, start_line, verdict_line}
use Rattle.sd_starts.proofs.OneChoice.{one_choice}
use Rattle.sd_starts.proofs.StartLeaves.{start_vtree}
use Rattle.sd_commands.specs.Fits.{Fits, AllFit, has, bound_after}
use Rattle.sd_commands.specs.Standing.{names_of}
use Rattle.sd_commands.specs.declared.command.NumberedCommand.{NumberedCommand}
use Rattle.sd_commands.specs.declared.command.RunCommand.{RunCommand}
use Rattle.sd_commands.specs.declared.command.RunCommand.TheVariants as commands
use Rattle.sd_commands.proofs.Searched.{search_valid}
use Rattle.sd_commands.proofs.Moved.{IsReordered, vtree_reordered, move_reordered}

-- ---- one outcome

-- formulas have one text
one_text : (tree : Tree) (fs : List Expression) (a b : List ℕ) → IsVtree tree → IsTextOf tree fs a → IsTextOf tree fs b
    → a ≡ b
one_text tree fs a b valid p q =
    p.is ∙ ap roots_text (diagrams_determined tree fs p.diagrams q.diagrams valid p.of_values q.of_values) ∙ sym q.is

-- a comparison has one answer
one_answer : (P : Type 0) (a b : Bool) → (a ≡ true) ↔ P → (b ≡ true) ↔ P → a ≡ b
one_answer P true b p q = sym (q.1 (p.0 refl))
one_answer P false true p q = p.1 (q.0 refl)
one_answer P false false p q = refl

-- a size within a limit does not pass it
not_both : (fs : List Expression) (tree : Tree) (limit size : ℕ) → IsVtree tree → AreWithin fs tree limit
    → HasSize fs tree size → limit < size → ⊥
not_both fs tree limit size valid in_ total passes =
    let same = size_determined tree fs in_.0 size valid in_.1 total in
    omega (arith, in_.2, passes, same)

-- a command that leads to a state has one outcome
one_settled : (next : State) (a b : Outcome) → IsVtree next.tree → Settles next a → Settles next b → a ≡ b
one_settled next a b valid p q =
    p.2 ∙ ap (λ n. if nat_le n next.limit then Done next [] else OverLimit None n next.limit)
    (size_determined next.tree (formulas_of next) p.0 q.0 valid p.1 q.1)
    ∙ sym q.2

-- a tree after groups of the input is a vtree
follows_valid : (due : Bool) (fs : List Expression) (slack : ℕ) (before after : Tree) → IsVtree before
    → Follows due fs slack before after → IsVtree after
follows_valid true fs slack before after valid p = subst IsVtree (sym p.2) (search_valid valid p.1)
follows_valid false fs slack before after valid p = subst IsVtree (sym p) valid

pub grows_valid : (input : Groups) (state : State) (n : ℕ) (tree : Tree) → IsVtree state.tree → Grows input state n tree
    → IsVtree tree
grows_valid input state zero tree valid p = subst IsVtree (sym p) valid
grows_valid input state (suc n) tree valid p =
    follows_valid _ (with_groups input state (suc n)) state.slack p.0 tree
    (grows_valid input state n p.0 valid p.1) p.3

-- there is one such tree
one_follows : (due : Bool) (fs : List Expression) (slack : ℕ) (before a b : Tree) → IsVtree before
    → Follows due fs slack before a → Follows due fs slack before b → a ≡ b
one_follows true fs slack before a b valid p q = p.2 ∙ ap (λ f. f.tree) (search_determined valid p.1 q.1) ∙ sym q.2
one_follows false fs slack before a b valid p q = p ∙ sym q

pub one_growth : (input : Groups) (state : State) (n : ℕ) (a b : Tree) → IsVtree state.tree → Grows input state n a
    → Grows input state n b → a ≡ b
one_growth input state zero a b valid p q = p ∙ sym q
one_growth input state (suc n) a b valid p q =
    let same = one_growth input state n p.0 q.0 valid p.1 q.1 in
    one_follows _ (with_groups input state (suc n)) state.slack q.0 a b (grows_valid input state n q.0 valid q.1)
    (subst (λ t. Follows (is_due state.every (suc n)) (with_groups input state (suc n)) state.slack t a) same p.3) q.3

-- where no search follows a group it is the tree of the state
pub plain_growth : (input : Groups) (state : State) (n : ℕ) (tree : Tree) → state.every ≡ None → Grows input state n
    tree
    → tree ≡ state.tree
plain_growth input state zero tree none p = p
plain_growth input state (suc n) tree none p =
    subst (λ e. Follows (is_due e (suc n)) (with_groups input state (suc n)) state.slack p.0 tree) none p.3
    ∙ plain_growth input state n p.0 none p.1

-- a group that passes the limit is not among groups that lead to a tree
not_grown : (input : Groups) (state : State) (g m n : ℕ) (tree : Tree) → IsVtree state.tree
    → PassesAtGroup input state g m → Grows input state n tree → g ≤ n → ⊥
not_grown input state g m zero tree valid p grows low = let e = p.2 in omega (arith, low, e)
not_grown input state g m (suc n) tree valid p grows low = elim (cases_order g (suc n)) [
  | inl same ↦
      let done : p.0 ≡ n = let e = p.2 in omega (arith, e, same) in
      let one : p.1 ≡ grows.0 =
      one_growth input state n p.1 grows.0 valid (subst (λ k. Grows input state k p.1) done p.4) grows.1 in
      not_both (with_groups input state (suc n)) grows.0 state.limit m (grows_valid input state n grows.0 valid grows.1)
      grows.2
      (subst (λ t. HasSize (with_groups input state (suc n)) t m) one
      (subst (λ k. HasSize (with_groups input state k) p.1 m) same p.5.0)) p.5.1
  | inr (inl less) ↦ not_grown input state g m n grows.0 valid p grows.1 (omega (arith, less))
  | inr (inr more) ↦ omega (arith, low, more)
]

-- no group after the first that passes the limit is the first
no_later : (input : Groups) (state : State) (g h m n : ℕ) → IsVtree state.tree → PassesAtGroup input state g m
    → PassesAtGroup input state h n → g < h → ⊥
no_later input state g h m n valid p q less =
    not_grown input state g m q.0 q.1 valid p q.4 (let e = q.2 in omega (arith, less, e))

-- so there is one
pub one_group : (input : Groups) (state : State) (g h m n : ℕ) → IsVtree state.tree → PassesAtGroup input state g m
    → PassesAtGroup input state h n → (g ≡ h) × (m ≡ n)
one_group input state g h m n valid p q = elim (cases_order g h) [
  | inl same ↦
      let done : p.0 ≡ q.0 = let e = p.2 in let f = q.2 in omega (arith, e, f, same) in
      let one : p.1 ≡ q.1 =
      one_growth input state q.0 p.1 q.1 valid (subst (λ k. Grows input state k p.1) done p.4) q.4 in (
        same,
        size_determined q.1 (with_groups input state h) m n (grows_valid input state q.0 q.1 valid q.4)
            (subst (λ t. HasSize (with_groups input state h) t m) one
            (subst (λ k. HasSize (with_groups input state k) p.1 m) same p.5.0)) q.5.0,
      )
  | inr (inl less) ↦ absurd (no_later input state g h m n valid p q less)
  | inr (inr more) ↦ absurd (no_later input state h g n m valid q p more)
]

-- the input is bound, or refused at one group
one_input : (input : Groups) (state : State) (name : ℕ) (a b : Outcome) → IsVtree state.tree
    → BindsInput input state name a → BindsInput input state name b → a ≡ b
one_input input state name a b valid (inl p) (inl q) =
    p.2 ∙ ap (λ t. Done (with_name (record state { tree = t }) name (expression_of input)) [])
    (one_growth input state (length input.groups) p.0 q.0 valid p.1 q.1)
    ∙ sym q.2
one_input input state name a b valid (inl p) (inr q) =
    absurd (not_grown input state q.0 q.1 (length input.groups) p.0 valid q.2 p.1 q.2.3)
one_input input state name a b valid (inr p) (inl q) =
    absurd (not_grown input state p.0 p.1 (length input.groups) q.0 valid p.2 q.1 p.2.3)
one_input input state name a b valid (inr p) (inr q) =
    let same = one_group input state p.0 q.0 p.1 q.1 valid p.2 q.2 in
    p.3 ∙ ap (λ g. OverLimit (Some g) p.1 state.limit) same.0 ∙ ap (λ n. OverLimit (Some q.0) n state.limit) same.1
    ∙ sym q.3

-- a move has one outcome
one_moved : (kind : Move) (state : State) (position : ℕ) (o : Option Tree) (a b : Outcome)
    → moved_at kind state.tree position ≡ o → IsVtree state.tree → Moves state o a → Moves state o b → a ≡ b
one_moved kind state position None a b at valid p q = p ∙ sym q
one_moved kind state position (Some tree) a b at valid p q =
    one_settled (record state { tree = tree }) a b
    (vtree_reordered state.tree tree (move_reordered kind state.tree tree position at) valid) p q

pub one_outcome : (input : Groups) (state : State) (command : RunCommand) (a b : Outcome) → IsVtree state.tree
    → Step input state command a → Step input state command b → a ≡ b
one_outcome input state (commands.Generated v g) a b valid p q = p ∙ sym q
one_outcome input state (commands.Input n) a b valid p q =
    one_input input state n a b valid p q
one_outcome input state (commands.Load n file) a b valid p q =
    one_settled (with_name state n (expression_of_file file)) a b valid p q
one_outcome input state (commands.Literal n literal) a b valid p q =
    one_settled (with_name state n (Atom literal)) a b valid p q
one_outcome input state (commands.Constant n value) a b valid p q =
    one_settled (with_name state n (Constant value)) a b valid p q
one_outcome input state (commands.Combine operation n x y) a b valid p q =
    one_settled (with_name state n (Combined operation (formula_named state x) (formula_named state y))) a b valid p q
one_outcome input state (commands.Negate n x) a b valid p q =
    one_settled (with_name state n (Negated (formula_named state x))) a b valid p q
one_outcome input state (commands.Given n x literal) a b valid p q =
    one_settled (with_name state n (Conditioned (formula_named state x) literal)) a b valid p q
one_outcome input state (commands.Forget n x variable) a b valid p q =
    one_settled (with_name state n (Forgotten (formula_named state x) variable)) a b valid p q
one_outcome input state (commands.Drop x) a b valid p q = p ∙ sym q
one_outcome input state (commands.Turn kind position) a b valid p q =
    one_moved kind state position (moved_at kind state.tree position) a b refl valid p q
one_outcome input state (commands.Minimise rounds) a b valid p q =
    p.2 ∙ ap (λ found. Done (record state { tree = found.tree })
    (Print (search_line found.before found.after found.rounds) ∷ []))
    (search_determined valid p.1 q.1)
    ∙ sym q.2
one_outcome input state (commands.Limit limit) a b valid p q =
    one_settled (record state { limit = limit }) a b valid p q
one_outcome input state (commands.Same x y) a b valid p q =
    p.2 ∙ ap (λ r. Done state (Print (same_line r) ∷ []))
    (one_answer (AreOneFunction (leaves state.tree) (formula_named state x) (formula_named state y)) p.0 q.0 p.1 q.1)
    ∙ sym q.2
one_outcome input state (commands.Size x) a b valid p q =
    p.2 ∙ ap (λ n. Done state (Print (size_line n) ∷ []))
    (size_determined state.tree (formula_named state x ∷ []) p.0 q.0 valid p.1 q.1)
    ∙ sym q.2
one_outcome input state (commands.Value x bits) a b valid p q = p ∙ sym q
one_outcome input state (commands.Write names file) a b valid p q =
    p.2 ∙ ap (λ text. Done state (Write file text ∷ []))
    (one_text state.tree (map (formula_named state) names) p.0 q.0 valid p.1 q.1)
    ∙ sym q.2
one_outcome input state (commands.WriteVtree file) a b valid p q = p ∙ sym q
one_outcome input state (commands.InputByParts n parts) a b valid p q =
    p.2 ∙ ap (by_parts state n (expression_of input))
    (one_parts state.tree valid state.limit (formulas_of state) input parts p.0 q.0 p.1 q.1)
    ∙ sym q.2
one_outcome input state (commands.Choose rounds) a b valid p q =
    p.2 ∙ ap (by_choice state) (one_choice input (settings_of state rounds) p.0 q.0 p.1 q.1) ∙ sym q.2
one_outcome input state (commands.Output n index) a b valid p q =
    one_settled (with_name state n (OutputOf state.circuit index)) a b valid p q
one_outcome input state (commands.Check file ids) a b valid p q =
    p.2 ∙ ap (λ verdict. Done state (Print (verdict_line file verdict) ∷ []))
    (verdict_once state.tree (get ids) file p.0 q.0 p.1 q.1)
    ∙ sym q.2

-- ---- the tree and the names

-- two outcomes that are done with one state
same_next : (a b : State) (x y : List Effect) → Done a x ≡ Done b y → a ≡ b
same_next a b x y e = cc

-- no name is taken out
all_stay : (names : List ℕ) → filter (λ n. not (has [] n)) names ≡ names
all_stay [] = refl
all_stay (n ∷ names) = ap (λ l. n ∷ l) (all_stay names)

-- the names that are left are the names of what is left
names_left : (es : List (ℕ × Expression)) (a : ℕ)
    → map (λ e. e.0) (filter (λ e. not (eqb e.0 a)) es) ≡ filter (λ n. not (has (a ∷ []) n)) (map (λ e. e.0) es)
names_left [] a = refl
names_left (e ∷ es) a = elim (cases_eq e.0 a) [
  | inl same ↦ rw (eq-eqb e.0 a same, eq-eqb a e.0 (sym same)) (names_left es a)
  | inr differ ↦
      rw (ne_eqb e.0 a differ, ne_eqb a e.0 (λ same. differ (sym same))) (ap (λ l. e.0 ∷ l) (names_left es a))
]

-- a command that is done leads to its state, without an effect
pub settled_done : (state next : State) (effects : List Effect) → Settles state (Done next effects)
    → (next ≡ state) × (effects ≡ [])
settled_done state next effects p = go (nat_le p.0 state.limit) p.2
  where
    go : (b : Bool) → Done next effects ≡ (if b then Done state [] else OverLimit None p.0 state.limit)
        → (next ≡ state) × (effects ≡ [])
    go true e = let same : next ≡ state = cc in (same, cc)
    go false e = let bad : ⊥ = cc in absurd bad

-- and so does the input, over the tree to which its groups lead
pub record IsInputDone (input : Groups) (state next : State) (name : ℕ) (effects : List Effect) : Type 0 where
  pub tree : Tree
  pub course : Grows input state (length input.groups) tree
  pub next_is : next ≡ with_name (record state { tree = tree }) name (expression_of input)
  pub quiet : effects ≡ []

pub input_done : (input : Groups) (state next : State) (name : ℕ) (effects : List Effect)
    → BindsInput input state name (Done next effects) → IsInputDone input state next name effects
input_done input state next name effects (inl p) =
    let e = p.2 in
    let same : next ≡ with_name (record state { tree = p.0 }) name (expression_of input) = cc in
    record { tree = p.0; course = p.1; next_is = same; quiet = cc }
input_done input state next name effects (inr p) = let e = p.3 in let bad : ⊥ = cc in absurd bad

-- parts that are joined bind the name, without an effect
pub parts_done : (state next : State) (effects : List Effect) (name : ℕ) (f : Expression) (end : PartsOutcome)
    → Done next effects ≡ by_parts state name f end → (next ≡ with_name state name f) × (effects ≡ [])
parts_done state next effects name f Joined e =
    let same : next ≡ with_name state name f = cc in (same, cc)
parts_done state next effects name f (Passed group size) e = let bad : ⊥ = cc in absurd bad

-- a choice that is done leads to the tree of a start, which is printed
pub record IsStartDone (state next : State) (effects : List Effect) : Type 0 where
  pub start : Start
  pub next_is : next ≡ at_start state start
  pub told : effects ≡ Print (start_line start) ∷ []

pub choice_done : (state next : State) (effects : List Effect) (choice : Choice)
    → Done next effects ≡ by_choice state choice → IsStartDone state next effects
choice_done state next effects (Chosen start size) e =
    let same : next ≡ at_start state start = cc in
    record { start = start; next_is = same; told = cc }
choice_done state next effects (AllPassed group size) e = let bad : ⊥ = cc in absurd bad

-- what a state is after a name was bound, or after nothing
module _ (state next : State) (effects : List Effect) where
  bound_tree : (n : ℕ) (f : Expression) → Binds state n f (Done next effects) → next.tree ≡ state.tree
  bound_tree n f binds = ap (λ s. s.tree) (settled_done (with_name state n f) next effects binds).0

  kept_tree : (effect : Effect) → Done next effects ≡ Done state (effect ∷ []) → next.tree ≡ state.tree
  kept_tree effect e = ap (λ s. s.tree) (same_next _ _ _ _ e)

  bound_names : (n : ℕ) (f : Expression) → Binds state n f (Done next effects)
      → names_of next ≡ n ∷ filter (λ m. not (has [] m)) (names_of state)
  bound_names n f binds =
      ap names_of (settled_done (with_name state n f) next effects binds).0
      ∙ ap (λ l. n ∷ l) (sym (all_stay (names_of state)))

  kept_names : (effect : Effect) → Done next effects ≡ Done state (effect ∷ [])
      → names_of next ≡ filter (λ m. not (has [] m)) (names_of state)
  kept_names effect e = ap names_of (same_next _ _ _ _ e) ∙ sym (all_stay (names_of state))

-- a move that is done leads to the state with a tree of the same variables
moved_done : (kind : Move) (state next : State) (effects : List Effect) (position : ℕ) (o : Option Tree)
    → moved_at kind state.tree position ≡ o → Moves state o (Done next effects)
    → IsReordered state.tree next.tree × (names_of next ≡ names_of state)
moved_done kind state next effects position None at p = let bad : ⊥ = cc in absurd bad
moved_done kind state next effects position (Some tree) at p =
    let same = (settled_done (record state { tree = tree }) next effects p).0 in (
      subst (λ (s : State). IsReordered state.tree s.tree) (sym same) (move_reordered kind state.tree tree position at),
      ap names_of same,
    )

-- a command that neither moves the vtree nor searches, also behind groups
abbrev pub KeepsTree : RunCommand → Type 0
KeepsTree (commands.Input name) = ⊥
KeepsTree (commands.Turn kind position) = ⊥
KeepsTree (commands.Minimise rounds) = ⊥
KeepsTree (commands.Choose rounds) = ⊥
KeepsTree command = Unit {0}

-- leaves the tree
pub same_tree : (input : Groups) (state next : State) (command : RunCommand) (effects : List Effect) → KeepsTree command
    → Step input state command (Done next effects) → next.tree ≡ state.tree
same_tree input state next (commands.Generated v g) effects keeps p = kept_tree state next effects _ p
same_tree input state next (commands.Input n) effects keeps p = absurd keeps
same_tree input state next (commands.Load n file) effects keeps p = bound_tree state next effects n _ p
same_tree input state next (commands.Literal n literal) effects keeps p = bound_tree state next effects n _ p
same_tree input state next (commands.Constant n value) effects keeps p = bound_tree state next effects n _ p
same_tree input state next (commands.Combine operation n x y) effects keeps p = bound_tree state next effects n _ p
same_tree input state next (commands.Negate n x) effects keeps p = bound_tree state next effects n _ p
same_tree input state next (commands.Given n x literal) effects keeps p = bound_tree state next effects n _ p
same_tree input state next (commands.Forget n x variable) effects keeps p = bound_tree state next effects n _ p
same_tree input state next (commands.Drop x) effects keeps p = ap (λ s. s.tree) (same_next _ _ _ _ p)
same_tree input state next (commands.Limit limit) effects keeps p =
    ap (λ s. s.tree) (settled_done (record state { limit = limit }) next effects p).0
same_tree input state next (commands.Same x y) effects keeps p = kept_tree state next effects _ p.2
same_tree input state next (commands.Size x) effects keeps p = kept_tree state next effects _ p.2
same_tree input state next (commands.Value x bits) effects keeps p = kept_tree state next effects _ p
same_tree input state next (commands.Write names file) effects keeps p = kept_tree state next effects _ p.2
same_tree input state next (commands.WriteVtree file) effects keeps p = kept_tree state next effects _ p
same_tree input state next (commands.Turn kind position) effects keeps p = absurd keeps
same_tree input state next (commands.Minimise rounds) effects keeps p = absurd keeps
same_tree input state next (commands.InputByParts n parts) effects keeps p =
    ap (λ s. s.tree) (parts_done state next effects n (expression_of input) p.0 p.2).0
same_tree input state next (commands.Choose rounds) effects keeps p = absurd keeps
same_tree input state next (commands.Output n index) effects keeps p = bound_tree state next effects n _ p
same_tree input state next (commands.Check file ids) effects keeps p = kept_tree state next effects _ p.2

-- the same tree is a vtree
kept_vtree : (state next : State) → next.tree ≡ state.tree → IsVtree state.tree → IsVtree next.tree
kept_vtree state next same valid = subst IsVtree (sym same) valid

-- so each command leaves a vtree
pub valid_after : (input : Groups) (state next : State) (command : RunCommand) (effects : List Effect)
    → IsVtree state.tree → Step input state command (Done next effects) → IsVtree next.tree
valid_after input state next (commands.Turn kind position) effects valid p =
    vtree_reordered state.tree next.tree
    (moved_done kind state next effects position (moved_at kind state.tree position) refl p).0 valid
valid_after input state next (commands.Minimise rounds) effects valid p =
    subst (λ (s : State). IsVtree s.tree) (sym (same_next _ _ _ _ p.2)) (search_valid valid p.1)
valid_after input state next (commands.Generated v g) effects valid p =
    kept_vtree state next (same_tree input state next (commands.Generated v g) effects tt p) valid
valid_after input state next (commands.Input n) effects valid p =
    let done = input_done input state next n effects p in
    kept_vtree (record state { tree = done.tree }) next (ap (λ s. s.tree) done.next_is)
    (grows_valid input state (length input.groups) done.tree valid done.course)
valid_after input state next (commands.Load n file) effects valid p =
    kept_vtree state next (same_tree input state next (commands.Load n file) effects tt p) valid
valid_after input state next (commands.Literal n literal) effects valid p =
    kept_vtree state next (same_tree input state next (commands.Literal n literal) effects tt p) valid
valid_after input state next (commands.Constant n value) effects valid p =
    kept_vtree state next (same_tree input state next (commands.Constant n value) effects tt p) valid
valid_after input state next (commands.Combine operation n x y) effects valid p =
    kept_vtree state next (same_tree input state next (commands.Combine operation n x y) effects tt p) valid
valid_after input state next (commands.Negate n x) effects valid p =
    kept_vtree state next (same_tree input state next (commands.Negate n x) effects tt p) valid
valid_after input state next (commands.Given n x literal) effects valid p =
    kept_vtree state next (same_tree input state next (commands.Given n x literal) effects tt p) valid
valid_after input state next (commands.Forget n x variable) effects valid p =
    kept_vtree state next (same_tree input state next (commands.Forget n x variable) effects tt p) valid
valid_after input state next (commands.Drop x) effects valid p =
    kept_vtree state next (same_tree input state next (commands.Drop x) effects tt p) valid
valid_after input state next (commands.Limit limit) effects valid p =
    kept_vtree state next (same_tree input state next (commands.Limit limit) effects tt p) valid
valid_after input state next (commands.Same x y) effects valid p =
    kept_vtree state next (same_tree input state next (commands.Same x y) effects tt p) valid
valid_after input state next (commands.Size x) effects valid p =
    kept_vtree state next (same_tree input state next (commands.Size x) effects tt p) valid
valid_after input state next (commands.Value x bits) effects valid p =
    kept_vtree state next (same_tree input state next (commands.Value x bits) effects tt p) valid
valid_after input state next (commands.Write x file) effects valid p =
    kept_vtree state next (same_tree input state next (commands.Write x file) effects tt p) valid
valid_after input state next (commands.WriteVtree file) effects valid p =
    kept_vtree state next (same_tree input state next (commands.WriteVtree file) effects tt p) valid
valid_after input state next (commands.InputByParts n parts) effects valid p =
    kept_vtree state next (same_tree input state next (commands.InputByParts n parts) effects tt p) valid
valid_after input state next (commands.Choose rounds) effects valid p =
    let done = choice_done state next effects p.0 p.2 in
    subst (λ (s : State). IsVtree s.tree) (sym done.next_is) (start_vtree done.start (leaves state.tree))
valid_after input state next (commands.Output n index) effects valid p =
    kept_vtree state next (same_tree input state next (commands.Output n index) effects tt p) valid
valid_after input state next (commands.Check file ids) effects valid p =
    kept_vtree state next (same_tree input state next (commands.Check file ids) effects tt p) valid

pub names_after : (input : Groups) (state next : State) (command : RunCommand) (effects : List Effect)
    → Step input state command (Done next effects) → names_of next ≡ bound_after (names_of state) command
names_after input state next (commands.Generated v g) effects p = kept_names state next effects _ p
names_after input state next (commands.Input n) effects p =
    ap names_of (input_done input state next n effects p).next_is ∙ ap (λ l. n ∷ l) (sym (all_stay (names_of state)))
names_after input state next (commands.Load n file) effects p = bound_names state next effects n _ p
names_after input state next (commands.Literal n literal) effects p = bound_names state next effects n _ p
names_after input state next (commands.Constant n value) effects p = bound_names state next effects n _ p
names_after input state next (commands.Combine operation n x y) effects p = bound_names state next effects n _ p
names_after input state next (commands.Negate n x) effects p = bound_names state next effects n _ p
names_after input state next (commands.Given n x literal) effects p = bound_names state next effects n _ p
names_after input state next (commands.Forget n x variable) effects p = bound_names state next effects n _ p
names_after input state next (commands.Drop x) effects p =
    ap names_of (same_next _ _ _ _ p) ∙ names_left state.names x
names_after input state next (commands.Turn kind position) effects p =
    (moved_done kind state next effects position (moved_at kind state.tree position) refl p).1
    ∙ sym (all_stay (names_of state))
names_after input state next (commands.Minimise rounds) effects p =
    ap names_of (same_next _ _ _ _ p.2) ∙ sym (all_stay (names_of state))
names_after input state next (commands.Limit limit) effects p =
    ap names_of (settled_done (record state { limit = limit }) next effects p).0 ∙ sym (all_stay (names_of state))
names_after input state next (commands.Same x y) effects p = kept_names state next effects _ p.2
names_after input state next (commands.Size x) effects p = kept_names state next effects _ p.2
names_after input state next (commands.Value x bits) effects p = kept_names state next effects _ p
names_after input state next (commands.Write names file) effects p = kept_names state next effects _ p.2
names_after input state next (commands.WriteVtree file) effects p = kept_names state next effects _ p
names_after input state next (commands.InputByParts n parts) effects p =
    ap names_of (parts_done state next effects n (expression_of input) p.0 p.2).0
    ∙ ap (λ l. n ∷ l) (sym (all_stay (names_of state)))
names_after input state next (commands.Choose rounds) effects p =
    ap names_of (choice_done state next effects p.0 p.2).next_is ∙ sym (all_stay (names_of state))
names_after input state next (commands.Output n index) effects p = bound_names state next effects n _ p
names_after input state next (commands.Check file ids) effects p = kept_names state next effects _ p.2

-- ---- the circuit

-- a move that is done keeps it
moved_circuit : (state next : State) (effects : List Effect) (o : Option Tree) → Moves state o (Done next effects)
    → next.circuit ≡ state.circuit
moved_circuit state next effects None p = let bad : ⊥ = cc in absurd bad
moved_circuit state next effects (Some tree) p =
    ap (λ s. s.circuit) (settled_done (record state { tree = tree }) next effects p).0

module _ (state next : State) (effects : List Effect) where
  bound_circuit : (n : ℕ) (f : Expression) → Binds state n f (Done next effects) → next.circuit ≡ state.circuit
  bound_circuit n f binds = ap (λ s. s.circuit) (settled_done (with_name state n f) next effects binds).0

  kept_circuit : (effect : Effect) → Done next effects ≡ Done state (effect ∷ []) → next.circuit ≡ state.circuit
  kept_circuit effect e = ap (λ s. s.circuit) (same_next _ _ _ _ e)

-- so does each command
pub circuit_after : (input : Groups) (state next : State) (command : RunCommand) (effects : List Effect)
    → Step input state command (Done next effects) → next.circuit ≡ state.circuit
circuit_after input state next (commands.Generated v g) effects p = kept_circuit state next effects _ p
circuit_after input state next (commands.Input n) effects p =
    ap (λ s. s.circuit) (input_done input state next n effects p).next_is
circuit_after input state next (commands.Load n file) effects p = bound_circuit state next effects n _ p
circuit_after input state next (commands.Literal n literal) effects p = bound_circuit state next effects n _ p
circuit_after input state next (commands.Constant n value) effects p = bound_circuit state next effects n _ p
circuit_after input state next (commands.Combine operation n x y) effects p = bound_circuit state next effects n _ p
circuit_after input state next (commands.Negate n x) effects p = bound_circuit state next effects n _ p
circuit_after input state next (commands.Given n x literal) effects p = bound_circuit state next effects n _ p
circuit_after input state next (commands.Forget n x variable) effects p = bound_circuit state next effects n _ p
circuit_after input state next (commands.Drop x) effects p = ap (λ s. s.circuit) (same_next _ _ _ _ p)
circuit_after input state next (commands.Turn kind position) effects p =
    moved_circuit state next effects (moved_at kind state.tree position) p
circuit_after input state next (commands.Minimise rounds) effects p = ap (λ s. s.circuit) (same_next _ _ _ _ p.2)
circuit_after input state next (commands.Limit limit) effects p =
    ap (λ s. s.circuit) (settled_done (record state { limit = limit }) next effects p).0
circuit_after input state next (commands.Same x y) effects p = kept_circuit state next effects _ p.2
circuit_after input state next (commands.Size x) effects p = kept_circuit state next effects _ p.2
circuit_after input state next (commands.Value x bits) effects p = kept_circuit state next effects _ p
circuit_after input state next (commands.Write names file) effects p = kept_circuit state next effects _ p.2
circuit_after input state next (commands.WriteVtree file) effects p = kept_circuit state next effects _ p
circuit_after input state next (commands.InputByParts n parts) effects p =
    ap (λ s. s.circuit) (parts_done state next effects n (expression_of input) p.0 p.2).0
circuit_after input state next (commands.Choose rounds) effects p =
    ap (λ s. s.circuit) (choice_done state next effects p.0 p.2).next_is
circuit_after input state next (commands.Output n index) effects p = bound_circuit state next effects n _ p
circuit_after input state next (commands.Check file ids) effects p = kept_circuit state next effects _ p.2

-- ---- commands one after another

-- a command of a list that can be done, and so can those after it
pub fit_at : (v o : ℕ) (names : List ℕ) (commands : List NumberedCommand) (i : ℕ) (c : NumberedCommand)
    → i < length commands → c ≡ get_or commands i c → AllFit v o names (drop i commands)
    → Fits v o names c.command × AllFit v o (bound_after names c.command) (drop (i + 1) commands)
fit_at v o names commands i c below at fit = subst (AllFit v o names) here fit
  where
    here : drop i commands ≡ c ∷ drop (i + 1) commands
    here = drop-cons commands i c below ∙ ap (λ x. x ∷ drop (suc i) commands) (sym at)
        ∙ ap (λ n. c ∷ drop n commands) (sym (add-one i))
