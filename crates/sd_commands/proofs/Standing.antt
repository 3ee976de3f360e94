-- The state that the code represents at the start, and after each command.
use Rattle.std.proofs.Common.{◌≡◌, ℕ, ◌+◌, ◌-◌, ◌<◌, ◌≤◌, Bool, true, false, not, cond, eqb}
use Rattle.std.proofs.Common.{List, [], ◌∷◌, length, filter, Option, Some, None, Result, Ok, Err}
use Rattle.std.proofs.Common.{refl, sym, ap, subst, ◌∙◌, ◌⊎◌, inl, inr, IfSome, OnErr, arith}
use Rattle.std.proofs.lemmas.Bool.{cases_eq, eq-eqb, ne_eqb}
use Rattle.std.proofs.lemmas.Bool.Decides.{nat_tests}
use Rattle.std.proofs.lemmas.Cmp.{nat_cmp_total}
use Rattle.std.specs.BTreeMap as maps
use Rattle.std.specs.BTreeMap.{is_at}
use Rattle.std.specs.Map.{lookup}
use Rattle.std.specs.FinMap.{FinMap, get, get-empty, insert, remove, len, len-insert, len-remove}
use Rattle.std.specs.Option.{IsSome, unwrap_or}
use Rattle.std.specs.Ordering.{nat_cmp}
use Rattle.sd_runs.proofs.Maps.{get_insert_same, get_insert_other, get_remove_same, get_remove_other, same_at_each}
use Rattle.sd_model.specs.Expression.{Expression, Constant}
use Rattle.sd_model.specs.Size.{IsDiagramOf}
use Rattle.sd_model.specs.Tree.{Tree, AreDistinct, leaves}
use Rattle.sd_model.specs.Circuit.{Circuit}
use Rattle.sd_vtree.specs.Numbered.{Numbered, plain_tree}
use Rattle.sd_cache.specs.Entries.{Answers, no_answers}
use Rattle.sd_circuit.specs.Circuits.{OrderedCircuit}
use Rattle.sd_manager.specs.Table.{Table, no_table}
use Rattle.sd_manager.specs.Shown.{ShowsCanonical, HoldsDiagram}
use Rattle.sd_manager.specs.Making.{Extends, with_root, without_root}
use Rattle.sd_apply.specs.Serving.{Serves}
use Rattle.sd_apply.proofs.Tried.{empty_serves}
use Rattle.sd_formula.specs.Formulas.{expression_of}
use Rattle.sd_commands.specs.Commands.{State, named, with_name, dropped, formula_named, no_circuit}
use Rattle.sd_commands.specs.Standing.{Represents, IsOfName, HoldsName, HoldsValue, ShowsFormula, start, names_of}
use Rattle.sd_formula.specs.Dimacs.{Groups}
use Rattle.sd_commands.specs.Standing.{IsAsBefore, HoldsNames, IsFree, IsLeft, IsTreeLeft, without, removed}
use Rattle.sd_commands.specs.Standing.{IsLeftByInput, IsLeftBySearch, IsGrown, AreForgotten, AreInputs}
use Rattle.sd_commands.specs.declared.gates.SharedCircuit.{SharedCircuit}
use Rattle.sd_commands.specs.declared.command.RunCommand.{RunCommand}
use Rattle.sd_commands.specs.declared.command.RunCommand.TheVariants as commands
use Rattle.sd_commands.proofs.Names.{distinct_bound, distinct_dropped}
use Rattle.sd_commands.specs.declared.state.RunState.{RunState}
use Rattle.sd_manager.specs.Marking.{AreUnmarked}
use Rattle.sd_manager.proofs.Marking.{unmarked_new, unmarked_extended}
use Rattle.sd_compile.specs.declared.pace.Pace.{Pace}
use Rattle.sd_compile.specs.Compiling.{KeepsAll, KeepsOtherRoots, HoldsFormula}
use Rattle.sd_compile.proofs.Kept.{all_extended, released_all, serves_roots, without_new}
use Rattle.sd_gates.specs.Sharing.{Shares}
use Rattle.sd_gates.proofs.Shared.{shares_on, shares_beside}
use Rattle.sd_starts.specs.Starts.{IsAtRest, HoldsAlone}

-- ---- the start

-- the state at the start, with this circuit
abbrev pub start_with : Numbered → ℕ → ℕ → Option ℕ → Circuit → State
start_with vtree limit slack every circuit =
    record (start (plain_tree vtree) limit slack every) { circuit = circuit }

-- a manager that holds no root, and no names, hold the start
pub stands_empty : (code : RunState) (circuit : Circuit) → ((root : ℕ) → get code.manager.roots root ≡ None)
    → Serves code.cache code.manager → code.manager.bound ≡ 2147483647 → code.manager.moving ≡ None
    → AreUnmarked code.manager → code.names.entries ≡ [] → code.shared.circuit.text ≡ circuit
    → AreForgotten code.shared → AreInputs circuit (plain_tree code.manager.vtree)
    → Represents code (start_with code.manager.vtree code.limit code.slack code.every circuit)
stands_empty code circuit nothing serves bound no_move unmarked no_names same_circuit forgotten inputs = record {
  tree = refl;
  limit = refl;
  slack = refl;
  every = refl;
  once = tt;
  holds = λ name. subst (λ r. HoldsName code.manager r None) (sym (no_root name)) tt;
  apart = λ a b root first second. let bad : ◌≡◌ {A = Option ℕ} None (Some root) = sym (no_root a) ∙ first in absurd cc;
  only = λ root held. absurd (none_held root held);
  serves = serves;
  bound = bound;
  no_move = no_move;
  unmarked = unmarked;
  circuit = sym same_circuit;
  inputs = inputs;
  shares = forgotten code.manager;
}
  where
    no_root : (name : ℕ) → maps.get nat_cmp code.names name ≡ None
    no_root name = ap (lookup (is_at (nat_cmp name))) no_names

    none_held : (root : ℕ) → IsSome (get code.manager.roots root) → ⊥
    none_held root held =
        let bad : IsSome {T = ℕ} None = subst (λ o. IsSome o) (nothing root) held in absurd cc

-- a new manager holds no root
pub stands_first : (code : RunState) (vtree : Numbered) (circuit : Circuit) → code.manager ≡ no_table vtree 2147483647
    → code.cache ≡ no_answers → code.names.entries ≡ [] → code.shared.circuit.text ≡ circuit
    → AreForgotten code.shared → AreInputs circuit (plain_tree vtree)
    → Represents code (start_with vtree code.limit code.slack code.every circuit)
stands_first code vtree circuit is empty_ no_names same_circuit forgotten inputs =
    subst (λ v. Represents code (start_with v code.limit code.slack code.every circuit)) (ap (λ t. t.vtree) is)
    (stands_empty code circuit (λ root. ap (λ t. get t.roots root) is ∙ get-empty nat_cmp root)
    (empty_serves code.cache code.manager empty_) (ap (λ t. t.bound) is) (ap (λ t. t.moving) is)
    (subst AreUnmarked (sym is) (unmarked_new vtree 2147483647)) no_names same_circuit forgotten
    (subst (λ v. AreInputs circuit (plain_tree v)) (sym (ap (λ t. t.vtree) is)) inputs))

-- the inputs are the variables of each tree with as many leaves
pub inputs_still : (circuit : Circuit) (old new : Tree) → leaves new ≡ leaves old → AreInputs circuit old
    → AreInputs circuit new
inputs_still circuit old new count inputs = λ some. count ∙ inputs some

-- where a circuit has an output, its inputs are the variables of the manager's tree
pub inputs_here : (code : RunState) (seen : State) (index : ℕ) → Represents code seen
    → index < length code.shared.circuit.text.outputs
    → leaves (plain_tree code.manager.vtree) ≡ length code.shared.circuit.text.inputs
inputs_here code seen index was below =
    ap leaves (sym was.tree)
    ∙ was.inputs (subst (λ (c : Circuit). 1 ≤ length c.outputs) (sym was.circuit) (omega (arith, below)))
    ∙ ap (λ (c : Circuit). length c.inputs) was.circuit

-- ---- what the names have

-- a root that has a name holds a node
pub held_node : (t : Table) (r : Option ℕ) (v : Option Expression) (root : ℕ) → HoldsName t r v → r ≡ Some root
    → IsSome (get t.roots root)
held_node t None v root holds is = absurd cc
held_node t (Some r) None root holds is = absurd holds
held_node t (Some r) (Some value) root holds is =
    let same : r ≡ root = cc in
    subst (λ n. IsSome (get t.roots n)) same (subst (λ o. IsSome o) (sym holds.held) refl)

-- the root of a name holds its formula
held_value : (t : Table) (r : Option ℕ) (v : Option Expression) (root : ℕ) → HoldsName t r v → r ≡ Some root
    → HoldsValue t root (unwrap_or v (Constant false))
held_value t None v root holds is = absurd cc
held_value t (Some r) None root holds is = absurd holds
held_value t (Some r) (Some value) root holds is =
    let same : r ≡ root = cc in subst (λ n. HoldsValue t n value) same holds

pub name_held : (code : RunState) (seen : State) (name root : ℕ) → Represents code seen
    → maps.get nat_cmp code.names name ≡ Some root → HoldsValue code.manager root (formula_named seen name)
name_held code seen name root was is = held_value code.manager _ _ root (was.holds name) is

pub name_in : (code : RunState) (seen : State) (name root : ℕ) → Represents code seen
    → maps.get nat_cmp code.names name ≡ Some root → IsSome (get code.manager.roots root)
name_in code seen name root was is = held_node code.manager _ _ root (was.holds name) is

-- a name with no root stands for nothing
not_named : (code : RunState) (seen : State) (name : ℕ) → Represents code seen → IsFree code name
    → named seen.names name ≡ None
not_named code seen name was free = neither _ _ (was.holds name) free
  where
    neither : (r : Option ℕ) (v : Option Expression) → HoldsName code.manager r v → r ≡ None → v ≡ None
    neither None None holds is = refl
    neither None (Some value) holds is = absurd holds
    neither (Some r) v holds is = absurd cc

-- the code of a root shows a canonical diagram
pub shown_canonical : (t : Table) (root : ℕ) (f : Expression) (holds : HoldsValue t root f)
    → ShowsCanonical t holds.code holds.diagram
shown_canonical t root f holds = record { shows = holds.shows; canonical = holds.of_value.canonical }

-- and the root holds it
pub diagram_held : (t : Table) (root : ℕ) (f : Expression) (holds : HoldsValue t root f)
    → HoldsDiagram t root holds.diagram
diagram_held t root f holds =
    record { code = holds.code; held = holds.held; is = shown_canonical t root f holds }

-- the node of a root shows the formula that is held
pub shows_held : (t : Table) (root node : ℕ) (f : Expression) → HoldsValue t root f → get t.roots root ≡ Some node
    → ShowsFormula t node f
shows_held t root node f holds is =
    let same : holds.code ≡ node = let e = holds.held in cc in
    record {
      diagram = holds.diagram;
      is = subst (λ n. ShowsCanonical t n holds.diagram) same (shown_canonical t root f holds);
      of_value = holds.of_value;
    }

-- ---- other roots

-- a name's root holds what it held, where it has the node that it had
holds_with_roots : (t : Table) (roots : FinMap nat_cmp ℕ) (r : Option ℕ) (v : Option Expression)
    → ((n : ℕ) → r ≡ Some n → get roots n ≡ get t.roots n) → HoldsName t r v
    → HoldsName (record t { roots = roots }) r v
holds_with_roots t roots None None same holds = tt
holds_with_roots t roots None (Some value) same holds = absurd holds
holds_with_roots t roots (Some r) None same holds = absurd holds
holds_with_roots t roots (Some r) (Some value) same holds = record {
  code = holds.code;
  held = same r refl ∙ holds.held;
  diagram = holds.diagram;
  shows = holds.shows;
  of_value = holds.of_value;
}

-- a root that is taken away is no longer held
removed_at : (roots : FinMap nat_cmp ℕ) (o : Option ℕ) (r : ℕ) → o ≡ Some r → get (removed roots o) r ≡ None
removed_at roots None r is = absurd cc
removed_at roots (Some n) r is =
    let same : n ≡ r = cc in subst (λ k. get (remove roots n) k ≡ None) same (get_remove_same roots n)

-- each other one holds what it held
removed_else : (roots : FinMap nat_cmp ℕ) (o : Option ℕ) (r : ℕ) → ¬ (o ≡ Some r)
    → get (removed roots o) r ≡ get roots r
removed_else roots None r differ = refl
removed_else roots (Some n) r differ = get_remove_other roots n r (λ same. differ (ap Some (sym same)))

-- there are not more roots without one
fewer_removed : (roots : FinMap nat_cmp ℕ) (o : Option ℕ) → len (removed roots o) ≤ len roots
fewer_removed roots None = omega arith
fewer_removed roots (Some root) = at _ (len-remove nat_cmp_total roots root)
  where
    at : (b : Bool) → len (remove roots root) ≡ cond b (len roots - 1) (len roots) → len (remove roots root) ≤ len roots
    at true e = omega (arith, e)
    at false e = omega (arith, e)

-- the nodes of the gates are shared, whatever the roots hold
pub shares_roots : (shared : SharedCircuit) (t : Table) (roots : FinMap nat_cmp ℕ)
    → Shares shared.circuit shared.gates t → Shares shared.circuit shared.gates (record t { roots = roots })
shares_roots shared t roots shares =
    shares_beside shared.circuit shared.gates t (record t { roots = roots }) refl refl refl shares

-- two tests of one number
is_at_eqb : (k q : ℕ) → is_at (nat_cmp k) q ≡ eqb k q
is_at_eqb k q = grind (arith, nat_tests)

-- an absent root has no name
not_absent : (t : Table) (r : Option ℕ) (v : Option Expression) (n root : ℕ) → HoldsName t r v → r ≡ Some n
    → get t.roots root ≡ None → ¬ (n ≡ root)
not_absent t r v n root holds is absent = λ same.
    let some : IsSome (get t.roots n) = held_node t r v n holds is in
    let bad : IsSome {T = ℕ} None = subst (λ o. IsSome o) (ap (get t.roots) same ∙ absent) some in
    absurd cc

-- ---- a name changed

-- The names were changed at one name: its former root is taken away, and it has this root now, if any, which was not
-- held. Each other root stays.
pub record ChangesName (code new : RunState) (name : ℕ) (root : Option ℕ) (roots : FinMap nat_cmp ℕ) : Type 0 where
  pub names : (q : ℕ) → maps.get nat_cmp new.names q
      ≡ cond (is_at (nat_cmp name) q) root (maps.get nat_cmp code.names q)
  pub manager : new.manager ≡ record code.manager { roots = roots }
  pub cache : new.cache ≡ code.cache
  pub limit : new.limit ≡ code.limit
  pub slack : new.slack ≡ code.slack
  pub every : new.every ≡ code.every
  pub shared : new.shared ≡ code.shared
  pub fresh : (r : ℕ) → root ≡ Some r → get code.manager.roots r ≡ None
  pub released : (r : ℕ) → maps.get nat_cmp code.names name ≡ Some r → get roots r ≡ None
  pub others : (r : ℕ) → ¬ (root ≡ Some r) → ¬ (maps.get nat_cmp code.names name ≡ Some r)
      → get roots r ≡ get code.manager.roots r

-- an optional number is this one, or it is not
some_or_not : (o : Option ℕ) (r : ℕ) → (o ≡ Some r) ⊎ (¬ (o ≡ Some r))
some_or_not None r = inr (λ e. cc)
some_or_not (Some n) r = elim (cases_eq n r) [
  | inl same ↦ inl (ap Some same)
  | inr differ ↦ inr (λ e. differ (cc))
]

-- what a name has and what it stands for, or what was there
held_by : (b : Bool) (t : Table) (root : Option ℕ) (value : Option Expression) (r : Option ℕ) (v : Option Expression)
    → HoldsName t root value → (b ≡ false → HoldsName t r v) → HoldsName t (cond b root r) (cond b value v)
held_by true t root value r v here else_ = here
held_by false t root value r v here else_ = else_ refl

module _ (code new : RunState) (seen : State) (name : ℕ) (root : Option ℕ) (roots : FinMap nat_cmp ℕ)
    (was : Represents code seen) (changes : ChangesName code new name root roots) where
  -- the name has its root now
  root_here : (q : ℕ) → name ≡ q → maps.get nat_cmp new.names q ≡ root
  root_here q same = changes.names q ∙ ap (λ b. cond b root (maps.get nat_cmp code.names q))
      (is_at_eqb name q ∙ eq-eqb name q same)

  -- each other name has the root that it had
  root_else : (q : ℕ) → ¬ (name ≡ q) → maps.get nat_cmp new.names q ≡ maps.get nat_cmp code.names q
  root_else q differ = changes.names q ∙ ap (λ b. cond b root (maps.get nat_cmp code.names q))
      (is_at_eqb name q ∙ ne_eqb name q differ)

  -- no name had the root that the name has now
  not_fresh : (q r : ℕ) → maps.get nat_cmp code.names q ≡ Some r → ¬ (root ≡ Some r)
  not_fresh q r at = λ is. not_absent code.manager _ _ r r (was.holds q) at (changes.fresh r is) refl

  -- the root of another name holds what it held
  stays_held : (q r : ℕ) → ¬ (name ≡ q) → maps.get nat_cmp code.names q ≡ Some r
      → get roots r ≡ get code.manager.roots r
  stays_held q r differ at = changes.others r (not_fresh q r at) (λ former. differ (was.apart name q r former at))

  -- two names with one root are one name
  names_apart : (a b r : ℕ) → maps.get nat_cmp new.names a ≡ Some r → maps.get nat_cmp new.names b ≡ Some r → a ≡ b
  names_apart a b r first second = elim (cases_eq name a) [
    | inl here ↦ elim (cases_eq name b) [
      | inl there ↦ sym here ∙ there
      | inr differ ↦
          absurd (not_fresh b r (sym (root_else b differ) ∙ second) (sym (root_here a here) ∙ first))
    ]
    | inr differ ↦ elim (cases_eq name b) [
      | inl there ↦
          absurd (not_fresh a r (sym (root_else a differ) ∙ first) (sym (root_here b there) ∙ second))
      | inr other ↦ was.apart a b r (sym (root_else a differ) ∙ first) (sym (root_else b other) ∙ second)
    ]
  ]

  -- a root that is held is that of a name
  root_of_name : (r : ℕ) → IsSome (get roots r) → IsOfName new r
  root_of_name r held = elim (some_or_not root r) [
    | inl is ↦ record { name = name; is = root_here name refl ∙ is }
    | inr other ↦ elim (some_or_not (maps.get nat_cmp code.names name) r) [
      | inl former ↦
          let bad : IsSome {T = ℕ} None = subst (λ o. IsSome o) (changes.released r former) held in
          absurd cc
      | inr differ ↦
          let had = was.only r (subst (λ o. IsSome o) (changes.others r other differ) held) in
          let apart : ¬ (name ≡ had.name) = λ same. differ (ap (maps.get nat_cmp code.names) same ∙ had.is) in
          record { name = had.name; is = root_else had.name apart ∙ had.is }
    ]
  ]

  -- what each name has holds what it stands for
  holds_changed : (value : Option Expression) (q : ℕ) → HoldsName (record code.manager { roots = roots }) root value
      → HoldsName (record code.manager { roots = roots }) (maps.get nat_cmp new.names q)
      (cond (eqb name q) value (named seen.names q))
  holds_changed value q here =
      subst (λ r. HoldsName (record code.manager { roots = roots }) r (cond (eqb name q) value (named seen.names q)))
      (sym (changes.names q ∙ ap (λ b. cond b root (maps.get nat_cmp code.names q)) (is_at_eqb name q)))
      (held_by (eqb name q) (record code.manager { roots = roots }) root value (maps.get nat_cmp code.names q)
      (named seen.names q) here
      (λ differ. holds_with_roots code.manager roots _ _ (λ n at. stays_held q n (not_same q differ) at) (was.holds q)))
    where
      not_same : (q : ℕ) → eqb name q ≡ false → ¬ (name ≡ q)
      not_same q differ = λ same. let yes = eq-eqb name q same in absurd cc

  -- the code represents the state that is the same at each other name
  stands_changed : (next : State) (value : Option Expression) → next.tree ≡ seen.tree → next.limit ≡ seen.limit
      → next.slack ≡ seen.slack → next.every ≡ seen.every → next.circuit ≡ seen.circuit → AreDistinct (names_of next)
      → ((q : ℕ) → named next.names q ≡ cond (eqb name q) value (named seen.names q))
      → HoldsName (record code.manager { roots = roots }) root value → Represents new next
  stands_changed next value same_tree same_limit same_slack same_every same_circuit distinct names here = record {
    tree = same_tree ∙ was.tree ∙ ap (λ t. plain_tree t.vtree) (sym changes.manager);
    limit = same_limit ∙ was.limit ∙ sym changes.limit;
    slack = same_slack ∙ was.slack ∙ sym changes.slack;
    every = same_every ∙ was.every ∙ sym changes.every;
    once = distinct;
    holds = λ q.
        subst (λ t. HoldsName t (maps.get nat_cmp new.names q) (named next.names q)) (sym changes.manager)
        (subst (λ v. HoldsName (record code.manager { roots = roots }) (maps.get nat_cmp new.names q) v)
        (sym (names q)) (holds_changed value q here));
    apart = names_apart;
    only = λ r held. root_of_name r (subst (λ o. IsSome o) (ap (λ t. get t.roots r) changes.manager) held);
    serves = subst (λ t. Serves new.cache t) (sym changes.manager)
        (subst (λ c. Serves c (record code.manager { roots = roots })) (sym changes.cache)
        (serves_roots code.cache code.manager roots was.serves));
    bound = ap (λ t. t.bound) changes.manager ∙ was.bound;
    no_move = ap (λ t. t.moving) changes.manager ∙ was.no_move;
    unmarked = subst AreUnmarked (sym changes.manager) was.unmarked;
    circuit = same_circuit ∙ was.circuit ∙ ap (λ (s : SharedCircuit). s.circuit.text) (sym changes.shared);
    inputs = subst (λ c. AreInputs c next.tree) (sym same_circuit)
        (subst (AreInputs seen.circuit) (sym same_tree) was.inputs);
    shares = subst (λ t. Shares new.shared.circuit new.shared.gates t) (sym changes.manager)
        (subst (λ (s : SharedCircuit). Shares s.circuit s.gates (record code.manager { roots = roots }))
        (sym changes.shared)
        (shares_roots code.shared code.manager roots was.shares));
  }

-- ---- one name more

-- the code represents the state with one more name, which was free
pub stands_bound : (code new : RunState) (seen : State) (name node root : ℕ) (f : Expression)
    → Represents code seen → ShowsFormula code.manager node f → get code.manager.roots root ≡ None → IsFree code name
    → new.manager ≡ with_root code.manager root node → new.cache ≡ code.cache → new.limit ≡ code.limit
    → new.slack ≡ code.slack → new.every ≡ code.every → new.shared ≡ code.shared
    → ((q : ℕ) → maps.get nat_cmp new.names q
    ≡ cond (is_at (nat_cmp name) q) (Some root) (maps.get nat_cmp code.names q))
    → Represents new (with_name seen name f)
stands_bound code new seen name node root f was shows absent free is same_cache same_limit same_slack same_every
    same_shared names =
    stands_changed code new seen name (Some root) (insert code.manager.roots root node) was changes
    (with_name seen name f) (Some f) refl refl refl refl refl
    (distinct_bound seen.names name (not_named code seen name was free) was.once)
    (λ q. refl) held
  where
    changes : ChangesName code new name (Some root) (insert code.manager.roots root node)
    changes = record {
      names = names;
      manager = is;
      cache = same_cache;
      limit = same_limit;
      slack = same_slack;
      every = same_every;
      shared = same_shared;
      fresh = λ r e. let same : root ≡ r = cc in subst (λ k. get code.manager.roots k ≡ None) same absent;
      released = λ r at. let bad : ◌≡◌ {A = Option ℕ} None (Some r) = sym free ∙ at in absurd cc;
      others = λ r other differ.
          get_insert_other code.manager.roots root node r (λ same. other (ap Some (sym same)));
    }

    held : HoldsValue (with_root code.manager root node) root f
    held = record {
      code = node;
      held = get_insert_same code.manager.roots root node;
      diagram = shows.diagram;
      shows = shows.is.shows;
      of_value = shows.of_value;
    }

-- a code whose new root is released again is the one before
pub code_regained : (code : RunState) (t : Table) (root node : ℕ) → get code.manager.roots root ≡ None
    → t ≡ with_root code.manager root node → record code { manager = without_root t root } ≡ code
code_regained code t root node absent is =
    ap (λ m. record code { manager = m })
    (ap (λ x. without_root x root) is ∙ without_new code.manager root node absent)

-- a root that is released and held again leaves the manager as it was
restored : (t : Table) (root node : ℕ) → get t.roots root ≡ Some node → t ≡ with_root (without_root t root) root node
restored t root node held = ap (λ roots. record t { roots = roots }) (same_at_each _ _ at)
  where
    at : (q : ℕ) → get t.roots q ≡ get (insert (remove t.roots root) root node) q
    at q = elim (cases_eq q root) [
      | inl same ↦
          subst (λ k. get t.roots k ≡ get (insert (remove t.roots root) root node) k) (sym same)
          (held ∙ sym (get_insert_same (remove t.roots root) root node))
      | inr differ ↦
          sym (get_insert_other (remove t.roots root) root node q differ ∙ get_remove_other t.roots root q differ)
    ]

-- a root that was just made holds the formula of its node
pub newly_holds : (old new : Table) (root node : ℕ) (f : Expression) → new ≡ with_root old root node
    → ShowsFormula old node f → HoldsValue new root f
newly_holds old new root node f is shows =
    subst (λ t. HoldsValue t root f) (sym is)
    (record {
      code = node;
      held = get_insert_same old.roots root node;
      diagram = shows.diagram;
      shows = shows.is.shows;
      of_value = shows.of_value;
    })

-- at most one root more
pub one_root_more : (old new : Table) (root node : ℕ) → new ≡ with_root old root node
    → len new.roots ≤ len old.roots + 1
one_root_more old new root node is =
    subst (λ t. len t.roots ≤ len old.roots + 1) (sym is) (at _ (len-insert nat_cmp_total old.roots root node))
  where
    at : (b : Bool) → len (insert old.roots root node) ≡ cond b (len old.roots) (len old.roots + 1)
        → len (insert old.roots root node) ≤ len old.roots + 1
    at true e = omega (arith, e)
    at false e = omega (arith, e)

-- ---- a root gets a name

-- the code represents the state with one more name, whose root was there without a name
pub stands_named : (code new : RunState) (seen : State) (name root : ℕ) (f : Expression)
    → Represents (without code root) seen → HoldsValue code.manager root f → IsFree code name
    → new.manager ≡ code.manager → new.cache ≡ code.cache → new.limit ≡ code.limit → new.slack ≡ code.slack
    → new.every ≡ code.every → new.shared ≡ code.shared → ((q : ℕ) → maps.get nat_cmp new.names q
    ≡ cond (is_at (nat_cmp name) q) (Some root) (maps.get nat_cmp code.names q))
    → Represents new (with_name seen name f)
stands_named code new seen name root f was holds free is same_cache same_limit same_slack same_every same_shared names =
    stands_bound (without code root) new seen name holds.code root f was
    (record {
      diagram = holds.diagram;
      is = record { shows = holds.shows; canonical = holds.of_value.canonical };
      of_value = holds.of_value;
    })
    (get_remove_same code.manager.roots root) free (is ∙ restored code.manager root holds.code holds.held)
    same_cache same_limit same_slack same_every same_shared names

-- no root more
pub no_root_more : (old new : Table) (root : Option ℕ) → new ≡ record old { roots = removed old.roots root }
    → len new.roots ≤ len old.roots
no_root_more old new root is =
    subst (λ t. len t.roots ≤ len old.roots) (sym is) (fewer_removed old.roots root)

-- a root that holds a formula is there
pub value_held : (t : Table) (root : ℕ) (f : Expression) → HoldsValue t root f → IsSome (get t.roots root)
value_held t root f holds = subst (λ o. IsSome o) (sym holds.held) refl

-- ---- one name less

-- the formulas of the names that are left
named_dropped : (es : List (ℕ × Expression)) (name q : ℕ)
    → named (filter (λ entry. not (eqb entry.0 name)) es) q ≡ cond (eqb name q) None (named es q)
named_dropped [] name q = none_left (eqb name q)
  where
    none_left : (b : Bool) → ◌≡◌ {A = Option Expression} None (cond b None None)
    none_left true = refl
    none_left false = refl
named_dropped (e ∷ es) name q = elim (cases_eq e.0 name) [
  | inl here ↦
      rw (eq-eqb e.0 name here)
      (named_dropped es name q ∙ elim (cases_eq name q) [
        | inl same ↦ rw (eq-eqb name q same) refl
        | inr differ ↦
            rw (ne_eqb name q differ, ne_eqb e.0 q (λ at. differ (sym here ∙ at))) refl
      ])
  | inr apart ↦
      rw (ne_eqb e.0 name apart) (elim (cases_eq e.0 q) [
        | inl at ↦ rw (eq-eqb e.0 q at, ne_eqb name q (λ same. apart (at ∙ sym same))) refl
        | inr other ↦ rw (ne_eqb e.0 q other) (named_dropped es name q)
      ])
]

-- the code represents the state without a name, whose root is released
pub stands_released : (code new : RunState) (seen : State) (name : ℕ) (former : Option ℕ) → Represents code seen
    → former ≡ maps.get nat_cmp code.names name
    → new.manager ≡ record code.manager { roots = removed code.manager.roots former } → new.cache ≡ code.cache
    → new.limit ≡ code.limit → new.slack ≡ code.slack
    → new.every ≡ code.every → new.shared ≡ code.shared
    → ((q : ℕ) → maps.get nat_cmp new.names q ≡ cond (is_at (nat_cmp name) q) None (maps.get nat_cmp code.names q))
    → Represents new (dropped seen name)
stands_released code new seen name former was had is same_cache same_limit same_slack same_every same_shared names =
    stands_changed code new seen name None (removed code.manager.roots former) was changes (dropped seen name) None refl
    refl refl refl refl (distinct_dropped seen.names name was.once) (named_dropped seen.names name) tt
  where
    changes : ChangesName code new name None (removed code.manager.roots former)
    changes = record {
      names = names;
      manager = is;
      cache = same_cache;
      limit = same_limit;
      slack = same_slack;
      every = same_every;
      shared = same_shared;
      fresh = λ r e. absurd cc;
      released = λ r at. removed_at code.manager.roots former r (had ∙ at);
      others = λ r other differ. removed_else code.manager.roots former r (λ e. differ (sym had ∙ e));
    }

-- the former root of a name is held
pub former_held : (code : RunState) (seen : State) (name : ℕ) (former : Option ℕ) → Represents code seen
    → former ≡ maps.get nat_cmp code.names name → IfSome former (λ r. IsSome (get code.manager.roots r))
former_held code seen name None was had = tt
former_held code seen name (Some root) was had = name_in code seen name root was (sym had)

-- ---- a later table

-- a root holds the same in a later table
holds_kept : (old new : Table) (r : Option ℕ) (v : Option Expression) → KeepsAll old new → HoldsName old r v
    → HoldsName new r v
holds_kept old new None None kept holds = tt
holds_kept old new None (Some value) kept holds = absurd holds
holds_kept old new (Some r) None kept holds = absurd holds
holds_kept old new (Some r) (Some value) kept holds =
    let now = kept.holds r holds.diagram (diagram_held old r value holds) in
    record {
      code = now.code;
      held = now.held;
      diagram = holds.diagram;
      shows = now.is.shows;
      of_value = subst (λ v. IsDiagramOf (plain_tree v) value holds.diagram) (sym kept.reached.vtree) holds.of_value;
    }

-- the code represents the state in a later table, whatever the next sweep waits for, and with other nodes of the gates
pub stands_swept : (code : RunState) (t : Table) (cache : Answers) (pace : Pace) (shared : SharedCircuit) (seen : State)
    → Represents code seen → KeepsAll code.manager t → Serves cache t → AreUnmarked t
    → shared.circuit ≡ code.shared.circuit → Shares shared.circuit shared.gates t
    → Represents (record code { manager = t; cache = cache; pace = pace; shared = shared }) seen
stands_swept code t cache pace shared seen was kept serves unmarked same_circuit shares = record {
  tree = was.tree ∙ ap plain_tree (sym kept.reached.vtree);
  limit = was.limit;
  slack = was.slack;
  every = was.every;
  once = was.once;
  holds = λ q. holds_kept code.manager t _ _ kept (was.holds q);
  apart = was.apart;
  only = λ root held. of_name root
      (was.only root (subst (λ o. IsSome o) (ap (λ roots. get roots root) kept.reached.roots) held));
  serves = serves;
  bound = kept.bound ∙ was.bound;
  no_move = kept.moving ∙ was.no_move;
  unmarked = unmarked;
  circuit = was.circuit ∙ ap (λ (c : OrderedCircuit). c.text) (sym same_circuit);
  inputs = was.inputs;
  shares = shares;
}
  where
    of_name : (root : ℕ) → IsOfName code root
        → IsOfName (record code { manager = t; cache = cache; pace = pace; shared = shared }) root
    of_name root had = record { name = had.name; is = had.is }

pub stands_kept : (code : RunState) (t : Table) (cache : Answers) (seen : State) → Represents code seen
    → KeepsAll code.manager t → Serves cache t → AreUnmarked t → Shares code.shared.circuit code.shared.gates t
    → Represents (record code { manager = t; cache = cache }) seen
stands_kept code t cache seen was kept serves unmarked shares =
    stands_swept code t cache code.pace code.shared seen was kept serves unmarked refl shares

-- and after more nodes were made
pub stands_on : (code : RunState) (t : Table) (cache : Answers) (seen : State) → Represents code seen
    → Extends code.manager t → Serves cache t → Represents (record code { manager = t; cache = cache }) seen
stands_on code t cache seen was kept serves =
    stands_kept code t cache seen was (all_extended code.manager t kept) serves
    (unmarked_extended code.manager t kept was.unmarked)
    (shares_on code.shared.circuit code.shared.gates code.manager t kept was.shares)

-- and with other nodes of the gates, or none
pub stands_shared : (code : RunState) (shared : SharedCircuit) (seen : State) → Represents code seen
    → shared.circuit ≡ code.shared.circuit → Shares shared.circuit shared.gates code.manager
    → Represents (record code { shared = shared }) seen
stands_shared code shared seen was same_circuit shares = record {
  tree = was.tree;
  limit = was.limit;
  slack = was.slack;
  every = was.every;
  once = was.once;
  holds = was.holds;
  apart = was.apart;
  only = λ root held. let had = was.only root held in record { name = had.name; is = had.is };
  serves = was.serves;
  bound = was.bound;
  no_move = was.no_move;
  unmarked = was.unmarked;
  circuit = was.circuit ∙ ap (λ (c : OrderedCircuit). c.text) (sym same_circuit);
  inputs = was.inputs;
  shares = shares;
}

-- and under another limit
pub stands_limited : (code : RunState) (limit : ℕ) (seen : State) → Represents code seen
    → Represents (record code { limit = limit }) (record seen { limit = limit })
stands_limited code limit seen was = record {
  tree = was.tree;
  limit = refl;
  slack = was.slack;
  every = was.every;
  once = was.once;
  holds = was.holds;
  apart = was.apart;
  only = λ root held. let had = was.only root held in record { name = had.name; is = had.is };
  serves = was.serves;
  bound = was.bound;
  no_move = was.no_move;
  unmarked = was.unmarked;
  circuit = was.circuit;
  inputs = was.inputs;
  shares = was.shares;
}

-- ---- what stays after an error

-- where nothing changed, all is as before
pub as_before : (code new : RunState) → new.manager ≡ code.manager → new.cache ≡ code.cache → new.limit ≡ code.limit
    → new.slack ≡ code.slack → new.every ≡ code.every → new.shared ≡ code.shared
    → ((q : ℕ) → maps.get nat_cmp new.names q ≡ maps.get nat_cmp code.names q)
    → IsAsBefore code new
as_before code new is same_cache same_limit same_slack same_every same_shared names = record {
  represents = λ seen was. record {
    tree = was.tree ∙ ap (λ t. plain_tree t.vtree) (sym is);
    limit = was.limit ∙ sym same_limit;
    slack = was.slack ∙ sym same_slack;
    every = was.every ∙ sym same_every;
    once = was.once;
    holds = λ q.
        subst (λ t. HoldsName t (maps.get nat_cmp new.names q) (named seen.names q)) (sym is)
        (subst (λ r. HoldsName code.manager r (named seen.names q)) (sym (names q)) (was.holds q));
    apart = λ a b root first second. was.apart a b root (sym (names a) ∙ first) (sym (names b) ∙ second);
    only = λ root held.
        let had = was.only root (subst (λ o. IsSome o) (ap (λ t. get t.roots root) is) held) in
        record { name = had.name; is = names had.name ∙ had.is };
    serves = subst (λ t. Serves new.cache t) (sym is) (subst (λ c. Serves c code.manager) (sym same_cache) was.serves);
    bound = ap (λ t. t.bound) is ∙ was.bound;
    no_move = ap (λ t. t.moving) is ∙ was.no_move;
    unmarked = subst AreUnmarked (sym is) was.unmarked;
    circuit = was.circuit ∙ ap (λ (s : SharedCircuit). s.circuit.text) (sym same_shared);
    inputs = was.inputs;
    shares = subst (λ t. Shares new.shared.circuit new.shared.gates t) (sym is)
        (subst (λ (s : SharedCircuit). Shares s.circuit s.gates code.manager) (sym same_shared) was.shares);
  };
  holds = λ root d held. subst (λ t. HoldsDiagram t root d) (sym is) held;
  roots = ap (λ t. t.roots) is;
}

-- a command that reads the state leaves it, whatever it answers
pub as_before_self : {X E : Type 0} (code : RunState) (result : Result X E) → OnErr result (IsAsBefore code code)
as_before_self code (Ok x) = tt
as_before_self code (Err e) = as_before code code refl refl refl refl refl refl (λ q. refl)

-- a later table leaves all as before
pub as_before_kept : (code : RunState) (t : Table) (cache : Answers) → KeepsAll code.manager t → Serves cache t
    → AreUnmarked t → Shares code.shared.circuit code.shared.gates t
    → IsAsBefore code (record code { manager = t; cache = cache })
as_before_kept code t cache kept serves unmarked shares = record {
  represents = λ seen was. stands_kept code t cache seen was kept serves unmarked shares;
  holds = λ root d held. kept.holds root d held;
  roots = kept.reached.roots;
}

-- so does making nodes
pub as_before_on : (code : RunState) (t : Table) (cache : Answers) → Extends code.manager t → Serves cache t
    → IsAsBefore code (record code { manager = t; cache = cache })
as_before_on code t cache kept serves = record {
  represents = λ seen was. stands_on code t cache seen was kept serves;
  holds = λ root d held. (all_extended code.manager t kept).holds root d held;
  roots = kept.roots;
}

-- so does another list of the gates' nodes, or none
pub as_before_shared : (code : RunState) (shared : SharedCircuit) → shared.circuit ≡ code.shared.circuit
    → Shares shared.circuit shared.gates code.manager → IsAsBefore code (record code { shared = shared })
as_before_shared code shared same_circuit shares = record {
  represents = λ seen was. stands_shared code shared seen was same_circuit shares;
  holds = λ root d held. held;
  roots = refl;
}

-- and an output
pub as_before_made : (code : RunState) (t : Table) (cache : Answers) (pace : Pace) (shared : SharedCircuit)
    → KeepsAll code.manager t → Serves cache t → AreUnmarked t → shared.circuit ≡ code.shared.circuit
    → Shares shared.circuit shared.gates t
    → IsAsBefore code (record code { manager = t; cache = cache; pace = pace; shared = shared })
as_before_made code t cache pace shared kept serves unmarked same_circuit shares = record {
  represents = λ seen was. stands_swept code t cache pace shared seen was kept serves unmarked same_circuit shares;
  holds = λ root d held. kept.holds root d held;
  roots = kept.reached.roots;
}

-- all is as before after that, and after more
pub before_both : (code mid new : RunState) → IsAsBefore code mid → IsAsBefore mid new → IsAsBefore code new
before_both code mid new first later = record {
  represents = λ seen was. later.represents seen (first.represents seen was);
  holds = λ root d held. later.holds root d (first.holds root d held);
  roots = later.roots ∙ first.roots;
}

pub before_then : {X E : Type 0} (result : Result X E) (code mid new : RunState) → IsAsBefore code mid
    → OnErr result (IsAsBefore mid new) → OnErr result (IsAsBefore code new)
before_then (Ok x) code mid new first later = tt
before_then (Err e) code mid new first later = before_both code mid new first later

-- a search that stops leaves the same, where all was as before it
pub search_left_then : (rounds : ℕ) (code mid new : RunState) → IsAsBefore code mid
    → IsLeftBySearch rounds mid new → IsLeftBySearch rounds code new
search_left_then rounds code mid new first later = record {
  represents = λ seen was. later.represents seen (first.represents seen was);
  searched = λ seen was. later.searched seen (first.represents seen was);
  roots = later.roots ∙ first.roots;
}

-- and so does an input
input_left_then : (every : Option ℕ) (input : Groups) (code mid new : RunState) → IsAsBefore code mid
    → IsLeftByInput every input mid new → IsLeftByInput every input code new
input_left_then None input code mid new first later = before_both code mid new first later
input_left_then (Some k) input code mid new first later = record {
  represents = λ seen was. later.represents seen (first.represents seen was);
  grown = λ seen was. later.grown seen (first.represents seen was);
  roots = later.roots ∙ first.roots;
}

pub input_forgotten : {X E : Type 0} (result : Result X E) (input : Groups) (code mid new : RunState)
    → IsAsBefore code mid → mid.every ≡ code.every → OnErr result (IsLeftByInput mid.every input mid new)
    → OnErr result (IsLeftByInput code.every input code new)
input_forgotten (Ok x) input code mid new first same later = tt
input_forgotten (Err e) input code mid new first same later =
    input_left_then code.every input code mid new first (subst (λ k. IsLeftByInput k input mid new) same later)

-- and after nodes were made
pub as_before_then : {X E : Type 0} (result : Result X E) (code new : RunState) (t : Table) (cache : Answers)
    → Extends code.manager t → Serves cache t
    → OnErr result (IsAsBefore (record code { manager = t; cache = cache }) new)
    → OnErr result (IsAsBefore code new)
as_before_then result code new t cache kept serves later =
    before_then result code (record code { manager = t; cache = cache }) new
    (as_before_on code t cache kept serves) later

-- ---- a formula was compiled into a new root

-- without it the code represents what it did
pub stands_compiled : (code : RunState) (t : Table) (cache : Answers) (root : ℕ) (seen : State) → Represents code seen
    → get code.manager.roots root ≡ None → KeepsOtherRoots code.manager t root → Serves cache t → AreUnmarked t
    → AreForgotten code.shared → Represents (without (record code { manager = t; cache = cache }) root) seen
stands_compiled code t cache root seen was absent kept serves unmarked forgotten =
    stands_kept code (without_root t root) cache seen was
    (released_all code.manager t (without_root t root) root root absent kept refl refl)
    (serves_roots cache t (remove t.roots root) serves) unmarked (forgotten (without_root t root))

-- and all is as before
pub as_before_compiled : (code : RunState) (t : Table) (cache : Answers) (root : ℕ) → get code.manager.roots root ≡ None
    → KeepsOtherRoots code.manager t root → Serves cache t → AreUnmarked t → AreForgotten code.shared
    → IsAsBefore code (without (record code { manager = t; cache = cache }) root)
as_before_compiled code t cache root absent kept serves unmarked forgotten =
    as_before_kept code (without_root t root) cache
    (released_all code.manager t (without_root t root) root root absent kept refl refl)
    (serves_roots cache t (remove t.roots root) serves) unmarked (forgotten (without_root t root))

-- the root holds the formula
pub holds_compiled : (t : Table) (root : ℕ) (f : Expression) → HoldsFormula t f root → HoldsValue t root f
holds_compiled t root f h = record {
  code = h.code;
  held = h.held;
  diagram = h.shown.diagram;
  shows = h.shown.is.shows;
  of_value = record { canonical = h.shown.is.canonical; same_value = λ a fits. h.shown.value a };
}

-- a manager that holds one formula alone, at a root that gets the name 0
pub stands_alone : (code new : RunState) (root : ℕ) (f : Groups) → IsAtRest code.manager code.cache
    → HoldsAlone code.manager f root → code.names.entries ≡ [] → code.shared.circuit.text ≡ no_circuit
    → AreForgotten code.shared → new.manager ≡ code.manager → new.cache ≡ code.cache → new.limit ≡ code.limit
    → new.slack ≡ code.slack → new.every ≡ code.every → new.shared ≡ code.shared
    → ((q : ℕ) → maps.get nat_cmp new.names q
    ≡ cond (is_at (nat_cmp 0) q) (Some root) (maps.get nat_cmp code.names q))
    → Represents new (with_name (start_with code.manager.vtree code.limit code.slack code.every no_circuit) 0
    (expression_of f))
stands_alone code new root f ready holds no_names same_circuit forgotten is same_cache same_limit same_slack same_every
    same_shared names =
    stands_named code new (start_with code.manager.vtree code.limit code.slack code.every no_circuit) 0 root
    (expression_of f)
    (stands_empty (without code root) no_circuit nothing
    (serves_roots code.cache code.manager (remove code.manager.roots root) ready.serves) ready.bound ready.no_move
    ready.unmarked no_names same_circuit forgotten (λ some. absurd (omega (arith, some))))
    (holds_compiled code.manager root (expression_of f) holds.holds) (ap (lookup (is_at (nat_cmp 0))) no_names)
    is same_cache same_limit same_slack same_every same_shared names
  where
    nothing : (q : ℕ) → get (remove code.manager.roots root) q ≡ None
    nothing q = elim (cases_eq q root) [
      | inl same ↦
          subst (λ k. get (remove code.manager.roots root) k ≡ None) (sym same)
          (get_remove_same code.manager.roots root)
      | inr differ ↦ get_remove_other code.manager.roots root q differ ∙ holds.only q differ
    ]

-- ---- what the manager alone holds

-- a bound name has a root that holds its formula
pub bound_root : (t : Table) (r : Option ℕ) (v : Option Expression) (f : Expression) → HoldsName t r v → v ≡ Some f
    → (root : ℕ) × HoldsValue t root f
bound_root t None None f holds is = absurd cc
bound_root t None (Some value) f holds is = absurd holds
bound_root t (Some root) None f holds is = absurd holds
bound_root t (Some root) (Some value) f holds is =
    let same : value ≡ f = cc in (root, subst (λ v. HoldsValue t root v) same holds)

-- a name with a root is bound, and the root holds its formula
pub root_bound : (t : Table) (r : Option ℕ) (v : Option Expression) (root : ℕ) → HoldsName t r v → r ≡ Some root
    → (f : Expression) × (v ≡ Some f) × HoldsValue t root f
root_bound t None v root holds is = absurd cc
root_bound t (Some n) None root holds is = absurd holds
root_bound t (Some n) (Some value) root holds is =
    let same : n ≡ root = cc in (value, refl, subst (λ k. HoldsValue t k value) same holds)

-- the manager of a code that represents a state holds what its names stand for
pub holds_names : (code : RunState) (seen : State) → Represents code seen → HoldsNames code.manager seen.names
holds_names code seen was = record {
  each = λ name f is. bound_root code.manager _ _ f (was.holds name) is;
  only = λ root held.
      let had = was.only root held in
      let bound = root_bound code.manager _ _ root (was.holds had.name) had.is in
      (had.name, bound.0, bound.1, bound.2);
}

-- ---- a command that stops

-- The code represents the state over the tree that is left, as the state is.
as_it_was : (old new : RunState) (seen : State) → Represents old seen → IsAsBefore old new
    → Represents new (record seen { tree = plain_tree new.manager.vtree }) × (plain_tree new.manager.vtree ≡ seen.tree)
as_it_was old new seen was left =
    let now = left.represents seen was in
    (subst (λ t. Represents new (record seen { tree = t })) now.tree now, sym now.tree)

-- and so is what an input leaves
input_left : (input : Groups) (every : Option ℕ) (old new : RunState) (seen : State) → Represents old seen
    → IsLeftByInput every input old new
    → Represents new (record seen { tree = plain_tree new.manager.vtree })
    × IsGrown input seen (plain_tree new.manager.vtree)
input_left input None old new seen was left =
    let same = as_it_was old new seen was left in
    (same.0, (0, omega arith, same.1))
input_left input (Some every) old new seen was left = (left.represents seen was, left.grown seen was)

-- what a command that stops leaves is told by its tree
pub left_state : (input : Groups) (command : RunCommand) (old new : RunState) (seen : State) → Represents old seen
    → IsLeft input command old new
    → Represents new (record seen { tree = plain_tree new.manager.vtree })
    × IsTreeLeft input seen command (plain_tree new.manager.vtree)
left_state input (commands.Minimise rounds) old new seen was left = (left.represents seen was, left.searched seen was)
left_state input (commands.Generated v g) old new seen was left = as_it_was old new seen was left
left_state input (commands.Input n) old new seen was left = input_left input old.every old new seen was left
left_state input (commands.Load n file) old new seen was left = as_it_was old new seen was left
left_state input (commands.Literal n literal) old new seen was left = as_it_was old new seen was left
left_state input (commands.Constant n value) old new seen was left = as_it_was old new seen was left
left_state input (commands.Combine operation n a b) old new seen was left = as_it_was old new seen was left
left_state input (commands.Negate n a) old new seen was left = as_it_was old new seen was left
left_state input (commands.Given n a literal) old new seen was left = as_it_was old new seen was left
left_state input (commands.Forget n a x) old new seen was left = as_it_was old new seen was left
left_state input (commands.Drop a) old new seen was left = as_it_was old new seen was left
left_state input (commands.Turn kind p) old new seen was left = as_it_was old new seen was left
left_state input (commands.Limit limit) old new seen was left = as_it_was old new seen was left
left_state input (commands.Same a b) old new seen was left = as_it_was old new seen was left
left_state input (commands.Size a) old new seen was left = as_it_was old new seen was left
left_state input (commands.Value a bits) old new seen was left = as_it_was old new seen was left
left_state input (commands.Write a file) old new seen was left = as_it_was old new seen was left
left_state input (commands.WriteVtree file) old new seen was left = as_it_was old new seen was left
left_state input (commands.InputByParts n parts) old new seen was left = as_it_was old new seen was left
left_state input (commands.Choose rounds) old new seen was left = absurd left
left_state input (commands.Output n index) old new seen was left = as_it_was old new seen was left
left_state input (commands.Check file ids) old new seen was left = as_it_was old new seen was left
