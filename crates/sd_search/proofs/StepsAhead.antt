-- What is found from a step of a walk on, by what is found from the next one on.
use Rattle.std.proofs.Common.{◌≡◌, ◌⊎◌, inl, inr, ℕ, ◌+◌, ◌≤◌, ◌<◌, List, [], ◌∷◌, ◌++◌, map}
use Rattle.std.proofs.Common.{min, Option, Some, None, refl, sym, ap, subst, ◌∙◌, arith}
use Rattle.std.proofs.Common.{length, lt-ltb, le-ltb, if◌then◌else◌}
use Rattle.std.specs.List.{AllByRecursion}
use Rattle.std.proofs.lemmas.Bool.{cases_lt}
use Rattle.std.proofs.lemmas.Option.{same_Some, none-some}
use Rattle.sd_model.specs.declared.trees.Side.{Side}
use Rattle.sd_model.specs.Expression.{Expression}
use Rattle.sd_model.specs.Size.{HasSize}
use Rattle.sd_model.specs.Tree.{Tree}
use Rattle.sd_model.specs.Moves.{moved}
use Rattle.sd_laws.proofs.Lists.{all_weaker}
use Rattle.sd_vtree.specs.Numbered.{Numbered, plain_tree}
use Rattle.sd_manager.specs.Table.{Table}
use Rattle.sd_move.specs.declared.error.MoveError.{MoveError}
use Rattle.sd_move.specs.declared.error.MoveError.TheVariants.{NotMovable, OverMost, ArenaFull, OutOfMemory}
use Rattle.sd_compile.specs.Total.{AreHeldFormulas}
use Rattle.sd_search.specs.Search.{WalkMove, State, LeadThrough, LeadWithin}
use Rattle.sd_search.specs.Paths.{IsAtPath, KeepsAlong}
use Rattle.sd_search.specs.Kept.{IsSearchRefusal}
use Rattle.sd_search.specs.Walking.{move_of, IsAhead, CanGoOn, IsCapped, IsStepRefusal, best_of}
use Rattle.sd_search.specs.Walking.{stop_of_move, HasSmallSize}
use Rattle.sd_search.specs.declared.error.SearchError.{SearchError}
use Rattle.sd_search.specs.declared.error.SearchError.TheVariants as stops
use Rattle.sd_search.specs.declared.steps.Step.{Step}
use Rattle.sd_search.proofs.AlongPaths.{along_at}

-- ---- the moves of steps

-- without steps there are none
pub no_moves : (steps : List Step) → length steps ≡ 0 → map move_of steps ≡ []
no_moves [] none = refl
no_moves (x ∷ xs) none = absurd (omega (arith, none))

-- the moves behind the first one can be made after it
pub can_go_on : (t u : Numbered) (place : ℕ) (m : WalkMove) (ms rest : List WalkMove) → ms ≡ m ∷ rest
    → CanGoOn t place ms
    → ((path : List Side) → IsAtPath t path place → moved m.kind (plain_tree t) (path ++ m.below) ≡ Some (plain_tree u))
    → ((path : List Side) → IsAtPath t path place → KeepsAlong t u path) → CanGoOn u place rest
can_go_on t u place m ms rest is can led along =
    go can.trees (subst (λ l. LeadThrough (plain_tree t) can.path l can.trees) is can.through)
  where
    go : (trees : List Tree) → LeadThrough (plain_tree t) can.path (m ∷ rest) trees → CanGoOn u place rest
    go [] h = absurd h
    go (v ∷ trees) h = record {
      path = can.path;
      here = along_at t u can.path place (along can.path can.here) can.here;
      trees = trees;
      through = subst (λ w. LeadThrough w can.path rest trees)
          (same_Some v (plain_tree u) (sym h.0 ∙ led can.path can.here)) h.1;
    }

-- a move that can be made is one
pub can_move : (t : Numbered) (place : ℕ) (m : WalkMove) (ms rest : List WalkMove) → ms ≡ m ∷ rest
    → (can : CanGoOn t place ms)
    → ((path : List Side) → IsAtPath t path place → moved m.kind (plain_tree t) (path ++ m.below) ≡ None) → ⊥
can_move t place m ms rest is can none =
    go can.trees (subst (λ l. LeadThrough (plain_tree t) can.path l can.trees) is can.through)
  where
    go : (trees : List Tree) → LeadThrough (plain_tree t) can.path (m ∷ rest) trees → ⊥
    go [] h = h
    go (v ∷ trees) h = none-some v (sym (none can.path can.here) ∙ h.0)

-- ---- what is found

-- without a further step
pub ahead_none : (fs : List Expression) (bound : ℕ) (t u : Tree) (path : List Side) (ms : List WalkMove) (least : ℕ)
    → ms ≡ [] → IsAhead fs bound t path ms least None u
ahead_none fs bound t u path ms least is =
    subst (λ l. IsAhead fs bound t path l least None u) (sym is) (record { states = []; through = refl; finds = tt })

-- before a state that passes the bound
pub ahead_passes : (fs : List Expression) (bound : ℕ) (t u v : Tree) (path : List Side) (m : WalkMove)
    (ms rest : List WalkMove) (least size : ℕ) → ms ≡ m ∷ rest → moved m.kind t (path ++ m.below) ≡ Some v
    → HasSize fs v size → bound < size → IsAhead fs bound t path ms least None u
ahead_passes fs bound t u v path m ms rest least size is led sized passes =
    subst (λ l. IsAhead fs bound t path l least None u) (sym is)
    (record { states = []; through = (v, size, led, sized, passes); finds = tt })

module _ (fs : List Expression) (bound : ℕ) (t v : Tree) (path : List Side) (m : WalkMove) (ms rest : List WalkMove)
    (least here less : ℕ) (is : ms ≡ m ∷ rest) (led : moved m.kind t (path ++ m.below) ≡ Some v)
    (sized : HasSize fs v here) (within : here ≤ bound) where
  -- the states with the one of the step
  abbrev with_first : List State → List State
  with_first states = record { tree = v; size = here } ∷ states

  leads_on : (states : List State) → LeadWithin fs bound v path rest states
      → LeadWithin fs bound t path (m ∷ rest) (with_first states)
  leads_on states h = (led, sized, within, h)

  -- a later state is found
  pub ahead_later : (size : ℕ) (u : Tree) → less ≤ here → less ≤ least
      → IsAhead fs bound v path rest less (Some size) u → IsAhead fs bound t path ms least (Some size) u
  ahead_later size u below_here below_least h =
      let first = h.finds.0 in
      let fewer = h.finds.1 in
      subst (λ l. IsAhead fs bound t path l least (Some size) u) (sym is)
      (record {
        states = with_first h.states;
        through = leads_on h.states h.through;
        finds = (
          record {
            before = record { tree = v; size = here } ∷ first.before;
            behind = first.behind;
            parts = ap with_first first.parts;
            larger = (omega (arith, fewer, below_here), first.larger);
            not_smaller = first.not_smaller;
          },
          omega (arith, fewer, below_least),
        );
      })

  -- no state is less than the lesser of the two
  at_least : (n : ℕ) (states : List State) → n ≤ less → AllByRecursion (λ s. less ≤ s.size) states
      → AllByRecursion (λ s. n ≤ s.size) states
  at_least n states h all =
      all_weaker (λ s. less ≤ s.size) (λ s. n ≤ s.size) (λ s k. omega (arith, k, h)) states all

  -- the state of the step is found
  pub ahead_here : (u : Tree) → here < least → less ≤ here → (here ≤ less) ⊎ (least ≤ less)
      → IsAhead fs bound v path rest less None u → IsAhead fs bound t path ms least (Some here) v
  ahead_here u lesser below one h =
      subst (λ l. IsAhead fs bound t path l least (Some here) v) (sym is)
      (record {
        states = with_first h.states;
        through = leads_on h.states h.through;
        finds = (
          record {
            before = [];
            behind = h.states;
            parts = refl;
            larger = tt;
            not_smaller = at_least here h.states (go one) h.finds;
          },
          lesser,
        );
      })
    where
      go : (here ≤ less) ⊎ (least ≤ less) → here ≤ less
      go (inl k) = k
      go (inr k) = omega (arith, k, below, lesser)

  -- none is found
  pub ahead_back : (u w : Tree) → least ≤ here → less ≤ least → (here ≤ less) ⊎ (least ≤ less)
      → IsAhead fs bound v path rest less None u → IsAhead fs bound t path ms least None w
  ahead_back u w larger below one h =
      subst (λ l. IsAhead fs bound t path l least None w) (sym is)
      (record {
        states = with_first h.states;
        through = leads_on h.states h.through;
        finds = (larger, at_least least h.states (go one) h.finds);
      })
    where
      go : (here ≤ less) ⊎ (least ≤ less) → least ≤ less
      go (inl k) = omega (arith, k, larger)
      go (inr k) = k

-- the lesser of two numbers
pub lesser_of : (a b n : ℕ) → n ≡ min a b → (n ≤ a) × (n ≤ b) × ((a ≤ n) ⊎ (b ≤ n))
lesser_of a b n is = (grind (arith, is), grind (arith, is), one)
  where
    one : (a ≤ n) ⊎ (b ≤ n)
    one = elim (cases_lt b a) [
      | inl h ↦ inr (grind (arith, is, h))
      | inr h ↦ inl (grind (arith, is, h))
    ]

-- ---- the choice between a state and the later ones

module _ (fs : List Expression) (bound : ℕ) (t v u : Tree) (path : List Side) (m : WalkMove) (ms rest : List WalkMove)
    (least here less : ℕ) (is : ms ≡ m ∷ rest) (led : moved m.kind t (path ++ m.below) ≡ Some v)
    (sized : HasSize fs v here) (within : here ≤ bound) (below_here : less ≤ here) (below_least : less ≤ least)
    (one : (here ≤ less) ⊎ (least ≤ less)) where
  -- one of them is kept
  pub best_some : (later : Option ℕ) (size : ℕ) → best_of later here least ≡ Some size → (later ≡ None → v ≡ u)
      → IsAhead fs bound v path rest less later u → IsAhead fs bound t path ms least (Some size) u
  best_some (Some later) size e same h =
      subst (λ n. IsAhead fs bound t path ms least (Some n) u) (same_Some later size e)
      (ahead_later fs bound t v path m ms rest least here less is led sized within later u below_here below_least h)
  best_some None size e same h = elim (cases_lt here least) [
    | inl k ↦ (let f : here ≡ size =
        same_Some here size (sym (ap (λ b. if b then Some here else None) (lt-ltb here least k)) ∙ e) in
        subst (λ n. IsAhead fs bound t path ms least (Some n) u) f
        (subst (IsAhead fs bound t path ms least (Some here)) (same refl)
        (ahead_here fs bound t v path m ms rest least here less is led sized within u k below_here one h)))
    | inr k ↦ absurd (none-some size
        (sym (ap (λ b. if b then Some here else None) (le-ltb here least (omega (arith, k)))) ∙ e))
  ]

  -- none is
  pub best_none : (later : Option ℕ) (w : Tree) → best_of later here least ≡ None
      → IsAhead fs bound v path rest less later u → IsAhead fs bound t path ms least None w
  best_none (Some later) w e h = absurd (none-some later (sym e))
  best_none None w e h = elim (cases_lt here least) [
    | inl k ↦ absurd (none-some here
        (sym (sym (ap (λ b. if b then Some here else None) (lt-ltb here least k)) ∙ e)))
    | inr k ↦ ahead_back fs bound t v path m ms rest least here less is led sized within u w (omega (arith, k))
        below_least one h
  ]

-- where none is kept there is no later one
pub none_later : (later : Option ℕ) (here least : ℕ) → best_of later here least ≡ None → later ≡ None
none_later None here least e = refl
none_later (Some later) here least e = absurd (none-some later (sym e))

-- a step that was not made ends the walk
pub ahead_refused : (fs : List Expression) (bound : ℕ) (a b : Table) (u : Tree) (path : List Side)
    (place most least : ℕ)
    (s : Step) (ms rest : List WalkMove) (e : MoveError) → ms ≡ move_of s ∷ rest → IsAtPath a.vtree path place
    → CanGoOn a.vtree place ms → stop_of_move e ≡ None → HasSmallSize e → IsStepRefusal a b (move_of s) place most e
    → AreHeldFormulas a fs → IsCapped most bound → IsAhead fs bound (plain_tree a.vtree) path ms least None u
ahead_refused fs bound a b u path place most least s ms rest NotMovable is at can none small h held capped =
    absurd (can_move a.vtree place (move_of s) ms rest is can h)
ahead_refused fs bound a b u path place most least s ms rest (OverMost size limit) is at can none small h held capped =
    ahead_passes fs bound (plain_tree a.vtree) u h.tree path (move_of s) ms rest least size is (h.led path at)
    (h.sized fs held) (capped.1 size small h.passes)
ahead_refused fs bound a b u path place most least s ms rest (ArenaFull elements) is at can none small h held capped =
    absurd (none-some (stops.ArenaFull elements) (sym none))
ahead_refused fs bound a b u path place most least s ms rest OutOfMemory is at can none small h held capped =
    absurd (none-some stops.OutOfMemory (sym none))

-- or breaks it off by the arena's rule
pub stop_rule : (a b : Table) (place most : ℕ) (m : WalkMove) (e : MoveError) (stop : SearchError)
    → stop_of_move e ≡ Some stop → IsStepRefusal a b m place most e → IsSearchRefusal b stop
stop_rule a b place most m NotMovable stop e h = absurd (none-some stop e)
stop_rule a b place most m (OverMost size limit) stop e h = absurd (none-some stop e)
stop_rule a b place most m (ArenaFull elements) stop e h =
    subst (IsSearchRefusal b) (same_Some (stops.ArenaFull elements) stop e) h
stop_rule a b place most m OutOfMemory stop e h = subst (IsSearchRefusal b) (same_Some stops.OutOfMemory stop e) tt
