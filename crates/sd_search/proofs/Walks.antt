-- A walk, by what is found among the states of its steps.
use Rattle.std.proofs.Common.{◌≡◌, ℕ, ◌*◌, ◌/◌, ◌<◌, List, [], ◌∷◌, ◌++◌, length, map, Option, Some, None, refl}
use Rattle.std.proofs.Common.{sym}
use Rattle.std.proofs.Common.{ap, subst, ◌∙◌, option_map}
use Rattle.std.specs.List.{AllByRecursion}
use Rattle.std.proofs.lemmas.Option.{same_Some, none-some}
use Rattle.sd_model.specs.declared.trees.Side.{Side}
use Rattle.sd_model.specs.declared.trees.Side.TheVariants.{Left, Right}
use Rattle.sd_model.specs.declared.trees.Move.{Move}
use Rattle.sd_model.specs.Expression.{Expression}
use Rattle.sd_model.specs.Size.{HasSize}
use Rattle.sd_model.specs.Tree.{Tree, Leaf, Node}
use Rattle.sd_model.specs.Moves.{moved}
use Rattle.sd_vtree.specs.Numbered.{Numbered, numbers, plain_tree, IsNumbered}
use Rattle.sd_manager.specs.Table.{Table}
use Rattle.sd_manager.specs.Valid.{IsTable}
use Rattle.sd_sweep.specs.Reached.{KeepsReached}
use Rattle.sd_compile.specs.Total.{AreHeldFormulas}
use Rattle.sd_search.specs.Search.{WalkMove, walk_moves, subtree_at, State, LeadThrough, LeadWithin}
use Rattle.sd_search.specs.Search.{IsWalk}
use Rattle.sd_search.specs.Kept.{KeepsRoots}
use Rattle.sd_search.specs.Walking.{IsSizeOfHeld}
use Rattle.sd_search.specs.Paths.{IsAtPath}
use Rattle.sd_search.specs.Walking.{move_of, IsCapped, IsAhead, CanGoOn, AreStepsAt}
use Rattle.sd_search.specs.declared.steps.Step.{Step}
use Rattle.sd_search.proofs.LeastState.{all_middle, least_found}
use Rattle.sd_search.proofs.NeverLarger.{through_sized}
use Rattle.sd_search.proofs.WorkedSearch.{from_left, from_right, of_two}
use Rattle.sd_search.proofs.AnyFormulas.{any_formulas}
use Rattle.sd_search.proofs.Rounds.{has_path}
use Rattle.sd_search.proofs.KeptRoots.{shows_kept, shows_back, formulas_on}

-- ---- the moves of a walk can be made

-- a move of a subtree is one of the tree
moved_part : (kind : Move) (t : Tree) (path below : List Side) (here v : Tree) → subtree_at t path ≡ Some here
    → moved kind here below ≡ Some v → (u : Tree) × (moved kind t (path ++ below) ≡ Some u)
    × (subtree_at u path ≡ Some v)
moved_part kind t [] below here v e h =
    (v, subst (λ s. moved kind s below ≡ Some v) (sym (same_Some t here e)) h, refl)
moved_part kind (Leaf x) (side ∷ path) below here v e h = absurd (none-some here e)
moved_part kind (Node l r) (Left ∷ path) below here v e h =
    let k = moved_part kind l path below here v e h in (Node k.0 r, ap (option_map (λ m. Node m r)) k.1, k.2)
moved_part kind (Node l r) (Right ∷ path) below here v e h =
    let k = moved_part kind r path below here v e h in (Node l k.0, ap (option_map (λ m. Node l m)) k.1, k.2)

-- so where moves lead through trees from a subtree, they do from the tree
through_part : (t : Tree) (path : List Side) (here : Tree) (ms : List WalkMove) (vs : List Tree)
    → subtree_at t path ≡ Some here → LeadThrough here [] ms vs → (us : List Tree) × LeadThrough t path ms us
through_part t path here [] vs e h = ([], refl)
through_part t path here (m ∷ ms) [] e h = absurd h
through_part t path here (m ∷ ms) (v ∷ vs) e h =
    let k = moved_part m.kind t path m.below here v e h.0 in
    let r = through_part k.0 path v ms vs k.2 h.1 in
    (k.0 ∷ r.0, (k.1, r.1))

walk_possible : (here : Tree) → (vs : List Tree) × LeadThrough here [] (walk_moves here) vs
walk_possible (Leaf x) = ([], refl)
walk_possible (Node (Node a b) c) = (
  Node c (Node a b) ∷ Node (Node c a) b ∷ Node b (Node c a) ∷ Node (Node b c) a ∷ Node a (Node b c)
      ∷ Node a (Node c b) ∷ Node (Node a c) b ∷ Node b (Node a c) ∷ Node (Node b a) c ∷ Node c (Node b a)
      ∷ Node (Node c b) a ∷ [],
  from_left a b c,
)
walk_possible (Node (Leaf x) (Node b c)) = (
  Node (Node (Leaf x) b) c ∷ Node c (Node (Leaf x) b) ∷ Node (Node c (Leaf x)) b ∷ Node b (Node c (Leaf x))
      ∷ Node (Node b c) (Leaf x) ∷ Node (Node c b) (Leaf x) ∷ Node (Leaf x) (Node c b) ∷ Node (Node (Leaf x) c) b
      ∷ Node b (Node (Leaf x) c) ∷ Node (Node b (Leaf x)) c ∷ Node c (Node b (Leaf x)) ∷ [],
  from_right x b c,
)
walk_possible (Node (Leaf x) (Leaf y)) = (Node (Leaf y) (Leaf x) ∷ [], of_two x y)

pub can_walk : (t : Numbered) (place : ℕ) (steps : List Step) → IsNumbered t → place < length (numbers t)
    → AreStepsAt t place steps → CanGoOn t place (map move_of steps)
can_walk t place steps num less are =
    let p = has_path t place num less in
    let s = are p.0 p.1 in
    let w = walk_possible s.0 in
    let r = through_part (plain_tree t) p.0 s.0 (walk_moves s.0) w.0 s.1 w.1 in
    record {
      path = p.0;
      here = p.1;
      trees = r.0;
      through = subst (λ l. LeadThrough (plain_tree t) p.0 l r.0) (sym s.2) r.1;
    }

-- ---- what a walk leads to

-- so the state that is found has the size that is told
found_size : (fs : List Expression) (bound : ℕ) (t u : Tree) (path : List Side) (ms : List WalkMove) (least size : ℕ)
    → IsAhead fs bound t path ms least (Some size) u → HasSize fs u size
found_size fs bound t u path ms least size h =
    let first = h.finds.0 in
    all_middle (λ s. HasSize fs s.tree s.size) first.before first.behind (record { tree = u; size = size })
    (subst (AllByRecursion (λ s. HasSize fs s.tree s.size)) first.parts
    (through_sized fs bound t path ms h.states h.through))

module _ (fs : List Expression) (slack size : ℕ) (t : Tree) (path : List Side) (here : Tree) (ms : List WalkMove)
    (at : subtree_at t path ≡ Some here) (is : ms ≡ walk_moves here) (start : HasSize fs t size) where
  -- the states with the one at the start
  abbrev with_start : List State → List State
  with_start states = record { tree = t; size = size } ∷ states

  -- a later state is the first one of least size
  pub walk_found : (least : ℕ) (u : Tree) → IsAhead fs (size * slack / 100) t path ms size (Some least) u
      → IsWalk fs slack t path u
  walk_found least u h =
      let first = h.finds.0 in
      record {
        here = here;
        at = at;
        size = size;
        start = start;
        states = h.states;
        through = subst (λ l. LeadWithin fs (size * slack / 100) t path l h.states) is h.through;
        end = ap (λ s. s.tree) (least_found (record { tree = t; size = size }) h.states
            (record { tree = u; size = least }) (record {
              before = record { tree = t; size = size } ∷ first.before;
              behind = first.behind;
              parts = ap with_start first.parts;
              larger = (h.finds.1, first.larger);
              not_smaller = first.not_smaller;
            }));
      }

  -- the start is
  pub walk_stays : (u : Tree) → IsAhead fs (size * slack / 100) t path ms size None u → t ≡ u → IsWalk fs slack t path u
  walk_stays u h same = record {
    here = here;
    at = at;
    size = size;
    start = start;
    states = h.states;
    through = subst (λ l. LeadWithin fs (size * slack / 100) t path l h.states) is h.through;
    end = ap (λ s. s.tree) (least_found (record { tree = t; size = size }) h.states (record { tree = t; size = size })
        (record { before = []; behind = h.states; parts = refl; larger = tt; not_smaller = h.finds })) ∙ same;
  }

-- what the steps of a walk tell, for all formulas and the path
abbrev pub TellsAhead : Table → Table → ℕ → ℕ → ℕ → List WalkMove → Option ℕ → Type 0
TellsAhead a b place most size ms found =
    (fs : List Expression) (path : List Side) (bound : ℕ) → AreHeldFormulas a fs → IsAtPath a.vtree path place
    → IsCapped most bound → IsAhead fs bound (plain_tree a.vtree) path ms size found (plain_tree b.vtree)

module _ (a b : Table) (place most size slack : ℕ) (steps : List Step) (t : IsTable a) (u : IsTable b)
    (are : AreStepsAt a.vtree place steps) (capped : IsCapped most (size * slack / 100)) (start : IsSizeOfHeld a size)
    (k : KeepsRoots a b) where
  pub walked : (least : ℕ) → TellsAhead a b place most size (map move_of steps) (Some least)
      → (fs : List Expression) (path : List Side) → AreHeldFormulas a fs → IsAtPath a.vtree path place
      → IsWalk fs slack (plain_tree a.vtree) path (plain_tree b.vtree)
  walked least tells fs path held e =
      let s = are path e in
      walk_found fs slack size (plain_tree a.vtree) path s.0 (map move_of steps) s.1 s.2 (start fs held) least
      (plain_tree b.vtree) (tells fs path (size * slack / 100) held e capped)

  pub stayed : TellsAhead a b place most size (map move_of steps) None → KeepsReached a b
      → (fs : List Expression) (path : List Side) → AreHeldFormulas a fs → IsAtPath a.vtree path place
      → IsWalk fs slack (plain_tree a.vtree) path (plain_tree b.vtree)
  stayed tells back fs path held e =
      let s = are path e in
      walk_stays fs slack size (plain_tree a.vtree) path s.0 (map move_of steps) s.1 s.2 (start fs held)
      (plain_tree b.vtree) (tells fs path (size * slack / 100) held e capped) (ap plain_tree (sym back.vtree))

  -- the formulas are those from before
  held_before : (fs : List Expression) → AreHeldFormulas b fs → AreHeldFormulas a fs
  held_before fs held = formulas_on b a fs u t (shows_back a b (shows_kept a b k)) held

  pub size_walked : (least : ℕ) → place < length (numbers a.vtree)
      → TellsAhead a b place most size (map move_of steps) (Some least) → IsSizeOfHeld b least
  size_walked least less tells fs held =
      let p = has_path a.vtree place t.numbered less in
      found_size fs (size * slack / 100) (plain_tree a.vtree) (plain_tree b.vtree) p.0 (map move_of steps) size least
      (tells fs p.0 (size * slack / 100) (held_before fs held) p.1 capped)

  -- a later state that is found is smaller than the start
  pub less_walked : (least : ℕ) → place < length (numbers a.vtree) → a.moving ≡ None
      → TellsAhead a b place most size (map move_of steps) (Some least) → least < size
  less_walked least less still tells =
      let some = any_formulas a t still in
      let p = has_path a.vtree place t.numbered less in
      (tells some.0 p.0 (size * slack / 100) some.1 p.1 capped).finds.1

  pub size_stayed : KeepsReached a b → IsSizeOfHeld b size
  size_stayed back fs held =
      subst (λ (v : Numbered). HasSize fs (plain_tree v) size) (sym back.vtree) (start fs (held_before fs held))
