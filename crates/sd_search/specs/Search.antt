-- The search for a vtree under which formulas have a smaller size: a walk over the arrangements of the subtrees at a
-- node, a round of walks over all nodes, and rounds until one gains nothing.
use Rattle.std.specs.Prelude.{◌≡◌, ℕ, zero, suc, ◌*◌, ◌/◌, ◌<◌, ◌≤◌, nat_lt, if◌then◌else◌}
use Rattle.std.specs.Prelude.{List, [], ◌∷◌, ◌++◌, Option, Some, None}
use Rattle.std.specs.List.{fold}
use Rattle.sd_model.specs.Expression.{Expression}
use Rattle.sd_model.specs.Tree.{Tree, Leaf, Node}
use Rattle.sd_model.specs.Size.{HasSize}
use Rattle.sd_model.specs.Moves.{moved}
use Rattle.sd_model.specs.declared.trees.Side.{Side}
use Rattle.sd_model.specs.declared.trees.Side.TheVariants.{Left, Right}
use Rattle.sd_model.specs.declared.trees.Move.{Move}
use Rattle.sd_model.specs.declared.trees.Move.TheVariants.{RotateLeft, Swap}

-- ---- a walk

-- a move of a walk, and the way from the node of the walk to the node that it moves
pub record WalkMove : Type 0 where
  pub kind : Move
  pub below : List Side

-- the node of the walk is swapped
abbrev pub swap : WalkMove
swap = record { kind = Swap; below = [] }

-- the node of the walk is rotated to the left
abbrev pub rotate : WalkMove
rotate = record { kind = RotateLeft; below = [] }

-- a child of it is swapped
abbrev pub swap_child : Side → WalkMove
swap_child side = record { kind = Swap; below = side ∷ [] }

-- The moves of a walk, by the form of the subtree at its node. Where that has three subtrees, they lead through their
-- other eleven arrangements.
abbrev pub walk_moves : Tree → List WalkMove
walk_moves (Leaf x) = []
walk_moves (Node (Node a b) c) =
    swap ∷ rotate ∷ swap ∷ rotate ∷ swap ∷ swap_child Right ∷ rotate ∷ swap ∷ rotate ∷ swap ∷ rotate ∷ []
walk_moves (Node (Leaf x) (Node b c)) =
    rotate ∷ swap ∷ rotate ∷ swap ∷ rotate ∷ swap_child Left ∷ swap ∷ rotate ∷ swap ∷ rotate ∷ swap ∷ []
walk_moves (Node (Leaf x) (Leaf y)) = swap ∷ []

-- the subtree at the end of a path
abbrev pub subtree_at : Tree → List Side → Option Tree
subtree_at t [] = Some t
subtree_at (Leaf x) (side ∷ path) = None
subtree_at (Node l r) (Left ∷ path) = subtree_at l path
subtree_at (Node l r) (Right ∷ path) = subtree_at r path

-- from a tree, the moves at the node at the end of a path lead through these trees
abbrev pub LeadThrough : Tree → List Side → List WalkMove → List Tree → Type 0
LeadThrough t path [] states = states ≡ []
LeadThrough t path (m ∷ ms) [] = ⊥
LeadThrough t path (m ∷ ms) (u ∷ us) = (moved m.kind t (path ++ m.below) ≡ Some u) × LeadThrough u path ms us

-- a tree and the size that the formulas have under it
pub record State : Type 0 where
  pub tree : Tree
  pub size : ℕ

-- the first one of least size among a state and those behind it
abbrev pub first_least : State → List State → State
first_least state states = fold (λ best s. if nat_lt s.size best.size then s else best) state states

-- From a tree the moves at the node at the end of a path lead through these states, which end before the first whose
-- size passes a bound.
abbrev pub LeadWithin : List Expression → ℕ → Tree → List Side → List WalkMove → List State → Type 0
LeadWithin fs bound t path [] states = states ≡ []
LeadWithin fs bound t path (m ∷ ms) [] =
    (u : Tree) × (n : ℕ) × (moved m.kind t (path ++ m.below) ≡ Some u) × HasSize fs u n × (bound < n)
LeadWithin fs bound t path (m ∷ ms) (s ∷ states) =
    (moved m.kind t (path ++ m.below) ≡ Some s.tree) × HasSize fs s.tree s.size × (s.size ≤ bound)
    × LeadWithin fs bound s.tree path ms states

-- A walk at the node at the end of a path: it stops before the first state whose size passes so many hundredths of the
-- size at its start, and goes back to the first state of least size, the start included.
pub record IsWalk (fs : List Expression) (slack : ℕ) (t : Tree) (path : List Side) (u : Tree) : Type 0 where
  pub here : Tree
  pub at : subtree_at t path ≡ Some here
  pub size : ℕ
  pub start : HasSize fs t size
  pub states : List State
  pub through : LeadWithin fs (size * slack / 100) t path (walk_moves here) states
  pub end : (first_least (record { tree = t; size = size }) states).tree ≡ u

-- ---- rounds and searches

-- A round at the node at the end of a path: at a leaf nothing is done; else a walk there, then a round at the left
-- child, and then one at the right child, each in the tree that the one before left.
pub data IsRound (fs : List Expression) (slack : ℕ) : Tree → List Side → Tree → Type 0 where
  round_at_leaf : {t : Tree} {path : List Side} (x : ℕ) → subtree_at t path ≡ Some (Leaf x) →
      IsRound fs slack t path t
  round_at_node : {t u v w : Tree} {path : List Side} (l r : Tree) → subtree_at t path ≡ Some (Node l r) →
      IsWalk fs slack t path u → IsRound fs slack u (path ++ Left ∷ []) v →
      IsRound fs slack v (path ++ Right ∷ []) w → IsRound fs slack t path w

-- what a search comes to: the tree, the sizes at its start and its end, and the number of rounds done
pub record Found : Type 0 where
  pub tree : Tree
  pub before : ℕ
  pub after : ℕ
  pub rounds : ℕ

-- A search of at most so many rounds: it ends with the first round that does not lessen the size, which counts as
-- done (`last_round`). Behind one that lessens it, it goes on from the tree which that one left (`further_round`).
pub data IsSearch (fs : List Expression) (slack : ℕ) : ℕ → Tree → Found → Type 0 where
  no_round : {t : Tree} {n : ℕ} → HasSize fs t n →
      IsSearch fs slack zero t (record { tree = t; before = n; after = n; rounds = zero })
  last_round : {t u : Tree} {rounds n k : ℕ} → HasSize fs t n → IsRound fs slack t [] u → HasSize fs u k → n ≤ k →
      IsSearch fs slack (suc rounds) t (record { tree = u; before = n; after = k; rounds = suc zero })
  further_round : {t u : Tree} {rounds n : ℕ} {found : Found} → HasSize fs t n → IsRound fs slack t [] u →
      found.before < n → IsSearch fs slack rounds u found →
      IsSearch fs slack (suc rounds) t
      (record { tree = found.tree; before = n; after = found.after; rounds = suc found.rounds })

-- ---- broken off

-- A round that was broken off: walks were done up to some point of it, and none is done in part.
pub data IsRoundBegun (fs : List Expression) (slack : ℕ) : Tree → List Side → Tree → Type 0 where
  nothing_done : {t : Tree} {path : List Side} → IsRoundBegun fs slack t path t
  begun_on_left : {t u v : Tree} {path : List Side} (l r : Tree) → subtree_at t path ≡ Some (Node l r) →
      IsWalk fs slack t path u → IsRoundBegun fs slack u (path ++ Left ∷ []) v → IsRoundBegun fs slack t path v
  begun_on_right : {t u v w : Tree} {path : List Side} (l r : Tree) → subtree_at t path ≡ Some (Node l r) →
      IsWalk fs slack t path u → IsRound fs slack u (path ++ Left ∷ []) v →
      IsRoundBegun fs slack v (path ++ Right ∷ []) w → IsRoundBegun fs slack t path w

-- A search that was broken off: rounds that lessened the size were done, and then a part of one.
pub data IsSearchBegun (fs : List Expression) (slack : ℕ) : ℕ → Tree → Tree → Type 0 where
  in_round : {t u : Tree} {rounds : ℕ} → IsRoundBegun fs slack t [] u → IsSearchBegun fs slack (suc rounds) t u
  after_round : {t u v : Tree} {rounds n k : ℕ} → HasSize fs t n → IsRound fs slack t [] u → HasSize fs u k →
      k < n → IsSearchBegun fs slack rounds u v → IsSearchBegun fs slack (suc rounds) t v
