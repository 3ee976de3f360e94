-- Walks in a row that keep their start, for the contracts of private functions.
use Rattle.std.specs.Prelude.{◌≡◌, ℕ, suc, ◌+◌, ◌-◌, ◌<◌, ◌≤◌, List, [], ◌∷◌, Some}
use Rattle.sd_model.specs.Expression.{Expression}
use Rattle.sd_model.specs.Tree.{Tree, Leaf, Node, leaves}
use Rattle.sd_model.specs.declared.trees.Side.{Side}
use Rattle.sd_model.specs.declared.trees.Side.TheVariants.{Left, Right}
use Rattle.sd_vtree.specs.Numbered.{plain_tree}
use Rattle.sd_manager.specs.Table.{Table}
use Rattle.sd_compile.specs.Total.{AreHeldFormulas}
use Rattle.sd_search.specs.Search.{subtree_at, IsWalk}
use Rattle.sd_search.specs.Paths.{IsAtPath}

-- How many internal nodes a round has done when it comes to the end of a path: it does a node before those below it,
-- and those on its left before those on its right.
abbrev pub nodes_before : Tree → List Side → ℕ
nodes_before t [] = 0
nodes_before (Leaf x) (side ∷ path) = 0
nodes_before (Node l r) (Left ∷ path) = 1 + nodes_before l path
nodes_before (Node l r) (Right ∷ path) = leaves l + nodes_before r path

-- and how many when it has done the node there and all below it
abbrev pub nodes_through : Tree → List Side → ℕ
nodes_through t [] = leaves t - 1
nodes_through (Leaf x) (side ∷ path) = 0
nodes_through (Node l r) (Left ∷ path) = 1 + nodes_through l path
nodes_through (Node l r) (Right ∷ path) = leaves l + nodes_through r path

-- a walk at each internal node keeps its start
abbrev pub EachKeeps : List Expression → ℕ → Tree → Type 0
EachKeeps fs slack t =
    (path : List Side) (l r : Tree) → subtree_at t path ≡ Some (Node l r) → IsWalk fs slack t path t

-- Where so many internal nodes of a round are done, the last so many walks keep their start: walks of this round, and
-- where it had no more, the last ones of the round before.
pub record KeepLast (fs : List Expression) (slack : ℕ) (t : Tree) (done walks : ℕ) : Type 0 where
  pub this_round : (path : List Side) (l r : Tree) → subtree_at t path ≡ Some (Node l r)
      → nodes_before t path < done → done ≤ nodes_before t path + walks → IsWalk fs slack t path t
  pub round_before : (path : List Side) (l r : Tree) → subtree_at t path ≡ Some (Node l r)
      → done + leaves t ≤ suc (nodes_before t path + walks) → IsWalk fs slack t path t

-- so it is where a round comes to a node
abbrev pub KeepBefore : Table → ℕ → ℕ → ℕ → Type 0
KeepBefore t slack place walks =
    (fs : List Expression) (path : List Side) → AreHeldFormulas t fs → IsAtPath t.vtree path place
    → KeepLast fs slack (plain_tree t.vtree) (nodes_before (plain_tree t.vtree) path) walks

-- so it is where a round has done a node and all below it
abbrev pub KeepThrough : Table → ℕ → ℕ → ℕ → Type 0
KeepThrough t slack place walks =
    (fs : List Expression) (path : List Side) → AreHeldFormulas t fs → IsAtPath t.vtree path place
    → KeepLast fs slack (plain_tree t.vtree) (nodes_through (plain_tree t.vtree) path) walks
