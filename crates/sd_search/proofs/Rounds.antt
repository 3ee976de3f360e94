-- A round, by the walk and the two rounds of which it is made.
use Rattle.std.proofs.Common.{◌≡◌, ℕ, ◌≤◌, ◌<◌, List, [], ◌∷◌, ◌++◌, length, Option, Some, None, refl, sym, ap}
use Rattle.std.proofs.Common.{subst}
use Rattle.std.proofs.Common.{◌∙◌, arith, option_and_then, length-append, IfSome}
use Rattle.std.specs.Option.{IsSome}
use Rattle.sd_model.specs.declared.trees.Side.{Side}
use Rattle.sd_model.specs.declared.trees.Side.TheVariants.{Left, Right}
use Rattle.sd_model.specs.Expression.{Expression}
use Rattle.sd_model.specs.Tree.{Tree}
use Rattle.sd_vtree.specs.Numbered.{Numbered, NumberedLeaf, NumberedNode, numbers, plain_tree, subtree}
use Rattle.sd_vtree.specs.Numbered.{children_at, child_numbers, IsNumbered}
use Rattle.sd_vtree.proofs.Subtrees.{once_numbered, subtree_some, size_at, count_of, inner_part}
use Rattle.sd_manager.specs.Table.{Table}
use Rattle.sd_manager.specs.Valid.{IsTable}
use Rattle.sd_sweep.specs.Reached.{KeepsReached}
use Rattle.sd_compile.specs.Total.{AreHeldFormulas}
use Rattle.sd_search.specs.Search.{IsWalk, IsRound, round_at_leaf, round_at_node}
use Rattle.sd_search.specs.Search.{IsRoundBegun, nothing_done, begun_on_left, begun_on_right}
use Rattle.sd_search.specs.Kept.{KeepsRoots}
use Rattle.sd_search.specs.Paths.{IsAtPath, KeepsAlong}
use Rattle.sd_search.proofs.AlongPaths.{part_some, subtree_path, path_there, InnerAt, inner_at, leaf_at, along_at}
use Rattle.sd_search.proofs.AlongPaths.{along_both, along_part, along_up}
use Rattle.sd_search.proofs.KeptRoots.{shows_kept, formulas_on}

-- ---- the node of a round

-- a path leads to a node that is there
pub has_path : (t : Numbered) (n : ℕ) → IsNumbered t → n < length (numbers t) → (path : List Side) × IsAtPath t path n
has_path t n num less =
    let s = subtree_some t n (omega (arith, num.once n less)) in path_there t n s.0 s.1

-- a vtree has a node
some_number : (t : Numbered) → 1 ≤ length (numbers t)
some_number (NumberedLeaf m x) = omega arith
some_number (NumberedNode m l r) = omega (arith, some_number l, length-append (numbers l) (m ∷ numbers r))

-- an inner node stays one where it has as many nodes below it
pub inner_still : (t u : Numbered) (path : List Side) (n : ℕ) → IsNumbered t → IsNumbered u → IsAtPath t path n
    → KeepsAlong t u path → IsSome (children_at t n) → IsSome (children_at u n)
inner_still t u path n a b e k some =
    let s = part_some t path n e in
    let v = along_part t u path s.0 k s.1 in
    let is : subtree u n ≡ Some v.0 = subtree_path u path n (once_numbered u b) (along_at t u path n k e) ∙ v.1 in
    subst (λ o. IsSome (option_and_then child_numbers o)) (sym is)
    (go s.0 v.0 v.2 (subst (λ o. IsSome (option_and_then child_numbers o))
    (subtree_path t path n (once_numbered t a) e ∙ s.1) some))
  where
    go : (s v : Numbered) → length (numbers v) ≡ length (numbers s) → IsSome (child_numbers s) → IsSome
        (child_numbers v)
    go (NumberedLeaf m x) v h i = absurd cc
    go (NumberedNode m l r) (NumberedNode k a b) h i = refl
    go (NumberedNode m l r) (NumberedLeaf k x) h i =
        absurd (omega (arith, h, some_number l, some_number r, length-append (numbers l) (m ∷ numbers r)))

-- and the round descends
pub size_along : (t u : Numbered) (path : List Side) (n : ℕ) → IsNumbered t → IsNumbered u → IsAtPath t path n
    → KeepsAlong t u path → size_at u n ≡ size_at t n
size_along t u path n a b e k =
    let s = part_some t path n e in
    let v = along_part t u path s.0 k s.1 in
    ap count_of (subtree_path u path n (once_numbered u b) (along_at t u path n k e) ∙ v.1) ∙ v.2
    ∙ sym (ap count_of (subtree_path t path n (once_numbered t a) e ∙ s.1))

pub left_less : (t u : Numbered) (path : List Side) (n x y : ℕ) → IsNumbered t → IsNumbered u → IsAtPath t path n
    → KeepsAlong t u path → Some (x, y) ≡ children_at u n → size_at u x < size_at t n
left_less t u path n x y a b e k is =
    subst (λ s. size_at u x < s) (size_along t u path n a b e k) (inner_part u b n x y is).left_smaller

pub right_less : (t u : Numbered) (path : List Side) (n x y : ℕ) → IsNumbered t → IsNumbered u → IsAtPath t path n
    → KeepsAlong t u path → Some (x, y) ≡ children_at u n → size_at u y < size_at t n
right_less t u path n x y a b e k is =
    subst (λ s. size_at u y < s) (size_along t u path n a b e k) (inner_part u b n x y is).right_smaller

-- ---- rounds

-- at a leaf nothing is done
pub round_leaf : (fs : List Expression) (slack : ℕ) (t : Numbered) (path : List Side) (n : ℕ) → IsNumbered t
    → IsAtPath t path n → None ≡ children_at t n → IsRound fs slack (plain_tree t) path (plain_tree t)
round_leaf fs slack t path n a e is =
    let x = leaf_at t path n (once_numbered t a) e is in round_at_leaf x.0 x.1

-- what a walk leads to, and what follows
module _ (fs : List Expression) (slack : ℕ) (a b : Table) (path : List Side) (n x y : ℕ) (t : IsTable a) (u : IsTable b)
    (e : IsAtPath a.vtree path n) (inner : Some (x, y) ≡ children_at a.vtree n) (k : KeepsRoots a b)
    (along : KeepsAlong a.vtree b.vtree path) (are : AreHeldFormulas a fs)
    (walk : IsWalk fs slack (plain_tree a.vtree) path (plain_tree b.vtree)) where
  first : InnerAt a.vtree path x y
  first = inner_at a.vtree path n x y (once_numbered a.vtree t.numbered) e inner

  -- the formulas and the left child after the walk
  pub are_then : AreHeldFormulas b fs
  are_then = formulas_on a b fs t u (shows_kept a b k) are

  pub left_then : (l r : ℕ) → Some (l, r) ≡ children_at b.vtree n → IsAtPath b.vtree (path ++ Left ∷ []) l
  left_then l r is =
      (inner_at b.vtree path n l r (once_numbered b.vtree u.numbered)
      (along_at a.vtree b.vtree path n along e) is).left_at

  pub begun_left : (w : Tree) → IsRoundBegun fs slack (plain_tree b.vtree) (path ++ Left ∷ []) w
      → IsRoundBegun fs slack (plain_tree a.vtree) path w
  begun_left w h = begun_on_left (plain_tree first.left) (plain_tree first.right) first.plain walk h

  -- and after the round at the left child
  module _ (c : Table) (v : IsTable c) (k' : KeepsRoots b c) (along' : KeepsAlong b.vtree c.vtree (path ++ Left ∷ []))
    where
      pub are_last : AreHeldFormulas c fs
      are_last = formulas_on b c fs u v (shows_kept b c k') are_then

      pub along_last : KeepsAlong a.vtree c.vtree path
      along_last = along_both a.vtree b.vtree c.vtree path along (along_up b.vtree c.vtree path Left along')

      pub right_then : (l r : ℕ) → Some (l, r) ≡ children_at c.vtree n → IsAtPath c.vtree (path ++ Right ∷ []) r
      right_then l r is =
          (inner_at c.vtree path n l r (once_numbered c.vtree v.numbered)
          (along_at a.vtree c.vtree path n along_last e) is).right_at

      pub round_whole : (w : Tree) → IsRound fs slack (plain_tree b.vtree) (path ++ Left ∷ []) (plain_tree c.vtree)
          → IsRound fs slack (plain_tree c.vtree) (path ++ Right ∷ []) w → IsRound fs slack (plain_tree a.vtree) path w
      round_whole w h i = round_at_node (plain_tree first.left) (plain_tree first.right) first.plain walk h i

      pub begun_right : (w : Tree) → IsRound fs slack (plain_tree b.vtree) (path ++ Left ∷ []) (plain_tree c.vtree)
          → IsRoundBegun fs slack (plain_tree c.vtree) (path ++ Right ∷ []) w
          → IsRoundBegun fs slack (plain_tree a.vtree) path w
      begun_right w h i = begun_on_right (plain_tree first.left) (plain_tree first.right) first.plain walk h i

-- a walk that was broken off leaves the vtree
pub begun_none : (fs : List Expression) (slack : ℕ) (a b : Table) (path : List Side) → KeepsReached a b
    → IsRoundBegun fs slack (plain_tree a.vtree) path (plain_tree b.vtree)
begun_none fs slack a b path k =
    subst (λ (u : Numbered). IsRoundBegun fs slack (plain_tree a.vtree) path (plain_tree u)) (sym k.vtree) nothing_done

-- ---- the children that are read

-- of the vtree that is lent
pub kids : (lent t : Numbered) (o : Option (ℕ × ℕ)) (p : ℕ × ℕ) (place : ℕ) → o ≡ Some p → o ≡ children_at lent place
    → lent ≡ t → Some (p.0, p.1) ≡ children_at t place
kids lent t o p place is read same = sym is ∙ read ∙ ap (λ u. children_at u place) same

pub kids_within : (lent t : Numbered) (o : Option (ℕ × ℕ)) (p : ℕ × ℕ) → o ≡ Some p → lent ≡ t
    → IfSome o (λ c. (c.0 < length (numbers lent)) × (c.1 < length (numbers lent)))
    → (p.0 < length (numbers t)) × (p.1 < length (numbers t))
kids_within lent t o p is same h =
    subst (λ u. (p.0 < length (numbers u)) × (p.1 < length (numbers u))) same
    (subst (λ z. IfSome z (λ c. (c.0 < length (numbers lent)) × (c.1 < length (numbers lent)))) is h)

-- an inner node of the vtree that is lent
pub some_kids : (lent t u : Numbered) (o : Option (ℕ × ℕ)) (p : ℕ × ℕ) (path : List Side) (place : ℕ) → IsNumbered t
    → IsNumbered u → IsAtPath t path place → KeepsAlong t u path → Some p ≡ children_at t place
    → o ≡ children_at lent place → lent ≡ u → IsSome o
some_kids lent t u o p path place a b at along inner read same =
    subst (λ z. IsSome z) (sym (read ∙ ap (λ v. children_at v place) same))
    (inner_still t u path place a b at along (subst (λ z. IsSome z) inner refl))

-- the paths to them
pub kid_paths : (t : Numbered) (path : List Side) (place l r : ℕ) → IsNumbered t → IsAtPath t path place
    → Some (l, r) ≡ children_at t place → IsAtPath t (path ++ Left ∷ []) l × IsAtPath t (path ++ Right ∷ []) r
kid_paths t path place l r num at is =
    let k = inner_at t path place l r (once_numbered t num) at is in (k.left_at, k.right_at)
