-- Walks in a row that keep their start: once there are as many as internal nodes, each walk does.
use Rattle.std.proofs.Common.{◌≡◌, ℕ, suc, ◌+◌, ◌≤◌, List, [], ◌∷◌, ◌++◌, Some, refl, ap, subst}
use Rattle.std.proofs.Common.{arith, inl, inr, length-append}
use Rattle.std.proofs.lemmas.Bool.{cases_lt}
use Rattle.std.proofs.lemmas.Option.{same_Some, none-some}
use Rattle.sd_model.specs.Expression.{Expression}
use Rattle.sd_model.specs.Tree.{Tree, Leaf, Node, leaves, variables}
use Rattle.sd_model.specs.declared.trees.Side.{Side}
use Rattle.sd_model.specs.declared.trees.Side.TheVariants.{Left, Right}
use Rattle.sd_search.specs.Search.{subtree_at, IsWalk, IsRound, round_at_leaf, round_at_node}
use Rattle.sd_search.specs.WalksInARow.{nodes_before, nodes_through, EachKeeps, KeepLast}

-- ---- the order of a round

pub some_leaf : (t : Tree) → 1 ≤ leaves t
some_leaf (Leaf x) = omega arith
some_leaf (Node l r) = omega (arith, some_leaf l, length-append (variables l) (variables r))

two_leaves : (l r : Tree) → 2 ≤ leaves (Node l r)
two_leaves l r = omega (arith, some_leaf l, some_leaf r, length-append (variables l) (variables r))

-- the subtrees of the children
children_below : (t : Tree) (path : List Side) (l r : Tree) → subtree_at t path ≡ Some (Node l r)
    → (subtree_at t (path ++ Left ∷ []) ≡ Some l) × (subtree_at t (path ++ Right ∷ []) ≡ Some r)
children_below t [] l r e =
    let same : t ≡ Node l r = same_Some t (Node l r) e in
    (ap (λ s. subtree_at s (Left ∷ [])) same, ap (λ s. subtree_at s (Right ∷ [])) same)
children_below (Leaf x) (side ∷ path) l r e = absurd (none-some (Node l r) e)
children_below (Node a b) (Left ∷ path) l r e = children_below a path l r e
children_below (Node a b) (Right ∷ path) l r e = children_below b path l r e

-- a node's left child is the next one
pub before_left : (t : Tree) (path : List Side) (l r : Tree) → subtree_at t path ≡ Some (Node l r)
    → nodes_before t (path ++ Left ∷ []) ≡ suc (nodes_before t path)
before_left t [] l r e = ap (λ s. nodes_before s (Left ∷ [])) (same_Some t (Node l r) e)
before_left (Leaf x) (side ∷ path) l r e = absurd (none-some (Node l r) e)
before_left (Node a b) (Left ∷ path) l r e = omega (arith, before_left a path l r e)
before_left (Node a b) (Right ∷ path) l r e = omega (arith, before_left b path l r e)

-- the right child is next where the left one is done
pub before_right : (t : Tree) (path : List Side)
    → nodes_before t (path ++ Right ∷ []) ≡ nodes_through t (path ++ Left ∷ [])
before_right (Leaf x) [] = refl
before_right (Node l r) [] = omega (arith, some_leaf l)
before_right (Leaf x) (side ∷ path) = refl
before_right (Node l r) (Left ∷ path) = omega (arith, before_right l path)
before_right (Node l r) (Right ∷ path) = omega (arith, before_right r path)

-- a node is done where its right child is
pub through_right : (t : Tree) (path : List Side) → nodes_through t (path ++ Right ∷ []) ≡ nodes_through t path
through_right (Leaf x) [] = omega arith
through_right (Node l r) [] = omega (arith, some_leaf l, some_leaf r, length-append (variables l) (variables r))
through_right (Leaf x) (side ∷ path) = refl
through_right (Node l r) (Left ∷ path) = omega (arith, through_right l path)
through_right (Node l r) (Right ∷ path) = omega (arith, through_right r path)

-- at a leaf nothing is done
pub through_leaf : (t : Tree) (path : List Side) (x : ℕ) → subtree_at t path ≡ Some (Leaf x)
    → nodes_through t path ≡ nodes_before t path
through_leaf t [] x e = ap (λ s. nodes_through s []) (same_Some t (Leaf x) e)
through_leaf (Leaf y) (side ∷ path) x e = absurd (none-some (Leaf x) e)
through_leaf (Node l r) (Left ∷ path) x e = omega (arith, through_leaf l path x e)
through_leaf (Node l r) (Right ∷ path) x e = omega (arith, through_leaf r path x e)

-- the subtree at the end of a path has room behind the nodes before it
pub room_behind : (t : Tree) (path : List Side) (s : Tree) → subtree_at t path ≡ Some s
    → nodes_before t path + leaves s ≤ leaves t
room_behind t [] s e = omega (arith, ap leaves (same_Some t s e))
room_behind (Leaf x) (side ∷ path) s e = absurd (none-some s e)
room_behind (Node l r) (Left ∷ path) s e =
    omega (arith, room_behind l path s e, some_leaf r, length-append (variables l) (variables r))
room_behind (Node l r) (Right ∷ path) s e =
    omega (arith, room_behind r path s e, length-append (variables l) (variables r))

-- one internal node has so many before it
one_inner : (t : Tree) (p q : List Side) (l r k s : Tree) → subtree_at t p ≡ Some (Node l r)
    → subtree_at t q ≡ Some (Node k s) → nodes_before t p ≡ nodes_before t q → p ≡ q
one_inner t [] [] l r k s d e same = refl
one_inner (Leaf x) [] (side ∷ q) l r k s d e same = absurd (none-some (Node k s) e)
one_inner (Leaf x) (side ∷ p) q l r k s d e same = absurd (none-some (Node l r) d)
one_inner (Node a b) [] (Left ∷ q) l r k s d e same = absurd (omega (arith, same))
one_inner (Node a b) [] (Right ∷ q) l r k s d e same = absurd (omega (arith, same, some_leaf a))
one_inner (Node a b) (Left ∷ p) [] l r k s d e same = absurd (omega (arith, same))
one_inner (Node a b) (Right ∷ p) [] l r k s d e same = absurd (omega (arith, same, some_leaf a))
one_inner (Node a b) (Left ∷ p) (Left ∷ q) l r k s d e same =
    ap (λ w. Left ∷ w) (one_inner a p q l r k s d e (omega (arith, same)))
one_inner (Node a b) (Right ∷ p) (Right ∷ q) l r k s d e same =
    ap (λ w. Right ∷ w) (one_inner b p q l r k s d e (omega (arith, same)))
one_inner (Node a b) (Left ∷ p) (Right ∷ q) l r k s d e same =
    absurd (omega (arith, same, room_behind a p (Node l r) d, two_leaves l r))
one_inner (Node a b) (Right ∷ p) (Left ∷ q) l r k s d e same =
    absurd (omega (arith, same, room_behind a q (Node k s) e, two_leaves k s))

-- ---- the last walks

module _ (fs : List Expression) (slack : ℕ) (t : Tree) where
  -- of none nothing is said
  pub keep_none : (done : ℕ) → KeepLast fs slack t done 0
  keep_none done = record {
    this_round = λ path l r e less more. absurd (omega (arith, less, more));
    round_before = λ path l r e more.
        absurd (omega (arith, more, room_behind t path (Node l r) e, two_leaves l r));
  }

  -- of all each is true
  pub keep_each : (done walks : ℕ) → EachKeeps fs slack t → KeepLast fs slack t done walks
  keep_each done walks each = record {
    this_round = λ path l r e less more. each path l r e;
    round_before = λ path l r e more. each path l r e;
  }

  -- one more walk keeps its start
  pub keep_more : (path : List Side) (l r : Tree) (walks : ℕ) → subtree_at t path ≡ Some (Node l r)
      → IsWalk fs slack t path t → KeepLast fs slack t (nodes_before t path) walks
      → KeepLast fs slack t (suc (nodes_before t path)) (suc walks)
  keep_more path l r walks at walk h = record {
    this_round = λ p a b e less more. elim (cases_lt (nodes_before t p) (nodes_before t path)) [
      | inl before ↦ h.this_round p a b e before (omega (arith, more))
      | inr behind ↦
          subst (λ q. IsWalk fs slack t q t)
          (one_inner t path p l r a b at e (omega (arith, less, behind))) walk
    ];
    round_before = λ p a b e more. h.round_before p a b e (omega (arith, more));
  }

  -- as many as there are internal nodes
  pub keep_all : (done walks : ℕ) → done ≤ walks → leaves t ≤ suc walks → KeepLast fs slack t done walks
      → EachKeeps fs slack t
  keep_all done walks less all h path l r e = elim (cases_lt (nodes_before t path) done) [
    | inl before ↦ h.this_round path l r e before (omega (arith, less))
    | inr behind ↦ h.round_before path l r e (omega (arith, behind, all))
  ]

  -- a round's end is the next one's begin
  pub keep_next : (walks : ℕ) → KeepLast fs slack t (nodes_through t []) walks → KeepLast fs slack t 0 walks
  keep_next walks h = record {
    this_round = λ path l r e less more. absurd (omega (arith, less));
    round_before = λ path l r e more.
        h.this_round path l r e (omega (arith, room_behind t path (Node l r) e, two_leaves l r))
        (omega (arith, more, some_leaf t));
  }

  -- so a round leaves the tree
  pub round_kept : (here : Tree) (path : List Side) → EachKeeps fs slack t → subtree_at t path ≡ Some here
      → IsRound fs slack t path t
  round_kept (Leaf x) path each e = round_at_leaf x e
  round_kept (Node l r) path each e =
      let below = children_below t path l r e in
      round_at_node l r e (each path l r e) (round_kept l (path ++ Left ∷ []) each below.0)
      (round_kept r (path ++ Right ∷ []) each below.1)
