-- A move keeps the leaves: each variable stands as often in the tree as before.
use Rattle.std.proofs.Common.{◌≡◌, ℕ, ◌≤◌, List, [], ◌∷◌, ◌++◌, refl, sym, subst}
use native.Mathlib.Omega.{arith}
use Rattle.std.specs.declared.option.Option.{Option}
use Rattle.std.specs.declared.option.Option.TheVariants.{None, Some}
use Rattle.std.specs.Option.{option_map}
use Rattle.std.proofs.lemmas.List.{length-append}
use Rattle.sd_model.specs.declared.trees.Side.{Side}
use Rattle.sd_model.specs.declared.trees.Side.TheVariants.{Left, Right}
use Rattle.sd_model.specs.declared.trees.Move.{Move}
use Rattle.sd_model.specs.declared.trees.Move.TheVariants.{RotateLeft, RotateRight, Swap}
use Rattle.sd_model.specs.Tree.{Tree, Leaf, Node, variables, leaves, IsVtree}
use Rattle.sd_model.specs.Moves.{moved_root, moved}
use Rattle.sd_vtree.specs.Numbered.{times}
use Rattle.sd_vtree.proofs.Times.{times_append}
use Rattle.sd_vtree.proofs.Pigeons.{times_distinct, distinct_times, times_all, all_times}

-- two trees have the same leaves, in whatever order
pub record HaveSameLeaves (t u : Tree) : Type 0 where
  pub count : leaves u ≡ leaves t
  pub times : (x : ℕ) → times x (variables u) ≡ times x (variables t)

same_leaves : (t : Tree) → HaveSameLeaves t t
same_leaves t = record { count = refl; times = λ x. refl }

-- ((a b) c) and (a (b c))
turned : (a b c : Tree) → HaveSameLeaves (Node (Node a b) c) (Node a (Node b c))
turned a b c = record {
  count = omega (
    arith,
    length-append (variables a) (variables b ++ variables c),
    length-append (variables b) (variables c),
    length-append (variables a ++ variables b) (variables c),
    length-append (variables a) (variables b),
  );
  times = λ x. omega (
    arith,
    times_append x (variables a) (variables b ++ variables c),
    times_append x (variables b) (variables c),
    times_append x (variables a ++ variables b) (variables c),
    times_append x (variables a) (variables b),
  );
}

turned_back : (a b c : Tree) → HaveSameLeaves (Node a (Node b c)) (Node (Node a b) c)
turned_back a b c =
    let h = turned a b c in record { count = sym h.count; times = λ x. sym (h.times x) }

exchanged : (a b : Tree) → HaveSameLeaves (Node a b) (Node b a)
exchanged a b = record {
  count = omega (arith, length-append (variables a) (variables b), length-append (variables b) (variables a));
  times = λ x. omega (arith, times_append x (variables a) (variables b), times_append x (variables b) (variables a));
}

-- a move at the root
root_leaves : (kind : Move) (t u : Tree) → moved_root kind t ≡ Some u → HaveSameLeaves t u
root_leaves RotateRight (Node (Node a b) c) u e =
    let f : Node a (Node b c) ≡ u = cc in subst (HaveSameLeaves (Node (Node a b) c)) f (turned a b c)
root_leaves RotateRight (Node (Leaf x) c) u e = cc
root_leaves RotateRight (Leaf x) u e = cc
root_leaves RotateLeft (Node a (Node b c)) u e =
    let f : Node (Node a b) c ≡ u = cc in subst (HaveSameLeaves (Node a (Node b c))) f (turned_back a b c)
root_leaves RotateLeft (Node a (Leaf x)) u e = cc
root_leaves RotateLeft (Leaf x) u e = cc
root_leaves Swap (Node a b) u e =
    let f : Node b a ≡ u = cc in subst (HaveSameLeaves (Node a b)) f (exchanged a b)
root_leaves Swap (Leaf x) u e = cc

-- below a node
in_left : (l m r : Tree) → HaveSameLeaves l m → HaveSameLeaves (Node l r) (Node m r)
in_left l m r h = record {
  count = omega (arith, h.count, length-append (variables l) (variables r), length-append (variables m) (variables r));
  times = λ x. omega (
    arith,
    h.times x,
    times_append x (variables l) (variables r),
    times_append x (variables m) (variables r),
  );
}

in_right : (l r m : Tree) → HaveSameLeaves r m → HaveSameLeaves (Node l r) (Node l m)
in_right l r m h = record {
  count = omega (arith, h.count, length-append (variables l) (variables r), length-append (variables l) (variables m));
  times = λ x. omega (
    arith,
    h.times x,
    times_append x (variables l) (variables r),
    times_append x (variables l) (variables m),
  );
}

-- what a mapped option was made of
pub mapped : {A : Type 0} (f : A → A) (o : Option A) (u : A) → option_map f o ≡ Some u
    → (v : A) × (o ≡ Some v) × (f v ≡ u)
mapped f None u e = cc
mapped f (Some v) u e = (v, refl, cc)

-- a move at the end of a path
pub moved_leaves : (kind : Move) (t : Tree) (path : List Side) (u : Tree) → moved kind t path ≡ Some u →
    HaveSameLeaves t u
moved_leaves kind t [] u e = root_leaves kind t u e
moved_leaves kind (Leaf x) (side ∷ path) u e = cc
moved_leaves kind (Node l r) (Left ∷ path) u e =
    let m = mapped (λ v. Node v r) (moved kind l path) u e in
    subst (HaveSameLeaves (Node l r)) m.2 (in_left l m.0 r (moved_leaves kind l path m.0 m.1))
moved_leaves kind (Node l r) (Right ∷ path) u e =
    let m = mapped (λ v. Node l v) (moved kind r path) u e in
    subst (HaveSameLeaves (Node l r)) m.2 (in_right l r m.0 (moved_leaves kind r path m.0 m.1))

-- a tree with the leaves of a vtree is a vtree
pub same_vtree : (t u : Tree) → HaveSameLeaves t u → IsVtree t → IsVtree u
same_vtree t u h v = record {
  in_range = all_times (λ x. (1 ≤ x) × (x ≤ leaves u)) (variables u) (λ x k.
      let r = times_all (λ y. (1 ≤ y) × (y ≤ leaves t)) (variables t) v.in_range x (omega (arith, k, h.times x)) in
      (r.0, omega (arith, r.1, h.count)));
  distinct = distinct_times (variables u) (λ x.
      omega (arith, times_distinct (variables t) v.distinct x, h.times x));
}

-- a moved vtree is one
pub moved_vtree : (kind : Move) (t : Tree) (path : List Side) (u : Tree) → moved kind t path ≡ Some u → IsVtree t →
    IsVtree u
moved_vtree kind t path u e v = same_vtree t u (moved_leaves kind t path u e) v
