-- Moves of plain vtrees: they keep the variables, and none is made past the last position.
use Rattle.std.proofs.Common.{◌≡◌, ℕ, zero, suc, ◌+◌, ◌*◌, ◌≤◌, false, List, [], ◌∷◌, ◌++◌, length, slice_get}
use Rattle.std.proofs.Common.{Option, Some, None, refl, sym, ap, subst, ◌∙◌, arith, eqb, ltb}
use Rattle.std.proofs.Common.{length-append, append_assoc}
use Rattle.std.specs.Option.{option_map, option_and_then}
use Rattle.std.proofs.lemmas.Bool.{ne_eqb, le-ltb}
use Rattle.sd_model.specs.declared.trees.Side.{Side}
use Rattle.sd_model.specs.declared.trees.Side.TheVariants.{Left, Right}
use Rattle.sd_model.specs.declared.trees.Move.{Move}
use Rattle.sd_model.specs.declared.trees.Move.TheVariants.{RotateLeft, RotateRight, Swap}
use Rattle.sd_model.specs.Tree.{Tree, Leaf, Node, variables, leaves, position, right_base, IsVtree}
use Rattle.sd_model.specs.Moves.{moved, moved_root, moved_at, path_to}
use Rattle.sd_vtree.specs.Numbered.{Numbered, plain_tree, numbers, times}
use Rattle.sd_vtree.proofs.Times.{times_append}
use Rattle.sd_vtree.proofs.Sides.{length_numbers}
use Rattle.sd_vtree.proofs.Pigeons.{times_distinct, distinct_times, times_all, all_times}

-- ---- the variables of a moved tree

-- the tree has the same variables, in another order
pub record IsReordered (t u : Tree) : Type 0 where
  pub often : (k : ℕ) → times k (variables u) ≡ times k (variables t)
  pub count : leaves u ≡ leaves t

-- a tree with the same variables is a vtree where the other is one
pub vtree_reordered : (t u : Tree) → IsReordered t u → IsVtree t → IsVtree u
vtree_reordered t u h v = record {
  in_range = all_times (λ x. (1 ≤ x) × (x ≤ leaves u)) (variables u) range;
  distinct = distinct_times (variables u) distinct;
}
  where
    range : (x : ℕ) → 1 ≤ times x (variables u) → (1 ≤ x) × (x ≤ leaves u)
    range x some =
        let r = times_all (λ y. (1 ≤ y) × (y ≤ leaves t)) (variables t) v.in_range x
        (subst (λ k. 1 ≤ k) (h.often x) some) in
        (r.0, subst (λ k. x ≤ k) (sym h.count) r.1)

    distinct : (x : ℕ) → times x (variables u) ≤ 1
    distinct x = subst (λ k. k ≤ 1) (sym (h.often x)) (times_distinct (variables t) v.distinct x)

-- one side is reordered
left_reordered : (l r m : Tree) → IsReordered l m → IsReordered (Node l r) (Node m r)
left_reordered l r m h = record {
  often = λ k.
      times_append k (variables m) (variables r) ∙ ap (λ n. n + times k (variables r)) (h.often k)
      ∙ sym (times_append k (variables l) (variables r));
  count = length-append (variables m) (variables r) ∙ ap (λ n. n + leaves r) h.count
      ∙ sym (length-append (variables l) (variables r));
}

right_reordered : (l r m : Tree) → IsReordered r m → IsReordered (Node l r) (Node l m)
right_reordered l r m h = record {
  often = λ k.
      times_append k (variables l) (variables m) ∙ ap (λ n. times k (variables l) + n) (h.often k)
      ∙ sym (times_append k (variables l) (variables r));
  count = length-append (variables l) (variables m) ∙ ap (λ n. leaves l + n) h.count
      ∙ sym (length-append (variables l) (variables r));
}

-- so are the two sides that were exchanged
sides_reordered : (l r : Tree) → IsReordered (Node l r) (Node r l)
sides_reordered l r = record {
  often = λ k.
      omega (arith, times_append k (variables l) (variables r), times_append k (variables r) (variables l));
  count = omega (arith, length-append (variables l) (variables r), length-append (variables r) (variables l));
}

-- and three parts in other brackets
brackets_reordered : (a b c : Tree) → IsReordered (Node (Node a b) c) (Node a (Node b c))
brackets_reordered a b c = record {
  often = λ k. ap (times k) (sym (append_assoc (variables a) (variables b) (variables c)));
  count = ap length (sym (append_assoc (variables a) (variables b) (variables c)));
}

-- the other way round
reordered_back : (t u : Tree) → IsReordered t u → IsReordered u t
reordered_back t u h = record { often = λ k. sym (h.often k); count = sym h.count }

-- a move of the root
root_reordered : (kind : Move) (t u : Tree) → moved_root kind t ≡ Some u → IsReordered t u
root_reordered Swap (Leaf x) u is = absurd cc
root_reordered Swap (Node l r) u is =
    let same : Node r l ≡ u = cc in subst (IsReordered (Node l r)) same (sides_reordered l r)
root_reordered RotateRight (Leaf x) u is = absurd cc
root_reordered RotateRight (Node (Leaf x) c) u is = absurd cc
root_reordered RotateRight (Node (Node a b) c) u is =
    let same : Node a (Node b c) ≡ u = cc in
    subst (IsReordered (Node (Node a b) c)) same (brackets_reordered a b c)
root_reordered RotateLeft (Leaf x) u is = absurd cc
root_reordered RotateLeft (Node a (Leaf x)) u is = absurd cc
root_reordered RotateLeft (Node a (Node b c)) u is =
    let same : Node (Node a b) c ≡ u = cc in
    subst (IsReordered (Node a (Node b c))) same
    (reordered_back (Node (Node a b) c) (Node a (Node b c)) (brackets_reordered a b c))

-- a move at the end of a path
path_reordered : (kind : Move) (t u : Tree) (path : List Side) → moved kind t path ≡ Some u → IsReordered t u
path_reordered kind t u [] is = root_reordered kind t u is
path_reordered kind (Leaf x) u (side ∷ path) is = absurd cc
path_reordered kind (Node l r) u (Left ∷ path) is =
    go (λ m at. path_reordered kind l m path at) (moved kind l path) refl is
  where
    go : ((m : Tree) → moved kind l path ≡ Some m → IsReordered l m) → (o : Option Tree) → moved kind l path ≡ o
        → option_map (λ m. Node m r) o ≡ Some u → IsReordered (Node l r) u
    go below None at e = absurd cc
    go below (Some m) at e =
        let same : Node m r ≡ u = cc in
        subst (IsReordered (Node l r)) same (left_reordered l r m (below m at))
path_reordered kind (Node l r) u (Right ∷ path) is =
    go (λ m at. path_reordered kind r m path at) (moved kind r path) refl is
  where
    go : ((m : Tree) → moved kind r path ≡ Some m → IsReordered r m) → (o : Option Tree) → moved kind r path ≡ o
        → option_map (λ m. Node l m) o ≡ Some u → IsReordered (Node l r) u
    go below None at e = absurd cc
    go below (Some m) at e =
        let same : Node l m ≡ u = cc in
        subst (IsReordered (Node l r)) same (right_reordered l r m (below m at))

-- a move at a position
pub move_reordered : (kind : Move) (t u : Tree) (p : ℕ) → moved_at kind t p ≡ Some u → IsReordered t u
move_reordered kind t u p is = go (path_to t 0 p) is
  where
    go : (o : Option (List Side)) → option_and_then (λ path. moved kind t path) o ≡ Some u → IsReordered t u
    go None e = absurd cc
    go (Some path) e = path_reordered kind t u path e

-- ---- positions past the last

-- a tree has a leaf
some_leaves : (t : Tree) → 1 ≤ leaves t
some_leaves (Leaf x) = omega arith
some_leaves (Node l r) = omega (arith, length-append (variables l) (variables r), some_leaves l)

-- no path leads to them
no_path : (t : Tree) (base p : ℕ) → base + 2 * leaves t ≤ p + 1 → path_to t base p ≡ None
no_path (Leaf x) base p past = rw (ne_eqb p base (λ same. omega (arith, past, same))) refl
no_path (Node l r) base p past =
    let size = length-append (variables l) (variables r) in
    let some = some_leaves r in
    let differ : eqb p (position (Node l r) base) ≡ false =
    ne_eqb p (position (Node l r) base) (λ same. omega (arith, past, same, size, some)) in
    let above : ltb p (position (Node l r) base) ≡ false =
    le-ltb p (position (Node l r) base) (omega (arith, past, size, some)) in
    rw (differ, above, no_path r (right_base l base) p (omega (arith, past, size))) refl

-- so no move is made there
not_moved_past : (kind : Move) (t : Tree) (p : ℕ) → 2 * leaves t ≤ p + 1 → moved_at kind t p ≡ None
not_moved_past kind t p past =
    ap (option_and_then (λ path. moved kind t path)) (no_path t 0 p (omega (arith, past)))

-- a number that is not there stands past the last one
past_last : (xs : List ℕ) (p : ℕ) → slice_get xs p ≡ None → length xs ≤ p
past_last [] p e = omega arith
past_last (x ∷ xs) zero e = absurd cc
past_last (x ∷ xs) (suc p) e = omega (arith, past_last xs p e)

-- where no node has the position
pub not_moved_out : (kind : Move) (t : Numbered) (p : ℕ) → slice_get (numbers t) p ≡ None
    → moved_at kind (plain_tree t) p ≡ None
not_moved_out kind t p e =
    not_moved_past kind (plain_tree t) p (omega (arith, length_numbers t, past_last (numbers t) p e))
