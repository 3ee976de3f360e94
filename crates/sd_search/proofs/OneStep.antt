-- One step of a walk: from a move of a numbered node to the move at the end of a path.
use Rattle.std.proofs.Common.{◌≡◌, ℕ, ◌≤◌, ◌<◌, List, [], ◌∷◌, ◌++◌, Option, Some, None, refl, sym, ap, subst, ◌∙◌}
use Rattle.std.proofs.Common.{option_map, option_and_then, length, arith, true, false, IfOk, IfErr}
use Rattle.std.specs.declared.result.Result.{Result}
use Rattle.std.specs.declared.result.Result.TheVariants.{Ok, Err}
use Rattle.std.specs.Option.{is_some}
use Rattle.std.proofs.lemmas.Result.{IfOk-weaker, IfErr-weaker}
use Rattle.std.proofs.lemmas.List.{append-nil}
use Rattle.std.proofs.lemmas.Option.{same_Some, none-some}
use Rattle.sd_model.specs.declared.trees.Side.{Side}
use Rattle.sd_model.specs.declared.trees.Side.TheVariants.{Left, Right}
use Rattle.sd_model.specs.declared.trees.Move.{Move}
use Rattle.sd_model.specs.declared.trees.Move.TheVariants as moves
use Rattle.sd_model.specs.Expression.{Expression}
use Rattle.sd_model.specs.Size.{HasSize}
use Rattle.sd_model.specs.Tree.{Tree, Leaf, Node}
use Rattle.sd_model.specs.Moves.{moved}
use Rattle.sd_vtree.specs.Numbered.{Numbered, NumberedLeaf, NumberedNode, plain_tree, children_at, child_numbers}
use Rattle.sd_vtree.specs.Numbered.{numbers, times, IsNumbered}
use Rattle.sd_vtree.specs.NumberedMoves.{moved_number}
use Rattle.sd_vtree.proofs.Subtrees.{once_numbered, subtree_some}
use Rattle.sd_manager.specs.Table.{Table}
use Rattle.sd_manager.specs.Valid.{IsTable}
use Rattle.sd_move.specs.Journal.{Journal}
use Rattle.sd_move.specs.Moves.{IsMoved, IsMoveRefusal, HasSizeAfter}
use Rattle.sd_move.specs.declared.error.MoveError.{MoveError}
use Rattle.sd_move.specs.declared.error.MoveError.TheVariants.{NotMovable, OverMost, ArenaFull, OutOfMemory}
use Rattle.sd_compile.specs.Total.{AreHeldFormulas}
use Rattle.sd_search.specs.Search.{WalkMove, subtree_at}
use Rattle.sd_search.specs.Paths.{part_at, IsAtPath, KeepsAlong}
use Rattle.sd_search.specs.Walking.{move_of, child_on, HasStepped, IsStepRefusal}
use Rattle.sd_search.specs.declared.steps.Step.{Step}
use Rattle.sd_search.specs.declared.steps.Step.TheVariants as steps
use Rattle.sd_search.proofs.Moved.{HaveSameLeaves, moved_leaves, same_vtree}
use Rattle.sd_search.proofs.AlongPaths.{subtree_path, parts_below, path_there, path_moved, moved_along, along_up}
use Rattle.sd_search.proofs.AlongPaths.{InnerAt, inner_at, leaf_at}
use Rattle.sd_search.proofs.KeptRoots.{size_moved}

-- ---- a move of a node, and the leaves

-- a moved vtree has the same leaves
pub leaves_moved : (kind : Move) (t u : Numbered) (n : ℕ) → IsNumbered t → 1 ≤ times n (numbers t)
    → moved_number kind t n ≡ Some u → HaveSameLeaves (plain_tree t) (plain_tree u)
leaves_moved kind t u n num has is =
    let s = subtree_some t n has in
    let p = path_there t n s.0 s.1 in
    moved_leaves kind (plain_tree t) p.0 (plain_tree u)
    (sym (path_moved kind t p.0 n (once_numbered t num) p.1) ∙ ap (option_map plain_tree) is)

-- ---- where a step is made

-- the node that a step moves is at the end of the path that its move names
abbrev pub Stands : Numbered → WalkMove → ℕ → ℕ → Type 0
Stands t m place at = (path : List Side) → IsAtPath t path place → IsAtPath t (path ++ m.below) at

pub stands_here : (t : Numbered) (kind : Move) (place : ℕ) → Stands t (record { kind = kind; below = [] }) place place
stands_here t kind place path e = subst (λ p. IsAtPath t p place) (sym (append-nil path)) e

-- a child of a node is at the end of the longer path
child_at : (t : Numbered) (side : Side) (place : ℕ) (c : ℕ × ℕ) → IsNumbered t → Some c ≡ children_at t place
    → (path : List Side) → IsAtPath t path place → IsAtPath t (path ++ side ∷ []) (child_on side c)
child_at t Left place c num is path e = (inner_at t path place c.0 c.1 (once_numbered t num) e is).left_at
child_at t Right place c num is path e = (inner_at t path place c.0 c.1 (once_numbered t num) e is).right_at

pub stands_child : (t : Numbered) (side : Side) (place child : ℕ) → IsNumbered t
    → Some child ≡ option_map (child_on side) (children_at t place)
    → Stands t (move_of (steps.SwapChild side)) place child
stands_child t side place child num is = go (children_at t place) refl is
  where
    go : (o : Option (ℕ × ℕ)) → children_at t place ≡ o → Some child ≡ option_map (child_on side) o
        → Stands t (move_of (steps.SwapChild side)) place child
    go None f g = absurd (none-some child (sym g))
    go (Some c) f g = λ path e.
        subst (IsAtPath t (path ++ side ∷ [])) (sym (same_Some child (child_on side c) g))
        (child_at t side place c num (sym f) path e)

-- what a step keeps along the path to the node that it moves, it keeps along the path to the node of the walk
along_step : (s : Step) (t u : Numbered) (path : List Side) → KeepsAlong t u (path ++ (move_of s).below)
    → KeepsAlong t u path
along_step steps.Swap t u path h = subst (KeepsAlong t u) (append-nil path) h
along_step steps.Rotate t u path h = subst (KeepsAlong t u) (append-nil path) h
along_step (steps.SwapChild side) t u path h = along_up t u path side h

-- ---- a step that was made, or not

module _ (s : Step) (a b : Table) (place at : ℕ) (t : IsTable a) (has : 1 ≤ times at (numbers a.vtree))
    (stands : Stands a.vtree (move_of s) place at) where
  pub stepped : (j : Journal) → IsMoved a b (move_of s).kind at j → HasStepped a b (move_of s) place j
  stepped j m = record {
    at = at;
    is = m;
    variables = (leaves_moved (move_of s).kind a.vtree b.vtree at t.numbered has m.vtree).count;
    led = λ path e.
        sym (path_moved (move_of s).kind a.vtree (path ++ (move_of s).below) at (once_numbered a.vtree t.numbered)
        (stands path e))
        ∙ ap (option_map plain_tree) m.vtree;
    along = λ path e.
        along_step s a.vtree b.vtree path
        (moved_along (move_of s).kind a.vtree (path ++ (move_of s).below) at b.vtree
        (once_numbered a.vtree t.numbered) (stands path e) m.vtree);
  }

  -- the size of the formulas in the vtree that the move would lead to
  size_there : (n : ℕ) (h : HasSizeAfter a (move_of s).kind at n) (fs : List Expression) → AreHeldFormulas a fs
      → HasSize fs (plain_tree h.tree) n
  size_there n h fs are =
      let same = leaves_moved (move_of s).kind a.vtree h.tree at t.numbered has h.turned in
      size_moved a fs (move_of s).kind at n t.numbered are h
      (same_vtree (plain_tree a.vtree) (plain_tree h.tree) same t.numbered.vtree) same.count

  pub sized : (j : Journal) (n : ℕ) → IsMoved a b (move_of s).kind at j → HasSizeAfter a (move_of s).kind at n
      → (fs : List Expression) → AreHeldFormulas a fs → HasSize fs (plain_tree b.vtree) n
  sized j n m h fs are =
      subst (λ (u : Numbered). HasSize fs (plain_tree u) n)
      (same_Some h.tree b.vtree (sym h.turned ∙ m.vtree)) (size_there n h fs are)

  pub refused : (most : ℕ) (e : MoveError) → IsMoveRefusal a b (move_of s).kind at most e
      → IsStepRefusal a b (move_of s) place most e
  refused most NotMovable h = λ path e.
      sym (path_moved (move_of s).kind a.vtree (path ++ (move_of s).below) at (once_numbered a.vtree t.numbered)
      (stands path e))
      ∙ ap (option_map plain_tree) h
  refused most (OverMost size limit) h = record {
    passes = h.1;
    tree = plain_tree h.2.tree;
    led = λ path e.
        sym (path_moved (move_of s).kind a.vtree (path ++ (move_of s).below) at (once_numbered a.vtree t.numbered)
        (stands path e))
        ∙ ap (option_map plain_tree) h.2.turned;
    sized = size_there size h.2;
  }
  refused most (ArenaFull elements) h = h.1
  refused most OutOfMemory h = tt

-- ---- a step at a child of a leaf

-- past a leaf nothing is moved
past_leaf : (kind : Move) (t : Tree) (path : List Side) (side : Side) (x : ℕ) → subtree_at t path ≡ Some (Leaf x)
    → moved kind t (path ++ side ∷ []) ≡ None
past_leaf kind t [] side x e = subst (λ u. moved kind u (side ∷ []) ≡ None) (sym (same_Some t (Leaf x) e)) refl
past_leaf kind (Leaf y) (s ∷ path) side x e = absurd (none-some (Leaf x) e)
past_leaf kind (Node l r) (Left ∷ path) side x e = ap (option_map (λ m. Node m r)) (past_leaf kind l path side x e)
past_leaf kind (Node l r) (Right ∷ path) side x e = ap (option_map (λ m. Node l m)) (past_leaf kind r path side x e)

pub no_child : (t : Numbered) (side : Side) (place : ℕ) → IsNumbered t
    → None ≡ option_map (child_on side) (children_at t place)
    → (path : List Side) → IsAtPath t path place → moved moves.Swap (plain_tree t) (path ++ side ∷ []) ≡ None
no_child t side place num is path e = go (children_at t place) refl is
  where
    go : (o : Option (ℕ × ℕ)) → children_at t place ≡ o → None ≡ option_map (child_on side) o
        → moved moves.Swap (plain_tree t) (path ++ side ∷ []) ≡ None
    go None f g =
        let x = leaf_at t path place (once_numbered t num) e (sym f) in
        past_leaf moves.Swap (plain_tree t) path side x.0 x.1
    go (Some c) f g = absurd (none-some (child_on side c) g)

-- ---- what a call that made a move answers

-- of two facts of an answer a third follows
ok_both : {X Y : Type 0} (P Q R : X → Type 0) → ((x : X) → P x → Q x → R x) → (r : Result X Y) → IfOk r P → IfOk r Q
    → IfOk r R
ok_both P Q R f (Ok x) p q = f x p q
ok_both P Q R f (Err e) p q = tt

module _ {X : Type 0} (journal : X → Journal) (size : X → ℕ) (s s' : Step) (same : s' ≡ s) (a b : Table)
    (place at most : ℕ) (t : IsTable a) (inside : at < length (numbers a.vtree))
    (stands : Stands a.vtree (move_of s) place at) (r : Result X MoveError) where
  has_node : 1 ≤ times at (numbers a.vtree)
  has_node = omega (arith, t.numbered.once at inside)

  pub made_stepped : IfOk r (λ x. IsMoved a b (move_of s).kind at (journal x))
      → IfOk r (λ x. HasStepped a b (move_of s') place (journal x))
  made_stepped h =
      subst (λ z. IfOk r (λ x. HasStepped a b (move_of z) place (journal x))) (sym same)
      (IfOk-weaker r (λ x. IsMoved a b (move_of s).kind at (journal x))
      (λ x. HasStepped a b (move_of s) place (journal x))
      (λ x. stepped s a b place at t has_node stands (journal x)) h)

  pub made_sized : IfOk r (λ x. IsMoved a b (move_of s).kind at (journal x))
      → IfOk r (λ x. HasSizeAfter a (move_of s).kind at (size x))
      → (fs : List Expression) → AreHeldFormulas a fs → IfOk r (λ x. HasSize fs (plain_tree b.vtree) (size x))
  made_sized h k fs are =
      ok_both (λ x. IsMoved a b (move_of s).kind at (journal x)) (λ x. HasSizeAfter a (move_of s).kind at (size x))
      (λ x. HasSize fs (plain_tree b.vtree) (size x))
      (λ x m n. sized s a b place at t has_node stands (journal x) (size x) m n fs are) r h k

  pub made_refused : IfErr r (λ e. IsMoveRefusal a b (move_of s).kind at most e)
      → IfErr r (λ e. IsStepRefusal a b (move_of s') place most e)
  made_refused h =
      subst (λ z. IfErr r (λ e. IsStepRefusal a b (move_of z) place most e)) (sym same)
      (IfErr-weaker r (λ e. IsMoveRefusal a b (move_of s).kind at most e)
      (λ e. IsStepRefusal a b (move_of s) place most e) (refused s a b place at t has_node stands most) h)

-- ---- the form of the subtrees at a node

-- the children of a subtree at the end of a path
children_part : (t : Numbered) (path : List Side) (n : ℕ) (s : Numbered) → IsNumbered t → IsAtPath t path n
    → part_at t path ≡ Some s → children_at t n ≡ child_numbers s
children_part t path n s num e is =
    ap (option_and_then child_numbers) (subtree_path t path n (once_numbered t num) e ∙ is)

module _ (t : Numbered) (path : List Side) (place x y : ℕ) (num : IsNumbered t) (e : IsAtPath t path place)
    (inner : Some (x, y) ≡ children_at t place) where
  both : InnerAt t path x y
  both = inner_at t path place x y (once_numbered t num) e inner

  left_is : children_at t x ≡ child_numbers both.left
  left_is =
      children_part t (path ++ Left ∷ []) x both.left num both.left_at
      (parts_below t path both.number both.left both.right both.part).0

  right_is : children_at t y ≡ child_numbers both.right
  right_is =
      children_part t (path ++ Right ∷ []) y both.right num both.right_at
      (parts_below t path both.number both.left both.right both.part).1

  -- the left child is a node
  pub form_left : is_some (children_at t x) ≡ true
      → (a : Tree) × (b : Tree) × (c : Tree) × (subtree_at (plain_tree t) path ≡ Some (Node (Node a b) c))
  form_left some = go both.left (ap is_some (sym left_is) ∙ some) both.plain
    where
      go : (l : Numbered) → is_some (child_numbers l) ≡ true
          → subtree_at (plain_tree t) path ≡ Some (Node (plain_tree l) (plain_tree both.right))
          → (a : Tree) × (b : Tree) × (c : Tree) × (subtree_at (plain_tree t) path ≡ Some (Node (Node a b) c))
      go (NumberedLeaf m v) h k = absurd cc
      go (NumberedNode m l r) h k = (plain_tree l, plain_tree r, plain_tree both.right, k)

  -- the right child alone is one
  pub form_right : is_some (children_at t x) ≡ false → is_some (children_at t y) ≡ true
      → (v : ℕ) × (b : Tree) × (c : Tree) × (subtree_at (plain_tree t) path ≡ Some (Node (Leaf v) (Node b c)))
  form_right none some =
      go both.left both.right (ap is_some (sym left_is) ∙ none) (ap is_some (sym right_is) ∙ some) both.plain
    where
      go : (l r : Numbered) → is_some (child_numbers l) ≡ false → is_some (child_numbers r) ≡ true
          → subtree_at (plain_tree t) path ≡ Some (Node (plain_tree l) (plain_tree r))
          → (v : ℕ) × (b : Tree) × (c : Tree) × (subtree_at (plain_tree t) path ≡ Some (Node (Leaf v) (Node b c)))
      go (NumberedNode m a b) r h i k = absurd cc
      go (NumberedLeaf m v) (NumberedLeaf n w) h i k = absurd cc
      go (NumberedLeaf m v) (NumberedNode n b c) h i k = (v, plain_tree b, plain_tree c, k)

  -- both are leaves
  pub form_two : is_some (children_at t x) ≡ false → is_some (children_at t y) ≡ false
      → (v : ℕ) × (w : ℕ) × (subtree_at (plain_tree t) path ≡ Some (Node (Leaf v) (Leaf w)))
  form_two none none' =
      go both.left both.right (ap is_some (sym left_is) ∙ none) (ap is_some (sym right_is) ∙ none') both.plain
    where
      go : (l r : Numbered) → is_some (child_numbers l) ≡ false → is_some (child_numbers r) ≡ false
          → subtree_at (plain_tree t) path ≡ Some (Node (plain_tree l) (plain_tree r))
          → (v : ℕ) × (w : ℕ) × (subtree_at (plain_tree t) path ≡ Some (Node (Leaf v) (Leaf w)))
      go (NumberedNode m a b) r h i k = absurd cc
      go (NumberedLeaf m v) (NumberedNode n b c) h i k = absurd cc
      go (NumberedLeaf m v) (NumberedLeaf n w) h i k = (v, w, k)
