-- Nodes at the ends of paths, and what a move leaves along a path.
use Rattle.std.proofs.Common.{◌≡◌, ℕ, ◌≤◌, ◌<◌, List, [], ◌∷◌, ◌++◌, length, Option, Some, None, refl, sym, ◌∙◌}
use Rattle.std.proofs.Common.{ap}
use Rattle.std.proofs.Common.{subst, arith, eq-eqb, ne_eqb, length-append, option_map, option_and_then, Bool, true}
use Rattle.std.proofs.Common.{false, cond, eqb, eqb-true}
use Rattle.std.proofs.lemmas.Option.{same_Some, none-some, some_pair_parts}
use Rattle.sd_model.specs.declared.trees.Side.{Side}
use Rattle.sd_model.specs.declared.trees.Side.TheVariants.{Left, Right}
use Rattle.sd_model.specs.declared.trees.Move.{Move}
use Rattle.sd_model.specs.declared.trees.Move.TheVariants.{RotateLeft, RotateRight, Swap}
use Rattle.sd_model.specs.Tree.{Leaf, Node}
use Rattle.sd_model.specs.Moves.{moved_root, moved}
use Rattle.sd_vtree.specs.Numbered.{Numbered, NumberedLeaf, NumberedNode, number_of, numbers, plain_tree, subtree}
use Rattle.sd_vtree.specs.Numbered.{times}
use Rattle.sd_vtree.specs.Numbered.{children_at, child_numbers}
use Rattle.sd_vtree.specs.NumberedMoves.{moved_top, moved_number}
use Rattle.sd_vtree.proofs.Times.{times_node}
use Rattle.sd_vtree.proofs.Parts.{subtree_left, subtree_right}
use Rattle.sd_vtree.proofs.Subtrees.{AtMostOnce, once_left, once_right, left_apart, right_apart, number_of_in}
use Rattle.sd_vtree.proofs.Subtrees.{subtree_root, way}
use Rattle.sd_vtree.proofs.Subtrees.{Here, Left as OnLeft, Right as OnRight}
use Rattle.sd_vtree.proofs.Put.{moved_none}
use Rattle.sd_search.specs.Search.{subtree_at}
use Rattle.sd_search.specs.Paths.{part_at, IsAtPath, KeepsAlong}
use Rattle.sd_search.proofs.Moved.{mapped}

-- ---- nodes at the ends of paths

-- the node at the end of a path is in the vtree
pub at_in : (t : Numbered) (path : List Side) (n : ℕ) → IsAtPath t path n → 1 ≤ times n (numbers t)
at_in t [] n e =
    subst (λ k. 1 ≤ times k (numbers t)) (same_Some (number_of t) n e) (number_of_in t)
at_in (NumberedLeaf m x) (side ∷ path) n e = absurd (none-some n e)
at_in (NumberedNode m l r) (Left ∷ path) n e =
    omega (arith, at_in l path n e, times_node n m (numbers l) (numbers r))
at_in (NumberedNode m l r) (Right ∷ path) n e =
    omega (arith, at_in r path n e, times_node n m (numbers l) (numbers r))

-- the subtree there
pub part_some : (t : Numbered) (path : List Side) (n : ℕ) → IsAtPath t path n
    → (s : Numbered) × (part_at t path ≡ Some s) × (number_of s ≡ n)
part_some t path n e = go (part_at t path) refl e
  where
    go : (o : Option Numbered) → part_at t path ≡ o → option_map number_of o ≡ Some n
        → (s : Numbered) × (part_at t path ≡ Some s) × (number_of s ≡ n)
    go None f e = absurd (none-some n e)
    go (Some s) f e = (s, f, same_Some (number_of s) n e)

-- is the one with the node's number
pub subtree_path : (t : Numbered) (path : List Side) (n : ℕ) → AtMostOnce t → IsAtPath t path n
    → subtree t n ≡ part_at t path
subtree_path t [] n o e = subst (λ k. subtree t k ≡ Some t) (same_Some (number_of t) n e) (subtree_root t)
subtree_path (NumberedLeaf m x) (side ∷ path) n o e = absurd (none-some n e)
subtree_path (NumberedNode m l r) (Left ∷ path) n o e =
    let s = part_some l path n e in
    let d = left_apart m l r o n (at_in l path n e) in
    subtree_left m l r n s.0 d.0 (subtree_path l path n (once_left m l r o) e ∙ s.1) ∙ sym s.1
subtree_path (NumberedNode m l r) (Right ∷ path) n o e =
    let s = part_some r path n e in
    let d = right_apart m l r o n (at_in r path n e) in
    subtree_right m l r n s.0 d.0 d.1 (subtree_path r path n (once_right m l r o) e ∙ s.1) ∙ sym s.1

-- without its numbers it is the subtree of the plain vtree
pub plain_part : (t : Numbered) (path : List Side) → subtree_at (plain_tree t) path ≡ option_map plain_tree
    (part_at t path)
plain_part t [] = refl
plain_part (NumberedLeaf m x) (side ∷ path) = refl
plain_part (NumberedNode m l r) (Left ∷ path) = plain_part l path
plain_part (NumberedNode m l r) (Right ∷ path) = plain_part r path

-- the subtrees of its children
pub parts_below : (t : Numbered) (path : List Side) (m : ℕ) (l r : Numbered) → part_at t path ≡ Some
    (NumberedNode m l r)
    → (part_at t (path ++ Left ∷ []) ≡ Some l) × (part_at t (path ++ Right ∷ []) ≡ Some r)
parts_below t [] m l r e =
    let same : t ≡ NumberedNode m l r = same_Some t (NumberedNode m l r) e in
    (ap (λ s. part_at s (Left ∷ [])) same, ap (λ s. part_at s (Right ∷ [])) same)
parts_below (NumberedLeaf k x) (side ∷ path) m l r e = absurd (none-some (NumberedNode m l r) e)
parts_below (NumberedNode k a b) (Left ∷ path) m l r e = parts_below a path m l r e
parts_below (NumberedNode k a b) (Right ∷ path) m l r e = parts_below b path m l r e

-- what the numbers of the children tell
pub record InnerAt (t : Numbered) (path : List Side) (a b : ℕ) : Type 0 where
  pub number : ℕ
  pub left : Numbered
  pub right : Numbered
  pub part : part_at t path ≡ Some (NumberedNode number left right)
  pub left_at : IsAtPath t (path ++ Left ∷ []) a
  pub right_at : IsAtPath t (path ++ Right ∷ []) b
  pub plain : subtree_at (plain_tree t) path ≡ Some (Node (plain_tree left) (plain_tree right))

pub inner_at : (t : Numbered) (path : List Side) (n a b : ℕ) → AtMostOnce t → IsAtPath t path n
    → Some (a, b) ≡ children_at t n → InnerAt t path a b
inner_at t path n a b o e c =
    go (part_at t path) refl (c ∙ ap (option_and_then child_numbers) (subtree_path t path n o e))
  where
    go : (p : Option Numbered) → part_at t path ≡ p → Some (a, b) ≡ option_and_then child_numbers p → InnerAt t path a b
    go None f g = absurd (none-some (a, b) (sym g))
    go (Some (NumberedLeaf m x)) f g = absurd (none-some (a, b) (sym g))
    go (Some (NumberedNode m l r)) f g =
        let p = some_pair_parts a (number_of l) b (number_of r) g in
        let below = parts_below t path m l r f in
        record {
          number = m;
          left = l;
          right = r;
          part = f;
          left_at = ap (option_map number_of) below.0 ∙ ap Some (sym p.0);
          right_at = ap (option_map number_of) below.1 ∙ ap Some (sym p.1);
          plain = plain_part t path ∙ ap (option_map plain_tree) f;
        }

-- where a node has no children there is a leaf
pub leaf_at : (t : Numbered) (path : List Side) (n : ℕ) → AtMostOnce t → IsAtPath t path n → None ≡ children_at t n
    → (x : ℕ) × (subtree_at (plain_tree t) path ≡ Some (Leaf x))
leaf_at t path n o e c =
    let s = part_some t path n e in
    go s.0 s.1 (c ∙ ap (option_and_then child_numbers) (subtree_path t path n o e ∙ s.1))
  where
    go : (s : Numbered) → part_at t path ≡ Some s → None ≡ option_and_then child_numbers (Some s)
        → (x : ℕ) × (subtree_at (plain_tree t) path ≡ Some (Leaf x))
    go (NumberedLeaf m x) f g = (x, plain_part t path ∙ ap (option_map plain_tree) f)
    go (NumberedNode m l r) f g = absurd (none-some (number_of l, number_of r) g)

-- a path leads to each node
pub path_there : (t : Numbered) (n : ℕ) (s : Numbered) → subtree t n ≡ Some s → (path : List Side) × IsAtPath t path n
path_there (NumberedLeaf m x) n s e = go (eqb m n) refl
  where
    go : (b : Bool) → eqb m n ≡ b → (path : List Side) × IsAtPath (NumberedLeaf m x) path n
    go true f = ([], ap Some (eqb-true m n f))
    go false f = absurd (none-some s (sym (ap (λ b. cond b (Some (NumberedLeaf m x)) None) f) ∙ e))
path_there (NumberedNode m l r) n s e = elim (way m l r n s e) [
  | Here h f ↦ ([], ap Some h)
  | OnLeft d f ↦ (let p = path_there l n s f in (Left ∷ p.0, p.1))
  | OnRight d z f ↦ (let p = path_there r n s f in (Right ∷ p.0, p.1))
]

-- ---- a move at the end of a path

-- at the root
top_plain : (kind : Move) (t : Numbered) → option_map plain_tree (moved_top kind t) ≡ moved_root kind (plain_tree t)
top_plain RotateRight (NumberedLeaf m x) = refl
top_plain RotateLeft (NumberedLeaf m x) = refl
top_plain Swap (NumberedLeaf m x) = refl
top_plain RotateRight (NumberedNode m (NumberedLeaf k x) r) = refl
top_plain RotateRight (NumberedNode m (NumberedNode k a b) r) = refl
top_plain RotateLeft (NumberedNode m l (NumberedLeaf k x)) = refl
top_plain RotateLeft (NumberedNode m l (NumberedNode k a b)) = refl
top_plain Swap (NumberedNode m l r) = refl

-- a leaf is not moved
leaf_root : (kind : Move) (x : ℕ) → moved_root kind (Leaf x) ≡ None
leaf_root RotateLeft x = refl
leaf_root RotateRight x = refl
leaf_root Swap x = refl

-- a move below a child is one of the child
moved_in_left : (kind : Move) (m : ℕ) (l r : Numbered) (n : ℕ) → (m ≡ n → ⊥) → moved_number kind r n ≡ None
    → moved_number kind (NumberedNode m l r) n ≡ option_map (λ t. NumberedNode m t r) (moved_number kind l n)
moved_in_left kind m l r n d e = go (moved_number kind l n) refl
  where
    go : (o : Option Numbered) → moved_number kind l n ≡ o
        → moved_number kind (NumberedNode m l r) n ≡ option_map (λ t. NumberedNode m t r) (moved_number kind l n)
    go None f = rw (ne_eqb m n d, f, e) refl
    go (Some v) f = rw (ne_eqb m n d, f) refl

moved_in_right : (kind : Move) (m : ℕ) (l r : Numbered) (n : ℕ) → (m ≡ n → ⊥) → moved_number kind l n ≡ None
    → moved_number kind (NumberedNode m l r) n ≡ option_map (λ t. NumberedNode m l t) (moved_number kind r n)
moved_in_right kind m l r n d e = rw (ne_eqb m n d, e) refl

moved_here : (kind : Move) (m : ℕ) (l r : Numbered) (n : ℕ) → m ≡ n →
    moved_number kind (NumberedNode m l r) n ≡ moved_top kind (NumberedNode m l r)
moved_here kind m l r n e = rw (eq-eqb m n e) refl

-- the plain vtree of one that was changed below a child
plain_left : (m : ℕ) (r : Numbered) (o : Option Numbered) → option_map plain_tree
    (option_map (λ t. NumberedNode m t r) o)
    ≡ option_map (λ t. Node t (plain_tree r)) (option_map plain_tree o)
plain_left m r None = refl
plain_left m r (Some t) = refl

plain_right : (m : ℕ) (l : Numbered) (o : Option Numbered) → option_map plain_tree
    (option_map (λ t. NumberedNode m l t) o)
    ≡ option_map (λ t. Node (plain_tree l) t) (option_map plain_tree o)
plain_right m l None = refl
plain_right m l (Some t) = refl

-- a move of a number is the move of the plain vtree at the end of the path
pub path_moved : (kind : Move) (t : Numbered) (path : List Side) (n : ℕ) → AtMostOnce t → IsAtPath t path n
    → option_map plain_tree (moved_number kind t n) ≡ moved kind (plain_tree t) path
path_moved kind (NumberedLeaf m x) [] n o e = sym (leaf_root kind x)
path_moved kind (NumberedLeaf m x) (side ∷ path) n o e = absurd (none-some n e)
path_moved kind (NumberedNode m l r) [] n o e =
    ap (option_map plain_tree) (moved_here kind m l r n (same_Some m n e)) ∙ top_plain kind (NumberedNode m l r)
path_moved kind (NumberedNode m l r) (Left ∷ path) n o e =
    let d = left_apart m l r o n (at_in l path n e) in
    ap (option_map plain_tree) (moved_in_left kind m l r n d.0 (moved_none kind r n d.1))
    ∙ plain_left m r (moved_number kind l n)
    ∙ ap (option_map (λ t. Node t (plain_tree r))) (path_moved kind l path n (once_left m l r o) e)
path_moved kind (NumberedNode m l r) (Right ∷ path) n o e =
    let d = right_apart m l r o n (at_in r path n e) in
    ap (option_map plain_tree) (moved_in_right kind m l r n d.0 (moved_none kind l n d.1))
    ∙ plain_right m l (moved_number kind r n)
    ∙ ap (option_map (λ t. Node (plain_tree l) t)) (path_moved kind r path n (once_right m l r o) e)

-- ---- along a path

-- a move at the root keeps its number and the count of nodes
top_along : (kind : Move) (t u : Numbered) → moved_top kind t ≡ Some u → KeepsAlong t u []
top_along kind (NumberedLeaf m x) u e = absurd (leaf kind e)
  where
    leaf : (k : Move) → moved_top k (NumberedLeaf m x) ≡ Some u → ⊥
    leaf RotateRight e = none-some u e
    leaf RotateLeft e = none-some u e
    leaf Swap e = none-some u e
top_along RotateRight (NumberedNode m (NumberedLeaf k x) c) u e = absurd (none-some u e)
top_along RotateRight (NumberedNode m (NumberedNode k a b) c) u e =
    subst (λ s. KeepsAlong (NumberedNode m (NumberedNode k a b) c) s []) (same_Some _ u e) (
      refl,
      omega (
        arith,
        length-append (numbers a) (m ∷ numbers b ++ k ∷ numbers c),
        length-append (numbers b) (k ∷ numbers c),
        length-append (numbers a ++ k ∷ numbers b) (m ∷ numbers c),
        length-append (numbers a) (k ∷ numbers b),
      ),
    )
top_along RotateLeft (NumberedNode m a (NumberedLeaf k x)) u e = absurd (none-some u e)
top_along RotateLeft (NumberedNode m a (NumberedNode k b c)) u e =
    subst (λ s. KeepsAlong (NumberedNode m a (NumberedNode k b c)) s []) (same_Some _ u e) (
      refl,
      omega (
        arith,
        length-append (numbers a) (m ∷ numbers b ++ k ∷ numbers c),
        length-append (numbers b) (k ∷ numbers c),
        length-append (numbers a ++ k ∷ numbers b) (m ∷ numbers c),
        length-append (numbers a) (k ∷ numbers b),
      ),
    )
top_along Swap (NumberedNode m a b) u e =
    subst (λ s. KeepsAlong (NumberedNode m a b) s []) (same_Some _ u e)
    (refl, omega (arith, length-append (numbers a) (m ∷ numbers b), length-append (numbers b) (m ∷ numbers a)))

-- a move at the node at the end of a path
pub moved_along : (kind : Move) (t : Numbered) (path : List Side) (n : ℕ) (u : Numbered) → AtMostOnce t
    → IsAtPath t path n → moved_number kind t n ≡ Some u → KeepsAlong t u path
moved_along kind (NumberedLeaf m x) path n u o e f = absurd (none-some u f)
moved_along kind (NumberedNode m l r) [] n u o e f =
    top_along kind (NumberedNode m l r) u (sym (moved_here kind m l r n (same_Some m n e)) ∙ f)
moved_along kind (NumberedNode m l r) (Left ∷ path) n u o e f =
    let d = left_apart m l r o n (at_in l path n e) in
    let v = mapped (λ t. NumberedNode m t r) (moved_number kind l n) u
    (sym (moved_in_left kind m l r n d.0 (moved_none kind r n d.1)) ∙ f) in
    subst (λ s. KeepsAlong (NumberedNode m l r) s (Left ∷ path)) v.2
    (refl, refl, moved_along kind l path n v.0 (once_left m l r o) e v.1)
moved_along kind (NumberedNode m l r) (Right ∷ path) n u o e f =
    let d = right_apart m l r o n (at_in r path n e) in
    let v = mapped (λ t. NumberedNode m l t) (moved_number kind r n) u
    (sym (moved_in_right kind m l r n d.0 (moved_none kind l n d.1)) ∙ f) in
    subst (λ s. KeepsAlong (NumberedNode m l r) s (Right ∷ path)) v.2
    (refl, refl, moved_along kind r path n v.0 (once_right m l r o) e v.1)

-- nothing was changed
pub along_same : (t : Numbered) (path : List Side) (n : ℕ) → IsAtPath t path n → KeepsAlong t t path
along_same t [] n e = (refl, refl)
along_same (NumberedLeaf m x) (side ∷ path) n e = absurd (none-some n e)
along_same (NumberedNode m l r) (Left ∷ path) n e = (refl, refl, along_same l path n e)
along_same (NumberedNode m l r) (Right ∷ path) n e = (refl, refl, along_same r path n e)

-- one after the other
pub along_both : (t u v : Numbered) (path : List Side) → KeepsAlong t u path → KeepsAlong u v path → KeepsAlong t v path
along_both t u v [] h k = (k.0 ∙ h.0, k.1 ∙ h.1)
along_both (NumberedLeaf m x) u v (Left ∷ path) h k = absurd h
along_both (NumberedLeaf m x) u v (Right ∷ path) h k = absurd h
along_both (NumberedNode m l r) (NumberedLeaf n x) v (Left ∷ path) h k = absurd h
along_both (NumberedNode m l r) (NumberedLeaf n x) v (Right ∷ path) h k = absurd h
along_both (NumberedNode m l r) (NumberedNode n a b) (NumberedLeaf i x) (Left ∷ path) h k = absurd k
along_both (NumberedNode m l r) (NumberedNode n a b) (NumberedLeaf i x) (Right ∷ path) h k = absurd k
along_both (NumberedNode m l r) (NumberedNode n a b) (NumberedNode i c d) (Left ∷ path) h k =
    (k.0 ∙ h.0, k.1 ∙ h.1, along_both l a c path h.2 k.2)
along_both (NumberedNode m l r) (NumberedNode n a b) (NumberedNode i c d) (Right ∷ path) h k =
    (k.0 ∙ h.0, k.1 ∙ h.1, along_both r b d path h.2 k.2)

-- the node stays at the end of the path
pub along_at : (t u : Numbered) (path : List Side) (n : ℕ) → KeepsAlong t u path → IsAtPath t path n → IsAtPath u path n
along_at t u [] n h e = ap Some h.0 ∙ e
along_at (NumberedLeaf m x) u (side ∷ path) n h e = absurd (none-some n e)
along_at (NumberedNode m l r) (NumberedLeaf k x) (Left ∷ path) n h e = absurd h
along_at (NumberedNode m l r) (NumberedLeaf k x) (Right ∷ path) n h e = absurd h
along_at (NumberedNode m l r) (NumberedNode k a b) (Left ∷ path) n h e = along_at l a path n h.2 e
along_at (NumberedNode m l r) (NumberedNode k a b) (Right ∷ path) n h e = along_at r b path n h.2 e

-- and has as many nodes below it
pub along_part : (t u : Numbered) (path : List Side) (s : Numbered) → KeepsAlong t u path → part_at t path ≡ Some s
    → (v : Numbered) × (part_at u path ≡ Some v) × (length (numbers v) ≡ length (numbers s))
along_part t u [] s h e = (u, refl, h.1 ∙ ap (λ w. length (numbers w)) (same_Some t s e))
along_part (NumberedLeaf m x) u (side ∷ path) s h e = absurd (none-some s e)
along_part (NumberedNode m l r) (NumberedLeaf k x) (Left ∷ path) s h e = absurd h
along_part (NumberedNode m l r) (NumberedLeaf k x) (Right ∷ path) s h e = absurd h
along_part (NumberedNode m l r) (NumberedNode k a b) (Left ∷ path) s h e = along_part l a path s h.2 e
along_part (NumberedNode m l r) (NumberedNode k a b) (Right ∷ path) s h e = along_part r b path s h.2 e

-- so does the whole vtree
pub along_length : (t u : Numbered) (path : List Side) → KeepsAlong t u path → length (numbers u) ≡ length (numbers t)
along_length t u [] h = h.1
along_length (NumberedLeaf m x) u (Left ∷ path) h = absurd h
along_length (NumberedLeaf m x) u (Right ∷ path) h = absurd h
along_length (NumberedNode m l r) (NumberedLeaf k x) (Left ∷ path) h = absurd h
along_length (NumberedNode m l r) (NumberedLeaf k x) (Right ∷ path) h = absurd h
along_length (NumberedNode m l r) (NumberedNode k a b) (Left ∷ path) h =
    omega (
      arith,
      along_length l a path h.2,
      ap (λ s. length (numbers s)) h.1,
      length-append (numbers l) (m ∷ numbers r),
      length-append (numbers a) (k ∷ numbers b),
    )
along_length (NumberedNode m l r) (NumberedNode k a b) (Right ∷ path) h =
    omega (
      arith,
      along_length r b path h.2,
      ap (λ s. length (numbers s)) h.1,
      length-append (numbers l) (m ∷ numbers r),
      length-append (numbers a) (k ∷ numbers b),
    )

-- what keeps all along the path to a child keeps all along the path to the node
pub along_up : (t u : Numbered) (path : List Side) (side : Side) → KeepsAlong t u (path ++ side ∷ []) → KeepsAlong t u
    path
along_up (NumberedLeaf m x) u [] Left h = absurd h
along_up (NumberedLeaf m x) u [] Right h = absurd h
along_up (NumberedNode m l r) (NumberedLeaf k x) [] Left h = absurd h
along_up (NumberedNode m l r) (NumberedLeaf k x) [] Right h = absurd h
along_up (NumberedNode m l r) (NumberedNode k a b) [] Left h =
    (h.0, along_length (NumberedNode m l r) (NumberedNode k a b) (Left ∷ []) h)
along_up (NumberedNode m l r) (NumberedNode k a b) [] Right h =
    (h.0, along_length (NumberedNode m l r) (NumberedNode k a b) (Right ∷ []) h)
along_up (NumberedLeaf m x) u (Left ∷ path) side h = absurd h
along_up (NumberedLeaf m x) u (Right ∷ path) side h = absurd h
along_up (NumberedNode m l r) (NumberedLeaf k x) (Left ∷ path) side h = absurd h
along_up (NumberedNode m l r) (NumberedLeaf k x) (Right ∷ path) side h = absurd h
along_up (NumberedNode m l r) (NumberedNode k a b) (Left ∷ path) side h = (h.0, h.1, along_up l a path side h.2)
along_up (NumberedNode m l r) (NumberedNode k a b) (Right ∷ path) side h = (h.0, h.1, along_up r b path side h.2)

-- so a number that is within its numbers stays so
pub place_along : (t u : Numbered) (path : List Side) (n : ℕ) → KeepsAlong t u path → n < length (numbers t)
    → n < length (numbers u)
place_along t u path n k less = subst (λ l. n < l) (sym (along_length t u path k)) less
