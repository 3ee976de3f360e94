-- Walks in a row over tables: from one place of a round to the next.
use Rattle.std.proofs.Common.{◌≡◌, ℕ, suc, ◌<◌, ◌≤◌, List, [], ◌∷◌, ◌++◌, length, Some, None, refl, sym, ◌∙◌, ap}
use Rattle.std.proofs.Common.{subst, arith, inl, inr, nat_lt, if◌then◌else◌, le-ltb, lt-ltb}
use Rattle.std.proofs.lemmas.Bool.{cases_lt}
use Rattle.std.proofs.lemmas.Option.{same_Some, none-some}
use Rattle.std.specs.Option.{option_map}
use Rattle.sd_model.specs.Expression.{Expression}
use Rattle.sd_model.specs.Tree.{leaves}
use Rattle.sd_model.specs.declared.trees.Side.{Side}
use Rattle.sd_model.specs.declared.trees.Side.TheVariants.{Left, Right}
use Rattle.sd_vtree.specs.Numbered.{Numbered, NumberedLeaf, NumberedNode, numbers, plain_tree, children_at}
use Rattle.sd_vtree.proofs.Subtrees.{AtMostOnce, once_numbered, once_left, once_right, left_apart, right_apart}
use Rattle.sd_manager.specs.Table.{Table}
use Rattle.sd_manager.specs.Valid.{IsTable}
use Rattle.sd_compile.specs.Total.{AreHeldFormulas}
use Rattle.sd_search.specs.Search.{IsWalk, IsRound}
use Rattle.sd_search.specs.Kept.{KeepsRoots}
use Rattle.sd_search.specs.Paths.{IsAtPath, KeepsAlong}
use Rattle.sd_search.specs.WalksInARow.{nodes_before, nodes_through, EachKeeps, KeepLast, KeepBefore, KeepThrough}
use Rattle.sd_search.proofs.AlongPaths.{at_in, part_some, plain_part, InnerAt, inner_at, leaf_at, along_at, along_up}
use Rattle.sd_search.proofs.KeptRoots.{shows_kept, shows_back, formulas_on}
use Rattle.sd_search.proofs.Rounds.{has_path, kid_paths}
use Rattle.sd_search.proofs.WalksInARow.{before_left, before_right, through_right, through_leaf, room_behind, some_leaf}
use Rattle.sd_search.proofs.WalksInARow.{keep_none, keep_each, keep_more, keep_all, keep_next, round_kept}

-- one path leads to a node
pub one_path : (t : Numbered) (p q : List Side) (n : ℕ) → AtMostOnce t → IsAtPath t p n → IsAtPath t q n → p ≡ q
one_path t [] [] n o d e = refl
one_path (NumberedLeaf m x) [] (side ∷ q) n o d e = absurd (none-some n e)
one_path (NumberedLeaf m x) (side ∷ p) q n o d e = absurd (none-some n d)
one_path (NumberedNode m l r) [] (Left ∷ q) n o d e =
    absurd ((left_apart m l r o n (at_in l q n e)).0 (same_Some m n d))
one_path (NumberedNode m l r) [] (Right ∷ q) n o d e =
    absurd ((right_apart m l r o n (at_in r q n e)).0 (same_Some m n d))
one_path (NumberedNode m l r) (Left ∷ p) [] n o d e =
    absurd ((left_apart m l r o n (at_in l p n d)).0 (same_Some m n e))
one_path (NumberedNode m l r) (Right ∷ p) [] n o d e =
    absurd ((right_apart m l r o n (at_in r p n d)).0 (same_Some m n e))
one_path (NumberedNode m l r) (Left ∷ p) (Left ∷ q) n o d e =
    ap (λ w. Left ∷ w) (one_path l p q n (once_left m l r o) d e)
one_path (NumberedNode m l r) (Right ∷ p) (Right ∷ q) n o d e =
    ap (λ w. Right ∷ w) (one_path r p q n (once_right m l r o) d e)
one_path (NumberedNode m l r) (Left ∷ p) (Right ∷ q) n o d e =
    absurd (omega (arith, at_in r q n e, (left_apart m l r o n (at_in l p n d)).1))
one_path (NumberedNode m l r) (Right ∷ p) (Left ∷ q) n o d e =
    absurd (omega (arith, at_in l q n e, (right_apart m l r o n (at_in r p n d)).1))

-- ---- at a node

module _ (t : Table) (slack place walks : ℕ) (table : IsTable t) (h : KeepBefore t slack place walks) where
  -- at a leaf nothing is done
  pub keep_leaf : None ≡ children_at t.vtree place → KeepThrough t slack place walks
  keep_leaf is fs path held at =
      let x = leaf_at t.vtree path place (once_numbered t.vtree table.numbered) at is in
      subst (λ done. KeepLast fs slack (plain_tree t.vtree) done walks)
      (sym (through_leaf (plain_tree t.vtree) path x.0 x.1)) (h fs path held at)

  -- where the walks are as many as the internal nodes, each walk keeps its start
  module _ (inner : ℕ) (count : suc inner ≡ leaves (plain_tree t.vtree)) (many : inner ≤ walks) where
    each_keeps : (fs : List Expression) (path : List Side) → AreHeldFormulas t fs → IsAtPath t.vtree path place
        → EachKeeps fs slack (plain_tree t.vtree)
    each_keeps fs path held at =
        let s = part_some t.vtree path place at in
        let here = plain_tree s.0 in
        let room = room_behind (plain_tree t.vtree) path here
        (plain_part t.vtree path ∙ ap (option_map plain_tree) s.1) in
        keep_all fs slack (plain_tree t.vtree) (nodes_before (plain_tree t.vtree) path) walks
        (omega (arith, room, count, many, some_leaf here)) (omega (arith, count, many)) (h fs path held at)

    pub keep_rest : KeepThrough t slack place walks
    keep_rest fs path held at =
        keep_each fs slack (plain_tree t.vtree) (nodes_through (plain_tree t.vtree) path) walks
        (each_keeps fs path held at)

    pub round_rest : (fs : List Expression) (path : List Side) → AreHeldFormulas t fs → IsAtPath t.vtree path place
        → IsRound fs slack (plain_tree t.vtree) path (plain_tree t.vtree)
    round_rest fs path held at =
        let s = part_some t.vtree path place at in
        round_kept fs slack (plain_tree t.vtree) (plain_tree s.0) path (each_keeps fs path held at)
        (plain_part t.vtree path ∙ ap (option_map plain_tree) s.1)

-- ---- from one node to the next

-- A walk at a node, where the last so many walks keep their start: which children the node then has.
module _ (slack place l r : ℕ) (a b : Table) (t : IsTable a) (u : IsTable b) (within : place < length (numbers a.vtree))
    (along : (path : List Side) → IsAtPath a.vtree path place → KeepsAlong a.vtree b.vtree path)
    (first : Some (l, r) ≡ children_at b.vtree place) where
  -- a path to the node, in both vtrees
  here : (path : List Side) × IsAtPath a.vtree path place
  here = has_path a.vtree place t.numbered within

  is_here : IsAtPath b.vtree here.0 place
  is_here = along_at a.vtree b.vtree here.0 place (along here.0 here.1) here.1

  inner : InnerAt b.vtree here.0 l r
  inner = inner_at b.vtree here.0 place l r (once_numbered b.vtree u.numbered) is_here first

  module _ (walks size next now : ℕ) (k : KeepsRoots a b) (h : KeepBefore a slack place walks)
      (walk : (fs : List Expression) (path : List Side) → AreHeldFormulas a fs → IsAtPath a.vtree path place
      → IsWalk fs slack (plain_tree a.vtree) path (plain_tree b.vtree)) where
    -- at the same vtree one more walk keeps its start
    keep_walked : b.vtree ≡ a.vtree → (fs : List Expression) → AreHeldFormulas b fs
        → KeepLast fs slack (plain_tree b.vtree) (suc (nodes_before (plain_tree b.vtree) here.0)) (suc walks)
    keep_walked same fs held =
        let before = formulas_on b a fs u t (shows_back a b (shows_kept a b k)) held in
        keep_more fs slack (plain_tree b.vtree) here.0 (plain_tree inner.left) (plain_tree inner.right) walks
        inner.plain
        (subst (λ (v : Numbered). IsWalk fs slack (plain_tree v) here.0 (plain_tree b.vtree)) (sym same)
        (walk fs here.0 before here.1))
        (subst (λ (v : Numbered). KeepLast fs slack (plain_tree v) (nodes_before (plain_tree v) here.0) walks)
        (sym same) (h fs here.0 before here.1))

    -- where the round goes on at the left child
    pub keep_left : now ≡ (if nat_lt next size then 0 else suc walks) → (size ≤ next → b.vtree ≡ a.vtree)
        → KeepBefore b slack l now
    keep_left is stays fs path held at =
        let done = suc (nodes_before (plain_tree b.vtree) here.0) in
        let way : here.0 ++ Left ∷ [] ≡ path =
        one_path b.vtree (here.0 ++ Left ∷ []) path l (once_numbered b.vtree u.numbered) inner.left_at at in
        subst (λ p. KeepLast fs slack (plain_tree b.vtree) (nodes_before (plain_tree b.vtree) p) now) way
        (subst (λ n. KeepLast fs slack (plain_tree b.vtree) n now)
        (sym (before_left (plain_tree b.vtree) here.0 (plain_tree inner.left) (plain_tree inner.right) inner.plain))
        (elim (cases_lt next size) [
          | inl less ↦
              let none : now ≡ 0 = is ∙ ap (λ o. if o then 0 else suc walks) (lt-ltb next size less) in
              subst (KeepLast fs slack (plain_tree b.vtree) done) (sym none)
              (keep_none fs slack (plain_tree b.vtree) done)
          | inr more ↦
              let one : now ≡ suc walks = is ∙ ap (λ o. if o then 0 else suc walks) (le-ltb next size more) in
              subst (KeepLast fs slack (plain_tree b.vtree) done) (sym one) (keep_walked (stays more) fs held)
        ]))

  -- after the left child
  module _ (k s walks : ℕ) (c : Table) (v : IsTable c)
      (left : (path : List Side) → IsAtPath b.vtree path l → KeepsAlong b.vtree c.vtree path)
      (second : Some (k, s) ≡ children_at c.vtree place) where
    along_left : KeepsAlong b.vtree c.vtree (here.0 ++ Left ∷ [])
    along_left = left (here.0 ++ Left ∷ []) inner.left_at

    left_there : IsAtPath c.vtree (here.0 ++ Left ∷ []) l
    left_there = along_at b.vtree c.vtree (here.0 ++ Left ∷ []) l along_left inner.left_at

    still_here : IsAtPath c.vtree here.0 place
    still_here = along_at b.vtree c.vtree here.0 place (along_up b.vtree c.vtree here.0 Left along_left) is_here

    right_there : IsAtPath c.vtree (here.0 ++ Right ∷ []) s
    right_there = (kid_paths c.vtree here.0 place k s v.numbered still_here second).1

    -- where the round goes on at the right child
    pub keep_right : KeepThrough c slack l walks → KeepBefore c slack s walks
    keep_right h fs path held at =
        let way : here.0 ++ Right ∷ [] ≡ path =
        one_path c.vtree (here.0 ++ Right ∷ []) path s (once_numbered c.vtree v.numbered) right_there at in
        subst (λ p. KeepLast fs slack (plain_tree c.vtree) (nodes_before (plain_tree c.vtree) p) walks) way
        (subst (λ done. KeepLast fs slack (plain_tree c.vtree) done walks)
        (sym (before_right (plain_tree c.vtree) here.0)) (h fs (here.0 ++ Left ∷ []) held left_there))

    -- where it has done the right child
    pub keep_node : (d : Table) (more : ℕ) → IsTable d
        → ((path : List Side) → IsAtPath c.vtree path s → KeepsAlong c.vtree d.vtree path) → KeepThrough d slack s more
        → KeepThrough d slack place more
    keep_node d more table right h fs path held at =
        let along_right = right (here.0 ++ Right ∷ []) right_there in
        let along_node = along_up c.vtree d.vtree here.0 Right along_right in
        let now = along_at c.vtree d.vtree here.0 place along_node still_here in
        let there = along_at c.vtree d.vtree (here.0 ++ Right ∷ []) s along_right right_there in
        let way : here.0 ≡ path = one_path d.vtree here.0 path place (once_numbered d.vtree table.numbered) now at in
        subst (λ p. KeepLast fs slack (plain_tree d.vtree) (nodes_through (plain_tree d.vtree) p) more) way
        (subst (λ done. KeepLast fs slack (plain_tree d.vtree) done more)
        (through_right (plain_tree d.vtree) here.0) (h fs (here.0 ++ Right ∷ []) held there))

-- ---- rounds

-- before the first walk nothing is said
pub keep_first : (t : Table) (slack place : ℕ) → KeepBefore t slack place 0
keep_first t slack place fs path held at =
    keep_none fs slack (plain_tree t.vtree) (nodes_before (plain_tree t.vtree) path)

-- where a round was done the next one begins
pub keep_round : (t : Table) (slack root walks : ℕ) → IsTable t → IsAtPath t.vtree [] root
    → KeepThrough t slack root walks → KeepBefore t slack root walks
keep_round t slack root walks table here h fs p held at =
    let way : [] ≡ p = one_path t.vtree [] p root (once_numbered t.vtree table.numbered) here at in
    subst (λ q. KeepLast fs slack (plain_tree t.vtree) (nodes_before (plain_tree t.vtree) q) walks) way
    (keep_next fs slack (plain_tree t.vtree) walks (h fs [] held here))
