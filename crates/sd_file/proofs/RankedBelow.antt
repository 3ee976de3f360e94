-- The decompositions at and below a vtree node get ranks: those below its children, and then its own group.
use Rattle.std.proofs.Common.{◌≡◌, ◌≢◌, ◌⊎◌, inl, inr, ℕ, ◌+◌, ◌*◌, true, false, [], ◌∷◌}
use Rattle.std.proofs.Common.{◌++◌, Some, None, slice_get, refl, sym, ◌∙◌, ap, subst, arith}
use Rattle.std.proofs.Common.{append_assoc, append-nil, length-append}
use Rattle.std.proofs.Math.Dec.{eqb}
use Rattle.std.proofs.lemmas.Bool.Decides.{eqb_tells}
use Rattle.std.proofs.lemmas.Option.{same_Some}
use Rattle.std.specs.FinMap.{get}
use Rattle.std.specs.List.{AllByRecursion}
use Rattle.std.specs.Option.{IsSome, option_and_then}
use Rattle.std.specs.BTreeMap as tree
use Rattle.std.specs.BTreeMap.{BTreeMap}
use Rattle.std.specs.Ordering.{nat_cmp}
use Rattle.std.specs.declared.vec.Vec.{Vec}
use Rattle.std.specs.declared.alloc.Global.{Global}
use Rattle.sd_model.specs.Tree.{Tree, Leaf, Node, leaves, position, right_base}
use Rattle.sd_model.specs.Diagram.{Diagram, Decomposition, Elements}
use Rattle.sd_model.specs.Canonical.{IsCanonical, IsElement, canonical_bottom, canonical_top, canonical_literal}
use Rattle.sd_model.specs.Canonical.{canonical_in_left, canonical_in_right, canonical_decomposition}
use Rattle.sd_vtree.specs.Numbered.{Numbered, NumberedLeaf, NumberedNode, IsNumbered, numbers, plain_tree}
use Rattle.sd_vtree.specs.Numbered.{number_of, child_numbers, children_at}
use Rattle.sd_vtree.proofs.Subtrees.{InnerPart, number_of_in, once_numbered, subtree_root}
use Rattle.sd_vtree.proofs.Times.{one_place}
use Rattle.sd_laws.specs.Parts.{here, in_left, in_right, IsPart}
use Rattle.sd_laws.proofs.Codes.{one_diagram}
use Rattle.sd_laws.proofs.Lists.{IsAmong, all_at, all_from}
use Rattle.sd_laws.proofs.Nodes.{element_shown}
use Rattle.sd_laws.proofs.Numbers.{PartAt, part_number, length_numbers, under_canonical}
use Rattle.sd_laws.proofs.Places.{part_trans, position_within, leaves_positive}
use Rattle.sd_manager.specs.Table.{Table}
use Rattle.sd_manager.specs.Shown.{Shows, ShowsElement}
use Rattle.sd_manager.specs.Views.{pairs_at}
use Rattle.sd_manager.specs.Valid.{IsTable}
use Rattle.sd_manager.proofs.Reading.{linked_key, pairs_node}
use Rattle.sd_file.specs.declared.known.Ordered.{Ordered}
use Rattle.sd_file.specs.Ordered.{rank_of}
use Rattle.sd_file.specs.Ranks.{AreRanks, IsFresh, IsNodeAt, HasRanks, HasRankedPairs, IsLeft, HasRankOrGroup}
use Rattle.sd_file.specs.Ranks.{KeepRankOrGroup, KeepRanks}
use Rattle.sd_file.specs.Ranks.{AreLeft, IsCanonicalForSubtree, AreRankedBelow}
use Rattle.sd_file.proofs.Standing.{pairs_still}

-- parts of the vtree

-- the left child of a node
part_left : {t : Numbered} {u m : ℕ} {l r : Numbered} (a : ℕ) → PartAt t u (NumberedNode m l r) 0 → PartAt t a l 0
part_left {t} {u} {m} {l} {r} a h =
    record {
      skip = h.skip;
      part = part_trans (in_left here) h.part;
      front = h.front;
      back = m ∷ (numbers r ++ h.back);
      split = h.split ∙ ap (λ xs. h.front ++ xs) (append_assoc (numbers l) (m ∷ numbers r) h.back);
      starts = h.starts;
    }

-- the right child
part_right : {t : Numbered} {u m : ℕ} {l r : Numbered} (a : ℕ) → PartAt t u (NumberedNode m l r) 0 → PartAt t a r 0
part_right {t} {u} {m} {l} {r} a h =
    record {
      skip = h.skip + 2 * leaves (plain_tree l);
      part =
          subst (λ c. IsPart (plain_tree r) c (plain_tree t) 0)
          (let e : right_base (plain_tree l) (0 + h.skip) ≡ 0 + (h.skip + 2 * leaves (plain_tree l)) = omega arith in e)
          (part_trans (in_right here) h.part);
      front = h.front ++ (numbers l ++ m ∷ []);
      back = h.back;
      split =
          h.split
          ∙ ap (λ xs. h.front ++ xs) (append_assoc (numbers l) (m ∷ numbers r) h.back
          ∙ sym (append_assoc (numbers l) (m ∷ []) (numbers r ++ h.back)))
          ∙ sym (append_assoc h.front (numbers l ++ m ∷ []) (numbers r ++ h.back));
      starts =
          omega (
            arith,
            h.starts,
            length-append h.front (numbers l ++ m ∷ []),
            length-append (numbers l) (m ∷ []),
            length_numbers l,
          );
    }

-- what is canonical for the vtree is canonical for the subtree of its root
pub root_below : (t : Numbered) (d : Diagram) → IsCanonical (plain_tree t) 0 d → IsCanonicalForSubtree t (number_of t) d
root_below t d k = record { part = t; is = subtree_root t; at = whole; canonical = k }
  where
    whole : PartAt t (number_of t) t 0
    whole =
        record { skip = 0; part = here; front = []; back = []; split = sym (append-nil (numbers t)); starts = refl }

-- what is canonical for a node

-- it is so for a child, or it stands at the node
below_cases : {l r : Tree} {b : ℕ} {d : Diagram} → IsCanonical (Node l r) b d →
    IsCanonical l b d ⊎ (IsCanonical r (right_base l b) d
    ⊎ ((es : Elements) × (d ≡ Decomposition (position (Node l r) b) es)))
below_cases canonical_bottom = inl canonical_bottom
below_cases canonical_top = inl canonical_top
below_cases (canonical_in_left e k) = inl k
below_cases (canonical_in_right e k) = inr (inl k)
below_cases (canonical_decomposition {elements = es} ps ss partition) = inr (inr (es, refl))

-- a decomposition at the node has primes that are canonical for the left child, and subs for the right child
node_elements : {l r : Tree} {b p : ℕ} {es : Elements} → IsCanonical (Node l r) b (Decomposition p es) →
    p ≡ position (Node l r) b → (x s : Diagram) → IsElement x s es →
    IsCanonical l b x × IsCanonical r (right_base l b) s
node_elements (canonical_in_left {l = l} e k) at x s m =
    absurd (omega (arith, at, (position_within k refl).1, leaves_positive l))
node_elements (canonical_in_right {l = l} e k) at x s m =
    absurd (omega (arith, at, (position_within k refl).0, leaves_positive l))
node_elements (canonical_decomposition ps ss partition) at x s m = (ps x s m, ss x s m)

-- no decomposition is canonical for a leaf
leaf_plain : {x b p : ℕ} {d : Diagram} {es : Elements} → IsCanonical (Leaf x) b d → d ≡ Decomposition p es → ⊥
leaf_plain canonical_bottom e = absurd (cc (e))
leaf_plain canonical_top e = absurd (cc (e))
leaf_plain (canonical_literal s) e = absurd (cc (e))

-- the diagram is canonical for the child with the number a or b, or stands at the node with the number u
abbrev IsSplitBelow : Numbered → ℕ → ℕ → ℕ → Diagram → Type 0
IsSplitBelow t u a b d =
    IsCanonicalForSubtree t a d ⊎ (IsCanonicalForSubtree t b d
    ⊎ ((q : ℕ) × (es : Elements) × (d ≡ Decomposition q es) × (slice_get (numbers t) q ≡ Some u)))

-- the same by the numbers of the nodes
module _ (t : Numbered) (u a b : ℕ) (i : InnerPart t u a b) where
  left_below : (at : PartAt t u (NumberedNode u i.left i.right) 0) (d : Diagram) →
      IsCanonical (plain_tree i.left) (0 + at.skip) d → IsCanonicalForSubtree t a d
  unfolding part_left
  left_below at d k = record { part = i.left; is = i.left_is; at = part_left a at; canonical = k }

  right_below : (at : PartAt t u (NumberedNode u i.left i.right) 0) (d : Diagram) →
      IsCanonical (plain_tree i.right) (right_base (plain_tree i.left) (0 + at.skip)) d → IsCanonicalForSubtree t b d
  unfolding part_right
  right_below at d k =
      record {
        part = i.right;
        is = i.right_is;
        at = part_right b at;
        canonical =
            subst (λ c. IsCanonical (plain_tree i.right) c d)
            (let e : right_base (plain_tree i.left) (0 + at.skip) ≡ 0 + (at.skip + 2 * leaves (plain_tree i.left)) =
            omega arith in e) k;
      }

  -- what is canonical for a node is so for a child, or stands at the node
  split_below : (d : Diagram) → IsCanonicalForSubtree t u d → IsSplitBelow t u a b d
  split_below d h =
      subst (λ s. (at : PartAt t u s 0) → IsCanonical (plain_tree s) (0 + at.skip) d → IsSplitBelow t u a b d)
      (same_Some (NumberedNode u i.left i.right) h.part (sym i.is ∙ h.is)) inner h.at h.canonical
    where
      inner : (at : PartAt t u (NumberedNode u i.left i.right) 0) →
          IsCanonical (Node (plain_tree i.left) (plain_tree i.right)) (0 + at.skip) d → IsSplitBelow t u a b d
      inner at k = go (below_cases k)
        where
          go : IsCanonical (plain_tree i.left) (0 + at.skip) d
              ⊎ (IsCanonical (plain_tree i.right) (right_base (plain_tree i.left) (0 + at.skip)) d
              ⊎ ((es : Elements)
              × (d ≡ Decomposition (position (Node (plain_tree i.left) (plain_tree i.right)) (0 + at.skip)) es))) →
              IsSplitBelow t u a b d
          go (inl k) = inl (left_below at d k)
          go (inr (inl k)) = inr (inl (right_below at d k))
          go (inr (inr w)) =
              inr (inr (
                position (Node (plain_tree i.left) (plain_tree i.right)) (0 + at.skip),
                w.0,
                w.1,
                part_number t u (NumberedNode u i.left i.right) at,
              ))

  -- the primes of a decomposition that stands at the node are canonical for its left child, the subs for its right one
  elements_below : IsNumbered t → (p : ℕ) (es : Elements) → slice_get (numbers t) p ≡ Some u →
      IsCanonical (plain_tree t) 0 (Decomposition p es) → PartAt t u (NumberedNode u i.left i.right) 0 →
      (x s : Diagram) → IsElement x s es → IsCanonicalForSubtree t a x × IsCanonicalForSubtree t b s
  elements_below v p es stands k at x s m =
      let mine = under_canonical t v u u p (NumberedNode u i.left i.right) (Decomposition p es) at
      (number_of_in (NumberedNode u i.left i.right)) stands refl k in
      let own : p ≡ position (Node (plain_tree i.left) (plain_tree i.right)) (0 + at.skip) =
      one_place (numbers t) u p (position (Node (plain_tree i.left) (plain_tree i.right)) (0 + at.skip))
      (once_numbered t v u)
      stands (part_number t u (NumberedNode u i.left i.right) at) in
      let e = node_elements mine own x s m in
      (left_below at x e.0, right_below at s e.1)

-- a pair of a decomposition shows one of its elements
pair_shown : (t : Table) (c p : ℕ) (es : Elements) (e : ℕ × ℕ) → IsAmong e (pairs_at t c) →
    Shows t c (Decomposition p es) → ShowsElement t e es
pair_shown t c p es e among h =
    let k = h.1 in
    let pairs : pairs_at t c ≡ k.list =
    pairs_node t c k.number (k.place, k.list) k.code (linked_key t k.number (k.place, k.list) k.stored) in
    let r = element_shown t.vtree (get t.linked) c p es h k.number k.place k.list k.code k.stored e
    (subst (IsAmong e) pairs among) in
    record { prime = r.0; sub = r.1; member = r.2; shows_prime = r.3; shows_sub = r.4 }

-- a code that has a rank or stands in a group has a rank if it stands in none
pub ranked_or : (o : Ordered) (groups : BTreeMap ℕ (Vec ℕ Global)) (c : ℕ) → HasRankOrGroup o groups c →
    (IsLeft groups c → ⊥) → IsSome (rank_of o c)
ranked_or o groups c (inl r) none = r
ranked_or o groups c (inr l) none = absurd (none l)

-- at a leaf there is no group
pub nothing_below : (t : Table) → IsTable t → (o : Ordered) (groups : BTreeMap ℕ (Vec ℕ Global)) (u : ℕ) →
    AreLeft t o groups → None ≡ children_at t.vtree u → AreRankedBelow t o o groups groups u
nothing_below t table o groups u left leaf =
    record { left = left; keeps_all = λ c s. s; fewer = λ c l. l; none = none }
  where
    leaf_only : (s : Numbered) (b : ℕ) (d : Diagram) (p : ℕ) (es : Elements) → None ≡ child_numbers s →
        IsCanonical (plain_tree s) b d → d ≡ Decomposition p es → ⊥
    leaf_only (NumberedLeaf n x) b d p es e k is = leaf_plain k is
    leaf_only (NumberedNode n l r) b d p es e k is = absurd (cc (e))

    none : (c : ℕ) (d : Diagram) → IsLeft groups c → Shows t c d → IsCanonicalForSubtree t.vtree u d → ⊥
    none c d l shows h =
        let at : IsNodeAt t l.position c =
        all_at (IsNodeAt t l.position) l.group.items c (left.each l.position l.group l.is).each l.among in
        leaf_only h.part (0 + h.at.skip) d l.position at.0 (leaf ∙ ap (option_and_then child_numbers) h.is) h.canonical
        (one_diagram t.vtree (get t.linked) table.numbered d c (Decomposition l.position at.0) shows at.1.shows)

-- the node after its children
module _ (t : Table) (table : IsTable t) (o0 o1 o2 : Ordered) (g0 g1 g2 : BTreeMap ℕ (Vec ℕ Global)) (u a b p : ℕ)
    (i : InnerPart t.vtree u a b) (at : slice_get (numbers t.vtree) p ≡ Some u)
    (first : AreRankedBelow t o0 o1 g0 g1 a) (second : AreRankedBelow t o1 o2 g1 g2 b) where
  -- the codes of the pairs of the node's group have ranks
  pub ready_group : (v : Vec ℕ Global) → tree.get nat_cmp g2 p ≡ Some v →
      PartAt t.vtree u (NumberedNode u i.left i.right) 0 → AllByRecursion (HasRankedPairs t o2) v.items
  ready_group v is part =
      all_from (HasRankedPairs t o2) v.items (λ c m. all_from (HasRanks o2) (pairs_at t c) (both c m))
    where
      both : (c : ℕ) → IsAmong c v.items → (e : ℕ × ℕ) → IsAmong e (pairs_at t c) → HasRanks o2 e
      both c m e k =
          let shown : IsNodeAt t p c = all_at (IsNodeAt t p) v.items c (second.left.each p v is).each m in
          let w = pair_shown t c p shown.0 e k shown.1.shows in
          let below = elements_below t.vtree u a b i table.numbered p shown.0 at shown.1.canonical part w.prime w.sub
          w.member in
          let l : IsLeft g2 c = record { position = p; group = v; is = is; among = m } in
          let stand = all_at (λ x. HasRankOrGroup o2 g2 x.0 × HasRankOrGroup o2 g2 x.1) (pairs_at t c) e
          (second.left.closed c l) k in (
            ranked_or o2 g2 e.0 stand.0
                (λ x. first.none e.0 w.prime (second.fewer e.0 x) w.shows_prime below.0),
            ranked_or o2 g2 e.1 stand.1 (λ x. second.none e.1 w.sub x w.shows_sub below.1),
          )

  -- when the group is gone and its codes have ranks, none is left
  pub ranked_node : (o3 : Ordered) (g3 : BTreeMap ℕ (Vec ℕ Global)) → AreRanks t o3 → IsFresh t o3 g3 →
      KeepRankOrGroup o2 o3 g2 g3 → tree.get nat_cmp g3 p ≡ None →
      ((q : ℕ) (v : Vec ℕ Global) → tree.get nat_cmp g3 q ≡ Some v → tree.get nat_cmp g2 q ≡ Some v) →
      AreRankedBelow t o0 o3 g0 g3 u
  ranked_node o3 g3 ranks fresh keeps_all gone rest =
      record {
        left =
            record {
              ranks = ranks;
              each = λ q v e. second.left.each q v (rest q v e);
              fresh = fresh;
              closed = λ c l. pairs_still o2 o3 g2 g3 keeps_all (pairs_at t c) (second.left.closed c (fewer c l));
            };
        keeps_all = λ c s. keeps_all c (second.keeps_all c (first.keeps_all c s));
        fewer = λ c l. first.fewer c (second.fewer c (fewer c l));
        none = none;
      }
    where
      fewer : (c : ℕ) → IsLeft g3 c → IsLeft g2 c
      fewer c l =
          record {
            position = l.position;
            group = l.group;
            is = rest l.position l.group l.is;
            among = l.among;
          }

      none : (c : ℕ) (d : Diagram) → IsLeft g3 c → Shows t c d → IsCanonicalForSubtree t.vtree u d → ⊥
      none c d l shows h = go (split_below t.vtree u a b i d h)
        where
          shown : IsNodeAt t l.position c
          shown =
              all_at (IsNodeAt t l.position) l.group.items c
              (second.left.each l.position l.group (rest l.position l.group l.is)).each l.among

          index_of : (q : ℕ) (es fs : Elements) → Decomposition q es ≡ Decomposition l.position fs → q ≡ l.position
          index_of q es fs e = cc (e)

          go : IsSplitBelow t.vtree u a b d → ⊥
          go (inl k) = first.none c d (second.fewer c (fewer c l)) shows k
          go (inr (inl k)) = second.none c d (fewer c l) shows k
          go (inr (inr w)) =
              let same : Decomposition w.0 w.1 ≡ Decomposition l.position shown.0 =
              sym w.2 ∙ one_diagram t.vtree (get t.linked) table.numbered d c (Decomposition l.position shown.0) shows
              shown.1.shows in
              let here' : w.0 ≡ l.position = index_of w.0 w.1 shown.0 same in
              let own : p ≡ w.0 =
              one_place (numbers t.vtree) u p w.0 (once_numbered t.vtree table.numbered u) at w.3 in
              absurd (cc (gone, ap (tree.get nat_cmp g3) (own ∙ here'), l.is))

-- what stood still does after a group got ranks
pub still_ranked : (old new : Ordered) (before after : BTreeMap ℕ (Vec ℕ Global)) (p : ℕ) (v : Vec ℕ Global) →
    tree.get nat_cmp before p ≡ Some v →
    ((q : ℕ) → (q ≡ p → ⊥) → tree.get nat_cmp after q ≡ tree.get nat_cmp before q) → KeepRanks old new →
    AllByRecursion (λ c. IsSome (rank_of new c)) v.items → KeepRankOrGroup old new before after
still_ranked old new before after p v is others kept given c (inl r) = inl (kept c r)
still_ranked old new before after p v is others kept given c (inr l) = go (eqb_tells l.position p)
  where
    go : ((eqb l.position p ≡ true) × (l.position ≡ p)) ⊎ ((eqb l.position p ≡ false) × (l.position ≢ p)) →
        HasRankOrGroup new after c
    go (inl w) =
        let same : l.group ≡ v = same_Some l.group v (sym l.is ∙ ap (tree.get nat_cmp before) w.1 ∙ is) in
        inl (all_at (λ c. IsSome (rank_of new c)) v.items c given (subst (λ z. IsAmong c z.items) same l.among))
    go (inr w) =
        inr (record {
          position = l.position;
          group = l.group;
          is = others l.position w.1 ∙ l.is;
          among = l.among;
        })

-- and where there was no group
pub still_nothing : (o : Ordered) (before after : BTreeMap ℕ (Vec ℕ Global)) (p : ℕ) →
    tree.get nat_cmp before p ≡ None →
    ((q : ℕ) → (q ≡ p → ⊥) → tree.get nat_cmp after q ≡ tree.get nat_cmp before q) → KeepRankOrGroup o o before after
still_nothing o before after p is others c (inl r) = inl r
still_nothing o before after p is others c (inr l) =
    inr (record {
      position = l.position;
      group = l.group;
      is = others l.position (λ e. absurd (cc (sym l.is ∙ ap (tree.get nat_cmp before) e ∙ is))) ∙ l.is;
      among = l.among;
    })
