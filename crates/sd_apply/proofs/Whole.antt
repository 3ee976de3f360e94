-- The operations at the whole vtree, and the partitions that callers hand in.
use Rattle.std.proofs.Common.{◌≡◌, ℕ, ◌+◌, ◌*◌, ◌≤◌, ◌<◌, Bool, not, cond, List}
use Rattle.std.proofs.Common.{[], ◌∷◌, length}
use Rattle.std.proofs.Common.{Some, None, refl, sym, ◌∙◌, ap, subst, arith}
use Rattle.std.proofs.Common.{length-append}
use Rattle.std.specs.List.{AllZip}
use Rattle.std.specs.FinMap.{get}
use Rattle.sd_model.specs.declared.trees.Operation.{Operation}
use Rattle.sd_model.specs.Tree.{Tree, Node, leaves, variables, position}
use Rattle.sd_model.specs.Diagram.{Diagram, Bottom, meaning}
use Rattle.sd_model.specs.Expression.{combine}
use Rattle.sd_model.proofs.Blend.{AgreeOn, agree_left, agree_right}
use Rattle.sd_vtree.specs.Numbered.{Numbered, NumberedLeaf, number_of, plain_tree, numbers, subtree}
use Rattle.sd_vtree.specs.Numbered.{children_at, IsNumbered}
use Rattle.sd_vtree.proofs.Subtrees.{subtree_root, subtree_some, once_numbered}
use Rattle.sd_vtree.proofs.Times.{one_place, times_slice_get}
use Rattle.sd_laws.specs.Pairs.{answers, join, AreElements}
use Rattle.sd_laws.specs.Parts.{IsPart, here, in_left, in_right, IsInner}
use Rattle.sd_laws.specs.Depends.{DependsOn}
use Rattle.sd_laws.specs.Shown.{ShowPairs}
use Rattle.sd_laws.proofs.Joining.{join_value}
use Rattle.sd_laws.proofs.Numbers.{part_of_subtree, part_number}
use Rattle.sd_laws.proofs.Places.{narrowed, narrowed_by, part_trans, part_range}
use Rattle.sd_laws.proofs.Places.{leaves_positive}
use Rattle.sd_manager.specs.Table.{Table}
use Rattle.sd_manager.specs.Shown.{ShowsCanonical, IsNodeOf, IsPartitionAt}
use Rattle.sd_manager.specs.Making.{Extends}
use Rattle.sd_manager.specs.Valid.{IsTable}
use Rattle.sd_apply.specs.Answers.{Combines, Negates, Compresses}
use Rattle.sd_apply.specs.Places.{plain, tree_at, IsNodeUnder, IsBelow, IsThere}
use Rattle.sd_apply.specs.Places.{HasChildren}
use Rattle.sd_apply.specs.Elements.{IsPair, ListsElements, IsPartitionUnder}
use Rattle.sd_apply.specs.Calls.{Applies, NegatesAt, Joins}
use Rattle.sd_apply.proofs.Trees.{ChildrenOf, children_of, apart, nested, below_canonical, left_tree}
use Rattle.sd_apply.proofs.Trees.{right_tree}
use Rattle.sd_apply.proofs.Standing.{leaf_of_none, shown_there}
use Rattle.sd_apply.proofs.Expanding.{listed}
use Rattle.sd_apply.proofs.Merging.{head_same}

-- the root is there, and all canonical diagrams are below it
pub root_there : (t : Numbered) (u : ℕ) → u ≡ number_of t → IsThere t u
root_there t u e = record { part = t; is = ap (subtree t) e ∙ subtree_root t }

pub root_under : (t : Table) (u c : ℕ) (d : Diagram) → u ≡ number_of t.vtree → ShowsCanonical t c d →
    IsNodeUnder t u c d
unfolding root_there
root_under t u c d e h =
    let w = root_there t.vtree u e in
    record {
      shows = h.shows;
      under = below_canonical t.vtree u (plain_tree t.vtree) 0 d
          (ap plain w.is) here h.canonical;
    }

pub root_below : (t : Table) (u c : ℕ) → u ≡ number_of t.vtree → IsNodeOf t c → IsBelow t u c
root_below t u c e h = record { diagram = h.diagram; is = root_under t u c h.diagram e h.is }

-- what a connective answers at the root
pub combines : (old new : Table) → IsTable new → (o : Operation) (u a b c : ℕ) →
    u ≡ number_of old.vtree →
    Applies old new o u a b c → Combines old new o a b c
combines old new i o u a b c e h = record {
  each = λ x y p q.
      let z = h.each x y (root_under old u a x e p) (root_under old u b y e q) in
      record {
        diagram = z.diagram;
        is = z.is;
        value = z.value;
        below = λ s base part k j.
            narrowed_by (leaves (plain_tree new.vtree)) z.diagram x y (combine o) part
            (apart new.vtree i.numbered)
            z.is.canonical k j z.value;
      };
}

-- and negation
pub negates : (old new : Table) → IsTable new → (u a c : ℕ) → u ≡ number_of old.vtree →
    NegatesAt old new u a c →
    Negates old new a c
negates old new i u a c e h = record {
  each = λ x p.
      let z = h.each x (root_under old u a x e p) in
      record {
        diagram = z.diagram;
        is = z.is;
        value = z.value;
        below = λ s base part k.
            narrowed_by (leaves (plain_tree new.vtree)) z.diagram x x (λ v w. not v) part
            (apart new.vtree i.numbered)
            z.is.canonical k k z.value;
      };
}

-- a part with as many leaves is the whole
part_whole : {s t : Tree} {c b : ℕ} → IsPart s c t b → leaves t ≤ leaves s → s ≡ t
part_whole here h = refl
part_whole (in_left {l = l} {r = r} p) h =
    absurd (omega (
      arith,
      part_range p,
      h,
      leaves_positive r,
      length-append (variables l)
          (variables r),
    ))
part_whole (in_right {l = l} {r = r} p) h =
    absurd (omega (
      arith,
      part_range p,
      h,
      leaves_positive l,
      length-append (variables l)
          (variables r),
    ))

-- the positions of a node are around its own
around : (l r : Tree) (b : ℕ) → (b ≤ position (Node l r) b) × (position (Node l r) b + 1 < b + 2 *
    leaves (Node l r))
around l r b = (
  omega (arith, leaves_positive l),
  omega (
    arith,
    leaves_positive l,
    leaves_positive r,
    length-append (variables l) (variables r),
  ),
)

-- the children's trees of a node are determined by its number
pub same_node : (t : Numbered) → IsNumbered t → (p u w : ℕ) (f : ChildrenOf t p u w) (left right : Tree)
    (base : ℕ) →
    IsInner t p left right base → Node left right ≡ Node (plain_tree f.left) (plain_tree f.right)
same_node t v p u w f left right base h =
    let one = position (Node left right) base in
    let two = position (Node (plain_tree f.left) (plain_tree f.right)) f.base in
    let same : one ≡ two = one_place (numbers t) p one two (once_numbered t v p) h.number
    f.inner.number in
    let a = around left right base in
    let b = around (plain_tree f.left) (plain_tree f.right) f.base in
    let there = nested h.part f.inner.part (omega (arith, b.0, same)) (omega (arith, b.1, same)) in
    let back = nested f.inner.part h.part (omega (arith, a.0, same)) (omega (arith, a.1, same)) in
    part_whole there (omega (arith, part_range there, part_range back))

-- elements that a caller hands in
pub elements_from : (t : Table) → IsTable t → (p u w : ℕ) → HasChildren t.vtree p u w → (left right : Tree)
    (base : ℕ) → IsInner t.vtree p left right base → (l : List (ℕ × ℕ)) (ds : List (Diagram × Diagram)) →
    ShowPairs t.vtree (get t.linked) l ds → AreElements left right base ds → ListsElements t u w l ds
elements_from t i p u w e left right base inner l ds shown are =
    let f = children_of t.vtree i.numbered p u w e in
    let same = same_node t.vtree i.numbered p u w f left right base inner in
    let lt : tree_at t.vtree u ≡ left = left_tree t.vtree p u w f ∙ cc in
    let rt : tree_at t.vtree w ≡ right = right_tree t.vtree p u w f ∙ cc in
    record {
      pairs = listed t u w _ _ _
          (λ d a. below_canonical t.vtree u left base d.0 lt (part_trans (in_left here) inner.part) a)
          (λ d a. below_canonical t.vtree w right _ d.1 rt (part_trans (in_right here) inner.part) a)
          (λ d a. a) l ds shown are.primes are.subs are.possible;
    }

-- and a partition
pub partition_from : (t : Table) → IsTable t → (p u w : ℕ) → HasChildren t.vtree p u w →
    (l : List (ℕ × ℕ))
    (ds : List (Diagram × Diagram)) → IsPartitionAt t p l ds → IsPartitionUnder t u w l ds
partition_from t i p u w e l ds h = record {
  lists = elements_from t i p u w e h.left h.right h.base h.inner l ds h.shown h.partition.elements;
  one_true = h.partition.one_true;
}

-- the vtree node of a partition has children
pub inner_children : (t : Table) → IsTable t → (p : ℕ) (l : List (ℕ × ℕ))
    (ds : List (Diagram × Diagram)) →
    IsPartitionAt t p l ds → children_at t.vtree p ≡ None → ⊥
inner_children t i p l ds h none =
    let v = i.numbered in
    let at = position (Node h.left h.right) h.base in
    let s = subtree_some t.vtree p (times_slice_get (numbers t.vtree) at p h.inner.number) in
    let k = leaf_of_none t.vtree p s.0 s.1 none in
    let q = part_of_subtree t.vtree p (NumberedLeaf k.0 k.1) 0 k.2 in
    let number = part_number t.vtree p (NumberedLeaf k.0 k.1) q in
    let root : k.0 ≡ p = Rattle.sd_vtree.proofs.Subtrees.subtree_number t.vtree p
    (NumberedLeaf k.0 k.1) k.2 in
    let same : at ≡ 0 + q.skip = one_place (numbers t.vtree) p at (0 + q.skip) (once_numbered
    t.vtree v p) h.inner.number (number ∙ ap Some root) in
    let inside = nested h.inner.part q.part (omega (arith, same)) (omega (arith, same)) in
    omega (
      arith,
      part_range inside,
      leaves_positive h.left,
      leaves_positive h.right,
      length-append (variables h.left) (variables h.right),
    )

pub inner_there : (t : Table) → IsTable t → (p : ℕ) (l : List (ℕ × ℕ))
    (ds : List (Diagram × Diagram)) →
    IsPartitionAt t p l ds → p < length (numbers t.vtree)
inner_there t i p l ds h = shown_there t i p (position (Node h.left h.right) h.base) Bottom
    h.inner.number

-- answers look at the variables below the node alone
answers_agree : (t : Table) (u w : ℕ) (a b : List Bool) → AgreeOn (tree_at t.vtree u) a b →
    AgreeOn (tree_at t.vtree w) a b →
    (l : List (ℕ × ℕ)) (ds : List (Diagram × Diagram)) → AllZip (IsPair t u w) l ds →
    answers a ds ≡ answers b ds
answers_agree t u w a b p q [] [] h = refl
answers_agree t u w a b p q [] (d ∷ ds) h = absurd h
answers_agree t u w a b p q (e ∷ l) [] h = absurd h
answers_agree t u w a b p q (e ∷ l) (d ∷ ds) h =
    let rest = answers_agree t u w a b p q l ds h.1 in
    ap (λ x. cond x (meaning d.1 a ∷ answers a ds) (answers a ds)) (h.0.prime.depends a b p)
    ∙ ap (λ x. cond (meaning d.0 b) (x ∷ answers a ds) (answers a ds)) (h.0.sub.depends a b q)
    ∙ ap (λ x. cond (meaning d.0 b) (meaning d.1 b ∷ x) x) rest

-- the node of a partition
pub compresses : (old new : Table) → IsTable old → IsTable new → Extends old new → (p u w : ℕ) →
    HasChildren old.vtree p u w → (l : List (ℕ × ℕ)) (c : ℕ) → Joins old new u w l c →
    Compresses old new p l c
compresses old new i j x p u w e l c h = record {
  each = λ ds part.
      let s = partition_from old i p u w e l ds part in
      let z = h.each ds s (meaning (join p ds)) (join_value p ds part.partition.one_true) in
      let value : (a : List Bool) → answers a ds ≡ meaning z.diagram a ∷ [] = λ a.
      join_value p ds part.partition.one_true a ∙ ap (λ v. v ∷ []) (sym (z.value a)) in
      record {
        diagram = z.diagram;
        is = z.is;
        value = value;
        below = λ left right base inner.
            let f = children_of old.vtree i.numbered p u w e in
            let at : IsInner old.vtree p left right base = subst (λ t. IsInner t p left right
            base) x.vtree inner in
            let same = same_node old.vtree i.numbered p u w f left right base at in
            let lt : left ≡ tree_at old.vtree u = (let q : left ≡ plain_tree f.left = cc in q)
            ∙ sym (left_tree old.vtree p u w f) in
            let rt : right ≡ tree_at old.vtree w = (let q : right ≡ plain_tree f.right = cc in q)
            ∙ sym (right_tree old.vtree p u w f) in
            let look : DependsOn (Node left right) (meaning z.diagram) = λ a b g.
            head_same (meaning z.diagram a) (meaning z.diagram b)
            (sym (value a)
            ∙ answers_agree old u w a b (subst (λ t. AgreeOn t a b) lt (agree_left left right a b
            g))
            (subst (λ t. AgreeOn t a b) rt (agree_right left right a b g)) l ds s.lists.pairs
            ∙ value b) in
            narrowed (leaves (plain_tree new.vtree)) inner.part (apart new.vtree j.numbered)
            z.is.canonical look;
      };
}
