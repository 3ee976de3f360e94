-- The node of pairs that show the elements of a canonical decomposition.
use Rattle.std.proofs.Common.{◌≡◌, ℕ, ◌<◌, Bool, List, [], ◌∷◌, map, length, Some, slice_get}
use Rattle.std.proofs.Common.{refl, sym, ◌∙◌, ap, subst, arith, length-append}
use Rattle.std.specs.FinMap.{get}
use Rattle.sd_model.specs.Tree.{Tree, Leaf, Node, variables, position, right_base, AreDistinct}
use Rattle.sd_model.specs.Diagram.{Diagram, Decomposition, Elements, meaning}
use Rattle.sd_model.specs.Canonical.{IsCanonical, canonical_in_left, canonical_in_right, canonical_decomposition}
use Rattle.sd_model.proofs.OverVtree.{unique_lem}
use Rattle.sd_model.proofs.Valued.{Decomposes}
use Rattle.sd_vtree.specs.Numbered.{Numbered, numbers, plain_tree}
use Rattle.sd_vtree.proofs.Sides.{length_numbers}
use Rattle.sd_laws.specs.Pairs.{pairs_of, HasValue}
use Rattle.sd_laws.specs.Parts.{IsPart, here, in_left, in_right, IsInner}
use Rattle.sd_laws.proofs.Codes.{pairs_shown}
use Rattle.sd_laws.proofs.Expanded.{own_parts, own_partition, own_value, own_compressed}
use Rattle.sd_laws.proofs.Nodes.{partition_permuted, sub_codes_differ}
use Rattle.sd_laws.proofs.Pairs.{HasValue_permuted, IsCompressed_permuted}
use Rattle.sd_laws.proofs.Places.{canonical_in, position_within, leaves_positive}
use Rattle.sd_manager.specs.Table.{Table}
use Rattle.sd_manager.specs.Shown.{ShowsCanonical, IsPartitionAt}
use Rattle.sd_manager.specs.Making.{Extends, IsMade}
use Rattle.sd_manager.specs.Valid.{IsTable}
use Rattle.sd_records.specs.Reading.{ShowDecomposition}

-- ---- the place

-- the node of a canonical decomposition
record OwnNode (t : Tree) (b p : ℕ) : Type 0 where
  pub left : Tree
  pub right : Tree
  pub base : ℕ
  pub part : IsPart (Node left right) base t b
  pub stands : p ≡ position (Node left right) base

-- is a part of the vtree
own_node : (t : Tree) (b p : ℕ) (es : Elements) → IsCanonical t b (Decomposition p es) → OwnNode t b p
own_node (Leaf x) b p es k = elim k [ ]
own_node (Node l r) b p es (canonical_in_left e k) =
    let i : OwnNode l b p = own_node l b p es k in
    record { left = i.left; right = i.right; base = i.base; part = in_left i.part; stands = i.stands }
own_node (Node l r) b p es (canonical_in_right e k) =
    let i : OwnNode r (right_base l b) p = own_node r (right_base l b) p es k in
    record { left = i.left; right = i.right; base = i.base; part = in_right i.part; stands = i.stands }
own_node (Node l r) b p es (canonical_decomposition ps ss partition) =
    record { left = l; right = r; base = b; part = here; stands = refl }

-- its position is one of the vtree's
pub position_there : (t : Numbered) (p : ℕ) (es : Elements) → IsCanonical (plain_tree t) 0 (Decomposition p es)
    → p < length (numbers t)
position_there t p es k = omega (arith, (position_within k refl).1, length_numbers t)

-- ---- the partition

-- the pairs show a partition of the place, of different subs, which has the value f
pub record IsParted (t : Table) (u : ℕ) (pairs : List (ℕ × ℕ)) (f : List Bool → Bool) : Type 0 where
  pub ds : List (Diagram × Diagram)
  pub partition : IsPartitionAt t u pairs ds
  pub value : HasValue ds f
  pub differ : AreDistinct (map (λ (e : ℕ × ℕ). e.1) pairs)

-- so do those that show a canonical decomposition
pub parted : (t : Table) → IsTable t → (p u : ℕ) (pairs : List (ℕ × ℕ)) (es : Elements)
    → ShowDecomposition t p pairs es → slice_get (numbers t.vtree) p ≡ Some u
    → IsParted t u pairs (meaning (Decomposition p es))
parted t table p u pairs es h at =
    let o : OwnNode (plain_tree t.vtree) 0 p = own_node (plain_tree t.vtree) 0 p es h.canonical in
    let a = leaves_positive o.left in
    let b = leaves_positive o.right in
    let own : p ≡ position (Node o.left o.right) o.base = o.stands in
    let within : IsCanonical (Node o.left o.right) o.base (Decomposition p es) =
    canonical_in o.part h.canonical refl (omega (arith, own, a))
    (omega (arith, own, a, b, length-append (variables o.left) (variables o.right))) in
    let dec : Decomposes o.left o.right o.base es = own_parts o.left o.right o.base p es within own in
    let inner : IsInner t.vtree u o.left o.right o.base =
    record { part = o.part; number = ap (slice_get (numbers t.vtree)) (sym own) ∙ at } in
    let first : IsPartitionAt t u h.list (pairs_of es) =
    record {
      left = o.left;
      right = o.right;
      base = o.base;
      inner = inner;
      shown = pairs_shown t.vtree (get t.linked) h.list es h.shown;
      partition = own_partition o.left o.right o.base es dec;
    } in
    let f = partition_permuted t.vtree (get t.linked) u h.list pairs (pairs_of es) first h.order in
    record {
      ds = f.0;
      partition = f.2;
      value = HasValue_permuted (pairs_of es) f.0 (meaning (Decomposition p es)) f.1
          (own_value o.left o.right o.base p es dec);
      differ = sub_codes_differ t.vtree (get t.linked) table.numbered pairs f.0 f.2.shown
          (IsCompressed_permuted (pairs_of es) f.0 f.1 (own_compressed o.left o.right o.base es dec));
    }

-- ---- the node

-- two values of one list
one_value : (x y : Bool) → x ∷ [] ≡ y ∷ [] → x ≡ y
one_value x y e = cc

-- what is made of the partition shows the decomposition
pub decomposition_made : (old new : Table) → IsTable old → (p u c : ℕ) (pairs : List (ℕ × ℕ)) (es : Elements)
    → ShowDecomposition old p pairs es → slice_get (numbers old.vtree) p ≡ Some u → Extends old new
    → ((ds : List (Diagram × Diagram)) → IsPartitionAt old u pairs ds → IsMade new c ds)
    → ShowsCanonical new c (Decomposition p es)
decomposition_made old new table p u c pairs es h at kept made =
    let k = parted old table p u pairs es h at in
    let z = made k.ds k.partition in
    let canonical : IsCanonical (plain_tree old.vtree) 0 z.diagram =
    subst (λ v. IsCanonical (plain_tree v) 0 z.diagram) kept.vtree z.is.canonical in
    let same : z.diagram ≡ Decomposition p es =
    unique_lem (plain_tree old.vtree) z.diagram (Decomposition p es) table.numbered.vtree canonical h.canonical
    (λ a fits. one_value (meaning z.diagram a) (meaning (Decomposition p es) a) (sym (z.value a) ∙ k.value a)) in
    subst (ShowsCanonical new c) same z.is
