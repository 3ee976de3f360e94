-- The list of a node: it stays, it is read pair by pair, and lists are made of what stands in it.
use Rattle.std.proofs.Common.{◌≡◌, inl, inr, ℕ, ◌+◌, ◌-◌, ◌≤◌, Bool, true, false, ◌&&◌, ◌||◌, List, []}
use Rattle.std.proofs.Common.{length, drop, Option, Some, None, refl, sym, ◌∙◌, ap, subst, arith}
use Rattle.std.proofs.Common.{slice_get}
use Rattle.std.specs.FinMap.{get}
use Rattle.std.proofs.lemmas.List.{at_drop_all}
use Rattle.sd_vtree.specs.Numbered.{or_else}
use Rattle.sd_model.specs.Diagram.{Diagram, meaning}
use Rattle.sd_laws.proofs.Lists.{all_at}
use Rattle.sd_manager.specs.Table.{Table, key_at}
use Rattle.sd_manager.specs.Shown.{HasNode}
use Rattle.sd_manager.specs.Making.{Extends}
use Rattle.sd_manager.specs.Valid.{IsTable}
use Rattle.sd_manager.specs.Views.{pairs_at, view_of}
use Rattle.sd_manager.specs.declared.view.View.{View}
use Rattle.sd_manager.specs.declared.view.View.TheVariants.{Constant as ConstantView, Literal as LiteralView}
use Rattle.sd_manager.specs.declared.view.View.TheVariants.{Decomposition as DecompositionView}
use Rattle.sd_manager.proofs.Reading.{among_at, linked_key, detached_key, pairs_node, view_node}
use Rattle.sd_manager.proofs.Holding.{some_value}
use Rattle.sd_apply.specs.Places.{IsBelow, IsNodeUnder}
use Rattle.sd_apply.specs.Partitions.{IsPartitionOf, ExpandsAt}
use Rattle.sd_apply.proofs.AtNode.{partition_of_on}
use Rattle.sd_apply.proofs.Listed.{node_on}
use Rattle.sd_move.specs.Rewriting.{AreBelow}

-- one product

-- a list that was made of a node is a partition with its value, after another step too
pub expanded_before : (m m1 m2 : Table) → Extends m1 m2 → (p a : ℕ) (l k : List (ℕ × ℕ)) (d : Diagram) →
    IsNodeUnder m p a d → ExpandsAt m m1 p a l → k ≡ l → IsPartitionOf m2 p k (meaning d)
expanded_before m m1 m2 x p a l k d node h same =
    subst (λ q. IsPartitionOf m2 p q (meaning d)) (sym same)
    (partition_of_on m1 m2 x p l (meaning d) (h.each d node))

-- and so is one that is made after another step
pub expanded_then : (m m1 m2 : Table) → Extends m m1 → (p b : ℕ) (l k : List (ℕ × ℕ)) (d : Diagram) →
    IsNodeUnder m p b d → ExpandsAt m1 m2 p b l → k ≡ l → IsPartitionOf m2 p k (meaning d)
expanded_then m m1 m2 x p b l k d node h same =
    subst (λ q. IsPartitionOf m2 p q (meaning d)) (sym same) (h.each d (node_on m m1 x p b d node))

-- the list of a node

-- a node keeps its key
pub key_stays : (a b : Table) → IsTable b → Extends a b → (n : ℕ) (k : ℕ × List (ℕ × ℕ)) → key_at a n ≡ Some k →
    key_at b n ≡ Some k
key_stays a b t e n k h = go (get a.linked n) refl
  where
    go : (o : Option (ℕ × List (ℕ × ℕ))) → get a.linked n ≡ o → key_at b n ≡ Some k
    go None f =
        let d : get a.detached n ≡ Some k = sym (ap (λ o. or_else o (get a.detached n)) f) ∙ h in
        detached_key b t n k (ap (λ z. get z n) e.detached ∙ d)
    go (Some j) f = linked_key b n j (e.nodes n j f) ∙ sym (linked_key a n j f) ∙ h

-- the list of a node stays
pub list_stays : (a b : Table) → IsTable a → IsTable b → Extends a b → (c : ℕ) → HasNode a c → 2050 ≤ c →
    pairs_at b c ≡ pairs_at a c
list_stays a b ta tb e c node low = go node
  where
    go : HasNode a c → pairs_at b c ≡ pairs_at a c
    go (inl lt) = absurd (omega (arith, lt, low, ta.numbered.within_limit))
    go (inr w) =
        let k = some_value (key_at a (c - 2050)) w.1 in
        let code : c ≡ 2050 + (c - 2050) = omega (arith, low) in
        pairs_node b c (c - 2050) k.0 code (key_stays a b tb e (c - 2050) k.0 k.1)
        ∙ sym (pairs_node a c (c - 2050) k.0 code k.1)

pub or_assoc : (x y z : Bool) → ((x || y) || z) ≡ (x || (y || z))
or_assoc true y z = refl
or_assoc false y z = refl

pub or_false : (x : Bool) → x ≡ (x || false)
or_false true = refl
or_false false = refl

pub and_false : (x : Bool) → (x && false) ≡ false
and_false true = refl
and_false false = refl

-- what is read of the list is a pair that stands below the place
pub pair_below : (m : Table) (p node i : ℕ) (e : ℕ × ℕ) → AreBelow m p (pairs_at m node) →
    slice_get (pairs_at m node) i ≡ Some e → IsBelow m p e.0 × IsBelow m p e.1
pair_below m p node i e all at =
    all_at (λ (e : ℕ × ℕ). IsBelow m p e.0 × IsBelow m p e.1) (pairs_at m node) e all
    (among_at (pairs_at m node) i e at)

-- how many elements a view has
abbrev count_of : View → ℕ
count_of (ConstantView b) = 0
count_of (LiteralView l) = 0
count_of (DecompositionView place n) = n

-- nothing is left of the list where as many pairs were read as the view tells
pub all_read : (m : Table) (node p place count i : ℕ) → IsTable m → HasNode m node → 2050 ≤ node →
    view_of m node ≡ DecompositionView place count → count ≤ i → drop i (pairs_at m node) ≡ []
all_read m node p place count i t node_is low view end = go node_is
  where
    go : HasNode m node → drop i (pairs_at m node) ≡ []
    go (inl lt) = absurd (omega (arith, lt, low, t.numbered.within_limit))
    go (inr w) =
        let k = some_value (key_at m (node - 2050)) w.1 in
        let code : node ≡ 2050 + (node - 2050) = omega (arith, low) in
        let long : length k.0.1 ≡ count =
        ap count_of (sym (view_node m node (node - 2050) k.0 code k.1) ∙ view) in
        let list : pairs_at m node ≡ k.0.1 = pairs_node m node (node - 2050) k.0 code k.1 in
        ap (drop i) list ∙ at_drop_all (λ l. l) k.0.1 i (omega (arith, long, end))
