-- Cells that partitions cut: what one partition more does, and that a cut by halves is one by all.
use Rattle.std.proofs.Common.{◌≡◌, ℕ, zero, suc, ◌+◌, ◌/◌, ◌≤◌, ◌<◌, Bool, true, false, cond, ◌&&◌, ◌||◌}
use Rattle.std.proofs.Common.{List, [], ◌∷◌, ◌++◌, length, map, take, drop, get_or, Some, slice_get, slice_range}
use Rattle.std.proofs.Common.{append_assoc, append-nil, refl, sym, ◌∙◌, ap, subst, arith}
use Rattle.std.specs.List.{AllZip}
use Rattle.std.specs.FinMap.{get}
use Rattle.std.proofs.lemmas.List.{at_drop_more, at_drop_all, length-drop, map-append, take-append-drop, take_rest}
use Rattle.std.proofs.lemmas.Nat.{div_below, le-div}
use Rattle.sd_model.specs.declared.trees.Operation.TheVariants.{And, Or}
use Rattle.sd_model.specs.Diagram.{Diagram, Bottom, Top, meaning}
use Rattle.sd_model.specs.Expression.{combine}
use Rattle.sd_laws.specs.Pairs.{answers}
use Rattle.sd_laws.specs.Values.{IsSame, pairs_value}
use Rattle.sd_laws.proofs.Codes.{bottom_from_code}
use Rattle.sd_laws.proofs.Evaluated.{value_of}
use Rattle.sd_manager.specs.Table.{Table}
use Rattle.sd_manager.specs.Shown.{HasNode}
use Rattle.sd_manager.specs.Making.{Extends}
use Rattle.sd_manager.specs.Valid.{IsTable}
use Rattle.sd_manager.specs.Views.{pairs_at}
use Rattle.sd_manager.proofs.Extending.{extends_self, extends_on}
use Rattle.sd_apply.specs.Elements.{IsPair, products}
use Rattle.sd_apply.specs.Growing.{GrowsStrictlyBelow}
use Rattle.sd_apply.specs.Partitions.{IsInnerNode, IsPartitionOf, AreElementsOf, AreDisjointAt, MultipliesAt}
use Rattle.sd_apply.specs.Places.{HasChildren, IsBelow, IsNodeUnder}
use Rattle.sd_apply.proofs.AtNode.{elements_below, elements_of_list, elements_append, elements_none, elements_of_on}
use Rattle.sd_apply.proofs.AtNode.{elements_partition, partition_of_on}
use Rattle.sd_apply.proofs.Growing.{strictly_both, strictly_none}
use Rattle.sd_apply.proofs.Listed.{children_on, node_on}
use Rattle.sd_apply.proofs.Trees.{bottom_under, top_under}
use Rattle.sd_move.specs.Cells.{value_within, IsCut, IsCell, ArePartitions, AddsSums}
use Rattle.sd_move.specs.Rewriting.{AreBelow}
use Rattle.sd_move.proofs.Below.{from_index}
use Rattle.sd_move.proofs.Branching.{right_wider}
use Rattle.sd_move.proofs.NewList.{or_assoc, or_false, and_false, list_stays, pair_below}
use Rattle.sd_move.proofs.Spreading.{shown_value, possible_diagram, before_rest}

-- values

or_swap : (x y : Bool) → (x || y) ≡ (y || x)
or_swap true true = refl
or_swap true false = refl
or_swap false true = refl
or_swap false false = refl

-- what a value adds where f is true
products_within : (f d x : Bool) → products Or (cond f (d ∷ []) []) (x ∷ []) ≡ cond f ((d || x) ∷ []) []
products_within true d x = refl
products_within false d x = refl

map_within : (f h x : Bool) → map (λ y. h || y) (cond f (x ∷ []) []) ≡ cond f ((h || x) ∷ []) []
map_within true h x = refl
map_within false h x = refl

-- the value of the first cell, joined to others, and those of the rest
gained_first : (b h x : Bool) (l : List Bool) → cond b ((h || x) ∷ []) [] ++ map (λ y. h || y) l
    ≡ map (λ y. h || y) (cond b (x ∷ []) [] ++ l)
gained_first true h x l = refl
gained_first false h x l = refl

one_at_most : (b c : Bool) → length (cond b (c ∷ []) []) ≤ 1
one_at_most true c = omega arith
one_at_most false c = omega arith

-- lists of pairs

-- those from an index on begin with the one there
pub lists_from : {X : Type 0} (f : X → List (ℕ × ℕ)) (l : List X) (i : ℕ) (d e : X) → i < length l →
    e ≡ get_or l i d → map f (drop i l) ≡ f e ∷ map f (drop (i + 1) l)
lists_from f l i d e lt is =
    ap (map f) (at_drop_more (λ k. k) l i d lt) ∙ ap (λ x. f x ∷ map f (drop (i + 1) l)) (sym is)

pub lists_end : {X : Type 0} (f : X → List (ℕ × ℕ)) (l : List X) (i : ℕ) → length l ≤ i → map f (drop i l) ≡ []
lists_end f l i end = ap (map f) (at_drop_all (λ k. k) l i end)

-- the first of them and the others
pub lists_parted : {X : Type 0} (f : X → List (ℕ × ℕ)) (l : List X) (n : ℕ) → map f l
    ≡ map f (take n l) ++ map f (slice_range l n (length l))
lists_parted f l n =
    ap (map f) (sym (take-append-drop n l)) ∙ map-append f (take n l) (drop n l)
    ∙ ap (λ k. map f (take n l) ++ map f k) (sym (take_rest l n))

-- partitions

-- the same elements, whose values are told otherwise
same_elements : (t : Table) (p : ℕ) (l : List (ℕ × ℕ)) (f g : List Bool → List Bool) → AreElementsOf t p l f →
    ((a : List Bool) → f a ≡ g a) → AreElementsOf t p l g
same_elements t p l f g h same = record {
  diagrams = h.diagrams;
  left = h.left;
  right = h.right;
  base = h.base;
  inner = h.inner;
  shown = h.shown;
  elements = h.elements;
  value = λ a. h.value a ∙ same a;
}

products_with_false : (values : List Bool) → products Or values (false ∷ []) ≡ values
products_with_false [] = refl
products_with_false (x ∷ values) = ap (λ y. y ∷ products Or values (false ∷ [])) (sym (or_false x))
    ∙ ap (λ ys. x ∷ ys) (products_with_false values)

-- a false sum leaves each value as it was
pub sums_with_false : (t : Table) → IsTable t → (p : ℕ) (l : List (ℕ × ℕ)) (values : List Bool → List Bool)
    (d : Diagram) → AreElementsOf t p l values → IsNodeUnder t p 0 d
    → AreElementsOf t p l (λ a. products Or (values a) (meaning d a ∷ []))
sums_with_false t valid p l values d h node = same_elements t p l values
    (λ a. products Or (values a) (meaning d a ∷ [])) h
    (λ a. sym (ap (λ x. products Or (values a) (x ∷ []))
    (ap (λ e. meaning e a) (bottom_from_code t.vtree (get t.linked) valid.numbered d node.shows))
    ∙ products_with_false (values a)))

pub partitions_on : (old new : Table) → Extends old new → (p : ℕ) (ls : List (List (ℕ × ℕ))) (g : List Bool → Bool) →
    ArePartitions old p ls g → ArePartitions new p ls g
partitions_on old new x p [] g h = h
partitions_on old new x p (l ∷ ls) g h =
    (h.0, h.1, partition_of_on old new x p l h.0 h.2, partitions_on old new x p ls h.1 h.3, h.4)

partitions_same : (t : Table) (p : ℕ) (ls : List (List (ℕ × ℕ))) (f g : List Bool → Bool) → ArePartitions t p ls f →
    IsSame f g → ArePartitions t p ls g
partitions_same t p [] f g h s = λ a. sym (s a) ∙ h a
partitions_same t p (l ∷ ls) f g h s = (h.0, h.1, h.2, h.3, (λ a. h.4 a ∙ s a))

-- one more
partitions_push : (t : Table) (p : ℕ) (ls : List (List (ℕ × ℕ))) (l : List (ℕ × ℕ)) (g f : List Bool → Bool) →
    ArePartitions t p ls g → IsPartitionOf t p l f → ArePartitions t p (ls ++ l ∷ []) (λ a. g a || f a)
partitions_push t p [] l g f h k =
    (f, (λ _. false), k, (λ a. refl), (λ a. sym (or_false (f a)) ∙ sym (ap (λ b. b || f a) (h a))))
partitions_push t p (e ∷ ls) l g f h k = (
  h.0,
  (λ a. h.1 a || f a),
  h.2,
  partitions_push t p ls l h.1 f h.3 k,
  (λ a. sym (or_assoc (h.0 a) (h.1 a) (f a)) ∙ ap (λ b. b || f a) (h.4 a)),
)

-- the first and the others, each with a value
pub parted : (t : Table) (p : ℕ) (l k : List (List (ℕ × ℕ))) (g : List Bool → Bool) → ArePartitions t p (l ++ k) g →
    (f : List Bool → Bool) × (h : List Bool → Bool) × ArePartitions t p l f × ArePartitions t p k h
    × IsSame (λ a. f a || h a) g
parted t p [] k g h = ((λ _. false), g, (λ a. refl), h, (λ a. refl))
parted t p (e ∷ l) k g h =
    let r = parted t p l k h.1 h.3 in (
      (λ a. h.0 a || r.0 a),
      r.1,
      (h.0, r.0, h.2, r.2, (λ a. refl)),
      r.3,
      (λ a. or_assoc (h.0 a) (r.0 a) (r.1 a) ∙ ap (λ b. h.0 a || b) (r.4 a) ∙ h.4 a),
    )

-- cells

-- the one that is true everywhere
pub whole_cell : (t : Table) → IsTable t → (p u w : ℕ) → HasChildren t.vtree p u w → IsCell t p 1 (λ _. true)
whole_cell t i p u w e =
    elements_of_list t i p u w e ((1, 0) ∷ []) (value_within (λ _. true) (λ _. false)) (record {
      shown = (Top, Bottom) ∷ [];
      lists = record {
        pairs = (
          record {
            prime_shows = refl;
            sub_shows = refl;
            prime = top_under t.vtree u;
            sub = bottom_under t.vtree w;
            possible = possible_diagram Top [] refl;
          },
          tt,
        );
      };
      value = λ a. refl;
    })

-- in a larger table too
pub whole_cell_on : (old new : Table) → IsTable new → Extends old new → (p : ℕ) → (r : IsInnerNode old.vtree p) →
    IsCell new p 1 (λ _. true)
whole_cell_on old new i x p r =
    whole_cell new i p r.left r.right (children_on old new x p r.left r.right r.children)

-- the vtree node has children in a larger table too
pub inner_on : (old new : Table) → Extends old new → (p : ℕ) → IsInnerNode old.vtree p → IsInnerNode new.vtree p
inner_on old new x p r = record {
  left = r.left;
  right = r.right;
  children = children_on old new x p r.left r.right r.children;
}

-- what it is cut into is a partition
pub whole_cut : (t : Table) (p : ℕ) (l : List (ℕ × ℕ)) (g : List Bool → Bool) → IsCut t p l (λ _. true) g →
    IsPartitionOf t p l g
whole_cut t p l g h = elements_partition t p l (value_within (λ _. true) g) g h (λ a. refl)

pub cut_disjoint : (t : Table) (p : ℕ) (l : List (ℕ × ℕ)) (f g : List Bool → Bool) → IsCut t p l f g →
    AreDisjointAt t p l
cut_disjoint t p l f g h = record { values = value_within f g; are = h; most_one = λ a. one_at_most (f a) (g a) }

-- partitions one after the other

-- the value of the list so far makes the whole value with that of the partitions that are left
pub record HasCut (now : Table) (p : ℕ) (list : List (ℕ × ℕ)) (rest : List (List (ℕ × ℕ))) (f g : List Bool → Bool)
    : Type 0 where
  pub done : List Bool → Bool
  pub left : List Bool → Bool
  pub cut : IsCut now p list f done
  pub partitions : ArePartitions now p rest left
  pub whole : IsSame (λ a. done a || left a) g

-- What is so of the list between two partitions, for each value of the cell and of them.
pub record IsCutting (first now : Table) (p cell : ℕ) (parts : List (List (ℕ × ℕ))) (list : List (ℕ × ℕ))
    (rest : List (List (ℕ × ℕ))) : Type 0 where
  pub each : (f g : List Bool → Bool) → IsCell first p cell f → ArePartitions first p parts g →
      HasCut now p list rest f g
  pub kept : Extends first now
  pub grown : GrowsStrictlyBelow first now p
  pub table : IsTable now

pub cutting_first : (t : Table) → IsTable t → (p cell : ℕ) (parts : List (List (ℕ × ℕ))) (list : List (ℕ × ℕ)) →
    list ≡ (cell, 0) ∷ [] → IsCutting t t p cell parts list parts
cutting_first t i p cell parts list same = record {
  each = λ f g c k. record {
    done = λ _. false;
    left = g;
    cut = subst (λ l. IsCut t p l f (λ _. false)) (sym same) c;
    partitions = k;
    whole = λ a. refl;
  };
  kept = extends_self t;
  grown = strictly_none t p;
  table = i;
}

pub cutting_more : (first now next : Table) (p cell : ℕ) (parts : List (List (ℕ × ℕ)))
    (list part one other more : List (ℕ × ℕ)) (rest : List (List (ℕ × ℕ))) →
    IsCutting first now p cell parts list (part ∷ rest) → Extends now next → IsTable next →
    GrowsStrictlyBelow now next p → one ≡ list → other ≡ part → MultipliesAt now next Or p one other more →
    IsCutting first next p cell parts more rest
cutting_more first now next p cell parts list part one other more rest h x i g first_is second_is product = record {
  each = λ f v c k.
      let s = h.each f v c k in
      let q = s.partitions in
      record {
        done = λ a. s.done a || q.0 a;
        left = q.1;
        cut = same_elements next p more (λ a. products Or (value_within f s.done a) (q.0 a ∷ []))
            (value_within f (λ a. s.done a || q.0 a))
            (product.part (value_within f s.done) q.0
            (subst (λ l. IsCut now p l f s.done) (sym first_is) s.cut)
            (subst (λ l. IsPartitionOf now p l q.0) (sym second_is) q.2))
            (λ a. products_within (f a) (s.done a) (q.0 a));
        partitions = partitions_on now next x p rest q.1 q.3;
        whole = λ a. or_assoc (s.done a) (q.0 a) (q.1 a) ∙ ap (λ b. s.done a || b) (q.4 a) ∙ s.whole a;
      };
  kept = extends_on first now next h.kept x;
  grown = strictly_both first now next p x h.grown g;
  table = i;
}

-- a part is there, and the list has at most one true prime
pub part_there : (first now : Table) (p cell : ℕ) (parts : List (List (ℕ × ℕ))) (list part : List (ℕ × ℕ))
    (rest : List (List (ℕ × ℕ))) (f g : List Bool → Bool) → IsCell first p cell f → ArePartitions first p parts g →
    IsCutting first now p cell parts list (part ∷ rest) →
    (h : List Bool → Bool) × AreDisjointAt now p list × IsPartitionOf now p part h
part_there first now p cell parts list part rest f g c k h =
    let s = h.each f g c k in (s.partitions.0, cut_disjoint now p list f s.done s.cut, s.partitions.2)

pub cutting_last : (first now : Table) (p cell : ℕ) (parts : List (List (ℕ × ℕ))) (list : List (ℕ × ℕ)) →
    IsCutting first now p cell parts list [] → (f g : List Bool → Bool) → IsCell first p cell f →
    ArePartitions first p parts g → IsCut now p list f g
cutting_last first now p cell parts list h f g c k =
    let s = h.each f g c k in
    same_elements now p list (value_within f s.done) (value_within f g) s.cut
    (λ a. ap (λ b. cond (f a) (b ∷ []) [])
    (or_false (s.done a) ∙ ap (λ b. s.done a || b) (sym (s.partitions a)) ∙ s.whole a))

-- by halves

-- what is shown of the first element of a list
pub record HasFirst (t : Table) (p : ℕ) (e : ℕ × ℕ) (rest : List (ℕ × ℕ)) (values : List Bool → List Bool) : Type 0
  where
    pub prime : Diagram
    pub sub : Diagram
    pub after : List Bool → List Bool
    pub cell : IsCell t p e.0 (meaning prime)
    pub below : IsNodeUnder t p e.1 sub
    pub others : AreElementsOf t p rest after
    pub parts : (a : List Bool) → values a ≡ cond (meaning prime a) (meaning sub a ∷ []) [] ++ after a

first_of : (t : Table) → IsTable t → (p u w : ℕ) → HasChildren t.vtree p u w → (e : ℕ × ℕ) (rest : List (ℕ × ℕ))
    (values : List Bool → List Bool) → AreElementsOf t p (e ∷ rest) values → HasFirst t p e rest values
first_of t i p u w c e rest values h =
    go h.diagrams (elements_below t i p u w c (e ∷ rest) values h).pairs h.value
  where
    go : (ds : List (Diagram × Diagram)) → AllZip (IsPair t u w) (e ∷ rest) ds →
        ((a : List Bool) → answers a ds ≡ values a) → HasFirst t p e rest values
    go [] z v = absurd z
    go (d ∷ ds) z v = record {
      prime = d.0;
      sub = d.1;
      after = λ a. answers a ds;
      cell = elements_of_list t i p u w c ((e.0, 0) ∷ []) (value_within (meaning d.0) (λ _. false)) (record {
        shown = (d.0, Bottom) ∷ [];
        lists = record {
          pairs = (
            record {
              prime_shows = z.0.prime_shows;
              sub_shows = refl;
              prime = z.0.prime;
              sub = bottom_under t.vtree w;
              possible = z.0.possible;
            },
            tt,
          );
        };
        value = λ a. refl;
      });
      below = right_wider t i p u w e.1 d.1 c (record { shows = z.0.sub_shows; under = z.0.sub });
      others = elements_of_list t i p u w c rest (λ a. answers a ds)
          (record { shown = ds; lists = record { pairs = z.1 }; value = λ a. refl });
      parts = λ a. sym (v a) ∙ sym (before_rest (meaning d.0 a) (meaning d.1 a) (answers a ds));
    }

-- no elements have no values
no_values : (t : Table) → IsTable t → (p u w : ℕ) → HasChildren t.vtree p u w → (values : List Bool → List Bool) →
    AreElementsOf t p [] values → (a : List Bool) → values a ≡ []
no_values t i p u w c values h a = go h.diagrams (elements_below t i p u w c [] values h).pairs (h.value a)
  where
    go : (ds : List (Diagram × Diagram)) → AllZip (IsPair t u w) [] ds → answers a ds ≡ values a → values a ≡ []
    go [] z v = sym v
    go (d ∷ ds) z v = absurd z

-- The elements that were made, and those of the first half that are left, each joined to the value of the second half,
-- have the whole value.
pub record HasJoined (now : Table) (p : ℕ) (all rest : List (ℕ × ℕ)) (seconds : List (List (ℕ × ℕ)))
    (f g : List Bool → Bool) : Type 0 where
  pub values : List Bool → List Bool
  pub left : List Bool → List Bool
  pub other : List Bool → Bool
  pub made : AreElementsOf now p all values
  pub cells : AreElementsOf now p rest left
  pub partitions : ArePartitions now p seconds other
  pub whole : (a : List Bool) → values a ++ map (λ x. other a || x) (left a) ≡ value_within f g a

-- What is so between two cells of the first half, for each value of the whole cell and of all partitions.
pub record IsHalving (first now : Table) (p cell : ℕ) (lists seconds : List (List (ℕ × ℕ)))
    (all rest : List (ℕ × ℕ)) : Type 0 where
  pub each : (f g : List Bool → Bool) → IsCell first p cell f → ArePartitions first p lists g →
      HasJoined now p all rest seconds f g
  pub kept : Extends first now
  pub grown : GrowsStrictlyBelow first now p
  pub table : IsTable now

pub halving_first : (first now : Table) → IsTable now → (p u w : ℕ) → HasChildren first.vtree p u w → (cell : ℕ)
    (lists firsts seconds : List (List (ℕ × ℕ))) → lists ≡ firsts ++ seconds → Extends first now →
    GrowsStrictlyBelow first now p → (all list rest : List (ℕ × ℕ)) → all ≡ [] → rest ≡ list →
    ((f g : List Bool → Bool) → IsCell first p cell f → ArePartitions first p firsts g → IsCut now p list f g) →
    IsHalving first now p cell lists seconds all rest
halving_first first now i p u w e cell lists firsts seconds same x grown all list rest none is cut = record {
  each = λ f g c k.
      let q = parted first p firsts seconds g (subst (λ l. ArePartitions first p l g) same k) in
      record {
        values = λ a. [];
        left = value_within f q.0;
        other = q.1;
        made = subst (λ l. AreElementsOf now p l (λ a. [])) (sym none)
            (elements_none now i p u w (children_on first now x p u w e));
        cells = subst (λ l. IsCut now p l f q.0) (sym is) (cut f q.0 c q.2);
        partitions = partitions_on first now x p seconds q.1 q.3;
        whole = λ a. map_within (f a) (q.1 a) (q.0 a)
            ∙ ap (λ b. cond (f a) (b ∷ []) []) (or_swap (q.1 a) (q.0 a) ∙ q.4 a);
      };
  kept = x;
  grown = grown;
  table = i;
}

-- the next cell, what its sub shows, and the partitions that are to cut it
pub record HasNext (now : Table) (p : ℕ) (e : ℕ × ℕ) (seconds : List (List (ℕ × ℕ))) : Type 0 where
  pub cell_value : List Bool → Bool
  pub other : List Bool → Bool
  pub cell : IsCell now p e.0 cell_value
  pub sum : IsBelow now p e.1
  pub partitions : ArePartitions now p seconds other

pub next_there : (first now : Table) (p u w : ℕ) → HasChildren first.vtree p u w → (cell : ℕ)
    (lists seconds : List (List (ℕ × ℕ))) (all list : List (ℕ × ℕ)) (i : ℕ) (e : ℕ × ℕ) (f g : List Bool → Bool) →
    IsCell first p cell f → ArePartitions first p lists g → slice_get list i ≡ Some e →
    IsHalving first now p cell lists seconds all (drop i list) → HasNext now p e seconds
next_there first now p u w c cell lists seconds all list i e f g k v at h =
    let s = h.each f g k v in
    let q = first_of now h.table p u w (children_on first now h.kept p u w c) e (drop (i + 1) list) s.left
    (subst (λ l. AreElementsOf now p l s.left) (from_index list i e at) s.cells) in
    record {
      cell_value = meaning q.prime;
      other = s.other;
      cell = q.cell;
      sum = record { diagram = q.sub; is = q.below };
      partitions = s.partitions;
    }

pub halving_more : (first now mid next : Table) (p u w : ℕ) → HasChildren first.vtree p u w → (cell : ℕ)
    (lists seconds : List (List (ℕ × ℕ))) (all longer list second one : List (ℕ × ℕ)) (i : ℕ) (e : ℕ × ℕ) →
    slice_get list i ≡ Some e → IsHalving first now p cell lists seconds all (drop i list) → Extends now mid →
    GrowsStrictlyBelow now mid p →
    ((f g : List Bool → Bool) → IsCell now p e.0 f → ArePartitions now p seconds g → IsCut mid p second f g) →
    one ≡ second → Extends mid next → IsTable next → GrowsStrictlyBelow mid next p →
    AddsSums mid next p one e.1 all longer → IsHalving first next p cell lists seconds longer (drop (i + 1) list)
halving_more first now mid next p u w c cell lists seconds all longer list second one i e at h x grown cut same y t
    grows sums =
    let z = extends_on now mid next x y in
    let there = extends_on first now next h.kept z in
    let rest = drop (i + 1) list in
    record {
      each = λ f g k v.
          let s = h.each f g k v in
          let q = first_of now h.table p u w (children_on first now h.kept p u w c) e rest s.left
          (subst (λ l. AreElementsOf now p l s.left) (from_index list i e at) s.cells) in
          let o = s.other in
          let gained : List Bool → List Bool = λ a. cond (meaning q.prime a) ((o a || meaning q.sub a) ∷ []) [] in
          let more = sums.each (value_within (meaning q.prime) o) q.sub
          (subst (λ l. IsCut mid p l (meaning q.prime) o) (sym same) (cut (meaning q.prime) o q.cell s.partitions))
          (node_on now mid x p e.1 q.sub q.below) in
          record {
            values = λ a. s.values a ++ gained a;
            left = q.after;
            other = o;
            made = subst (λ l. AreElementsOf next p l (λ a. s.values a ++ gained a)) (sym sums.added)
                (elements_append next t p u w (children_on first next there p u w c) all sums.more s.values gained
                (elements_of_on now next z p all s.values s.made)
                (same_elements next p sums.more
                (λ a. products Or (value_within (meaning q.prime) o a) (meaning q.sub a ∷ [])) gained more
                (λ a. products_within (meaning q.prime a) (o a) (meaning q.sub a))));
            cells = elements_of_on now next z p rest q.after q.others;
            partitions = partitions_on now next z p seconds o s.partitions;
            whole = λ a. append_assoc (s.values a) (gained a) (map (λ x. o a || x) (q.after a))
                ∙ ap (λ l. s.values a ++ l) (gained_first (meaning q.prime a) (o a) (meaning q.sub a) (q.after a))
                ∙ ap (λ l. s.values a ++ map (λ x. o a || x) l) (sym (q.parts a)) ∙ s.whole a;
          };
      kept = there;
      grown = strictly_both first now next p z h.grown (strictly_both now mid next p y grown grows);
      table = t;
    }

pub halving_last : (first now : Table) (p u w : ℕ) → HasChildren first.vtree p u w → (cell : ℕ)
    (lists seconds : List (List (ℕ × ℕ))) (all list : List (ℕ × ℕ)) (i : ℕ) → length list ≤ i →
    IsHalving first now p cell lists seconds all (drop i list) → (f g : List Bool → Bool) → IsCell first p cell f →
    ArePartitions first p lists g → IsCut now p all f g
halving_last first now p u w c cell lists seconds all list i end h f g k v =
    let s = h.each f g k v in
    let none = no_values now h.table p u w (children_on first now h.kept p u w c) s.left
    (subst (λ l. AreElementsOf now p l s.left) (at_drop_all (λ l. l) list i end) s.cells) in
    same_elements now p all s.values (value_within f g) s.made
    (λ a. sym (append-nil (s.values a)) ∙ ap (λ l. s.values a ++ map (λ x. s.other a || x) l) (sym (none a))
    ∙ s.whole a)

-- the products of a list

-- what is so of the first products: with what the rest of the list adds they have its value
pub record IsListing (first now : Table) (p node : ℕ) (lists : List (List (ℕ × ℕ))) (rest : List (ℕ × ℕ)) : Type 0
  where
    pub value : List Bool → Bool
    pub partitions : ArePartitions now p lists value
    pub whole : (a : List Bool) → (value a || pairs_value (value_of (get first.linked)) rest a)
        ≡ pairs_value (value_of (get first.linked)) (pairs_at first node) a
    pub kept : Extends first now
    pub grown : GrowsStrictlyBelow first now p
    pub table : IsTable now

pub listing_first : (t : Table) → IsTable t → (p node : ℕ) (lists : List (List (ℕ × ℕ))) → lists ≡ [] →
    IsListing t t p node lists (pairs_at t node)
listing_first t i p node lists none = record {
  value = λ _. false;
  partitions = subst (λ l. ArePartitions t p l (λ _. false)) (sym none) (λ a. refl);
  whole = λ a. refl;
  kept = extends_self t;
  grown = strictly_none t p;
  table = i;
}

-- the pair at an index is the first of what is left, and stands below the place
pub listing_there : (first now : Table) (p node i : ℕ) (lists : List (List (ℕ × ℕ))) (pair : ℕ × ℕ) → IsTable first →
    HasNode first node → 2050 ≤ node → AreBelow first p (pairs_at first node) →
    IsListing first now p node lists (drop i (pairs_at first node)) → slice_get (pairs_at now node) i ≡ Some pair →
    IsListing first now p node lists (pair ∷ drop (i + 1) (pairs_at first node))
    × (IsBelow first p pair.0 × IsBelow first p pair.1)
listing_there first now p node i lists pair t there low below s at =
    let same : pairs_at now node ≡ pairs_at first node = list_stays first now t s.table s.kept node there low in
    let own : slice_get (pairs_at first node) i ≡ Some pair = subst (λ l. slice_get l i ≡ Some pair) same at in (
      subst (IsListing first now p node lists) (from_index (pairs_at first node) i pair own) s,
      pair_below first p node i pair below own,
    )

pub listing_more : (first now next : Table) (p node : ℕ) (lists longer : List (List (ℕ × ℕ))) (list : List (ℕ × ℕ))
    (rest : List (ℕ × ℕ)) (pair : ℕ × ℕ) → IsTable first → IsListing first now p node lists (pair ∷ rest) →
    IsBelow first p pair.0 → IsBelow first p pair.1 → Extends now next → GrowsStrictlyBelow now next p →
    IsTable next → longer ≡ lists ++ list ∷ [] →
    ((d e : Diagram) → IsNodeUnder now p pair.0 d → IsNodeUnder now p pair.1 e →
    IsPartitionOf next p list (λ a. combine And (meaning d a) (meaning e a))) →
    IsListing first next p node longer rest
listing_more first now next p node lists longer list rest pair t s prime sub e g i pushed product =
    let f : List Bool → Bool = λ a. meaning prime.diagram a && meaning sub.diagram a in
    record {
      value = λ a. s.value a || f a;
      partitions = subst (λ l. ArePartitions next p l (λ a. s.value a || f a)) (sym pushed)
          (partitions_push next p lists list s.value f (partitions_on now next e p lists s.value s.partitions)
          (product prime.diagram sub.diagram (node_on first now s.kept p pair.0 prime.diagram prime.is)
          (node_on first now s.kept p pair.1 sub.diagram sub.is)));
      whole = λ a. or_assoc (s.value a) (f a) (pairs_value (value_of (get first.linked)) rest a)
          ∙ ap (λ b. s.value a || ((b && meaning sub.diagram a) || pairs_value (value_of (get first.linked)) rest a))
          (shown_value first t p pair.0 prime.diagram prime.is a)
          ∙ ap (λ b. s.value a || ((value_of (get first.linked) pair.0 a && b)
          || pairs_value (value_of (get first.linked)) rest a))
          (shown_value first t p pair.1 sub.diagram sub.is a)
          ∙ s.whole a;
      kept = extends_on first now next s.kept e;
      grown = strictly_both first now next p e s.grown g;
      table = i;
    }

-- and none where the sub is false
pub listing_skips : (first now : Table) (p node : ℕ) (lists : List (List (ℕ × ℕ))) (rest : List (ℕ × ℕ))
    (pair : ℕ × ℕ) → pair.1 ≡ 0 → IsListing first now p node lists (pair ∷ rest) →
    IsListing first now p node lists rest
listing_skips first now p node lists rest pair none s = record {
  value = s.value;
  partitions = s.partitions;
  whole = λ a. ap (λ b. s.value a || (b || pairs_value (value_of (get first.linked)) rest a))
      (sym (and_false (value_of (get first.linked) pair.0 a))
      ∙ ap (λ c. value_of (get first.linked) pair.0 a && value_of (get first.linked) c a) (sym none)) ∙ s.whole a;
  kept = s.kept;
  grown = s.grown;
  table = s.table;
}

pub listing_last : (first now : Table) (p node : ℕ) (lists : List (List (ℕ × ℕ))) →
    IsListing first now p node lists [] →
    ArePartitions now p lists (pairs_value (value_of (get first.linked)) (pairs_at first node))
listing_last first now p node lists s =
    partitions_same now p lists s.value (pairs_value (value_of (get first.linked)) (pairs_at first node)) s.partitions
    (λ a. or_false (s.value a) ∙ s.whole a)

-- in a larger table
pub disjoint_on : (old new : Table) → Extends old new → (p : ℕ) (l : List (ℕ × ℕ)) → AreDisjointAt old p l →
    AreDisjointAt new p l
disjoint_on old new x p l h = record {
  values = h.values;
  are = elements_of_on old new x p l h.values h.are;
  most_one = h.most_one;
}

-- halves

take_short : {X : Type 0} (l : List X) (n : ℕ) → length (take n l) ≤ n
take_short l zero = omega arith
take_short [] (suc n) = omega arith
take_short (x ∷ l) (suc n) = omega (arith, take_short l n)

-- each half of four or more is shorter
pub halves_fewer : {X : Type 0} (l : List X) (t : ℕ) → 4 ≤ length l → length l ≡ t →
    (length (take (length l / 2) l) < t) × (length (slice_range l (length l / 2) (length l)) < t)
halves_fewer l t many is =
    let n = length l / 2 in
    let some : 1 ≤ n = le-div 1 (length l) 2 (omega arith) (omega (arith, many)) in
    let few : n < length l = div_below (length l) 2 (length l) (omega arith) (omega (arith, many)) in (
      omega (arith, take_short l n, few, is),
      omega (arith, ap length (take_rest l n), length-drop n l, some, many, is),
    )
