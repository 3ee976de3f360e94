-- Lists of pairs at a vtree node: what the operations make of them below its children, and the other way round.
use Rattle.std.proofs.Common.{◌≡◌, ◌≢◌, ℕ, ◌≤◌, ◌<◌, Bool, true, cond, List, [], ◌∷◌, ◌++◌, length}
use Rattle.std.proofs.Common.{slice_get, Some, refl, sym, ◌∙◌, ap, subst, arith}
use Rattle.std.specs.FinMap.{get}
use Rattle.std.specs.List.{AllZip}
use Rattle.std.specs.List.Sorted.{IsPermutation}
use Rattle.sd_model.specs.declared.trees.Operation.{Operation}
use Rattle.sd_model.specs.Diagram.{Diagram, Bottom, Top, Literal, Decomposition, meaning}
use Rattle.sd_model.specs.Expression.{combine}
use Rattle.sd_vtree.specs.Numbered.{Numbered, NumberedNode, numbers, IsNumbered}
use Rattle.sd_vtree.proofs.Subtrees.{inner_part, node_within, subtree_in}
use Rattle.sd_laws.specs.Pairs.{answers}
use Rattle.sd_laws.specs.Shown.{ShowPairs}
use Rattle.sd_laws.proofs.Codes.{literal_range}
use Rattle.sd_laws.proofs.Pairs.{answers_permuted}
use Rattle.sd_laws.proofs.Products.{answers_append}
use Rattle.sd_manager.specs.Table.{Table}
use Rattle.sd_manager.specs.Shown.{Shows, ShowsCanonical, IsPartitionAt}
use Rattle.sd_manager.specs.Making.{Extends}
use Rattle.sd_manager.specs.Valid.{IsTable}
use Rattle.sd_apply.specs.Places.{IsCanonicalUnder, IsNodeUnder, IsBelow, HasPlace, HasChildren}
use Rattle.sd_apply.specs.Growing.{GrowsBelow, GrowsStrictlyBelow}
use Rattle.sd_apply.specs.Elements.{IsPair, ListsElements, HasList, IsPartitionBelow, products}
use Rattle.sd_apply.specs.Classes.{AreDisjointBelow}
use Rattle.sd_apply.specs.Calls.{Expands, Multiplies, Merges}
use Rattle.sd_apply.specs.Partitions.{IsPartitionOf, AreElementsOf, AreDisjointAt, ExpandsAt, MultipliesAt, MergesAt}
use Rattle.sd_apply.proofs.Trees.{children_of, bottom_under, top_under, place_before}
use Rattle.sd_apply.proofs.Standing.{shown}
use Rattle.sd_apply.proofs.Growing.{grows_left, strictly_either}
use Rattle.sd_apply.proofs.Expanding.{expand_right, left_under}
use Rattle.sd_apply.proofs.Listed.{children_on, shows_on}
use Rattle.sd_apply.proofs.Merging.{shown_pairs, elements_at, partition_at, partition_permuted}
use Rattle.sd_apply.proofs.Whole.{elements_from, partition_from}

-- ---- between the node and its children

pub elements_below : (t : Table) → IsTable t → (p u w : ℕ) → HasChildren t.vtree p u w → (l : List (ℕ × ℕ))
    (values : List Bool → List Bool) (h : AreElementsOf t p l values) → ListsElements t u w l h.diagrams
elements_below t i p u w e l values h =
    elements_from t i p u w e h.left h.right h.base h.inner l h.diagrams h.shown h.elements

pub elements_of_list : (t : Table) → IsTable t → (p u w : ℕ) → HasChildren t.vtree p u w → (l : List (ℕ × ℕ))
    (values : List Bool → List Bool) → HasList t u w l values → AreElementsOf t p l values
elements_of_list t i p u w e l values h =
    let f = children_of t.vtree i.numbered p u w e in
    record {
      diagrams = h.shown;
      left = _;
      right = _;
      base = f.base;
      inner = f.inner;
      shown = shown_pairs t u w l h.shown h.lists.pairs;
      elements = elements_at t i p u w f l h.shown h.lists;
      value = h.value;
    }

pub partition_of_list : (t : Table) → IsTable t → (p u w : ℕ) → HasChildren t.vtree p u w → (l : List (ℕ × ℕ))
    (f : List Bool → Bool) → HasList t u w l (λ a. f a ∷ []) → IsPartitionOf t p l f
partition_of_list t i p u w e l f h = record {
  diagrams = h.shown;
  is = partition_at t i p u w e l h.shown h.lists (λ a. ap length (h.value a));
  value = h.value;
}

pub disjoint_below : (t : Table) → IsTable t → (p u w : ℕ) → HasChildren t.vtree p u w → (l : List (ℕ × ℕ)) →
    AreDisjointAt t p l → AreDisjointBelow t u w l
disjoint_below t i p u w e l h = record {
  shown = h.are.diagrams;
  is = record {
    lists = elements_below t i p u w e l h.values h.are;
    most_one = λ a. subst (λ x. length x ≤ 1) (sym (h.are.value a)) (h.most_one a);
  };
}

pub partition_below : (t : Table) → IsTable t → (p u w : ℕ) → HasChildren t.vtree p u w → (l : List (ℕ × ℕ))
    (ds : List (Diagram × Diagram)) → IsPartitionAt t p l ds → IsPartitionBelow t u w l
partition_below t i p u w e l ds h = record { shown = ds; is = partition_from t i p u w e l ds h }

-- a node with children is one of the vtree's
pub inner_within : (t : Numbered) → IsNumbered t → (p u w : ℕ) → HasChildren t p u w → p < length (numbers t)
inner_within t v p u w e =
    let part = inner_part t v p u w e in
    node_within t v p (subtree_in t p (NumberedNode p part.left part.right) part.is)

-- a node below a vtree node that stands before it is below the left child
pub left_below : (t : Table) → IsTable t → (p u w own pp po a : ℕ) → HasChildren t.vtree p u w → IsBelow t p a →
    ((x : Diagram) → ShowsCanonical t a x → HasPlace t.vtree own x) → slice_get (numbers t.vtree) pp ≡ Some p →
    slice_get (numbers t.vtree) po ≡ Some own → ¬ (pp < po) → ¬ (own ≡ p) → IsBelow t u a
left_below t i p u w own pp po a e h place np ao behind differ =
    let shows = shown t p a h.diagram h.is in
    let lt = place_before t.vtree pp po p own np ao (omega (arith, behind)) differ in
    record {
      diagram = h.diagram;
      is = record {
        shows = h.is.shows;
        under = left_under t i p u w own pp po e h.diagram h.is.under (place h.diagram shows) np ao lt;
      };
    }

-- ---- what the calls answer

-- what is new below the left child is new strictly below the node
pub strictly_left : (old new : Table) → Extends old new → (p u w : ℕ) → HasChildren old.vtree p u w →
    GrowsBelow old new u → GrowsStrictlyBelow old new p
strictly_left old new x p u w e g = strictly_either old new p u w x e (grows_left old new u w g)

pub expands_at : (old new : Table) → IsTable new → (p u w a : ℕ) (r : List (ℕ × ℕ)) → HasChildren new.vtree p u w →
    Expands old new p u w a r → ExpandsAt old new p a r
expands_at old new i p u w a r e h = record {
  each = λ x k. partition_of_list new i p u w e r (meaning x) (h.each x k);
}

-- a constant beside the prime true
pub expand_constant : (t : Table) → IsTable t → (p u w a : ℕ) → a < 2 → Expands t t p u w a ((1, a) ∷ [])
expand_constant t i p u w a lt = expand_right t i p u w a (λ x k. go x k.shows)
  where
    go : (x : Diagram) → Shows t a x → IsCanonicalUnder t.vtree w x
    go Bottom h = bottom_under t.vtree w
    go Top h = top_under t.vtree w
    go (Decomposition q es) h = absurd (omega (arith, h.1.code, lt))
    go (Literal q y s) h = absurd (omega (arith, (literal_range t.vtree (get t.linked) i.numbered a q y s h).0, lt))

pub multiplies_at : (old new : Table) → IsTable old → IsTable new → Extends old new → (o : Operation) (p u w : ℕ)
    (l k r : List (ℕ × ℕ)) → HasChildren old.vtree p u w → Multiplies old new o u w l k r →
    MultipliesAt old new o p l k r
multiplies_at old new i j x o p u w l k r e h = record {
  whole = λ f g hf hg.
      let z = h.each hf.diagrams hg.diagrams (partition_from old i p u w e l hf.diagrams hf.is).lists
      (partition_from old i p u w e k hg.diagrams hg.is) in
      partition_of_list new j p u w (children_on old new x p u w e) r (λ a. combine o (f a) (g a)) (record {
        shown = z.shown;
        lists = z.lists;
        value = λ a. z.value a ∙ ap (λ v. products o v (answers a hg.diagrams)) (hf.value a)
            ∙ ap (products o (f a ∷ [])) (hg.value a);
      });
  part = λ values g hv hg.
      let z = h.each hv.diagrams hg.diagrams (elements_below old i p u w e l values hv)
      (partition_from old i p u w e k hg.diagrams hg.is) in
      elements_of_list new j p u w (children_on old new x p u w e) r (λ a. products o (values a) (g a ∷ [])) (record {
        shown = z.shown;
        lists = z.lists;
        value = λ a. z.value a ∙ ap (λ v. products o v (answers a hg.diagrams)) (hv.value a)
            ∙ ap (products o (values a)) (hg.value a);
      });
}

pub merges_at : (old new : Table) → IsTable old → IsTable new → Extends old new → (p u w : ℕ) (l k r : List (ℕ × ℕ)) →
    HasChildren old.vtree p u w → IsPermutation l k → Merges old new u w k r → MergesAt old new p l r
merges_at old new i j x p u w l k r e order h = record {
  each = λ f hf.
      let q = partition_permuted old u w l k hf.diagrams (partition_from old i p u w e l hf.diagrams hf.is) order in
      let z = h.each q.0 q.2 in
      partition_of_list new j p u w (children_on old new x p u w e) r f (record {
        shown = z.shown;
        lists = z.lists;
        value = λ a. z.value a ∙ answers_permuted a hf.diagrams q.0 (f a) q.1 (hf.value a);
      });
}

-- ---- lists that are put together

-- a partition as elements
pub partition_elements : (t : Table) (p : ℕ) (l : List (ℕ × ℕ)) (f : List Bool → Bool) → IsPartitionOf t p l f →
    AreElementsOf t p l (λ a. f a ∷ [])
partition_elements t p l f h = record {
  diagrams = h.diagrams;
  left = h.is.left;
  right = h.is.right;
  base = h.is.base;
  inner = h.is.inner;
  shown = h.is.shown;
  elements = h.is.partition.elements;
  value = h.value;
}

-- and elements as a partition, where under each assignment one prime is true
pub elements_partition : (t : Table) (p : ℕ) (l : List (ℕ × ℕ)) (values : List Bool → List Bool)
    (f : List Bool → Bool) → AreElementsOf t p l values → ((a : List Bool) → values a ≡ f a ∷ []) →
    IsPartitionOf t p l f
elements_partition t p l values f h one = record {
  diagrams = h.diagrams;
  is = record {
    left = h.left;
    right = h.right;
    base = h.base;
    inner = h.inner;
    shown = h.shown;
    partition = record {
      elements = h.elements;
      one_true = λ a. ap length (h.value a ∙ one a);
    };
  };
  value = λ a. h.value a ∙ one a;
}

-- a partition has at most one true prime
pub partition_disjoint : (t : Table) (p : ℕ) (l : List (ℕ × ℕ)) (f : List Bool → Bool) → IsPartitionOf t p l f →
    AreDisjointAt t p l
partition_disjoint t p l f h = record {
  values = λ a. f a ∷ [];
  are = partition_elements t p l f h;
  most_one = λ a. omega arith;
}

both_lists : (t : Table) (u w : ℕ) (l k : List (ℕ × ℕ)) (ds fs : List (Diagram × Diagram)) →
    AllZip (IsPair t u w) l ds → AllZip (IsPair t u w) k fs → AllZip (IsPair t u w) (l ++ k) (ds ++ fs)
both_lists t u w [] k [] fs h z = z
both_lists t u w [] k (d ∷ ds) fs h z = absurd h
both_lists t u w (e ∷ l) k [] fs h z = absurd h
both_lists t u w (e ∷ l) k (d ∷ ds) fs h z = (h.0, both_lists t u w l k ds fs h.1 z)

-- one list behind another
pub elements_append : (t : Table) → IsTable t → (p u w : ℕ) → HasChildren t.vtree p u w → (l k : List (ℕ × ℕ))
    (values more : List Bool → List Bool) → AreElementsOf t p l values → AreElementsOf t p k more →
    AreElementsOf t p (l ++ k) (λ a. values a ++ more a)
elements_append t i p u w e l k values more h z =
    elements_of_list t i p u w e (l ++ k) (λ a. values a ++ more a) (record {
      shown = h.diagrams ++ z.diagrams;
      lists = record {
        pairs = both_lists t u w l k h.diagrams z.diagrams (elements_below t i p u w e l values h).pairs
            (elements_below t i p u w e k more z).pairs;
      };
      value = λ a. answers_append a h.diagrams z.diagrams ∙ ap (λ x. x ++ answers a z.diagrams) (h.value a)
          ∙ ap (λ x. values a ++ x) (z.value a);
    })

-- no elements
pub elements_none : (t : Table) → IsTable t → (p u w : ℕ) → HasChildren t.vtree p u w → AreElementsOf t p [] (λ a. [])
elements_none t i p u w e = elements_of_list t i p u w e [] (λ a. []) (record {
  shown = [];
  lists = record { pairs = tt };
  value = λ a. refl;
})

-- one prime beside the sub true
pub prime_alone : (t : Table) → IsTable t → (p u w c : ℕ) → HasChildren t.vtree p u w → (x : Diagram) →
    IsNodeUnder t u c x → x ≢ Bottom → AreElementsOf t p ((c, 1) ∷ []) (λ a. cond (meaning x a) (true ∷ []) [])
prime_alone t i p u w c e x h possible =
    elements_of_list t i p u w e ((c, 1) ∷ []) (λ a. cond (meaning x a) (true ∷ []) []) (record {
      shown = (x, Top) ∷ [];
      lists = record {
        pairs = (
          record {
            prime_shows = h.shows;
            sub_shows = refl;
            prime = h.under;
            sub = top_under t.vtree w;
            possible = possible;
          },
          tt,
        );
      };
      value = λ a. refl;
    })

-- ---- in a table that has grown

pairs_on : (old new : Table) → Extends old new → (l : List (ℕ × ℕ)) (ds : List (Diagram × Diagram)) →
    ShowPairs old.vtree (get old.linked) l ds → ShowPairs new.vtree (get new.linked) l ds
pairs_on old new x [] [] h = h
pairs_on old new x [] (d ∷ ds) h = h
pairs_on old new x (e ∷ l) [] h = h
pairs_on old new x (e ∷ l) (d ∷ ds) h = (
  (shows_on old new x e.0 d.0 h.0.0, shows_on old new x e.1 d.1 h.0.1),
  pairs_on old new x l ds h.1,
)

pub partition_of_on : (old new : Table) → Extends old new → (p : ℕ) (l : List (ℕ × ℕ)) (f : List Bool → Bool) →
    IsPartitionOf old p l f → IsPartitionOf new p l f
partition_of_on old new x p l f h = record {
  diagrams = h.diagrams;
  is = record {
    left = h.is.left;
    right = h.is.right;
    base = h.is.base;
    inner = rw x.vtree h.is.inner;
    shown = pairs_on old new x l h.diagrams h.is.shown;
    partition = h.is.partition;
  };
  value = h.value;
}

pub elements_of_on : (old new : Table) → Extends old new → (p : ℕ) (l : List (ℕ × ℕ))
    (values : List Bool → List Bool) → AreElementsOf old p l values → AreElementsOf new p l values
elements_of_on old new x p l values h = record {
  diagrams = h.diagrams;
  left = h.left;
  right = h.right;
  base = h.base;
  inner = rw x.vtree h.inner;
  shown = pairs_on old new x l h.diagrams h.shown;
  elements = h.elements;
  value = h.value;
}
