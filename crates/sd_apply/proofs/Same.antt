-- Lists whose answer needs no new node: all subs are equal, or the pairs are those of an operand.
use Rattle.std.proofs.Common.{◌≡◌, ℕ, suc, ◌<◌, Bool, true, false, cond, List, [], ◌∷◌, length}
use Rattle.std.proofs.Common.{get_or, refl, sym, ◌∙◌, ap, subst, arith}
use Rattle.std.specs.List.{AllZip}
use Rattle.std.specs.FinMap.{get}
use Rattle.sd_model.specs.declared.trees.Operation.{Operation}
use Rattle.sd_model.specs.Diagram.{Diagram, meaning}
use Rattle.sd_model.specs.Expression.{combine}
use Rattle.sd_laws.specs.Pairs.{answers}
use Rattle.sd_laws.specs.Shown.{ShowPairs}
use Rattle.sd_laws.proofs.Codes.{one_diagram, one_list, pair_equal}
use Rattle.sd_manager.specs.Table.{Table}
use Rattle.sd_manager.specs.Shown.{Shows, ShowsCanonical}
use Rattle.sd_manager.specs.Making.{Extends}
use Rattle.sd_manager.specs.Valid.{IsTable}
use Rattle.sd_apply.specs.Answers.{HasAnswer}
use Rattle.sd_apply.specs.Places.{IsCanonicalUnder, IsNodeUnder}
use Rattle.sd_apply.specs.Elements.{IsPair, ListsElements, HaveSub}
use Rattle.sd_apply.specs.Calls.{Applies, Expands, Multiplies, Joins}
use Rattle.sd_apply.proofs.Listed.{lists_on, node_on}
use Rattle.sd_manager.proofs.Extending.{extends_on}
use Rattle.sd_apply.proofs.Merging.{shown_pairs, head_same, head_of}
use Rattle.sd_apply.proofs.Expanding.{node_at, has_products}

-- two lists with the same pairs at each index
pub equal_lists : (l k : List (ℕ × ℕ)) → length l ≡ length k →
    ((i : ℕ) → i < length l → (get_or l i (0, 0)).0 ≡ (get_or k i (0, 0)).0) →
    ((i : ℕ) → i < length l → (get_or l i (0, 0)).1 ≡ (get_or k i (0, 0)).1) → l ≡ k
equal_lists [] [] e p s = refl
equal_lists [] (y ∷ k) e p s = absurd (omega (arith, e))
equal_lists (x ∷ l) [] e p s = absurd (omega (arith, e))
equal_lists (x ∷ l) (y ∷ k) e p s =
    ap (λ z. z ∷ l) (pair_equal x y (p 0 (omega arith)) (s 0 (omega arith)))
    ∙ ap (λ m. y ∷ m) (equal_lists l k (omega (arith, e)) (λ i lt. p (suc i) (omega (arith, lt)))
    (λ i lt. s (suc i) (omega (arith, lt))))

-- the rest has the sub too
sub_rest : (l : List (ℕ × ℕ)) (e : ℕ × ℕ) (s : ℕ) → HaveSub (e ∷ l) s → HaveSub l s
sub_rest l e s h = record { each = λ i lt. h.each (suc i) (omega arith) }

-- the one answer of elements with one sub is that sub's value
sub_answer : (t : Table) → IsTable t → (u w s : ℕ) (l : List (ℕ × ℕ)) (ds : List (Diagram × Diagram)) →
    AllZip (IsPair t u w) l ds → HaveSub l s → (x : Diagram) → Shows t s x → (a : List Bool)
    (v : Bool) → answers a ds ≡ v ∷ [] → meaning x a ≡ v
sub_answer t i u w s [] [] h k x is a v e = absurd (cc)
sub_answer t i u w s [] (d ∷ ds) h k x is a v e = absurd h
sub_answer t i u w s (e ∷ l) [] h k x is a v q = absurd h
sub_answer t i u w s (e ∷ l) (d ∷ ds) h k x is a v q =
    go (meaning d.0 a) q (λ z. sub_answer t i u w s l ds h.1 (sub_rest l e s k) x is a v z)
  where
    same : d.1 ≡ x
    same =
        let S : ℕ → Type 0 = λ n. Shows t n d.1 in
        one_diagram t.vtree (get t.linked) i.numbered d.1 s x
        (subst S (k.each 0 (omega arith)) h.0.sub_shows) is

    go : (there : Bool) → cond there (meaning d.1 a ∷ answers a ds) (answers a ds) ≡ v ∷ [] →
        (answers a ds ≡ v ∷ [] → meaning x a ≡ v) → meaning x a ≡ v
    go true z rest = ap (λ y. meaning y a) (sym same) ∙ head_of (meaning d.1 a) (answers a ds) v z
    go false z rest = rest z

-- the sub that all elements have is the node of the partition
pub only_joins : (t : Table) → IsTable t → (u w : ℕ) (l : List (ℕ × ℕ)) (s : ℕ) → HaveSub l s →
    Joins t t u w l s
only_joins t i u w l s h = record { each = λ ds hd f value. go l ds hd.lists.pairs h f value }
  where
    go : (l : List (ℕ × ℕ)) (ds : List (Diagram × Diagram)) → AllZip (IsPair t u w) l ds → HaveSub l s →
        (f : List Bool → Bool) → ((a : List Bool) → answers a ds ≡ f a ∷ []) → HasAnswer t f s
    go [] [] z k f value = let e = value [] in absurd (cc)
    go [] (d ∷ ds) z k f value = absurd z
    go (e ∷ l) [] z k f value = absurd z
    go (e ∷ l) (d ∷ ds) z k f value =
        let S : ℕ → Type 0 = λ n. Shows t n d.1 in
        let shows : Shows t s d.1 = subst S (k.each 0 (omega arith)) z.0.sub_shows in
        record {
          diagram = d.1;
          is = record { shows = shows; canonical = z.0.sub.canonical };
          value = λ a. sub_answer t i u w s (e ∷ l) (d ∷ ds) z k d.1 shows a (f a) (value a);
        }

-- two lists of elements that the same pairs show
pub same_shown : (t : Table) → IsTable t → (u w : ℕ) (l k : List (ℕ × ℕ)) (ds fs : List (Diagram × Diagram)) →
    ListsElements t u w l ds → ListsElements t u w k fs → k ≡ l → ds ≡ fs
same_shown t i u w l k ds fs h z e =
    let L : List (ℕ × ℕ) → Type 0 = λ x. ShowPairs t.vtree (get t.linked) x fs in
    one_list t.vtree (get t.linked) i.numbered l ds fs (shown_pairs t u w l ds h.pairs)
    (subst L e (shown_pairs t u w k fs z.pairs))

-- a node has the value of a partition whose pairs are those of its elements
node_answer : (t : Table) → IsTable t → (u w c : ℕ) (x : Diagram) → IsNodeUnder t u c x →
    (f : List Bool → Bool) (ds fs : List (Diagram × Diagram)) → ds ≡ fs →
    ((a : List Bool) → answers a ds ≡ meaning x a ∷ []) → ((a : List Bool) → answers a fs ≡ f a ∷ []) →
    HasAnswer t f c
node_answer t i u w c x h f ds fs e p q = record {
  diagram = x;
  is = record { shows = h.shows; canonical = h.under.canonical };
  value = λ a. head_same (meaning x a) (f a) (sym (p a) ∙ ap (answers a) e ∙ q a);
}

-- where the products are the elements of the first operand, that is the answer
pub applied_first : (m0 m1 m2 m3 : Table) (o : Operation) (v p u w a b : ℕ)
    (l k q : List (ℕ × ℕ)) → IsTable m3 → Extends m0 m1 → Extends m1 m2 → Extends m2 m3 →
    ((d : Diagram) → ShowsCanonical m0 a d → IsCanonicalUnder m0.vtree p d) →
    ((d : Diagram) → ShowsCanonical m0 b d → IsCanonicalUnder m0.vtree p d) → Expands m0 m1 p u w a l →
    Expands m1 m2 p u w b k → Multiplies m2 m3 o u w l k q → q ≡ l → Applies m0 m3 o v a b a
applied_first m0 m1 m2 m3 o v p u w a b l k q i e1 e2 e3 under_a under_b first second product same =
    record {
      each = λ x y px py.
          let ax = node_at m0 v p a x under_a px in
          let h = has_products m0 m1 m2 m3 o p u w a b l k q e1 e2 x y ax
          (node_at m0 v p b y under_b py) first second product in
          let ds = first.each x ax in
          let on = extends_on m1 m2 m3 e2 e3 in
          let lists = lists_on m1 m3 on u w l ds.shown ds.lists in
          node_answer m3 i p w a x (node_on m0 m3 (extends_on m0 m1 m3 e1 on) p a x ax)
          (λ g. combine o (meaning x g) (meaning y g)) ds.shown h.shown
          (same_shown m3 i u w l q ds.shown h.shown lists h.is.lists same) ds.value h.value;
    }

-- and so of the second
pub applied_second : (m0 m1 m2 m3 : Table) (o : Operation) (v p u w a b : ℕ)
    (l k q : List (ℕ × ℕ)) → IsTable m3 → Extends m0 m1 → Extends m1 m2 → Extends m2 m3 →
    ((d : Diagram) → ShowsCanonical m0 a d → IsCanonicalUnder m0.vtree p d) →
    ((d : Diagram) → ShowsCanonical m0 b d → IsCanonicalUnder m0.vtree p d) → Expands m0 m1 p u w a l →
    Expands m1 m2 p u w b k → Multiplies m2 m3 o u w l k q → q ≡ k → Applies m0 m3 o v a b b
applied_second m0 m1 m2 m3 o v p u w a b l k q i e1 e2 e3 under_a under_b first second product same =
    record {
      each = λ x y px py.
          let by = node_at m0 v p b y under_b py in
          let h = has_products m0 m1 m2 m3 o p u w a b l k q e1 e2 x y
          (node_at m0 v p a x under_a px) by first second product in
          let b1 = node_on m0 m1 e1 p b y by in
          let fs = second.each y b1 in
          let lists = lists_on m2 m3 e3 u w k fs.shown fs.lists in
          node_answer m3 i p w b y (node_on m1 m3 (extends_on m1 m2 m3 e2 e3) p b y b1)
          (λ g. combine o (meaning x g) (meaning y g)) fs.shown h.shown
          (same_shown m3 i u w k q fs.shown h.shown lists h.is.lists same) fs.value h.value;
    }
