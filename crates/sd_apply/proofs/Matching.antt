-- Two lists with equal primes apart: the walk that finds them, and the products of both parts.
use Rattle.std.proofs.Common.{◌≡◌, inl, inr, ℕ, zero, suc, ◌+◌, ◌≤◌, ◌<◌, Bool, List, [], ◌∷◌, ◌++◌}
use Rattle.std.proofs.Common.{length, take, drop, get_or, refl, sym, ◌∙◌, ap, subst, arith, append-nil}
use Rattle.std.proofs.Common.{cond}
use Rattle.std.specs.List.{AllZip}
use Rattle.std.proofs.Math.Seq.{take-suc}
use Rattle.std.proofs.lemmas.List.{take-append-drop}
use Rattle.sd_model.specs.declared.trees.Operation.{Operation}
use Rattle.sd_model.specs.Diagram.{Diagram, meaning}
use Rattle.sd_laws.specs.Pairs.{answers}
use Rattle.sd_manager.specs.Table.{Table}
use Rattle.sd_manager.specs.Making.{Extends}
use Rattle.sd_manager.specs.Valid.{IsTable}
use Rattle.sd_apply.specs.Elements.{IsPair, ListsElements}
use Rattle.sd_apply.specs.Elements.{AreListedElements, HaveSamePrimes, products, beside}
use Rattle.sd_apply.specs.Calls.{Multiplies}
use Rattle.sd_apply.specs.Classes.{AreDisjointBelow}
use Rattle.sd_apply.specs.Matching.{IsParted, AreMatched, MultipliesBeside, MultipliesRows}
use Rattle.sd_apply.proofs.Listed.{lists_on}
use Rattle.sd_apply.proofs.Classes.{count_alike, count_other, none_more, no_length}
use Rattle.sd_apply.proofs.Points.{beside_one}
use Rattle.sd_apply.proofs.Same.{same_shown}

-- ---- the walk

first_push : (l a b : List (ℕ × ℕ)) (e : ℕ × ℕ) → IsParted l a b → IsParted (l ++ e ∷ []) (a ++ e ∷ []) b
first_push [] a b e h = inl ([], ap (λ x. x ++ e ∷ []) h.0, (refl, h.1))
first_push (x ∷ l) a b e (inl h) =
    inl (h.0 ++ e ∷ [], ap (λ y. y ++ e ∷ []) h.1, first_push l h.0 b e h.2)
first_push (x ∷ l) a b e (inr h) = inr (h.0, h.1, first_push l a h.0 e h.2)

second_push : (l a b : List (ℕ × ℕ)) (e : ℕ × ℕ) → IsParted l a b → IsParted (l ++ e ∷ []) a (b ++ e ∷ [])
second_push [] a b e h = inr ([], ap (λ x. x ++ e ∷ []) h.1, (h.0, refl))
second_push (x ∷ l) a b e (inl h) = inl (h.0, h.1, second_push l h.0 b e h.2)
second_push (x ∷ l) a b e (inr h) =
    inr (h.0 ++ e ∷ [], ap (λ y. y ++ e ∷ []) h.1, second_push l a h.0 e h.2)

second_all : (l a b r : List (ℕ × ℕ)) → IsParted l a b → IsParted (l ++ r) a (b ++ r)
second_all [] a b r h = go r a (b ++ r) h.0 (ap (λ x. x ++ r) h.1)
  where
    go : (r a c : List (ℕ × ℕ)) → a ≡ [] → c ≡ r → IsParted r a c
    go [] a c e f = (e, f)
    go (x ∷ r) a c e f = inr (r, f, go r a r e refl)
second_all (x ∷ l) a b r (inl h) = inl (h.0, h.1, second_all l h.0 b r h.2)
second_all (x ∷ l) a b r (inr h) = inr (h.0 ++ r, ap (λ y. y ++ r) h.1, second_all l a h.0 r h.2)

front_next : (l : List (ℕ × ℕ)) (i : ℕ) (e : ℕ × ℕ) → i < length l → ◌≡◌ {A = ℕ × ℕ} e (get_or l i (0, 0)) →
    take (i + 1) l ≡ take i l ++ e ∷ []
front_next l i e lt at =
    let next : i + 1 ≡ suc i = omega arith in
    ap (λ k. take k l) next ∙ take-suc l i (0, 0) lt ∙ ap (λ y. take i l ++ y ∷ []) (sym at)

-- what the walk knows
pub record IsWalk (l k a b x y : List (ℕ × ℕ)) (i j : ℕ) : Type 0 where
  pub same : AllZip (λ (e f : ℕ × ℕ). e.0 ≡ f.0) a b
  pub first : IsParted (take i l) a x
  pub second : IsParted (take j k) b y
  pub within : i ≤ length l
  pub within_second : j ≤ length k

pub walk_begins : (l k a b x y : List (ℕ × ℕ)) → a ≡ [] → b ≡ [] → x ≡ [] → y ≡ [] →
    IsWalk l k a b x y 0 0
walk_begins l k a b x y p q r s = record {
  same =
      let Z : List (ℕ × ℕ) → List (ℕ × ℕ) → Type 0 = λ m n. AllZip (λ (e f : ℕ × ℕ). e.0 ≡ f.0) m n in
      subst (λ m. Z m b) (sym p) (subst (λ n. Z [] n) (sym q) tt);
  first = (p, r);
  second = (q, s);
  within = omega arith;
  within_second = omega arith;
}

zip_push : (a b : List (ℕ × ℕ)) (e f : ℕ × ℕ) → AllZip (λ (e f : ℕ × ℕ). e.0 ≡ f.0) a b → e.0 ≡ f.0 →
    AllZip (λ (e f : ℕ × ℕ). e.0 ≡ f.0) (a ++ e ∷ []) (b ++ f ∷ [])
zip_push [] [] e f h k = (k, tt)
zip_push [] (y ∷ b) e f h k = absurd h
zip_push (x ∷ a) [] e f h k = absurd h
zip_push (x ∷ a) (y ∷ b) e f h k = (h.0, zip_push a b e f h.1 k)

-- an element of each list with one prime
pub walk_both : (l k a b x y a1 b1 : List (ℕ × ℕ)) (i j : ℕ) (e f : ℕ × ℕ) → IsWalk l k a b x y i j →
    i < length l → j < length k → ◌≡◌ {A = ℕ × ℕ} e (get_or l i (0, 0)) →
    ◌≡◌ {A = ℕ × ℕ} f (get_or k j (0, 0)) → e.0 ≡ f.0 → a1 ≡ a ++ e ∷ [] → b1 ≡ b ++ f ∷ [] →
    IsWalk l k a1 b1 x y (i + 1) (j + 1)
walk_both l k a b x y a1 b1 i j e f h li lj at af same pa pb = record {
  same =
      let Z : List (ℕ × ℕ) → List (ℕ × ℕ) → Type 0 = λ m n. AllZip (λ (e f : ℕ × ℕ). e.0 ≡ f.0) m n in
      subst (λ m. Z m b1) (sym pa) (subst (λ n. Z (a ++ e ∷ []) n) (sym pb)
      (zip_push a b e f h.same same));
  first =
      let P : List (ℕ × ℕ) → List (ℕ × ℕ) → Type 0 = λ m n. IsParted m n x in
      subst (λ m. P m a1) (sym (front_next l i e li at)) (subst (λ n. P (take i l ++ e ∷ []) n) (sym pa)
      (first_push (take i l) a x e h.first));
  second =
      let P : List (ℕ × ℕ) → List (ℕ × ℕ) → Type 0 = λ m n. IsParted m n y in
      subst (λ m. P m b1) (sym (front_next k j f lj af)) (subst (λ n. P (take j k ++ f ∷ []) n) (sym pb)
      (first_push (take j k) b y f h.second));
  within = omega (arith, li);
  within_second = omega (arith, lj);
}

parted_next : (l a x x1 : List (ℕ × ℕ)) (i : ℕ) (e : ℕ × ℕ) → IsParted (take i l) a x → i < length l →
    ◌≡◌ {A = ℕ × ℕ} e (get_or l i (0, 0)) → x1 ≡ x ++ e ∷ [] → IsParted (take (i + 1) l) a x1
parted_next l a x x1 i e h li at p =
    let P : List (ℕ × ℕ) → List (ℕ × ℕ) → Type 0 = λ m n. IsParted m a n in
    subst (λ m. P m x1) (sym (front_next l i e li at)) (subst (λ n. P (take i l ++ e ∷ []) n) (sym p)
    (second_push (take i l) a x e h))

-- an element of the first list alone
pub walk_first : (l k a b x y x1 : List (ℕ × ℕ)) (i j : ℕ) (e : ℕ × ℕ) → IsWalk l k a b x y i j →
    i < length l → ◌≡◌ {A = ℕ × ℕ} e (get_or l i (0, 0)) → x1 ≡ x ++ e ∷ [] →
    IsWalk l k a b x1 y (i + 1) j
walk_first l k a b x y x1 i j e h li at p = record {
  same = h.same;
  first = parted_next l a x x1 i e h.first li at p;
  second = h.second;
  within = omega (arith, li);
  within_second = h.within_second;
}

-- and of the second
pub walk_second : (l k a b x y y1 : List (ℕ × ℕ)) (i j : ℕ) (e : ℕ × ℕ) → IsWalk l k a b x y i j →
    j < length k → ◌≡◌ {A = ℕ × ℕ} e (get_or k j (0, 0)) → y1 ≡ y ++ e ∷ [] →
    IsWalk l k a b x y1 i (j + 1)
walk_second l k a b x y y1 i j e h lj at p = record {
  same = h.same;
  first = h.first;
  second = parted_next k b y y1 j e h.second lj at p;
  within = h.within;
  within_second = omega (arith, lj);
}

same_primes : (a b : List (ℕ × ℕ)) → AllZip (λ (e f : ℕ × ℕ). e.0 ≡ f.0) a b → HaveSamePrimes a b
same_primes [] [] h = record { lengths = refl; each = λ i lt. absurd (omega arith) }
same_primes [] (y ∷ b) h = absurd h
same_primes (x ∷ a) [] h = absurd h
same_primes (x ∷ a) (y ∷ b) h =
    let rest = same_primes a b h.1 in
    record { lengths = ap suc rest.lengths; each = go rest }
  where
    go : HaveSamePrimes a b → (i : ℕ) → i < length (x ∷ a) →
        (get_or (x ∷ a) i (0, 0)).0 ≡ (get_or (y ∷ b) i (0, 0)).0
    go rest zero lt = h.0
    go rest (suc i) lt = rest.each i (omega (arith, lt))

-- the walk and what is left of both lists
pub walk_ends : (l k a b x y x1 y1 : List (ℕ × ℕ)) (i j : ℕ) → IsWalk l k a b x y i j →
    x1 ≡ x ++ drop i l → y1 ≡ y ++ drop j k → AreMatched l k a b x1 y1
walk_ends l k a b x y x1 y1 i j h p q = record {
  same = same_primes a b h.same;
  first = whole l a x x1 i h.first p;
  second = whole k b y y1 j h.second q;
}
  where
    whole : (l a x x1 : List (ℕ × ℕ)) (i : ℕ) → IsParted (take i l) a x → x1 ≡ x ++ drop i l →
        IsParted l a x1
    whole l a x x1 i h p =
        let P : List (ℕ × ℕ) → List (ℕ × ℕ) → Type 0 = λ m n. IsParted m a n in
        subst (λ n. P l n) (sym p) (subst (λ m. P m (x ++ drop i l)) (take-append-drop i l)
        (second_all (take i l) a x (drop i l) h))

-- ---- the elements in two parts

record HasHalves (t : Table) (u w : ℕ) (a b : List (ℕ × ℕ)) (ds : List (Diagram × Diagram)) : Type 0 where
  one : List (Diagram × Diagram)
  other : List (Diagram × Diagram)
  one_lists : AllZip (IsPair t u w) a one
  other_lists : AllZip (IsPair t u w) b other
  count : (g : List Bool) → length (answers g ds) ≡ length (answers g one) + length (answers g other)
  first : (g : List Bool) → answers g other ≡ [] → answers g ds ≡ answers g one
  second : (g : List Bool) → answers g one ≡ [] → answers g ds ≡ answers g other

has_halves : (t : Table) (u w : ℕ) (l a b : List (ℕ × ℕ)) (ds : List (Diagram × Diagram)) →
    AllZip (IsPair t u w) l ds → IsParted l a b → HasHalves t u w a b ds
has_halves t u w [] a b [] h k =
    let Z : List (ℕ × ℕ) → Type 0 = λ x. AllZip (IsPair t u w) x [] in
    record {
      one = [];
      other = [];
      one_lists = subst Z (sym k.0) tt;
      other_lists = subst Z (sym k.1) tt;
      count = λ g. refl;
      first = λ g z. refl;
      second = λ g z. refl;
    }
has_halves t u w [] a b (d ∷ ds) h k = absurd h
has_halves t u w (e ∷ l) a b [] h k = absurd h
has_halves t u w (e ∷ l) a b (d ∷ ds) h (inl k) =
    let q = has_halves t u w l k.0 b ds h.1 k.2 in
    let Z : List (ℕ × ℕ) → Type 0 = λ x. AllZip (IsPair t u w) x (d ∷ q.one) in
    record {
      one = d ∷ q.one;
      other = q.other;
      one_lists = subst Z (sym k.1) (h.0, q.one_lists);
      other_lists = q.other_lists;
      count = λ g. count_other (meaning d.0 g) (meaning d.1 g) (answers g ds) (answers g q.one)
          (answers g q.other) (q.count g);
      first = λ g z. ap (λ y. cond (meaning d.0 g) (meaning d.1 g ∷ y) y) (q.first g z);
      second = λ g z. none_more (meaning d.0 g) (meaning d.1 g) (answers g ds) (answers g q.other)
          (answers g q.one) z (q.second g);
    }
has_halves t u w (e ∷ l) a b (d ∷ ds) h (inr k) =
    let q = has_halves t u w l a k.0 ds h.1 k.2 in
    let Z : List (ℕ × ℕ) → Type 0 = λ x. AllZip (IsPair t u w) x (d ∷ q.other) in
    record {
      one = q.one;
      other = d ∷ q.other;
      one_lists = q.one_lists;
      other_lists = subst Z (sym k.1) (h.0, q.other_lists);
      count = λ g. count_alike (meaning d.0 g) (meaning d.1 g) (answers g ds) (answers g q.one)
          (answers g q.other) (q.count g);
      first = λ g z. none_more (meaning d.0 g) (meaning d.1 g) (answers g ds) (answers g q.one)
          (answers g q.other) z (q.first g);
      second = λ g z. ap (λ y. cond (meaning d.0 g) (meaning d.1 g ∷ y) y) (q.second g z);
    }

-- what the calls ask for
pub first_listed : (t : Table) (u w : ℕ) (l a b : List (ℕ × ℕ)) → AreDisjointBelow t u w l →
    IsParted l a b → AreListedElements t u w a
first_listed t u w l a b h k =
    let q = has_halves t u w l a b h.shown h.is.lists.pairs k in
    record { shown = q.one; is = record { pairs = q.one_lists } }

pub rest_disjoint : (t : Table) (u w : ℕ) (l a b : List (ℕ × ℕ)) → AreDisjointBelow t u w l →
    IsParted l a b → AreDisjointBelow t u w b
rest_disjoint t u w l a b h k =
    let q = has_halves t u w l a b h.shown h.is.lists.pairs k in
    record {
      shown = q.other;
      is = record {
        lists = record { pairs = q.other_lists };
        most_one = λ g. omega (arith, q.count g, h.is.most_one g);
      };
    }

-- at most one answer of the first list and one of the second, which are in the same part of both
both_parts : (o : Operation) (A S R B T Q : List Bool) → length A ≤ 1 → length B ≡ 1 →
    length A ≡ length S + length R → length B ≡ length T + length Q → length S ≡ length T →
    (R ≡ [] → A ≡ S) → (S ≡ [] → A ≡ R) → (Q ≡ [] → B ≡ T) → (T ≡ [] → B ≡ Q) →
    beside o S T ++ products o R Q ≡ products o A B
both_parts o A [] R B T Q one other count counts even first second third fourth =
    ap (λ x. products o x Q) (sym (second refl))
    ∙ ap (λ x. products o A x) (sym (fourth (no_length T (sym even))))
both_parts o A (s ∷ S) R B T Q one other count counts even first second third fourth =
    let none = no_length R (omega (arith, one, count)) in
    let last = no_length Q (omega (arith, other, counts, even)) in
    ap (λ x. beside o (s ∷ S) T ++ products o x Q) none
    ∙ append-nil (beside o (s ∷ S) T)
    ∙ beside_one o (s ∷ S) T even (omega (arith, even, other, counts))
    ∙ ap (λ x. products o x T) (sym (first none))
    ∙ ap (λ x. products o A x) (sym (third last))

-- the elements with equal primes side by side, and the products of what is left
pub matched_products : (m0 m1 m2 : Table) → IsTable m0 → Extends m0 m1 → (o : Operation) (u w : ℕ)
    (l k a b x y p r : List (ℕ × ℕ)) → AreDisjointBelow m0 u w l → AreMatched l k a b x y →
    MultipliesBeside m0 m1 o u w a b p → MultipliesRows m1 m2 o u w x y p r →
    Multiplies m0 m2 o u w l k r
matched_products m0 m1 m2 i on o u w l k a b x y p r part matched pairs rows = record {
  each = λ ds fs hd hf.
      let same = same_shown m0 i u w l l part.shown ds part.is.lists hd refl in
      let q = has_halves m0 u w l a x ds hd.pairs matched.first in
      let z = has_halves m0 u w k b y fs hf.lists.pairs matched.second in
      let first : ListsElements m0 u w a q.one = record { pairs = q.one_lists } in
      let second : ListsElements m0 u w b z.one = record { pairs = z.one_lists } in
      let front = pairs.each q.one z.one first second in
      let back = rows.each q.other z.other front.shown
      (lists_on m0 m1 on u w x q.other (record { pairs = q.other_lists }))
      (record {
        lists = lists_on m0 m1 on u w y z.other (record { pairs = z.other_lists });
        most_one = λ g. omega (arith, z.count g, hf.one_true g);
      }) front.lists in
      record {
        shown = back.shown;
        lists = back.lists;
        value = λ g.
            let one : length (answers g ds) ≤ 1 = subst (λ v. length (answers g v) ≤ 1) same
            (part.is.most_one g) in
            back.value g
            ∙ ap (λ v. v ++ products o (answers g q.other) (answers g z.other)) (front.value g)
            ∙ both_parts o (answers g ds) (answers g q.one) (answers g q.other) (answers g fs)
            (answers g z.one) (answers g z.other) one (hf.one_true g) (q.count g) (z.count g)
            (pairs.even q.one z.one first second g) (q.first g) (q.second g) (z.first g) (z.second g);
      };
}
