-- Elements of one sub apart from the others, and the prime that the others leave for them.
use Rattle.std.proofs.Common.{◌≡◌, ◌≢◌, inl, inr, ℕ, zero, suc, ◌+◌, ◌≤◌, ◌<◌, Bool, true, false}
use Rattle.std.proofs.Common.{not, ◌||◌, ◌==◌, cond, List, [], ◌∷◌, ◌++◌, length, take, map, get_or}
use Rattle.std.proofs.Common.{refl, sym, ◌∙◌, ap, subst, arith, append-nil}
use Rattle.std.specs.List.{AllZip, AllByRecursion}
use Rattle.std.specs.FinMap.{get}
use Rattle.std.proofs.Math.Seq.{take-suc}
use Rattle.std.proofs.lemmas.Bool.Decides.{nat_tests}
use Rattle.sd_model.specs.declared.trees.Operation.TheVariants.{Or}
use Rattle.sd_model.specs.Diagram.{Diagram, Bottom, meaning}
use Rattle.sd_laws.specs.Pairs.{answers}
use Rattle.sd_laws.proofs.Codes.{one_diagram}
use Rattle.sd_manager.specs.Table.{Table}
use Rattle.sd_manager.specs.Shown.{Shows}
use Rattle.sd_manager.specs.Making.{Extends}
use Rattle.sd_manager.specs.Valid.{IsTable}
use Rattle.sd_apply.specs.declared.recent.Recent.{Recent}
use Rattle.sd_apply.specs.Recent.{Knows}
use Rattle.sd_apply.specs.Places.{IsCanonicalUnder, IsBelow}
use Rattle.sd_apply.specs.Elements.{IsPair, ListsElements, IsPartitionUnder, IsPartitionBelow}
use Rattle.sd_apply.specs.Elements.{AreListedElements, Ascend, sub_then_prime}
use Rattle.sd_apply.specs.Calls.{Applies, NegatesAt, Merges}
use Rattle.sd_apply.specs.Classes.{IsDisjointUnder, AreDisjointBelow, MergesDisjoint, HasSub}
use Rattle.sd_apply.specs.Classes.{LackSub, IsWithout, has_answer, JoinsPrimes}
use Rattle.sd_apply.proofs.Trees.{answer_under, not_under, bottom_under}
use Rattle.sd_apply.proofs.Listed.{one_answer, answers_push, pair_on}
use Rattle.sd_manager.proofs.Extending.{extends_on}
use Rattle.sd_apply.proofs.Listed.{lists_on, lists_push, lists_at, take_answers, take_all, node_on}
use Rattle.sd_apply.proofs.Listed.{shows_on, under_on}
use Rattle.sd_apply.proofs.Rows.{pair_prime}
use Rattle.sd_apply.proofs.Merging.{always_false, head_of}
use Rattle.sd_apply.proofs.Expanding.{not_false}
use Rattle.sd_apply.proofs.Sorting.{sub_then_prime_at, length_sub_then_prime}
use Rattle.sd_apply.specs.Steps.{IsStep}
use Rattle.sd_apply.proofs.Steps.{InUnion, none_step, step_on}

-- ---- lists without the pairs of one sub

without_same : (s : ℕ) (l r : List (ℕ × ℕ)) (e : ℕ × ℕ) → IsWithout s l r → e.1 ≡ s →
    IsWithout s (l ++ e ∷ []) r
without_same s [] r e h same = inl (same, h)
without_same s (x ∷ l) r e (inl h) same = inl (h.0, without_same s l r e h.1 same)
without_same s (x ∷ l) r e (inr h) same =
    inr (h.0, h.1, h.2, without_same s l h.0 e h.3 same)

without_other : (s : ℕ) (l r : List (ℕ × ℕ)) (e : ℕ × ℕ) → IsWithout s l r → ¬ (e.1 ≡ s) →
    IsWithout s (l ++ e ∷ []) (r ++ e ∷ [])
without_other s [] r e h differ = inr ([], differ, ap (λ x. x ++ e ∷ []) h, refl)
without_other s (x ∷ l) r e (inl h) differ = inl (h.0, without_other s l r e h.1 differ)
without_other s (x ∷ l) r e (inr h) differ =
    inr (h.0 ++ e ∷ [], h.1, ap (λ y. y ++ e ∷ []) h.2, without_other s l h.0 e h.3 differ)

map_push : (l : List (ℕ × ℕ)) (e : ℕ × ℕ) →
    map sub_then_prime (l ++ e ∷ []) ≡ map sub_then_prime l ++ sub_then_prime e ∷ []
map_push [] e = refl
map_push (x ∷ l) e = ap (λ y. sub_then_prime x ∷ y) (map_push l e)

turned_next : (l : List (ℕ × ℕ)) (i : ℕ) (e : ℕ × ℕ) → i < length l → ◌≡◌ {A = ℕ × ℕ} e (get_or l i (0, 0)) →
    map sub_then_prime (take (i + 1) l) ≡ map sub_then_prime (take i l) ++ sub_then_prime e ∷ []
turned_next l i e lt at =
    let next : i + 1 ≡ suc i = omega arith in
    ap (λ k. map sub_then_prime (take k l)) next
    ∙ ap (map sub_then_prime) (take-suc l i (0, 0) lt ∙ ap (λ y. take i l ++ y ∷ []) (sym at))
    ∙ map_push (take i l) e

-- one more pair of that sub
pub without_skip : (s : ℕ) (l r : List (ℕ × ℕ)) (i : ℕ) (e : ℕ × ℕ) →
    IsWithout s (map sub_then_prime (take i l)) (map sub_then_prime r) → i < length l →
    ◌≡◌ {A = ℕ × ℕ} e (get_or l i (0, 0)) → e.0 ≡ s →
    IsWithout s (map sub_then_prime (take (i + 1) l)) (map sub_then_prime r)
without_skip s l r i e h lt at same =
    let W : List (ℕ × ℕ) → Type 0 = λ x. IsWithout s x (map sub_then_prime r) in
    subst W (sym (turned_next l i e lt at))
    (without_same s (map sub_then_prime (take i l)) (map sub_then_prime r) (sub_then_prime e) h same)

-- one more of another sub
pub without_push : (s : ℕ) (l r r1 : List (ℕ × ℕ)) (i : ℕ) (e : ℕ × ℕ) →
    IsWithout s (map sub_then_prime (take i l)) (map sub_then_prime r) → i < length l →
    ◌≡◌ {A = ℕ × ℕ} e (get_or l i (0, 0)) → ¬ (e.0 ≡ s) → r1 ≡ r ++ e ∷ [] →
    IsWithout s (map sub_then_prime (take (i + 1) l)) (map sub_then_prime r1)
without_push s l r r1 i e h lt at differ pushed =
    let W : List (ℕ × ℕ) → Type 0 = λ x. IsWithout s x (map sub_then_prime r1) in
    let V : List (ℕ × ℕ) → Type 0 = λ x. IsWithout s
    (map sub_then_prime (take i l) ++ sub_then_prime e ∷ []) x in
    subst W (sym (turned_next l i e lt at))
    (subst V (sym (ap (map sub_then_prime) pushed ∙ map_push r e))
    (without_other s (map sub_then_prime (take i l)) (map sub_then_prime r) (sub_then_prime e) h differ))

-- no pair of the sub is left
pub without_lacks : (s : ℕ) (l r : List (ℕ × ℕ)) → IsWithout s l r → LackSub r s
without_lacks s [] r h = record { each = λ i lt. absurd (omega (arith, lt, ap length h)) }
without_lacks s (e ∷ l) r (inl h) = without_lacks s l r h.1
without_lacks s (e ∷ l) r (inr h) =
    let rest = without_lacks s l h.0 h.3 in
    let L : List (ℕ × ℕ) → Type 0 = λ x. LackSub x s in
    subst L (sym h.2) (record { each = go h.0 rest })
  where
    go : (k : List (ℕ × ℕ)) → LackSub k s → (i : ℕ) → i < length (e ∷ k) →
        ¬ ((get_or (e ∷ k) i (0, 0)).1 ≡ s)
    go k rest zero lt = h.1
    go k rest (suc i) lt = rest.each i (omega arith)

-- and fewer pairs are
fewer : (s : ℕ) (l r : List (ℕ × ℕ)) → IsWithout s l r → length r ≤ length l
fewer s [] r h = omega (arith, ap length h)
fewer s (e ∷ l) r (inl h) = omega (arith, fewer s l r h.1)
fewer s (e ∷ l) r (inr h) = omega (arith, fewer s l h.0 h.3, ap length h.2)

less_by_one : (s : ℕ) (l r : List (ℕ × ℕ)) → IsWithout s l r → (i : ℕ) → i < length l →
    (get_or l i (0, 0)).1 ≡ s → length r < length l
less_by_one s [] r h i lt at = absurd (omega arith)
less_by_one s (e ∷ l) r (inl h) i lt at = omega (arith, fewer s l r h.1)
less_by_one s (e ∷ l) r (inr h) zero lt at = absurd (h.1 at)
less_by_one s (e ∷ l) r (inr h) (suc i) lt at =
    omega (arith, less_by_one s l h.0 h.3 i (omega arith) at, ap length h.2)

-- subs that ascend from a number on
abbrev Rises : ℕ → List (ℕ × ℕ) → Type 0
Rises n [] = Unit {0}
Rises n (e ∷ l) = (n ≤ e.1) × Rises e.1 l

rises : (e : ℕ × ℕ) (l : List (ℕ × ℕ)) → Ascend (e ∷ l) → Rises e.1 l
rises e [] h = tt
rises e (f ∷ l) h = (
  h.next 0 (omega arith),
  rises f l (record { next = λ k lt. later k (h.next (suc k) (omega (arith, lt))) }),
)
  where
    later : (k : ℕ) → (get_or (f ∷ l) k (0, 0)).1 ≤ (get_or (e ∷ f ∷ l) (suc k + 1) (0, 0)).1 →
        (get_or (f ∷ l) k (0, 0)).1 ≤ (get_or (f ∷ l) (k + 1) (0, 0)).1
    later k z =
        let same : suc k + 1 ≡ suc (k + 1) = omega arith in
        subst (λ n. (get_or (f ∷ l) k (0, 0)).1 ≤ (get_or (e ∷ f ∷ l) n (0, 0)).1) same z

rises_less : (m n : ℕ) (l : List (ℕ × ℕ)) → m ≤ n → Rises n l → Rises m l
rises_less m n [] h k = tt
rises_less m n (e ∷ l) h k = (omega (arith, h, k.0), k.1)

rises_without : (s n : ℕ) (l r : List (ℕ × ℕ)) → IsWithout s l r → Rises n l → Rises n r
rises_without s n [] r h k = subst (Rises n) (sym h) tt
rises_without s n (e ∷ l) r (inl h) k = rises_without s n l r h.1 (rises_less n e.1 l k.0 k.1)
rises_without s n (e ∷ l) r (inr h) k =
    subst (Rises n) (sym h.2) (k.0, rises_without s e.1 l h.0 h.3 k.1)

ascends : (n : ℕ) (l : List (ℕ × ℕ)) → Rises n l → (k : ℕ) → k + 1 < length l →
    (get_or l k (0, 0)).1 ≤ (get_or l (k + 1) (0, 0)).1
ascends n [] h k lt = absurd (omega arith)
ascends n (e ∷ []) h k lt = absurd (omega arith)
ascends n (e ∷ f ∷ l) h zero lt = h.1.0
ascends n (e ∷ f ∷ l) h (suc k) lt =
    let same : suc (k + 1) ≡ suc k + 1 = omega arith in
    subst (λ m. (get_or (f ∷ l) k (0, 0)).1 ≤ (get_or (e ∷ f ∷ l) m (0, 0)).1) same
    (ascends e.1 (f ∷ l) h.1 k (omega (arith, lt)))

pub without_ascend : (s : ℕ) (l r : List (ℕ × ℕ)) → IsWithout s l r → Ascend l → Ascend r
without_ascend s [] r h up = subst Ascend (sym h) (record { next = λ k lt. absurd (omega arith) })
without_ascend s (e ∷ l) r h up =
    let start : Rises 0 (e ∷ l) = (omega arith, rises e l up) in
    record { next = ascends 0 r (rises_without s 0 (e ∷ l) r h start) }

-- a pair of the list that was sorted
pub has_sub_at : (l : List (ℕ × ℕ)) (i s : ℕ) → i < length l → (get_or l i (0, 0)).0 ≡ s →
    HasSub (map sub_then_prime l) s
has_sub_at l i s lt at = record {
  index = i;
  within = omega (arith, lt, length_sub_then_prime l);
  is = ap (λ (x : ℕ × ℕ). x.1) (sym (sub_then_prime_at l i)) ∙ at;
}

-- ---- the elements in two parts

record IsAlike (t : Table) (u w s : ℕ) (d : Diagram × Diagram) : Type 0 where
  shows : Shows t s d.1
  prime : IsCanonicalUnder t.vtree u d.0
  sub : IsCanonicalUnder t.vtree w d.1
  possible : d.0 ≢ Bottom

record HasParts (t : Table) (u w s : ℕ) (l r : List (ℕ × ℕ)) (ds : List (Diagram × Diagram)) : Type 0 where
  others : List (Diagram × Diagram)
  alike : List (Diagram × Diagram)
  lists : AllZip (IsPair t u w) r others
  all : AllByRecursion (IsAlike t u w s) alike
  lengths : length l ≡ length r + length alike
  count : (a : List Bool) → length (answers a ds) ≡ length (answers a others) + length (answers a alike)
  first : (a : List Bool) → answers a alike ≡ [] → answers a ds ≡ answers a others
  second : (a : List Bool) → answers a others ≡ [] → answers a ds ≡ answers a alike

pub count_alike : (p x : Bool) (A O C : List Bool) → length A ≡ length O + length C →
    length (cond p (x ∷ A) A) ≡ length O + length (cond p (x ∷ C) C)
count_alike true x A O C h = omega (arith, h)
count_alike false x A O C h = h

pub count_other : (p x : Bool) (A O C : List Bool) → length A ≡ length O + length C →
    length (cond p (x ∷ A) A) ≡ length (cond p (x ∷ O) O) + length C
count_other true x A O C h = omega (arith, h)
count_other false x A O C h = h

pub none_more : (p x : Bool) (A O C : List Bool) → cond p (x ∷ C) C ≡ [] → (C ≡ [] → A ≡ O) →
    cond p (x ∷ A) A ≡ O
none_more true x A O C h k = absurd (omega (arith, ap length h))
none_more false x A O C h k = k h

has_parts : (t : Table) (u w s : ℕ) (l r : List (ℕ × ℕ)) (ds : List (Diagram × Diagram)) →
    AllZip (IsPair t u w) l ds → IsWithout s l r → HasParts t u w s l r ds
has_parts t u w s [] r [] h e = record {
  others = [];
  alike = [];
  lists = (let Z : List (ℕ × ℕ) → Type 0 = λ x. AllZip (IsPair t u w) x [] in subst Z (sym e) tt);
  all = tt;
  lengths = sym (ap (λ (x : List (ℕ × ℕ)). length x + 0) e);
  count = λ a. refl;
  first = λ a z. refl;
  second = λ a z. refl;
}
has_parts t u w s [] r (d ∷ ds) h e = absurd h
has_parts t u w s (e ∷ l) r [] h k = absurd h
has_parts t u w s (e ∷ l) r (d ∷ ds) h (inl k) =
    let q = has_parts t u w s l r ds h.1 k.1 in
    let S : ℕ → Type 0 = λ n. Shows t n d.1 in
    record {
      others = q.others;
      alike = d ∷ q.alike;
      lists = q.lists;
      all = (
        record {
          shows = subst S k.0 h.0.sub_shows;
          prime = h.0.prime;
          sub = h.0.sub;
          possible = h.0.possible;
        },
        q.all,
      );
      lengths = omega (arith, q.lengths);
      count = λ a. count_alike (meaning d.0 a) (meaning d.1 a) (answers a ds) (answers a q.others)
          (answers a q.alike) (q.count a);
      first = λ a z. none_more (meaning d.0 a) (meaning d.1 a) (answers a ds) (answers a q.others)
          (answers a q.alike) z (q.first a);
      second = λ a z. ap (λ y. cond (meaning d.0 a) (meaning d.1 a ∷ y) y) (q.second a z);
    }
has_parts t u w s (e ∷ l) r (d ∷ ds) h (inr k) =
    let q = has_parts t u w s l k.0 ds h.1 k.3 in
    let Z : List (ℕ × ℕ) → Type 0 = λ x. AllZip (IsPair t u w) x (d ∷ q.others) in
    record {
      others = d ∷ q.others;
      alike = q.alike;
      lists = subst Z (sym k.2) (h.0, q.lists);
      all = q.all;
      lengths = omega (arith, q.lengths, ap length k.2);
      count = λ a. count_other (meaning d.0 a) (meaning d.1 a) (answers a ds) (answers a q.others)
          (answers a q.alike) (q.count a);
      first = λ a z. ap (λ y. cond (meaning d.0 a) (meaning d.1 a ∷ y) y) (q.first a z);
      second = λ a z. none_more (meaning d.0 a) (meaning d.1 a) (answers a ds) (answers a q.alike)
          (answers a q.others) z (q.second a);
    }

-- the others have at most one true prime
parts_disjoint : (t : Table) (u w s : ℕ) (l r : List (ℕ × ℕ)) (ds : List (Diagram × Diagram)) →
    IsPartitionUnder t u w l ds → (q : HasParts t u w s l r ds) → IsDisjointUnder t u w r q.others
parts_disjoint t u w s l r ds h q = record {
  lists = record { pairs = q.lists };
  most_one = λ a. omega (arith, q.count a, h.one_true a);
}

pub others_below : (t : Table) (u w s : ℕ) (l r : List (ℕ × ℕ)) → IsPartitionBelow t u w l →
    IsWithout s l r → AreDisjointBelow t u w r
others_below t u w s l r h k =
    let q = has_parts t u w s l r h.shown h.is.lists.pairs k in
    record { shown = q.others; is = parts_disjoint t u w s l r h.shown h.is q }

-- a partition is such a list
pub disjoint_partition : (t : Table) (u w : ℕ) (l : List (ℕ × ℕ)) → IsPartitionBelow t u w l →
    AreDisjointBelow t u w l
disjoint_partition t u w l h = record {
  shown = h.shown;
  is = record { lists = h.is.lists; most_one = λ a. omega (arith, h.is.one_true a) };
}

pub merges_partition : (old new : Table) (u w : ℕ) (l r : List (ℕ × ℕ)) →
    MergesDisjoint old new u w l r → Merges old new u w l r
merges_partition old new u w l r h = record {
  each = λ ds hd. h.each ds (record {
    lists = hd.lists;
    most_one = λ a. omega (arith, hd.one_true a);
  });
}

pub merged_listed : (old new : Table) (u w : ℕ) (l r : List (ℕ × ℕ)) → MergesDisjoint old new u w l r →
    AreDisjointBelow old u w l → AreListedElements new u w r
merged_listed old new u w l r h p =
    let q = h.each p.shown p.is in record { shown = q.shown; is = q.lists }

-- what was merged of the others
pub merged_by_complement_listed : (old new : Table) (u w s : ℕ) (l r x k : List (ℕ × ℕ)) → x ≡ r →
    IsPartitionBelow old u w l → IsWithout s l (map sub_then_prime r) →
    MergesDisjoint old new u w (map sub_then_prime x) k → AreListedElements new u w k
merged_by_complement_listed old new u w s l r x k e h split merged =
    let M : List (ℕ × ℕ) → Type 0 = λ y. MergesDisjoint old new u w (map sub_then_prime y) k in
    merged_listed old new u w (map sub_then_prime r) k (subst M e merged)
    (others_below old u w s l (map sub_then_prime r) h split)

-- a list that is not empty
pub some_pairs : (l : List (ℕ × ℕ)) (b : Bool) → b ≡ (length l == 0) → b ≡ false → 0 < length l
some_pairs l b e none = grind (arith, nat_tests)

-- ---- the disjunction of primes

or_answers : (xs : List Bool) (p x : Bool) →
    (has_answer xs || p) ≡ has_answer (xs ++ cond p (x ∷ []) [])
or_answers [] true x = refl
or_answers [] false x = refl
or_answers (y ∷ xs) p x = refl

pub union_none : (m : Table) (c : Recent) (u w : ℕ) (l : List (ℕ × ℕ)) → IsTable m → Knows c m →
    InUnion m m c u w l 0 0
union_none m c u w l i s = record {
  step = none_step i s;
  union = λ ds hd. record {
    diagram = Bottom;
    is = record { shows = refl; under = bottom_under m.vtree u };
    value = λ a. refl;
  };
}

pub union_next : (m0 m m1 : Table) (c c1 : Recent) (u w : ℕ) (l : List (ℕ × ℕ)) (joined next i : ℕ)
    (e : ℕ × ℕ) → InUnion m0 m c u w l joined i → IsStep m m1 c1 u w → i < length l →
    ◌≡◌ {A = ℕ × ℕ} e (get_or l i (0, 0)) → Applies m m1 Or u joined e.0 next →
    InUnion m0 m1 c1 u w l next (i + 1)
union_next m0 m m1 c c1 u w l joined next i e h s lt at k =
    record {
      step = step_on h.step s;
      union = λ ds hd.
          let q = h.union ds hd in
          let d = lists_at m0 u w l ds hd i lt e at in
          let d0 = pair_on m0 m h.step.kept u w e d.0 d.1.pair in
          let z = k.each q.diagram d.0.0 q.is (pair_prime m u w e d.0 d0) in
          let p1 = node_on m m1 s.kept u joined q.diagram q.is in
          let d1 = pair_on m m1 s.kept u w e d.0 d0 in
          record {
            diagram = z.diagram;
            is = record {
              shows = z.is.shows;
              under = answer_under m1.vtree u Or q.diagram d.0.0 z.diagram p1.under d1.prime
                  z.is.canonical z.value;
            };
            value = λ a. z.value a ∙ ap (λ v. v || meaning d.0.0 a) (q.value a)
                ∙ or_answers (answers a (take i ds)) (meaning d.0.0 a) (meaning d.0.1 a)
                ∙ ap has_answer (sym (take_answers a m0 u w e ds i d.0 d.1));
          };
    }

pub union_done : (m0 m : Table) (c : Recent) (u w : ℕ) (l : List (ℕ × ℕ)) (joined i : ℕ) →
    InUnion m0 m c u w l joined i → length l ≤ i → i ≤ length l → JoinsPrimes m0 m u w l joined
union_done m0 m c u w l joined i h lo hi = record {
  each = λ ds hd.
      let q = h.union ds hd in
      record {
        diagram = q.diagram;
        is = q.is;
        value = λ a. q.value a ∙ ap (λ x. has_answer (answers a x)) (take_all m0 u w l ds i hd lo hi);
      };
}

-- what the loop's call asks for
pub union_below : (m0 m : Table) (c : Recent) (u w : ℕ) (l : List (ℕ × ℕ)) (joined i : ℕ) →
    InUnion m0 m c u w l joined i → AreListedElements m0 u w l → IsBelow m u joined
union_below m0 m c u w l joined i h p =
    let q = h.union p.shown p.is in record { diagram = q.diagram; is = q.is }

pub joined_below : (m0 m : Table) (u w : ℕ) (l : List (ℕ × ℕ)) (c : ℕ) → JoinsPrimes m0 m u w l c →
    AreListedElements m0 u w l → IsBelow m u c
joined_below m0 m u w l c h p =
    let q = h.each p.shown p.is in record { diagram = q.diagram; is = q.is }

-- ---- the prime that is left

-- the one answer of elements alike is the value of their sub
alike_answer : (t : Table) → IsTable t → (u w s : ℕ) (ds : List (Diagram × Diagram)) →
    AllByRecursion (IsAlike t u w s) ds → (x : Diagram) → Shows t s x → (a : List Bool) (v : Bool) →
    answers a ds ≡ v ∷ [] → v ≡ meaning x a
alike_answer t i u w s [] h x is a v e = absurd (omega (arith, ap length e))
alike_answer t i u w s (d ∷ ds) h x is a v e =
    go (meaning d.0 a) e (λ z. alike_answer t i u w s ds h.1 x is a v z)
  where
    same : d.1 ≡ x
    same = one_diagram t.vtree (get t.linked) i.numbered d.1 s x h.0.shows is

    go : (there : Bool) → cond there (meaning d.1 a ∷ answers a ds) (answers a ds) ≡ v ∷ [] →
        (answers a ds ≡ v ∷ [] → v ≡ meaning x a) → v ≡ meaning x a
    go true z rest = sym (head_of (meaning d.1 a) (answers a ds) v z) ∙ ap (λ y. meaning y a) same
    go false z rest = rest z

pub no_length : (xs : List Bool) → length xs ≡ 0 → xs ≡ []
no_length [] e = refl
no_length (x ∷ xs) e = absurd (omega (arith, e))

left_over : (A O C : List Bool) (y : Bool) → length A ≡ 1 → length A ≡ length O + length C →
    (C ≡ [] → A ≡ O) → (O ≡ [] → A ≡ C) → ((v : Bool) → C ≡ v ∷ [] → v ≡ y) →
    A ≡ O ++ cond (not (has_answer O)) (y ∷ []) []
left_over A [] C y one count first second alike =
    second refl ∙ only C (omega (arith, one, count)) alike
  where
    only : (C : List Bool) → length C ≡ 1 → ((v : Bool) → C ≡ v ∷ [] → v ≡ y) → C ≡ y ∷ []
    only [] e h = absurd (omega (arith, e))
    only (v ∷ []) e h = ap (λ z. z ∷ []) (h v refl)
    only (v ∷ z ∷ C) e h = absurd (omega (arith, e))
left_over A (x ∷ O) C y one count first second alike =
    first (no_length C (omega (arith, one, count))) ∙ sym (append-nil (x ∷ O))

-- where the others have an answer, no prime of the rest is true
none_left : (A O C : List Bool) (p x : Bool) → length A ≡ 1 →
    length A ≡ length O + length (cond p (x ∷ C) C) → has_answer O ≡ true → p ≡ false
none_left A [] C p x one count some = absurd (cc)
none_left A (y ∷ O) C true x one count some = absurd (omega (arith, one, count))
none_left A (y ∷ O) C false x one count some = refl

-- the others merged, with the complement of their primes for the elements alike
pub complemented : (m0 m1 m2 m3 : Table) → IsTable m0 → Extends m0 m1 → Extends m1 m2 →
    Extends m2 m3 → (u w : ℕ) (l r k k1 : List (ℕ × ℕ)) (s union prime : ℕ) → IsWithout s l r →
    HasSub l s → MergesDisjoint m0 m1 u w r k → JoinsPrimes m1 m2 u w k union →
    NegatesAt m2 m3 u union prime → k1 ≡ k ++ (prime, s) ∷ [] → Merges m0 m3 u w l k1
complemented m0 m1 m2 m3 i e1 e2 e3 u w l r k k1 s union prime split some merged joined negated pushed =
    record {
      each = λ ds hd.
          let q = has_parts m0 u w s l r ds hd.lists.pairs split in
          let lt = less_by_one s l r split some.index some.within some.is in
          go ds hd q q.alike refl (omega (arith, lt, q.lengths));
    }
  where
    go : (ds : List (Diagram × Diagram)) → IsPartitionUnder m0 u w l ds →
        (q : HasParts m0 u w s l r ds) → (alike : List (Diagram × Diagram)) → q.alike ≡ alike →
        0 < length q.alike → Rattle.sd_apply.specs.Elements.HasList m3 u w k1 (λ a. answers a ds)
    go ds hd q [] e lt = absurd (omega (arith, lt, ap length e))
    go ds hd q (d ∷ alike) e lt =
        let all : AllByRecursion (IsAlike m0 u w s) (d ∷ alike) =
        subst (AllByRecursion (IsAlike m0 u w s)) e q.all in
        let g = merged.each q.others (parts_disjoint m0 u w s l r ds hd q) in
        let z = joined.each g.shown g.lists in
        let n = negated.each z.diagram z.is in
        let on = extends_on m0 m2 m3 (extends_on m0 m1 m2 e1 e2) e3 in
        let z3 = node_on m2 m3 e3 u union z.diagram z.is in
        let value : (a : List Bool) → meaning n.diagram a ≡ not (has_answer (answers a q.others)) = λ a.
        n.value a ∙ ap not (z.value a ∙ ap has_answer (g.value a)) in
        let possible : n.diagram ≢ Bottom = λ none. all.0.possible
        (always_false m0.vtree i.numbered d.0 all.0.prime.canonical (λ a.
        let some_other : has_answer (answers a q.others) ≡ true =
        not_false (has_answer (answers a q.others)) (sym (value a) ∙ ap (λ x. meaning x a) none) in
        let N : List (Diagram × Diagram) → Type 0 = λ x.
        length (answers a ds) ≡ length (answers a q.others) + length (answers a x) in
        none_left (answers a ds) (answers a q.others) (answers a alike) (meaning d.0 a) (meaning d.1 a)
        (hd.one_true a) (subst N e (q.count a)) some_other)) in
        let new : Diagram × Diagram = (n.diagram, d.1) in
        let pair : IsPair m3 u w (prime, s) new = record {
          prime_shows = n.is.shows;
          sub_shows = shows_on m0 m3 on s d.1 all.0.shows;
          prime = not_under m3.vtree u z.diagram n.diagram z3.under n.is.canonical n.value;
          sub = under_on m0 m3 on w d.1 all.0.sub;
          possible = possible;
        } in
        let L : List (ℕ × ℕ) → Type 0 = λ x. ListsElements m3 u w x (g.shown ++ new ∷ []) in
        record {
          shown = g.shown ++ new ∷ [];
          lists = subst L (sym pushed) (lists_push m3 u w k g.shown (prime, s) new
              (lists_on m1 m3 (extends_on m1 m2 m3 e2 e3) u w k g.shown g.lists) pair);
          value = λ a.
              answers_push a g.shown new
              ∙ ap (λ x. x ++ one_answer a new) (g.value a)
              ∙ ap (λ v. answers a q.others ++ cond v (meaning d.1 a ∷ []) []) (value a)
              ∙ sym (left_over (answers a ds) (answers a q.others) (answers a q.alike) (meaning d.1 a)
              (hd.one_true a) (q.count a) (q.first a) (q.second a)
              (λ v c. alike_answer m0 i u w s q.alike q.all d.1 all.0.shows a v c));
        }
