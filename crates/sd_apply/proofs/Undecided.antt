-- Products with one of two elements where the other one has the sub that decides the connective: what that value holds
-- at is one element more.
use Rattle.std.proofs.Common.{◌≡◌, ◌≢◌, ℕ, zero, suc, ◌+◌, ◌-◌, ◌≤◌, ◌<◌, Bool, true, false, not, ◌||◌, cond}
use Rattle.std.proofs.Common.{List, [], ◌∷◌, ◌++◌, length, take, get_or, Some, refl, sym, ◌∙◌, ap, subst, arith}
use Rattle.std.proofs.Common.{append-nil, length-append}
use Rattle.std.specs.FinMap.{get}
use Rattle.sd_model.specs.declared.trees.Operation.{Operation}
use Rattle.sd_model.specs.declared.trees.Operation.TheVariants.{And, Or, Xor}
use Rattle.sd_model.specs.Diagram.{Diagram, Bottom, meaning}
use Rattle.sd_model.specs.Expression.{combine}
use Rattle.sd_laws.specs.Pairs.{answers}
use Rattle.sd_laws.proofs.Codes.{one_diagram}
use Rattle.sd_laws.proofs.Connectives.{combine_exchanged}
use Rattle.sd_manager.specs.Table.{Table}
use Rattle.sd_manager.specs.Shown.{Shows}
use Rattle.sd_manager.specs.Valid.{IsTable}
use Rattle.sd_apply.specs.declared.recent.Recent.{Recent}
use Rattle.sd_apply.specs.Recent.{Knows}
use Rattle.sd_apply.specs.Terminal.{deciding_code}
use Rattle.sd_apply.specs.Places.{IsBelow}
use Rattle.sd_apply.specs.Elements.{IsPair, ListsElements, IsPaired, IsPartitionUnder, IsPartitionBelow, row, products}
use Rattle.sd_apply.specs.Elements.{HasDecidingSub}
use Rattle.sd_apply.specs.Calls.{Applies, Multiplies, MultipliesElement}
use Rattle.sd_apply.specs.Classes.{IsDisjointUnder, AreDisjointBelow}
use Rattle.sd_apply.proofs.Trees.{answer_under}
use Rattle.sd_apply.proofs.Listed.{one_answer, answers_push, pair_on, lists_on, lists_push, lists_none, lists_at}
use Rattle.sd_apply.proofs.Listed.{take_answers, take_all}
use Rattle.sd_apply.proofs.Rows.{pair_prime, false_value}
use Rattle.sd_apply.proofs.Merging.{part_answers, always_false, or_false_left}
use Rattle.sd_apply.proofs.Same.{same_shown}
use Rattle.sd_apply.proofs.TerminalLaws.{shows_true}
use Rattle.sd_apply.proofs.ByTwo.{two_shown}
use Rattle.sd_apply.specs.Steps.{IsStep}
use Rattle.sd_apply.proofs.Steps.{AreUndecided, InUndecided, none_step, step_on}

-- ---- the value that decides

all_and : (s z : Bool) → z ≡ false → combine And s z ≡ z
all_and true z e = refl
all_and false z e = sym e

all_or : (s z : Bool) → z ≡ true → combine Or s z ≡ z
all_or true z e = sym e
all_or false z e = refl

-- beside it, it comes out
pub decides : (t : Table) → IsTable t → (o : Operation) (c : ℕ) (d : Diagram) → deciding_code o ≡ Some c → Shows t c d →
    (s : Bool) (a : List Bool) → combine o s (meaning d a) ≡ meaning d a
decides t i And c d e h s a = all_and s (meaning d a) (false_value t i c d h (sym cc) a)
decides t i Or c d e h s a = all_or s (meaning d a) (shows_true t i c d h (sym cc) a)
decides t i Xor c d e h s a = absurd (cc)

-- ---- what one step makes under an assignment

-- one more element with the value that decides
join_step : (o : Operation) (q v z : Bool) (xs ps : List Bool) (j p s : Bool) → s ≡ z →
    ((b : Bool) → combine o z b ≡ z) → length (xs ++ cond p (s ∷ []) []) ≤ 1 → AreUndecided o q v z xs ps j →
    AreUndecided o q v z (xs ++ cond p (s ∷ []) []) ps (p || j)
join_step o q v z [] ps j true s e d n h =
    ap (λ l. l ++ z ∷ []) h.0
    ∙ ap (λ b. b ∷ []) (sym (ap (λ b. combine o b (cond q v z)) e ∙ d (cond q v z)))
join_step o q v z [] ps j false s e d n h = h
join_step o q v z (x ∷ xs) ps j true s e d n h = absurd (omega (arith, n, length-append xs (s ∷ [])))
join_step o q v z (x ∷ xs) ps j false s e d n h = h

-- one more with another value
product_step : (o : Operation) (q v z : Bool) (xs ps : List Bool) (j p s : Bool) → combine o s z ≡ z →
    length (xs ++ cond p (s ∷ []) []) ≤ 1 → AreUndecided o q v z xs ps j →
    AreUndecided o q v z (xs ++ cond p (s ∷ []) []) (ps ++ row o p s (cond q (v ∷ []) [])) j
product_step o q v z [] ps j false s d n h = (append-nil ps ∙ h.0, h.1)
product_step o q v z (x ∷ xs) ps j false s d n h = ap (λ l. l ++ cond j (z ∷ []) []) (append-nil ps) ∙ h
product_step o true v z [] ps j true s d n h =
    ap (λ l. (l ++ combine o s v ∷ []) ++ cond j (z ∷ []) []) h.0
    ∙ ap (λ b. combine o s v ∷ cond b (z ∷ []) []) h.1
product_step o false v z [] ps j true s d n h =
    ap (λ l. (l ++ []) ++ cond j (z ∷ []) []) h.0
    ∙ ap (λ b. cond b (z ∷ []) []) h.1 ∙ ap (λ b. b ∷ []) (sym d)
product_step o q v z (x ∷ xs) ps j true s d n h = absurd (omega (arith, n, length-append xs (s ∷ [])))

-- with one value of each list
last_step : (o : Operation) (q v z : Bool) (xs ys ps : List Bool) (j : Bool) → length xs ≡ 1 → ys ≡ cond q v z ∷ [] →
    AreUndecided o q v z xs ps j → ps ++ cond j (z ∷ []) [] ≡ products o xs ys
last_step o q v z [] ys ps j n e h = absurd (omega (arith, n))
last_step o q v z (x ∷ []) ys ps j n e h = h ∙ ap (products o (x ∷ [])) (sym e)
last_step o q v z (x ∷ y ∷ xs) ys ps j n e h = absurd (omega (arith, n))

-- ---- the steps

pub undecided_none : (m : Table) (c : Recent) (o : Operation) (u w : ℕ) (l : List (ℕ × ℕ)) (e f : ℕ × ℕ) → IsTable m →
    Knows c m → InUndecided m m c o u w l e f [] f.0 0
undecided_none m c o u w l e f i s = record {
  step = none_step i s;
  made = λ ds x y hd hx hy apart. record {
    shown = [];
    joined = y.0;
    lists = lists_none m u w;
    is = hy;
    value = λ a. (refl, apart a);
  };
}

-- the prime of an element with the value that decides is joined
pub undecided_join : (m0 m m1 : Table) (c c1 : Recent) (o : Operation) (u w : ℕ) (l : List (ℕ × ℕ)) (e f : ℕ × ℕ)
    (r : List (ℕ × ℕ)) (union next i : ℕ) (g : ℕ × ℕ) → IsTable m0 → InUndecided m0 m c o u w l e f r union i →
    IsStep m m1 c1 u w → i < length l → ◌≡◌ {A = ℕ × ℕ} g (get_or l i (0, 0)) → deciding_code o ≡ Some f.1 →
    g.1 ≡ f.1 → Applies m m1 Or u g.0 union next → InUndecided m0 m1 c1 o u w l e f r next (i + 1)
undecided_join m0 m m1 c c1 o u w l e f r union next i g table h s lt at code same k =
    record {
      step = step_on h.step s;
      made = λ ds x y hd hx hy apart.
          let old = h.made ds x y hd hx hy apart in
          let d = lists_at m0 u w l ds hd.lists i lt g at in
          let d0 = pair_on m0 m h.step.kept u w g d.0 d.1.pair in
          let d1 = pair_on m m1 s.kept u w g d.0 d0 in
          let j : Diagram × Diagram = (old.joined, y.1) in
          let j1 = pair_on m m1 s.kept u w (union, f.1) j old.is in
          let z = k.each d.0.0 old.joined (pair_prime m u w g d.0 d0) (pair_prime m u w (union, f.1) j old.is) in
          let S : ℕ → Type 0 = λ n. Shows m0 n d.0.1 in
          let subs : d.0.1 ≡ y.1 =
          one_diagram m0.vtree (get m0.linked) table.numbered d.0.1 f.1 y.1 (subst S same d.1.pair.sub_shows)
          hy.sub_shows in
          let possible : z.diagram ≢ Bottom = λ none. d.1.pair.possible
          (always_false m0.vtree table.numbered d.0.0 d.1.pair.prime.canonical
          (λ a. or_false_left (meaning d.0.0 a) (meaning old.joined a) (sym (z.value a)
          ∙ ap (λ b. meaning b a) none))) in
          record {
            shown = old.shown;
            joined = z.diagram;
            lists = lists_on m m1 s.kept u w r old.shown old.lists;
            is = record {
              prime_shows = z.is.shows;
              sub_shows = j1.sub_shows;
              prime = answer_under m1.vtree u Or d.0.0 old.joined z.diagram d1.prime j1.prime z.is.canonical z.value;
              sub = j1.sub;
              possible = possible;
            };
            value = λ a.
                let q = meaning x.0 a in
                let v = meaning x.1 a in
                let b = meaning y.1 a in
                let ps = answers a old.shown in
                let more = take_answers a m0 u w g ds i d.0 d.1 in
                let front = answers a (take i ds) in
                let A : List Bool → Bool → Type 0 = λ xs j. AreUndecided o q v b xs ps j in
                subst (λ xs. A xs (meaning z.diagram a)) (sym more)
                (subst (A (front ++ one_answer a d.0)) (sym (z.value a))
                (join_step o q v b front ps (meaning old.joined a) (meaning d.0.0 a) (meaning d.0.1 a)
                (ap (λ n. meaning n a) subs)
                (λ n. combine_exchanged o b n ∙ decides m0 table o f.1 y.1 code hy.sub_shows n a)
                (omega (arith, ap length more, part_answers a ds (i + 1), hd.most_one a))
                (old.value a)));
          };
    }

-- the other element alone
only_answers : (p v : Bool) → length (cond p (v ∷ []) []) ≤ 1
only_answers true v = omega arith
only_answers false v = omega arith

alone : (t : Table) (u w : ℕ) (e : ℕ × ℕ) (x : Diagram × Diagram) → IsPair t u w e x →
    IsDisjointUnder t u w (e ∷ []) (x ∷ [])
alone t u w e x h = record {
  lists = record { pairs = (h, tt) };
  most_one = λ a. only_answers (meaning x.0 a) (meaning x.1 a);
}

pub alone_below : (t : Table) (u w : ℕ) (e : ℕ × ℕ) → IsPaired t u w e → AreDisjointBelow t u w (e ∷ [])
alone_below t u w e h = record { shown = h.shown ∷ []; is = alone t u w e h.shown h.is }

-- the product of an element with another value is pushed
pub undecided_product : (m0 m m1 : Table) (c c1 : Recent) (o : Operation) (u w : ℕ) (l : List (ℕ × ℕ)) (e f : ℕ × ℕ)
    (r r1 : List (ℕ × ℕ)) (union i : ℕ) (g : ℕ × ℕ) → IsTable m0 → InUndecided m0 m c o u w l e f r union i →
    IsStep m m1 c1 u w → i < length l → ◌≡◌ {A = ℕ × ℕ} g (get_or l i (0, 0)) → deciding_code o ≡ Some f.1 →
    MultipliesElement m m1 o u w g (e ∷ []) r r1 → InUndecided m0 m1 c1 o u w l e f r1 union (i + 1)
undecided_product m0 m m1 c c1 o u w l e f r r1 union i g table h s lt at code k =
    record {
      step = step_on h.step s;
      made = λ ds x y hd hx hy apart.
          let old = h.made ds x y hd hx hy apart in
          let d = lists_at m0 u w l ds hd.lists i lt g at in
          let d0 = pair_on m0 m h.step.kept u w g d.0 d.1.pair in
          let x0 = pair_on m0 m h.step.kept u w e x hx in
          let z = k.each d.0 (x ∷ []) old.shown d0 (alone m u w e x x0) old.lists in
          record {
            shown = z.shown;
            joined = old.joined;
            lists = z.lists;
            is = pair_on m m1 s.kept u w (union, f.1) (old.joined, y.1) old.is;
            value = λ a.
                let q = meaning x.0 a in
                let v = meaning x.1 a in
                let b = meaning y.1 a in
                let more = take_answers a m0 u w g ds i d.0 d.1 in
                let front = answers a (take i ds) in
                let j = meaning old.joined a in
                let A : List Bool → List Bool → Type 0 = λ xs ps. AreUndecided o q v b xs ps j in
                subst (λ xs. A xs (answers a z.shown)) (sym more)
                (subst (A (front ++ one_answer a d.0)) (sym (z.value a))
                (product_step o q v b front (answers a old.shown) j (meaning d.0.0 a) (meaning d.0.1 a)
                (decides m0 table o f.1 y.1 code hy.sub_shows (meaning d.0.1 a) a)
                (omega (arith, ap length more, part_answers a ds (i + 1), hd.most_one a))
                (old.value a)));
          };
    }

-- ---- the second list

-- the one of two elements and the other one, of which exactly one holds
record IsSplit (t : Table) (u w : ℕ) (e f : ℕ × ℕ) (fs : List (Diagram × Diagram)) : Type 0 where
  x : Diagram × Diagram
  y : Diagram × Diagram
  one : IsPair t u w e x
  other : IsPair t u w f y
  apart : (a : List Bool) → meaning y.0 a ≡ not (meaning x.0 a)
  value : (a : List Bool) → answers a fs ≡ cond (meaning x.0 a) (meaning x.1 a) (meaning y.1 a) ∷ []

apart_first : (p q v z : Bool) → length (cond p (v ∷ cond q (z ∷ []) []) (cond q (z ∷ []) [])) ≡ 1 → q ≡ not p
apart_first true true v z n = absurd (omega (arith, n))
apart_first true false v z n = refl
apart_first false true v z n = refl
apart_first false false v z n = absurd (omega (arith, n))

value_first : (p q v z : Bool) → q ≡ not p →
    cond p (v ∷ cond q (z ∷ []) []) (cond q (z ∷ []) []) ≡ cond p v z ∷ []
value_first true q v z e = ap (λ b. v ∷ cond b (z ∷ []) []) e
value_first false q v z e = ap (λ b. cond b (z ∷ []) []) e

value_second : (p q v z : Bool) → q ≡ not p →
    cond p (v ∷ cond q (z ∷ []) []) (cond q (z ∷ []) []) ≡ cond q z v ∷ []
value_second true true v z e = absurd (cc)
value_second true false v z e = refl
value_second false true v z e = refl
value_second false false v z e = absurd (cc)

other_way : (p q : Bool) → q ≡ not p → p ≡ not q
other_way true q e = sym (ap not e)
other_way false q e = sym (ap not e)

split : (t : Table) (u w : ℕ) (l : List (ℕ × ℕ)) (fs : List (Diagram × Diagram)) (k : ℕ) → length l ≡ 2 → k < 2 →
    IsPartitionUnder t u w l fs → IsSplit t u w (get_or l (1 - k) (0, 0)) (get_or l k (0, 0)) fs
split t u w l fs zero n lt h =
    let q = two_shown t u w l fs (get_or l 0 (0, 0)) (get_or l 1 (0, 0)) n refl refl h.lists.pairs in
    let one : (a : List Bool) → meaning q.y.0 a ≡ not (meaning q.x.0 a) = λ a.
    apart_first (meaning q.x.0 a) (meaning q.y.0 a) (meaning q.x.1 a) (meaning q.y.1 a)
    (ap (λ d. length (answers a d)) (sym q.all) ∙ h.one_true a) in
    record {
      x = q.y;
      y = q.x;
      one = q.second;
      other = q.first;
      apart = λ a. other_way (meaning q.x.0 a) (meaning q.y.0 a) (one a);
      value = λ a. ap (answers a) q.all
          ∙ value_second (meaning q.x.0 a) (meaning q.y.0 a) (meaning q.x.1 a) (meaning q.y.1 a) (one a);
    }
split t u w l fs (suc zero) n lt h =
    let q = two_shown t u w l fs (get_or l 0 (0, 0)) (get_or l 1 (0, 0)) n refl refl h.lists.pairs in
    let one : (a : List Bool) → meaning q.y.0 a ≡ not (meaning q.x.0 a) = λ a.
    apart_first (meaning q.x.0 a) (meaning q.y.0 a) (meaning q.x.1 a) (meaning q.y.1 a)
    (ap (λ d. length (answers a d)) (sym q.all) ∙ h.one_true a) in
    record {
      x = q.x;
      y = q.y;
      one = q.first;
      other = q.second;
      apart = one;
      value = λ a. ap (answers a) q.all
          ∙ value_first (meaning q.x.0 a) (meaning q.y.0 a) (meaning q.x.1 a) (meaning q.y.1 a) (one a);
    }
split t u w l fs (suc (suc k)) n lt h = absurd (omega (arith, lt))

-- what the loop's calls ask for
pub undecided_below : (m0 m : Table) (c : Recent) (o : Operation) (u w : ℕ) (l k : List (ℕ × ℕ)) (n : ℕ)
    (r : List (ℕ × ℕ)) (union i : ℕ) →
    InUndecided m0 m c o u w l (get_or k (1 - n) (0, 0)) (get_or k n (0, 0)) r union i → IsPartitionBelow m0 u w l →
    IsPartitionBelow m0 u w k → HasDecidingSub o k n → IsBelow m u union
undecided_below m0 m c o u w l k n r union i h part second two =
    let q = split m0 u w k second.shown n two.two two.within second.is in
    let z = h.made part.shown q.x q.y
    (record { lists = part.is.lists; most_one = λ a. omega (arith, part.is.one_true a) }) q.one q.other q.apart in
    record { diagram = z.joined; is = pair_prime m u w (union, (get_or k n (0, 0)).1) (z.joined, q.y.1) z.is }

-- all products, and the element that is left
pub undecided_done : (m0 m : Table) (c : Recent) (o : Operation) (u w : ℕ) (l k : List (ℕ × ℕ)) (n : ℕ)
    (r r1 : List (ℕ × ℕ)) (union i : ℕ) → IsTable m0 →
    InUndecided m0 m c o u w l (get_or k (1 - n) (0, 0)) (get_or k n (0, 0)) r union i → length l ≤ i →
    i ≤ length l → IsPartitionBelow m0 u w l → HasDecidingSub o k n → r1 ≡ r ++ (union, (get_or k n (0, 0)).1) ∷ [] →
    Multiplies m0 m o u w l k r1
undecided_done m0 m c o u w l k n r r1 union i table h lo hi part two pushed = record {
  each = λ ds fs hd hf.
      let same = same_shown m0 table u w l l ds part.shown hd part.is.lists refl in
      let one : (a : List Bool) → length (answers a ds) ≡ 1 = λ a.
      ap (λ v. length (answers a v)) same ∙ part.is.one_true a in
      let q = split m0 u w k fs n two.two two.within hf in
      let z = h.made ds q.x q.y (record { lists = hd; most_one = λ a. omega (arith, one a) }) q.one q.other q.apart in
      let new : Diagram × Diagram = (z.joined, q.y.1) in
      let L : List (ℕ × ℕ) → Type 0 = λ v. ListsElements m u w v (z.shown ++ new ∷ []) in
      record {
        shown = z.shown ++ new ∷ [];
        lists = subst L (sym pushed)
            (lists_push m u w r z.shown (union, (get_or k n (0, 0)).1) new z.lists z.is);
        value = λ a.
            let A : List (Diagram × Diagram) → Type 0 = λ v.
            AreUndecided o (meaning q.x.0 a) (meaning q.x.1 a) (meaning q.y.1 a) (answers a v) (answers a z.shown)
            (meaning z.joined a) in
            answers_push a z.shown new
            ∙ last_step o (meaning q.x.0 a) (meaning q.x.1 a) (meaning q.y.1 a) (answers a ds) (answers a fs)
            (answers a z.shown) (meaning z.joined a) (one a) (q.value a)
            (subst A (take_all m0 u w l ds i hd lo hi) (z.value a));
      };
}
