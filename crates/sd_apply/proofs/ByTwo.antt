-- Products with a partition of two elements: an element stays whole where one of both primes holds wherever its own
-- does, and where both subs come to one. Beside a partition of one element it always stays whole.
use Rattle.std.proofs.Common.{◌≡◌, ℕ, zero, suc, Bool, true, false, ◌&&◌, cond, List, [], ◌∷◌, ◌++◌, length, map}
use Rattle.std.proofs.Common.{get_or, refl, sym, ◌∙◌, ap, subst, arith, append_assoc, append-nil}
use Rattle.std.specs.FinMap.{get}
use Rattle.std.specs.List.{AllZip}
use Rattle.sd_model.specs.declared.trees.Operation.{Operation}
use Rattle.sd_model.specs.declared.trees.Operation.TheVariants.{And}
use Rattle.sd_model.specs.Diagram.{Diagram, meaning}
use Rattle.sd_model.specs.Expression.{combine}
use Rattle.sd_laws.specs.Pairs.{answers}
use Rattle.sd_laws.proofs.Codes.{one_diagram}
use Rattle.sd_manager.specs.Table.{Table}
use Rattle.sd_manager.specs.Shown.{Shows}
use Rattle.sd_manager.specs.Making.{Extends}
use Rattle.sd_manager.specs.Valid.{IsTable}
use Rattle.sd_apply.specs.Answers.{HasAnswer}
use Rattle.sd_apply.specs.Places.{IsNodeUnder}
use Rattle.sd_apply.specs.Elements.{IsPair, ListsElements, IsPartitionBelow, row}
use Rattle.sd_apply.specs.Calls.{Applies, Multiplies, MultipliesElement}
use Rattle.sd_apply.specs.Matching.{MultipliesRows}
use Rattle.sd_apply.proofs.Trees.{answer_under}
use Rattle.sd_apply.proofs.Listed.{one_answer, answers_push, answer_on, node_on, pair_on, lists_on, lists_push}
use Rattle.sd_apply.proofs.Listed.{lists_none}
use Rattle.sd_apply.proofs.Merging.{head_of, head_same}
use Rattle.sd_apply.proofs.Rows.{pair_prime, pair_sub, not_bottom, false_value}
use Rattle.sd_apply.proofs.Same.{same_shown}

-- rows behind no pairs are all products
pub rows_products : (old new : Table) (o : Operation) (u w : ℕ) (l k r : List (ℕ × ℕ)) →
    MultipliesRows old new o u w l k [] r → Multiplies old new o u w l k r
rows_products old new o u w l k r h = record {
  each = λ ds fs hd hf. h.each ds fs [] hd
      (record { lists = hf.lists; most_one = λ a. omega (arith, hf.one_true a) }) (lists_none old u w);
}

-- an answer about two nodes that were there before, in a later table
pub answered : (m a b n : Table) → Extends m a → Extends b n → (o : Operation) (v x y r : ℕ) →
    Applies a b o v x y r → (d f : Diagram) → IsNodeUnder m v x d → IsNodeUnder m v y f →
    HasAnswer n (λ g. combine o (meaning d g) (meaning f g)) r
answered m a b n p q o v x y r h d f hd hf =
    answer_on b n q (λ g. combine o (meaning d g) (meaning f g)) r
    (h.each d f (node_on m a p v x d hd) (node_on m a p v y f hf))

-- the answers of the primes and of the subs of two elements
pub prime_answered : (m a b n : Table) → Extends m a → Extends b n → (u w : ℕ) (e f : ℕ × ℕ) (r : ℕ) →
    Applies a b And u e.0 f.0 r → (d x : Diagram × Diagram) → IsPair m u w e d → IsPair m u w f x →
    HasAnswer n (λ g. combine And (meaning d.0 g) (meaning x.0 g)) r
prime_answered m a b n p q u w e f r h d x hd hx =
    answered m a b n p q And u e.0 f.0 r h d.0 x.0 (pair_prime m u w e d hd) (pair_prime m u w f x hx)

pub sub_answered : (m a b n : Table) → Extends m a → Extends b n → (o : Operation) (u w : ℕ) (e f : ℕ × ℕ)
    (r : ℕ) → Applies a b o w e.1 f.1 r → (d x : Diagram × Diagram) → IsPair m u w e d →
    IsPair m u w f x → HasAnswer n (λ g. combine o (meaning d.1 g) (meaning x.1 g)) r
sub_answered m a b n p q o u w e f r h d x hd hx =
    answered m a b n p q o w e.1 f.1 r h d.1 x.1 (pair_sub m u w e d hd) (pair_sub m u w f x hx)

-- the answer of subs stands below w
sub_under : (n : Table) (o : Operation) (u w : ℕ) (e f : ℕ × ℕ) (d x : Diagram × Diagram) (c : ℕ) →
    IsPair n u w e d → IsPair n u w f x →
    (h : HasAnswer n (λ g. combine o (meaning d.1 g) (meaning x.1 g)) c) → IsNodeUnder n w c h.diagram
sub_under n o u w e f d x c hd hx h = record {
  shows = h.is.shows;
  under = answer_under n.vtree w o d.1 x.1 h.diagram hd.sub hx.sub h.is.canonical h.value;
}

-- The code shows, below w, what the connective gives at the sub of d and at that of x and y whose prime is true, where
-- the prime of d is.
pub record IsWhole (n : Table) (o : Operation) (w : ℕ) (d x y : Diagram × Diagram) (c : ℕ) : Type 0 where
  pub diagram : Diagram
  pub is : IsNodeUnder n w c diagram
  pub value : (a : List Bool) (b : Bool) → meaning d.0 a ≡ true → answers a (x ∷ y ∷ []) ≡ b ∷ [] →
      meaning diagram a ≡ combine o (meaning d.1 a) b

-- the only value of the last element
last_value : (q v b : Bool) → cond q (v ∷ []) [] ≡ b ∷ [] → v ≡ b
last_value true v b e = head_same v b e
last_value false v b e = absurd (cc)

-- where the first prime is false, the last one has the value
second_value : (p q v x b : Bool) → p ≡ false → cond p (x ∷ cond q (v ∷ []) []) (cond q (v ∷ []) []) ≡ b ∷ [] →
    v ≡ b
second_value true q v x b e h = absurd (cc)
second_value false q v x b e h = last_value q v b h

-- where the first prime is true, it has the value
first_value : (p q v x b : Bool) → p ≡ true → cond p (x ∷ cond q (v ∷ []) []) (cond q (v ∷ []) []) ≡ b ∷ [] →
    x ≡ b
first_value true q v x b e h = head_of x (cond q (v ∷ []) []) b h
first_value false q v x b e h = absurd (cc)

-- the first prime is false where that of d is
pub whole_absent : (n : Table) (o : Operation) (u w : ℕ) (e g : ℕ × ℕ) (d x y : Diagram × Diagram)
    (both c : ℕ) → IsTable n → IsPair n u w e d → IsPair n u w g y →
    HasAnswer n (λ a. combine And (meaning d.0 a) (meaning x.0 a)) both → both ≡ 0 →
    HasAnswer n (λ a. combine o (meaning d.1 a) (meaning y.1 a)) c → IsWhole n o w d x y c
whole_absent n o u w e g d x y both c i hd hy z false_both h = record {
  diagram = h.diagram;
  is = sub_under n o u w e g d y c hd hy h;
  value = λ a b there one.
      let none : (meaning d.0 a && meaning x.0 a) ≡ false =
      sym (z.value a) ∙ false_value n i both z.diagram z.is.shows false_both a in
      let off : meaning x.0 a ≡ false = sym (ap (λ v. v && meaning x.0 a) there) ∙ none in
      h.value a ∙ ap (combine o (meaning d.1 a))
      (second_value (meaning x.0 a) (meaning y.0 a) (meaning y.1 a) (meaning x.1 a) b off one);
}

-- the first prime is true where that of d is
pub whole_held : (n : Table) (o : Operation) (u w : ℕ) (e f : ℕ × ℕ) (d x y : Diagram × Diagram)
    (both c : ℕ) → IsTable n → IsPair n u w e d → IsPair n u w f x →
    HasAnswer n (λ a. combine And (meaning d.0 a) (meaning x.0 a)) both → both ≡ e.0 →
    HasAnswer n (λ a. combine o (meaning d.1 a) (meaning x.1 a)) c → IsWhole n o w d x y c
whole_held n o u w e f d x y both c i hd hx z same h = record {
  diagram = h.diagram;
  is = sub_under n o u w e f d x c hd hx h;
  value = λ a b there one.
      let S : ℕ → Type 0 = λ k. Shows n k z.diagram in
      let prime : z.diagram ≡ d.0 =
      one_diagram n.vtree (get n.linked) i.numbered z.diagram e.0 d.0 (subst S same z.is.shows) hd.prime_shows in
      let implies : meaning d.0 a ≡ (meaning d.0 a && meaning x.0 a) =
      ap (λ v. meaning v a) (sym prime) ∙ z.value a in
      let on : meaning x.0 a ≡ true = sym (sym there ∙ implies ∙ ap (λ v. v && meaning x.0 a) there) in
      h.value a ∙ ap (combine o (meaning d.1 a))
      (first_value (meaning x.0 a) (meaning y.0 a) (meaning y.1 a) (meaning x.1 a) b on one);
}

-- both subs come to one
pub whole_same : (n : Table) (o : Operation) (u w : ℕ) (e f : ℕ × ℕ) (d x y : Diagram × Diagram) (c k : ℕ) →
    IsTable n → IsPair n u w e d → IsPair n u w f x →
    HasAnswer n (λ a. combine o (meaning d.1 a) (meaning x.1 a)) c →
    HasAnswer n (λ a. combine o (meaning d.1 a) (meaning y.1 a)) k → c ≡ k → IsWhole n o w d x y c
whole_same n o u w e f d x y c k i hd hx h j same = record {
  diagram = h.diagram;
  is = sub_under n o u w e f d x c hd hx h;
  value = λ a b there one. go a b (meaning x.0 a) refl one;
}
  where
    one_node : h.diagram ≡ j.diagram
    one_node =
        let S : ℕ → Type 0 = λ z. Shows n z h.diagram in
        one_diagram n.vtree (get n.linked) i.numbered h.diagram k j.diagram (subst S same h.is.shows) j.is.shows

    go : (a : List Bool) (b p : Bool) → meaning x.0 a ≡ p → answers a (x ∷ y ∷ []) ≡ b ∷ [] →
        meaning h.diagram a ≡ combine o (meaning d.1 a) b
    go a b true e one = h.value a ∙ ap (combine o (meaning d.1 a))
        (first_value (meaning x.0 a) (meaning y.0 a) (meaning y.1 a) (meaning x.1 a) b e one)
    go a b false e one = ap (λ v. meaning v a) one_node ∙ j.value a ∙ ap (combine o (meaning d.1 a))
        (second_value (meaning x.0 a) (meaning y.0 a) (meaning y.1 a) (meaning x.1 a) b e one)

-- the two elements that a list of two shows
pub record AreTwo (t : Table) (u w : ℕ) (f g : ℕ × ℕ) (ds : List (Diagram × Diagram)) : Type 0 where
  pub x : Diagram × Diagram
  pub y : Diagram × Diagram
  pub first : IsPair t u w f x
  pub second : IsPair t u w g y
  pub all : ds ≡ x ∷ y ∷ []

pub two_shown : (t : Table) (u w : ℕ) (list : List (ℕ × ℕ)) (ds : List (Diagram × Diagram)) (f g : ℕ × ℕ) →
    length list ≡ 2 → ◌≡◌ {A = ℕ × ℕ} f (get_or list 0 (0, 0)) → ◌≡◌ {A = ℕ × ℕ} g (get_or list 1 (0, 0)) →
    AllZip (IsPair t u w) list ds → AreTwo t u w f g ds
two_shown t u w [] ds f g n ef eg h = absurd (cc)
two_shown t u w (a ∷ []) ds f g n ef eg h = absurd (omega (arith, n))
two_shown t u w (a ∷ b ∷ c ∷ l) ds f g n ef eg h = absurd (omega (arith, n))
two_shown t u w (a ∷ b ∷ []) [] f g n ef eg h = absurd h
two_shown t u w (a ∷ b ∷ []) (x ∷ []) f g n ef eg h = absurd h.1
two_shown t u w (a ∷ b ∷ []) (x ∷ y ∷ z ∷ ds) f g n ef eg h = absurd h.1.1
two_shown t u w (a ∷ b ∷ []) (x ∷ y ∷ []) f g n ef eg h =
    let P : Diagram × Diagram → ℕ × ℕ → Type 0 = λ v c. IsPair t u w c v in
    record {
      x = x;
      y = y;
      first = subst (P x) (sym ef) h.0;
      second = subst (P y) (sym eg) h.1.0;
      all = refl;
    }

-- a list of one value
one_value : (xs : List Bool) → length xs ≡ 1 → (v : Bool) × (xs ≡ v ∷ [])
one_value [] e = absurd (omega (arith, e))
one_value (x ∷ []) e = (x, refl)
one_value (x ∷ y ∷ xs) e = absurd (omega (arith, e))

-- the row over one value
one_row : (o : Operation) (p s y v : Bool) (xs : List Bool) → xs ≡ v ∷ [] → (p ≡ true → y ≡ combine o s v) →
    cond p (y ∷ []) [] ≡ row o p s xs
one_row o true s y v xs e h = ap (λ z. z ∷ []) (h refl) ∙ ap (map (combine o s)) (sym e)
one_row o false s y v xs e h = refl

-- the element stays whole
pub whole_product : (m n : Table) (o : Operation) (u w : ℕ) (e f g : ℕ × ℕ) (list l r : List (ℕ × ℕ)) (c : ℕ) →
    IsTable m → Extends m n → IsPartitionBelow m u w list → length list ≡ 2 →
    ◌≡◌ {A = ℕ × ℕ} f (get_or list 0 (0, 0)) → ◌≡◌ {A = ℕ × ℕ} g (get_or list 1 (0, 0)) →
    ((d x y : Diagram × Diagram) → IsPair m u w e d → IsPair m u w f x → IsPair m u w g y →
    IsWhole n o w d x y c) → r ≡ l ++ (e.0, c) ∷ [] → MultipliesElement m n o u w e list l r
whole_product m n o u w e f g list l r c i k part two ef eg asked pushed = record {
  each = λ d fs gs hd hf hg.
      let t = two_shown m u w list fs f g two ef eg hf.lists.pairs in
      let q = asked d t.x t.y hd t.first t.second in
      let d1 = pair_on m n k u w e d hd in
      let new : Diagram × Diagram = (d.0, q.diagram) in
      let pair : IsPair n u w (e.0, c) new = record {
        prime_shows = d1.prime_shows;
        sub_shows = q.is.shows;
        prime = d1.prime;
        sub = q.is.under;
        possible = hd.possible;
      } in
      let L : List (ℕ × ℕ) → Type 0 = λ z. ListsElements n u w z (gs ++ new ∷ []) in
      let same = same_shown m i u w list list fs part.shown hf.lists part.is.lists refl in
      record {
        shown = gs ++ new ∷ [];
        lists = subst L (sym pushed) (lists_push n u w l gs (e.0, c) new (lists_on m n k u w l gs hg) pair);
        value = λ a.
            let one = one_value (answers a fs) (ap (λ z. length (answers a z)) same ∙ part.is.one_true a) in
            answers_push a gs new
            ∙ ap (λ v. answers a gs ++ v) (one_row o (meaning d.0 a) (meaning d.1 a) (meaning q.diagram a) one.0
            (answers a fs) one.1
            (λ there. q.value a one.0 there (ap (answers a) (sym t.all) ∙ one.1)));
      };
}

-- the element that a list of one shows
one_shown : (t : Table) (u w : ℕ) (list : List (ℕ × ℕ)) (ds : List (Diagram × Diagram)) (f : ℕ × ℕ) →
    length list ≡ 1 → ◌≡◌ {A = ℕ × ℕ} f (get_or list 0 (0, 0)) → AllZip (IsPair t u w) list ds →
    (x : Diagram × Diagram) × IsPair t u w f x × (ds ≡ x ∷ [])
one_shown t u w [] ds f n ef h = absurd (omega (arith, n))
one_shown t u w (a ∷ b ∷ l) ds f n ef h = absurd (omega (arith, n))
one_shown t u w (a ∷ []) [] f n ef h = absurd h
one_shown t u w (a ∷ []) (x ∷ y ∷ ds) f n ef h = absurd h.1
one_shown t u w (a ∷ []) (x ∷ []) f n ef h =
    let P : ℕ × ℕ → Type 0 = λ c. IsPair t u w c x in
    (x, subst P (sym ef) h.0, refl)

-- the prime of a partition of one element is true, so the element beside it stays whole
pub product_by_one : (m n : Table) (o : Operation) (u w : ℕ) (e f : ℕ × ℕ) (list l r : List (ℕ × ℕ)) (c : ℕ) →
    IsTable m → Extends m n → IsPartitionBelow m u w list → length list ≡ 1 →
    ◌≡◌ {A = ℕ × ℕ} f (get_or list 0 (0, 0)) → Applies m n o w e.1 f.1 c → r ≡ l ++ (e.0, c) ∷ [] →
    MultipliesElement m n o u w e list l r
product_by_one m n o u w e f list l r c i k part one ef h pushed = record {
  each = λ d fs gs hd hf hg.
      let t = one_shown m u w list fs f one ef hf.lists.pairs in
      let x = t.0 in
      let q = h.each d.1 x.1 (pair_sub m u w e d hd) (pair_sub m u w f x t.1) in
      let d1 = pair_on m n k u w e d hd in
      let x1 = pair_on m n k u w f x t.1 in
      let new : Diagram × Diagram = (d.0, q.diagram) in
      let pair : IsPair n u w (e.0, c) new = record {
        prime_shows = d1.prime_shows;
        sub_shows = q.is.shows;
        prime = d1.prime;
        sub = answer_under n.vtree w o d.1 x.1 q.diagram d1.sub x1.sub q.is.canonical q.value;
        possible = hd.possible;
      } in
      let L : List (ℕ × ℕ) → Type 0 = λ z. ListsElements n u w z (gs ++ new ∷ []) in
      let same = same_shown m i u w list list fs part.shown hf.lists part.is.lists refl in
      record {
        shown = gs ++ new ∷ [];
        lists = subst L (sym pushed) (lists_push n u w l gs (e.0, c) new (lists_on m n k u w l gs hg) pair);
        value = λ a.
            let v = one_value (answers a fs) (ap (λ z. length (answers a z)) same ∙ part.is.one_true a) in
            answers_push a gs new
            ∙ ap (λ z. answers a gs ++ z) (one_row o (meaning d.0 a) (meaning d.1 a) (meaning q.diagram a) v.0
            (answers a fs) v.1
            (λ there. q.value a ∙ ap (combine o (meaning d.1 a))
            (last_value (meaning x.0 a) (meaning x.1 a) v.0 (ap (answers a) (sym t.2) ∙ v.1))));
      };
}

-- The codes show the product of two elements, whose prime is not false.
pub record IsProduct (n : Table) (o : Operation) (u w : ℕ) (d x : Diagram × Diagram) (p s : ℕ) : Type 0 where
  pub shown : Diagram × Diagram
  pub is : IsPair n u w (p, s) shown
  pub prime : (a : List Bool) → meaning shown.0 a ≡ (meaning d.0 a && meaning x.0 a)
  pub sub : (a : List Bool) → meaning shown.1 a ≡ combine o (meaning d.1 a) (meaning x.1 a)

pub product_of : (n : Table) (o : Operation) (u w : ℕ) (e f : ℕ × ℕ) (d x : Diagram × Diagram) (p s : ℕ) →
    IsPair n u w e d → IsPair n u w f x → HasAnswer n (λ a. combine And (meaning d.0 a) (meaning x.0 a)) p →
    (p ≡ 0 → ⊥) → HasAnswer n (λ a. combine o (meaning d.1 a) (meaning x.1 a)) s → IsProduct n o u w d x p s
product_of n o u w e f d x p s hd hx z some y = record {
  shown = (z.diagram, y.diagram);
  is = record {
    prime_shows = z.is.shows;
    sub_shows = y.is.shows;
    prime = answer_under n.vtree u And d.0 x.0 z.diagram hd.prime hx.prime z.is.canonical z.value;
    sub = answer_under n.vtree w o d.1 x.1 y.diagram hd.sub hx.sub y.is.canonical y.value;
    possible = not_bottom n p z.diagram z.is.shows some;
  };
  prime = z.value;
  sub = y.value;
}

-- the answer of a product
product_answer : (n : Table) (o : Operation) (u w : ℕ) (d x : Diagram × Diagram) (p s : ℕ)
    (h : IsProduct n o u w d x p s) (a : List Bool) →
    one_answer a h.shown ≡ cond (meaning d.0 a && meaning x.0 a) (combine o (meaning d.1 a) (meaning x.1 a) ∷ []) []
product_answer n o u w d x p s h a =
    ap (λ v. cond v (meaning h.shown.1 a ∷ []) []) (h.prime a)
    ∙ ap (λ v. cond (meaning d.0 a && meaning x.0 a) (v ∷ []) []) (h.sub a)

-- the row over two elements is the answers of both products
two_rows : (o : Operation) (p s q v k z : Bool) →
    cond (p && q) (combine o s v ∷ []) [] ++ cond (p && k) (combine o s z ∷ []) []
    ≡ row o p s (cond q (v ∷ cond k (z ∷ []) []) (cond k (z ∷ []) []))
two_rows o true s true v true z = refl
two_rows o true s true v false z = refl
two_rows o true s false v true z = refl
two_rows o true s false v false z = refl
two_rows o false s q v k z = refl

-- both products stand there
pub split_product : (m n : Table) (o : Operation) (u w : ℕ) (e f g : ℕ × ℕ) (list l r : List (ℕ × ℕ))
    (both one apart two : ℕ) → Extends m n → length list ≡ 2 →
    ◌≡◌ {A = ℕ × ℕ} f (get_or list 0 (0, 0)) → ◌≡◌ {A = ℕ × ℕ} g (get_or list 1 (0, 0)) →
    ((d x : Diagram × Diagram) → IsPair m u w e d → IsPair m u w f x → IsProduct n o u w d x both one) →
    ((d y : Diagram × Diagram) → IsPair m u w e d → IsPair m u w g y → IsProduct n o u w d y apart two) →
    r ≡ (l ++ (both, one) ∷ []) ++ (apart, two) ∷ [] → MultipliesElement m n o u w e list l r
split_product m n o u w e f g list l r both one apart two k size ef eg first second pushed = record {
  each = λ d fs gs hd hf hg.
      let t = two_shown m u w list fs f g size ef eg hf.lists.pairs in
      let z = first d t.x hd t.first in
      let y = second d t.y hd t.second in
      let L : List (ℕ × ℕ) → Type 0 = λ v. ListsElements n u w v ((gs ++ z.shown ∷ []) ++ y.shown ∷ []) in
      record {
        shown = (gs ++ z.shown ∷ []) ++ y.shown ∷ [];
        lists = subst L (sym pushed) (lists_push n u w (l ++ (both, one) ∷ []) (gs ++ z.shown ∷ []) (apart, two)
            y.shown (lists_push n u w l gs (both, one) z.shown (lists_on m n k u w l gs hg) z.is) y.is);
        value = λ a.
            let p = meaning d.0 a in
            let s = meaning d.1 a in
            let head = product_answer n o u w d t.x both one z a in
            let last = product_answer n o u w d t.y apart two y a in
            answers_push a (gs ++ z.shown ∷ []) y.shown
            ∙ ap (λ v. v ++ one_answer a y.shown) (answers_push a gs z.shown)
            ∙ append_assoc (answers a gs) (one_answer a z.shown) (one_answer a y.shown)
            ∙ ap (λ v. answers a gs ++ (v ++ one_answer a y.shown)) head
            ∙ ap (λ v. answers a gs ++ (cond (p && meaning t.x.0 a) (combine o s (meaning t.x.1 a) ∷ []) [] ++ v)) last
            ∙ ap (λ v. answers a gs ++ v) (two_rows o p s (meaning t.x.0 a) (meaning t.x.1 a) (meaning t.y.0 a)
            (meaning t.y.1 a))
            ∙ ap (λ v. answers a gs ++ row o p s (answers a v)) (sym t.all);
      };
}

-- the row over two elements of which the second has a false product
first_row : (o : Operation) (p s q v k z : Bool) → (p && k) ≡ false →
    cond (p && q) (combine o s v ∷ []) [] ≡ row o p s (cond q (v ∷ cond k (z ∷ []) []) (cond k (z ∷ []) []))
first_row o p s q v k z none =
    sym (append-nil (cond (p && q) (combine o s v ∷ []) []))
    ∙ ap (λ b. cond (p && q) (combine o s v ∷ []) [] ++ cond b (combine o s z ∷ []) []) (sym none)
    ∙ two_rows o p s q v k z

-- only the first product stands there
pub first_product : (m n : Table) (o : Operation) (u w : ℕ) (e f g : ℕ × ℕ) (list l r : List (ℕ × ℕ))
    (both one apart : ℕ) → IsTable n → Extends m n → length list ≡ 2 →
    ◌≡◌ {A = ℕ × ℕ} f (get_or list 0 (0, 0)) → ◌≡◌ {A = ℕ × ℕ} g (get_or list 1 (0, 0)) →
    ((d x : Diagram × Diagram) → IsPair m u w e d → IsPair m u w f x → IsProduct n o u w d x both one) →
    ((d y : Diagram × Diagram) → IsPair m u w e d → IsPair m u w g y →
    HasAnswer n (λ a. combine And (meaning d.0 a) (meaning y.0 a)) apart) → apart ≡ 0 →
    r ≡ l ++ (both, one) ∷ [] → MultipliesElement m n o u w e list l r
first_product m n o u w e f g list l r both one apart i k size ef eg first second false_apart pushed = record {
  each = λ d fs gs hd hf hg.
      let t = two_shown m u w list fs f g size ef eg hf.lists.pairs in
      let z = first d t.x hd t.first in
      let y = second d t.y hd t.second in
      let L : List (ℕ × ℕ) → Type 0 = λ v. ListsElements n u w v (gs ++ z.shown ∷ []) in
      record {
        shown = gs ++ z.shown ∷ [];
        lists = subst L (sym pushed)
            (lists_push n u w l gs (both, one) z.shown (lists_on m n k u w l gs hg) z.is);
        value = λ a.
            let p = meaning d.0 a in
            let s = meaning d.1 a in
            let none : (p && meaning t.y.0 a) ≡ false =
            sym (y.value a) ∙ false_value n i apart y.diagram y.is.shows false_apart a in
            answers_push a gs z.shown
            ∙ ap (λ v. answers a gs ++ v) (product_answer n o u w d t.x both one z a)
            ∙ ap (λ v. answers a gs ++ v) (first_row o p s (meaning t.x.0 a) (meaning t.x.1 a) (meaning t.y.0 a)
            (meaning t.y.1 a) none)
            ∙ ap (λ v. answers a gs ++ row o p s (answers a v)) (sym t.all);
      };
}

-- by cases on whether a code is that of false
pub either_code : {A : Type 0} → (n : ℕ) → (n ≡ 0 → A) → ((n ≡ 0 → ⊥) → A) → A
either_code zero here not_here = here refl
either_code (suc n) here not_here = not_here (λ e. cc)
