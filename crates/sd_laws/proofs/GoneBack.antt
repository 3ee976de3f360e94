-- The state to which a move goes back: the nodes of that state with their keys, and what is left below the moved node.
use Rattle.std.proofs.Common.{◌≡◌, ◌≢◌, ◌⊎◌, inl, inr, ℕ, ◌+◌, ◌*◌, ◌≤◌, ◌<◌, List, [], Option, Some, None}
use Rattle.std.proofs.Common.{refl, sym, ◌∙◌, subst, arith}
use Rattle.std.specs.List.{AllByRecursion}
use Rattle.std.specs.Option.{IsSome}
use Rattle.std.proofs.lemmas.Bool.{cases_eq, cases_lt}
use Rattle.std.proofs.lemmas.Option.{same_Some}
use Rattle.sd_model.specs.Tree.{leaves}
use Rattle.sd_vtree.specs.Numbered.{Numbered, NumberedLeaf, NumberedNode, number_of, plain_tree}
use Rattle.sd_vtree.specs.Numbered.{numbers, subtree, times}
use Rattle.sd_vtree.specs.Numbered.{IsNumbered, IsUnder}
use Rattle.sd_vtree.proofs.Times.{times_node, times_other}
use Rattle.sd_vtree.proofs.Subtrees.{AtMostOnce, once_left, once_right, once_numbered, left_apart, right_apart}
use Rattle.sd_vtree.proofs.Subtrees.{Here, Left, Right, way, subtree_some, subtree_once, subtree_trans}
use Rattle.sd_vtree.proofs.Subtrees.{subtree_times, subtree_in, number_of_in}
use Rattle.sd_vtree.proofs.Parts.{subtree_left, subtree_right}
use Rattle.sd_laws.specs.Shown.{Lookup, AreKeys}
use Rattle.sd_laws.specs.Turned.{KeepsOthers}
use Rattle.sd_laws.specs.Values.{Valuation, IsSame, pairs_value, StandsIn, IsWhole, IsPlaced, GivesLiterals, IsCodeOf}
use Rattle.sd_laws.specs.Values.{AreOrderly, ShowsValue}
use Rattle.sd_laws.proofs.Lists.{all_at, all_from}
use Rattle.sd_laws.proofs.Placing.{placed_others}
use Rattle.sd_laws.proofs.Users.{users_above}
use Rattle.sd_laws.proofs.Within.{prime_stands, sub_stands}
use Rattle.sd_laws.proofs.ByValues.{shown_by_values}

-- no node stands strictly between a node and its child

-- the root of a tree stands below no other node of it
pub root_below : (s z : Numbered) (p : ℕ) → AtMostOnce s → subtree s p ≡ Some z → p ≢ number_of s →
    1 ≤ times (number_of s) (numbers z) → ⊥
root_below (NumberedLeaf m y) z p once e d h = elim (cases_eq m p) [
  | inl k ↦ d (sym k)
  | inr k ↦ (let i = subtree_in (NumberedLeaf m y) p z e in omega (arith, times_other p m [] k, i))
]
root_below (NumberedNode m l r) z p once e d h = elim (way m l r p z e) [
  | Here k f ↦ d (sym k)
  | Left k f ↦ (let i = subtree_times l p z f m in (left_apart m l r once m (omega (arith, h, i))).0 refl)
  | Right k n f ↦ (let i = subtree_times r p z f m in (right_apart m l r once m (omega (arith, h, i))).0 refl)
]

-- The child of a node stands below no other node that stands below that one: what is strictly below the node is in one
-- child, and there the child's root is on top, while the other child has other numbers.
pub between : (t : Numbered) → AtMostOnce t → (x w p : ℕ) (l r : Numbered) →
    subtree t x ≡ Some (NumberedNode x l r) → (w ≡ number_of l) ⊎ (w ≡ number_of r) → IsUnder t p x → p ≢ x →
    IsUnder t w p → p ≢ w → ⊥
between t once x w p l r e child px dx wp dw = go (cases_lt 0 (times p (numbers l)))
  where
    in_left : 1 ≤ times p (numbers l) → (w ≡ number_of l) ⊎ (w ≡ number_of r) → ⊥
    in_left h k =
        let o : AtMostOnce (NumberedNode x l r) = subtree_once t x (NumberedNode x l r) once e in
        let s = subtree_some l p h in
        let at : subtree t p ≡ Some s.0 =
        subtree_trans t once x (NumberedNode x l r) e p s.0
        (subtree_left x l r p s.0 (λ z. dx (sym z)) s.1) in
        let part : wp.part ≡ s.0 = same_Some wp.part s.0 (sym wp.is ∙ at) in
        let below : 1 ≤ times w (numbers s.0) = subst (λ z. 1 ≤ times w (numbers z)) part wp.has in
        by_child o s.0 s.1 below k
      where
        by_child : AtMostOnce (NumberedNode x l r) → (z : Numbered) → subtree l p ≡ Some z → 1 ≤ times w (numbers z) →
            (w ≡ number_of l) ⊎ (w ≡ number_of r) → ⊥
        by_child o z f b (inl k) =
            root_below l z p (once_left x l r o) f (λ i. dw (i ∙ sym k)) (subst (λ i. 1 ≤ times i (numbers z)) k b)
        by_child o z f b (inr k) =
            let i = subtree_times l p z f w in
            let j = (left_apart x l r o w (omega (arith, b, i))).1 in
            let n = number_of_in r in
            let m : 1 ≤ times w (numbers r) = subst (λ i. 1 ≤ times i (numbers r)) (sym k) n in omega (arith, j, m)

    in_right : 1 ≤ times p (numbers r) → (w ≡ number_of l) ⊎ (w ≡ number_of r) → ⊥
    in_right h k =
        let o : AtMostOnce (NumberedNode x l r) = subtree_once t x (NumberedNode x l r) once e in
        let s = subtree_some r p h in
        let at : subtree t p ≡ Some s.0 =
        subtree_trans t once x (NumberedNode x l r) e p s.0
        (subtree_right x l r p s.0 (λ z. dx (sym z)) (right_apart x l r o p h).1 s.1) in
        let part : wp.part ≡ s.0 = same_Some wp.part s.0 (sym wp.is ∙ at) in
        let below : 1 ≤ times w (numbers s.0) = subst (λ z. 1 ≤ times w (numbers z)) part wp.has in
        by_child o s.0 s.1 below k
      where
        by_child : AtMostOnce (NumberedNode x l r) → (z : Numbered) → subtree r p ≡ Some z → 1 ≤ times w (numbers z) →
            (w ≡ number_of l) ⊎ (w ≡ number_of r) → ⊥
        by_child o z f b (inr k) =
            root_below r z p (once_right x l r o) f (λ i. dw (i ∙ sym k)) (subst (λ i. 1 ≤ times i (numbers z)) k b)
        by_child o z f b (inl k) =
            let i = subtree_times r p z f w in
            let j = (right_apart x l r o w (omega (arith, b, i))).1 in
            let n = number_of_in l in
            let m : 1 ≤ times w (numbers l) = subst (λ i. 1 ≤ times i (numbers l)) (sym k) n in omega (arith, j, m)

    go : (0 < times p (numbers l)) ⊎ (times p (numbers l) ≤ 0) → ⊥
    go (inl h) = in_left h child
    go (inr z) =
        let h : 1 ≤ times p (numbers (NumberedNode x l r)) =
        subst (λ z. 1 ≤ times p (numbers z)) (same_Some px.part (NumberedNode x l r) (sym px.is ∙ e)) px.has in
        in_right
        (omega (arith, z, h, times_node p x (numbers l) (numbers r), times_other p x (numbers r) (λ i. dx (sym i))))
        child

-- the state gone back to

-- the code is of a constant or a literal, or of a decomposition
abbrev pub IsBaseOrNode : Numbered → ℕ → Type 0
IsBaseOrNode t c = (c < 2 * leaves (plain_tree t) + 2) ⊎ ((n : ℕ) × (c ≡ 2050 + n))

-- What is known of the nodes before a move back to the vtree u: each has the function of its list, whole and placed in
-- the present vtree t; those of K have in u the keys `old`, whose lists are whole and placed there and name nodes of K
-- alone; each other node stands strictly below the moved node x.
pub record GoesBack (t u : Numbered) (x w : ℕ) (now old : Lookup) (K : ℕ → Type 0) (v : Valuation) : Type 0 where
  pub literals : GivesLiterals v
  pub keeps : KeepsOthers t u x w
  pub value : (n p : ℕ) (l : List (ℕ × ℕ)) → now n ≡ Some (p, l) → IsSame (v (2050 + n)) (pairs_value v l)
  pub whole : (n p : ℕ) (l : List (ℕ × ℕ)) → now n ≡ Some (p, l) → IsWhole v l
  pub placed : (n p : ℕ) (l : List (ℕ × ℕ)) → now n ≡ Some (p, l) → IsPlaced t v p l
  pub closed : (n p i : ℕ) (l : List (ℕ × ℕ)) → now n ≡ Some (p, l) → StandsIn (2050 + i) l → IsSome (now i)
  pub codes : (n p : ℕ) (l : List (ℕ × ℕ)) → now n ≡ Some (p, l) →
      AllByRecursion (λ (e : ℕ × ℕ). IsBaseOrNode u e.0 × IsBaseOrNode u e.1) l
  pub origin : (n p : ℕ) (l : List (ℕ × ℕ)) → now n ≡ Some (p, l) → K n ⊎ (IsUnder t p x × (p ≢ x))
  pub there : (n : ℕ) → K n → IsSome (old n)
  pub old_value : (n p : ℕ) (l : List (ℕ × ℕ)) → K n → old n ≡ Some (p, l) → IsSame (v (2050 + n)) (pairs_value v l)
  pub old_whole : (n p : ℕ) (l : List (ℕ × ℕ)) → K n → old n ≡ Some (p, l) → IsWhole v l
  pub old_placed : (n p : ℕ) (l : List (ℕ × ℕ)) → K n → old n ≡ Some (p, l) → IsPlaced u v p l
  pub old_closed : (n p i : ℕ) (l : List (ℕ × ℕ)) → K n → old n ≡ Some (p, l) → StandsIn (2050 + i) l → K i
  pub old_codes : (n p : ℕ) (l : List (ℕ × ℕ)) → K n → old n ≡ Some (p, l) →
      AllByRecursion (λ (e : ℕ × ℕ). IsBaseOrNode u e.0 × IsBaseOrNode u e.1) l

-- The state gone back to has each node of K with its key of `old`, and of the others those that do not stand at w, as
-- they are.
pub record IsBack (t : Numbered) (x w : ℕ) (now old final : Lookup) (K : ℕ → Type 0) : Type 0 where
  pub kept : (n : ℕ) → K n → final n ≡ old n
  pub others : (n p : ℕ) (l : List (ℕ × ℕ)) → now n ≡ Some (p, l) → IsUnder t p x → p ≢ x → p ≢ w → IsSome (final n)
  pub only : (n p : ℕ) (l : List (ℕ × ℕ)) → final n ≡ Some (p, l) →
      (K n × (old n ≡ Some (p, l))) ⊎ (IsUnder t p x × (p ≢ x) × (p ≢ w) × (now n ≡ Some (p, l)))

-- the nodes of the state gone back to, all of them
abbrev pub AllNodes : ℕ → Type 0
AllNodes n = Unit {0}

-- where each code of a list is that of a node that is there
pub codes_there : (u : Numbered) (final : Lookup) (l : List (ℕ × ℕ)) →
    AllByRecursion (λ (e : ℕ × ℕ). IsBaseOrNode u e.0 × IsBaseOrNode u e.1) l →
    ((i : ℕ) → StandsIn (2050 + i) l → IsSome (final i)) →
    AllByRecursion (λ (e : ℕ × ℕ). IsCodeOf u final AllNodes e.0 × IsCodeOf u final AllNodes e.1) l
codes_there u final l cs h =
    all_from (λ (e : ℕ × ℕ). IsCodeOf u final AllNodes e.0 × IsCodeOf u final AllNodes e.1) l
    (λ e m.
    let c = all_at (λ (e : ℕ × ℕ). IsBaseOrNode u e.0 × IsBaseOrNode u e.1) l e cs m in (
      code e.0 c.0 (λ i k. h i (prime_stands l e (2050 + i) m k)),
      code e.1 c.1 (λ i k. h i (sub_stands l e (2050 + i) m k)),
    ))
  where
    code : (c : ℕ) → IsBaseOrNode u c → ((i : ℕ) → c ≡ 2050 + i → IsSome (final i)) → IsCodeOf u final AllNodes c
    code c (inl lt) f = inl lt
    code c (inr k) f = inr (k.0, k.1, tt, f k.0 k.1)

-- something that is there
there : {X : Type 0} (o : Option X) → IsSome o → (x : X) × (o ≡ Some x)
there None h = absurd (cc (h))
there (Some x) h = (x, refl)

-- w is a child of the moved node, or, where the move has no lower node, no node of the vtree
abbrev pub IsLowerOf : Numbered → ℕ → Numbered → Numbered → Type 0
IsLowerOf t w l r = ((w ≡ number_of l) ⊎ (w ≡ number_of r)) ⊎ ((p : ℕ) → ¬ IsUnder t w p)

-- A node that is not of K keeps its list, and what it names stays: it stands strictly below x, so what it names does
-- too,
-- and not at the child w.
stays : (t u : Numbered) → IsNumbered t → (x w : ℕ) (l r : Numbered) → subtree t x ≡ Some (NumberedNode x l r) →
    IsLowerOf t w l r → (now old final : Lookup) (K : ℕ → Type 0) (v : Valuation) →
    GoesBack t u x w now old K v → IsBack t x w now old final K → (n p i : ℕ) (list : List (ℕ × ℕ)) →
    now n ≡ Some (p, list) → IsUnder t p x → p ≢ x → StandsIn (2050 + i) list → IsSome (final i)
stays t u num x w l r at child now old final K v g b n p i list stored under dx s =
    let k = there (now i) (g.closed n p i list stored s) in
    let q = k.0.0 in
    let h =
    users_above t num v i p q list k.0.1 (g.placed n p list stored) (g.whole i q k.0.1 k.1) (g.placed i q k.0.1 k.1)
    (g.value i q k.0.1 k.1) s in
    go k.0.0 k.0.1 k.1 h.0 h.1 (g.origin i q k.0.1 k.1)
  where
    lower : IsLowerOf t w l r → IsUnder t w p → p ≢ w → ⊥
    lower (inl c) a d = between t (once_numbered t num) x w p l r at c under dx a d
    lower (inr none) a d = none p a

    go : (q : ℕ) (m : List (ℕ × ℕ)) → now i ≡ Some (q, m) → IsUnder t q p → p ≢ q → K i ⊎ (IsUnder t q x × (q ≢ x)) →
        IsSome (final i)
    go q m e a d (inl k) = subst IsSome (sym (b.kept i k)) (g.there i k)
    go q m e a d (inr k) = elim (cases_eq q w) [
      | inl z ↦ absurd (lower child (subst (λ j. IsUnder t j p) z a) (λ j. d (j ∙ sym z)))
      | inr z ↦ b.others i q m e k.0 k.1 z
    ]

-- So the state gone back to is in order: a node of K has its old key, of which all is known in the old vtree, and each
-- other one stands strictly below the moved node, where `placed_others` carries it over.
pub back_orderly : (t u : Numbered) → IsNumbered t → (x w : ℕ) (l r : Numbered) →
    subtree t x ≡ Some (NumberedNode x l r) → IsLowerOf t w l r → (now old final : Lookup)
    (K : ℕ → Type 0) (v : Valuation) → GoesBack t u x w now old K v → IsBack t x w now old final K →
    AreOrderly u final AllNodes v
back_orderly t u num x w l r at child now old final K v g b =
    record {
      literals = g.literals;
      value = λ n p list is stored. value n p list stored (b.only n p list stored);
      whole = λ n p list is stored. whole n p list stored (b.only n p list stored);
      placed = λ n p list is stored. placed n p list stored (b.only n p list stored);
      closed = λ n p list is stored. closed n p list stored (b.only n p list stored);
    }
  where
    value : (n p : ℕ) (list : List (ℕ × ℕ)) → final n ≡ Some (p, list) →
        (K n × (old n ≡ Some (p, list))) ⊎ (IsUnder t p x × (p ≢ x) × (p ≢ w) × (now n ≡ Some (p, list))) →
        IsSame (v (2050 + n)) (pairs_value v list)
    value n p list e (inl k) = g.old_value n p list k.0 k.1
    value n p list e (inr k) = g.value n p list k.3

    whole : (n p : ℕ) (list : List (ℕ × ℕ)) → final n ≡ Some (p, list) →
        (K n × (old n ≡ Some (p, list))) ⊎ (IsUnder t p x × (p ≢ x) × (p ≢ w) × (now n ≡ Some (p, list))) →
        IsWhole v list
    whole n p list e (inl k) = g.old_whole n p list k.0 k.1
    whole n p list e (inr k) = g.whole n p list k.3

    placed : (n p : ℕ) (list : List (ℕ × ℕ)) → final n ≡ Some (p, list) →
        (K n × (old n ≡ Some (p, list))) ⊎ (IsUnder t p x × (p ≢ x) × (p ≢ w) × (now n ≡ Some (p, list))) →
        IsPlaced u v p list
    placed n p list e (inl k) = g.old_placed n p list k.0 k.1
    placed n p list e (inr k) = placed_others t u x w v p list g.keeps k.1 k.2 (g.placed n p list k.3)

    closed : (n p : ℕ) (list : List (ℕ × ℕ)) → final n ≡ Some (p, list) →
        (K n × (old n ≡ Some (p, list))) ⊎ (IsUnder t p x × (p ≢ x) × (p ≢ w) × (now n ≡ Some (p, list))) →
        AllByRecursion (λ (e : ℕ × ℕ). IsCodeOf u final AllNodes e.0 × IsCodeOf u final AllNodes e.1) list
    closed n p list e (inl k) =
        codes_there u final list (g.old_codes n p list k.0 k.1)
        (λ i s. let j = g.old_closed n p i list k.0 k.1 s in subst IsSome (sym (b.kept i j)) (g.there i j))
    closed n p list e (inr k) =
        codes_there u final list (g.codes n p list k.3)
        (λ i s. stays t u num x w l r at child now old final K v g b n p i list k.3 k.0 k.1 s)

-- and each node that is there shows a canonical diagram of its function
pub back_canonical : (t u : Numbered) → IsNumbered t → IsNumbered u → (x w : ℕ) (l r : Numbered) →
    subtree t x ≡ Some (NumberedNode x l r) → IsLowerOf t w l r → (now old final : Lookup)
    (K : ℕ → Type 0) (v : Valuation) → GoesBack t u x w now old K v → IsBack t x w now old final K → AreKeys final →
    (n : ℕ) → IsSome (final n) → ShowsValue u final v (2050 + n)
back_canonical t u num num' x w l r at child now old final K v g b keys n h =
    shown_by_values u num' final AllNodes v keys
    (back_orderly t u num x w l r at child now old final K v g b) (2050 + n) (inr (n, refl, tt, h))
