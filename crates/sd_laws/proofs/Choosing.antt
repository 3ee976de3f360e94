-- What the values of a partition choose, and the variables at which its value looks.
use Rattle.std.proofs.Common.{◌≡◌, ◌⊎◌, inl, inr, ℕ, Bool, true, false, cond, ◌&&◌, ◌||◌}
use Rattle.std.proofs.Common.{List, [], ◌∷◌, length, refl, sym, ◌∙◌, ap, subst, arith}
use Rattle.std.specs.List.{AllByRecursion}
use Rattle.sd_model.specs.Tree.{Tree, Node}
use Rattle.sd_model.proofs.Blend.{IsApart, agree_left, agree_right, blend, blend_left, blend_right}
use Rattle.sd_laws.specs.Depends.{DependsOn}
use Rattle.sd_laws.specs.Values.{Valuation, IsSame, pairs_value, chosen, Takes, HasInnerSub, IsWhole}
use Rattle.sd_laws.specs.Values.{IsTwoSided}
use Rattle.sd_laws.proofs.Lists.{IsAmong, all_at}

-- some value is true
any_true : List Bool → Bool
any_true [] = false
any_true (b ∷ bs) = b || any_true bs

-- the value of a list is that of some chosen sub
pairs_any : (v : Valuation) (l : List (ℕ × ℕ)) (a : List Bool) → pairs_value v l a ≡ any_true (chosen v l a)
unfolding any_true
pairs_any v [] a = refl
pairs_any v (e ∷ es) a =
    elim (v e.0 a)
    as (λ b. ((b && v e.1 a) || pairs_value v es a) ≡ any_true (cond b (v e.1 a ∷ chosen v es a) (chosen v es a))) [
      | true ↦ ap (λ x. v e.1 a || x) (pairs_any v es a)
      | false ↦ pairs_any v es a
    ]

-- a list of one value
one_value : (bs : List Bool) → length bs ≡ 1 → bs ≡ any_true bs ∷ []
unfolding any_true
one_value [] e = absurd (omega arith)
one_value (true ∷ []) e = refl
one_value (false ∷ []) e = refl
one_value (b ∷ c ∷ bs) e = absurd (omega arith)

-- where one prime is true, the only chosen value is that of the list
pub chosen_value : (v : Valuation) (l : List (ℕ × ℕ)) (a : List Bool) → length (chosen v l a) ≡ 1 →
    chosen v l a ≡ pairs_value v l a ∷ []
chosen_value v l a e = one_value (chosen v l a) e ∙ ap (λ b. b ∷ []) (sym (pairs_any v l a))

-- a true prime chooses its sub
pub chosen_among : (v : Valuation) (l : List (ℕ × ℕ)) (a : List Bool) (e : ℕ × ℕ) → IsAmong e l → v e.0 a ≡ true →
    IsAmong (v e.1 a) (chosen v l a)
chosen_among v [] a e m h = absurd m
chosen_among v (x ∷ l) a e m h = go m (λ k. chosen_among v l a e k h) (v x.0 a) refl
  where
    go : (e ≡ x) ⊎ IsAmong e l → (IsAmong e l → IsAmong (v e.1 a) (chosen v l a)) → (b : Bool) → v x.0 a ≡ b →
        IsAmong (v e.1 a) (cond (v x.0 a) (v x.1 a ∷ chosen v l a) (chosen v l a))
    go (inl k) ih true f = rw f (inl (ap (λ (z : ℕ × ℕ). v z.1 a) k))
    go (inl k) ih false f =
        let g : v e.0 a ≡ false = ap (λ (z : ℕ × ℕ). v z.0 a) k ∙ f in absurd (cc (h, g))
    go (inr k) ih true f = rw f (inr (ih k))
    go (inr k) ih false f = rw f (ih k)

-- so the list has the value of the sub whose prime is true
pub value_at : (v : Valuation) (l : List (ℕ × ℕ)) (a : List Bool) (e : ℕ × ℕ) → IsWhole v l → IsAmong e l →
    v e.0 a ≡ true → pairs_value v l a ≡ v e.1 a
value_at v l a e w m h =
    only (subst (λ bs. IsAmong (v e.1 a) bs) (chosen_value v l a (w.one_true a)) (chosen_among v l a e m h))
  where
    only : (v e.1 a ≡ pairs_value v l a) ⊎ ⊥ → pairs_value v l a ≡ v e.1 a
    only (inl k) = sym k
    only (inr k) = absurd k

-- the same at a blend of an assignment that makes the prime true, where primes look left and subs look right
pub value_blend : (n : ℕ) (left right : Tree) (v : Valuation) (l : List (ℕ × ℕ)) (e : ℕ × ℕ) →
    IsApart n (Node left right) →
    AllByRecursion (λ (d : ℕ × ℕ). DependsOn left (v d.0)) l →
    AllByRecursion (λ (d : ℕ × ℕ). DependsOn right (v d.1)) l → IsWhole v l → IsAmong e l →
    (a b : List Bool) → v e.0 a ≡ true → pairs_value v l (blend n left a b) ≡ v e.1 b
value_blend n left right v l e apart ps ss w m a b h =
    let x = blend n left a b in
    let prime : v e.0 x ≡ v e.0 a =
    all_at (λ (d : ℕ × ℕ). DependsOn left (v d.0)) l e ps m x a (blend_left n left a b apart.1) in
    value_at v l x e w m (prime ∙ h)
    ∙ all_at (λ (d : ℕ × ℕ). DependsOn right (v d.1)) l e ss m x b (blend_right n left right a b apart)

-- a pair whose sub takes both truth values
record Inner (v : Valuation) (l : List (ℕ × ℕ)) : Type 0 where
  pub pair : ℕ × ℕ
  pub among : IsAmong pair l
  pub yes : Takes v pair.1 true
  pub no : Takes v pair.1 false

-- a trimmed list has one
inner_pair : (v : Valuation) (l : List (ℕ × ℕ)) → HasInnerSub v l → Inner v l
inner_pair v [] h = absurd h
inner_pair v (e ∷ es) (inl h) = record { pair = e; among = inl refl; yes = h.0; no = h.1 }
inner_pair v (e ∷ es) (inr h) =
    let i : Inner v es = inner_pair v es h in
    record { pair = i.pair; among = inr i.among; yes = i.yes; no = i.no }

-- the value looks at the right side: a sub that is no constant has both values beside one prime
not_left_only : (n : ℕ) (left right : Tree) (v : Valuation) (l : List (ℕ × ℕ)) → IsApart n (Node left right) →
    AllByRecursion (λ (d : ℕ × ℕ). DependsOn left (v d.0)) l →
    AllByRecursion (λ (d : ℕ × ℕ). DependsOn right (v d.1)) l → IsWhole v l → DependsOn left (pairs_value v l) → ⊥
not_left_only n left right v l apart ps ss w h =
    let i : Inner v l = inner_pair v l w.inner in
    let p : Takes v i.pair.0 true = all_at (λ (d : ℕ × ℕ). Takes v d.0 true) l i.pair w.possible i.among in
    let x = blend n left p.0 i.yes.0 in
    let y = blend n left p.0 i.no.0 in
    let yes : pairs_value v l x ≡ true =
    value_blend n left right v l i.pair apart ps ss w i.among p.0 i.yes.0 p.1 ∙ i.yes.1 in
    let no : pairs_value v l y ≡ false =
    value_blend n left right v l i.pair apart ps ss w i.among p.0 i.no.0 p.1 ∙ i.no.1 in
    let same : pairs_value v l x ≡ pairs_value v l y =
    h x y (λ z o. blend_left n left p.0 i.yes.0 apart.1 z o ∙ sym (blend_left n left p.0 i.no.0 apart.1 z o)) in
    cc (yes, no, same)

-- the value looks at the left side: of two pairs the primes choose different subs
not_right_only : (n : ℕ) (left right : Tree) (v : Valuation) (l : List (ℕ × ℕ)) → IsApart n (Node left right) →
    AllByRecursion (λ (d : ℕ × ℕ). DependsOn left (v d.0)) l →
    AllByRecursion (λ (d : ℕ × ℕ). DependsOn right (v d.1)) l → IsWhole v l → DependsOn right (pairs_value v l) → ⊥
not_right_only n left right v [] apart ps ss w h = absurd (omega (arith, w.several))
not_right_only n left right v (e ∷ []) apart ps ss w h = absurd (omega (arith, w.several))
not_right_only n left right v (e ∷ f ∷ l) apart ps ss w h = w.differ.0.0 same
  where
    same : IsSame (v e.1) (v f.1)
    same b =
        let p : Takes v e.0 true = w.possible.0 in
        let q : Takes v f.0 true = w.possible.1.0 in
        let x = blend n left p.0 b in
        let y = blend n left q.0 b in
        let one : pairs_value v (e ∷ f ∷ l) x ≡ v e.1 b =
        value_blend n left right v (e ∷ f ∷ l) e apart ps ss w (inl refl) p.0 b p.1 in
        let other : pairs_value v (e ∷ f ∷ l) y ≡ v f.1 b =
        value_blend n left right v (e ∷ f ∷ l) f apart ps ss w (inr (inl refl)) q.0 b q.1 in
        let both : pairs_value v (e ∷ f ∷ l) x ≡ pairs_value v (e ∷ f ∷ l) y =
        h x y (λ z o. blend_right n left right p.0 b apart z o ∙ sym (blend_right n left right q.0 b apart z o)) in
        sym one ∙ both ∙ other

-- the value of a compressed and trimmed partition looks at both sides
pub two_sided : (n : ℕ) (left right : Tree) (v : Valuation) (l : List (ℕ × ℕ)) → IsApart n (Node left right) →
    AllByRecursion (λ (d : ℕ × ℕ). DependsOn left (v d.0)) l →
    AllByRecursion (λ (d : ℕ × ℕ). DependsOn right (v d.1)) l → IsWhole v l → IsTwoSided left right (pairs_value v l)
two_sided n left right v l apart ps ss w =
    record {
      not_left = not_left_only n left right v l apart ps ss w;
      not_right = not_right_only n left right v l apart ps ss w;
    }

-- and at nothing beside them
pub depends_both : (left right : Tree) (v : Valuation) (l : List (ℕ × ℕ)) →
    AllByRecursion (λ (d : ℕ × ℕ). DependsOn left (v d.0)) l →
    AllByRecursion (λ (d : ℕ × ℕ). DependsOn right (v d.1)) l → DependsOn (Node left right) (pairs_value v l)
depends_both left right v [] ps ss a b h = refl
depends_both left right v (e ∷ l) ps ss a b h =
    rw (
      ps.0 a b (agree_left left right a b h),
      ss.0 a b (agree_right left right a b h),
      depends_both left right v l ps.1 ss.1 a b h,
    ) refl

-- what has the value of another function looks at the same variables
pub depends_same : (s : Tree) (f g : List Bool → Bool) → IsSame f g → DependsOn s g → DependsOn s f
depends_same s f g same h a b agree = same a ∙ h a b agree ∙ sym (same b)

-- so does one that looks at both sides
pub two_sided_same : (left right : Tree) (f g : List Bool → Bool) → IsSame f g → IsTwoSided left right g →
    IsTwoSided left right f
two_sided_same left right f g same h =
    record {
      not_left = λ k. h.not_left (depends_same left g f (λ a. sym (same a)) k);
      not_right = λ k. h.not_right (depends_same right g f (λ a. sym (same a)) k);
    }
