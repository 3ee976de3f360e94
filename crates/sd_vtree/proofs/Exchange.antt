-- Two nodes that exchange their positions.
use Rattle.std.proofs.Common.{◌≡◌, ◌≢◌, ℕ, suc, ◌+◌, ◌<◌, List, ◌∷◌, ◌++◌, length, sym, ◌∙◌, ap, inl, inr, arith}
use Rattle.std.proofs.Common.{length-append, append_assoc, get_or, set}
use Rattle.std.proofs.lemmas.Bool.{cases_eq}
use Rattle.std.proofs.lemmas.List.{set_at, get_or_at, get_or-set_same, get_or-set_other, length-set}

-- two elements of a list, exchanged by their places
pub exchanged : (f a b c k : List ℕ) (x y : ℕ) (xs : List ℕ) → xs ≡ f ++ ((a ++ x ∷ (b ++ y ∷ c)) ++ k) →
    set (set xs (length f + length a) y) (length f + length a + suc (length b)) x ≡ f ++ ((a ++ y ∷ (b ++ x ∷ c)) ++ k)
exchanged f a b c k x y xs e =
    let fa = f ++ a in
    let n : length fa ≡ length f + length a = length-append f a in
    let m : length (fa ++ y ∷ b) ≡ length f + length a + suc (length b) = omega (arith, length-append fa (y ∷ b)) in
    let open1 : f ++ ((a ++ x ∷ (b ++ y ∷ c)) ++ k) ≡ fa ++ x ∷ (b ++ y ∷ (c ++ k)) = opened x y in
    let s1 : set xs (length f + length a) y ≡ fa ++ y ∷ (b ++ y ∷ (c ++ k)) =
    ap (λ zs. set zs (length f + length a) y) (e ∙ open1) ∙ set_at fa x (b ++ y ∷ (c ++ k)) y (length f + length a) n in
    let s2 : fa ++ y ∷ (b ++ y ∷ (c ++ k)) ≡ (fa ++ y ∷ b) ++ y ∷ (c ++ k) = sym
    (append_assoc fa (y ∷ b) (y ∷ (c ++ k))) in
    ap (λ zs. set zs (length f + length a + suc (length b)) x) (s1 ∙ s2)
    ∙ (set_at (fa ++ y ∷ b) y (c ++ k) x (length f + length a + suc (length b)) m
    ∙ (append_assoc fa (y ∷ b) (x ∷ (c ++ k)) ∙ sym (opened y x)))
  where
    opened : (u v : ℕ) → f ++ ((a ++ u ∷ (b ++ v ∷ c)) ++ k) ≡ (f ++ a) ++ u ∷ (b ++ v ∷ (c ++ k))
    opened u v =
        ap (λ zs. f ++ zs) (append_assoc a (u ∷ (b ++ v ∷ c)) k ∙ ap (λ zs. a ++ u ∷ zs) (append_assoc b (v ∷ c) k))
        ∙ sym (append_assoc f a (u ∷ (b ++ v ∷ (c ++ k))))

-- what stands at the two places
pub first_place : (f a b c k : List ℕ) (x y : ℕ) (xs : List ℕ) → xs ≡ f ++ ((a ++ x ∷ (b ++ y ∷ c)) ++ k) →
    get_or xs (length f + length a) 0 ≡ x
first_place f a b c k x y xs e =
    ap (λ zs. get_or zs (length f + length a) 0) (e
    ∙ (ap (λ zs. f ++ zs) (append_assoc a (x ∷ (b ++ y ∷ c)) k)
    ∙ sym (append_assoc f a (x ∷ ((b ++ y ∷ c) ++ k)))))
    ∙ get_or_at (f ++ a) x ((b ++ y ∷ c) ++ k) 0 (length f + length a) (length-append f a)

pub second_place : (f a b c k : List ℕ) (x y : ℕ) (xs : List ℕ) → xs ≡ f ++ ((a ++ x ∷ (b ++ y ∷ c)) ++ k) →
    get_or xs (length f + length a + suc (length b)) 0 ≡ y
second_place f a b c k x y xs e =
    ap (λ zs. get_or zs (length f + length a + suc (length b)) 0)
    (e ∙ (ap (λ zs. f ++ zs) (append_assoc a (x ∷ (b ++ y ∷ c)) k ∙ ap (λ zs. a ++ x ∷ zs) (append_assoc b (y ∷ c) k))
    ∙ (sym (append_assoc f a (x ∷ (b ++ y ∷ (c ++ k)))) ∙ sym (append_assoc (f ++ a) (x ∷ b) (y ∷ (c ++ k))))))
    ∙ get_or_at ((f ++ a) ++ x ∷ b) y (c ++ k) 0 (length f + length a + suc (length b))
    (omega (arith, length-append f a, length-append (f ++ a) (x ∷ b)))

-- positions that invert an order do so after an exchange
pub inverse_exchanged : (order positions : List ℕ) (u l p q : ℕ) →
    ((i : ℕ) → i < length order → get_or positions (get_or order i 0) 0 ≡ i) →
    u < length positions → l < length positions → u ≢ l → get_or positions u 0 ≡ p → get_or positions l 0 ≡ q →
    p < length order → q < length order → p ≢ q →
    (i : ℕ) → i < length order → get_or (set (set positions u q) l p) (get_or (set (set order p l) q u) i 0) 0 ≡ i
inverse_exchanged order positions u l p q inv hu hl ne eu el hp hq np i hi = elim (cases_eq i q) [
  | inl e ↦ (let w : q < length (set order p l) = omega (arith, length-set order p l) in
      let a : get_or (set (set order p l) q u) i 0 ≡ u = ap (λ k. get_or (set (set order p l) q u) k 0) e
      ∙ get_or-set_same (set order p l) q u 0 w in
      ap (λ k. get_or (set (set positions u q) l p) k 0) a
      ∙ (get_or-set_other (set positions u q) l u p 0 ne ∙ (get_or-set_same positions u q 0 hu ∙ sym e)))
  | inr d ↦ elim (cases_eq i p) [
    | inl e ↦ (let w : l < length (set positions u q) = omega (arith, length-set positions u q) in
        let a : get_or (set (set order p l) q u) i 0 ≡ l = get_or-set_other (set order p l) q i u 0 d
        ∙ (ap (λ k. get_or (set order p l) k 0) e ∙ get_or-set_same order p l 0 hp) in
        ap (λ k. get_or (set (set positions u q) l p) k 0) a ∙ (get_or-set_same (set positions u q) l p 0 w ∙ sym e))
    | inr f ↦ (let a : get_or (set (set order p l) q u) i 0 ≡ get_or order i 0 = get_or-set_other
        (set order p l) q i u 0 d ∙ get_or-set_other order p i l 0 f in
        let nu : get_or order i 0 ≢ u = λ g. f (sym (inv i hi) ∙ (ap (λ k. get_or positions k 0) g ∙ eu)) in
        let nl : get_or order i 0 ≢ l = λ g. d (sym (inv i hi) ∙ (ap (λ k. get_or positions k 0) g ∙ el)) in
        ap (λ k. get_or (set (set positions u q) l p) k 0) a
        ∙ (get_or-set_other (set positions u q) l (get_or order i 0) p 0 nl
        ∙ (get_or-set_other positions u (get_or order i 0) q 0 nu ∙ inv i hi)))
  ]
]
