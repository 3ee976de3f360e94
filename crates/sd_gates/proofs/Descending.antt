-- The stack of gates that are looked at: one more gate, and one that is made.
use Rattle.std.proofs.Common.{◌≡◌, ◌≢◌, ◌⊎◌, ℕ, zero, suc, ◌+◌, ◌-◌, ◌*◌, ◌<◌, ◌≤◌, List, [], ◌∷◌, ◌++◌, length}
use Rattle.std.proofs.Common.{get_or, take, None, refl, sym, ◌∙◌, ap, subst, arith, inl, inr}
use Rattle.std.specs.Prelude.{Option}
use Rattle.std.proofs.lemmas.Bool.{cases_lt}
use Rattle.std.proofs.lemmas.List.{get_or_append_left, length-append, length-take-le}
use Rattle.std.proofs.Math.Seq.{get_or-append_seam}
use Rattle.std.proofs.Common.{get_or-take}
use Rattle.sd_gates.specs.Making.{IsDescent, current, work_left, blanks, either_at}

-- the gate on the top is none above the bottom
pub current_most : (nodes : List (Option ℕ)) (top : ℕ) (stack : List ℕ) → IsDescent nodes top stack
    → current top stack ≤ top
current_most nodes top [] descent = omega arith
current_most nodes top (x ∷ xs) descent =
    let h = descent.falls 0 (suc (length xs)) (omega arith) (omega arith) in omega (arith, h)

-- the gate on the top has no node, where the one at the bottom has none
pub current_blank : (nodes : List (Option ℕ)) (top : ℕ) (stack : List ℕ) → IsDescent nodes top stack
    → either_at nodes top ≡ None → either_at nodes (current top stack) ≡ None
current_blank nodes top [] descent none = none
current_blank nodes top (x ∷ xs) descent none = descent.blank (length xs) (omega arith)

-- ---- one more

current_pushed : (top : ℕ) (stack : List ℕ) (x : ℕ) → current top (stack ++ x ∷ []) ≡ x
current_pushed top stack x =
    let long : length (stack ++ x ∷ []) ≡ length stack + 1 = length-append stack (x ∷ []) in
    let next : length (stack ++ x ∷ []) ≡ suc (length stack) = omega (arith, long) in
    ap (λ n. get_or (top ∷ (stack ++ x ∷ [])) n 0) next ∙ get_or-append_seam stack x [] 0

pub push_less : (nodes : List (Option ℕ)) (top : ℕ) (stack : List ℕ) (x : ℕ) → x < current top stack
    → work_left nodes top (stack ++ x ∷ []) < work_left nodes top stack
push_less nodes top stack x less = rw (current_pushed top stack x) (omega (arith, less))

pub push_descent : (nodes : List (Option ℕ)) (top : ℕ) (stack : List ℕ) (x : ℕ) → IsDescent nodes top stack
    → x < current top stack → either_at nodes x ≡ None → IsDescent nodes top (stack ++ x ∷ [])
push_descent nodes top stack x descent less none = record {
  falls = λ i j h l. falls i j h l (cases_lt j (suc (length stack)));
  blank = λ i h. blank i h (cases_lt i (length stack));
}
  where
    long : length (stack ++ x ∷ []) ≡ length stack + 1
    long = length-append stack (x ∷ [])

    kept : (i : ℕ) → i < suc (length stack) → get_or (top ∷ (stack ++ x ∷ [])) i 0 ≡ get_or (top ∷ stack) i 0
    kept i h = get_or_append_left (top ∷ stack) (x ∷ []) 0 i h

    last : (j : ℕ) → suc (length stack) ≤ j → j ≤ length (stack ++ x ∷ [])
        → get_or (top ∷ (stack ++ x ∷ [])) j 0 ≡ x
    last j more most =
        let next : j ≡ suc (length stack) = omega (arith, more, most, long) in
        ap (λ n. get_or (top ∷ (stack ++ x ∷ [])) n 0) next ∙ get_or-append_seam stack x [] 0

    above : (i : ℕ) → i < suc (length stack) → current top stack ≤ get_or (top ∷ stack) i 0
    above i h = go (cases_lt i (length stack))
      where
        go : ((i < length stack) ⊎ (length stack ≤ i)) → current top stack ≤ get_or (top ∷ stack) i 0
        go (inl less) = let k = descent.falls i (length stack) less (omega arith) in omega (arith, k)
        go (inr more) =
            let same : length stack ≡ i = omega (arith, more, h) in
            let is = ap (λ n. get_or (top ∷ stack) n 0) same in omega (arith, is)

    falls : (i j : ℕ) → i < j → j ≤ length (stack ++ x ∷ []) → ((j < suc (length stack)) ⊎ (suc (length stack) ≤ j))
        → get_or (top ∷ (stack ++ x ∷ [])) j 0 < get_or (top ∷ (stack ++ x ∷ [])) i 0
    falls i j h l (inl inside) =
        let k = descent.falls i j h (omega (arith, inside)) in
        rw (kept i (omega (arith, h, inside)), kept j inside) k
    falls i j h l (inr end) =
        let k = above i (omega (arith, h, l, long)) in
        rw (last j end l, kept i (omega (arith, h, l, long))) (omega (arith, k, less))

    blank : (i : ℕ) → i < length (stack ++ x ∷ []) → ((i < length stack) ⊎ (length stack ≤ i))
        → either_at nodes (get_or (stack ++ x ∷ []) i 0) ≡ None
    blank i h (inl inside) = rw (get_or_append_left stack (x ∷ []) 0 i inside) (descent.blank i inside)
    blank i h (inr end) = rw (last (suc i) (omega (arith, end)) (omega (arith, h))) none

-- ---- one that is made

pub pop_descent : (old new : List (Option ℕ)) (top : ℕ) (stack : List ℕ) → IsDescent old top stack
    → ((other : ℕ) → other ≢ current top stack → either_at new other ≡ either_at old other)
    → IsDescent new top (take (length stack - 1) stack)
pop_descent old new top stack descent others = record {
  falls = λ i j h l.
      let k = descent.falls i j h (omega (arith, l, short)) in
      rw (chain i (omega (arith, h, l)), chain j l) k;
  blank = λ i h.
      let inside : i < length stack - 1 = omega (arith, h, short) in
      let k = descent.falls (suc i) (length stack) (omega (arith, inside)) (omega arith) in
      rw (get_or-take) (others (get_or stack i 0) (λ e. absurd (omega (arith, k, e)))
      ∙ descent.blank i (omega (arith, inside)));
}
  where
    short : length (take (length stack - 1) stack) ≡ length stack - 1
    short = length-take-le (length stack - 1) stack (omega arith)

    chain : (i : ℕ) → i ≤ length (take (length stack - 1) stack)
        → get_or (top ∷ take (length stack - 1) stack) i 0 ≡ get_or (top ∷ stack) i 0
    chain zero h = refl
    chain (suc i) h =
        let inside : i < length stack - 1 = omega (arith, h, short) in rw (get_or-take) refl

-- less is left to do
pub pop_less : (old new : List (Option ℕ)) (top : ℕ) (stack rest : List ℕ) → IsDescent new top rest
    → blanks new < blanks old → work_left new top rest < work_left old top stack
pop_less old new top stack rest descent fewer =
    go (blanks new) (blanks old) (current top rest) (current top stack) fewer (current_most new top rest descent)
  where
    go : (u v q r : ℕ) → u < v → q ≤ top → u * (top + 1) + q < v * (top + 1) + r
    go u v q r less most =
        let more : v ≡ u + 1 + (v - u - 1) = omega (arith, less) in
        subst (λ w. u * (top + 1) + q < w * (top + 1) + r) (sym more) (step (v - u - 1))
      where
        step : (d : ℕ) → u * (top + 1) + q < (u + 1 + d) * (top + 1) + r
        step d = omega (arith, most)

-- nothing is on the stack at first
pub empty_descent : (nodes : List (Option ℕ)) (top : ℕ) → IsDescent nodes top []
empty_descent nodes top = record {
  falls = λ i j h l. absurd (omega (arith, h, l));
  blank = λ i h. absurd (omega (arith, h));
}
