-- There are no more different codes than constants, literals and nodes.
use Rattle.std.proofs.Common.{◌≡◌, ◌≢◌, ◌⊎◌, inl, inr, ℕ, zero, suc, ◌+◌, ◌*◌, ◌≤◌, ◌<◌, List, [], ◌∷◌, ◌++◌, length}
use Rattle.std.proofs.Common.{map, refl, sym, ap, subst, arith, length-append}
use Rattle.std.specs.List.{AllByRecursion, range_with_len}
use Rattle.std.proofs.lemmas.Bool.{cases_eq}
use Rattle.std.proofs.lemmas.List.{length-map}
use Rattle.std.specs.Option.{IsSome}
use Rattle.sd_model.specs.Tree.{AreDistinct, leaves}
use Rattle.sd_model.specs.Diagram.{Diagram}
use Rattle.sd_vtree.specs.Numbered.{Numbered, plain_tree, IsNumbered}
use Rattle.sd_laws.specs.Shown.{Lookup, ShowPairs}
use Rattle.sd_laws.proofs.Nodes.{code_of_node}
use Rattle.sd_laws.proofs.Lists.{IsAmong, all_from, all_at}

-- a list that has x, cut at x
record Cut (x : ℕ) (xs : List ℕ) : Type 0 where
  pub front : List ℕ
  pub back : List ℕ
  pub is : xs ≡ front ++ x ∷ back

-- each list that has x can be cut there
cut : (x : ℕ) (xs : List ℕ) → IsAmong x xs → Cut x xs
cut x [] m = absurd m
cut x (y ∷ xs) (inl e) = record { front = []; back = xs; is = ap (λ z. z ∷ xs) (sym e) }
cut x (y ∷ xs) (inr m) =
    let c = cut x xs m in record { front = y ∷ c.front; back = c.back; is = ap (λ l. y ∷ l) c.is }

-- what else was in the list is in the rest
in_rest : (x y : ℕ) (front back : List ℕ) → y ≢ x → IsAmong y (front ++ x ∷ back) → IsAmong y (front ++ back)
in_rest x y [] back ne (inl e) = absurd (ne e)
in_rest x y [] back ne (inr m) = m
in_rest x y (z ∷ front) back ne (inl e) = inl e
in_rest x y (z ∷ front) back ne (inr m) = inr (in_rest x y front back ne m)

-- a list without copies whose elements are in another is no longer than that
pub length_within : (cs xs : List ℕ) → AreDistinct cs → AllByRecursion (λ c. IsAmong c xs) cs → length cs ≤ length xs
length_within [] xs d a = omega arith
length_within (c ∷ cs) xs d a =
    let k : Cut c xs = cut c xs a.0 in
    let rest : AllByRecursion (λ x. IsAmong x (k.front ++ k.back)) cs =
    all_from (λ x. IsAmong x (k.front ++ k.back)) cs
    (λ x m. in_rest c x k.front k.back (λ e. all_at (λ y. c ≢ y) cs x d.0 m (sym e))
    (subst (IsAmong x) k.is (all_at (λ y. IsAmong y xs) cs x a.1 m))) in
    omega (
      arith,
      length_within cs (k.front ++ k.back) d.1 rest,
      ap length k.is,
      length-append k.front (c ∷ k.back),
      length-append k.front k.back,
    )

-- what is in the first of two lists is in both together
among_left : (x : ℕ) (xs ys : List ℕ) → IsAmong x xs → IsAmong x (xs ++ ys)
among_left x [] ys m = absurd m
among_left x (y ∷ xs) ys (inl e) = inl e
among_left x (y ∷ xs) ys (inr m) = inr (among_left x xs ys m)

-- and what is in the second
among_right : (x : ℕ) (xs ys : List ℕ) → IsAmong x ys → IsAmong x (xs ++ ys)
among_right x [] ys m = m
among_right x (y ∷ xs) ys m = inr (among_right x xs ys m)

-- a number of a range is in it
among_range : (x a k : ℕ) → a ≤ x → x < a + k → IsAmong x (range_with_len a k)
among_range x a zero low high = absurd (omega arith)
among_range x a (suc k) low high = elim (cases_eq x a) [
  | inl e ↦ inl e
  | inr d ↦ inr (among_range x (a + 1) k (omega (arith, d)) (omega arith))
]

-- a range is as long as it says
length_range : (a k : ℕ) → length (range_with_len a k) ≡ k
length_range a zero = refl
length_range a (suc k) = ap suc (length_range (a + 1) k)

-- the code of a node is one of those of all nodes
among_nodes : (n : ℕ) (numbers : List ℕ) → IsAmong n numbers → IsAmong (2050 + n) (map (λ m. 2050 + m) numbers)
among_nodes n [] m = absurd m
among_nodes n (k ∷ numbers) (inl e) = inl (ap (λ m. 2050 + m) e)
among_nodes n (k ∷ numbers) (inr m) = inr (among_nodes n numbers m)

-- the code is of a constant, of a literal of v variables, or of one of these nodes
abbrev pub IsCodeOf : ℕ → List ℕ → ℕ → Type 0
IsCodeOf v numbers c = (c < 2 * v + 2) ⊎ ((n : ℕ) × IsAmong n numbers × (c ≡ 2050 + n))

-- different codes are no more than there are constants, literals and nodes
pub within_limit_codes : (v : ℕ) (numbers cs : List ℕ) → AreDistinct cs → AllByRecursion (IsCodeOf v numbers) cs →
    length cs ≤ 2 + 2 * v + length numbers
within_limit_codes v numbers cs d a =
    let low = range_with_len 0 (2 * v + 2) in
    let high = map (λ m. 2050 + m) numbers in
    let within : AllByRecursion (λ c. IsAmong c (low ++ high)) cs =
    all_from (λ c. IsAmong c (low ++ high)) cs (λ c m. go c (all_at (IsCodeOf v numbers) cs c a m)) in
    omega (
      arith,
      length_within cs (low ++ high) d within,
      length-append low high,
      length_range 0 (2 * v + 2),
      length-map numbers (λ m. 2050 + m),
    )
  where
    go : (c : ℕ) → IsCodeOf v numbers c →
        IsAmong c (range_with_len 0 (2 * v + 2) ++ map (λ m. 2050 + m) numbers)
    go c (inl h) =
        among_left c (range_with_len 0 (2 * v + 2)) (map (λ m. 2050 + m) numbers)
        (among_range c 0 (2 * v + 2) (omega arith) (omega arith))
    go c (inr h) =
        among_right c (range_with_len 0 (2 * v + 2)) (map (λ m. 2050 + m) numbers)
        (subst (λ x. IsAmong x (map (λ m. 2050 + m) numbers)) (sym h.2) (among_nodes h.0 numbers h.1))

-- the codes of subs are such codes
sub_codes_of : (t : Numbered) (at : Lookup) (v : IsNumbered t) (numbers : List ℕ) →
    ((n : ℕ) → IsSome (at n) → IsAmong n numbers) → (l : List (ℕ × ℕ)) (ds : List (Diagram × Diagram)) →
    ShowPairs t at l ds → AllByRecursion (IsCodeOf (leaves (plain_tree t)) numbers) (map (λ e. e.1) l)
sub_codes_of t at v numbers every [] ds h = tt
sub_codes_of t at v numbers every (e ∷ l) [] h = absurd h
sub_codes_of t at v numbers every (e ∷ l) (d ∷ ds) h =
    (go (code_of_node t at v e.1 d.1 h.0.1), sub_codes_of t at v numbers every l ds h.1)
  where
    go : (e.1 < 2 * leaves (plain_tree t) + 2) ⊎ ((n : ℕ) × (e.1 ≡ 2050 + n) × IsSome (at n)) →
        IsCodeOf (leaves (plain_tree t)) numbers e.1
    go (inl k) = inl k
    go (inr k) = inr (k.0, every k.0 k.2, k.1)

-- pairs whose subs have different codes are no more than there are constants, literals and nodes
pub within_limit_pairs : (t : Numbered) (at : Lookup) → IsNumbered t → (numbers : List ℕ) →
    ((n : ℕ) → IsSome (at n) → IsAmong n numbers) → (l : List (ℕ × ℕ)) (ds : List (Diagram × Diagram)) →
    ShowPairs t at l ds → AreDistinct (map (λ e. e.1) l) → length l ≤ 2 + 2 * leaves (plain_tree t) + length numbers
within_limit_pairs t at v numbers every l ds h differ =
    let second : ℕ × ℕ → ℕ = λ e. e.1 in
    omega (
      arith,
      within_limit_codes (leaves (plain_tree t)) numbers (map second l) differ
          (sub_codes_of t at v numbers every l ds h),
      length-map l second,
    )
