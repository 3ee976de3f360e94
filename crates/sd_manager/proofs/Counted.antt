-- The uses of nodes after one more or one less.
use Rattle.std.proofs.Common.{◌≡◌, ℕ, ◌+◌, ◌-◌, ◌^◌, ◌≤◌, ◌<◌, cond, eqb, List, [], ◌∷◌, take, get_or, length}
use Rattle.std.proofs.Common.{Option, Some, None, unwrap_or}
use Rattle.std.proofs.Common.{refl, sym, ap, subst, ◌∙◌, arith, suc, zero}
use Rattle.std.proofs.lemmas.Bool.{cases_eq}
use Rattle.std.proofs.lemmas.List.{take_all}
use Rattle.std.proofs.lemmas.List.Sums.{sum_by_more, sum_by_more_le}
use Rattle.std.specs.Option.{IsSome, option_map}
use Rattle.std.specs.FinMap.{get, insert}
use Rattle.sd_runs.proofs.Maps.{get_insert_same, get_insert_other}
use Rattle.sd_runs.proofs.Places.{by_cases, not_equal, eqb_same}
use Rattle.sd_unique.specs.Nodes.{Nodes, IsNodes, key_at, uses_at}
use Rattle.sd_unique.specs.Inserting.{with_uses}
use Rattle.sd_manager.specs.Table.{uses_in, uses_of_pair}
use Rattle.sd_manager.specs.Counting.{counts_one, IsCounted, AreCounted, AddsUses, DropsUse}

-- a code counts once for itself
pub counts_same : (c code : ℕ) → code ≡ c → counts_one c code ≡ 1
counts_same c code e = ap (λ b. cond b 1 0) (ap (λ m. eqb m c) e ∙ eqb_same c)

-- and not for another
pub counts_other : (c code : ℕ) → ¬ (code ≡ c) → counts_one c code ≡ 0
counts_other c code differ = ap (λ b. cond b 1 0) (not_equal code c differ)

-- only the uses were replaced
uses_alone : (a b : Nodes) (n k : ℕ) → b ≡ with_uses a n k → b ≡ record a { uses = b.uses }
uses_alone a b n k e = e ∙ ap (λ u. record a { uses = u }) (sym (ap (λ v. v.uses) e))

-- an option that is there is there with its value
key_of_some : {X : Type 0} (o : Option X) → IsSome o → (x : X) × (o ≡ Some x)
key_of_some None h = cc
key_of_some (Some x) h = (x, refl)

-- each node has a count
pub counted_there : (a : Nodes) (n : ℕ) → IsNodes a → IsSome (key_at a n) → IsSome (get a.uses n)
counted_there a n valid there = let k = key_of_some (key_at a n) there in valid.counted n k.0 k.1

-- an option with a function on what is there that changes nothing
pub map_same : (f : ℕ → ℕ) → ((k : ℕ) → f k ≡ k) → (o : Option ℕ) → o ≡ option_map f o
map_same f h None = refl
map_same f h (Some k) = ap Some (sym (h k))

-- what is counted is there
count_there : (o : Option ℕ) → IsSome o → o ≡ Some (unwrap_or o 0)
count_there None h = cc
count_there (Some k) h = refl

-- the count of one node was replaced
changed : (a b : Nodes) (code v : ℕ) (f : ℕ → ℕ → ℕ) → 2050 ≤ code → b ≡ with_uses a (code - 2050) v →
    IsSome (get a.uses (code - 2050)) → f code (uses_at a (code - 2050)) ≡ v →
    ((c k : ℕ) → ¬ (code ≡ c) → f c k ≡ k) → (n : ℕ) →
    get b.uses n ≡ option_map (λ k. f (2050 + n) k) (get a.uses n)
changed a b code v f least e there here others n =
    by_cases
    (λ same.
    let back : 2050 + (code - 2050) ≡ code = omega arith in
    ap (λ w. get w.uses n) e ∙ ap (get (insert a.uses (code - 2050) v)) same
    ∙ get_insert_same a.uses (code - 2050) v
    ∙ ap Some (sym here ∙ ap (λ c. f c (uses_at a (code - 2050))) (sym back))
    ∙ ap (option_map (λ k. f (2050 + (code - 2050)) k)) (sym (count_there (get a.uses (code - 2050)) there))
    ∙ ap (λ m. option_map (λ k. f (2050 + m) k) (get a.uses m)) (sym same))
    (λ ne.
    ap (λ w. get w.uses n) e ∙ get_insert_other a.uses (code - 2050) v n ne
    ∙ map_same (f (2050 + n)) (λ k. others (2050 + n) k (λ same. ne (omega arith))) (get a.uses n))
    (cases_eq n (code - 2050))

-- one use more of a node
pub adds_one : (a b : Nodes) (code : ℕ) → IsNodes a → 2050 ≤ code → IsSome (key_at a (code - 2050)) →
    b ≡ with_uses a (code - 2050) (uses_at a (code - 2050) + 1) → AddsUses a b (λ c. counts_one c code)
adds_one a b code valid least there e = record {
  rest = uses_alone a b (code - 2050) _ e;
  uses = changed a b code (uses_at a (code - 2050) + 1) (λ c k. k + counts_one c code) least e
      (counted_there a (code - 2050) valid there)
      (ap (λ m. uses_at a (code - 2050) + m) (counts_same code code refl))
      (λ c k ne. omega (arith, counts_other c code ne));
}

-- one use less
pub drops_count : (a b : Nodes) (code : ℕ) → 2050 ≤ code → IsSome (get a.uses (code - 2050)) →
    b ≡ with_uses a (code - 2050) (uses_at a (code - 2050) - 1) → DropsUse a b code
drops_count a b code least there e = record {
  rest = uses_alone a b (code - 2050) _ e;
  uses = changed a b code (uses_at a (code - 2050) - 1) (λ c k. k - counts_one c code) least e there
      (ap (λ m. uses_at a (code - 2050) - m) (counts_same code code refl))
      (λ c k ne. omega (arith, counts_other c code ne));
}

pub drops_one : (a b : Nodes) (code : ℕ) → IsNodes a → 2050 ≤ code → IsSome (key_at a (code - 2050)) →
    b ≡ with_uses a (code - 2050) (uses_at a (code - 2050) - 1) → DropsUse a b code
drops_one a b code valid least there e = drops_count a b code least (counted_there a (code - 2050) valid there) e

-- a code that is counted is so after uses were added
pub still_counted : {more : ℕ → ℕ} (a b : Nodes) (code : ℕ) → AddsUses a b more → IsCounted a code → IsCounted b code
still_counted a b code h k least = subst (λ x. IsSome (key_at x (code - 2050))) (sym h.rest) (k least)

-- nothing is added by no codes
pub adds_none : (a : Nodes) (more : ℕ → ℕ) → ((c : ℕ) → more c ≡ 0) → AddsUses a a more
adds_none a more h = record {
  rest = refl;
  uses = λ n. map_same (λ k. k + more (2050 + n))
      (λ k. omega (arith, h (2050 + n))) (get a.uses n);
}

-- two sums one after another
map_twice : (i j m : ℕ) → m ≡ i + j → (o : Option ℕ) →
    option_map (λ u. u + j) (option_map (λ u. u + i) o) ≡ option_map (λ u. u + m) o
map_twice i j m e None = refl
map_twice i j m e (Some k) = ap Some (omega arith)

-- uses that are added one after another
pub adds_both : (a b d : Nodes) (f g more : ℕ → ℕ) → AddsUses a b f → AddsUses b d g →
    ((c : ℕ) → more c ≡ f c + g c) → AddsUses a d more
adds_both a b d f g more h k sum = record {
  rest = let with : Nodes → Nodes = λ v. record v { uses = d.uses } in k.rest ∙ ap with h.rest;
  uses = λ n. k.uses n ∙ ap (option_map (λ u. u + g (2050 + n))) (h.uses n)
      ∙ map_twice (f (2050 + n)) (g (2050 + n)) (more (2050 + n)) (sum (2050 + n)) (get a.uses n);
}

-- the uses of the pairs of a list were added
pub record HasAdded (old new : Nodes) (list : List (ℕ × ℕ)) : Type 0 where
  pub uses : AddsUses old new (λ c. uses_in c list)
  pub valid : IsNodes new

-- what is counted of a list is counted at each of its places
pub counted_at : (a : Nodes) (list : List (ℕ × ℕ)) (i : ℕ) (d : ℕ × ℕ) → i < length list → AreCounted a list →
    IsCounted a (get_or list i d).0 × IsCounted a (get_or list i d).1
counted_at a [] i d h k = absurd (omega arith)
counted_at a (e ∷ list) zero d h k = k.0
counted_at a (e ∷ list) (suc i) d h k = counted_at a list i d (omega arith) k.1

-- a count that is there comes from one that was there
count_from : (o : Option ℕ) (m k : ℕ) → Some k ≡ option_map (λ u. u + m) o → (u : ℕ) × (o ≡ Some u) × (k ≡ u + m)
count_from None m k e = cc
count_from (Some u) m k e = let same : k ≡ u + m = cc in (u, refl, same)

-- both codes of the next pair are counted
pub next_counted : (a b : Nodes) (list : List (ℕ × ℕ)) (i : ℕ) (d : ℕ × ℕ) → HasAdded a b (take i list) →
    i < length list → AreCounted a list → IsCounted b (get_or list i d).0 × IsCounted b (get_or list i d).1
next_counted a b list i d h inside counted =
    let k = counted_at a list i d inside counted in
    (still_counted a b (get_or list i d).0 h.uses k.0, still_counted a b (get_or list i d).1 h.uses k.1)

-- and there is room for their uses
pub next_room : (a b : Nodes) (list : List (ℕ × ℕ)) (i : ℕ) (d : ℕ × ℕ) → HasAdded a b (take i list) →
    i < length list → ((n k : ℕ) → get a.uses n ≡ Some k → k + uses_in (2050 + n) list < 2 ^ 64) →
    (n k : ℕ) → get b.uses n ≡ Some k → k + uses_of_pair (2050 + n) (get_or list i d) < 2 ^ 64
next_room a b list i d h inside room n k is =
    let u = count_from (get a.uses n) (uses_in (2050 + n) (take i list)) k (sym is ∙ h.uses.uses n) in
    omega (arith, room n u.0 u.1, u.2, sum_by_more_le (uses_of_pair (2050 + n)) list i d inside)

-- one pair more
pub next_added : (a b d : Nodes) (list : List (ℕ × ℕ)) (i : ℕ) (e : ℕ × ℕ) → HasAdded a b (take i list) →
    i < length list → AddsUses b d (λ c. uses_of_pair c (get_or list i e)) → IsNodes d →
    HasAdded a d (take (i + 1) list)
next_added a b d list i e h inside more valid = record {
  uses = adds_both a b d (λ c. uses_in c (take i list)) (λ c. uses_of_pair c (get_or list i e))
      (λ c. uses_in c (take (i + 1) list)) h.uses more (λ c. sum_by_more (uses_of_pair c) list i e inside);
  valid = valid;
}

-- all pairs
pub all_added : (a b : Nodes) (list : List (ℕ × ℕ)) (i : ℕ) → HasAdded a b (take i list) → length list ≤ i →
    AddsUses a b (λ c. uses_in c list)
all_added a b list i h done = subst (λ l. AddsUses a b (λ c. uses_in c l)) (take_all i list done) h.uses
