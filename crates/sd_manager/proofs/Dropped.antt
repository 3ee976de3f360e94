-- The uses of nodes after those of a list were taken away.
use Rattle.std.proofs.Common.{◌≡◌, ℕ, ◌+◌, ◌-◌, ◌≤◌, ◌<◌, List, [], take, get_or, length}
use Rattle.std.proofs.Common.{Option, Some, None, unwrap_or, refl, sym, ap, subst, ◌∙◌, arith}
use Rattle.std.proofs.lemmas.List.{take_all}
use Rattle.std.proofs.lemmas.List.Sums.{sum_by_more, sum_by_more_le}
use Rattle.std.specs.Option.{IsSome, option_map}
use Rattle.std.specs.FinMap.{get}
use Rattle.sd_unique.specs.Nodes.{Nodes, IsNodes, key_at}
use Rattle.sd_unique.specs.Relinking.{IsLoose}
use Rattle.sd_manager.specs.Table.{uses_in, uses_of_pair}
use Rattle.sd_manager.specs.Counting.{IsCounted, AreCounted, DropsUses, list_at, run_at}
use Rattle.sd_manager.proofs.Counted.{counted_at, map_same}

-- nothing is taken away by no codes
pub drops_none : (a : Nodes) (less : ℕ → ℕ) → ((c : ℕ) → less c ≡ 0) → DropsUses a a less
drops_none a less h = record {
  rest = refl;
  uses = λ n. map_same (λ k. k - less (2050 + n)) (λ k. omega (arith, h (2050 + n))) (get a.uses n);
}

-- two differences one after another
map_twice : (i j m : ℕ) → m ≡ i + j → (o : Option ℕ) →
    option_map (λ u. u - j) (option_map (λ u. u - i) o) ≡ option_map (λ u. u - m) o
map_twice i j m e None = refl
map_twice i j m e (Some k) = ap Some (omega arith)

-- uses that are taken away one after another
pub drops_both : (a b d : Nodes) (f g less : ℕ → ℕ) → DropsUses a b f → DropsUses b d g →
    ((c : ℕ) → less c ≡ f c + g c) → DropsUses a d less
drops_both a b d f g less h k sum = record {
  rest = let with : Nodes → Nodes = λ v. record v { uses = d.uses } in k.rest ∙ ap with h.rest;
  uses = λ n. k.uses n ∙ ap (option_map (λ u. u - g (2050 + n))) (h.uses n)
      ∙ map_twice (f (2050 + n)) (g (2050 + n)) (less (2050 + n)) (sum (2050 + n)) (get a.uses n);
}

-- a code that is counted is so after uses were taken away
pub counted_still : (a b : Nodes) (less : ℕ → ℕ) (code : ℕ) → DropsUses a b less → IsCounted a code → IsCounted b code
counted_still a b less code h k least = subst (λ x. IsSome (key_at x (code - 2050))) (sym h.rest) (k least)

-- each node keeps its key
pub key_still : (a b : Nodes) (less : ℕ → ℕ) (n : ℕ) → DropsUses a b less → key_at b n ≡ key_at a n
key_still a b less n h = ap (λ x. key_at x n) h.rest

-- each count is at least as much as its code says
abbrev pub AreUsed : Nodes → (ℕ → ℕ) → Type 0
AreUsed a less = (n k : ℕ) → get a.uses n ≡ Some k → less (2050 + n) ≤ k

-- a count that comes from one that was there
count_from : (o : Option ℕ) (m k : ℕ) → Some k ≡ option_map (λ u. u - m) o → (u : ℕ) × (o ≡ Some u) × (k ≡ u - m)
count_from None m k e = cc
count_from (Some u) m k e = let same : k ≡ u - m = cc in (u, refl, same)

-- where a part was taken away the counts are enough for another one
pub left_used : (a b : Nodes) (f g less : ℕ → ℕ) → DropsUses a b f → ((c : ℕ) → f c + g c ≤ less c) →
    AreUsed a less → AreUsed b g
left_used a b f g less h sum used n k is =
    let u = count_from (get a.uses n) (f (2050 + n)) k (sym is ∙ h.uses n) in
    omega (arith, used n u.0 u.1, u.2, sum (2050 + n))

-- a list

-- the uses of the pairs of a list were taken away
pub record HasDropped (old new : Nodes) (list : List (ℕ × ℕ)) : Type 0 where
  pub uses : DropsUses old new (λ c. uses_in c list)
  pub valid : IsNodes new

-- the list of a loose run is what stands there
pub run_is : (a : Nodes) (start : ℕ) (list : List (ℕ × ℕ)) → get a.loose start ≡ Some list → list ≡ run_at a start
run_is a start list e = sym (ap (λ o. unwrap_or o []) e)

-- the list of a node is what stands there
pub list_is : (a : Nodes) (n : ℕ) (list : List (ℕ × ℕ)) → option_map (λ k. k.1) (key_at a n) ≡ Some list →
    list ≡ list_at a n
list_is a n list e = sym (ap (λ o. unwrap_or o []) e)

module _ (a b : Nodes) (list : List (ℕ × ℕ)) (i : ℕ) (h : HasDropped a b (take i list)) where
  -- the node is there still, with its list
  pub node_still : (n : ℕ) → IsSome (key_at a n) → IsSome (key_at b n)
  node_still n there = subst IsSome (sym (key_still a b (λ c. uses_in c (take i list)) n h.uses)) there

  pub list_still : (n : ℕ) → list_at b n ≡ list_at a n
  list_still n =
      ap (λ o. unwrap_or (option_map (λ (k : ℕ × List (ℕ × ℕ)). k.1) o) [])
      (key_still a b (λ c. uses_in c (take i list)) n h.uses)

  -- so is a loose run
  pub loose_still : (start n : ℕ) → (l : List (ℕ × ℕ)) × IsLoose a start n l → (l : List (ℕ × ℕ)) × IsLoose b start n l
  loose_still start n loose =
      (loose.0, record { is = ap (λ x. get x.loose start) h.uses.rest ∙ loose.1.is; counted = loose.1.counted })

  pub run_still : (start : ℕ) → run_at b start ≡ run_at a start
  run_still start = ap (λ x. unwrap_or (get x.loose start) []) h.uses.rest

  module _ (d : ℕ × ℕ) (inside : i < length list) where
    -- both codes of the next pair are counted
    pub next_counted : AreCounted a list → IsCounted b (get_or list i d).0 × IsCounted b (get_or list i d).1
    next_counted counted =
        let k = counted_at a list i d inside counted in (
          counted_still a b (λ c. uses_in c (take i list)) (get_or list i d).0 h.uses k.0,
          counted_still a b (λ c. uses_in c (take i list)) (get_or list i d).1 h.uses k.1,
        )

    -- and used
    pub next_used : AreUsed a (λ c. uses_in c list) → AreUsed b (λ c. uses_of_pair c (get_or list i d))
    next_used used =
        left_used a b (λ c. uses_in c (take i list)) (λ c. uses_of_pair c (get_or list i d)) (λ c. uses_in c list)
        h.uses (λ c. omega (arith, sum_by_more_le (uses_of_pair c) list i d inside)) used

    -- one pair more
    pub next_dropped : (e : Nodes) → DropsUses b e (λ c. uses_of_pair c (get_or list i d)) → IsNodes e →
        HasDropped a e (take (i + 1) list)
    next_dropped e less valid = record {
      uses = drops_both a b e (λ c. uses_in c (take i list)) (λ c. uses_of_pair c (get_or list i d))
          (λ c. uses_in c (take (i + 1) list)) h.uses less (λ c. sum_by_more (uses_of_pair c) list i d inside);
      valid = valid;
    }

  -- all pairs
  pub all_dropped : length list ≤ i → DropsUses a b (λ c. uses_in c list)
  all_dropped done = subst (λ l. DropsUses a b (λ c. uses_in c l)) (take_all i list done) h.uses
