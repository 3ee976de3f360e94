-- What the counts are to be, for the lists of the numbers and for how often roots hold each.
use Rattle.std.specs.Prelude.{◌≡◌, ℕ, suc, ◌+◌, ◌-◌, ◌<◌, ◌≤◌, ◌^◌, Bool, true, cond, List, [], ◌∷◌, length, Some}
use Rattle.std.specs.Prelude.{unwrap_or}
use Rattle.std.specs.List.{AllByRecursion}
use Rattle.std.specs.Option.{IsSome, option_map}
use Rattle.sd_unique.specs.Nodes.{Nodes, IsNodes, key_at, total_length}
use Rattle.sd_counts.specs.Counts.{Counts, live_at, counted_at}
use Rattle.sd_counts.specs.Uses.{uses_in}

-- the sum of f over the numbers that are counted
abbrev pub sum_counted : (ℕ → ℕ) → List Bool → ℕ
sum_counted f [] = 0
sum_counted f (b ∷ bs) = cond b (f 0) 0 + sum_counted (λ n. f (suc n)) bs

-- Each number is used as often as its code stands in the lists of the counted numbers and roots hold it, and the total
-- is that of the lengths of these lists.
pub record AreRight (lists : ℕ → List (ℕ × ℕ)) (held : ℕ → ℕ) (v : Counts) : Type 0 where
  pub live : (n : ℕ) → live_at v n ≡ sum_counted (λ m. uses_in (2050 + n) (lists m)) v.counted + held n
  pub total : v.total ≡ sum_counted (λ m. length (lists m)) v.counted

-- the list of a node, linked or detached, and no list for another number
abbrev pub list_at : Nodes → ℕ → List (ℕ × ℕ)
list_at a n = unwrap_or (option_map (λ k. k.1) (key_at a n)) []

-- the code is of a constant, a literal or a node, linked or detached
abbrev pub IsThere : Nodes → ℕ → Type 0
IsThere a code = 2050 ≤ code → IsSome (key_at a (code - 2050))

-- the codes in the lists of all nodes are so
abbrev pub AreClosed : Nodes → Type 0
AreClosed a =
    (n : ℕ) (k : ℕ × List (ℕ × ℕ)) → key_at a n ≡ Some k →
    AllByRecursion (λ (e : ℕ × ℕ). IsThere a e.0 × IsThere a e.1) k.1

-- The counts are right for the lists of these nodes and for what roots hold. Only nodes are counted and held, and each
-- node has a count.
pub record AreOf (a : Nodes) (held : ℕ → ℕ) (v : Counts) : Type 0 where
  pub right : AreRight (list_at a) held v
  pub nodes : (n : ℕ) → counted_at v n ≡ true → IsSome (key_at a n)
  pub held_nodes : (n : ℕ) → 0 < held n → IsSome (key_at a n)
  pub few : (n : ℕ) → held n < 2 ^ 32
  pub room : a.records ≤ length v.live
  pub within : length v.counted ≡ length v.live

-- n is held, or its code stands in the list of a number that is reached
pub data IsReached (lists : ℕ → List (ℕ × ℕ)) (held : ℕ → ℕ) : ℕ → Type 0 where
  reached_held : {n : ℕ} → 0 < held n → IsReached lists held n
  reached_below : {m n : ℕ} → IsReached lists held m → 0 < uses_in (2050 + n) (lists m) → IsReached lists held n

-- Each number has a rank, and the numbers whose list has its code have lower ranks, so that no number is below itself.
pub record AreRanked (lists : ℕ → List (ℕ × ℕ)) (v : Counts) (rank : ℕ → ℕ) : Type 0 where
  pub users : (m n : ℕ) → counted_at v m ≡ true → 0 < uses_in (2050 + n) (lists m) → rank m < rank n

-- The lists of the nodes have the codes of nodes alone, and so few elements together that the total has room for them.
pub record MaySettle (a : Nodes) : Type 0 where
  pub valid : IsNodes a
  pub closed : AreClosed a
  pub few : total_length a < 2 ^ 32
