-- Which numbers are counted, how often each is used by what is counted, and the size of all that is counted.
use Rattle.std.specs.Prelude.{◌≡◌, ℕ, ◌+◌, ◌<◌, ◌⊎◌, Bool, true, false, List, [], ◌∷◌, ◌++◌, length, get_or, refl}
use Rattle.sd_counts.specs.Uses.{uses_in}
use Rattle.std.specs.Coded.{Coded, code_by, coded×, coded_list, coded_bool, coded_ℕ}

-- For each number how often what is counted uses it, and whether it is itself counted; and the lengths of the lists of
-- the counted numbers together, as far as they were counted.
pub record Counts : Type 0 where
  pub live : List ℕ
  pub counted : List Bool
  pub total : ℕ

-- the counts are stored as the tuple of their parts
abbrev pub counts_code : Coded Counts
counts_code =
    code_by (List ℕ × (List Bool × ℕ)) (coded× (coded_list coded_ℕ) (coded× (coded_list coded_bool) coded_ℕ))
    (λ v. (v.live, (v.counted, v.total))) (λ p. record { live = p.0; counted = p.1.0; total = p.1.1 }) (λ _. refl)

-- how often a number is used by what is counted
abbrev pub live_at : Counts → ℕ → ℕ
live_at v n = get_or v.live n 0

-- whether a number is counted
abbrev pub counted_at : Counts → ℕ → Bool
counted_at v n = get_or v.counted n false

-- counts of no numbers
abbrev pub no_counts : Counts
no_counts = record { live = []; counted = []; total = 0 }

-- the counts with one number more, which is not counted and not used
abbrev pub grown : Counts → Counts
grown v = record { live = v.live ++ 0 ∷ []; counted = v.counted ++ false ∷ []; total = v.total }

-- the counts have more numbers, none of which is counted or used, or they are as before
pub record IsGrown (old new : Counts) : Type 0 where
  pub is : (new ≡ old) ⊎ (new ≡ grown old)

-- Only the uses changed, and those of each number grew by as much as is said for its code.
pub record Adds (old new : Counts) (more : ℕ → ℕ) : Type 0 where
  pub live : (n : ℕ) → live_at new n ≡ live_at old n + more (2050 + n)
  pub counted : new.counted ≡ old.counted
  pub size : length new.live ≡ length old.live
  pub total : new.total ≡ old.total

-- just the numbers that are used are counted
pub record IsSettled (v : Counts) : Type 0 where
  pub used : (n : ℕ) → counted_at v n ≡ true → 0 < live_at v n
  pub unused : (n : ℕ) → counted_at v n ≡ false → live_at v n ≡ 0

-- The uses in the new list came in place of those in the old one, and so did its length.
pub record IsRelisted (old new : Counts) (old_list new_list : List (ℕ × ℕ)) : Type 0 where
  pub live : (n : ℕ) → live_at new n + uses_in (2050 + n) old_list ≡ live_at old n + uses_in (2050 + n) new_list
  pub counted : new.counted ≡ old.counted
  pub size : length new.live ≡ length old.live
  pub total : new.total + length old_list ≡ old.total + length new_list
