-- What the calls on maps and lists say, in the words of ranks.
use Rattle.std.proofs.Common.{◌≡◌, ℕ, false, cond, Option, refl, sym, ◌∙◌, ap}
use Rattle.std.specs.Ordering.{nat_cmp, is_eq}
use Rattle.std.specs.declared.cmp.Ordering.{Ordering}
use Rattle.std.specs.declared.cmp.Ordering.TheVariants.{Less, Equal, Greater}
use Rattle.std.proofs.lemmas.Map.Lookups.{exact_unsigned}
use Rattle.sd_file.proofs.Ranking.{nat_same}

-- different numbers are not equal by their order
pub nat_other : (m n : ℕ) → (m ≡ n → ⊥) → is_eq (nat_cmp m n) ≡ false
nat_other m n h = go (nat_cmp m n) refl
  where
    go : (o : Ordering) → nat_cmp m n ≡ o → is_eq (nat_cmp m n) ≡ false
    go Less e = ap is_eq e
    go Equal e = absurd (h (exact_unsigned m n e))
    go Greater e = ap is_eq e

-- what a map has after an insert, at the key itself
pub updated_here : {A : Type 0} (c : ℕ) (w o n : Option A) → n ≡ cond (is_eq (nat_cmp c c)) w o → n ≡ w
updated_here c w o n e = e ∙ ap (λ q. cond (is_eq q) w o) (nat_same c c refl)

-- and at others
pub updated_other : {A : Type 0} (c b : ℕ) (w o n : Option A) → n ≡ cond (is_eq (nat_cmp c b)) w o → (b ≡ c → ⊥) →
    n ≡ o
updated_other c b w o n e h = e ∙ ap (λ q. cond q w o) (nat_other c b (λ k. h (sym k)))
