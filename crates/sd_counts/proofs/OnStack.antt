-- Stacks of numbers: nothing changes, a number is put on top, the top is taken off.
use Rattle.std.proofs.Common.{◌≡◌, ◌≢◌, inl, inr, ℕ, Bool, true, false, not, ◌&&◌, List, [], ◌∷◌, refl, sym, ◌∙◌, ap}
use Rattle.std.proofs.Common.{subst}
use Rattle.std.proofs.lemmas.Bool.{cases_eq}
use Rattle.sd_runs.proofs.Places.{by_cases}
use Rattle.sd_runs.specs.Arena.{IsMember, HasNoCopies}
use Rattle.sd_unique.specs.Filed.{IsChain}
use Rattle.sd_counts.specs.Queued.{IsStack}

-- a flag is not both
pub not_both : {b : Bool} → b ≡ false → b ≡ true → ⊥
not_both f t = let e = sym f ∙ t in cc

pub not_true : {b : Bool} → not b ≡ true → b ≡ false
not_true {b = true} e = absurd (not_both refl e)
not_true {b = false} e = refl

pub not_false : {b : Bool} → not b ≡ false → b ≡ true
not_false {b = true} e = refl
not_false {b = false} e = absurd (not_both e refl)

-- what holds of both flags
pub both_true : (a b : Bool) → a && b ≡ true → (a ≡ true) × (b ≡ true)
both_true true b e = (refl, e)
both_true false b e = absurd (not_both refl e)

-- a chain none of whose numbers changed its link stays one
chain_same : (next next' : ℕ → ℕ) (none at : ℕ) (xs : List ℕ) → ((y : ℕ) → IsMember y xs → next' y ≡ next y)
    → IsChain next none at xs → IsChain next' none at xs
chain_same next next' none at [] h c = c
chain_same next next' none at (x ∷ xs) h c = (
  c.0,
  c.1,
  subst (λ b. IsChain next' none b xs) (sym (h x (inl refl)))
      (chain_same next next' none (next x) xs (λ y k. h y (inr k)) c.2),
)

-- no number changed its link or came or went
pub stack_same : (next next' : ℕ → ℕ) (none top : ℕ) (on on' : ℕ → Bool)
    → ((y : ℕ) → on y ≡ true → next' y ≡ next y) → ((y : ℕ) → on' y ≡ on y)
    → IsStack next none top on → IsStack next' none top on'
stack_same next next' none top on on' links flags s =
    record {
      list = s.list;
      chain = chain_same next next' none top s.list (λ y k. links y (s.only y k)) s.chain;
      once = s.once;
      has = λ n e. s.has n (sym (flags n) ∙ e);
      only = λ n k. flags n ∙ s.only n k;
    }

-- a number that is not on the stack is put on top
pub stack_push : (next next' : ℕ → ℕ) (none top x : ℕ) (on on' : ℕ → Bool) → x ≢ none → on x ≡ false
    → next' x ≡ top → ((y : ℕ) → on y ≡ true → next' y ≡ next y) → on' x ≡ true
    → ((y : ℕ) → y ≢ x → on' y ≡ on y) → IsStack next none top on → IsStack next' none x on'
stack_push next next' none top x on on' some gone leads links there others s =
    record {
      list = x ∷ s.list;
      chain = (
        refl,
        some,
        subst (λ at. IsChain next' none at s.list) (sym leads)
            (chain_same next next' none top s.list (λ y k. links y (s.only y k)) s.chain),
      );
      once = ((λ k. not_both gone (s.only x k)), s.once);
      has = λ n e. by_cases (λ same. inl (sym same)) (λ ne. inr (s.has n (sym (others n ne) ∙ e))) (cases_eq n x);
      only = λ n k. by_cases
          (λ same. ap on' (sym same) ∙ there)
          (λ m. others n (λ same. not_both gone (ap on (sym same) ∙ s.only n m)) ∙ s.only n m)
          k;
    }

module _ (next next' : ℕ → ℕ) (none top : ℕ) (on on' : ℕ → Bool) (some : top ≢ none)
    (links : (y : ℕ) → next' y ≡ next y) (gone : on' top ≡ false)
    (others : (y : ℕ) → y ≢ top → on' y ≡ on y) where
  popped : (xs : List ℕ) → IsChain next none top xs → HasNoCopies xs → ((n : ℕ) → on n ≡ true → IsMember n xs)
      → ((n : ℕ) → IsMember n xs → on n ≡ true) → IsStack next' none (next top) on'
  popped [] c o has only = absurd (some c)
  popped (x ∷ xs) c o has only =
      record {
        list = xs;
        chain = subst (λ b. IsChain next' none b xs) (ap next (sym c.0))
            (chain_same next next' none (next x) xs (λ y k. links y) c.2);
        once = o.1;
        has = λ n e. by_cases
            (λ same. absurd (not_both (ap on' (sym same ∙ sym c.0) ∙ gone) e))
            (λ k. k)
            (has n (sym (others n (λ same. not_both (ap on' same ∙ gone) e)) ∙ e));
        only = λ n k. others n (λ same. o.0 (subst (λ z. IsMember z xs) (same ∙ c.0) k)) ∙ only n (inr k);
      }

  -- the top is taken off
  pub stack_pop : IsStack next none top on → IsStack next' none (next top) on'
  stack_pop s = popped s.list s.chain s.once s.has s.only

module _ (next : ℕ → ℕ) (none top : ℕ) (on : ℕ → Bool) where
  top_in : (xs : List ℕ) → IsChain next none top xs → top ≢ none → IsMember top xs
  top_in [] c ne = absurd (ne c)
  top_in (x ∷ xs) c ne = inl (sym c.0)

  none_in : (xs : List ℕ) → IsChain next none top xs → top ≡ none → (n : ℕ) → IsMember n xs → ⊥
  none_in [] c e n k = k
  none_in (x ∷ xs) c e n k = c.1 (sym c.0 ∙ e)

  -- the top is on the stack
  pub stack_top : top ≢ none → IsStack next none top on → on top ≡ true
  stack_top ne s = s.only top (top_in s.list s.chain ne)

  -- where there is no top, nothing is on the stack
  pub stack_none : top ≡ none → IsStack next none top on → (n : ℕ) → on n ≡ true → ⊥
  stack_none e s n k = none_in s.list s.chain e n (s.has n k)
