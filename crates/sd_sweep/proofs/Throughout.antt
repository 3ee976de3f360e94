-- What a diagram hands on to the primes and subs of its elements, all that stands under it has.
use Rattle.std.proofs.Common.{◌⊎◌, inl, inr, ℕ, [], ◌∷◌, sym, subst}
use Rattle.sd_model.specs.Diagram.{Diagram, Bottom, Top, Literal, Decomposition, Elements, End, Pair}
use Rattle.sd_model.specs.Canonical.{IsElement, first, later}
use Rattle.sd_model.specs.Size.{walk, walk_elements}
use Rattle.sd_laws.proofs.Lists.{IsAmong}
use Rattle.sd_sweep.proofs.Below.{among_split, only, three}

module _ (P : Diagram → Type 0)
    (hands_on : (p : ℕ) (es : Elements) → P (Decomposition p es) → (x y : Diagram) → IsElement x y es → P x × P y)
  where
    mutual
      -- what stands under a diagram has it
      pub throughout : (d : Diagram) → P d → (x : Diagram) → IsAmong x (walk d) → P x
      throughout Bottom h x m = subst P (sym (only x Bottom m)) h
      throughout Top h x m = subst P (sym (only x Top m)) h
      throughout (Literal p v s) h x m = subst P (sym (only x (Literal p v s) m)) h
      throughout (Decomposition p es) h x m =
          go (λ k. throughout_elements es (hands_on p es h) x k)
          (among_split x (walk_elements es) (Decomposition p es ∷ []) m)
        where
          go : (IsAmong x (walk_elements es) → P x) →
              IsAmong x (walk_elements es) ⊎ IsAmong x (Decomposition p es ∷ []) → P x
          go f (inl k) = f k
          go f (inr k) = subst P (sym (only x (Decomposition p es) k)) h

      -- and what stands under elements
      throughout_elements : (es : Elements) → ((p s : Diagram) → IsElement p s es → P p × P s) → (x : Diagram) →
          IsAmong x (walk_elements es) → P x
      throughout_elements End h x m = absurd m
      throughout_elements (Pair p s rest) h x m =
          three p s rest x (P x) (λ k. throughout p (h p s first).0 x k)
          (λ k. throughout s (h p s first).1 x k)
          (λ k. throughout_elements rest (λ q u e. h q u (later e)) x k) m
