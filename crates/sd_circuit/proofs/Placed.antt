-- And-lines that were placed, and one more.
use Rattle.std.proofs.Common.{◌≡◌, ℕ, ◌<◌, Bool, true, false, List, [], ◌∷◌, ◌++◌, length, get_or}
use Rattle.std.proofs.Common.{◌∙◌, subst, inl, inr, arith}
use Rattle.std.proofs.Math.ListN.{set}
use Rattle.std.proofs.lemmas.List.{length-set}
use Rattle.sd_model.specs.Circuit.{AndLine}
use Rattle.sd_circuit.specs.Order.{Uses, IsOrdered}
use Rattle.sd_circuit.specs.Placing.{ArePlaced, is_marked}
use Rattle.sd_circuit.specs.Reaching.{AreUsesMarked}
use Rattle.sd_circuit.proofs.Grown.{grown_length, grown_old, each_grown, stands_grown, last_stands}
use Rattle.sd_circuit.proofs.Grown.{once_grown, set_marked, set_stays, set_either, set_fewer, none_unmarked}

-- an and-line is placed behind all that it uses
pub placed_more : (ands : List AndLine) (order : List ℕ) (placed : List Bool) (k : ℕ) → ArePlaced ands order placed
    → k < length ands → is_marked placed k ≡ false → AreUsesMarked ands placed k
    → ArePlaced ands (order ++ k ∷ []) (set placed k true)
placed_more ands order placed k old inside off uses =
    let near : k < length placed = omega (arith, inside, old.size) in
    record {
      size = length-set placed k true ∙ old.size;
      counted = omega (arith, grown_length order k, set_fewer placed k near off, old.counted);
      inside = each_grown (λ p x. x < length ands) order k old.inside inside;
      marked =
          each_grown (λ p x. is_marked (set placed k true) x ≡ true) order k
          (λ p below. set_stays placed k (get_or order p 0) (old.marked p below)) (set_marked placed k near);
      has = λ j below on. elim (set_either placed k j on) [
        | inl is ↦ last_stands order k j is
        | inr was ↦ stands_grown order k j (old.has j below was)
      ];
      once =
          once_grown order k old.once
          (λ p below same. let on : is_marked placed k ≡ true =
          subst (λ x. is_marked placed x ≡ true) same (old.marked p below) in cc);
      earlier = λ place used below there.
          each_grown (λ p x. Uses ands x used
          → (before : ℕ) × (before < p) × (get_or (order ++ k ∷ []) before 0 ≡ used)) order k
          (λ p near' u. lifted p near' (old.earlier p used near' there u))
          (λ u. new used (old.has used there (uses used there u))) place below;
    }
  where
    lifted : (p : ℕ) {used : ℕ} → p < length order → (before : ℕ) × (before < p) × (get_or order before 0 ≡ used)
        → (before : ℕ) × (before < p) × (get_or (order ++ k ∷ []) before 0 ≡ used)
    lifted p near' (before, less, is) =
        (before, less, grown_old order k before (omega (arith, less, near')) ∙ is)

    new : (used : ℕ) → (p : ℕ) × (p < length order) × (get_or order p 0 ≡ used)
        → (before : ℕ) × (before < length order) × (get_or (order ++ k ∷ []) before 0 ≡ used)
    new used (p, less, is) = (p, less, grown_old order k p less ∙ is)

-- where all are placed, that is an order
pub all_placed : (ands : List AndLine) (order : List ℕ) (placed : List Bool) → ArePlaced ands order placed
    → ((k : ℕ) → k < length ands → is_marked placed k ≡ true) → IsOrdered ands order
all_placed ands order placed old all =
    record {
      whole =
          omega (
            arith,
            old.counted,
            none_unmarked placed (λ k below. all k (subst (λ n. k < n) old.size below)),
          );
      inside = old.inside;
      has = λ k below. old.has k below (all k below);
      once = old.once;
      earlier = old.earlier;
    }
