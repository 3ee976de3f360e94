-- The table of what defines each variable, as it is written and as it is read.
use Rattle.std.proofs.Common.{◌≡◌, ℕ, ◌+◌, ◌<◌, ◌≤◌, List, length, get_or, sym, ◌∙◌, ap, subst, inl, inr, arith}
use Rattle.std.proofs.Common.{below_more, replicate}
use Rattle.std.proofs.Math.ListN.{set}
use Rattle.std.proofs.lemmas.List.{length-set, get_or-set_same, get_or-set_other, length-replicate, get_or-replicate}
use Rattle.std.proofs.lemmas.Bool.{cases_eq}
use Rattle.sd_model.specs.Circuit.{AndLine}
use Rattle.sd_circuit.specs.Order.{defined_at, DefineOnce}
use Rattle.sd_circuit.specs.Definers.{AreDefiners}

-- one and-line more is written
pub defined_more : (variables : ℕ) (ands : List AndLine) (k : ℕ) (table : List ℕ) → DefineOnce variables ands
    → AreDefiners variables ands k table → k < length ands
    → AreDefiners variables ands (k + 1) (set table (defined_at ands k) k)
defined_more variables ands k table lines old inside =
    let near : defined_at ands k < length table = omega (arith, old.size, lines.defined k inside) in
    record {
      size = length-set table (defined_at ands k) k ∙ old.size;
      right =
          below_more (λ j. get_or (set table (defined_at ands k) k) (defined_at ands j) 0 ≡ j) k
          (λ j less. get_or-set_other table (defined_at ands k) (defined_at ands j) k 0 (lines.once j k less inside)
          ∙ old.right j less)
          (get_or-set_same table (defined_at ands k) k 0 near);
      only = λ v within there. elim (cases_eq v (defined_at ands k)) [
        | inl e ↦
            let same : get_or (set table (defined_at ands k) k) v 0 ≡ k =
            ap (λ n. get_or (set table (defined_at ands k) k) n 0) e
            ∙ get_or-set_same table (defined_at ands k) k 0 near in
            ap (defined_at ands) same ∙ sym e
        | inr other ↦
            let same : get_or (set table (defined_at ands k) k) v 0 ≡ get_or table v 0 =
            get_or-set_other table (defined_at ands k) v k 0 other in
            ap (defined_at ands) same ∙ old.only v within (subst (λ n. n < length ands) same there)
      ];
    }

-- nothing is written yet
pub defined_none : (variables : ℕ) (ands : List AndLine) (none : ℕ) → length ands ≤ none
    → AreDefiners variables ands 0 (replicate (variables + 1) none)
defined_none variables ands none most =
    record {
      size = length-replicate (variables + 1) none;
      right = λ k less. absurd (omega arith);
      only = λ v within there.
          absurd
          (let same : get_or (replicate (variables + 1) none) v 0 ≡ none =
          get_or-replicate (variables + 1) v none 0 (omega (arith, within)) in
          omega (arith, same, there, most));
    }
