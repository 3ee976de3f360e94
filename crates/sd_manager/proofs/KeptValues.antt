-- The values that are kept for nodes.
use Rattle.std.proofs.Common.{◌≡◌, ◌⊎◌, inl, inr, ℕ, Bool, List, [], Option, Some, None, slice_index_or, subst, ◌∙◌}
use Rattle.sd_model.specs.Diagram.{Diagram, meaning}
use Rattle.sd_manager.specs.Table.{Table}
use Rattle.sd_manager.specs.Shown.{ShowsCanonical}
use Rattle.sd_manager.specs.Values.{AreValues}

-- in the beginning none is kept
pub none_kept : (t : Table) (a : List Bool) → AreValues t a []
none_kept t a = record { each = λ c b is d h. absurd cc }

-- one value more
pub value_kept : (t : Table) (a : List Bool) (node : ℕ) (value : Bool) (old new : List (Option Bool)) →
    AreValues t a old →
    ((k : ℕ) (b : Bool) → slice_index_or new k None ≡ Some b →
    ((k ≡ node) × (b ≡ value)) ⊎ (slice_index_or old k None ≡ Some b)) →
    ((d : Diagram) → ShowsCanonical t node d → value ≡ meaning d a) → AreValues t a new
value_kept t a node value old new h only right = record {
  each = λ k b is d shown. elim (only k b is) [
    | inl here ↦ here.1 ∙ right d (subst (λ n. ShowsCanonical t n d) here.0 shown)
    | inr before ↦ h.each k b before d shown
  ];
}
