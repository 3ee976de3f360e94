-- Ids that are their own places: 0, 1, 2 and so on.
use Rattle.std.proofs.Common.{◌≡◌, ℕ, ◌<◌, ◌≤◌, List, [], ◌∷◌, ◌++◌, length, Some, None, refl, ap, ◌∙◌, arith}
use Rattle.std.proofs.Common.{inl, inr, eq-eqb, ne_eqb}
use Rattle.std.proofs.lemmas.Bool.{cases_eq}
use Rattle.std.proofs.lemmas.List.{length_push}
use Rattle.sd_file.specs.Reads.{index_of_id}
use Rattle.sd_file.proofs.Places.{index_push}

-- an id below their number stands at that place, and no other stands there
pub record AreOwnPlaces (ids : List ℕ) : Type 0 where
  pub known : (id : ℕ) → id < length ids → index_of_id id ids ≡ Some id
  pub new : (id : ℕ) → length ids ≤ id → index_of_id id ids ≡ None

-- none is so
pub no_ids : AreOwnPlaces []
no_ids = record { known = λ id h. absurd (omega arith); new = λ id h. refl }

-- and their number is the next
pub next_id : (ids : List ℕ) → AreOwnPlaces ids → AreOwnPlaces (ids ++ length ids ∷ [])
next_id ids own =
    let n = length ids in
    let fresh = own.new n (omega arith) in
    let longer = length_push ids n in
    record {
      known = λ id h. index_push id ids n fresh ∙ elim (cases_eq n id) [
        | inl same ↦ rw (eq-eqb n id same) (ap Some same)
        | inr other ↦ rw (ne_eqb n id other) (own.known id (omega (arith, longer, other)))
      ];
      new = λ id h. index_push id ids n fresh
          ∙ rw (ne_eqb n id (λ e. omega (arith, longer))) (own.new id (omega (arith, longer)));
    }
