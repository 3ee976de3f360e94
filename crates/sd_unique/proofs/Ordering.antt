-- The free runs of one length come in another order: the nodes are the same.
use Rattle.std.proofs.Common.{Bool, ◌≡◌, ℕ, List, [], ◌∷◌, length, Option, Some, None}
use Rattle.std.proofs.Common.{unwrap_or, refl, sym, ap, ◌∙◌, arith}
use Rattle.std.proofs.lemmas.Bool.{cases_eq}
use Rattle.std.specs.FinMap.{get}
use Rattle.std.specs.Option.{option_map}
use Rattle.sd_runs.specs.Arena.{Arena, IsArena, free_of}
use Rattle.sd_runs.specs.Taking.{IsReordered}
use Rattle.sd_runs.proofs.Maps.{same_at_each}
use Rattle.sd_runs.proofs.Places.{by_cases}
use Rattle.sd_unique.specs.declared.record.Links.{Links}
use Rattle.sd_unique.specs.declared.record.Record.{Record}
use Rattle.sd_unique.specs.Record.{linked_key, detached_key, uses_of_record, mark_of_record, loose_of}
use Rattle.sd_unique.specs.Record.{counts_of, picked_map, nodes_of}
use Rattle.sd_unique.specs.Chains.{HoldsNodes}
use Rattle.sd_unique.proofs.Counts.{get_counts}
use Rattle.sd_unique.proofs.Taken.{kept_arena}

-- where no list is kept as the empty one, lists of one length have one count
same_count : (o p : Option (List ℕ)) → ¬ (o ≡ Some []) → ¬ (p ≡ Some [])
    → length (unwrap_or o []) ≡ length (unwrap_or p []) → option_map length o ≡ option_map length p
same_count None None some some' e = refl
same_count None (Some []) some some' e = absurd (some' refl)
same_count None (Some (x ∷ xs)) some some' e = absurd (omega (arith, e))
same_count (Some []) p some some' e = absurd (some refl)
same_count (Some (x ∷ xs)) None some some' e = absurd (omega (arith, e))
same_count (Some (x ∷ xs)) (Some ys) some some' e = ap Some e

module _ (old new : Arena) (n : ℕ) (r : IsReordered old new n) (was : IsArena old) (is : IsArena new) where
  same_length : (m : ℕ) → length (free_of new m) ≡ length (free_of old m)
  same_length m =
      by_cases
      (λ e. ap (λ j. length (free_of new j)) e ∙ r.count ∙ ap (λ j. length (free_of old j)) (sym e))
      (λ ne. ap length (r.others m ne))
      (cases_eq m n)

  -- as many runs of each length are free
  counts_reordered : counts_of new.free ≡ counts_of old.free
  counts_reordered =
      same_at_each _ _ (λ m. get_counts new.free m
      ∙ same_count (get new.free m) (get old.free m) (is.listed m) (was.listed m) (same_length m)
      ∙ sym (get_counts old.free m))

  -- the nodes are the same where the free runs come in another order
  pub nodes_reordered : (rs : List Record) → nodes_of new rs ≡ nodes_of old rs
  nodes_reordered rs i =
      record {
        linked = picked_map (λ x. linked_key (record new { live = r.live i }) x) rs;
        detached = picked_map (λ x. detached_key (record new { live = r.live i }) x) rs;
        loose = loose_of (r.live i) rs;
        uses = picked_map (λ x. uses_of_record x) rs;
        marks = picked_map (λ x. mark_of_record x) rs;
        free = counts_reordered i;
        records = length rs;
        extent = r.extent i;
        bound = r.bound i;
      }

  -- and what holds of the fields is kept
  pub kept_reordered : {chained : Bool} (rs : List Record) (links : List Links) (heads places : List ℕ)
      (flags : List Bool) → HoldsNodes chained old rs links heads places flags
      → HoldsNodes chained new rs links heads places flags
  kept_reordered rs links heads places flags k =
      kept_arena old new rs k.stored is (λ i x e node. ap (λ m. get m x.start) r.live)
      (omega (arith, r.extent)) r.bound links heads places flags k
