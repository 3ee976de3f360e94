-- The top of the stack of candidates as the next node of two elements that is taken away.
use Rattle.std.proofs.Common.{◌≡◌, ◌≢◌, ℕ, ◌<◌, ◌≤◌, false, Bool, List, [], ◌∷◌, length, get_or, slice_get, Some}
use Rattle.std.proofs.Common.{unwrap_or, refl, sym, ap, subst, ◌∙◌, arith}
use Rattle.std.specs.Option.{option_and_then}
use Rattle.std.specs.FinMap.{get}
use Rattle.sd_runs.specs.Arena.{Arena, live_length}
use Rattle.sd_unique.specs.declared.record.Record.{Record}
use Rattle.sd_unique.specs.declared.record.Links.{Links}
use Rattle.sd_unique.specs.declared.record.RecordState.TheVariants.{Free}
use Rattle.sd_unique.specs.Candidates.{Waits}
use Rattle.sd_unique.specs.Chains.{HoldsNodes, IsUnused}
use Rattle.sd_unique.specs.Record.{IsNode, if_linked, key_of, linked_key, nodes_of, AreRecordsStored}
use Rattle.sd_unique.proofs.Entries.{slice_get_at, slice_get_inside}
use Rattle.sd_unique.proofs.Moved.{free_not_linked}
use Rattle.sd_unique.proofs.Numbered.{linked_at}
use Rattle.sd_unique.proofs.Waiting.{kept_queued}

-- a list of two pairs is that of its first and its second one
pub two_of : (l : List (ℕ × ℕ)) → 2 ≤ length l → length l < 3 → l ≡ get_or l 0 (0, 0) ∷ get_or l 1 (0, 0) ∷ []
two_of [] least most = absurd (omega (arith, least))
two_of (e ∷ []) least most = absurd (omega (arith, least))
two_of (e ∷ f ∷ []) least most = refl
two_of (e ∷ f ∷ g ∷ l) least most = absurd (omega (arith, most))

module _ (arena : Arena) (rs : List Record) (n : ℕ) (r : Record) (there : slice_get rs n ≡ Some r) (u : IsUnused r)
    (blank : Record) where
  -- the record that is read is that of the node
  top_read : get_or rs n blank ≡ r
  top_read =
      let same : Some (get_or rs n blank) ≡ Some r =
      sym (slice_get_at rs n blank (slice_get_inside rs n r there)) ∙ there in
      cc

  -- its run is live
  pub top_run : AreRecordsStored arena rs →
      live_length arena (get_or rs n blank).start ≡ Some (get_or rs n blank).length
  top_run st =
      st.live n (get_or rs n blank) (there ∙ ap Some (sym top_read))
      (subst IsNode (sym (ap (λ (x : Record). x.state) top_read ∙ u.linked)) tt)

  -- and what is in it is the list of the node
  pub top_key : (l : List (ℕ × ℕ)) → get arena.live (get_or rs n blank).start ≡ Some l →
      get (nodes_of arena rs).linked n ≡ Some ((get_or rs n blank).place, l)
  top_key l is =
      linked_at arena rs n
      ∙ ap (option_and_then (λ (x : Record). linked_key arena x)) (there ∙ ap Some (sym top_read))
      ∙ ap (λ s. if_linked s (key_of arena (get_or rs n blank))) (ap (λ (x : Record). x.state) top_read ∙ u.linked)
      ∙ ap (λ o. Some ((get_or rs n blank).place, unwrap_or o [])) is

-- what holds of the fields is kept where the number of a free record is taken off the stack
pub kept_without : (arena : Arena) (rs : List Record) (links : List Links) (heads places : List ℕ)
    (flags new : List Bool) (n : ℕ) → ((r : Record) → slice_get rs n ≡ Some r → r.state ≡ Free)
    → length new ≡ length flags → ((m : ℕ) → m ≢ n → Waits flags m → Waits new m)
    → HoldsNodes false arena rs links heads places flags → HoldsNodes false arena rs links heads places new
kept_without arena rs links heads places flags new n free size others k =
    kept_queued arena rs links heads places flags new size
    (λ m r e unused. others m
    (λ same. free_not_linked r.state (free r (ap (slice_get rs) (sym same) ∙ e)) unused.linked)) k
