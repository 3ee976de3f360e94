-- A detached record becomes a free one.
use Rattle.std.proofs.Common.{Bool, ◌≡◌, ℕ, ◌-◌, ◌<◌, bit_and, List, length, slice_get, Some, refl, sym, ap, subst}
use Rattle.std.proofs.Common.{[], unwrap_or, ◌∙◌, arith}
use Rattle.std.proofs.Math.ListN.{set}
use Rattle.std.proofs.lemmas.List.{length-set}
use Rattle.std.specs.FinMap.{get}
use Rattle.sd_runs.specs.Arena.{Arena, IsArena}
use Rattle.sd_runs.specs.Taking.{given_back}
use Rattle.sd_runs.proofs.Places.{by_cases}
use Rattle.sd_unique.specs.declared.record.Record.{Record}
use Rattle.sd_unique.specs.declared.record.Links.{Links}
use Rattle.sd_unique.specs.declared.record.RecordState.TheVariants.{Free, Detached}
use Rattle.sd_unique.specs.Filed.{IsFiled, unfiled}
use Rattle.sd_unique.specs.Record.{nodes_of, AreRecordsStored}
use Rattle.sd_unique.specs.Chains.{next_of, chain_in, list_by, under_by, list_under, heads_in, head_of}
use Rattle.sd_unique.specs.Chains.{no_record, HoldsNodes, AreListed}
use Rattle.sd_unique.specs.Relinking.{removed}
use Rattle.sd_unique.proofs.Changed.{set_which}
use Rattle.sd_unique.proofs.Cutting.{all_kept}
use Rattle.sd_unique.proofs.Entries.{slice_get_inside}
use Rattle.sd_unique.proofs.Filed.{both_same}
use Rattle.sd_unique.proofs.Leaving.{filed_nowhere, freed_first}
use Rattle.sd_unique.proofs.Moved.{stored_freed, untaken, nodes_removed, free_not_linked}
use Rattle.sd_unique.proofs.Numbered.{detached_is}
use Rattle.sd_unique.proofs.Standing.{unlisted, is_record, detached_chain}
use Rattle.sd_unique.proofs.Taken.{kept_arena, given_same, given_longer, given_bound}

module _ (arena : Arena) (rs : List Record) (n : ℕ) (r t : Record) (there : slice_get rs n ≡ Some r)
    (was : r.state ≡ Detached) (is : t.state ≡ Free) where
  -- what holds of the fields is kept, before the run is given back
  freed_kept : {chained : Bool} (links new : List Links) (heads places places' : List ℕ) (flags : List Bool)
      → t.next ≡ head_of heads 0 → length places' ≡ length places → length new ≡ length links
      → AreListed new places' (unfiled n (list_under rs))
      → AreRecordsStored arena (set rs n t)
      → HoldsNodes chained arena rs links heads places flags
      → HoldsNodes chained arena (set rs n t) new (set heads 0 n) places' flags
  freed_kept {chained} links new heads places places' flags next same_places same_links lists st k =
      record {
        stored = st;
        linked_all = λ some. same_links ∙ k.linked_all (omega (arith, some, same_places)) ∙ sym (length-set rs n t);
        flags_all = k.flags_all ∙ sym (length-set rs n t);
        at_least_one = omega (arith, k.at_least_one, length-set heads 0 n);
        places_all = λ some. same_places ∙ k.places_all (omega (arith, some, same_places));
        in_chains = subst (λ h. IsFiled (next_of (set rs n t)) no_record (head_of (heads_in chained (set heads 0 n)))
            (under_by (chain_in chained) arena (h - 1) (set rs n t))) (sym (length-set heads 0 n))
            (freed_first arena rs rs n r t (all_kept rs) there is chained (length heads - 1) heads
            (is_record n k.stored (slice_get_inside rs n r there)) (omega (arith, k.at_least_one)) next
            (filed_nowhere (next_of rs) (head_of (heads_in chained heads))
            (under_by (chain_in chained) arena (length heads - 1) rs) n
            (detached_chain arena rs n r there was chained (length heads - 1)) k.in_chains));
        in_lists = λ some. both_same _ _ _ _ no_record _ _ (unfiled n (list_under rs)) (list_under (set rs n t))
            (λ b i e. refl) (λ b i e. refl) (λ b. refl)
            (unlisted arena rs rs n r t (all_kept rs) there (ap (λ s. list_by s (bit_and t.place 2047)) is))
            (lists some);
        queued = λ i x e linked none. by_cases
            (λ h. absurd (free_not_linked t.state is (ap (λ (y : Record). y.state) h.1 ∙ linked)))
            (λ h. k.queued i x h.1 linked none)
            (set_which rs n r t there i x e);
      }

  module _ (new : Arena) (st : AreRecordsStored arena rs) (well : IsArena new) (gave : new
      ≡ given_back arena r.start r.length)
      (list : List (ℕ × ℕ)) (live : get arena.live r.start ≡ Some list) (size : length list ≡ r.length) where
    inside : n < length rs
    inside = slice_get_inside rs n r there

    -- and after that
    pub released_kept : {chained : Bool} (links more : List Links) (heads places places' : List ℕ) (flags : List Bool)
        → t.next ≡ head_of heads 0 → length places' ≡ length places → length more ≡ length links
        → AreListed more places' (unfiled n (list_under rs))
        → HoldsNodes chained arena rs links heads places flags
        → HoldsNodes chained new (set rs n t) more (set heads 0 n) places' flags
    released_kept links more heads places places' flags next same_places same_links lists k =
        let stored = stored_freed arena new rs n r t there inside was is st well gave list size in
        let apart = untaken arena new rs n r t there inside was is st well gave list size in
        kept_arena arena new (set rs n t) stored well
        (given_same arena new (set rs n t) stored well list r.start r.length gave size apart)
        (given_longer arena new (set rs n t) stored well list r.start r.length gave size apart)
        (given_bound arena new (set rs n t) stored well list r.start r.length gave size apart)
        more (set heads 0 n) places' flags
        (freed_kept links more heads places places' flags next same_places same_links lists stored k)

    pub nodes_released : (k : ℕ × List (ℕ × ℕ)) → get (nodes_of arena rs).detached n ≡ Some k
        → nodes_of new (set rs n t) ≡ removed (nodes_of arena rs) n k.1
    nodes_released k e =
        nodes_removed arena new rs n r t there inside was is st well gave list size
        ∙ ap (removed (nodes_of arena rs) n)
        (ap (λ o. unwrap_or o []) (sym live) ∙ ap (λ x. x.1) (detached_is arena rs n r k there e))
