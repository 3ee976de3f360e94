-- A linked record becomes a free one, as if it were unlinked and then removed.
use Rattle.std.proofs.Common.{Bool, ◌≡◌, ℕ, ◌-◌, ◌<◌, bit_and, List, [], length, slice_get, Some, unwrap_or}
use Rattle.std.proofs.Common.{refl, sym, ap, subst, ◌∙◌, arith}
use Rattle.std.proofs.Math.ListN.{set}
use Rattle.std.proofs.lemmas.List.{length-set}
use Rattle.std.specs.Option.{IsSome}
use Rattle.std.specs.FinMap.{get}
use Rattle.sd_runs.specs.Arena.{Arena, IsArena, live_length}
use Rattle.sd_runs.specs.Taking.{given_back}
use Rattle.sd_runs.proofs.Places.{by_cases}
use Rattle.sd_unique.specs.declared.record.Record.{Record}
use Rattle.sd_unique.specs.declared.record.Links.{Links}
use Rattle.sd_unique.specs.declared.record.RecordState.TheVariants.{Free, Linked, Detached}
use Rattle.sd_unique.specs.Filed.{IsFiled, unfiled}
use Rattle.sd_unique.specs.Record.{nodes_of, AreRecordsStored}
use Rattle.sd_unique.specs.Chains.{next_of, chain_in, list_by, under_by, list_under, heads_in, head_of}
use Rattle.sd_unique.specs.Chains.{no_record, HoldsNodes, KeepsRecords, AreListed}
use Rattle.sd_unique.specs.Relinking.{unlinked, removed}
use Rattle.sd_unique.proofs.Changed.{set_which}
use Rattle.sd_unique.proofs.Detached.{set_twice}
use Rattle.sd_unique.proofs.Detaching.{was_linked, nodes_detached}
use Rattle.sd_unique.proofs.Entries.{slice_get_inside, slice_get_set}
use Rattle.sd_unique.proofs.Filed.{both_same}
use Rattle.sd_unique.proofs.Leaving.{freed_first}
use Rattle.sd_unique.proofs.Loose.{IsUntaken}
use Rattle.sd_unique.proofs.Moved.{stored_unlinked, stored_freed, untaken, nodes_removed, free_not_linked}
use Rattle.sd_unique.proofs.Numbered.{linked_is}
use Rattle.sd_unique.proofs.Relinked.{nodes_kept, stored_kept}
use Rattle.sd_unique.proofs.Standing.{unlisted, is_record}
use Rattle.sd_unique.proofs.Taken.{linked_state, kept_arena, given_same, given_longer, given_bound}

-- the record as a detached one, in thought
abbrev between : Record → Record
between m =
    record {
      place = m.place;
      start = m.start;
      length = m.length;
      next = m.next;
      uses = m.uses;
      mark = m.mark;
      state = Detached;
    }

-- The chain and the lists were changed, then the record.
module _ (arena : Arena) (rs mid : List Record) (n : ℕ) (m : Record) (kept : KeepsRecords rs mid)
    (there : slice_get mid n ≡ Some m) where
  inside : n < length mid
  inside = slice_get_inside mid n m there

  pub still_linked : IsSome (get (nodes_of arena rs).linked n) → m.state ≡ Linked
  still_linked was =
      was_linked arena rs mid n m (between m) kept there refl refl refl refl refl refl was

  -- its run is that of the node
  pub run_live : IsSome (get (nodes_of arena rs).linked n) → AreRecordsStored arena rs
      → live_length arena m.start ≡ Some m.length
  run_live was st =
      (stored_kept rs mid kept arena st).live n m there (linked_state m.state (still_linked was))

-- What holds of the fields is kept.
module _ (arena : Arena) (rs mid : List Record) (n : ℕ) (m t : Record) (kept : KeepsRecords rs mid)
    (there : slice_get mid n ≡ Some m) (is : t.state ≡ Free) where
  within : n < length mid
  within = slice_get_inside mid n m there

  -- before the run is given back
  cleared_kept : {chained : Bool} (links more : List Links) (heads heads' places places' : List ℕ) (flags : List Bool)
      → t.next ≡ head_of heads' 0 → length heads' ≡ length heads → length places' ≡ length places
      → length more ≡ length links
      → IsFiled (next_of mid) no_record (head_of (heads_in chained heads'))
      (unfiled n (under_by (chain_in chained) arena (length heads - 1) rs))
      → AreListed more places' (unfiled n (list_under rs))
      → AreRecordsStored arena (set mid n t)
      → HoldsNodes chained arena rs links heads places flags
      → HoldsNodes chained arena (set mid n t) more (set heads' 0 n) places' flags
  cleared_kept {chained} links more heads heads' places places' flags next same_heads same_places same_links chains
      lists st k =
      record {
        stored = st;
        linked_all = λ some. same_links ∙ k.linked_all (omega (arith, some, same_places)) ∙ sym kept.size
            ∙ sym (length-set mid n t);
        flags_all = k.flags_all ∙ sym kept.size ∙ sym (length-set mid n t);
        at_least_one = omega (arith, k.at_least_one, same_heads, length-set heads' 0 n);
        places_all = λ some. same_places ∙ k.places_all (omega (arith, some, same_places));
        in_chains = subst (λ h. IsFiled (next_of (set mid n t)) no_record (head_of (heads_in chained (set heads' 0 n)))
            (under_by (chain_in chained) arena (h - 1) (set mid n t))) (sym (length-set heads' 0 n ∙ same_heads))
            (freed_first arena rs mid n m t kept there is chained (length heads - 1) heads'
            (is_record n k.stored (omega (arith, within, kept.size)))
            (omega (arith, k.at_least_one, same_heads)) next chains);
        in_lists = λ some. both_same _ _ _ _ no_record _ _ (unfiled n (list_under rs)) (list_under (set mid n t))
            (λ b i e. refl) (λ b i e. refl) (λ b. refl)
            (unlisted arena rs mid n m t kept there (ap (λ s. list_by s (bit_and t.place 2047)) is)) (lists some);
        queued = λ i x e linked none. by_cases
            (λ h. absurd (free_not_linked t.state is (ap (λ (y : Record). y.state) h.1 ∙ linked)))
            (λ h. let w = kept.was i x h.1 in
            k.queued i w.0 w.1 (sym w.7 ∙ linked) (sym w.5 ∙ none))
            (set_which mid n m t there i x e);
      }

  module _ (new : Arena) (st : AreRecordsStored arena rs) (was : IsSome (get (nodes_of arena rs).linked n))
      (well : IsArena new) (gave : new ≡ given_back arena m.start m.length) (list : List (ℕ × ℕ))
      (live : get arena.live m.start ≡ Some list) (size : length list ≡ m.length) where
    stored_between : AreRecordsStored arena (set mid n (between m))
    stored_between =
        stored_unlinked arena mid n m (between m) there within refl refl refl refl refl
        (still_linked arena rs mid n m kept there was) refl
        (stored_kept rs mid kept arena st)

    here : slice_get (set mid n (between m)) n ≡ Some (between m)
    here = slice_get_set mid n (between m) within

    still_inside : n < length (set mid n (between m))
    still_inside = omega (arith, within, length-set mid n (between m))

    stored_cleared : AreRecordsStored arena (set mid n t)
    stored_cleared =
        subst (AreRecordsStored arena) (set_twice mid n (between m) t)
        (stored_freed arena new (set mid n (between m)) n (between m) t here still_inside refl is stored_between
        well gave list
        size)

    -- and after that
    pub retired_kept : {chained : Bool} (links more : List Links) (heads heads' places places' : List ℕ)
        (flags : List Bool)
        → t.next ≡ head_of heads' 0 → length heads' ≡ length heads → length places' ≡ length places
        → length more ≡ length links
        → IsFiled (next_of mid) no_record (head_of (heads_in chained heads'))
        (unfiled n (under_by (chain_in chained) arena (length heads - 1) rs))
        → AreListed more places' (unfiled n (list_under rs))
        → HoldsNodes chained arena rs links heads places flags
        → HoldsNodes chained new (set mid n t) more (set heads' 0 n) places' flags
    retired_kept links more heads heads' places places' flags next same_heads same_places same_links chains lists
        k =
        let apart = subst (λ l. IsUntaken l m.start) (set_twice mid n (between m) t)
        (untaken arena new (set mid n (between m)) n (between m) t here still_inside refl is stored_between well
        gave list size)
        in
        kept_arena arena new (set mid n t) stored_cleared well
        (given_same arena new (set mid n t) stored_cleared well list m.start m.length gave size apart)
        (given_longer arena new (set mid n t) stored_cleared well list m.start m.length gave size apart)
        (given_bound arena new (set mid n t) stored_cleared well list m.start m.length gave size apart)
        more (set heads' 0 n) places' flags
        (cleared_kept links more heads heads' places places' flags next same_heads same_places same_links chains lists
        stored_cleared k)

    -- the nodes are those of the two steps
    pub nodes_retired : (k : ℕ × List (ℕ × ℕ)) → get (nodes_of arena rs).linked n ≡ Some k
        → nodes_of new (set mid n t) ≡ removed (unlinked (nodes_of arena rs) n k) n k.1
    nodes_retired k e =
        sym (ap (nodes_of new) (set_twice mid n (between m) t))
        ∙ nodes_removed arena new (set mid n (between m)) n (between m) t here still_inside refl is stored_between
        well gave
        list size
        ∙ ap (λ a. removed a n list)
        (nodes_detached arena rs mid n m (between m) kept there refl refl refl refl refl refl k e)
        ∙ ap (removed (unlinked (nodes_of arena rs) n k) n)
        (ap (λ o. unwrap_or o []) (sym live)
        ∙ ap (λ x. x.1) (linked_is arena mid n m k there (ap (λ a. get a.linked n) (nodes_kept rs mid kept arena) ∙ e)))

-- a record that was put at a number stands there, and so has its state
pub state_set : (rs : List Record) (n : ℕ) (t r : Record) → n < length rs → t.state ≡ Free
    → slice_get (set rs n t) n ≡ Some r → r.state ≡ Free
state_set rs n t r inside is e =
    let same : Some t ≡ Some r = sym (slice_get_set rs n t inside) ∙ e in
    let is_t : r ≡ t = cc in
    ap (λ (x : Record). x.state) is_t ∙ is
