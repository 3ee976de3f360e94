-- A linked record becomes a detached one.
use Rattle.std.proofs.Common.{Bool, ◌≡◌, ℕ, ◌-◌, bit_and, List, length, slice_get, Some}
use Rattle.std.proofs.Common.{refl, sym, ap}
use Rattle.std.proofs.Common.{subst, ◌∙◌, arith}
use Rattle.std.proofs.Math.ListN.{set}
use Rattle.std.proofs.lemmas.List.{length-set}
use Rattle.std.specs.Option.{IsSome}
use Rattle.std.specs.FinMap.{get}
use Rattle.sd_runs.specs.Arena.{Arena}
use Rattle.sd_runs.proofs.Places.{by_cases}
use Rattle.sd_unique.specs.declared.record.Record.{Record}
use Rattle.sd_unique.specs.declared.record.Links.{Links}
use Rattle.sd_unique.specs.declared.record.RecordState.TheVariants.{Linked, Detached}
use Rattle.sd_unique.specs.Filed.{IsFiled, unfiled, filed_at}
use Rattle.sd_unique.specs.Record.{key_of, nodes_of}
use Rattle.sd_unique.specs.Chains.{next_of, chain_in, list_by, under_by, list_under, bucket_of, heads_in, head_of}
use Rattle.sd_unique.specs.Chains.{no_record, HoldsNodes, KeepsRecords, AreListed}
use Rattle.sd_unique.specs.Relinking.{unlinked}
use Rattle.sd_unique.proofs.Changed.{set_which}
use Rattle.sd_unique.proofs.Entries.{slice_get_inside}
use Rattle.sd_unique.proofs.Filed.{filed_same, both_same}
use Rattle.sd_unique.proofs.Moved.{stored_unlinked, nodes_unlinked, not_both}
use Rattle.sd_unique.proofs.Numbered.{linked_there, linked_is}
use Rattle.sd_unique.proofs.Relinked.{nodes_kept, stored_kept}
use Rattle.sd_unique.proofs.Reading.{link_same}
use Rattle.sd_unique.proofs.FirstChain.{detached_in}
use Rattle.sd_unique.proofs.Standing.{unchained, listed_at}

-- The chain and the lists were changed, then the state: what holds of the fields is kept, and the node is detached.
module _ (arena : Arena) (rs mid : List Record) (n : ℕ) (m t : Record) (kept : KeepsRecords rs mid)
    (there : slice_get mid n ≡ Some m) (place : t.place ≡ m.place) (start : t.start ≡ m.start)
    (size : t.length ≡ m.length) (uses : t.uses ≡ m.uses) (mark : t.mark ≡ m.mark) (is : t.state ≡ Detached) where
  pub was_linked : IsSome (get (nodes_of arena rs).linked n) → m.state ≡ Linked
  was_linked h =
      let w = kept.was n m there in
      let r = linked_there arena rs n h in
      let same : Some r.0 ≡ Some w.0 = sym r.1 ∙ w.1 in
      let is : r.0 ≡ w.0 = cc in
      w.7 ∙ subst (λ (x : Record). x.state ≡ Linked) is r.2

  pub detached_kept : {chained : Bool} (links new : List Links) (heads heads' places places' : List ℕ)
      (flags : List Bool)
      → IsSome (get (nodes_of arena rs).linked n) → t.next ≡ m.next → length heads' ≡ length heads
      → length places' ≡ length places → length new ≡ length links
      → IsFiled (next_of mid) no_record (head_of (heads_in chained heads'))
      (unfiled n (under_by (chain_in chained) arena (length heads - 1) rs))
      → AreListed new places' (filed_at n 0 (unfiled n (list_under rs)))
      → HoldsNodes chained arena rs links heads places flags
      → HoldsNodes chained arena (set mid n t) new heads' places' flags
  detached_kept {chained} links new heads heads' places places' flags was next same_heads same_places same_links chains
      lists k =
      record {
        stored = stored_unlinked arena mid n m t there (slice_get_inside mid n m there) place start size uses mark
            (was_linked was) is (stored_kept rs mid kept arena k.stored);
        linked_all = λ some. same_links ∙ k.linked_all (omega (arith, some, same_places)) ∙ sym kept.size
            ∙ sym (length-set mid n t);
        flags_all = k.flags_all ∙ sym kept.size ∙ sym (length-set mid n t);
        at_least_one = omega (arith, k.at_least_one, same_heads);
        places_all = λ some. same_places ∙ k.places_all (omega (arith, some, same_places));
        in_chains = filed_same (next_of mid) (next_of (set mid n t)) no_record (head_of (heads_in chained heads'))
            (head_of (heads_in chained heads')) (unfiled n (under_by (chain_in chained) arena (length heads - 1) rs))
            (under_by (chain_in chained) arena (length heads' - 1) (set mid n t))
            (λ b i e. link_same (λ (x : Record). x.next) mid n t m there next i) (λ b. refl)
            (λ i. ap (λ h. under_by (chain_in chained) arena (h - 1) (set mid n t) i) same_heads
            ∙ unchained arena rs mid n m t kept there (chain_in chained) (length heads - 1)
            (ap (λ s. chain_in chained s (bucket_of (key_of arena t) (length heads - 1))) is
            ∙ detached_in chained (bucket_of (key_of arena t) (length heads - 1))) i) chains;
        in_lists = λ some. both_same _ _ _ _ no_record _ _ (filed_at n 0 (unfiled n (list_under rs)))
            (list_under (set mid n t)) (λ b i e. refl) (λ b i e. refl) (λ b. refl)
            (listed_at arena rs mid n m t kept there 0 (ap (λ s. list_by s (bit_and t.place 2047)) is)) (lists some);
        queued = λ i x e linked none. by_cases
            (λ h. absurd (not_both t.state is (ap (λ y. y.state) h.1 ∙ linked)))
            (λ h. let w = kept.was i x h.1 in
            k.queued i w.0 w.1 (sym w.7 ∙ linked) (sym w.5 ∙ none))
            (set_which mid n m t there i x e);
      }

  pub nodes_detached : (k : ℕ × List (ℕ × ℕ)) → get (nodes_of arena rs).linked n ≡ Some k
      → nodes_of arena (set mid n t) ≡ unlinked (nodes_of arena rs) n k
  nodes_detached k e =
      nodes_unlinked arena mid n m t there (slice_get_inside mid n m there) place start size uses mark
      (was_linked (subst IsSome (sym e) refl)) is
      ∙ ap (unlinked (nodes_of arena mid) n) (linked_is arena mid n m k there
      (ap (λ a. get a.linked n) (nodes_kept rs mid kept arena) ∙ e))
      ∙ ap (λ a. unlinked a n k) (nodes_kept rs mid kept arena)
