-- A node is unlinked, linked again or removed, and a free record becomes that of a new node: what holds of the records
-- then, and the nodes that they stand for.
use Rattle.std.proofs.Common.{◌≡◌, ◌⊎◌, inl, inr, ℕ, ◌+◌, ◌<◌, List, [], length, slice_get, Some, unwrap_or}
use Rattle.std.proofs.Common.{sym, ap, subst, ◌∙◌}
use Rattle.std.proofs.Math.ListN.{set}
use Rattle.std.proofs.lemmas.List.{length-set}
use Rattle.std.specs.Option.{option_and_then}
use Rattle.std.specs.FinMap.{get, remove}
use Rattle.sd_runs.specs.Arena.{Arena, IsArena, live_length}
use Rattle.sd_runs.specs.Taking.{given_back}
use Rattle.sd_runs.proofs.Places.{by_cases}
use Rattle.sd_unique.specs.declared.record.Record.{Record}
use Rattle.sd_unique.specs.declared.record.RecordState.{RecordState}
use Rattle.sd_unique.specs.declared.record.RecordState.TheVariants.{Free, Linked, Detached}
use Rattle.sd_unique.specs.Inserting.{with_count}
use Rattle.sd_unique.specs.Relinking.{unlinked, relinked, removed, IsAbsent}
use Rattle.sd_unique.specs.Record.{if_linked, if_detached, if_node, IsNode, without_run, key_of, linked_key}
use Rattle.sd_unique.specs.Record.{detached_key, uses_of_record, mark_of_record, loose_of, counts_of}
use Rattle.sd_unique.specs.Record.{nodes_of, AreRecordsStored}
use Rattle.sd_unique.proofs.Changed.{set_which, stored_set}
use Rattle.sd_unique.proofs.Counts.{count_is}
use Rattle.sd_unique.proofs.Loose.{IsUntaken, loose_same, loose_split, loose_given}
use Rattle.sd_unique.proofs.Numbered.{linked_at}
use Rattle.sd_unique.proofs.Picked.{picked_set, picked_unset, picked_same}
use Rattle.sd_unique.proofs.Taken.{linked_arena, detached_arena, stored_arena, given_same, given_longer, given_bound}
use Rattle.sd_unique.proofs.Taken.{free_given}

state_node : (s : RecordState) → (s ≡ Linked) ⊎ (s ≡ Detached) → IsNode s
state_node s h = by_cases (λ e. subst IsNode (sym e) tt) (λ e. subst IsNode (sym e) tt) h

pub not_both : (s : RecordState) → s ≡ Detached → s ≡ Linked → ⊥
not_both s d l = let e : Detached ≡ Linked = sym d ∙ l in cc

-- a record that is free is that of no node
pub not_free : (s : RecordState) → s ≡ Free → IsNode s → ⊥
not_free s f node = subst IsNode f node

pub free_not_linked : (s : RecordState) → s ≡ Free → s ≡ Linked → ⊥
free_not_linked s f l = let e : Free ≡ Linked = sym f ∙ l in cc

module _ (arena : Arena) (rs : List Record) (n : ℕ) (r t : Record) (there : slice_get rs n ≡ Some r)
    (inside : n < length rs) (place : t.place ≡ r.place) (start : t.start ≡ r.start) (size : t.length ≡ r.length)
    (uses : t.uses ≡ r.uses) (mark : t.mark ≡ r.mark) where
  key_same : key_of arena t ≡ key_of arena r
  key_same i = (place i, unwrap_or (get arena.live (start i)) [])

  module _ (was : r.state ≡ Linked) (is : t.state ≡ Detached) where
    -- what holds of the records is kept when a node is unlinked
    pub stored_unlinked : AreRecordsStored arena rs → AreRecordsStored arena (set rs n t)
    stored_unlinked st =
        let node = state_node r.state (inl was) in
        stored_set arena rs n r t there
        (λ k. ap (live_length arena) start ∙ st.live n r there node ∙ ap Some (sym size))
        (λ i x ne e nx nt same. ne (st.apart i n x r e there nx node (same ∙ start)))
        (λ i x ne e nx nt same. not_both t.state is nt) st

    pub nodes_unlinked : nodes_of arena (set rs n t) ≡ unlinked (nodes_of arena rs) n (key_of arena r)
    nodes_unlinked i =
        record {
          linked = picked_unset (λ (x : Record). linked_key arena x) rs n t inside
              (ap (λ s. if_linked s (key_of arena t)) is) i;
          detached = picked_set (λ (x : Record). detached_key arena x) rs n t (key_of arena r) inside
              (ap (λ s. if_detached s (key_of arena t)) is ∙ ap Some key_same) i;
          loose = loose_same arena.live rs n r t there
              (λ m. ap (λ s. without_run s t.start m) is ∙ ap (remove m) start
              ∙ sym (ap (λ s. without_run s r.start m) was)) i;
          uses = picked_same (λ (x : Record). uses_of_record x) rs n t r there inside
              (ap (λ s. if_node s t.uses) is ∙ ap Some uses ∙ sym (ap (λ s. if_node s r.uses) was)) i;
          marks = picked_same (λ (x : Record). mark_of_record x) rs n t r there inside
              (ap (λ s. if_node s t.mark) is ∙ ap Some mark ∙ sym (ap (λ s. if_node s r.mark) was)) i;
          free = counts_of arena.free;
          records = length-set rs n t i;
          extent = arena.extent;
          bound = arena.bound;
        }

  module _ (was : r.state ≡ Detached) (is : t.state ≡ Linked) where
    -- a detached node whose key no linked node has is linked again
    pub stored_relinked : IsAbsent (nodes_of arena rs) (key_of arena r) → AreRecordsStored arena rs
        → AreRecordsStored arena (set rs n t)
    stored_relinked absent st =
        let node = state_node r.state (inr was) in
        stored_set arena rs n r t there
        (λ k. ap (live_length arena) start ∙ st.live n r there node ∙ ap Some (sym size))
        (λ i x ne e nx nt same. ne (st.apart i n x r e there nx node (same ∙ start)))
        (λ i x ne e nx nt same. absent i
        (linked_at arena rs i ∙ ap (option_and_then (λ r. linked_key arena r)) e
        ∙ ap (λ s. if_linked s (key_of arena x)) nx ∙ ap Some (same ∙ key_same)))
        st

    pub nodes_relinked : nodes_of arena (set rs n t) ≡ relinked (nodes_of arena rs) n (key_of arena r)
    nodes_relinked i =
        record {
          linked = picked_set (λ (x : Record). linked_key arena x) rs n t (key_of arena r) inside
              (ap (λ s. if_linked s (key_of arena t)) is ∙ ap Some key_same) i;
          detached = picked_unset (λ (x : Record). detached_key arena x) rs n t inside
              (ap (λ s. if_detached s (key_of arena t)) is) i;
          loose = loose_same arena.live rs n r t there
              (λ m. ap (λ s. without_run s t.start m) is ∙ ap (remove m) start
              ∙ sym (ap (λ s. without_run s r.start m) was)) i;
          uses = picked_same (λ (x : Record). uses_of_record x) rs n t r there inside
              (ap (λ s. if_node s t.uses) is ∙ ap Some uses ∙ sym (ap (λ s. if_node s r.uses) was)) i;
          marks = picked_same (λ (x : Record). mark_of_record x) rs n t r there inside
              (ap (λ s. if_node s t.mark) is ∙ ap Some mark ∙ sym (ap (λ s. if_node s r.mark) was)) i;
          free = counts_of arena.free;
          records = length-set rs n t i;
          extent = arena.extent;
          bound = arena.bound;
        }

-- a detached node is removed: its record becomes free, then its run is given back
module _ (arena new : Arena) (rs : List Record) (n : ℕ) (r t : Record) (there : slice_get rs n ≡ Some r)
    (inside : n < length rs) (was : r.state ≡ Detached) (is : t.state ≡ Free) (st : AreRecordsStored arena rs)
    (well : IsArena new) (gave : new ≡ given_back arena r.start r.length) (list : List (ℕ × ℕ))
    (size : length list ≡ r.length) where
  pub stored_freed : AreRecordsStored arena (set rs n t)
  stored_freed =
      stored_set arena rs n r t there (λ k. absurd (not_free t.state is k))
      (λ i x ne e nx nt same. not_free t.state is nt) (λ i x ne e nx nt same. free_not_linked t.state is nt) st

  -- the run that was the node's is that of no node
  pub untaken : IsUntaken (set rs n t) r.start
  untaken i x e nx same =
      by_cases
      (λ h. not_free t.state is (subst (λ z. IsNode z.state) (sym h.1) nx))
      (λ h. h.0 (st.apart i n x r h.1 there nx (state_node r.state (inr was)) (sym same)))
      (set_which rs n r t there i x e)

  pub stored_removed : AreRecordsStored new (set rs n t)
  stored_removed =
      stored_arena arena new (set rs n t) stored_freed well
      (given_same arena new (set rs n t) stored_freed well list r.start r.length gave size untaken)
      (given_longer arena new (set rs n t) stored_freed well list r.start r.length gave size untaken)
      (given_bound arena new (set rs n t) stored_freed well list r.start r.length gave size untaken)

  pub nodes_removed : nodes_of new (set rs n t) ≡ removed (nodes_of arena rs) n list
  nodes_removed i =
      record {
        linked = (linked_arena arena new (set rs n t) stored_freed well
            (given_same arena new (set rs n t) stored_freed well list r.start r.length gave size untaken)
            (given_longer arena new (set rs n t) stored_freed well list r.start r.length gave size untaken)
            (given_bound arena new (set rs n t) stored_freed well list r.start r.length gave size untaken)
            ∙ picked_same (λ (x : Record). linked_key arena x) rs n t r there inside
            (ap (λ s. if_linked s (key_of arena t)) is ∙ sym (ap (λ s. if_linked s (key_of arena r)) was))) i;
        detached = (detached_arena arena new (set rs n t) stored_freed well
            (given_same arena new (set rs n t) stored_freed well list r.start r.length gave size untaken)
            (given_longer arena new (set rs n t) stored_freed well list r.start r.length gave size untaken)
            (given_bound arena new (set rs n t) stored_freed well list r.start r.length gave size untaken)
            ∙ picked_unset (λ (x : Record). detached_key arena x) rs n t inside
            (ap (λ s. if_detached s (key_of arena t)) is)) i;
        loose = (ap (λ a. loose_of a.live (set rs n t)) gave ∙ loose_given arena.live (set rs n t) r.start
            ∙ sym (loose_split arena.live rs n r t there (state_node r.state (inr was)) is)) i;
        uses = picked_unset (λ (x : Record). uses_of_record x) rs n t inside (ap (λ s. if_node s t.uses) is) i;
        marks = picked_unset (λ (x : Record). mark_of_record x) rs n t inside (ap (λ s. if_node s t.mark) is) i;
        free = (free_given arena new (set rs n t) stored_freed well list r.start r.length gave size untaken
            ∙ ap (λ k. with_count (counts_of arena.free) (length list) (k + 1))
            (sym (count_is arena rs (length list)))) i;
        records = length-set rs n t i;
        extent = ap (λ a. a.extent) gave i;
        bound = ap (λ a. a.bound) gave i;
      }
