-- Records that differ in the links of their chains alone stand for the same nodes.
use Rattle.std.proofs.Common.{◌≡◌, ℕ, suc, bit_and, List, [], ◌∷◌, slice_get, Option, Some, None}
use Rattle.std.proofs.Common.{unwrap_or, refl, sym, ap, subst, ◌∙◌, arith}
use Rattle.std.specs.Option.{option_and_then}
use Rattle.std.specs.FinMap.{get}
use Rattle.sd_runs.specs.Arena.{Arena, live_length}
use Rattle.sd_runs.proofs.Maps.{same_at_each}
use Rattle.sd_unique.specs.declared.record.Record.{Record}
use Rattle.sd_unique.specs.declared.record.RecordState.{RecordState}
use Rattle.sd_unique.specs.Record.{if_linked, if_detached, if_node, IsNode, without_run, key_of, linked_key}
use Rattle.sd_unique.specs.Record.{detached_key, uses_of_record, mark_of_record, loose_of, counts_of, picked_map}
use Rattle.sd_unique.specs.Record.{nodes_of, AreRecordsStored}
use Rattle.sd_unique.specs.Chains.{list_by, under_by, list_under, bucket_of, KeepsRecords}
use Rattle.sd_unique.proofs.Entries.{slice_get_at, slice_get_inside}
use Rattle.sd_unique.proofs.Filed.{none_is}
use Rattle.sd_unique.proofs.Loose.{Map}
use Rattle.sd_unique.proofs.Picked.{get_picked}
use Rattle.sd_unique.proofs.Reading.{none_or}

-- the loose runs are the same
loose_kept : (live : Map) (rs ts : List Record) → KeepsRecords rs ts → loose_of live ts ≡ loose_of live rs
loose_kept live [] [] k = refl
loose_kept live [] (t ∷ ts) k = absurd (omega (arith, k.size))
loose_kept live (r ∷ rs) [] k = absurd (omega (arith, k.size))
loose_kept live (r ∷ rs) (t ∷ ts) k =
    let w = k.was 0 t refl in
    let same : r ≡ w.0 = cc in
    let rest = loose_kept live rs ts (record { size = omega (arith, k.size); was = λ i. k.was (suc i) }) in
    ap (without_run t.state t.start) rest
    ∙ (λ j. without_run ((w.7 ∙ ap (λ (x : Record). x.state) (sym same)) j)
    ((w.3 ∙ ap (λ (x : Record). x.start) (sym same)) j) (loose_of live rs))

module _ (rs ts : List Record) (k : KeepsRecords rs ts) where
  none_before : (i : ℕ) → slice_get ts i ≡ None → slice_get rs i ≡ None
  none_before i e =
      none_or (slice_get rs i) (λ r there.
      none_is e (slice_get_at ts i r (omega (arith, slice_get_inside rs i r there, k.size))))

  -- what is read of all but the link is the same
  pub read_kept : {Y : Type 0} (f : Record → Option Y)
      → ((r t : Record) → t.place ≡ r.place → t.start ≡ r.start → t.uses ≡ r.uses → t.mark ≡ r.mark
      → t.state ≡ r.state → f t ≡ f r) → (i : ℕ)
      → option_and_then f (slice_get ts i) ≡ option_and_then f (slice_get rs i)
  read_kept f same i = at_each (slice_get ts i) refl
    where
      at_each : (o : Option Record) → slice_get ts i ≡ o
          → option_and_then f (slice_get ts i) ≡ option_and_then f (slice_get rs i)
      at_each None e = ap (option_and_then f) (e ∙ sym (none_before i e))
      at_each (Some t) e =
          let w = k.was i t e in
          ap (option_and_then f) e ∙ same w.0 t w.2 w.3 w.5 w.6 w.7 ∙ sym (ap (option_and_then f) w.1)

  pub chain_kept : (by : RecordState → ℕ → Option ℕ) (arena : Arena) (count i : ℕ)
      → under_by by arena count ts i ≡ under_by by arena count rs i
  chain_kept by arena count i =
      read_kept (λ (x : Record). by x.state (bucket_of (key_of arena x) count))
      (λ r t place start uses mark state j. by (state j)
      (bucket_of (place j, unwrap_or (get arena.live (start j)) []) count)) i

  pub list_kept : (i : ℕ) → list_under ts i ≡ list_under rs i
  list_kept i =
      read_kept (λ (x : Record). list_by x.state (bit_and x.place 2047))
      (λ r t place start uses mark state j. list_by (state j) (bit_and (place j) 2047)) i

  picked_kept : {Y : Type 0} (f : Record → Option Y)
      → ((r t : Record) → t.place ≡ r.place → t.start ≡ r.start → t.uses ≡ r.uses → t.mark ≡ r.mark
      → t.state ≡ r.state → f t ≡ f r)
      → picked_map f ts ≡ picked_map f rs
  picked_kept f same =
      same_at_each _ _ (λ q. get_picked f ts q ∙ read_kept f same q ∙ sym (get_picked f rs q))

  -- the records stand for the same nodes
  pub nodes_kept : (arena : Arena) → nodes_of arena ts ≡ nodes_of arena rs
  nodes_kept arena i =
      record {
        linked = picked_kept (λ (x : Record). linked_key arena x) (λ r t place start uses mark state j.
            if_linked (state j) (place j, unwrap_or (get arena.live (start j)) [])) i;
        detached = picked_kept (λ (x : Record). detached_key arena x) (λ r t place start uses mark state j.
            if_detached (state j) (place j, unwrap_or (get arena.live (start j)) [])) i;
        loose = loose_kept arena.live rs ts k i;
        uses = picked_kept (λ (x : Record). uses_of_record x) (λ r t place start uses mark state j.
            if_node (state j) (uses j)) i;
        marks = picked_kept (λ (x : Record). mark_of_record x) (λ r t place start uses mark state j.
            if_node (state j) (mark j)) i;
        free = counts_of arena.free;
        records = k.size i;
        extent = arena.extent;
        bound = arena.bound;
      }

  -- and what holds of them is kept
  pub stored_kept : (arena : Arena) → AreRecordsStored arena rs → AreRecordsStored arena ts
  stored_kept arena st =
      record {
        well = st.well;
        live = λ i t e node.
            let w = k.was i t e in
            ap (live_length arena) w.3 ∙ st.live i w.0 w.1 (subst IsNode w.7 node) ∙ ap Some (sym w.4);
        apart = λ i j x y p q nx ny same.
            let v = k.was i x p in
            let w = k.was j y q in
            st.apart i j v.0 w.0 v.1 w.1 (subst IsNode v.7 nx) (subst IsNode w.7 ny) (sym v.3 ∙ same ∙ w.3);
        unique = λ i j x y p q nx ny same.
            let v = k.was i x p in
            let w = k.was j y q in
            st.unique i j v.0 w.0 v.1 w.1 (sym v.7 ∙ nx) (sym w.7 ∙ ny)
            (sym (key_kept x v.0 v.2 v.3) ∙ same ∙ key_kept y w.0 w.2 w.3);
        within_limit = omega (arith, st.within_limit, k.size);
        bound_fits = st.bound_fits;
      }
    where
      key_kept : (t r : Record) → t.place ≡ r.place → t.start ≡ r.start → key_of arena t ≡ key_of arena r
      key_kept t r place start j = (place j, unwrap_or (get arena.live (start j)) [])
