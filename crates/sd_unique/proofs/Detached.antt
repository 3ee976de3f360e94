-- A detached record gets another place or another run.
use Rattle.std.proofs.Common.{◌≡◌, ◌-◌, bit_and, Bool, ℕ, zero, suc, ◌<◌, List, [], ◌∷◌, length, get_or}
use Rattle.std.proofs.Common.{slice_get, Some, unwrap_or, refl, sym, ap, subst, ◌∙◌}
use Rattle.std.proofs.Math.ListN.{set}
use Rattle.std.proofs.lemmas.List.{length-set}
use Rattle.std.specs.FinMap.{get, insert, remove}
use Rattle.sd_runs.specs.Arena.{Arena, live_length}
use Rattle.sd_runs.proofs.Maps.{get_remove_other}
use Rattle.sd_runs.proofs.Places.{by_cases}
use Rattle.sd_unique.specs.declared.record.Record.{Record}
use Rattle.sd_unique.specs.declared.record.Links.{Links}
use Rattle.sd_unique.specs.declared.record.RecordState.{RecordState}
use Rattle.sd_unique.specs.declared.record.RecordState.TheVariants.{Free, Detached}
use Rattle.sd_unique.specs.Relinking.{with_key, exchanged}
use Rattle.sd_unique.specs.Record.{if_linked, if_detached, if_node, IsNode, without_run, key_of, linked_key}
use Rattle.sd_unique.specs.Record.{detached_key, uses_of_record, mark_of_record, loose_of, counts_of}
use Rattle.sd_unique.specs.Record.{nodes_of, AreRecordsStored}
use Rattle.sd_unique.specs.Chains.{chain_in, list_by, under_by, list_under}
use Rattle.sd_unique.specs.Chains.{bucket_of, no_record, HoldsNodes}
use Rattle.sd_unique.proofs.Changed.{links_kept, set_which, read_same, stored_set}
use Rattle.sd_unique.proofs.Entries.{slice_get_set}
use Rattle.sd_unique.proofs.Filed.{filed_same, both_same}
use Rattle.sd_unique.proofs.FirstChain.{detached_in}
use Rattle.sd_unique.proofs.Loose.{Map, removes, insert_removed, loose_same, loose_split, loose_there}
use Rattle.sd_unique.proofs.Loose.{loose_untaken, loose_live}
use Rattle.sd_unique.proofs.Moved.{not_both}
use Rattle.sd_unique.proofs.Picked.{picked_set, picked_same}

pub detached_node : (s : RecordState) → s ≡ Detached → IsNode s
detached_node s e = subst IsNode (sym e) tt

pub set_twice : {X : Type 0} (xs : List X) (n : ℕ) (x y : X) → set (set xs n x) n y ≡ set xs n y
set_twice [] n x y = refl
set_twice (z ∷ xs) zero x y = refl
set_twice (z ∷ xs) (suc n) x y = ap (λ l. z ∷ l) (set_twice xs n x y)

-- the record, free
abbrev pub freed : Record → Record
freed r =
    record {
      place = r.place;
      start = r.start;
      length = r.length;
      next = r.next;
      uses = r.uses;
      mark = r.mark;
      state = Free;
    }

-- without the record of a node its run is loose
pub loose_freed : (arena : Arena) (rs : List Record) (n : ℕ) (r : Record) → AreRecordsStored arena rs
    → slice_get rs n ≡ Some r
    → IsNode r.state → get (loose_of arena.live (set rs n (freed r))) r.start ≡ get arena.live r.start
loose_freed arena rs n r st there node =
    loose_there arena.live (set rs n (freed r)) r.start
    (λ i x e nx same. by_cases
    (λ h. subst (λ z. IsNode z.state) (sym h.1) nx)
    (λ h. h.0 (st.apart i n x r h.1 there nx node (sym same)))
    (set_which rs n r (freed r) there i x e))

-- the loose runs after the run of a node was exchanged
pub loose_exchanged : (live : Map) (rs : List Record) (n : ℕ) (r t : Record) (l : List (ℕ × ℕ)) → n < length rs
    → slice_get rs n ≡ Some r → IsNode r.state → IsNode t.state → ¬ (r.start ≡ t.start)
    → get (loose_of live (set rs n (freed r))) r.start ≡ Some l
    → loose_of live (set rs n t) ≡ insert (remove (loose_of live rs) t.start) r.start l
loose_exchanged live rs n r t l inside there node new differ had =
    loose_split live (set rs n t) n t (freed r) (slice_get_set rs n t inside) new refl
    ∙ ap (λ ts. remove (loose_of live ts) t.start) (set_twice rs n t (freed r))
    ∙ sym (insert_removed (remove (loose_of live (set rs n (freed r))) t.start) r.start l
    (get_remove_other (loose_of live (set rs n (freed r))) t.start r.start differ ∙ had))
    ∙ ap (λ m. insert m r.start l) (removes (loose_of live (set rs n (freed r))) t.start r.start)
    ∙ ap (λ m. insert (remove m t.start) r.start l) (sym (loose_split live rs n r (freed r) there node refl))

module _ (arena : Arena) (rs : List Record) (n : ℕ) (r t : Record) (there : slice_get rs n ≡ Some r)
    (inside : n < length rs) (was : r.state ≡ Detached) (is : t.state ≡ Detached) where
  chain_kept : (chained : Bool) (count i : ℕ)
      → under_by (chain_in chained) arena count (set rs n t) i ≡ under_by (chain_in chained) arena count rs i
  chain_kept chained count i =
      read_same rs n r t there (λ (x : Record). chain_in chained x.state (bucket_of (key_of arena x) count))
      (ap (λ s. chain_in chained s (bucket_of (key_of arena t) count)) is
      ∙ detached_in chained (bucket_of (key_of arena t) count)
      ∙ sym (ap (λ s. chain_in chained s (bucket_of (key_of arena r) count)) was
      ∙ detached_in chained (bucket_of (key_of arena r) count))) i

  list_kept : (i : ℕ) → list_under (set rs n t) i ≡ list_under rs i
  list_kept i =
      read_same rs n r t there (λ (x : Record). list_by x.state (bit_and x.place 2047))
      (ap (λ s. list_by s (bit_and t.place 2047)) is ∙ sym (ap (λ s. list_by s (bit_and r.place 2047)) was)) i

  pub stored_detached : live_length arena t.start ≡ Some t.length
      → ((i : ℕ) (x : Record) → ¬ (i ≡ n) → slice_get rs i ≡ Some x → IsNode x.state → ¬ (x.start ≡ t.start))
      → AreRecordsStored arena rs → AreRecordsStored arena (set rs n t)
  stored_detached live apart st =
      stored_set arena rs n r t there (λ node. live) (λ i x ne e nx nt. apart i x ne e nx)
      (λ i x ne e nx nt same. not_both t.state is nt) st

  pub kept_detached : {chained : Bool} (links : List Links) (heads places : List ℕ) (flags : List Bool)
      → t.next ≡ r.next → r ≡ get_or rs n r → AreRecordsStored arena (set rs n t)
      → HoldsNodes chained arena rs links heads places flags
      → HoldsNodes chained arena (set rs n t) links heads places flags
  kept_detached {chained} links heads places flags next read st k =
      record {
        stored = st;
        linked_all = λ some. k.linked_all some ∙ sym (length-set rs n t);
        flags_all = k.flags_all ∙ sym (length-set rs n t);
        at_least_one = k.at_least_one;
        places_all = k.places_all;
        in_chains = filed_same _ _ no_record _ _ _ _ (λ b i e. links_kept rs n r t next read i) (λ b. refl)
            (chain_kept chained (length heads - 1)) k.in_chains;
        in_lists = λ some. both_same _ _ _ _ no_record _ _ _ _ (λ b i e. refl) (λ b i e. refl) (λ b. refl) list_kept
            (k.in_lists some);
        queued = λ i x e linked none. by_cases
            (λ h. absurd (not_both t.state is (ap (λ y. y.state) h.1 ∙ linked)))
            (λ h. k.queued i x h.1 linked none)
            (set_which rs n r t there i x e);
      }

  -- the nodes after a detached one got another place
  pub nodes_retagged : t.start ≡ r.start → t.uses ≡ r.uses → t.mark ≡ r.mark
      → nodes_of arena (set rs n t) ≡ with_key (nodes_of arena rs) n (key_of arena t)
  nodes_retagged start uses mark i =
      record {
        linked = picked_same (λ (x : Record). linked_key arena x) rs n t r there inside
            (ap (λ s. if_linked s (key_of arena t)) is ∙ sym (ap (λ s. if_linked s (key_of arena r)) was)) i;
        detached = picked_set (λ (x : Record). detached_key arena x) rs n t (key_of arena t) inside
            (ap (λ s. if_detached s (key_of arena t)) is) i;
        loose = loose_same arena.live rs n r t there
            (λ m. ap (λ s. without_run s t.start m) is ∙ ap (λ s. without_run Detached s m) start
            ∙ sym (ap (λ s. without_run s r.start m) was)) i;
        uses = picked_same (λ (x : Record). uses_of_record x) rs n t r there inside
            (ap (λ s. if_node s t.uses) (is ∙ sym was) ∙ ap (if_node r.state) uses) i;
        marks = picked_same (λ (x : Record). mark_of_record x) rs n t r there inside
            (ap (λ s. if_node s t.mark) (is ∙ sym was) ∙ ap (if_node r.state) mark) i;
        free = counts_of arena.free;
        records = length-set rs n t i;
        extent = arena.extent;
        bound = arena.bound;
      }

  -- the nodes after a detached one got the list of a loose run
  pub nodes_exchanged : (list l : List (ℕ × ℕ)) → AreRecordsStored arena rs → t.place ≡ r.place → t.uses ≡ r.uses
      → t.mark ≡ r.mark → get (nodes_of arena rs).loose t.start ≡ Some list → get arena.live r.start ≡ Some l
      → nodes_of arena (set rs n t) ≡ exchanged (nodes_of arena rs) n r.place t.start list r.start l
  nodes_exchanged list l st place uses mark run had i =
      record {
        linked = picked_same (λ (x : Record). linked_key arena x) rs n t r there inside
            (ap (λ s. if_linked s (key_of arena t)) is ∙ sym (ap (λ s. if_linked s (key_of arena r)) was)) i;
        detached = picked_set (λ (x : Record). detached_key arena x) rs n t (r.place, list) inside
            (ap (λ s. if_detached s (key_of arena t)) is ∙ ap Some new_key) i;
        loose = loose_exchanged arena.live rs n r t l inside there (detached_node r.state was)
            (detached_node t.state is)
            (λ same. loose_untaken arena.live rs t.start list run n r there (detached_node r.state was) (sym same))
            (loose_freed arena rs n r st there (detached_node r.state was) ∙ had) i;
        uses = picked_same (λ (x : Record). uses_of_record x) rs n t r there inside
            (ap (λ s. if_node s t.uses) (is ∙ sym was) ∙ ap (if_node r.state) uses) i;
        marks = picked_same (λ (x : Record). mark_of_record x) rs n t r there inside
            (ap (λ s. if_node s t.mark) (is ∙ sym was) ∙ ap (if_node r.state) mark) i;
        free = counts_of arena.free;
        records = length-set rs n t i;
        extent = arena.extent;
        bound = arena.bound;
      }
    where
      new_key : key_of arena t ≡ (r.place, list)
      new_key j = (place j, unwrap_or (loose_live arena.live rs t.start list run j) [])
