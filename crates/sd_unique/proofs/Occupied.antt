-- A free record becomes that of a linked node over a loose run.
use Rattle.std.proofs.Common.{◌≡◌, ◌≢◌, ◌-◌, bit_and, ℕ, suc, ◌<◌, List, [], length, get_or, slice_get}
use Rattle.std.proofs.Common.{Bool, true, false, Option, Some, None, unwrap_or, refl, sym, ap, subst, ◌∙◌, arith}
use Rattle.std.proofs.Math.ListN.{set}
use Rattle.std.proofs.lemmas.Bool.{cases_eq}
use Rattle.std.proofs.lemmas.List.{length-set, get_or-set_same, get_or-set_other}
use Rattle.std.specs.Option.{option_map, option_and_then, IsSome}
use Rattle.std.specs.FinMap.{get, remove}
use Rattle.sd_runs.specs.Arena.{Arena}
use Rattle.sd_runs.proofs.Places.{by_cases}
use Rattle.sd_unique.specs.Candidates.{Waits}
use Rattle.sd_unique.specs.declared.record.Record.{Record}
use Rattle.sd_unique.specs.declared.record.Links.{Links}
use Rattle.sd_unique.specs.declared.record.RecordState.{RecordState}
use Rattle.sd_unique.specs.declared.record.RecordState.TheVariants.{Free, Linked, Detached}
use Rattle.sd_unique.specs.Nodes.{key_at}
use Rattle.sd_unique.specs.Occupying.{occupied, IsFreeNumber}
use Rattle.sd_unique.specs.Relinking.{IsAbsent, IsLoose}
use Rattle.sd_unique.specs.Record.{if_linked, if_detached, if_node, IsNode, key_of, linked_key}
use Rattle.sd_unique.specs.Record.{detached_key, uses_of_record, mark_of_record, loose_of, counts_of}
use Rattle.sd_unique.specs.Record.{nodes_of, AreRecordsStored}
use Rattle.sd_unique.specs.Filed.{IsChain, IsFiled, unfiled, filed_at}
use Rattle.sd_unique.specs.Chains.{next_of, head_of, heads_in, chain_by, free_by, chain_in, list_by, under_by}
use Rattle.sd_unique.specs.Chains.{list_under, bucket_of, no_record, HoldsNodes, AreListed}
use Rattle.sd_unique.proofs.Both.{unfiled_here, unfiled_other, filed_here, filed_other}
use Rattle.sd_unique.proofs.Changed.{set_which, stored_set}
use Rattle.sd_unique.proofs.Cut.{filed_cut_first}
use Rattle.sd_unique.proofs.Detached.{set_twice}
use Rattle.sd_unique.proofs.Entries.{slice_get_at, slice_get_inside, slice_get_set, slice_get_set_other}
use Rattle.sd_unique.proofs.Filed.{filed_first, filed_same, both_same}
use Rattle.sd_unique.proofs.FirstChain.{free_in, in_first, head_first, head_set, head_kept, no_others}
use Rattle.sd_unique.proofs.Loose.{loose_same, loose_split, loose_live, loose_untaken}
use Rattle.sd_unique.proofs.Numbered.{linked_at, key_at_is, node_key, node_some, picked_from}
use Rattle.sd_unique.proofs.Picked.{picked_set, picked_same}
use Rattle.sd_unique.proofs.Reading.{link_there, link_other, head_has, chain_empty, get_or_any}
use Rattle.sd_unique.proofs.Taken.{linked_state}

module _ (arena : Arena) (rs : List Record) (n : ℕ) (r t : Record) (there : slice_get rs n ≡ Some r)
    (was : r.state ≡ Free) (is : t.state ≡ Linked) where
  inside : n < length rs
  inside = slice_get_inside rs n r there

  -- the lists with the number first in that of its place
  pub list_occupied : (m : ℕ) → list_under (set rs n t) m ≡ filed_at n (suc (bit_and t.place 2047)) (list_under rs) m
  list_occupied m =
      by_cases
      (λ e. ap (list_under (set rs n t)) e
      ∙ ap (option_and_then (λ x. list_by x.state (bit_and x.place 2047))) (slice_get_set rs n t inside)
      ∙ ap (λ s. list_by s (bit_and t.place 2047)) is
      ∙ sym (filed_here n (suc (bit_and t.place 2047)) (list_under rs) m e))
      (λ ne. ap (option_and_then (λ x. list_by x.state (bit_and x.place 2047))) (slice_get_set_other rs n t m ne)
      ∙ sym (filed_other n (suc (bit_and t.place 2047)) (list_under rs) m ne))
      (cases_eq m n)

  -- a free record stands in no list
  pub free_unlisted : list_under rs n ≡ None
  free_unlisted =
      ap (option_and_then (λ x. list_by x.state (bit_and x.place 2047))) there
      ∙ ap (λ s. list_by s (bit_and r.place 2047)) was

  -- the first free record is taken out of its chain
  chains_cut : (chained : Bool) (heads : List ℕ) (count : ℕ) → 0 < length heads → head_of heads 0 ≡ n
      → IsFiled (next_of rs) no_record (head_of (heads_in chained heads)) (under_by (chain_in chained) arena count rs)
      → IsFiled (next_of rs) no_record (head_of (heads_in chained (set heads 0 (next_of rs n))))
      (unfiled n (under_by (chain_in chained) arena count rs))
  chains_cut chained heads count some first f =
      filed_cut_first (next_of rs) no_record (head_of (heads_in chained heads))
      (under_by (chain_in chained) arena count rs) n 0
      (ap (option_and_then (λ x. chain_in chained x.state (bucket_of (key_of arena x) count))) there
      ∙ ap (λ s. chain_in chained s (bucket_of (key_of arena r) count)) was
      ∙ free_in chained (bucket_of (key_of arena r) count))
      f (next_of rs) (head_of (heads_in chained (set heads 0 (next_of rs n)))) (head_first chained heads ∙ first)
      (head_set chained heads (next_of rs n) some) (λ y. refl) (head_kept chained heads (next_of rs n))

  -- the others stand where they stood
  under_cut : (by : RecordState → ℕ → Option ℕ) (count y : ℕ) → y ≢ n
      → under_by by arena count (set rs n t) y ≡ unfiled n (under_by by arena count rs) y
  under_cut by count y ne =
      ap (option_and_then (λ x. by x.state (bucket_of (key_of arena x) count))) (slice_get_set_other rs n t y ne)
      ∙ sym (unfiled_other n (under_by by arena count rs) y ne)

  -- the chains after the first free record was put into a bucket, or into none where those of the buckets do not stand
  pub chains_occupied : (chained : Bool) (heads : List ℕ) (b count : ℕ) → suc b < length heads → head_of heads 0 ≡ n
      → n ≢ no_record → b ≡ bucket_of (key_of arena t) count
      → t.next ≡ head_of (set heads 0 (next_of rs n)) (suc b)
      → IsFiled (next_of rs) no_record (head_of (heads_in chained heads)) (under_by (chain_in chained) arena count rs)
      → IsFiled (next_of (set rs n t)) no_record
      (head_of (heads_in chained (set (set heads 0 (next_of rs n)) (suc b) n)))
      (under_by (chain_in chained) arena count (set rs n t))
  chains_occupied true heads b count fits first some bucket next f =
      filed_first (next_of rs) (next_of (set rs n t)) no_record (head_of (set heads 0 (next_of rs n)))
      (head_of (set (set heads 0 (next_of rs n)) (suc b) n)) (unfiled n (under_by chain_by arena count rs))
      (under_by chain_by arena count (set rs n t)) (suc b) n some
      (unfiled_here n (under_by chain_by arena count rs) n refl)
      (record {
        after = link_there (λ (x : Record). x.next) rs n t inside ∙ next;
        kept = λ y c e ne. link_other (λ (x : Record). x.next) rs n t y ne;
        first = get_or-set_same (set heads 0 (next_of rs n)) (suc b) n no_record
            (omega (arith, fits, length-set heads 0 (next_of rs n)));
        heads = λ c ne. get_or-set_other (set heads 0 (next_of rs n)) (suc b) c n no_record ne;
        there = ap (option_and_then (λ x. chain_by x.state (bucket_of (key_of arena x) count)))
            (slice_get_set rs n t inside)
            ∙ ap (λ s. chain_by s (bucket_of (key_of arena t) count)) is ∙ ap (λ k. Some (suc k)) (sym bucket);
        others = under_cut chain_by count;
      })
      (chains_cut true heads count (omega (arith, fits)) first f)
  chains_occupied false heads b count fits first some bucket next f =
      filed_same (next_of rs) (next_of (set rs n t)) no_record (head_of (heads_in false (set heads 0 (next_of rs n))))
      (head_of (heads_in false (set (set heads 0 (next_of rs n)) (suc b) n)))
      (unfiled n (under_by free_by arena count rs)) (under_by free_by arena count (set rs n t))
      (λ c y e. link_other (λ (x : Record). x.next) rs n t y (λ same. not_there y c same e))
      (λ c. by_cases
      (λ e. ap (head_of (heads_in false (set (set heads 0 (next_of rs n)) (suc b) n))) e
      ∙ head_first false (set (set heads 0 (next_of rs n)) (suc b) n)
      ∙ get_or-set_other (set heads 0 (next_of rs n)) (suc b) 0 n no_record (λ z. omega arith)
      ∙ sym (ap (head_of (heads_in false (set heads 0 (next_of rs n)))) e
      ∙ head_first false (set heads 0 (next_of rs n))))
      (λ ne. no_others (set (set heads 0 (next_of rs n)) (suc b) n) c ne
      ∙ sym (no_others (set heads 0 (next_of rs n)) c ne))
      (cases_eq c 0))
      (λ y. by_cases
      (λ e. ap (under_by free_by arena count (set rs n t)) e
      ∙ ap (option_and_then (λ x. free_by x.state (bucket_of (key_of arena x) count))) (slice_get_set rs n t inside)
      ∙ ap (λ s. free_by s (bucket_of (key_of arena t) count)) is
      ∙ sym (unfiled_here n (under_by free_by arena count rs) y e))
      (under_cut free_by count y)
      (cases_eq y n))
      (chains_cut false heads count (omega (arith, fits)) first f)
    where
      not_there : (y c : ℕ) → y ≡ n → unfiled n (under_by free_by arena count rs) y ≡ Some c → ⊥
      not_there y c same e = let no = sym (unfiled_here n (under_by free_by arena count rs) y same) ∙ e in cc

  module _ (list : List (ℕ × ℕ)) (run : get (nodes_of arena rs).loose t.start ≡ Some list)
      (size : t.length ≡ length list) where
    key_new : key_of arena t ≡ (t.place, list)
    key_new i = (t.place, unwrap_or (loose_live arena.live rs t.start list run i) [])

    -- what holds of the records is kept where no linked node has the key
    pub stored_occupied : IsAbsent (nodes_of arena rs) (t.place, list) → AreRecordsStored arena rs
        → AreRecordsStored arena (set rs n t)
    stored_occupied absent st =
        stored_set arena rs n r t there
        (λ node. ap (option_map length) (loose_live arena.live rs t.start list run) ∙ ap Some (sym size))
        (λ i x ne e nx nt same. loose_untaken arena.live rs t.start list run i x e nx (sym same))
        (λ i x ne e nx nt same. absent i
        (linked_at arena rs i ∙ ap (option_and_then (λ r. linked_key arena r)) e
        ∙ ap (λ s. if_linked s (key_of arena x)) nx ∙ ap Some (same ∙ key_new)))
        st

    loose_occupied : loose_of arena.live (set rs n t) ≡ remove (loose_of arena.live rs) t.start
    loose_occupied =
        loose_split arena.live (set rs n t) n t r (slice_get_set rs n t inside) (linked_state t.state is) was
        ∙ ap (λ ts. remove (loose_of arena.live ts) t.start) (set_twice rs n t r)
        ∙ ap (λ m. remove m t.start) (loose_same arena.live rs n r r there (λ m. refl))

    -- the nodes with the new one
    pub nodes_occupied : t.uses ≡ 0 → t.mark ≡ 0
        → nodes_of arena (set rs n t) ≡ occupied (nodes_of arena rs) n t.place t.start list
    nodes_occupied uses mark i =
        record {
          linked = picked_set (λ (x : Record). linked_key arena x) rs n t (t.place, list) inside
              (ap (λ s. if_linked s (key_of arena t)) is ∙ ap Some key_new) i;
          detached = picked_same (λ (x : Record). detached_key arena x) rs n t r there inside
              (ap (λ s. if_detached s (key_of arena t)) is ∙ sym (ap (λ s. if_detached s (key_of arena r)) was)) i;
          loose = loose_occupied i;
          uses = picked_set (λ (x : Record). uses_of_record x) rs n t 0 inside
              (ap (λ s. if_node s t.uses) is ∙ ap Some uses) i;
          marks = picked_set (λ (x : Record). mark_of_record x) rs n t 0 inside
              (ap (λ s. if_node s t.mark) is ∙ ap Some mark) i;
          free = counts_of arena.free;
          records = length-set rs n t i;
          extent = arena.extent;
          bound = arena.bound;
        }

    -- what holds of the fields is kept
    pub kept_occupied : {chained : Bool} (links new : List Links) (heads heads' places places' : List ℕ)
        (flags flags' : List Bool) → IsAbsent (nodes_of arena rs) (t.place, list)
        → (0 < length places' → length new ≡ length links) → length heads' ≡ length heads
        → length places' ≡ length places
        → IsFiled (next_of (set rs n t)) no_record (head_of (heads_in chained heads'))
        (under_by (chain_in chained) arena (length heads - 1) (set rs n t))
        → AreListed new places' (list_under (set rs n t)) → length flags' ≡ length flags
        → ((m : ℕ) → Waits flags m → Waits flags' m) → Waits flags' n
        → HoldsNodes chained arena rs links heads places flags
        → HoldsNodes chained arena (set rs n t) new heads' places' flags'
    kept_occupied {chained} links new heads heads' places places' flags flags' absent size hsize psize chains lists
        fsize wait here k =
        record {
          stored = stored_occupied absent k.stored;
          linked_all = λ some. size some ∙ k.linked_all (omega (arith, some, psize)) ∙ sym (length-set rs n t);
          flags_all = fsize ∙ k.flags_all ∙ sym (length-set rs n t);
          at_least_one = omega (arith, hsize, k.at_least_one);
          places_all = λ some. psize ∙ k.places_all (omega (arith, some, psize));
          in_chains = subst (λ s. IsFiled (next_of (set rs n t)) no_record (head_of (heads_in chained heads'))
              (under_by (chain_in chained) arena (s - 1) (set rs n t))) (sym hsize) chains;
          in_lists = lists;
          queued = λ i x e linked none. by_cases
              (λ h. ap (slice_get flags') h.0 ∙ here)
              (λ h. wait i (k.queued i x h.1 linked none))
              (set_which rs n r t there i x e);
        }

-- the lists, read from another function of the same places
pub lists_by : (links : List Links) (places : List ℕ) (under under' : ℕ → Option ℕ) → ((m : ℕ) → under' m ≡ under m)
    → AreListed links places under → AreListed links places under'
lists_by links places under under' same f =
    λ some. both_same _ _ _ _ no_record _ _ _ _ (λ b i e. refl) (λ b i e. refl) (λ b. refl) same (f some)

module _ (chained : Bool) (arena : Arena) (rs : List Record) (heads : List ℕ) (count : ℕ)
    (f : IsFiled (next_of rs) no_record (head_of (heads_in chained heads))
    (under_by (chain_in chained) arena count rs)) where
  first_chain : IsChain (next_of rs) no_record (head_of heads 0) (f.lists 0)
  first_chain = subst (λ at. IsChain (next_of rs) no_record at (f.lists 0)) (head_first chained heads) (f.chained 0)

  -- the first number of the first chain is that of a free record
  pub first_free : head_of heads 0 ≢ no_record
      → (r : Record) × (slice_get rs (head_of heads 0) ≡ Some r) × (r.state ≡ Free)
  first_free ne =
      let r = picked_from (λ (x : Record). chain_in chained x.state (bucket_of (key_of arena x) count))
      (slice_get rs (head_of heads 0)) 0
      (f.only 0 (head_of heads 0) (head_has (next_of rs) no_record (head_of heads 0) (f.lists 0) first_chain ne)) in
      (r.0, r.1, in_first chained (r.0).state (bucket_of (key_of arena r.0) count) r.2)

  pub free_first : head_of heads 0 ≢ no_record → IsFreeNumber (nodes_of arena rs) (head_of heads 0)
  free_first ne =
      let r = first_free ne in (
        slice_get_inside rs (head_of heads 0) r.0 r.1,
        key_at_is arena rs (head_of heads 0) ∙ ap (option_and_then (λ r. node_key arena r)) r.1
            ∙ ap (λ s. if_node s (key_of arena r.0)) r.2,
      )

  -- where the first chain is empty, each record is that of a node
  pub none_free : head_of heads 0 ≡ no_record → (m : ℕ) (r : Record) → slice_get rs m ≡ Some r → IsNode r.state
  none_free e m r there =
      by_state r.state (λ free. chain_empty (next_of rs) no_record (head_of heads 0) m (f.lists 0) first_chain e
      (f.filed 0 m (ap (option_and_then (λ x. chain_in chained x.state (bucket_of (key_of arena x) count))) there
      ∙ ap (λ s. chain_in chained s (bucket_of (key_of arena r) count)) free
      ∙ free_in chained (bucket_of (key_of arena r) count))))
    where
      by_state : (s : RecordState) → ¬ (s ≡ Free) → IsNode s
      by_state Free h = absurd (h refl)
      by_state Linked h = tt
      by_state Detached h = tt

  pub all_nodes : head_of heads 0 ≡ no_record → (m : ℕ) → m < length rs → IsSome (key_at (nodes_of arena rs) m)
  all_nodes e m below =
      let blank : Record = record { place = 0; start = 0; length = 0; next = 0; uses = 0; mark = 0; state = Free } in
      let there = slice_get_at rs m blank below in
      subst IsSome (sym (key_at_is arena rs m ∙ ap (option_and_then (λ r. node_key arena r)) there
      ∙ node_some (get_or rs m blank).state (key_of arena (get_or rs m blank))
      (none_free e m (get_or rs m blank) there))) refl

  -- a number that no node has is that of a free record
  pub some_free : (m : ℕ) → IsFreeNumber (nodes_of arena rs) m → head_of heads 0 ≢ no_record
  some_free m free e =
      let node = all_nodes e m free.0 in let no = subst IsSome free.1 node in cc

-- the fields are the same, each by its equation
pub kept_fields : {chained : Bool} (arena : Arena) (rs : List Record) (links links' : List Links)
    (heads places places' : List ℕ) (flags : List Bool) → links' ≡ links → places' ≡ places
    → HoldsNodes chained arena rs links heads places flags
    → HoldsNodes chained arena rs links' heads places' flags
kept_fields {chained} arena rs links links' heads places places' flags e f k =
    subst (λ l. HoldsNodes chained arena rs l heads places' flags) (sym e)
    (subst (λ p. HoldsNodes chained arena rs links heads p flags) (sym f) k)

module _ {chained : Bool} (arena : Arena) (rs : List Record) (links : List Links) (heads places : List ℕ)
    (flags : List Bool) (k : HoldsNodes chained arena rs links heads places flags) (first : ℕ)
    (read : first ≡ get_or heads 0 first)
    (free : (m : ℕ) × IsFreeNumber (nodes_of arena rs) m) where
  first_is : head_of heads 0 ≡ first
  first_is = get_or_any heads 0 no_record first (omega (arith, k.at_least_one)) ∙ sym read

  pub first_some : first ≢ no_record
  first_some e = some_free chained arena rs heads (length heads - 1) k.in_chains free.0 free.1 (first_is ∙ e)

  -- the first free number has a free record
  pub first_there : (r : Record) × (slice_get rs first ≡ Some r) × (r.state ≡ Free)
  first_there =
      subst (λ n. (r : Record) × (slice_get rs n ≡ Some r) × (r.state ≡ Free)) first_is
      (first_free chained arena rs heads (length heads - 1) k.in_chains (λ e. first_some (sym first_is ∙ e)))

  pub first_inside : first < length rs
  first_inside = let r = first_there in slice_get_inside rs first r.0 r.1

  pub first_linked : 0 < length places → first < length links
  first_linked some = omega (arith, first_inside, k.linked_all some)

  -- the number is free in the nodes too
  pub first_number : IsFreeNumber (nodes_of arena rs) first
  first_number =
      let r = first_there in (
        first_inside,
        key_at_is arena rs first ∙ ap (option_and_then (λ r. node_key arena r)) r.1
            ∙ ap (λ s. if_node s (key_of arena r.0)) r.2,
      )

  -- it stands in no list
  pub first_unlisted : list_under rs first ≡ None
  first_unlisted =
      let r = first_there in
      ap (option_and_then (λ x. list_by x.state (bit_and x.place 2047))) r.1
      ∙ ap (λ s. list_by s (bit_and (r.0).place 2047)) r.2

  -- what putting it first in the list of its place asks
  pub first_ready : (under : ℕ → Option ℕ) × (under first ≡ None)
      × (0 < length places → (n b : ℕ) → under n ≡ Some b → n < length links) × AreListed links places under
  first_ready = (
    list_under rs,
    first_unlisted,
    λ some n b e.
        let x = picked_from (λ (x : Record). list_by x.state (bit_and x.place 2047)) (slice_get rs n) b e in
        omega (arith, slice_get_inside rs n x.0 x.1, k.linked_all some),
    k.in_lists,
  )

  module _ (t : Record) (list : List (ℕ × ℕ)) (linked : t.state ≡ Linked)
      (run : IsLoose (nodes_of arena rs) t.start t.length list)
      (absent : IsAbsent (nodes_of arena rs) (t.place, list)) where
    -- what holds of the fields after all steps
    pub kept_steps : (next b head : ℕ) → next ≡ next_of rs first
        → b ≡ bucket_of (t.place, list) (length heads - 1) → b < length heads - 1 → head ≡ suc b
        → t.next ≡ get_or (set heads 0 next) head t.next
        → (new : List Links) (places' : List ℕ) (flags' : List Bool) (at : ℕ) → at ≡ suc (bit_and t.place 2047)
        → AreListed new places' (filed_at first at (list_under rs))
        → (0 < length places' → length new ≡ length links)
        → length places' ≡ length places → length flags' ≡ length flags
        → ((m : ℕ) → Waits flags m → Waits flags' m) → Waits flags' first
        → HoldsNodes chained arena (set rs first t) new (set (set heads 0 next) head first) places' flags'
    kept_steps next b head next_is bucket fits head_is t_next new places' flags' at at_is listed same_links size fsize
        wait here =
        let r = first_there in
        let key : key_of arena t ≡ (t.place, list) = key_new arena rs first r.0 t r.1 r.2 linked list run.is
        (sym run.counted) in
        kept_occupied arena rs first r.0 t r.1 r.2 linked list run.is (sym run.counted) links new heads
        (set (set heads 0 next) head first) places places' flags flags' absent same_links
        (length-set (set heads 0 next) head first ∙ length-set heads 0 next) size
        (subst (λ h. IsFiled (next_of (set rs first t)) no_record
        (head_of (heads_in chained (set (set heads 0 next) h first)))
        (under_by (chain_in chained) arena (length heads - 1) (set rs first t))) (sym head_is)
        (subst (λ x. IsFiled (next_of (set rs first t)) no_record
        (head_of (heads_in chained (set (set heads 0 x) (suc b) first)))
        (under_by (chain_in chained) arena (length heads - 1) (set rs first t))) (sym next_is)
        (chains_occupied arena rs first r.0 t r.1 r.2 linked chained heads b (length heads - 1)
        (omega (arith, fits)) first_is first_some (bucket ∙ ap (λ y. bucket_of y (length heads - 1)) (sym key))
        (t_next ∙ get_or_any (set heads 0 next) head t.next no_record
        (omega (arith, fits, head_is, length-set heads 0 next))
        ∙ ap (head_of (set heads 0 next)) head_is ∙ ap (λ x. head_of (set heads 0 x) (suc b)) next_is)
        k.in_chains)))
        (lists_by new places' (filed_at first at (list_under rs)) (list_under (set rs first t))
        (λ m. list_occupied arena rs first r.0 t r.1 r.2 linked m
        ∙ ap (λ h. filed_at first h (list_under rs) m) (sym at_is)) listed)
        fsize wait here k

    pub nodes_steps : t.uses ≡ 0 → t.mark ≡ 0
        → nodes_of arena (set rs first t) ≡ occupied (nodes_of arena rs) first t.place t.start list
    nodes_steps uses mark =
        let r = first_there in
        nodes_occupied arena rs first r.0 t r.1 r.2 linked list run.is (sym run.counted) uses mark
