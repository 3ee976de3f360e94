-- Where a record stands: in the chain and the list of its state.
use Rattle.std.proofs.Common.{◌≡◌, ◌≢◌, Bool, ℕ, ◌+◌, ◌<◌, bit_and, List, length, get_or, slice_get}
use Rattle.std.proofs.Common.{Option, Some, None, sym, ap, subst, ◌∙◌, arith}
use Rattle.std.proofs.Math.ListN.{set}
use Rattle.std.proofs.lemmas.Bool.{cases_eq}
use Rattle.std.specs.Option.{option_and_then, IsSome}
use Rattle.std.specs.FinMap.{get}
use Rattle.sd_runs.specs.Arena.{Arena}
use Rattle.sd_runs.proofs.Places.{by_cases}
use Rattle.sd_unique.specs.declared.record.Record.{Record}
use Rattle.sd_unique.specs.declared.record.RecordState.{RecordState}
use Rattle.sd_unique.specs.declared.record.RecordState.TheVariants.{Linked, Detached}
use Rattle.sd_unique.specs.Filed.{unfiled, filed_at}
use Rattle.sd_unique.specs.Record.{if_detached, if_linked, linked_key, IsNode, uses_of_record, detached_key, key_of}
use Rattle.sd_unique.specs.Record.{nodes_of, AreRecordsStored}
use Rattle.sd_unique.specs.Chains.{chain_by, free_by, chain_in, list_by, under_by, chain_under, list_under, bucket_of}
use Rattle.sd_unique.specs.Chains.{hash_of, no_record, AreHashed, KeepsRecords}
use Rattle.sd_unique.proofs.Both.{unfiled_here, unfiled_other, filed_here, filed_other}
use Rattle.sd_unique.proofs.Entries.{slice_get_at, slice_get_inside, slice_get_set, slice_get_set_other}
use Rattle.sd_unique.proofs.Filed.{none_is}
use Rattle.sd_unique.proofs.FirstChain.{detached_in}
use Rattle.sd_unique.proofs.Numbered.{linked_there, detached_there, detached_at, uses_in_at, node_some, picked_from}
use Rattle.sd_unique.proofs.Numbered.{linked_at}
use Rattle.sd_unique.proofs.Relinked.{chain_kept, list_kept}

-- what is read at a number stands there
pub read_inside : {X Y : Type 0} (f : X → Option Y) (xs : List X) (n : ℕ) (y : Y)
    → option_and_then f (slice_get xs n) ≡ Some y → n < length xs
read_inside f xs n y e = let r = picked_from f (slice_get xs n) y e in slice_get_inside xs n r.0 r.1

pub chain_inside : (arena : Arena) (count : ℕ) (rs : List Record) (n b : ℕ) → chain_under arena count rs n ≡ Some b
    → n < length rs
chain_inside arena count rs n b e =
    read_inside (λ (r : Record). chain_by r.state (bucket_of (key_of arena r) count)) rs n b e

pub list_inside : (rs : List Record) (n b : ℕ) → list_under rs n ≡ Some b → n < length rs
list_inside rs n b e = read_inside (λ (r : Record). list_by r.state (bit_and r.place 2047)) rs n b e

-- the record that was read is that of the linked node
pub linked_here : (arena : Arena) (rs : List Record) (n : ℕ) (d : Record) → IsSome (get (nodes_of arena rs).linked n)
    → (slice_get rs n ≡ Some (get_or rs n d)) × ((get_or rs n d).state ≡ Linked)
linked_here arena rs n d h =
    let r = linked_there arena rs n h in
    let read = slice_get_at rs n d (slice_get_inside rs n r.0 r.1) in
    let same : Some r.0 ≡ Some (get_or rs n d) = sym r.1 ∙ read in
    let is : r.0 ≡ get_or rs n d = cc in
    (read, subst (λ (x : Record). x.state ≡ Linked) is r.2)

-- and that of the detached one
pub detached_here : (arena : Arena) (rs : List Record) (n : ℕ) (d : Record)
    → IsSome (get (nodes_of arena rs).detached n)
    → (slice_get rs n ≡ Some (get_or rs n d)) × ((get_or rs n d).state ≡ Detached)
detached_here arena rs n d h =
    let r = detached_there arena rs n h in
    let read = slice_get_at rs n d (slice_get_inside rs n r.0 r.1) in
    let same : Some r.0 ≡ Some (get_or rs n d) = sym r.1 ∙ read in
    let is : r.0 ≡ get_or rs n d = cc in
    (read, subst (λ (x : Record). x.state ≡ Detached) is r.2)

module _ (arena : Arena) (rs : List Record) (n : ℕ) (r : Record) (there : slice_get rs n ≡ Some r)
    (linked : r.state ≡ Linked) where
  -- where a linked record stands
  pub linked_chain : (count : ℕ) → chain_under arena count rs n ≡ Some (bucket_of (key_of arena r) count + 1)
  linked_chain count =
      ap (option_and_then (λ (x : Record). chain_by x.state (bucket_of (key_of arena x) count))) there
      ∙ ap (λ s. chain_by s (bucket_of (key_of arena r) count)) linked ∙ ap Some (omega arith)

  -- where the chains of the buckets don't stand, it stands in none
  pub linked_in_none : (count : ℕ) → under_by free_by arena count rs n ≡ None
  linked_in_none count =
      ap (option_and_then (λ (x : Record). free_by x.state (bucket_of (key_of arena x) count))) there
      ∙ ap (λ s. free_by s (bucket_of (key_of arena r) count)) linked

  pub linked_key_is : get (nodes_of arena rs).linked n ≡ Some (key_of arena r)
  linked_key_is =
      linked_at arena rs n ∙ ap (option_and_then (λ (x : Record). linked_key arena x)) there
      ∙ ap (λ s. if_linked s (key_of arena r)) linked

  pub linked_list : list_under rs n ≡ Some (bit_and r.place 2047 + 1)
  linked_list =
      ap (option_and_then (λ (x : Record). list_by x.state (bit_and x.place 2047))) there
      ∙ ap (λ s. list_by s (bit_and r.place 2047)) linked ∙ ap Some (omega arith)

module _ (arena : Arena) (rs : List Record) (n : ℕ) (r : Record) (there : slice_get rs n ≡ Some r)
    (detached : r.state ≡ Detached) where
  -- where a detached record stands, and its key
  pub detached_chain : (chained : Bool) (count : ℕ) → under_by (chain_in chained) arena count rs n ≡ None
  detached_chain chained count =
      ap (option_and_then (λ (x : Record). chain_in chained x.state (bucket_of (key_of arena x) count))) there
      ∙ ap (λ s. chain_in chained s (bucket_of (key_of arena r) count)) detached
      ∙ detached_in chained (bucket_of (key_of arena r) count)

  pub detached_list : list_under rs n ≡ Some 0
  detached_list =
      ap (option_and_then (λ (x : Record). list_by x.state (bit_and x.place 2047))) there
      ∙ ap (λ s. list_by s (bit_and r.place 2047)) detached

  pub detached_key_is : get (nodes_of arena rs).detached n ≡ Some (key_of arena r)
  detached_key_is =
      detached_at arena rs n ∙ ap (option_and_then (λ (x : Record). detached_key arena x)) there
      ∙ ap (λ s. if_detached s (key_of arena r)) detached

  pub detached_uses : get (nodes_of arena rs).uses n ≡ Some r.uses
  detached_uses =
      uses_in_at arena rs n ∙ ap (option_and_then (λ (x : Record). uses_of_record x)) there
      ∙ node_some r.state r.uses (subst IsNode (sym detached) tt)

-- the bucket that the code computed, and the place that it read, are where the node stands
pub linked_head : (arena : Arena) (rs : List Record) (hashes : List ℕ) (n hash : ℕ) (d : Record) (count b : ℕ)
    → IsSome (get (nodes_of arena rs).linked n) → AreHashed hashes (nodes_of arena rs) → get_or hashes n 0 ≡ hash
    → ((key : ℕ × List (ℕ × ℕ)) → hash ≡ hash_of key → b ≡ bucket_of key count)
    → chain_under arena count rs n ≡ Some (b + 1)
linked_head arena rs hashes n hash d count b h hashed kept is =
    let read = linked_here arena rs n d h in
    linked_chain arena rs n (get_or rs n d) read.0 read.1 count
    ∙ ap (λ k. Some (k + 1))
    (sym (is (key_of arena (get_or rs n d)) (sym kept
    ∙ hashed.linked n (key_of arena (get_or rs n d)) (linked_key_is arena rs n (get_or rs n d) read.0 read.1))))

pub linked_place : (arena : Arena) (rs : List Record) (n : ℕ) (d : Record)
    → IsSome (get (nodes_of arena rs).linked n) → list_under rs n ≡ Some (bit_and (get_or rs n d).place 2047 + 1)
linked_place arena rs n d h =
    let read = linked_here arena rs n d h in
    linked_list arena rs n (get_or rs n d) read.0 read.1

-- the number of a record ends no chain
pub is_record : {arena : Arena} {rs : List Record} (n : ℕ) → AreRecordsStored arena rs → n < length rs → n ≢ no_record
is_record n st inside e = omega (arith, st.within_limit, (st.well).bounded, st.bound_fits)

-- the others stand where they stood
pub unfiled_inside : (under : ℕ → Option ℕ) (n size : ℕ) → ((i b : ℕ) → under i ≡ Some b → i < size) → (i b : ℕ)
    → unfiled n under i ≡ Some b → i < size
unfiled_inside under n size inside i b e =
    by_cases
    (λ same. absurd (none_is (unfiled_here n under i same) e))
    (λ ne. inside i b (sym (unfiled_other n under i ne) ∙ e))
    (cases_eq i n)

-- A record was replaced, where the links of the chains were changed before.
module _ (arena : Arena) (rs mid : List Record) (n : ℕ) (m t : Record) (kept : KeepsRecords rs mid)
    (there : slice_get mid n ≡ Some m) where
  here : slice_get (set mid n t) n ≡ Some t
  here = slice_get_set mid n t (slice_get_inside mid n m there)

  pub chain_other : (by : RecordState → ℕ → Option ℕ) (count i : ℕ) → i ≢ n
      → under_by by arena count (set mid n t) i ≡ under_by by arena count rs i
  chain_other by count i ne =
      ap (option_and_then (λ (x : Record). by x.state (bucket_of (key_of arena x) count)))
      (slice_get_set_other mid n t i ne) ∙ chain_kept rs mid kept by arena count i

  pub chain_here : (by : RecordState → ℕ → Option ℕ) (count : ℕ)
      → under_by by arena count (set mid n t) n ≡ by t.state (bucket_of (key_of arena t) count)
  chain_here by count = ap (option_and_then (λ (x : Record). by x.state (bucket_of (key_of arena x) count))) here

  list_other : (i : ℕ) → i ≢ n → list_under (set mid n t) i ≡ list_under rs i
  list_other i ne =
      ap (option_and_then (λ (x : Record). list_by x.state (bit_and x.place 2047)))
      (slice_get_set_other mid n t i ne) ∙ list_kept rs mid kept i

  list_here : list_under (set mid n t) n ≡ list_by t.state (bit_and t.place 2047)
  list_here = ap (option_and_then (λ (x : Record). list_by x.state (bit_and x.place 2047))) here

  -- in no chain, in no list, in another list
  pub unchained : (by : RecordState → ℕ → Option ℕ) (count : ℕ) → by t.state (bucket_of (key_of arena t) count) ≡ None
      → (i : ℕ) → under_by by arena count (set mid n t) i ≡ unfiled n (under_by by arena count rs) i
  unchained by count none i =
      by_cases
      (λ e. ap (under_by by arena count (set mid n t)) e ∙ chain_here by count ∙ none
      ∙ sym (unfiled_here n (under_by by arena count rs) i e))
      (λ ne. chain_other by count i ne ∙ sym (unfiled_other n (under_by by arena count rs) i ne))
      (cases_eq i n)

  pub unlisted : list_by t.state (bit_and t.place 2047) ≡ None → (i : ℕ)
      → list_under (set mid n t) i ≡ unfiled n (list_under rs) i
  unlisted none i =
      by_cases
      (λ e. ap (list_under (set mid n t)) e ∙ list_here ∙ none ∙ sym (unfiled_here n (list_under rs) i e))
      (λ ne. list_other i ne ∙ sym (unfiled_other n (list_under rs) i ne))
      (cases_eq i n)

  pub listed_at : (b : ℕ) → list_by t.state (bit_and t.place 2047) ≡ Some b → (i : ℕ)
      → list_under (set mid n t) i ≡ filed_at n b (unfiled n (list_under rs)) i
  listed_at b some i =
      by_cases
      (λ e. ap (list_under (set mid n t)) e ∙ list_here ∙ some
      ∙ sym (filed_here n b (unfiled n (list_under rs)) i e))
      (λ ne. list_other i ne
      ∙ sym (filed_other n b (unfiled n (list_under rs)) i ne ∙ unfiled_other n (list_under rs) i ne))
      (cases_eq i n)
