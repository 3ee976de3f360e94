-- The chains of the records: of each bucket and of the free records, and the lists of each place and of the detached.
use Rattle.std.specs.Prelude.{◌≡◌, ℕ, suc, ◌+◌, ◌*◌, ◌/◌, ◌%◌, ◌-◌, ◌<◌, ◌≤◌, ◌^◌, List, length, map, get_or}
use Rattle.std.specs.Prelude.{Bool, true, false, Option, Some, None, slice_get, bit_and, take}
use Rattle.std.specs.List.{fold}
use Rattle.std.specs.Option.{option_and_then}
use Rattle.std.specs.FinMap.{get}
use Rattle.sd_runs.specs.Arena.{Arena}
use Rattle.sd_unique.specs.Candidates.{Waits}
use Rattle.sd_unique.specs.Filed.{IsFiled, IsFiledBoth}
use Rattle.sd_unique.specs.Nodes.{Nodes}
use Rattle.sd_unique.specs.Record.{key_of, AreRecordsStored}
use Rattle.sd_unique.specs.declared.record.Record.{Record}
use Rattle.sd_unique.specs.declared.record.Links.{Links}
use Rattle.sd_unique.specs.declared.record.RecordState.{RecordState}
use Rattle.sd_unique.specs.declared.record.RecordState.TheVariants.{Free, Linked, Detached}

-- a hash with one more pair in it: the sum of three products, which do not wait for one another
unfoldable pub mixed : ℕ → ℕ × ℕ → ℕ
mixed hash pair =
    ((hash * 11400714819323198485 % 2 ^ 64 + pair.0 * 11562461410679940143 % 2 ^ 64) % 2 ^ 64
    + pair.1 * 15485907386658061715 % 2 ^ 64) % 2 ^ 64

-- the hash of a place and a list: the higher half of what the place and all pairs give
unfoldable pub hash_of : ℕ × List (ℕ × ℕ) → ℕ
hash_of key = fold mixed key.0 key.1 / 2 ^ 32

-- the bucket of a key among so many
unfoldable pub bucket_of : ℕ × List (ℕ × ℕ) → ℕ → ℕ
bucket_of key count = bit_and (hash_of key) (count - 1)

-- ends a chain
abbrev pub no_record : ℕ
no_record = 2 ^ 32 - 1

-- what follows the record of this number in its chain
abbrev pub next_of : List Record → ℕ → ℕ
next_of records n = get_or (map (λ r. r.next) records) n 0

-- what follows it in its list
abbrev pub after_of : List Links → ℕ → ℕ
after_of links n = get_or (map (λ l. l.after) links) n 0

-- what leads back to it in the list
abbrev pub before_of : List Links → ℕ → ℕ
before_of links n = get_or (map (λ l. l.before) links) n 0

-- the links of a number that stands in no list
abbrev pub no_links : Links
no_links = record { before = no_record; after = no_record }

-- the first number of a chain
abbrev pub head_of : List ℕ → ℕ → ℕ
head_of heads b = get_or heads b no_record

-- Where all chains stand, a free record stands in the first one, a linked one in that of its bucket, a detached one in
-- none.
abbrev pub chain_by : RecordState → ℕ → Option ℕ
chain_by Free b = Some 0
chain_by Linked b = Some (suc b)
chain_by Detached b = None

-- Where the chains of the buckets do not stand, a free record stands in the first chain, another in none.
abbrev pub free_by : RecordState → ℕ → Option ℕ
free_by Free b = Some 0
free_by Linked b = None
free_by Detached b = None

-- by which rule the records stand
abbrev pub chain_in : Bool → RecordState → ℕ → Option ℕ
chain_in true = chain_by
chain_in false = free_by

-- from which heads the chains begin: from all of them, or from the first alone
abbrev pub heads_in : Bool → List ℕ → List ℕ
heads_in true heads = heads
heads_in false heads = take 1 heads

-- A detached record stands in the first list, a linked one in that of its place, a free one in none.
abbrev pub list_by : RecordState → ℕ → Option ℕ
list_by Free b = None
list_by Linked b = Some (suc b)
list_by Detached b = Some 0

-- under which head the number of a record is filed by such a rule, among so many buckets
abbrev pub under_by : (RecordState → ℕ → Option ℕ) → Arena → ℕ → List Record → ℕ → Option ℕ
under_by by arena count records n =
    option_and_then (λ r. by r.state (bucket_of (key_of arena r) count)) (slice_get records n)

-- and where all chains stand
abbrev pub chain_under : Arena → ℕ → List Record → ℕ → Option ℕ
chain_under = under_by chain_by

-- The records stand in the chains: in all of them, or in that of the free ones alone.
abbrev pub AreChained : Bool → Arena → List Record → List ℕ → Type 0
AreChained chained arena records heads =
    IsFiled (next_of records) no_record (head_of (heads_in chained heads))
    (under_by (chain_in chained) arena (length heads - 1) records)

-- under which head the number of a record is filed among the lists
abbrev pub list_under : List Record → ℕ → Option ℕ
list_under records n = option_and_then (λ r. list_by r.state (bit_and r.place 2047)) (slice_get records n)

-- the lists of the links
abbrev pub AreInLists : List Links → List ℕ → (ℕ → Option ℕ) → Type 0
AreInLists links places under = IsFiledBoth (after_of links) (before_of links) no_record (head_of places) under

-- The lists are kept from the first move of the vtree on: before that they have no heads.
abbrev pub AreListed : List Links → List ℕ → (ℕ → Option ℕ) → Type 0
AreListed links places under = 0 < length places → AreInLists links places under

-- each record has a hash, and that which is kept for a linked node is that of its key
pub record AreHashed (hashes : List ℕ) (a : Nodes) : Type 0 where
  pub size : length hashes ≡ a.records
  pub linked : (n : ℕ) (k : ℕ × List (ℕ × ℕ)) → get a.linked n ≡ Some k → get_or hashes n 0 ≡ hash_of k

-- there is memory for the links of so many records, and for the heads of the lists
pub record HasRoomForLists (records links places : ℕ) : Type 0 where
  pub links_fit : records ≤ links
  pub heads_fit : 2049 ≤ places

-- What holds of the fields, where the chains of the buckets stand and where they don't. The first head is that of the
-- free records, the others are those of the buckets; the first place, where there are any, is that of the detached
-- records.
pub record HoldsNodes (chained : Bool) (arena : Arena) (records : List Record) (links : List Links)
    (heads places : List ℕ) (flags : List Bool) : Type 0 where
  pub stored : AreRecordsStored arena records
  pub flags_all : length flags ≡ length records
  -- there is a bucket, and a head for each remainder of places, or for none
  pub at_least_one : 1 < length heads
  pub places_all : 0 < length places → length places ≡ 2049
  -- each record has links where lists are kept
  pub linked_all : 0 < length places → length links ≡ length records
  -- each record stands where its state says
  pub in_chains : AreChained chained arena records heads
  pub in_lists : AreListed links places (list_under records)
  -- each linked node without uses is a candidate
  pub queued : (n : ℕ) (r : Record) → slice_get records n ≡ Some r → r.state ≡ Linked → r.uses ≡ 0 → Waits flags n

-- the records are as before but for the links of their chains
pub record KeepsRecords (old new : List Record) : Type 0 where
  pub size : length new ≡ length old
  pub was : (i : ℕ) (t : Record) → slice_get new i ≡ Some t
      → (r : Record) × (slice_get old i ≡ Some r) × (t.place ≡ r.place) × (t.start ≡ r.start)
      × (t.length ≡ r.length) × (t.uses ≡ r.uses) × (t.mark ≡ r.mark) × (t.state ≡ r.state)

-- the record is that of a node that is linked at this place
pub record IsRecordAt (r : Record) (place : ℕ) : Type 0 where
  pub linked : r.state ≡ Linked
  pub at : r.place ≡ place

-- the record is that of a linked node without uses
pub record IsUnused (r : Record) : Type 0 where
  pub linked : r.state ≡ Linked
  pub none : r.uses ≡ 0
