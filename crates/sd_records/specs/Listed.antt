-- What is listed of the nodes of a manager while they are written as records.
use Rattle.std.specs.Prelude.{◌≡◌, ◌⊎◌, ℕ, ◌+◌, ◌-◌, ◌<◌, ◌≤◌, ◌^◌, List, [], ◌∷◌, ◌++◌, map, length, slice_get}
use Rattle.std.specs.Prelude.{Some, slice_index_or, nat_lt, ◌==◌, if◌then◌else◌}
use Rattle.std.specs.List.{AllByRecursion}
use Rattle.std.specs.FinMap.{get}
use Rattle.sd_model.specs.Diagram.{Diagram}
use Rattle.sd_vtree.specs.Numbered.{numbers}
use Rattle.sd_laws.specs.Depth.{depth}
use Rattle.sd_manager.specs.Table.{Table}
use Rattle.sd_manager.specs.Shown.{ShowsCanonical, IsNodeOf}
use Rattle.sd_records.specs.declared.listing.Listing.{Listing}
use Rattle.sd_records.specs.Stored.{refs_of, entries_of, pair_count}

-- at the number of a node one more than the index of its entry, or 0 where it has none
abbrev pub mark_at : List ℕ → ℕ → ℕ
mark_at marks n = slice_index_or marks n 0

-- the code of a node among the records
abbrev pub code_in : List ℕ → ℕ → ℕ
code_in marks c = if nat_lt c 2050 then c else mark_at marks (c - 2050) + 2049

-- the codes of a prime and a sub
abbrev pub codes_in : List ℕ → ℕ × ℕ → ℕ × ℕ
codes_in marks e = (code_in marks e.0, code_in marks e.1)

-- the code is of a constant or a literal, or of a node that has an entry
abbrev pub IsListed : List ℕ → ℕ → Type 0
IsListed marks c = 2050 ≤ c → 0 < mark_at marks (c - 2050)

-- so are both codes of a pair
abbrev pub BothListed : List ℕ → ℕ × ℕ → Type 0
BothListed marks e = IsListed marks e.0 × IsListed marks e.1

-- its entry is one of the first i
abbrev pub IsListedBefore : List ℕ → ℕ → ℕ → Type 0
IsListedBefore marks i c = 2050 ≤ c → (0 < mark_at marks (c - 2050)) × (mark_at marks (c - 2050) ≤ i)

-- so are those of both codes of a pair
abbrev pub BothListedBefore : List ℕ → ℕ → ℕ × ℕ → Type 0
BothListedBefore marks i e = IsListedBefore marks i e.0 × IsListedBefore marks i e.1

-- no mark is past the number of entries, which is a small one
pub record AreMarks (marks : List ℕ) (count : ℕ) : Type 0 where
  pub low : (n : ℕ) → mark_at marks n ≤ count
  pub few : count ≤ 2 ^ 31

-- the node with this key has its entry, behind those of its pairs
pub record IsEntryOf (t : Table) (l : Listing) (n place : ℕ) (list : List (ℕ × ℕ)) : Type 0 where
  pub position : ℕ
  pub is : slice_get (entries_of l.heads.items l.pairs.items) (mark_at l.marks.items n - 1)
      ≡ Some (position, map (λ e. refs_of (codes_in l.marks.items e)) list)
  pub stands : slice_get (numbers t.vtree) position ≡ Some place
  pub earlier : AllByRecursion (BothListedBefore l.marks.items (mark_at l.marks.items n - 1)) list

-- each marked node has its entry, and each entry is that of a node that shows a canonical diagram
pub record AreListed (t : Table) (l : Listing) : Type 0 where
  pub counted : pair_count l.heads.items ≡ length l.pairs.items
  pub marks : AreMarks l.marks.items (length l.heads.items)
  pub listed : (n place : ℕ) (list : List (ℕ × ℕ)) → get t.linked n ≡ Some (place, list) →
      0 < mark_at l.marks.items n → IsEntryOf t l n place list
  pub nodes : (i : ℕ) → i < length l.heads.items →
      (n : ℕ) × (mark_at l.marks.items n ≡ i + 1) × IsNodeOf t (2050 + n)

-- what has an entry keeps it
abbrev pub KeepsMarks : Listing → Listing → Type 0
KeepsMarks old new =
    (n : ℕ) → 0 < mark_at old.marks.items n → mark_at new.marks.items n ≡ mark_at old.marks.items n

-- the node of a number, which had none, got an entry behind all others
pub record IsAdded (old new : Listing) (n position : ℕ) (list : List (ℕ × ℕ)) : Type 0 where
  pub none : mark_at old.marks.items n ≡ 0
  pub few : length old.heads.items < 2 ^ 31
  pub heads : new.heads.items ≡ old.heads.items ++ (record { position = position; count = length list }) ∷ []
  pub pairs : new.pairs.items ≡ old.pairs.items ++ map (codes_in old.marks.items) list
  pub marks : (k : ℕ) → mark_at new.marks.items k
      ≡ (if k == n then length old.heads.items + 1 else mark_at old.marks.items k)

-- so it is, or it had one and nothing changed
abbrev pub HasEntryNow : Listing → Listing → ℕ → ℕ → List (ℕ × ℕ) → Type 0
HasEntryNow old new n position list =
    ((0 < mark_at old.marks.items n) × (new ≡ old)) ⊎ IsAdded old new n position list

-- the code shows a diagram of at most so many levels of decompositions
abbrev pub IsShownWithin : Table → ℕ → ℕ → Type 0
IsShownWithin t levels c = (d : Diagram) × ShowsCanonical t c d × (depth d ≤ levels)
