-- How records are kept: codes in one list of pairs, one entry after another, and how many pairs each entry has.
use Rattle.std.specs.Prelude.{ℕ, ◌+◌, ◌-◌, List, [], ◌∷◌, map, take, drop, ◌==◌, nat_lt, if◌then◌else◌}
use Rattle.sd_manager.specs.Literals.{literal_at}
use Rattle.sd_records.specs.declared.records.Head.{Head}
use Rattle.sd_records.specs.declared.records.Ref.{Ref}
use Rattle.sd_records.specs.declared.records.Ref.TheVariants as refs
use Rattle.sd_records.specs.Records.{Entry, FlatDiagram}

-- What has this code: constants and literals have those of nodes, and the entry at an index has 2,050 more.
abbrev pub ref_of : ℕ → Ref
ref_of c =
    if nat_lt c 2 then refs.Constant (c == 1)
    else (if nat_lt c 2050 then refs.Literal (literal_at c) else refs.Entry (c - 2050))

-- what have these two codes
abbrev pub refs_of : ℕ × ℕ → Ref × Ref
refs_of e = (ref_of e.0, ref_of e.1)

-- the entries with these heads, whose pairs stand one entry after another
abbrev pub entries_of : List Head → List (ℕ × ℕ) → List Entry
entries_of [] pairs = []
entries_of (h ∷ heads) pairs = (h.position, map refs_of (take h.count pairs)) ∷ entries_of heads (drop h.count pairs)

-- how many pairs the entries have together
abbrev pub pair_count : List Head → ℕ
pair_count [] = 0
pair_count (h ∷ heads) = h.count + pair_count heads

-- the records that these parts stand for
abbrev pub flat_of : List Head → List (ℕ × ℕ) → ℕ → FlatDiagram
flat_of heads pairs root = record { entries = entries_of heads pairs; root = ref_of root }
