-- What a manager of diagrams is seen as: its vtree, its numbered nodes, its roots and its arena.
use Rattle.std.specs.Prelude.{ℕ, ◌+◌, List, Option, None, ◌==◌, if◌then◌else◌, unwrap_or, refl}
use Rattle.std.specs.List.{sum_by}
use Rattle.std.specs.Ordering.{nat_cmp}
use Rattle.std.specs.FinMap.{FinMap, empty, get, values}
use Rattle.std.specs.Coded.{Coded, code_by, coded×, coded_option, coded_ℕ}
use Rattle.sd_vtree.specs.Numbered.{Numbered, or_else}
use Rattle.sd_vtree.specs.NumberedCode.{numbered_code}
use Rattle.sd_unique.specs.Nodes.{Lists, lists_code, counts_code}

-- A node has a place, which is the number of a vtree node, and a list of pairs of codes. The maps `linked` and
-- `detached` have the nodes by number, and `marks` has the mark of each; a loose run is a list of no node. A root is a
-- number that holds a code. The epoch rises when a node is taken away or the vtree is moved, and `records` is how many
-- numbers were ever given to nodes. Of the arena the extent, the bound and the number of free runs of each length are
-- seen. `moving` is the place of a move that is going on. Outside a move it is None and there are no detached nodes; a
-- loose run may stay until it is given back.
pub record Table : Type 0 where
  pub vtree : Numbered
  pub linked : FinMap nat_cmp (ℕ × List (ℕ × ℕ))
  pub detached : FinMap nat_cmp (ℕ × List (ℕ × ℕ))
  pub loose : FinMap nat_cmp (List (ℕ × ℕ))
  pub marks : FinMap nat_cmp ℕ
  pub free : FinMap nat_cmp ℕ
  pub roots : FinMap nat_cmp ℕ
  pub epoch : ℕ
  pub records : ℕ
  pub extent : ℕ
  pub bound : ℕ
  pub moving : Option ℕ

-- the parts of the table: the tree, the lists, the maps of numbers, and the numbers
abbrev pub Parts : Type 0
Parts =
    Numbered
    × (Lists
    × ((FinMap nat_cmp ℕ × (FinMap nat_cmp ℕ × FinMap nat_cmp ℕ)) × (ℕ × (ℕ × (ℕ × (ℕ × Option ℕ))))))

-- how the maps from numbers to numbers are stored
abbrev pub maps_code : Coded (FinMap nat_cmp ℕ × (FinMap nat_cmp ℕ × FinMap nat_cmp ℕ))
maps_code = coded× counts_code (coded× counts_code counts_code)

-- how the numbers are stored
abbrev pub numbers_code : Coded (ℕ × (ℕ × (ℕ × (ℕ × Option ℕ))))
numbers_code = coded× coded_ℕ (coded× coded_ℕ (coded× coded_ℕ (coded× coded_ℕ (coded_option coded_ℕ))))

-- how the parts are stored
abbrev pub parts_code : Coded Parts
parts_code = coded× numbered_code (coded× lists_code (coded× maps_code numbers_code))

-- the parts of this table
abbrev pub parts_of : Table → Parts
parts_of t = (
  t.vtree,
  (
    (t.linked, (t.detached, t.loose)),
    ((t.marks, (t.free, t.roots)), (t.epoch, (t.records, (t.extent, (t.bound, t.moving))))),
  ),
)

-- the table of these parts
abbrev pub of_parts : Parts → Table
of_parts p =
    record {
      vtree = p.0;
      linked = p.1.0.0;
      detached = p.1.0.1.0;
      loose = p.1.0.1.1;
      marks = p.1.1.0.0;
      free = p.1.1.0.1.0;
      roots = p.1.1.0.1.1;
      epoch = p.1.1.1.0;
      records = p.1.1.1.1.0;
      extent = p.1.1.1.1.1.0;
      bound = p.1.1.1.1.1.1.0;
      moving = p.1.1.1.1.1.1.1;
    }

-- the table is stored as its parts
abbrev pub table_code : Coded Table
table_code = code_by Parts parts_code parts_of of_parts (λ _. refl)

-- a table of no nodes and no roots
abbrev pub no_table : Numbered → ℕ → Table
no_table vtree bound =
    record {
      vtree = vtree;
      linked = empty;
      detached = empty;
      loose = empty;
      marks = empty;
      free = empty;
      roots = empty;
      epoch = 0;
      records = 0;
      extent = 0;
      bound = bound;
      moving = None;
    }

-- the place and the list of a node, linked or detached
abbrev pub key_at : Table → ℕ → Option (ℕ × List (ℕ × ℕ))
key_at t n = or_else (get t.linked n) (get t.detached n)

-- the number of free runs of a length
abbrev pub free_count : Table → ℕ → ℕ
free_count t n = unwrap_or (get t.free n) 0

-- how often a code is one of two
abbrev pub uses_of_pair : ℕ → ℕ × ℕ → ℕ
uses_of_pair c e = (if e.0 == c then 1 else 0) + (if e.1 == c then 1 else 0)

-- how often a code stands in a list of pairs
abbrev pub uses_in : ℕ → List (ℕ × ℕ) → ℕ
uses_in c list = sum_by (uses_of_pair c) list

-- how often a code is used: the times that it stands in a list of a node or a loose run, and the roots that hold it
abbrev pub uses_of : Table → ℕ → ℕ
uses_of t c =
    sum_by (λ (k : ℕ × List (ℕ × ℕ)). uses_in c k.1) (values t.linked)
    + sum_by (λ (k : ℕ × List (ℕ × ℕ)). uses_in c k.1) (values t.detached)
    + sum_by (uses_in c) (values t.loose)
    + sum_by (λ held. if held == c then 1 else 0) (values t.roots)
