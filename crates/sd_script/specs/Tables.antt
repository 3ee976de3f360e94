-- The words that were seen, and the numbers that are marked.
use Rattle.std.specs.Prelude.{ℕ, Bool, false, List, map, slice_index_or}
use Rattle.sd_script.specs.declared.marks.Marks.{Marks}
use Rattle.sd_script.specs.declared.table.NameTable.{NameTable}
use Rattle.sd_script.specs.Forms.{Word}

-- the words, in the order in which they were first seen
abbrev pub table_words : NameTable → List Word
table_words table = map (λ word. word.now) table.words.keys

-- whether a number is marked
abbrev pub is_marked : Marks → ℕ → Bool
is_marked marks n = slice_index_or marks.marks.items n false
