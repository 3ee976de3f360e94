-- What is known of codes, kept by their places: one more than an index, and 0 for a code of which nothing is known.
use Rattle.std.specs.Prelude.{ℕ, zero, suc, ◌≤◌, List, length, slice_get, slice_index_or, Option, None}
use Rattle.sd_file.specs.declared.known.Known.{Known}

-- the place of a code
abbrev pub place_at : List ℕ → ℕ → ℕ
place_at places c = slice_index_or places c 0

-- what is known at a place
abbrev pub known_at : List Known → ℕ → Option Known
known_at known zero = None
known_at known (suc index) = slice_get known index

-- no place is past the end
abbrev pub ArePlaced : List ℕ → List Known → Type 0
ArePlaced places known = (c : ℕ) → place_at places c ≤ length known
