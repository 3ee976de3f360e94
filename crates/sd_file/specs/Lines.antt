-- What a writer of SDD files knows: the diagrams that are complete, their numbers by code, and their lines.
use Rattle.std.specs.Prelude.{◌≡◌, ℕ, suc, ◌≤◌, true, cond, List, ◌++◌, map, length}
use Rattle.std.specs.List.{flat_map}
use Rattle.sd_model.specs.Diagram.{Diagram, Decomposition, Elements}
use Rattle.sd_model.specs.Canonical.{IsElement}
use Rattle.sd_model.specs.Listing.{is_among}
use Rattle.sd_model.specs.Text.{index_of, node_words, line_text}
use Rattle.sd_laws.specs.Depth.{depth}
use Rattle.sd_manager.specs.Table.{Table}
use Rattle.sd_manager.specs.Shown.{Shows, ShowsCanonical}
use Rattle.sd_file.specs.declared.lines.Listing.{Listing}
use Rattle.sd_file.specs.declared.numbers.Numbers.{Numbers}
use Rattle.sd_file.specs.Numbers.{mark_at, HaveRoom, HasNextNumber}
use Rattle.sd_file.specs.Ordered.{Lists, IsOrdered}

-- one more than the index of a diagram in a list, or 0 where it is not there
abbrev pub mark_in : List Diagram → Diagram → ℕ
mark_in ds d = cond (is_among d ds) (suc (index_of d ds)) 0

-- the code of each diagram has its index among the complete ones as number
pub record AreNumbered (t : Table) (numbers : Numbers) (ds : List Diagram) : Type 0 where
  pub marks : (c : ℕ) (d : Diagram) → Shows t c d → mark_at numbers c ≡ mark_in ds d
  pub count : numbers.count ≡ length ds
  pub room : HaveRoom numbers

-- the primes and subs of a diagram in the list stand there too
abbrev pub AreComplete : List Diagram → Type 0
AreComplete ds =
    (q : ℕ) (es : Elements) → is_among (Decomposition q es) ds ≡ true → (p s : Diagram) → IsElement p s es →
    (is_among p ds ≡ true) × (is_among s ds ≡ true)

-- the lines of the diagrams of a list
abbrev pub diagram_lines : List Diagram → List ℕ
diagram_lines ds = flat_map line_text (map (node_words ds) ds)

-- these diagrams are complete: they have their numbers, and their lines are written
pub record HasNodeLines (t : Table) (listing : Listing) (ds : List Diagram) : Type 0 where
  pub numbered : AreNumbered t listing.numbers ds
  pub complete : AreComplete ds
  pub text : listing.text.items ≡ diagram_lines ds

-- the code got the next number, and a line with these words was written
pub record HasNodeLine (old new : Listing) (code : ℕ) (words : List (List ℕ)) : Type 0 where
  pub given : HasNextNumber old.numbers new.numbers code
  pub text : new.text.items ≡ old.text.items ++ line_text words

-- the code shows a diagram of at most so many levels of decompositions, whose elements are kept in order
abbrev pub CanBeWalked : Table → Lists → ℕ → ℕ → Type 0
CanBeWalked t lists levels c = (d : Diagram) × ShowsCanonical t c d × (depth d ≤ levels) × IsOrdered t d lists

-- and so do both codes of a pair
abbrev pub BothCanBeWalked : Table → Lists → ℕ → ℕ × ℕ → Type 0
BothCanBeWalked t lists levels e = CanBeWalked t lists levels e.0 × CanBeWalked t lists levels e.1
