-- The elements of the decompositions in a diagram, by the codes of the nodes that show them, in the structural order.
use Rattle.std.specs.Prelude.{◌≡◌, ℕ, List, Option, Some}
use Rattle.std.specs.Option.{option_map}
use Rattle.std.specs.FinMap.{get}
use Rattle.sd_model.specs.Diagram.{Diagram, Decomposition, Elements, End, Pair}
use Rattle.sd_laws.specs.Shown.{ShowElements}
use Rattle.sd_manager.specs.Table.{Table}
use Rattle.sd_manager.specs.Shown.{Shows, ShowsCanonical}
use Rattle.sd_file.specs.declared.known.Known.{Known}
use Rattle.sd_file.specs.declared.known.Ordered.{Ordered}
pub use Rattle.sd_file.specs.declared.known.Rank.{Rank}
use Rattle.sd_file.specs.Known.{place_at, known_at}

-- a list of pairs of codes for some codes
abbrev pub Lists : Type 0
Lists = ℕ → Option (List (ℕ × ℕ))

-- what is known of a code
abbrev pub known_of : Ordered → ℕ → Option Known
known_of o c = known_at o.known.items (place_at o.places.items c)

-- the elements that are kept of a decomposition, by its code
unfoldable pub list_of : Ordered → Lists
list_of o c = option_map (λ k. k.list.items) (known_of o c)

-- the rank that is kept of a code
unfoldable pub rank_of : Ordered → ℕ → Option Rank
rank_of o c = option_map (λ k. k.rank) (known_of o c)

-- the code has a list, which shows these elements one by one
pub record HasElements (t : Table) (lists : Lists) (c : ℕ) (es : Elements) : Type 0 where
  pub list : List (ℕ × ℕ)
  pub is : lists c ≡ Some list
  pub shown : ShowElements t.vtree (get t.linked) list es

abbrev mutual
  -- each code of a decomposition in the diagram, which may be the diagram itself, has the list of its elements
  pub IsOrdered : Table → Diagram → Lists → Type 0
  IsOrdered t (Decomposition p es) lists =
      ((c : ℕ) → Shows t c (Decomposition p es) → HasElements t lists c es) × AreOrdered t es lists
  IsOrdered t _ lists = Unit {0}

  -- and so in each prime and sub
  pub AreOrdered : Table → Elements → Lists → Type 0
  AreOrdered t End lists = Unit {0}
  AreOrdered t (Pair p s rest) lists = IsOrdered t p lists × IsOrdered t s lists × AreOrdered t rest lists

-- each canonical diagram that the code shows has the elements of its decompositions in order
abbrev pub HasOrder : Table → Lists → ℕ → Type 0
HasOrder t lists c = (d : Diagram) → ShowsCanonical t c d → IsOrdered t d lists
