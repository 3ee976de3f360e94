-- The definitions at worked examples, over the vtree of the variables 1 and 2.
use Rattle.std.proofs.Common.{◌≡◌, Bool, true, false, List, [], ◌∷◌, Some, None, refl, ◌==◌, if◌then◌else◌, arith}
use Rattle.std.specs.List.Sorted.{IsStrictlySortedBy}
use Rattle.sd_model.specs.Tree.{Leaf, Node}
use Rattle.sd_model.specs.Diagram.{Diagram, Bottom, Top, Literal, Decomposition, End, Pair}
use Rattle.sd_laws.specs.Depth.{depth}
use Rattle.sd_laws.specs.Pairs.{answers, sorted, join}
use Rattle.sd_laws.specs.Parts.{leaf_position}
use Rattle.sd_vtree.specs.Numbered.{Numbered, NumberedLeaf, NumberedNode}
use Rattle.sd_laws.specs.Shown.{Lookup, literal_code, Shows}
use Rattle.sd_laws.specs.Trimming.{trim_of}

-- the literal of the variable 1, at position 0, and its negation
abbrev one : Bool → Diagram
one s = Literal 0 1 s

-- the literal of the variable 2, at position 2
abbrev two : Bool → Diagram
two s = Literal 2 2 s

-- the partition of `1 or 2`: where 1 holds it is true, and where not it is 2
abbrev either : List (Diagram × Diagram)
either = (one true, Top) ∷ (one false, two true) ∷ []

-- exactly one prime is true, and it chooses its sub
chooses_true : answers (true ∷ false ∷ []) either ≡ true ∷ []
chooses_true = refl

-- the other prime
chooses_two : answers (false ∷ false ∷ []) either ≡ false ∷ []
chooses_two = refl

-- the negative literal comes first
is_sorted : sorted either ≡ (one false, two true) ∷ (one true, Top) ∷ []
is_sorted = refl

-- so the diagram is the decomposition of the two in this order
joins : join 1 either ≡ Decomposition 1 (Pair (one false) (two true) (Pair (one true) Top End))
joins = refl

-- one pair means its sub
joins_one : join 1 ((Top, two true) ∷ []) ≡ two true
joins_one = refl

-- the subs true and false mean the first prime
joins_first : join 1 ((one true, Top) ∷ (one false, Bottom) ∷ []) ≡ one true
joins_first = refl

-- and false and true the second
joins_second : join 1 ((one true, Bottom) ∷ (one false, Top) ∷ []) ≡ one false
joins_second = refl

-- the same by codes: 2 and 3 are the literals of 1
trims_one : trim_of ((1, 4) ∷ []) ≡ Some 4
trims_one = refl

-- two pairs with constant subs
trims_two : trim_of ((2, 0) ∷ (3, 1) ∷ []) ≡ Some 3
trims_two = refl

-- and with a sub that is no constant
trims_none : trim_of ((2, 1) ∷ (3, 4) ∷ []) ≡ None
trims_none = refl

-- literals have the codes 2x and 2x + 1
codes_two : (literal_code 2 true ≡ 4) × (literal_code 2 false ≡ 5)
codes_two = (refl, refl)

-- the leaf of the variable 2 stands at position 2, and there is none of the variable 3
leaves_at : (leaf_position (Node (Leaf 1) (Leaf 2)) 0 2 ≡ Some 2) × (leaf_position (Node (Leaf 1) (Leaf 2)) 0 3 ≡ None)
leaves_at = (refl, refl)

-- a decomposition of literals is one deep
depth_one : depth (join 1 either) ≡ 1
depth_one = refl

-- the vtree with the numbers 0, 1 and 2 in order
abbrev numbered : Numbered
numbered = NumberedNode 1 (NumberedLeaf 0 1) (NumberedLeaf 2 2)

-- one node, number 0, at the root: its pairs stand by ascending codes of their primes
abbrev nodes : Lookup
nodes n = if n == 0 then Some (1, (2, 1) ∷ (3, 4) ∷ []) else None

-- the code 2,050 shows `1 or 2`, with its elements in the structural order
shows_either : Shows numbered nodes 2050 (join 1 either)
unfolding IsStrictlySortedBy
shows_either = (
  (3, 4) ∷ (2, 1) ∷ [],
  record {
    number = 0;
    place = 1;
    list = (2, 1) ∷ (3, 4) ∷ [];
    code = refl;
    stored = refl;
    position = refl;
    order = record { moves = (0, 1) ∷ []; below = (omega arith, omega arith, tt); is = refl };
  },
  ((refl, refl), (refl, refl), ((refl, refl), refl, tt)),
  ((refl, tt), (tt, tt)),
)
