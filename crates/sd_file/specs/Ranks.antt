-- Ranks of codes, which are compared as the diagrams that the codes show, and how they are given.
use Rattle.std.specs.Prelude.{◌≡◌, ◌⊎◌, ℕ, ◌+◌, ◌<◌, ◌≤◌, ◌==◌, Bool, true, false, slice_index_or, [], ◌∷◌}
use Rattle.std.specs.Prelude.{◌++◌, List, length, map, take, drop, Option, Some, None, if◌then◌else◌}
use Rattle.std.specs.List.{AllByRecursion, IsDistinct}
use Rattle.std.specs.List.Sorted.{IsStrictlySortedBy}
use Rattle.std.specs.Option.{IsSome}
use Rattle.std.proofs.Math.Dec.{eqb}
use Rattle.std.specs.BTreeMap as tree
use Rattle.std.specs.BTreeMap.{BTreeMap}
use Rattle.std.specs.FinMap.{get}
use Rattle.std.specs.Cmp.Lexicographic.{slice_cmp}
use Rattle.std.specs.Ordering.{nat_cmp, bool_cmp, ordering_then}
use Rattle.std.specs.declared.cmp.Ordering.{Ordering}
use Rattle.std.specs.declared.cmp.Ordering.TheVariants.{Less, Greater}
use Rattle.std.specs.declared.vec.Vec.{Vec}
use Rattle.std.specs.declared.alloc.Global.{Global}
use Rattle.sd_model.specs.Diagram.{Diagram, Bottom, Top, Literal, Decomposition, Elements, diagram_cmp}
use Rattle.sd_model.specs.Canonical.{IsCanonical}
use Rattle.sd_vtree.specs.Numbered.{Numbered, plain_tree, subtree}
use Rattle.sd_laws.specs.Depth.{depth}
use Rattle.sd_laws.specs.Shown.{ShowElements}
use Rattle.sd_laws.proofs.Lists.{IsAmong}
use Rattle.sd_laws.proofs.Numbers.{PartAt}
use Rattle.sd_manager.specs.Table.{Table}
use Rattle.sd_manager.specs.Shown.{Shows, ShowsCanonical}
use Rattle.sd_manager.specs.Views.{pairs_at}
use Rattle.sd_manager.specs.Valid.{IsTable}
use Rattle.sd_file.specs.declared.known.Ordered.{Ordered}
use Rattle.sd_file.specs.declared.known.Rank.TheVariants as rank
use Rattle.sd_file.specs.declared.order.Found.{Found}
use Rattle.sd_file.specs.Ordered.{Rank, rank_of, list_of}

-- a prime and a sub, by their ranks and by their codes
abbrev pub Ranked : Type 0
Ranked = Rank × Rank × ℕ × ℕ

-- a decomposition: the number of its elements, these, and its code
abbrev pub RankedNode : Type 0
RankedNode = ℕ × Vec Ranked Global × ℕ

-- The order of ranks: false, true, literals by position and the negative one first, and decompositions by position,
-- then by their place among those of one position.
abbrev pub rank_cmp : Rank → Rank → Ordering
rank_cmp (rank.Constant a) (rank.Constant b) = bool_cmp a b
rank_cmp (rank.Constant a) _ = Less
rank_cmp (rank.Literal p s) (rank.Constant b) = Greater
rank_cmp (rank.Literal p s) (rank.Literal q t) = ordering_then (nat_cmp p q) (bool_cmp s t)
rank_cmp (rank.Literal p s) (rank.Decomposition q j) = Less
rank_cmp (rank.Decomposition p i) (rank.Decomposition q j) = ordering_then (nat_cmp p q) (nat_cmp i j)
rank_cmp (rank.Decomposition p i) _ = Greater

-- the order of elements by ranks, and by codes where these are equal
abbrev pub ranked_cmp : Ranked → Ranked → Ordering
ranked_cmp e f =
    ordering_then (ordering_then (ordering_then (rank_cmp e.0 f.0) (rank_cmp e.1 f.1)) (nat_cmp e.2 f.2))
    (nat_cmp e.3 f.3)

-- the order of decompositions of one position
abbrev pub entry_cmp : RankedNode → RankedNode → Ordering
entry_cmp x y =
    ordering_then (ordering_then (nat_cmp x.0 y.0) (slice_cmp ranked_cmp x.1.items y.1.items)) (nat_cmp x.2 y.2)

-- the codes of an element
abbrev pub codes_of : Ranked → ℕ × ℕ
codes_of e = (e.2, e.3)

-- the rank is of the diagram's kind and position
abbrev pub FitsRank : Diagram → Rank → Type 0
FitsRank Bottom r = r ≡ rank.Constant false
FitsRank Top r = r ≡ rank.Constant true
FitsRank (Literal p x positive) r = r ≡ rank.Literal p positive
FitsRank (Decomposition p es) r = (place : ℕ) × (r ≡ rank.Decomposition p place)

-- both codes of a pair have ranks
abbrev pub HasRanks : Ordered → ℕ × ℕ → Type 0
HasRanks o e = IsSome (rank_of o e.0) × IsSome (rank_of o e.1)

-- the ranks of an element are those of its codes
abbrev pub IsRanked : Ordered → Ranked → Type 0
IsRanked o e = (rank_of o e.2 ≡ Some e.0) × (rank_of o e.3 ≡ Some e.1)

-- the list of a code shows the elements, and their codes have ranks
pub record IsListed (t : Table) (o : Ordered) (c : ℕ) (es : Elements) : Type 0 where
  pub list : List (ℕ × ℕ)
  pub is : list_of o c ≡ Some list
  pub shown : ShowElements t.vtree (get t.linked) list es
  pub ranked : AllByRecursion (HasRanks o) list

-- Each rank fits the diagram of its code, two ranks are compared as the diagrams are, and each decomposition with a
-- rank has its list.
pub record AreRanks (t : Table) (o : Ordered) : Type 0 where
  pub fits : (c : ℕ) (r : Rank) (d : Diagram) → rank_of o c ≡ Some r → Shows t c d → FitsRank d r
  pub order : (c b : ℕ) (r s : Rank) (d e : Diagram) → rank_of o c ≡ Some r → rank_of o b ≡ Some s → Shows t c d →
      Shows t b e → rank_cmp r s ≡ diagram_cmp d e
  pub lists : (c p : ℕ) (r : Rank) (es : Elements) → rank_of o c ≡ Some r → Shows t c (Decomposition p es) →
      IsListed t o c es

-- the entry has the elements of its decomposition at the position, in the structural order
pub record IsEntry (t : Table) (o : Ordered) (p : ℕ) (entry : RankedNode) : Type 0 where
  pub elements : Elements
  pub shown : Shows t entry.2 (Decomposition p elements)
  pub list : ShowElements t.vtree (get t.linked) (map codes_of entry.1.items) elements
  pub ranked : AllByRecursion (IsRanked o) entry.1.items
  pub count : entry.0 ≡ length entry.1.items

-- each decomposition with a rank at the position is less than that of the entry
abbrev pub IsPast : Table → Ordered → ℕ → RankedNode → Type 0
IsPast t o p entry =
    (c : ℕ) (r : Rank) (es fs : Elements) → rank_of o c ≡ Some r → Shows t c (Decomposition p es) →
    Shows t entry.2 (Decomposition p fs) → diagram_cmp (Decomposition p es) (Decomposition p fs) ≡ Less

-- no group is left at a position at which a decomposition has a rank
abbrev pub IsFresh : Table → Ordered → BTreeMap ℕ (Vec ℕ Global) → Type 0
IsFresh t o groups =
    (c p : ℕ) (r : Rank) (es : Elements) (v : Vec ℕ Global) → rank_of o c ≡ Some r →
    Shows t c (Decomposition p es) → ¬ (tree.get nat_cmp groups p ≡ Some v)

-- the entries that are left of a position are to have ranks with this place and the next ones
pub record IsGiving (t : Table) (o : Ordered) (groups : BTreeMap ℕ (Vec ℕ Global)) (p index : ℕ)
    (left : List RankedNode) : Type 0 where
  pub ranks : AreRanks t o
  pub fresh : IsFresh t o groups
  pub gone : (v : Vec ℕ Global) → ¬ (tree.get nat_cmp groups p ≡ Some v)
  pub below : (c place : ℕ) (es : Elements) → rank_of o c ≡ Some (rank.Decomposition p place) →
      Shows t c (Decomposition p es) → place < index
  pub past : AllByRecursion (IsPast t o p) left
  pub entries : AllByRecursion (IsEntry t o p) left
  pub ascending : IsStrictlySortedBy entry_cmp left

-- only this code got a rank and a list
pub record HasNewRank (old new : Ordered) (c : ℕ) (r : Rank) (list : List (ℕ × ℕ)) : Type 0 where
  pub ranks : (b : ℕ) → rank_of new b ≡ (if b == c then Some r else rank_of old b)
  pub lists : (b : ℕ) → list_of new b ≡ (if b == c then Some list else list_of old b)

-- the code is of a decomposition at the position
abbrev pub IsNodeAt : Table → ℕ → ℕ → Type 0
IsNodeAt t p c = (es : Elements) × ShowsCanonical t c (Decomposition p es)

-- codes of distinct decompositions at the position
pub record IsGroup (t : Table) (p : ℕ) (group : List ℕ) : Type 0 where
  pub each : AllByRecursion (IsNodeAt t p) group
  pub distinct : IsDistinct eqb group

-- each group is one of its position
abbrev pub AreGroups : Table → BTreeMap ℕ (Vec ℕ Global) → Type 0
AreGroups t groups = (p : ℕ) (v : Vec ℕ Global) → tree.get nat_cmp groups p ≡ Some v → IsGroup t p v.items

-- the code stands in a group
pub record IsLeft (groups : BTreeMap ℕ (Vec ℕ Global)) (c : ℕ) : Type 0 where
  pub position : ℕ
  pub group : Vec ℕ Global
  pub is : tree.get nat_cmp groups position ≡ Some group
  pub among : IsAmong c group.items

-- the code has a rank or stands in a group
abbrev pub HasRankOrGroup : Ordered → BTreeMap ℕ (Vec ℕ Global) → ℕ → Type 0
HasRankOrGroup o groups c = IsSome (rank_of o c) ⊎ IsLeft groups c

-- so do both codes of a pair
abbrev pub BothHaveRankOrGroup : Ordered → BTreeMap ℕ (Vec ℕ Global) → ℕ × ℕ → Type 0
BothHaveRankOrGroup o groups e = HasRankOrGroup o groups e.0 × HasRankOrGroup o groups e.1

-- so do those of the pairs of each code in a group
abbrev pub AreClosed : Table → Ordered → BTreeMap ℕ (Vec ℕ Global) → Type 0
AreClosed t o groups = (c : ℕ) → IsLeft groups c → AllByRecursion (BothHaveRankOrGroup o groups) (pairs_at t c)

-- what had a rank or stood in a group still does
abbrev pub KeepRankOrGroup : Ordered → Ordered → BTreeMap ℕ (Vec ℕ Global) → BTreeMap ℕ (Vec ℕ Global) → Type 0
KeepRankOrGroup old new before after = (c : ℕ) → HasRankOrGroup old before c → HasRankOrGroup new after c

-- what had a rank still has one
abbrev pub KeepRanks : Ordered → Ordered → Type 0
KeepRanks old new = (c : ℕ) → IsSome (rank_of old c) → IsSome (rank_of new c)

-- the codes of all pairs of the code have ranks
abbrev pub HasRankedPairs : Table → Ordered → ℕ → Type 0
HasRankedPairs t o c = AllByRecursion (HasRanks o) (pairs_at t c)

-- the groups of decompositions that have no ranks yet, by their positions
pub record AreLeft (t : Table) (o : Ordered) (groups : BTreeMap ℕ (Vec ℕ Global)) : Type 0 where
  pub ranks : AreRanks t o
  pub each : AreGroups t groups
  pub fresh : IsFresh t o groups
  pub closed : AreClosed t o groups

-- the diagram is canonical for the subtree of the vtree node with the number u
pub record IsCanonicalForSubtree (t : Numbered) (u : ℕ) (d : Diagram) : Type 0 where
  pub part : Numbered
  pub is : subtree t u ≡ Some part
  pub at : PartAt t u part 0
  pub canonical : IsCanonical (plain_tree part) (0 + at.skip) d

-- the decompositions at and below a vtree node got ranks
pub record AreRankedBelow (t : Table) (old new : Ordered) (before after : BTreeMap ℕ (Vec ℕ Global))
    (u : ℕ) : Type 0 where
  pub left : AreLeft t new after
  pub keeps_all : KeepRankOrGroup old new before after
  pub fewer : (c : ℕ) → IsLeft after c → IsLeft before c
  pub none : (c : ℕ) (d : Diagram) → IsLeft after c → Shows t c d → ¬ IsCanonicalForSubtree t.vtree u d

-- no decomposition at the position has a rank
abbrev pub NoneAt : Table → Ordered → ℕ → Type 0
NoneAt t o p = (c : ℕ) (r : Rank) (es : Elements) → rank_of o c ≡ Some r → ¬ Shows t c (Decomposition p es)

-- the rank is of the diagram, which is no decomposition
abbrev pub FitsPlain : Diagram → Rank → Type 0
FitsPlain (Decomposition p es) r = ⊥
FitsPlain d r = FitsRank d r

-- only constants and literals have ranks
abbrev pub ArePlain : Table → Ordered → Type 0
ArePlain t o = (c : ℕ) (r : Rank) (d : Diagram) → rank_of o c ≡ Some r → Shows t c d → FitsPlain d r

-- a code was seen
abbrev pub seen_at : List Bool → ℕ → Bool
seen_at seen c = slice_index_or seen c false

-- and in what was found
abbrev pub was_seen : Found → ℕ → Bool
was_seen f c = seen_at f.seen.items c

-- the codes in the groups are those that were seen, and each group is one of its position
pub record AreFound (t : Table) (f : Found) : Type 0 where
  pub each : AreGroups t f.groups
  pub seen : (p : ℕ) (v : Vec ℕ Global) → tree.get nat_cmp f.groups p ≡ Some v →
      AllByRecursion (λ c. was_seen f c ≡ true) v.items
  pub among : (c : ℕ) → was_seen f c ≡ true → IsLeft f.groups c

-- Only constants and literals have ranks, and the codes of the pairs of each decomposition that is found have ranks or
-- are found.
pub record AreCollected (t : Table) (o : Ordered) (f : Found) : Type 0 where
  pub plain : ArePlain t o
  pub found : AreFound t f
  pub closed : AreClosed t o f.groups

-- what was found or had a rank still is or does
abbrev pub KeepCollected : Ordered → Ordered → Found → Found → Type 0
KeepCollected o p f g = KeepRankOrGroup o p f.groups g.groups

-- the codes in a group, or none
abbrev pub items_of : Option (Vec ℕ Global) → List ℕ
items_of None = []
items_of (Some v) = v.items

-- only this code was added, at the position
pub record IsAdded (old new : Found) (p c : ℕ) : Type 0 where
  pub group : Vec ℕ Global
  pub is : tree.get nat_cmp new.groups p ≡ Some group
  pub items : group.items ≡ items_of (tree.get nat_cmp old.groups p) ++ c ∷ []
  pub others : (q : ℕ) → (q ≡ p → ⊥) → tree.get nat_cmp new.groups q ≡ tree.get nat_cmp old.groups q
  pub seen : (b : ℕ) → was_seen new b ≡ (if b == c then true else was_seen old b)

-- the elements so far are those of the first pairs of the node
pub record HasRankedTo (t : Table) (o : Ordered) (c i : ℕ) (so_far : List Ranked) : Type 0 where
  pub pairs : map codes_of so_far ≡ take i (pairs_at t c)
  pub ranked : AllByRecursion (IsRanked o) so_far

-- the entries so far are those of the first codes of the group
pub record HasEntries (t : Table) (o : Ordered) (group : List ℕ) (i : ℕ) (so_far : List RankedNode) : Type 0 where
  pub codes : map (λ (e : RankedNode). e.2) so_far ≡ take i group
  pub entries : (p : ℕ) → AllByRecursion (IsNodeAt t p) group → AllByRecursion (IsEntry t o p) so_far

-- the first entries of a position have their ranks
abbrev pub HasGiven : Ordered → Ordered → ℕ → ℕ → List RankedNode → Type 0
HasGiven old new p i entries =
    (t : Table) (groups : BTreeMap ℕ (Vec ℕ Global)) → IsTable t → IsGiving t old groups p 0 entries →
    IsGiving t new groups p i (drop i entries)

-- the code is found too, and no other that was not
pub record IsFoundAlso (old new : Found) (c : ℕ) : Type 0 where
  pub here : IsLeft new.groups c
  pub kept : (b : ℕ) → IsLeft old.groups b → IsLeft new.groups b
  pub only : (b : ℕ) → IsLeft new.groups b → (b ≡ c) ⊎ IsLeft old.groups b

-- the first entries of a position have ranks, and what had a rank still has one
pub record HaveRanksTo (old new : Ordered) (i : ℕ) (entries : List RankedNode) : Type 0 where
  pub kept : KeepRanks old new
  pub given : AllByRecursion (λ (e : RankedNode). IsSome (rank_of new e.2)) (take i entries)

-- the codes of the first pairs of a node have ranks or are found
pub record HasCollectedTo (t : Table) (old new : Ordered) (f g : Found) (c i : ℕ) : Type 0 where
  pub collected : AreCollected t new g
  pub keeps_all : KeepCollected old new f g
  pub stand : AllByRecursion (BothHaveRankOrGroup new g.groups) (take i (pairs_at t c))

-- the code shows a canonical diagram of at most so many levels of decompositions
abbrev pub IsShownWithin : Table → ℕ → ℕ → Type 0
IsShownWithin t levels c = (d : Diagram) × ShowsCanonical t c d × (depth d ≤ levels)

-- the first of these codes have ranks or are found
pub record HaveCollectedTo (t : Table) (o : Ordered) (f : Found) (codes : List ℕ) (i : ℕ) : Type 0 where
  pub collected : AreCollected t o f
  pub stand : AllByRecursion (HasRankOrGroup o f.groups) (take i codes)
