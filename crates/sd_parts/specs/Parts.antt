-- A formula that is compiled in parts: the groups of each part, where a part or the join of parts passes the limit, and
-- the outcome of the whole.
use Rattle.std.specs.Prelude.{◌≡◌, ◌⊎◌, ℕ, ◌+◌, ◌*◌, ◌/◌, ◌<◌, ◌≤◌, List, [], ◌∷◌, length}
use Rattle.sd_model.specs.Tree.{Tree}
use Rattle.sd_model.specs.Expression.{Expression}
use Rattle.sd_model.specs.Size.{HasSize}
use Rattle.sd_formula.specs.Dimacs.{Groups}
use Rattle.sd_formula.specs.Formulas.{groups_part}
use Rattle.sd_compile.specs.Compiling.{prefix_of}

-- of g groups in k parts: how many stand before part i, where parts are counted from 0
abbrev pub part_begin : ℕ → ℕ → ℕ → ℕ
part_begin g k i = (i * g) / k

-- how many groups of the formula stand before part i of k
abbrev pub first_of_part : Groups → ℕ → ℕ → ℕ
first_of_part f k i = part_begin (length f.groups) k i

-- the formula of the groups of part i of k
abbrev pub part_of : Groups → ℕ → ℕ → Groups
part_of f k i = groups_part f (first_of_part f k i) (first_of_part f k (i + 1))

-- part i of k has a group
abbrev pub HasGroup : Groups → ℕ → ℕ → Type 0
HasGroup f k i = first_of_part f k i < first_of_part f k (i + 1)

-- the formulas' diagrams at the tree have a size together that is within the limit
abbrev pub SizeIsWithin : Tree → ℕ → List Expression → Type 0
SizeIsWithin t limit fs = (size : ℕ) × HasSize fs t size × (size ≤ limit)

-- each prefix of 1 to n groups of a part, alone at the tree, is within the limit
abbrev pub PartFits : Tree → ℕ → Groups → ℕ → Type 0
PartFits t limit part n = (m : ℕ) → 1 ≤ m → m ≤ n → SizeIsWithin t limit (prefix_of part m ∷ [])

-- the parts before this one, of k, are within the limit, each alone
abbrev pub AllPartsFit : Tree → ℕ → Groups → ℕ → ℕ → Type 0
AllPartsFit t limit f k before =
    (i : ℕ) → i < before → PartFits t limit (part_of f k i) (length (part_of f k i).groups)

-- A part, before which so many groups stand, passes the limit alone. The first of its prefixes that does has this size
-- and ends with the group of this number in the whole formula, counted from 1.
pub record PassesAlone (t : Tree) (limit : ℕ) (part : Groups) (first group size : ℕ) : Type 0 where
  pub before : ℕ
  pub left : before < length part.groups
  pub fits : PartFits t limit part before
  pub number : group ≡ first + (before + 1)
  pub total : HasSize (prefix_of part (before + 1) ∷ []) t size
  pub passes : limit < size

-- part i of k does
abbrev pub PartPasses : Tree → ℕ → Groups → ℕ → ℕ → ℕ → ℕ → Type 0
PartPasses t limit f k i group size = PassesAlone t limit (part_of f k i) (first_of_part f k i) group size

-- Behind each part before this one that has a group, what is joined so far and the formulas beside it have a size
-- together that is within the limit.
abbrev pub JoinFits : Tree → ℕ → List Expression → Groups → ℕ → ℕ → Type 0
JoinFits t limit all f k before =
    (i : ℕ) → i < before → HasGroup f k i → SizeIsWithin t limit (prefix_of f (first_of_part f k (i + 1)) ∷ all)

-- The first part that passes the limit alone, with its first group and size that do.
pub record IsFirstPart (t : Tree) (limit : ℕ) (f : Groups) (k group size : ℕ) : Type 0 where
  pub part : ℕ
  pub there : part < k
  pub earlier : AllPartsFit t limit f k part
  pub passes : PartPasses t limit f k part group size

-- Each part is within the limit alone. The first part behind which the join passes it ends with this group.
pub record IsFirstJoin (t : Tree) (limit : ℕ) (all : List Expression) (f : Groups) (k group size : ℕ) : Type 0 where
  pub parts : AllPartsFit t limit f k k
  pub part : ℕ
  pub there : part < k
  pub has_group : HasGroup f k part
  pub earlier : JoinFits t limit all f k part
  pub number : group ≡ first_of_part f k (part + 1)
  pub total : HasSize (prefix_of f group ∷ all) t size
  pub passes : limit < size

-- all parts are joined, or the limit is passed at this group, with this size
pub data PartsOutcome : Type 0 where
  Joined : PartsOutcome
  Passed : (group size : ℕ) → PartsOutcome

-- The outcome of k parts of the formula at the tree, under the limit, beside the formulas that are held already. Alone
-- only a part's own prefix counts, and in the join no part counts beside what is joined.
abbrev pub IsPartsOutcome : Tree → ℕ → List Expression → Groups → ℕ → PartsOutcome → Type 0
IsPartsOutcome t limit all f k Joined = AllPartsFit t limit f k k × JoinFits t limit all f k k
IsPartsOutcome t limit all f k (Passed group size) =
    IsFirstPart t limit f k group size ⊎ IsFirstJoin t limit all f k group size
