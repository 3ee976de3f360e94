-- What the private functions of a join of parts ask and ensure.
use Rattle.std.specs.Prelude.{◌≡◌, ℕ, ◌+◌, ◌<◌, length}
use Rattle.sd_model.specs.Tree.{Tree}
use Rattle.sd_model.specs.Expression.{expression_value}
use Rattle.sd_formula.specs.Dimacs.{Groups}
use Rattle.sd_formula.specs.Formulas.{expression_of}
use Rattle.sd_manager.specs.Table.{Table}
use Rattle.sd_manager.specs.Making.{IsPastBound}
use Rattle.sd_compile.specs.Total.{IsWithinLimit}
use Rattle.sd_compile.specs.Compiling.{prefix_of, PassesLimit}
use Rattle.sd_compile.specs.declared.error.CompileError.{CompileError}
use Rattle.sd_compile.specs.declared.error.CompileError.TheVariants.{OverLimit, ArenaFull, OutOfMemory}
use Rattle.sd_records.specs.Records.{FlatDiagram, AreRecords, UnfoldToValue}
use Rattle.sd_parts.specs.Parts.{part_of, first_of_part, HasGroup, PartFits}

-- behind each of the first n parts that has a group, the prefix is within the limit beside what other roots hold
abbrev pub AreJoinsWithin : Table → Groups → ℕ → ℕ → ℕ → Type 0
AreJoinsWithin others f k limit n =
    (i : ℕ) → i < n → HasGroup f k i → IsWithinLimit others (prefix_of f (first_of_part f k (i + 1))) limit

-- the records of part i of k, each of whose prefixes is within the limit alone
pub record IsCompiledPart (f : Groups) (t : Tree) (limit k i : ℕ) (records : FlatDiagram) : Type 0 where
  pub fits : PartFits t limit (part_of f k i) (length (part_of f k i).groups)
  pub are : AreRecords t records
  pub value : UnfoldToValue t records (expression_value (expression_of (part_of f k i)))

-- Why the groups from one number up to another were not joined to the prefix before them: with them the total size
-- passes the limit, the arena was full, or there was no memory.
abbrev pub IsTurnRefused : Table → Table → Groups → ℕ → ℕ → ℕ → CompileError → Type 0
IsTurnRefused others new f first last limit (OverLimit group size most) =
    (first < last) × (group ≡ last) × PassesLimit others f limit group size most
IsTurnRefused others new f first last limit (ArenaFull elements) = IsPastBound new elements
IsTurnRefused others new f first last limit OutOfMemory = Unit {0}

-- the first part behind which the prefix passes the limit beside what other roots hold, which ends with this group
pub record PassesAtJoin (others : Table) (f : Groups) (k limit group size most : ℕ) : Type 0 where
  pub part : ℕ
  pub there : part < k
  pub has_group : HasGroup f k part
  pub number : group ≡ first_of_part f k (part + 1)
  pub earlier : AreJoinsWithin others f k limit part
  pub passes : PassesLimit others f limit group size most

-- why the parts were not all joined
abbrev pub IsJoinRefused : Table → Table → Groups → ℕ → ℕ → CompileError → Type 0
IsJoinRefused others new f k limit (OverLimit group size most) = PassesAtJoin others f k limit group size most
IsJoinRefused others new f k limit (ArenaFull elements) = IsPastBound new elements
IsJoinRefused others new f k limit OutOfMemory = Unit {0}
