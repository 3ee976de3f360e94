-- What is found of one node, for the contracts of private functions.
use Rattle.std.specs.Prelude.{◌≡◌, ℕ, ◌<◌, Bool, true, false, List, length, slice_index_or, Some, Result, Ok, Err}
use Rattle.sd_model.specs.Tree.{Tree, AreDistinct}
use Rattle.sd_model.specs.Diagram.{Diagram}
use Rattle.sd_model.specs.Expression.{FileDecomposition}
use Rattle.sd_vtree.specs.Numbered.{plain_tree}
use Rattle.sd_manager.specs.Table.{Table}
use Rattle.sd_manager.specs.Shown.{ShowsCanonical}
use Rattle.sd_file.specs.Files.{entry_pairs}
use Rattle.sd_file.specs.Reads.{File}
use Rattle.sd_check.specs.declared.rules.Rule.{Rule}
use Rattle.sd_check.specs.Rules.{Places, node_at, ElementsBreak, IsBroken, rank}
use Rattle.sd_check.specs.Standing.{Represents}

-- the first rule of those that are broken
pub record IsFirst (Breaks : Rule → Type 0) (rule : Rule) : Type 0 where
  pub broken : Breaks rule
  pub others : (r : Rule) → rank r < rank rule → ¬ Breaks r

-- no rule before a rank is broken
pub record HoldBefore (Breaks : Rule → Type 0) (n : ℕ) : Type 0 where
  pub each : (r : Rule) → rank r < n → ¬ Breaks r

-- the position of a decomposition's vtree node, where it breaks none of the first four rules, or the first of them
abbrev pub FindsPlace : Tree → Places → File → ℕ → ℕ → Result ℕ Rule → Type 0
FindsPlace t ids f i vtree (Ok middle) =
    (ids vtree ≡ Some middle) × HoldBefore (ElementsBreak t ids f vtree (entry_pairs f i)) 4
FindsPlace t ids f i vtree (Err rule) = IsFirst (ElementsBreak t ids f vtree (entry_pairs f i)) rule

-- no two codes are equal, or two are
abbrev pub TellsTwins : Bool → List ℕ → Type 0
TellsTwins true codes = ¬ AreDistinct codes
TellsTwins false codes = AreDistinct codes

-- the code shows a canonical diagram for which the node of a number stands
pub record IsSound (t : Table) (ids : Places) (f : File) (i c : ℕ) : Type 0 where
  pub diagram : Diagram
  pub is : ShowsCanonical t c diagram
  pub represents : Represents (plain_tree t.vtree) ids f i diagram

-- the first nodes are so
pub record AreSound (t : Table) (ids : Places) (f : File) (built : List ℕ) : Type 0 where
  pub each : (i : ℕ) → i < length built → IsSound t ids f i (slice_index_or built i 0)

-- a node breaks no rule and is there, or this is the first rule that it breaks
abbrev pub TellsNode : Table → Places → File → ℕ → Result ℕ Rule → Type 0
TellsNode t ids f i (Ok c) =
    HoldBefore (IsBroken (plain_tree t.vtree) ids f i) 8 × IsSound t ids f i c
TellsNode t ids f i (Err rule) = IsFirst (IsBroken (plain_tree t.vtree) ids f i) rule

-- the codes of a prime and a sub
abbrev pub built_pair : List ℕ → ℕ × ℕ → ℕ × ℕ
built_pair built e = (slice_index_or built e.0 0, slice_index_or built e.1 0)

-- a decomposition behind nodes that are there, which breaks none of the first four rules and stands at a position
pub record IsFormed (t : Table) (ids : Places) (f : File) (i : ℕ) (built : List ℕ)
    (middle : ℕ) : Type 0 where
  pub vtree : ℕ
  pub node : node_at f i ≡ (vtree, FileDecomposition (entry_pairs f i))
  pub has : ids vtree ≡ Some middle
  pub forms : HoldBefore (ElementsBreak (plain_tree t.vtree) ids f vtree (entry_pairs f i)) 4
  pub sound : AreSound t ids f built
