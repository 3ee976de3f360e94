-- A node joined with a group of literals: for a conjunction with a clause, for a disjunction with a term.
use Rattle.std.specs.Prelude.{◌≡◌, ℕ, ◌≤◌, ℤ, Bool, false, List, Some, slice_get, unsigned_abs}
use Rattle.std.specs.List.{list_all, list_any}
use Rattle.sd_model.specs.declared.trees.Operation.{Operation}
use Rattle.sd_model.specs.declared.trees.Operation.TheVariants.{And, Or, Xor}
use Rattle.sd_model.specs.Tree.{Tree, leaves}
use Rattle.sd_model.specs.Assignment.{literal_holds}
use Rattle.sd_model.specs.Diagram.{Diagram, meaning}
use Rattle.sd_model.specs.Canonical.{IsCanonical}
use Rattle.sd_model.specs.Expression.{combine}
use Rattle.sd_vtree.specs.Numbered.{Numbered, plain_tree}
use Rattle.sd_laws.specs.Parts.{IsPart, leaf_position}
use Rattle.sd_manager.specs.Literals.{IsLiteralTo, code_of_literal}
use Rattle.sd_manager.specs.Table.{Table}
use Rattle.sd_manager.specs.Shown.{ShowsCanonical}
use Rattle.sd_apply.specs.Places.{IsThere, IsBelow}
use Rattle.sd_apply.specs.Growing.{GrowsBelow}

-- the value of a group: a clause holds where one of its literals does, a term where all of them do
abbrev pub group_value : Operation → List (ℕ × ℤ) → List Bool → Bool
group_value And literals a = list_any (λ e. literal_holds a e.1) literals
group_value Or literals a = list_all (λ e. literal_holds a e.1) literals
group_value Xor literals a = false

-- a literal of a variable of the vtree, behind the position of the variable's leaf
pub record IsPlaced (t : Numbered) (e : ℕ × ℤ) : Type 0 where
  pub literal : IsLiteralTo (leaves (plain_tree t)) e.1
  pub position : leaf_position (plain_tree t) 0 (unsigned_abs e.1) ≡ Some e.0

-- such literals in the order of their leaves
pub record AreOrdered (t : Numbered) (literals : List (ℕ × ℤ)) : Type 0 where
  pub placed : (i : ℕ) (e : ℕ × ℤ) → slice_get literals i ≡ Some e → IsPlaced t e
  pub ascending : (i j : ℕ) (d e : ℕ × ℤ) → i ≤ j → slice_get literals i ≡ Some d →
      slice_get literals j ≡ Some e → d.0 ≤ e.0

-- The code shows a canonical diagram that has the value of the connective at x and the group, and that stands below
-- each vtree node below which x and the leaves of all literals stand.
pub record IsJoined (t : Table) (o : Operation) (x : Diagram) (literals : List (ℕ × ℤ)) (c : ℕ) : Type 0 where
  pub diagram : Diagram
  pub is : ShowsCanonical t c diagram
  pub value : (a : List Bool) → meaning diagram a ≡ combine o (meaning x a) (group_value o literals a)
  pub below : (s : Tree) (base : ℕ) → IsPart s base (plain_tree t.vtree) 0 → IsCanonical s base x →
      ((i : ℕ) (e : ℕ × ℤ) → slice_get literals i ≡ Some e → leaf_position s base (unsigned_abs e.1) ≡ Some e.0) →
      IsCanonical s base diagram

-- the answer of a connective at a node of the old table and a group
pub record JoinsGroup (old new : Table) (o : Operation) (a : ℕ) (literals : List (ℕ × ℤ)) (c : ℕ) : Type 0 where
  pub each : (x : Diagram) → ShowsCanonical old a x → IsJoined new o x literals c

-- each new node stands below every vtree node below which the node and all literals stand
pub record GrowsBelowGroup (old new : Table) (a : ℕ) (literals : List (ℕ × ℤ)) : Type 0 where
  pub each : (at : ℕ) → IsThere old.vtree at → IsBelow old at a →
      ((i : ℕ) (e : ℕ × ℤ) → slice_get literals i ≡ Some e → IsBelow old at (code_of_literal e.1)) →
      GrowsBelow old new at
