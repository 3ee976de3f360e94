-- What the calls answer that join a node with the literals of a group, for the contracts of private functions.
use Rattle.std.specs.Prelude.{◌≡◌, ◌≢◌, ℕ, suc, ◌+◌, ◌≤◌, ℤ, Bool, true, false, List, drop, Some}
use Rattle.std.specs.Prelude.{slice_get, unsigned_abs}
use Rattle.std.specs.List.{All}
use Rattle.sd_model.specs.declared.trees.Operation.{Operation}
use Rattle.sd_model.specs.declared.trees.Operation.TheVariants.{And, Or, Xor}
use Rattle.sd_model.specs.Tree.{leaves}
use Rattle.sd_model.specs.Assignment.{literal_holds}
use Rattle.sd_model.specs.Diagram.{Diagram, meaning}
use Rattle.sd_model.specs.Expression.{combine}
use Rattle.sd_vtree.specs.Numbered.{plain_tree}
use Rattle.sd_vtree.specs.Numbered.{IsUnder as StandsUnder}
use Rattle.sd_laws.specs.Parts.{HasPosition}
use Rattle.sd_manager.specs.Literals.{IsLiteralTo, code_of_literal}
use Rattle.sd_manager.specs.Table.{Table}
use Rattle.sd_manager.specs.Shown.{ShowsCanonical}
use Rattle.sd_apply.specs.declared.halves.Split.{Split}
use Rattle.sd_apply.specs.declared.node_answers.NodeEntry.{NodeEntry}
use Rattle.sd_apply.specs.declared.node_answers.NodeAnswers.{NodeAnswers}
use Rattle.sd_apply.specs.Answers.{HasAnswer}
use Rattle.sd_apply.specs.Places.{width, IsNodeUnder, IsBelow, IsThere}
use Rattle.sd_apply.specs.Group.{group_value}
use Rattle.sd_apply.specs.Halves.{HasHalves}

-- the constant that decides a connective, whatever the other operand
abbrev pub deciding : Operation → Bool
deciding And = false
deciding Or = true
deciding Xor = false

-- the connective between the literals of a group
abbrev pub between : Operation → Operation
between And = Or
between Or = And
between Xor = Xor

-- the leaf of a literal stands at its position, below the vtree node
pub record IsLiteralBelow (t : Table) (at : ℕ) (e : ℕ × ℤ) : Type 0 where
  pub literal : IsLiteralTo (leaves (plain_tree t.vtree)) e.1
  pub diagram : Diagram
  pub is : IsNodeUnder t at (code_of_literal e.1) diagram
  pub stands : HasPosition diagram e.0
  pub value : (a : List Bool) → meaning diagram a ≡ literal_holds a e.1

-- the literals from an index on are below the vtree node, in the order of their leaves
pub record AreLiteralsBelow (t : Table) (at from : ℕ) (literals : List (ℕ × ℤ)) : Type 0 where
  pub each : (i : ℕ) (e : ℕ × ℤ) → from ≤ i → slice_get literals i ≡ Some e → IsLiteralBelow t at e
  pub ascending : (i j : ℕ) (d e : ℕ × ℤ) → i ≤ j → slice_get literals i ≡ Some d →
      slice_get literals j ≡ Some e → d.0 ≤ e.0

-- what the code shows is a constant, or stands at this position or behind it
pub record StandsFrom (t : Table) (c least : ℕ) : Type 0 where
  pub each : (d : Diagram) → 2 ≤ c → ShowsCanonical t c d → (p : ℕ) × HasPosition d p × (least ≤ p)

-- the vtree node `lower` stands at `at` or under it, and so far down the node and the literals from an index on are
-- below it
pub record StandLower (t : Table) (at c from : ℕ) (literals : List (ℕ × ℤ)) (lower : ℕ) : Type 0 where
  pub there : IsThere t.vtree lower
  pub under : StandsUnder t.vtree lower at
  pub narrow : width t.vtree lower ≤ width t.vtree at
  pub node : IsBelow t lower c
  pub rest : AreLiteralsBelow t lower from literals

-- the value of a connective at a diagram and the literals from an index on
abbrev pub joined_value : Operation → Diagram → ℕ → List (ℕ × ℤ) → List Bool → Bool
joined_value o x from literals a = combine o (meaning x a) (group_value o (drop from literals) a)

-- the answer of a connective at a node below v and the literals from an index on
pub record JoinsFrom (old new : Table) (o : Operation) (v a from : ℕ) (literals : List (ℕ × ℤ)) (c : ℕ) : Type 0
  where
    pub each : (x : Diagram) → IsNodeUnder old v a x → HasAnswer new (joined_value o x from literals) c

-- the code shows a diagram below the vtree node that has the value of the literals from an index on
pub record IsGroupNode (t : Table) (o : Operation) (v from : ℕ) (literals : List (ℕ × ℤ)) (c : ℕ) : Type 0 where
  pub diagram : Diagram
  pub is : IsNodeUnder t v c diagram
  pub value : (a : List Bool) → meaning diagram a ≡ group_value o (drop from literals) a

-- the right child is there, and the literals from an index on are below it, but for the first where that is of the
-- variable
pub record GoesRight (t : Table) (s : Split) (from : ℕ) (literals : List (ℕ × ℤ)) : Type 0 where
  pub there : IsThere t.vtree s.right
  pub variable : 1 ≤ s.variable
  pub rest : AreLiteralsBelow t s.right (from + 1) literals
  pub past : (e : ℕ × ℤ) → slice_get literals from ≡ Some e → unsigned_abs e.1 ≢ s.variable →
      AreLiteralsBelow t s.right from literals

-- halves joined with the literals from an index on
pub record JoinsHalves (old new : Table) (o : Operation) (w variable a b from : ℕ) (literals : List (ℕ × ℤ))
    (r : ℕ × ℕ) : Type 0 where
  pub each : (f : List Bool → Bool) → HasHalves old w variable a b f →
      HasHalves new w variable r.0 r.1 (λ g. combine o (f g) (group_value o (drop from literals) g))

-- ---- what a join found so far

-- the code is the answer at the node, for the literals from an index on
pub record IsFound (t : Table) (o : Operation) (literals : List (ℕ × ℤ)) (from node answer : ℕ) : Type 0 where
  pub diagram : Diagram
  pub is : ShowsCanonical t node diagram
  pub answer_is : HasAnswer t (joined_value o diagram from literals) answer

-- the same, where the index is told by the next one
abbrev pub IsFoundBefore : Table → Operation → List (ℕ × ℤ) → ℕ → ℕ → ℕ → Type 0
IsFoundBefore t o literals node next answer = (from : ℕ) → next ≡ suc from → IsFound t o literals from node answer

-- an entry has the answer at its node
abbrev pub IsRightEntry : Table → Operation → List (ℕ × ℤ) → NodeEntry → Type 0
IsRightEntry t o literals e = IsFoundBefore t o literals e.node e.next e.answer

-- so has each entry of a list
abbrev pub AreRightEntries : Table → Operation → List (ℕ × ℤ) → List NodeEntry → Type 0
AreRightEntries t o literals es = All (IsRightEntry t o literals) es

-- each entry that is kept is right for the manager's table
pub record Remembers (n : NodeAnswers) (t : Table) (o : Operation) (literals : List (ℕ × ℤ)) : Type 0 where
  pub right : AreRightEntries t o literals n.entries.items
