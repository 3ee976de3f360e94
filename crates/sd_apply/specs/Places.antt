-- Diagrams below a vtree node.
use Rattle.std.specs.Prelude.{◌≡◌, ℕ, Option, Some, None, slice_get}
use Rattle.sd_model.specs.Tree.{Tree, Leaf, leaves}
use Rattle.sd_model.specs.Diagram.{Diagram, meaning}
use Rattle.sd_model.specs.Canonical.{IsCanonical}
use Rattle.sd_vtree.specs.Numbered.{Numbered, plain_tree, numbers, subtree, children_at}
use Rattle.sd_laws.specs.Parts.{HasPosition}
use Rattle.sd_laws.specs.Depends.{DependsOn}
use Rattle.sd_manager.specs.Table.{Table}
use Rattle.sd_manager.specs.Shown.{Shows}
use Rattle.sd_apply.specs.declared.places.Fork.{Fork}

-- the plain tree of a subtree that is there
abbrev pub plain : Option Numbered → Tree
plain (Some s) = plain_tree s
plain None = Leaf 0

-- the subtree at the vtree node with this number
abbrev pub tree_at : Numbered → ℕ → Tree
tree_at t u = plain (subtree t u)

-- the diagram is canonical for the vtree, and looks at the variables below the vtree node alone
pub record IsCanonicalUnder (t : Numbered) (u : ℕ) (d : Diagram) : Type 0 where
  pub canonical : IsCanonical (plain_tree t) 0 d
  pub depends : DependsOn (tree_at t u) (meaning d)

-- the code shows such a diagram
pub record IsNodeUnder (t : Table) (u c : ℕ) (d : Diagram) : Type 0 where
  pub shows : Shows t c d
  pub under : IsCanonicalUnder t.vtree u d

-- the code shows a canonical diagram below the vtree node
pub record IsBelow (t : Table) (u c : ℕ) : Type 0 where
  pub diagram : Diagram
  pub is : IsNodeUnder t u c diagram

-- the vtree node p has the children u and w
abbrev pub HasChildren : Numbered → ℕ → ℕ → ℕ → Type 0
HasChildren t p u w = Some (u, w) ≡ children_at t p

-- the vtree node with this number is there
pub record IsThere (t : Numbered) (u : ℕ) : Type 0 where
  pub part : Numbered
  pub is : subtree t u ≡ Some part

-- ---- for the contract of `place_with_children`, and of private functions here and in `sd_cond`

-- how many variables are below a vtree node
abbrev pub width : Numbered → ℕ → ℕ
width t u = leaves (tree_at t u)

-- the diagram is no constant, and stands at the vtree node
pub record HasPlace (t : Numbered) (u : ℕ) (d : Diagram) : Type 0 where
  pub position : ℕ
  pub stands : HasPosition d position
  pub number : slice_get (numbers t) position ≡ Some u

-- the two children of a fork are those of its vtree node
abbrev pub IsFork : Numbered → Fork → Type 0
IsFork t f = HasChildren t f.node f.left f.right
