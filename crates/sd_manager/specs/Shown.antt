-- The diagrams that codes and roots of a manager show.
use Rattle.std.specs.Prelude.{◌≡◌, ◌⊎◌, ℕ, ◌+◌, ◌-◌, ◌*◌, ◌<◌, ◌≤◌, Bool, true, false, List, Some}
use Rattle.std.specs.List.{AllByRecursion}
use Rattle.std.specs.Option.{IsSome}
use Rattle.std.specs.FinMap.{get}
use Rattle.sd_model.specs.Tree.{leaves}
use Rattle.sd_model.specs.Diagram.{Diagram, Bottom, Top, Elements}
use Rattle.sd_model.specs.Canonical.{IsElement}
use Rattle.sd_vtree.specs.Numbered.{plain_tree}
use Rattle.sd_laws.specs.Shown.{Shows as ShowsBy, ShowsCanonical as ShowsCanonicalBy, IsPartitionAt as IsPartitionBy}
use Rattle.sd_manager.specs.Table.{Table, key_at}

-- The code shows the diagram: it is that of a constant or a literal, or that of a linked node, whose pairs show the
-- elements, put into the structural order.
abbrev pub Shows : Table → ℕ → Diagram → Type 0
Shows t c d = ShowsBy t.vtree (get t.linked) c d

-- the code shows the diagram, which is canonical for the vtree
abbrev pub ShowsCanonical : Table → ℕ → Diagram → Type 0
ShowsCanonical t c d = ShowsCanonicalBy t.vtree (get t.linked) c d

-- the code shows some canonical diagram
pub record IsNodeOf (t : Table) (c : ℕ) : Type 0 where
  pub diagram : Diagram
  pub is : ShowsCanonical t c diagram

-- the root holds a node that shows this canonical diagram
pub record HoldsDiagram (t : Table) (root : ℕ) (d : Diagram) : Type 0 where
  pub code : ℕ
  pub held : get t.roots root ≡ Some code
  pub is : ShowsCanonical t code d

-- the pairs of codes show this partition of the vtree node with this number: the primes stand below the left child,
-- none is false and exactly one is true under each assignment, and the subs stand below the right child
abbrev pub IsPartitionAt : Table → ℕ → List (ℕ × ℕ) → List (Diagram × Diagram) → Type 0
IsPartitionAt t place pairs ds = IsPartitionBy t.vtree (get t.linked) place pairs ds

-- the code is that of a constant, of a literal of the vtree, or of a node, linked or detached
abbrev pub HasNode : Table → ℕ → Type 0
HasNode t c = (c < 2 * leaves (plain_tree t.vtree) + 2) ⊎ ((2050 ≤ c) × IsSome (key_at t (c - 2050)))

-- both codes of each pair in the list are so
abbrev pub AreThere : Table → List (ℕ × ℕ) → Type 0
AreThere t list = AllByRecursion (λ (e : ℕ × ℕ). HasNode t e.0 × HasNode t e.1) list

-- the pair of codes shows one of the elements
pub record ShowsElement (t : Table) (pair : ℕ × ℕ) (elements : Elements) : Type 0 where
  pub prime : Diagram
  pub sub : Diagram
  pub member : IsElement prime sub elements
  pub shows_prime : Shows t pair.0 prime
  pub shows_sub : Shows t pair.1 sub

-- the diagram of a constant
abbrev pub constant_diagram : Bool → Diagram
constant_diagram true = Top
constant_diagram false = Bottom
