-- What nodes of a manager show that are made of the entries of records.
use Rattle.std.specs.Prelude.{ℕ, ◌<◌, cond, List, length, slice_index_or}
use Rattle.std.specs.List.Sorted.{IsPermutation}
use Rattle.std.specs.FinMap.{get}
use Rattle.sd_model.specs.Diagram.{Diagram, Decomposition, Elements}
use Rattle.sd_model.specs.Canonical.{IsCanonical}
use Rattle.sd_vtree.specs.Numbered.{plain_tree}
use Rattle.sd_laws.specs.Shown.{ShowElements}
use Rattle.sd_manager.specs.Table.{Table}
use Rattle.sd_manager.specs.Shown.{ShowsCanonical}
use Rattle.sd_manager.specs.Literals.{code_of_literal}
use Rattle.sd_records.specs.declared.records.Ref.{Ref}
use Rattle.sd_records.specs.declared.records.Ref.TheVariants as refs
use Rattle.sd_records.specs.Records.{Entry, UnfoldsCanonical, IsBefore}

-- the node of what is referred to, where these are those of the entries
abbrev pub node_of : List ℕ → Ref → ℕ
node_of nodes (refs.Constant b) = cond b 1 0
node_of nodes (refs.Literal l) = code_of_literal l
node_of nodes (refs.Entry index) = slice_index_or nodes index 0

-- the nodes of a prime and a sub
abbrev pub nodes_of : List ℕ → Ref × Ref → ℕ × ℕ
nodes_of nodes e = (node_of nodes e.0, node_of nodes e.1)

-- both are no entries, or among the first n
abbrev pub AreBefore : ℕ → Ref × Ref → Type 0
AreBefore n e = IsBefore n e.0 × IsBefore n e.1

-- each of the first entries is shown by its node
pub record AreRead (t : Table) (entries : List Entry) (nodes : List ℕ) : Type 0 where
  pub each : (index : ℕ) → index < length nodes → (d : Diagram) →
      UnfoldsCanonical (plain_tree t.vtree) entries (refs.Entry index) d →
      ShowsCanonical t (slice_index_or nodes index 0) d

-- the pairs of nodes, in some order, show the elements of a canonical decomposition at this position
pub record ShowDecomposition (t : Table) (position : ℕ) (pairs : List (ℕ × ℕ)) (es : Elements) : Type 0 where
  pub list : List (ℕ × ℕ)
  pub order : IsPermutation list pairs
  pub shown : ShowElements t.vtree (get t.linked) list es
  pub canonical : IsCanonical (plain_tree t.vtree) 0 (Decomposition position es)
