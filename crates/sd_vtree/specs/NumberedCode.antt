-- Numbered vtrees as lists of pairs of numbers, from which they can be read back.
use Rattle.std.specs.Prelude.{◌≡◌, ℕ, zero, suc, List, [], ◌∷◌, ◌++◌}
use Rattle.std.specs.Coded.{Coded, code_by, coded×, coded_ℕ, coded_list}
use Rattle.std.proofs.Common.{refl, append_assoc}
use Rattle.sd_vtree.specs.Numbered.{Numbered, NumberedLeaf, NumberedNode}

-- the nodes, children first: a leaf has its variable plus 1 beside its number, and an internal node has 0
abbrev pub written : Numbered → List (ℕ × ℕ)
written (NumberedLeaf n x) = (n, suc x) ∷ []
written (NumberedNode n l r) = (written l ++ written r) ++ (n, 0) ∷ []

-- the trees read so far, the last one first, after one more node
abbrev pub with_node : ℕ → ℕ → List Numbered → List Numbered
with_node n (suc x) trees = NumberedLeaf n x ∷ trees
with_node n zero [] = []
with_node n zero (r ∷ []) = []
with_node n zero (r ∷ (l ∷ trees)) = NumberedNode n l r ∷ trees

-- the trees read so far, after a list of nodes
abbrev pub with_nodes : List (ℕ × ℕ) → List Numbered → List Numbered
with_nodes [] trees = trees
with_nodes (e ∷ es) trees = with_nodes es (with_node e.0 e.1 trees)

-- the last tree that was read
abbrev pub last_tree : List Numbered → Numbered
last_tree [] = NumberedLeaf 0 0
last_tree (t ∷ trees) = t

-- a tree that was written is the next one read
with_nodes_written : (t : Numbered) (es : List (ℕ × ℕ)) (trees : List Numbered) →
    with_nodes (written t ++ es) trees ≡ with_nodes es (t ∷ trees)
with_nodes_written (NumberedLeaf n x) es trees = refl
with_nodes_written (NumberedNode n l r) es trees =
    rw (
      append_assoc (written l ++ written r) ((n, 0) ∷ []) es,
      append_assoc (written l) (written r) ((n, 0) ∷ es),
      with_nodes_written l (written r ++ (n, 0) ∷ es) trees,
      with_nodes_written r ((n, 0) ∷ es) (l ∷ trees),
    ) refl

-- what was written is read back
pub read_back : (t : Numbered) → last_tree (with_nodes (written t) []) ≡ t
read_back (NumberedLeaf n x) = refl
read_back (NumberedNode n l r) =
    rw (
      append_assoc (written l) (written r) ((n, 0) ∷ []),
      with_nodes_written l (written r ++ (n, 0) ∷ []) [],
      with_nodes_written r ((n, 0) ∷ []) (l ∷ []),
    ) refl

-- by which a proof tells numbered trees apart
abbrev pub numbered_code : Coded Numbered
numbered_code =
    code_by (List (ℕ × ℕ)) (coded_list (coded× coded_ℕ coded_ℕ)) written (λ es. last_tree (with_nodes es [])) read_back
