-- Worked examples of vtree files, with their trees or their first faults.
use Rattle.std.proofs.Common.{◌≡◌, ℕ, [], ◌∷◌, refl, None, Ok, Err}
use Rattle.std.specs.Prelude.{codes}
use Rattle.std.specs.Cmp.{nat_cmp_total}
use Rattle.std.specs.FinMap.{from_entries, get, get-from_entries}
use Rattle.std.specs.Ordering.{nat_cmp}
use Rattle.sd_model.specs.Text.{number_text}
use Rattle.sd_model.specs.Tree.{Leaf, Node}
use Rattle.sd_vfile.specs.Ids.{ids_of}
use Rattle.sd_vfile.specs.Reads.{vtree_file, variables_stated}

-- ids in any order
with_comment : vtree_file 2 (codes "c a comment\nvtree 3\nL 2 1\nL 0 2\nI 1 2 0\n") ≡ Ok (Node (Leaf 1) (Leaf 2))
unfolding vtree_file
with_comment = refl

leaf_twice : vtree_file 2 (codes "vtree 3\nL 0 1\nL 1 1\nI 2 0 1\n") ≡ Err (codes ": line 3: variable wrong")
unfolding vtree_file number_text
leaf_twice = refl

-- ids need not be below the number of nodes
any_ids : vtree_file 2 (codes "vtree 3\nL 7 1\nL 9 2\nI 20 7 9\n") ≡ Ok (Node (Leaf 1) (Leaf 2))
unfolding vtree_file
any_ids = refl

-- no node, as was stated
no_nodes : vtree_file 2 (codes "vtree 0\n") ≡ Err (codes ": 0 roots")
unfolding vtree_file number_text
no_nodes = refl

none_found : vtree_file 2 (codes "vtree 3\n") ≡ Err (codes ": 3 stated, 0 found")
unfolding vtree_file number_text
none_found = refl

-- a balanced tree, as it is written
four_variables : vtree_file 4
    (codes "vtree 7\nL 0 1\nL 2 2\nI 1 0 2\nL 4 3\nL 6 4\nI 5 4 6\nI 3 1 5\n")
    ≡ Ok (Node (Node (Leaf 1) (Leaf 2)) (Node (Leaf 3) (Leaf 4)))
unfolding vtree_file
four_variables = refl

-- a child stands on a later line
later_child : vtree_file 2 (codes "vtree 3\nL 0 1\nI 1 0 2\nL 2 2\n") ≡ Err (codes ": line 3: child unknown")
unfolding vtree_file number_text
later_child = refl

child_twice : vtree_file 2 (codes "vtree 3\nL 0 1\nL 2 2\nI 1 0 0\n") ≡ Err (codes ": line 4: child twice")
unfolding vtree_file number_text
child_twice = refl

two_roots : vtree_file 2 (codes "vtree 2\nL 0 1\nL 2 2\n") ≡ Err (codes ": 2 roots")
unfolding vtree_file number_text
two_roots = refl

one_missing : vtree_file 2 (codes "vtree 1\nL 0 2\n") ≡ Err (codes ": variable missing: 1")
unfolding vtree_file number_text
one_missing = refl

-- blank lines are counted
id_twice : vtree_file 2 (codes "vtree 3\nL 0 1\n\nL 0 7\n") ≡ Err (codes ": line 4: id twice")
unfolding vtree_file number_text
id_twice = refl

-- ---- the header alone

-- a vtree over two variables has three nodes; the lines behind the header play no part
three_nodes : variables_stated (codes "c a comment\nvtree 3\nL\n") ≡ Ok 2
unfolding variables_stated
three_nodes = refl

one_node : variables_stated (codes "vtree 1\n") ≡ Ok 1
unfolding variables_stated
one_node = refl

most_nodes : variables_stated (codes "vtree 2047\n") ≡ Ok 1024
unfolding variables_stated
most_nodes = refl

even_number : variables_stated (codes "vtree 4\n") ≡ Err (codes ": nodes out of range: 4")
unfolding variables_stated number_text
even_number = refl

zero_nodes : variables_stated (codes "vtree 0\n") ≡ Err (codes ": nodes out of range: 0")
unfolding variables_stated number_text
zero_nodes = refl

past_the_most : variables_stated (codes "vtree 2049\n") ≡ Err (codes ": nodes out of range: 2049")
unfolding variables_stated number_text
past_the_most = refl

headless : variables_stated (codes "L 0 1\n") ≡ Err (codes ": no header")
unfolding variables_stated
headless = refl

-- ---- ids

-- each id has the in-order number of its node, whatever the order of the lines
ids_placed : ids_of 2 (codes "vtree 3\nL 7 1\nL 9 2\nI 20 7 9\n")
    ≡ Ok (from_entries ((7, 0) ∷ (9, 2) ∷ (20, 1) ∷ []))
unfolding ids_of vtree_file
ids_placed = refl

turned_ids : ids_of 2 (codes "vtree 3\nL 7 1\nL 9 2\nI 20 9 7\n")
    ≡ Ok (from_entries ((7, 2) ∷ (9, 0) ∷ (20, 1) ∷ []))
unfolding ids_of vtree_file
turned_ids = refl

balanced_ids : ids_of 4 (codes "vtree 7\nL 8 4\nL 7 3\nI 6 7 8\nL 5 2\nL 4 1\nI 3 4 5\nI 2 3 6\n")
    ≡ Ok (from_entries ((8, 6) ∷ (7, 4) ∷ (6, 5) ∷ (5, 2) ∷ (4, 0) ∷ (3, 1) ∷ (2, 3) ∷ []))
unfolding ids_of vtree_file
balanced_ids = refl

-- an id that no line has has no position
no_such_id : get {X = ℕ} (from_entries {R = nat_cmp} ((7, 0) ∷ (9, 2) ∷ (20, 1) ∷ [])) 8 ≡ None
no_such_id = get-from_entries nat_cmp_total ((7, 0) ∷ (9, 2) ∷ (20, 1) ∷ []) 8

-- the faults are those of the tree
ids_of_two_roots : ids_of 2 (codes "vtree 2\nL 0 1\nL 2 2\n") ≡ Err (codes ": 2 roots")
unfolding ids_of vtree_file number_text
ids_of_two_roots = refl
