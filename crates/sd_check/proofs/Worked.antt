-- The rules at worked files, over the vtree of the variables 1 and 2.
use Rattle.std.proofs.Common.{◌≡◌, inl, ℕ, true, false, not, List, []}
use Rattle.std.proofs.Common.{◌∷◌, ◌==◌, if◌then◌else◌, Some, None, refl, arith, pos, negsuc}
use Rattle.std.specs.List.{list_any}
use Rattle.sd_model.specs.Tree.{Tree, Leaf, Node}
use Rattle.sd_model.specs.Expression.{FileConstant, FileLiteral, FileDecomposition}
use Rattle.sd_file.specs.Reads.{Node as NodeLine, Entry, File}
use Rattle.sd_check.specs.declared.rules.Rule.TheVariants.{Vtree, Overlap, Cover, Subs, Trim}
use Rattle.sd_check.specs.Rules.{Places, inner_of, inner_named, stands_left, stands_right, node_at}
use Rattle.sd_check.specs.Rules.{IsBroken}

-- the vtree of two leaves
abbrev tree : Tree
tree = Node (Leaf 1) (Leaf 2)

-- its file has the positions as ids
abbrev ids : Places
ids id = if id == 0 then Some 0 else (if id == 1 then Some 1 else (if id == 2 then Some 2 else None))

-- a line
abbrev line : ℕ → NodeLine → Entry
line id node = record { id = id; node = node }

-- a file over the two variables
abbrev file : List Entry → File
file nodes = record { variables = 2; nodes = nodes }

-- `sdd 4`, `L 0 0 1`, `L 1 0 -1`, `L 2 2 2`, `D 3 1 2 0 2 1 2`: both subs are the variable 2
abbrev equal_subs : File
equal_subs =
    file (
    line 0 (0, FileLiteral (pos 1))
    ∷ line 1 (0, FileLiteral (negsuc 0))
    ∷ line 2 (2, FileLiteral (pos 2))
    ∷ line 3 (1, FileDecomposition ((0, 2) ∷ (1, 2) ∷ []))
    ∷ []
    )

-- it breaks the rule of subs
subs_broken : IsBroken tree ids equal_subs 3 Subs
subs_broken = inl (inl (λ a. refl))

-- its id names the root
subs_vtree : inner_named tree ids 1 ≡ Some (inner_of (Leaf 1) (Leaf 2) 0)
subs_vtree = refl

-- both primes stand below the left child
subs_left : list_any (λ (e : ℕ × ℕ). not (stands_left tree ids 1 (node_at equal_subs e.0))) ((0, 2) ∷ (1, 2) ∷ [])
    ≡ false
subs_left = refl

-- and both subs below the right child
subs_right : list_any (λ (e : ℕ × ℕ). not (stands_right tree ids 1 (node_at equal_subs e.1))) ((0, 2) ∷ (1, 2) ∷ [])
    ≡ false
subs_right = refl

-- `sdd 4`, `L 0 0 1`, `L 1 2 2`, `T 2`, `D 3 1 2 0 1 0 2`: both primes are the variable 1
abbrev equal_primes : File
equal_primes =
    file (
    line 0 (0, FileLiteral (pos 1))
    ∷ line 1 (2, FileLiteral (pos 2))
    ∷ line 2 (0, FileConstant true)
    ∷ line 3 (1, FileDecomposition ((0, 1) ∷ (0, 2) ∷ []))
    ∷ []
    )

-- they overlap
primes_meet : IsBroken tree ids equal_primes 3 Overlap
primes_meet = (true ∷ [], omega arith)

-- and do not cover
primes_leave : IsBroken tree ids equal_primes 3 Cover
primes_leave = (false ∷ [], refl)

-- `sdd 5`, `L 0 0 1`, `L 1 0 -1`, `T 2`, `F 3`, `D 4 1 2 0 2 1 3`: both subs are constants
abbrev constant_subs : File
constant_subs =
    file (
    line 0 (0, FileLiteral (pos 1))
    ∷ line 1 (0, FileLiteral (negsuc 0))
    ∷ line 2 (0, FileConstant true)
    ∷ line 3 (0, FileConstant false)
    ∷ line 4 (1, FileDecomposition ((0, 2) ∷ (1, 3) ∷ []))
    ∷ []
    )

-- it breaks the last rule
trim_broken : IsBroken tree ids constant_subs 4 Trim
trim_broken = refl

-- a literal of the variable 2 with the id of the other leaf breaks the first one
misplaced : IsBroken tree ids (file (line 0 (0, FileLiteral (pos 2)) ∷ [])) 0 Vtree
misplaced p has at = absurd (cc (has, at))

-- a decomposition with the id of a leaf breaks it too
at_a_leaf : IsBroken tree ids (file (line 0 (0, FileDecomposition ((0, 0) ∷ [])) ∷ [])) 0 Vtree
at_a_leaf = refl
