-- What is tested of each node of an SDD file: eight rules, in their order, and the verdict on all nodes.
use Rattle.std.specs.Prelude.{◌≡◌, ◌≢◌, ◌⊎◌, ℕ, suc, ◌+◌, ◌-◌, ◌<◌, ◌≤◌, nat_le, nat_lt, ◌==◌, if◌then◌else◌}
use Rattle.std.specs.Prelude.{Bool, true, false, not, ◌&&◌, ◌||◌, cond, List, [], ◌∷◌, length, unsigned_abs}
use Rattle.std.specs.Prelude.{Option, Some, None, option_and_then}
use Rattle.std.specs.List.{list_any, list_all}
use Rattle.std.specs.Option.{option_map_or}
use Rattle.sd_model.specs.Tree.{Tree, Leaf, Node, position, right_base}
use Rattle.sd_model.specs.Expression.{FileConstant, FileLiteral, FileDecomposition}
use Rattle.sd_vtree.specs.Numbered.{or_else}
use Rattle.sd_laws.specs.Parts.{leaf_position}
use Rattle.sd_laws.specs.Values.{IsSame}
use Rattle.sd_file.specs.Built.{value_at}
use Rattle.sd_file.specs.Files.{entry_at}
use Rattle.sd_file.specs.Reads.{Node as FileNode, File}
use Rattle.sd_check.specs.declared.rules.Rule.{Rule}
use Rattle.sd_check.specs.declared.rules.Rule.TheVariants.{Vtree, Prime, Sub, Count, Overlap, Cover, Subs, Trim}
use Rattle.sd_check.specs.declared.rules.Verdict.{Verdict}
use Rattle.sd_check.specs.declared.rules.Verdict.TheVariants.{Yes, No}

-- ---- places in the vtree

-- the position of each id of a vtree file
abbrev pub Places : Type 0
Places = ℕ → Option ℕ

-- An inner node of a vtree: the positions below its left child are those from `first` to before `middle`, which is its
-- own, and those below its right child come behind it, up to before `end`.
pub record Inner : Type 0 where
  pub first : ℕ
  pub middle : ℕ
  pub end : ℕ

-- the inner node with these children, with positions counted from a base
abbrev pub inner_of : Tree → Tree → ℕ → Inner
inner_of left right base =
    record {
      first = base;
      middle = position (Node left right) base;
      end = right_base right (right_base left base) - 1;
    }

-- the inner node at a position
abbrev pub inner_at : Tree → ℕ → ℕ → Option Inner
inner_at (Leaf x) base p = None
inner_at (Node l r) base p =
    if position (Node l r) base == p then Some (inner_of l r base)
    else or_else (inner_at l base p) (inner_at r (right_base l base) p)

-- the inner node that an id names
abbrev pub inner_named : Tree → Places → ℕ → Option Inner
inner_named t ids vtree = option_and_then (inner_at t 0) (ids vtree)

-- ---- nodes of the file

-- the node of a number, counted from 0
abbrev pub node_at : File → ℕ → FileNode
node_at f index = (entry_at f index).node

-- false or true
abbrev pub is_constant_node : FileNode → Bool
is_constant_node (vtree, FileConstant value) = true
is_constant_node (vtree, FileLiteral literal) = false
is_constant_node (vtree, FileDecomposition pairs) = false

-- the position lies from the first number to before the second
abbrev pub is_among : ℕ → ℕ → ℕ → Bool
is_among first end p = nat_le first p && nat_lt p end

-- a literal or a decomposition whose vtree id is of a position from the first number to before the second
abbrev pub stands_among : Places → ℕ → ℕ → FileNode → Bool
stands_among ids first end (vtree, FileConstant value) = false
stands_among ids first end (vtree, FileLiteral literal) =
    option_map_or (is_among first end) (ids vtree) false
stands_among ids first end (vtree, FileDecomposition pairs) =
    option_map_or (is_among first end) (ids vtree) false

-- the node stands below the left child of the vtree node that an id names
abbrev pub stands_left : Tree → Places → ℕ → FileNode → Bool
stands_left t ids vtree node =
    option_map_or (λ i. stands_among ids i.first i.middle node) (inner_named t ids vtree) false

-- or below its right child
abbrev pub stands_right : Tree → Places → ℕ → FileNode → Bool
stands_right t ids vtree node =
    option_map_or (λ i. stands_among ids (i.middle + 1) i.end node) (inner_named t ids vtree) false

-- ---- elements by their values

-- how many primes are true under an assignment
abbrev pub primes_true : File → List Bool → List (ℕ × ℕ) → ℕ
primes_true f a [] = 0
primes_true f a (e ∷ es) = cond (value_at f e.0 a) (suc (primes_true f a es)) (primes_true f a es)

-- the sub of one of the elements is this function
abbrev pub HasSub : File → (List Bool → Bool) → List (ℕ × ℕ) → Type 0
HasSub f g [] = ⊥
HasSub f g (e ∷ es) = IsSame g (value_at f e.1) ⊎ HasSub f g es

-- two subs are one function
abbrev pub HasEqualSubs : File → List (ℕ × ℕ) → Type 0
HasEqualSubs f [] = ⊥
HasEqualSubs f (e ∷ es) = HasSub f (value_at f e.1) es ⊎ HasEqualSubs f es

-- ---- the rules

-- the id is not that of the variable's leaf
abbrev pub IsMisplaced : Tree → Places → ℕ → ℕ → Type 0
IsMisplaced t ids vtree variable =
    (p : ℕ) → ids vtree ≡ Some p → leaf_position t 0 variable ≢ Some p

-- A decomposition with this vtree id and these elements breaks a rule: its id names no inner node of the
-- vtree; a prime is not below the left child; a sub is neither a constant nor below the right child; it has
-- one element; two primes are true together under some assignment; no prime is true under some assignment;
-- two subs are one function; every sub is a constant.
abbrev pub ElementsBreak : Tree → Places → File → ℕ → List (ℕ × ℕ) → Rule → Type 0
ElementsBreak t ids f vtree pairs Vtree = inner_named t ids vtree ≡ None
ElementsBreak t ids f vtree pairs Prime =
    list_any (λ e. not (stands_left t ids vtree (node_at f e.0))) pairs ≡ true
ElementsBreak t ids f vtree pairs Sub =
    list_any (λ e. not (is_constant_node (node_at f e.1)
    || stands_right t ids vtree (node_at f e.1))) pairs
    ≡ true
ElementsBreak t ids f vtree pairs Count = length pairs ≡ 1
ElementsBreak t ids f vtree pairs Overlap = (a : List Bool) × (2 ≤ primes_true f a pairs)
ElementsBreak t ids f vtree pairs Cover = (a : List Bool) × (primes_true f a pairs ≡ 0)
ElementsBreak t ids f vtree pairs Subs = HasEqualSubs f pairs
ElementsBreak t ids f vtree pairs Trim =
    list_all (λ e. is_constant_node (node_at f e.1)) pairs ≡ true

-- a node breaks a rule: a constant breaks none, and a literal only the first, where its id is not its variable's leaf
abbrev pub NodeBreaks : Tree → Places → File → FileNode → Rule → Type 0
NodeBreaks t ids f (vtree, FileConstant value) rule = ⊥
NodeBreaks t ids f (vtree, FileLiteral literal) Vtree =
    IsMisplaced t ids vtree (unsigned_abs literal)
NodeBreaks t ids f (vtree, FileLiteral literal) rule = ⊥
NodeBreaks t ids f (vtree, FileDecomposition pairs) rule = ElementsBreak t ids f vtree pairs rule

-- the node of a number breaks a rule
abbrev pub IsBroken : Tree → Places → File → ℕ → Rule → Type 0
IsBroken t ids f index rule = NodeBreaks t ids f (node_at f index) rule

-- the place of a rule in the order in which they are tested
abbrev pub rank : Rule → ℕ
rank Vtree = 0
rank Prime = 1
rank Sub = 2
rank Count = 3
rank Overlap = 4
rank Cover = 5
rank Subs = 6
rank Trim = 7

-- The node of a number breaks a rule and none before it, and no earlier node breaks any.
pub record BreaksRule (t : Tree) (ids : Places) (f : File) (index : ℕ) (rule : Rule) : Type 0 where
  pub broken : IsBroken t ids f index rule
  pub first_rule : (r : Rule) → rank r < rank rule → ¬ IsBroken t ids f index r
  pub first_node : (j : ℕ) (r : Rule) → j < index → ¬ IsBroken t ids f j r

-- The verdict: yes where no node breaks a rule, and else no with the first node that breaks one, and its first rule.
abbrev pub HasVerdict : Tree → Places → File → Verdict → Type 0
HasVerdict t ids f Yes = (i : ℕ) (rule : Rule) → i < length f.nodes → ¬ IsBroken t ids f i rule
HasVerdict t ids f (No i rule) = (i < length f.nodes) × BreaksRule t ids f i rule
