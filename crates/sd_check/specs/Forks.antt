-- The table of a vtree's inner nodes, for the contracts of private functions.
use Rattle.std.specs.Prelude.{◌≡◌, ℕ, ◌-◌, List, [], ◌∷◌, ◌++◌, slice_index_or, Option, Some, None, option_map}
use Rattle.sd_model.specs.Tree.{Tree, Leaf, Node, position, right_base}
use Rattle.sd_check.specs.declared.forks.Fork.{Fork}
use Rattle.sd_check.specs.Rules.{Inner, inner_at}

-- an inner node as it is kept
abbrev pub inner_view : Fork → Inner
inner_view fork = record { first = fork.first; middle = fork.middle; end = fork.end }

-- the inner node with these children, as it is kept
abbrev pub fork_of : Tree → Tree → ℕ → Fork
fork_of left right base =
    record {
      first = base;
      middle = position (Node left right) base;
      end = right_base right (right_base left base) - 1;
    }

-- the nodes of a tree in order, from a position on
abbrev pub forks_from : Tree → ℕ → List (Option Fork)
forks_from (Leaf x) base = None ∷ []
forks_from (Node l r) base =
    forks_from l base ++ Some (fork_of l r base) ∷ forks_from r (right_base l base)

-- the table tells what stands at each position
abbrev pub AreForks : Tree → List (Option Fork) → Type 0
AreForks t forks = (p : ℕ) → option_map inner_view (slice_index_or forks p None) ≡ inner_at t 0 p
