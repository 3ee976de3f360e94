-- The moves of numbered vtrees: each node keeps its number.
use Rattle.std.specs.Prelude.{ℕ, Option, None, Some, ◌==◌, if◌then◌else◌}
use Rattle.std.specs.Option.{option_map}
use Rattle.sd_model.specs.declared.trees.Move.{Move}
use Rattle.sd_model.specs.declared.trees.Move.TheVariants.{RotateLeft, RotateRight, Swap}
use Rattle.sd_vtree.specs.Numbered.{Numbered, NumberedLeaf, NumberedNode, or_else}

-- a move at the root, where the tree has the form for it: the upper node stays the upper and the lower the lower one
abbrev pub moved_top : Move → Numbered → Option Numbered
moved_top RotateRight (NumberedNode u (NumberedNode l a b) c) = Some (NumberedNode u a (NumberedNode l b c))
moved_top RotateLeft (NumberedNode u a (NumberedNode l b c)) = Some (NumberedNode u (NumberedNode l a b) c)
moved_top Swap (NumberedNode u a b) = Some (NumberedNode u b a)
moved_top _ _ = None

-- a move at the node with a number
abbrev pub moved_number : Move → Numbered → ℕ → Option Numbered
moved_number kind (NumberedLeaf m x) n = None
moved_number kind (NumberedNode m l r) n =
    if m == n then moved_top kind (NumberedNode m l r)
    else or_else (option_map (λ t. NumberedNode m t r) (moved_number kind l n))
    (option_map (λ t. NumberedNode m l t) (moved_number kind r n))
