-- What is read of a node: its kind, its place and its pairs.
use Rattle.std.specs.Prelude.{◌≡◌, ℕ, ◌-◌, Bool, false, List, [], length, Option, Some, None}
use Rattle.std.specs.Prelude.{◌==◌, nat_lt, if◌then◌else◌, unwrap_or, slice_get}
use Rattle.std.specs.Option.{option_map}
use Rattle.sd_model.specs.Diagram.{Diagram, Literal, Decomposition, Elements, count}
use Rattle.sd_vtree.specs.Numbered.{plain_tree, numbers}
use Rattle.sd_laws.specs.Parts.{leaf_position}
use Rattle.sd_manager.specs.declared.view.View.{View}
use Rattle.sd_manager.specs.declared.view.View.TheVariants.{Constant as ConstantView, Literal as LiteralView}
use Rattle.sd_manager.specs.declared.view.View.TheVariants.{Decomposition as DecompositionView}
use Rattle.sd_manager.specs.Literals.{literal_of, literal_at}
use Rattle.sd_manager.specs.Table.{Table, key_at}
use Rattle.sd_manager.specs.Shown.{constant_diagram}

-- what is read of a node with a key
abbrev pub view_of_key : Option (ℕ × List (ℕ × ℕ)) → View
view_of_key None = ConstantView false
view_of_key (Some k) = DecompositionView k.0 (length k.1)

-- what is read of the node with a code
abbrev pub view_of : Table → ℕ → View
view_of t c =
    if nat_lt c 2 then ConstantView (c == 1)
    else (if nat_lt c 2050 then LiteralView (literal_at c) else view_of_key (key_at t (c - 2050)))

-- the pairs of the node with a code; constants and literals have none
abbrev pub pairs_at : Table → ℕ → List (ℕ × ℕ)
pairs_at t c = if nat_lt c 2050 then [] else unwrap_or (option_map (λ k. k.1) (key_at t (c - 2050))) []

-- what is read of a node fits the diagram that it shows
abbrev pub IsViewOf : Table → View → Diagram → Type 0
IsViewOf t (ConstantView b) d = d ≡ constant_diagram b
IsViewOf t (LiteralView l) d =
    (p x : ℕ) × (positive : Bool) × (d ≡ Literal p x positive) × (l ≡ literal_of x positive)
    × (leaf_position (plain_tree t.vtree) 0 x ≡ Some p)
IsViewOf t (DecompositionView place n) d =
    (p : ℕ) × (elements : Elements) × (d ≡ Decomposition p elements) × (n ≡ count elements)
    × (slice_get (numbers t.vtree) p ≡ Some place)
