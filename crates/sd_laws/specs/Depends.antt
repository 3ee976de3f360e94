-- What depends on the variables of a tree alone.
use Rattle.std.specs.Prelude.{◌≡◌, Bool, List}
use Rattle.sd_model.specs.Tree.{Tree}
use Rattle.sd_model.proofs.Blend.{AgreeOn}

-- f has one value under assignments that give each variable of the tree the same value
abbrev pub DependsOn : Tree → (List Bool → Bool) → Type 0
DependsOn t f = (a b : List Bool) → AgreeOn t a b → f a ≡ f b
