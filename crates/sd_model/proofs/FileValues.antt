-- The value of a file stands last among those of its nodes.
use Rattle.std.proofs.Common.{◌≡◌, ◌+◌, ◌-◌, Bool, false, List, [], ◌∷◌, ◌++◌, length, slice_index_or}
use Rattle.std.proofs.Common.{None, Some, refl, ◌∙◌, ap, arith, length-append}
use Rattle.std.specs.Option.{unwrap_or}
use Rattle.std.specs.List.{last_or}
use Rattle.sd_model.specs.Expression.{FileNode, node_value, node_values, file_value}

-- the last of a list with a first
last_behind : (b : Bool) (bs : List Bool) → unwrap_or (last_or (Some b) bs) false
    ≡ slice_index_or (b ∷ bs) (length bs) false
last_behind b [] = refl
last_behind b (c ∷ bs) = last_behind c bs

-- the last of a list
last_at : (bs : List Bool) → unwrap_or (last_or None bs) false ≡ slice_index_or bs (length bs - 1) false
last_at [] = refl
last_at (b ∷ bs) =
    let same : length bs ≡ length (b ∷ bs) - 1 = omega arith in
    last_behind b bs ∙ ap (λ n. slice_index_or (b ∷ bs) n false) same

-- each node has a value
values_count : (earlier : List Bool) (nodes : List FileNode) (a : List Bool)
    → length (node_values earlier nodes a) ≡ length earlier + length nodes
values_count earlier [] a = omega arith
values_count earlier (n ∷ nodes) a = omega (
  arith,
  values_count (earlier ++ node_value earlier n a ∷ []) nodes a,
  length-append earlier (node_value earlier n a ∷ []),
)

-- the value of a file is that of the node of the last number
pub file_value_last : (nodes : List FileNode) (a : List Bool)
    → file_value nodes a ≡ slice_index_or (node_values [] nodes a) (length nodes - 1) false
file_value_last nodes a =
    let count : length (node_values [] nodes a) ≡ length nodes = omega (arith, values_count [] nodes a) in
    last_at (node_values [] nodes a) ∙ ap (λ n. slice_index_or (node_values [] nodes a) (n - 1) false) count
