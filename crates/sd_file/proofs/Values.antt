-- The value of each node of a file from those of the nodes that it names.
use Rattle.std.proofs.Common.{◌≡◌, ℕ, zero, suc, ◌+◌, ◌<◌, Bool, false, ◌&&◌, ◌||◌, List, [], ◌∷◌, ◌++◌}
use Rattle.std.proofs.Common.{map, length, slice_index_or, refl, sym, ap, subst, ◌∙◌, arith, length-append}
use Rattle.std.proofs.lemmas.List.{length-map, get_or_append_left}
use Rattle.std.proofs.Math.Seq.{get_or-append_seam}
use Rattle.std.specs.List.{AllByRecursion, list_any}
use Rattle.sd_model.specs.Expression as formulas
use Rattle.sd_model.specs.Expression.{FileConstant, FileLiteral, FileDecomposition}
use Rattle.sd_model.specs.Expression.{node_value, node_values, expression_value}
use Rattle.sd_model.proofs.FileValues.{file_value_last}
use Rattle.sd_file.specs.Built.{values_of, value_at}
use Rattle.sd_file.specs.Files.{IsEarlier, FitsAt, FitFrom, IsFile, no_entry, entry_at}
use Rattle.sd_file.specs.Reads.{Node, Entry, File, without_ids, expression_of_file}

-- the nodes of entries
abbrev plains : List Entry → List formulas.FileNode
plains es = map (λ e. without_ids e.node) es

-- ---- values stay

-- the values of earlier nodes stay when more nodes follow
values_stay : (earlier : List Bool) (nodes : List formulas.FileNode) (a : List Bool) (i : ℕ) → i < length earlier
    → slice_index_or (node_values earlier nodes a) i false ≡ slice_index_or earlier i false
values_stay earlier [] a i below = refl
values_stay earlier (n ∷ ns) a i below =
    let longer = length-append earlier (node_value earlier n a ∷ []) in
    values_stay (earlier ++ node_value earlier n a ∷ []) ns a i (omega (arith, longer, below))
    ∙ get_or_append_left earlier (node_value earlier n a ∷ []) false i below

-- two tests that agree on what a list has
any_same : {X : Type 0} (p q : X → Bool) (P : X → Type 0) → ((x : X) → P x → p x ≡ q x) → (xs : List X)
    → AllByRecursion P xs → list_any p xs ≡ list_any q xs
any_same p q P same [] all = refl
any_same p q P same (x ∷ xs) all =
    ap (λ b. b || list_any p xs) (same x all.0) ∙ ap (λ b. q x || b) (any_same p q P same xs all.1)

-- a node has the same value over all values as over the earlier ones
value_stays : (v : ℕ) (earlier all : List Bool) (node : Node) (a : List Bool) → FitsAt v (length earlier) node
    → ((i : ℕ) → i < length earlier → slice_index_or all i false ≡ slice_index_or earlier i false)
    → node_value earlier (without_ids node) a ≡ node_value all (without_ids node) a
value_stays v earlier all (vtree, FileConstant value) a fits same = refl
value_stays v earlier all (vtree, FileLiteral literal) a fits same = refl
value_stays v earlier all (vtree, FileDecomposition pairs) a fits same =
    any_same (λ pair. slice_index_or earlier pair.0 false && slice_index_or earlier pair.1 false)
    (λ pair. slice_index_or all pair.0 false && slice_index_or all pair.1 false) (IsEarlier (length earlier))
    (λ pair is. ap (λ b. b && slice_index_or earlier pair.1 false) (sym (same pair.0 is.prime))
    ∙ ap (λ b. slice_index_or all pair.0 false && b) (sym (same pair.1 is.sub))) pairs fits.1

-- ---- the value of a node

-- the value of a node behind the earlier ones
value_behind : (v : ℕ) (earlier : List Bool) (es : List Entry) (a : List Bool) (i : ℕ)
    → FitFrom v (length earlier) es → i < length es
    → slice_index_or (node_values earlier (plains es) a) (length earlier + i) false
    ≡ node_value (node_values earlier (plains es) a) (without_ids (slice_index_or es i no_entry).node) a
value_behind v earlier [] a i fits below = absurd (omega (arith, below))
value_behind v earlier (e ∷ es) a zero fits below =
    let value = node_value earlier (without_ids e.node) a in
    let longer = length-append earlier (value ∷ []) in
    let place : length earlier + 0 ≡ length earlier = omega arith in
    let all = node_values (earlier ++ value ∷ []) (plains es) a in
    ap (λ n. slice_index_or all n false) place
    ∙ values_stay (earlier ++ value ∷ []) (plains es) a (length earlier) (omega (arith, longer))
    ∙ get_or-append_seam earlier value [] false
    ∙ value_stays v earlier all e.node a fits.0 (values_stay earlier (without_ids e.node ∷ plains es) a)
value_behind v earlier (e ∷ es) a (suc i) fits below =
    let value = node_value earlier (without_ids e.node) a in
    let longer : length (earlier ++ value ∷ []) ≡ 1 + length earlier =
    omega (arith, length-append earlier (value ∷ [])) in
    let place : length earlier + suc i ≡ length (earlier ++ value ∷ []) + i = omega (arith, longer) in
    ap (λ n. slice_index_or (node_values (earlier ++ value ∷ []) (plains es) a) n false) place
    ∙ value_behind v (earlier ++ value ∷ []) es a i (subst (λ n. FitFrom v n es) (sym longer) fits.1)
    (omega (arith, below))

-- the value of a node is that of what it is, over the values of all nodes
pub value_there : (f : File) (index : ℕ) (a : List Bool) → IsFile f → index < length f.nodes
    → value_at f index a ≡ node_value (values_of f a) (without_ids (entry_at f index).node) a
value_there f index a is below =
    let place : index ≡ length {A = Bool} [] + index = omega arith in
    ap (λ n. slice_index_or (values_of f a) n false) place ∙ value_behind f.variables [] f.nodes a index is.fit below

-- the value of the last node is that of the file
pub last_value : (f : File) (index : ℕ) (a : List Bool) → index + 1 ≡ length f.nodes
    → value_at f index a ≡ expression_value (expression_of_file f) a
last_value f index a last =
    ap (λ n. slice_index_or (values_of f a) n false) (omega (arith, last, length-map f.nodes (λ e. without_ids e.node)))
    ∙ sym (file_value_last (map (λ e. without_ids e.node) f.nodes) a)
