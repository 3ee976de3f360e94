-- The nodes of diagrams have the meanings of the diagrams as their values.
use Rattle.std.proofs.Common.{◌≡◌, ℕ, zero, suc, ◌+◌, ◌-◌, ◌≤◌, Bool, true, false, ◌&&◌, List, [], ◌∷◌, ◌++◌}
use Rattle.std.proofs.Common.{map, length, slice_index_or, refl, sym, ap, ◌∙◌, arith, append_assoc, append-nil}
use Rattle.std.specs.List.{AllByRecursion, list_any}
use Rattle.std.proofs.lemmas.List.{map_push, length-map, length_push}
use Rattle.sd_model.specs.Assignment.{literal_holds}
use Rattle.sd_model.specs.Diagram.{Diagram, Bottom, Top, Literal, Decomposition, Elements, End, Pair}
use Rattle.sd_model.specs.Diagram.{meaning, some_element}
use Rattle.sd_model.specs.Canonical.{IsElement, first, later}
use Rattle.sd_model.specs.Expression.{node_value, node_values, expression_value}
use Rattle.sd_model.specs.Listing.{is_among}
use Rattle.sd_model.proofs.ClosedLists.{ChildrenAmong, IsClosed}
use Rattle.sd_model.proofs.FileValues.{file_value_last}
use Rattle.sd_file.specs.Reads.{without_ids, expression_of_file}
use Rattle.sd_file.proofs.DiagramPlaces.{value_at_index}
use Rattle.sd_file.proofs.NodeLines.{written_pairs, signed, written_node, written_entry, IsReadable}

-- the values of diagrams
abbrev pub meanings : List Bool → List Diagram → List Bool
meanings assignment ds = map (λ d. meaning d assignment) ds

-- a literal holds
signed_holds : (assignment : List Bool) (p x : ℕ) (positive : Bool) → 1 ≤ x
    → literal_holds assignment (signed x positive) ≡ meaning (Literal p x positive) assignment
signed_holds assignment p zero positive some = absurd (omega arith)
signed_holds assignment p (suc i) true some = refl
signed_holds assignment p (suc i) false some = refl

-- some element is true
elements_hold : (assignment : List Bool) (before ds : List Diagram) (es : Elements)
    → ((q s : Diagram) → IsElement q s es → (is_among q before ≡ true) × (is_among s before ≡ true))
    → list_any (λ pair. slice_index_or (meanings assignment before) pair.0 false
    && slice_index_or (meanings assignment before) pair.1 false) (written_pairs (before ++ ds) es)
    ≡ some_element es assignment
elements_hold assignment before ds End there = refl
elements_hold assignment before ds (Pair p s rest) there =
    let here = there p s first in
    let prime = value_at_index (λ d. meaning d assignment) false p before ds here.0 in
    let sub = value_at_index (λ d. meaning d assignment) false s before ds here.1 in
    rw (prime, sub, elements_hold assignment before ds rest (λ q t m. there q t (later m))) refl

-- the node of a diagram whose primes and subs stand before it
node_means : (assignment : List Bool) (v : ℕ) (before ds : List Diagram) (d : Diagram) → ChildrenAmong before d
    → IsReadable v d
    → node_value (meanings assignment before) (without_ids (written_node (before ++ ds) d)) assignment
    ≡ meaning d assignment
node_means assignment v before ds Bottom there fits = refl
node_means assignment v before ds Top there fits = refl
node_means assignment v before ds (Literal p x positive) there fits = signed_holds assignment p x positive fits.1
node_means assignment v before ds (Decomposition p es) there fits = elements_hold assignment before ds es there

-- the nodes of diagrams behind earlier ones
nodes_mean : (assignment : List Bool) (v : ℕ) (nodes before ds : List Diagram) → nodes ≡ before ++ ds
    → IsClosed before ds → AllByRecursion (IsReadable v) ds
    → node_values (meanings assignment before) (map (λ e. without_ids e.node) (map (written_entry nodes) ds)) assignment
    ≡ meanings assignment (before ++ ds)
nodes_mean assignment v nodes before [] is closed fit = ap (meanings assignment) (sym (append-nil before))
nodes_mean assignment v nodes before (d ∷ ds) is closed fit =
    let here : node_value (meanings assignment before) (without_ids (written_node nodes d)) assignment
    ≡ meaning d assignment =
    ap (λ ns. node_value (meanings assignment before) (without_ids (written_node ns d)) assignment) is
    ∙ node_means assignment v before (d ∷ ds) d closed.0 fit.0 in
    let pushed = map_push (λ e. meaning e assignment) before d in
    let others = map (λ e. without_ids e.node) (map (written_entry nodes) ds) in
    let joined = append_assoc before (d ∷ []) ds in
    ap (λ b. node_values (meanings assignment before ++ b ∷ []) others assignment) here
    ∙ ap (λ bs. node_values bs others assignment) (sym pushed)
    ∙ nodes_mean assignment v nodes (before ++ d ∷ []) ds (is ∙ sym joined) closed.1 fit.1
    ∙ ap (meanings assignment) joined

-- the last of a list of values
last_value : (assignment : List Bool) (before : List Diagram) (d : Diagram)
    → slice_index_or (meanings assignment (before ++ d ∷ [])) (length before) false ≡ meaning d assignment
last_value assignment [] d = refl
last_value assignment (e ∷ before) d = last_value assignment before d

-- the file of all nodes has the meaning of the last
pub file_means : (v : ℕ) (nodes before : List Diagram) (d : Diagram) → IsClosed [] nodes
    → AllByRecursion (IsReadable v) nodes → nodes ≡ before ++ d ∷ [] → (assignment : List Bool)
    → expression_value (expression_of_file (record { variables = v; nodes = map (written_entry nodes) nodes }))
    assignment
    ≡ meaning d assignment
file_means v nodes before d closed fit is assignment =
    let written = map (λ e. without_ids e.node) (map (written_entry nodes) nodes) in
    let values = nodes_mean assignment v nodes [] nodes refl closed fit in
    let count : length written ≡ length nodes =
    length-map (map (written_entry nodes) nodes) (λ e. without_ids e.node) ∙ length-map nodes (written_entry nodes) in
    let longer : length nodes ≡ length before + 1 = ap length is ∙ length_push before d in
    let index : (length written - 1) ≡ length before = omega (arith, count, longer) in
    file_value_last written assignment ∙ ap (λ bs. slice_index_or bs (length written - 1) false) values
    ∙ ap (λ n. slice_index_or (meanings assignment nodes) n false) index
    ∙ ap (λ ds. slice_index_or (meanings assignment ds) (length before) false) is
    ∙ last_value assignment before d
