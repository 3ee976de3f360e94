-- Nodes of a manager that are built of a file's nodes have their values.
use Rattle.std.proofs.Common.{◌≡◌, ℕ, ◌+◌, ◌<◌, Bool, true, false, ◌||◌, List, [], ◌∷◌, ◌++◌}
use Rattle.std.proofs.Common.{length, take, slice_get, slice_index_or, Some, ℤ}
use Rattle.std.proofs.Common.{refl, sym, ap, subst, ◌∙◌, arith, length-append, inl, inr}
use Rattle.std.proofs.lemmas.Bool.{cases_lt}
use Rattle.std.proofs.lemmas.Grind.{get_or_default_zero}
use Rattle.std.proofs.lemmas.List.{get_or_append_left}
use Rattle.std.proofs.lemmas.List.Folds.{list_any_more}
use Rattle.std.proofs.lemmas.Option.{slice_get_within, get_or_from_slice_get}
use Rattle.std.proofs.Math.Seq.{get_or-append_seam}
use Rattle.std.specs.List.{list_any}
use Rattle.sd_model.specs.declared.trees.Operation.{Operation}
use Rattle.sd_model.specs.declared.trees.Operation.TheVariants.{And, Or}
use Rattle.sd_model.specs.Assignment.{literal_holds}
use Rattle.sd_model.specs.Diagram.{Diagram, meaning}
use Rattle.sd_model.specs.Expression.{FileNode, FileConstant, FileLiteral, FileDecomposition}
use Rattle.sd_model.specs.Expression.{combine, node_value, expression_value}
use Rattle.sd_manager.specs.Table.{Table}
use Rattle.sd_manager.specs.Shown.{ShowsCanonical, IsNodeOf, constant_diagram}
use Rattle.sd_manager.specs.Making.{Extends}
use Rattle.sd_manager.proofs.Extending.{extends_self}
use Rattle.sd_apply.specs.Answers.{HasAnswer, Combines}
use Rattle.sd_apply.proofs.Listed.{answer_on}
use Rattle.sd_file.specs.Built.{values_of, value_at, pair_value, IsMarked, AreReached, AreBuilt, AreChildrenBuilt}
use Rattle.sd_file.specs.declared.file.FileNode.TheVariants as kinds
use Rattle.sd_file.specs.Files.{IsEarlier, IsFile, entry_at, pairs_in, entry_pairs, kind_of}
use Rattle.sd_file.specs.Reads.{Node, File, without_ids, expression_of_file}
use Rattle.sd_file.proofs.FitLaws.{earlier_at}
use Rattle.sd_file.proofs.Values.{value_there, last_value}

-- ---- answers

-- a node that shows a value is answer_node
pub answer_node : (t : Table) (f : List Bool → Bool) (c : ℕ) → HasAnswer t f c → IsNodeOf t c
answer_node t f c h = record { diagram = h.diagram; is = h.is }

-- a node shows each equal value
pub answer_same : (t : Table) (f g : List Bool → Bool) (c : ℕ)
    → ((assignment : List Bool) → f assignment ≡ g assignment)
    → HasAnswer t f c → HasAnswer t g c
answer_same t f g c same h = record {
  diagram = h.diagram;
  is = h.is;
  value = λ assignment. h.value assignment ∙ same assignment;
}

-- the answer of a connective
combined : (old new : Table) (o : Operation) (f g : List Bool → Bool) (a b c : ℕ) → HasAnswer old f a
    → HasAnswer old g b → Combines old new o a b c
    → HasAnswer new (λ assignment. combine o (f assignment) (g assignment)) c
combined old new o f g a b c p q combines =
    let r = combines.each p.diagram q.diagram p.is q.is in record {
      diagram = r.diagram;
      is = r.is;
      value = λ assignment. r.value assignment
          ∙ ap (λ v. combine o v (meaning q.diagram assignment)) (p.value assignment)
          ∙ ap (combine o (f assignment)) (q.value assignment);
    }

-- the answer of a constant
pub constant_answer : (t : Table) (b : Bool) (c : ℕ) → ShowsCanonical t c (constant_diagram b)
    → HasAnswer t (λ assignment. b) c
constant_answer t true c is = record { diagram = constant_diagram true; is = is; value = λ assignment. refl }
constant_answer t false c is = record { diagram = constant_diagram false; is = is; value = λ assignment. refl }

-- ---- the nodes of a file

-- the answer of a child, in a larger table
pub child_at : (f : File) (old new : Table) (built : List ℕ) (count index node : ℕ) → Extends old new
    → HasAnswer old (value_at f index) (slice_index_or built index 0) → length built ≡ count → index < count
    → node ≡ slice_index_or built index node → HasAnswer new (value_at f index) node
child_at f old new built count index node kept answer all below is =
    let within : index < length built = omega (arith, all, below) in
    let same = is ∙ get_or_default_zero built index node within in
    subst (HasAnswer new (value_at f index)) (sym same)
    (answer_on old new kept (value_at f index) (slice_index_or built index 0) answer)

-- the children of a marked node are built
pub children_built : (f : File) (t : Table) (marks : List Bool) (built : List ℕ) (index : ℕ) → IsFile f
    → AreReached f 0 marks → AreBuilt t f marks built → length built ≡ index → index < length f.nodes
    → IsMarked marks index → AreChildrenBuilt t f index built
children_built f t marks built index is reached are all below marked = record {
  prime = λ element pair at. are.each pair.0 (omega (arith, all, (earlier element pair at).prime))
      (reached.children index element pair (omega arith) marked at).prime;
  sub = λ element pair at. are.each pair.1 (omega (arith, all, (earlier element pair at).sub))
      (reached.children index element pair (omega arith) marked at).sub;
}
  where
    earlier : (element : ℕ) (pair : ℕ × ℕ) → slice_get (entry_pairs f index) element ≡ Some pair → IsEarlier index pair
    earlier element pair at = earlier_at f index element pair is below at

-- one node more, which has an answer where it is marked
pub built_more : (f : File) (old new : Table) (marks : List Bool) (built later : List ℕ) (count c : ℕ)
    → Extends old new → AreBuilt old f marks built → length built ≡ count
    → (IsMarked marks count → HasAnswer new (value_at f count) c) → later ≡ built ++ c ∷ []
    → AreBuilt new f marks later
built_more f old new marks built later count c kept are all is same =
    subst (AreBuilt new f marks) (sym same) (record { each = at })
  where
    at : (index : ℕ) → index < length (built ++ c ∷ []) → IsMarked marks index
        → HasAnswer new (value_at f index) (slice_index_or (built ++ c ∷ []) index 0)
    at index below marked = elim (cases_lt index (length built)) [
      | inl earlier ↦
          subst (HasAnswer new (value_at f index)) (sym (get_or_append_left built (c ∷ []) 0 index earlier))
          (answer_on old new kept (value_at f index) (slice_index_or built index 0) (are.each index earlier marked))
      | inr last ↦
          let here : length built ≡ index = omega (arith, length-append built (c ∷ []), below, last) in
          let place : count ≡ index = omega (arith, all, here) in
          subst (λ n. HasAnswer new (value_at f index) (slice_index_or (built ++ c ∷ []) n 0)) here
          (subst (HasAnswer new (value_at f index)) (sym (get_or-append_seam built c [] 0))
          (subst (λ n. HasAnswer new (value_at f n) c) place (is (subst (IsMarked marks) (sym place) marked))))
    ]

-- one node more without a mark
pub built_past : (f : File) (t : Table) (marks : List Bool) (built later : List ℕ) (count c : ℕ)
    → AreBuilt t f marks built → length built ≡ count → slice_index_or marks count false ≡ false
    → later ≡ built ++ c ∷ [] → AreBuilt t f marks later
built_past f t marks built later count c are all none is =
    built_more f t t marks built later count c (extends_self t) are all
    (λ marked. absurd (cc (sym marked ∙ none))) is

-- ---- what each kind of node shows

-- a node of one kind is one of the formula's nodes
plain_constant : (node : Node) (b : Bool) → kinds.Constant b ≡ kind_of node → without_ids node ≡ FileConstant b
plain_constant (vtree, FileConstant value) b is = let same : value ≡ b = cc in ap FileConstant same
plain_constant (vtree, FileLiteral z) b is = absurd cc
plain_constant (vtree, FileDecomposition pairs) b is = absurd cc

plain_literal : (node : Node) (vtree : ℕ) (z : ℤ) → kinds.Literal vtree z ≡ kind_of node
    → without_ids node ≡ FileLiteral z
plain_literal (own, FileConstant value) vtree z is = absurd cc
plain_literal (own, FileLiteral literal) vtree z is = let same : literal ≡ z = cc in ap FileLiteral same
plain_literal (own, FileDecomposition pairs) vtree z is = absurd cc

plain_decomposition : (node : Node) (vtree count : ℕ) → kinds.Decomposition vtree count ≡ kind_of node
    → without_ids node ≡ FileDecomposition (pairs_in node)
plain_decomposition (own, FileConstant value) vtree count is = absurd cc
plain_decomposition (own, FileLiteral literal) vtree count is = absurd cc
plain_decomposition (own, FileDecomposition pairs) vtree count is = refl

-- the value of a node that is this one of the formula's
value_of_plain : (f : File) (index : ℕ) (assignment : List Bool) (node : FileNode) → IsFile f → index < length f.nodes
    → without_ids (entry_at f index).node ≡ node → node_value (values_of f assignment) node assignment
    ≡ value_at f index assignment
value_of_plain f index assignment node is below same =
    sym (value_there f index assignment is below ∙ ap (λ n. node_value (values_of f assignment) n assignment) same)

-- a constant
pub constant_built : (t : Table) (f : File) (index : ℕ) (b : Bool) (c : ℕ) → IsFile f → index < length f.nodes
    → kinds.Constant b ≡ kind_of (entry_at f index).node → ShowsCanonical t c (constant_diagram b)
    → HasAnswer t (value_at f index) c
constant_built t f index b c is below kind shown =
    let same = plain_constant (entry_at f index).node b kind in
    answer_same t (λ assignment. b) (value_at f index) c
    (λ assignment. value_of_plain f index assignment (FileConstant b) is below same) (constant_answer t b c shown)

-- a literal
pub literal_built : (t : Table) (f : File) (index vtree : ℕ) (z : ℤ) (c : ℕ) → IsFile f → index < length f.nodes
    → kinds.Literal vtree z ≡ kind_of (entry_at f index).node
    → (d : Diagram) × ShowsCanonical t c d
    × ((assignment : List Bool) → meaning d assignment ≡ literal_holds assignment z)
    → HasAnswer t (value_at f index) c
literal_built t f index vtree z c is below kind shown =
    let same = plain_literal (entry_at f index).node vtree z kind in
    answer_same t (λ assignment. literal_holds assignment z) (value_at f index) c
    (λ assignment. value_of_plain f index assignment (FileLiteral z) is below same)
    (record { diagram = shown.0; is = shown.1; value = shown.2 })

-- a decomposition
pub decomposition_built : (t : Table) (f : File) (index vtree count : ℕ) → IsFile f → index < length f.nodes
    → kinds.Decomposition vtree count ≡ kind_of (entry_at f index).node → (c : ℕ)
    → HasAnswer t (λ assignment. list_any (pair_value f assignment) (entry_pairs f index)) c
    → HasAnswer t (value_at f index) c
decomposition_built t f index vtree count is below kind c shown =
    let same = plain_decomposition (entry_at f index).node vtree count kind in
    answer_same t (λ assignment. list_any (pair_value f assignment) (entry_pairs f index)) (value_at f index) c
    (λ assignment. value_of_plain f index assignment (FileDecomposition (entry_pairs f index)) is below same) shown

-- the last of all nodes is the file's
pub last_built : (f : File) (t : Table) (marks : List Bool) (built : List ℕ) (last_index node : ℕ)
    → AreReached f 0 marks → AreBuilt t f marks built → length built ≡ length f.nodes → last_index + 1 ≡ length built
    → node ≡ slice_index_or built last_index node → HasAnswer t (expression_value (expression_of_file f)) node
last_built f t marks built last_index node reached are all last is =
    let within : last_index < length built = omega (arith, last) in
    let end : last_index + 1 ≡ length f.nodes = omega (arith, last, all) in
    let same = is ∙ get_or_default_zero built last_index node within in
    answer_same t (value_at f last_index) (expression_value (expression_of_file f)) node
    (λ assignment. last_value f last_index assignment end)
    (subst (HasAnswer t (value_at f last_index)) (sym same) (are.each last_index within (reached.last last_index end)))

-- ---- the pairs of a decomposition

-- the value of its first pairs
abbrev pub front_value : File → ℕ → ℕ → List Bool → Bool
front_value f index count assignment = list_any (pair_value f assignment) (take count (entry_pairs f index))

-- the conjunction of a prime and a sub
pub pair_answer : (f : File) (old new : Table) (pair : ℕ × ℕ) (prime sub product : ℕ)
    → HasAnswer old (value_at f pair.0) prime → HasAnswer old (value_at f pair.1) sub
    → Combines old new And prime sub product → HasAnswer new (λ assignment. pair_value f assignment pair) product
pair_answer f old new pair prime sub product first second both =
    combined old new And (value_at f pair.0) (value_at f pair.1) prime sub product first second both

-- one pair more
pub pair_more : (f : File) (old mid new : Table) (index i : ℕ) (pair : ℕ × ℕ) (node product c : ℕ)
    → slice_get (entry_pairs f index) i ≡ Some pair → Extends old mid
    → HasAnswer old (front_value f index i) node → HasAnswer mid (λ assignment. pair_value f assignment pair) product
    → Combines mid new Or node product c → HasAnswer new (front_value f index (i + 1)) c
pair_more f old mid new index i pair node product c at kept front one more =
    let xs = entry_pairs f index in
    let below = slice_get_within xs i pair at in
    let here = get_or_from_slice_get xs i pair pair at in
    answer_same new (λ assignment. front_value f index i assignment || pair_value f assignment pair)
    (front_value f index (i + 1)) c
    (λ assignment. sym (list_any_more (pair_value f assignment) xs i pair below
    ∙ ap (λ x. front_value f index i assignment || pair_value f assignment x) here))
    (combined mid new Or (front_value f index i) (λ assignment. pair_value f assignment pair) node product c
    (answer_on old mid kept (front_value f index i) node front) one more)
