-- What a node shows after an operation, and what a root answers.
use Rattle.std.proofs.Common.{◌≡◌, ◌↔◌, ℕ, zero, suc, ◌≤◌, ◌<◌, Bool, true, false, not, ◌||◌, IsTrue}
use Rattle.std.specs.Prelude.{◌^◌, codes, decimal, if◌then◌else◌}
use Rattle.std.specs.List.{AllByRecursion, AllZip}
use Rattle.std.proofs.lemmas.List.{take_more}
use Rattle.std.proofs.lemmas.List.Elements.{AllZip-push}
use Rattle.std.proofs.Common.{List, [], ◌∷◌, ◌++◌, ◌+◌, map, take, get_or, length}
use Rattle.std.proofs.Common.{ℤ, pos, negsuc, refl, sym, ap, subst, ◌∙◌, arith, Result, Ok, Err, IfOk}
use Rattle.sd_runs.specs.declared.error.TakeError.{TakeError}
use Rattle.sd_model.specs.declared.trees.Operation.{Operation}
use Rattle.sd_model.specs.Tree.{Tree, leaves}
use Rattle.sd_model.specs.Assignment.{literal_holds, with_entry, with_value, with_literal}
use Rattle.sd_model.specs.Diagram.{Diagram, meaning}
use Rattle.sd_model.specs.Circuit.{Circuit, circuit_output}
use Rattle.sd_model.specs.Expression.{Expression, Constant, Atom, Combined, Negated, Conditioned, Forgotten, OutputOf}
use Rattle.sd_model.specs.Expression.{combine, expression_value, AreOneFunction}
use Rattle.sd_model.specs.Size.{IsDiagramOf, HasSize, size_of}
use Rattle.sd_model.specs.Text.{number_text, roots_text}
use Rattle.sd_model.proofs.Numbers.{number_text_decimal}
use Rattle.sd_vtree.specs.Numbered.{plain_tree}
use Rattle.sd_manager.specs.Literals.{IsLiteralTo}
use Rattle.sd_manager.specs.Table.{Table}
use Rattle.sd_manager.specs.Shown.{ShowsCanonical, IsNodeOf, HoldsDiagram, constant_diagram}
use Rattle.sd_manager.specs.Making.{Extends}
use Rattle.sd_apply.specs.Answers.{HasAnswer, Combines, Negates}
use Rattle.sd_cond.specs.Answers.{Conditions, Forgets}
use Rattle.sd_commands.specs.Commands.{State, IsTextOf, formula_named, value_line}
use Rattle.sd_commands.specs.Standing.{HoldsValue, ShowsFormula, ShowsNamed}
use Rattle.sd_commands.proofs.Standing.{diagram_held}

-- a node that shows a formula is a node of the manager
pub value_node : (t : Table) (c : ℕ) (f : Expression) → ShowsFormula t c f → IsNodeOf t c
value_node t c f h = record { diagram = h.diagram; is = h.is }

-- a node with the value of a formula shows its diagram
pub answer_value : (t : Table) (c : ℕ) (f : Expression) → HasAnswer t (expression_value f) c → ShowsFormula t c f
answer_value t c f h = record {
  diagram = h.diagram;
  is = h.is;
  of_value = record { canonical = h.is.canonical; same_value = λ a assignment. h.value a };
}

-- the node of an output
pub output_value : (result : Result ℕ TakeError) (t : Table) (seen circuit : Circuit) (index : ℕ) → seen ≡ circuit
    → IfOk result (λ node. HasAnswer t (circuit_output circuit index) node)
    → IfOk result (λ node. ShowsFormula t node (OutputOf seen index))
output_value (Ok node) t seen circuit index same h =
    answer_value t node (OutputOf seen index)
    (subst (λ c. HasAnswer t (circuit_output c index) node) (sym same) h)
output_value (Err e) t seen circuit index same h = tt

-- the node of a literal
pub literal_value : (t : Table) (c : ℕ) (z : ℤ)
    → (d : Diagram) × ShowsCanonical t c d
    × ((assignment : List Bool) → meaning d assignment ≡ literal_holds assignment z)
    → ShowsFormula t c (Atom z)
literal_value t c z h = answer_value t c (Atom z) (record { diagram = h.0; is = h.1; value = h.2 })

-- the node of a constant
pub constant_value : (t : Table) (c : ℕ) (b : Bool) → ShowsCanonical t c (constant_diagram b)
    → ShowsFormula t c (Constant b)
constant_value t c b h =
    answer_value t c (Constant b) (record { diagram = constant_diagram b; is = h; value = constant b })
  where
    constant : (b : Bool) (assignment : List Bool) → meaning (constant_diagram b) assignment ≡ b
    constant true assignment = refl
    constant false assignment = refl

-- an assignment has the same length over a later table
length_before : (old new : Table) (a : List Bool) → Extends old new → length a ≡ leaves (plain_tree new.vtree)
    → length a ≡ leaves (plain_tree old.vtree)
length_before old new a kept assignment = assignment ∙ ap (λ v. leaves (plain_tree v)) kept.vtree

-- the node of two formulas that are joined
pub combined_value : (old new : Table) (o : Operation) (f g : Expression) (a b c : ℕ) → Extends old new
    → ShowsFormula old a f → ShowsFormula old b g → Combines old new o a b c → ShowsFormula new c (Combined o f g)
combined_value old new o f g a b c kept p q combines =
    let r = combines.each p.diagram q.diagram p.is q.is in record {
      diagram = r.diagram;
      is = r.is;
      of_value = record {
        canonical = r.is.canonical;
        same_value = λ assignment fits.
            let before = length_before old new assignment kept fits in
            r.value assignment
            ∙ ap (λ v. combine o v (meaning q.diagram assignment)) (p.of_value.same_value assignment before)
            ∙ ap (combine o (expression_value f assignment)) (q.of_value.same_value assignment before);
      };
    }

-- the node of a formula that is negated
pub negated_value : (old new : Table) (f : Expression) (a c : ℕ) → Extends old new → ShowsFormula old a f
    → Negates old new a c → ShowsFormula new c (Negated f)
negated_value old new f a c kept p negates =
    let r = negates.each p.diagram p.is in record {
      diagram = r.diagram;
      is = r.is;
      of_value = record {
        canonical = r.is.canonical;
        same_value = λ assignment fits.
            r.value assignment ∙ ap not (p.of_value.same_value assignment (length_before old new assignment kept fits));
      };
    }

-- an entry that is there is set, and the list keeps its length
entry_length : (a : List Bool) (i : ℕ) (v : Bool) → i < length a → length (with_entry a i v) ≡ length a
entry_length [] i v below = absurd (omega arith)
entry_length (b ∷ a) zero v below = refl
entry_length (b ∷ a) (suc i) v below = ap suc (entry_length a i v (omega arith))

value_length : (a : List Bool) (x n : ℕ) (v : Bool) → 1 ≤ x → x ≤ n → length a ≡ n → length (with_value a x v) ≡ n
value_length a zero n v low high fits = absurd (omega arith)
value_length a (suc i) n v low high fits = entry_length a i v (let e = sym fits in omega arith) ∙ fits

literal_length : (a : List Bool) (z : ℤ) (n : ℕ) → IsLiteralTo n z → length a ≡ n → length (with_literal a z) ≡ n
literal_length a (pos x) n is fits = value_length a x n true is.0 is.1 fits
literal_length a (negsuc i) n is fits = value_length a (suc i) n false (omega arith) (let e = is in omega arith) fits

-- the node of a formula where a literal holds
pub conditioned_value : (old new : Table) (f : Expression) (z : ℤ) (a c : ℕ) → Extends old new
    → IsLiteralTo (leaves (plain_tree old.vtree)) z → ShowsFormula old a f → Conditions old new a z c
    → ShowsFormula new c (Conditioned f z)
conditioned_value old new f z a c kept literal p conditions =
    let r = conditions.each p.diagram p.is in record {
      diagram = r.diagram;
      is = r.is;
      of_value = record {
        canonical = r.is.canonical;
        same_value = λ assignment fits.
            r.value assignment
            ∙ p.of_value.same_value (with_literal assignment z)
            (literal_length assignment z _ literal (length_before old new assignment kept fits));
      };
    }

-- the node of a formula with a variable forgotten
pub forgotten_value : (old new : Table) (f : Expression) (x a c : ℕ) → Extends old new → 1 ≤ x
    → x ≤ leaves (plain_tree old.vtree) → ShowsFormula old a f → Forgets old new a x c
    → ShowsFormula new c (Forgotten f x)
forgotten_value old new f x a c kept low high p forgets =
    let r = forgets.each p.diagram p.is in record {
      diagram = r.diagram;
      is = r.is;
      of_value = record {
        canonical = r.is.canonical;
        same_value = λ assignment fits.
            let before = length_before old new assignment kept fits in
            r.value assignment
            ∙ ap (λ b. b || meaning p.diagram (with_value assignment x false))
            (p.of_value.same_value (with_value assignment x true)
            (value_length assignment x _ true low high before))
            ∙ ap (λ b. expression_value f (with_value assignment x true) || b)
            (p.of_value.same_value (with_value assignment x false)
            (value_length assignment x _ false low high before));
      };
    }

-- ---- what a root answers

-- the diagram that is held is that of the tree
of_tree : (t : Table) (tree : Tree) (root : ℕ) (f : Expression) → tree ≡ plain_tree t.vtree → (h : HoldsValue t root f)
    → IsDiagramOf tree f h.diagram
of_tree t tree root f same h = subst (λ s. IsDiagramOf s f h.diagram) (sym same) h.of_value

-- whether two roots hold one function
pub compared : (t : Table) (tree : Tree) (r s : ℕ) (f g : Expression) (answer : Bool) → tree ≡ plain_tree t.vtree
    → HoldsValue t r f → HoldsValue t s g
    → ((x y : Diagram) → HoldsDiagram t r x → HoldsDiagram t s y → IsTrue answer ↔ ((assignment : List Bool)
    → length assignment ≡ leaves (plain_tree t.vtree) → meaning x assignment ≡ meaning y assignment))
    → (answer ≡ true) ↔ AreOneFunction (leaves tree) f g
compared t tree r s f g answer same p q says =
    let iff = says p.diagram q.diagram (diagram_held t r f p) (diagram_held t s g q) in
    subst (λ u. (answer ≡ true) ↔ AreOneFunction (leaves u) f g) (sym same) (
      λ is a fits. sym (p.of_value.same_value a fits) ∙ iff.0 is a fits ∙ q.of_value.same_value a fits,
      λ one. iff.1 (λ a fits. p.of_value.same_value a fits ∙ one a fits ∙ sym (q.of_value.same_value a fits)),
    )

-- the text of a number of 32 bits
pub in_digits : (n : ℕ) → n < 2 ^ 32 → number_text n ≡ decimal n
in_digits n fits = number_text_decimal n (omega arith)

-- the bytes of the line with a truth value
pub value_bytes : (value : Bool) → value_line value ≡ (if value then codes "value 1" else codes "value 0") ++ 10 ∷ []
unfolding number_text
value_bytes true = refl
value_bytes false = refl

-- the value of a root
pub evaluated : (t : Table) (root : ℕ) (f : Expression) (bits : List Bool) (value : Bool)
    → length bits ≡ leaves (plain_tree t.vtree) → HoldsValue t root f
    → ((d : Diagram) → HoldsDiagram t root d → value ≡ meaning d bits) → value ≡ expression_value f bits
evaluated t root f bits value fits h is = is h.diagram (diagram_held t root f h) ∙ h.of_value.same_value bits fits

-- the size of a root
pub sized : (t : Table) (tree : Tree) (root : ℕ) (f : Expression) (n : ℕ) → tree ≡ plain_tree t.vtree
    → HoldsValue t root f → ((d : Diagram) → HoldsDiagram t root d → n ≡ size_of (d ∷ [])) → HasSize (f ∷ []) tree n
sized t tree root f n same h is = record {
  diagrams = h.diagram ∷ [];
  each = (of_tree t tree root f same h, tt);
  size = sym (is h.diagram (diagram_held t root f h));
}

-- the nodes of names show the diagrams of their formulas, for an equal tree
shown_each : (t : Table) (seen : State) (names nodes : List ℕ) → seen.tree ≡ plain_tree t.vtree
    → AllZip (ShowsNamed t seen) names nodes
    → (ds : List Diagram) × AllZip (ShowsCanonical t) nodes ds
    × AllZip (IsDiagramOf seen.tree) (map (formula_named seen) names) ds
shown_each t seen [] [] same h = ([], tt, tt)
shown_each t seen [] (node ∷ nodes) same h = absurd h
shown_each t seen (name ∷ names) [] same h = absurd h
shown_each t seen (name ∷ names) (node ∷ nodes) same h =
    let rest = shown_each t seen names nodes same h.1 in (
      h.0.diagram ∷ rest.0,
      (h.0.is, rest.1),
      (subst (λ u. IsDiagramOf u (formula_named seen name) h.0.diagram) (sym same) h.0.of_value, rest.2),
    )

-- so the text of the nodes is that of the formulas
pub worded : (t : Table) (seen : State) (names nodes : List ℕ) (text : List ℕ) → seen.tree ≡ plain_tree t.vtree
    → AllZip (ShowsNamed t seen) names nodes
    → ((ds : List Diagram) → AllZip (ShowsCanonical t) nodes ds → text ≡ roots_text ds)
    → IsTextOf seen.tree (map (formula_named seen) names) text
worded t seen names nodes text same h is =
    let shown = shown_each t seen names nodes same h in
    record { diagrams = shown.0; of_values = shown.2; is = is shown.0 shown.1 }

-- each of them shows a canonical diagram
pub nodes_shown : (t : Table) (seen : State) (names nodes : List ℕ) → AllZip (ShowsNamed t seen) names nodes
    → AllByRecursion (IsNodeOf t) nodes
nodes_shown t seen [] [] h = tt
nodes_shown t seen [] (node ∷ nodes) h = absurd h
nodes_shown t seen (name ∷ names) [] h = absurd h
nodes_shown t seen (name ∷ names) (node ∷ nodes) h =
    (record { diagram = h.0.diagram; is = h.0.is }, nodes_shown t seen names nodes h.1)

-- one name more, with its node
pub named_more : (R : ℕ → ℕ → Type 0) (names nodes : List ℕ) (i d node : ℕ) → i < length names
    → AllZip R (take i names) nodes → R (get_or names i d) node → AllZip R (take (i + 1) names) (nodes ++ node ∷ [])
named_more R names nodes i d node lt h r =
    subst (λ l. AllZip R l (nodes ++ node ∷ [])) (sym (take_more names i d lt))
    (AllZip-push R (take i names) nodes (get_or names i d) node h r)
