-- A decomposition of the code is seen by its list of elements.
use Rattle.std.proofs.Common.{◌≡◌, ◌≢◌, subst, vec_len, ℕ, ◌+◌, ◌<◌, List, [], ◌∷◌}
use Rattle.std.proofs.Common.{length, get_or, drop, refl, sym, ◌∙◌, ap, arith, add-one}
use Rattle.std.proofs.Math.Seq.{drop-cons}
use Rattle.std.specs.declared.vec.Vec.{Vec}
use Rattle.std.specs.declared.alloc.Global.{Global}
use Rattle.sd_model.specs.declared.diagrams.Diagram.{Diagram as OwnedDiagram, Row_of-Element}
use Rattle.sd_model.specs.declared.diagrams.Diagram.{end_of-Element, more_of-Element}
use Rattle.sd_model.specs.declared.diagrams.Diagram.{items-the_row-Element, items_hidden-the_row-Element-0}
use Rattle.sd_model.specs.declared.diagrams.Diagram.{Decomposition as OwnedDecomposition}
use Rattle.sd_model.specs.declared.diagrams.Diagram.TheBlock.{hidden-the_row-Element-0}
use Rattle.sd_model.specs.declared.diagrams.Element.{Element as OwnedElement}
use Rattle.std.specs.Ordering.{ordering_then, nat_cmp}
use Rattle.std.specs.declared.cmp.Ordering.{Ordering}
use Rattle.std.specs.declared.cmp.Ordering.TheVariants.{Less, Equal, Greater}
use Rattle.sd_model.specs.Diagram.{Decomposition, Pair, count, diagram_cmp}
use Rattle.sd_model.specs.Diagram.{elements_cmp, HasVariablesTo, HaveVariablesTo}
use Rattle.sd_model.specs.Size.{element_count}
use Rattle.sd_model.specs.Seen.{diagram_of, row_elements, elements_of}

-- the elements of the code's data are those of the vector's list
row_elements_items : {m : _} (k : Row_of-Element m) → row_elements k ≡ elements_of (items-the_row-Element m k)
row_elements_items end_of-Element = refl
row_elements_items (more_of-Element prime sub rest) =
    ap (λ es. Pair (diagram_of prime) (diagram_of sub) es) (row_elements_items rest)

-- a decomposition of the code is seen by its vector's list
pub diagram_of_Decomposition : (p : ℕ) (v : Vec OwnedElement Global) →
    diagram_of (OwnedDecomposition p v) ≡ Decomposition p (elements_of v.items)
diagram_of_Decomposition p v =
    ap (λ es. Decomposition p es)
    (row_elements_items (hidden-the_row-Element-0 v) ∙ ap elements_of (items_hidden-the_row-Element-0 v))

-- the same, for a diagram that is known to be one
pub seen_decomposition : (d : OwnedDiagram) (p : ℕ) (v : Vec OwnedElement Global) → d ≡ OwnedDecomposition p v →
    diagram_of d ≡ Decomposition p (elements_of v.items)
seen_decomposition d p v e = ap diagram_of e ∙ diagram_of_Decomposition p v

-- as many elements as the list has
pub count_elements_of : (es : List OwnedElement) → count (elements_of es) ≡ length es
count_elements_of [] = refl
count_elements_of (e ∷ es) = rw (count_elements_of es) (omega arith)

-- the element count of a decomposition is the vector's length
pub seen_element_count : (d : OwnedDiagram) (p : ℕ) (v : Vec OwnedElement Global) → d ≡ OwnedDecomposition p v →
    element_count (diagram_of d) ≡ vec_len v
seen_element_count d p v e = rw (seen_decomposition d p v e) (count_elements_of v.items ∙ sym v.ok.0)

-- the elements have variables in range where the decomposition has
pub seen_in_range : (n : ℕ) (d : OwnedDiagram) (p : ℕ) (v : Vec OwnedElement Global) (es : List OwnedElement) →
    d ≡ OwnedDecomposition p v → es ≡ v.items →
    HasVariablesTo n (diagram_of d) → HaveVariablesTo n (elements_of es)
seen_in_range n d p v es e f h =
    subst (λ l. HaveVariablesTo n (elements_of l)) (sym f)
    (subst (λ x. HasVariablesTo n x) (seen_decomposition d p v e) h)

-- where positions or lengths differ, the elements play no part
unequal : (p q : ℕ) (xs ys : List OwnedElement) (o : Ordering) →
    o ≡ ordering_then (nat_cmp p q) (nat_cmp (length xs) (length ys)) → o ≢ Equal →
    o ≡ diagram_cmp (Decomposition p (elements_of xs)) (Decomposition q (elements_of ys))
unequal p q xs ys o e ne =
    rw (count_elements_of xs, count_elements_of ys)
    (go (nat_cmp p q) (nat_cmp (length xs) (length ys)) (elements_cmp (elements_of xs) (elements_of ys)) o e ne)
  where
    go : (f g h o : Ordering) → o ≡ ordering_then f g → o ≢ Equal → o ≡ ordering_then f (ordering_then g h)
    go Less g h o e ne = e
    go Greater g h o e ne = e
    go Equal Less h o e ne = e
    go Equal Greater h o e ne = e
    go Equal Equal h o e ne = absurd (ne e)

-- decompositions of different positions or lengths
pub seen_unequal : (a b : OwnedDiagram) (p q : ℕ) (v w : Vec OwnedElement Global) (o : Ordering) →
    a ≡ OwnedDecomposition p v → b ≡ OwnedDecomposition q w →
    o ≡ ordering_then (nat_cmp p q) (nat_cmp (vec_len v) (vec_len w)) → o ≢ Equal → o ≡ diagram_cmp (diagram_of a)
    (diagram_of b)
seen_unequal a b p q v w o ea eb e ne =
    rw (seen_decomposition a p v ea, seen_decomposition b q w eb)
    (unequal p q v.items w.items o (rw (v.ok.0, w.ok.0) at e) ne)

-- the elements from an index on
pub elements_of_drop : (es : List OwnedElement) (i : ℕ) (d : OwnedElement) → i < length es →
    elements_of (drop i es)
    ≡ Pair (diagram_of (get_or es i d).prime) (diagram_of (get_or es i d).sub) (elements_of (drop (i + 1) es))
elements_of_drop es i d h = rw (add-one, drop-cons es i d h)

-- a decomposition and its number of elements
pub ruleset seen_laws = (seen_decomposition, count_elements_of)
