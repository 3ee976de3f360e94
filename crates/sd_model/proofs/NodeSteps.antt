-- Steps of the functions that list the distinct diagrams under roots.
use Rattle.std.proofs.Common.{◌≡◌, ◌≢◌, ℕ, suc, ◌+◌, ◌<◌, ◌≤◌, Bool, true, false, cond, ◌||◌, List}
use Rattle.std.proofs.Common.{[], ◌∷◌, ◌++◌, map, length, get_or, drop, refl, sym, ◌∙◌, ap, arith, add-one}
use Rattle.std.proofs.Math.Seq.{drop-cons}
use Rattle.std.proofs.lemmas.List.{map-append, drop_all}
use Rattle.std.specs.List.{flat_map}
use Rattle.std.specs.Ordering.{is_eq}
use Rattle.std.specs.declared.cmp.Ordering.{Ordering}
use Rattle.std.specs.declared.cmp.Ordering.TheVariants.{Less, Equal, Greater}
use Rattle.std.specs.declared.vec.Vec.{Vec}
use Rattle.std.specs.declared.alloc.Global.{Global}
use denote.Bor.{Bor}
use Rattle.sd_model.specs.declared.diagrams.Diagram.{Diagram as OwnedDiagram, Decomposition as OwnedDecomposition}
use Rattle.sd_model.specs.declared.diagrams.Element.{Element as OwnedElement}
use Rattle.sd_model.specs.Diagram.{Diagram, diagram_cmp}
use Rattle.sd_model.specs.Size.{is_same, walk, walk_elements, completed}
use Rattle.sd_model.specs.Listing.{is_among, add}
use Rattle.sd_model.specs.Text.{index_of}
use Rattle.sd_model.specs.Seen.{diagram_of, elements_of, diagrams_of}
use Rattle.sd_model.proofs.Adding.{add_append, add_pair, completed_walks}
use Rattle.sd_model.proofs.SeenLemmas.{seen_decomposition, elements_of_drop}

-- the nodes from an index on
pub diagrams_of_drop : (nodes : List (Bor OwnedDiagram)) (i : ℕ) (r : Bor OwnedDiagram) → i < length nodes →
    diagrams_of (drop i nodes) ≡ diagram_of (get_or nodes i r).now ∷ diagrams_of (drop (i + 1) nodes)
diagrams_of_drop nodes i r h = rw (add-one, drop-cons nodes i r h)

-- a diagram that stands at an index is found there
pub index_here : (d : Diagram) (nodes : List (Bor OwnedDiagram)) (i : ℕ) (r : Bor OwnedDiagram) → i < length nodes →
    diagram_cmp d (diagram_of (get_or nodes i r).now) ≡ Equal → index_of d (diagrams_of (drop i nodes)) ≡ 0
index_here d nodes i r h e = rw (diagrams_of_drop nodes i r h, e)

-- what is not `Equal` is no copy
not_equal : (o : Ordering) → o ≢ Equal → is_eq o ≡ false
not_equal Less ne = refl
not_equal Equal ne = absurd (ne refl)
not_equal Greater ne = refl

-- one that does not stand there is found later
pub index_later : (d : Diagram) (nodes : List (Bor OwnedDiagram)) (i : ℕ) (r : Bor OwnedDiagram) → i < length nodes →
    diagram_cmp d (diagram_of (get_or nodes i r).now) ≢ Equal → index_of d (diagrams_of (drop i nodes))
    ≡ index_of d (diagrams_of (drop (i + 1) nodes)) + 1
index_later d nodes i r h ne =
    rw (diagrams_of_drop nodes i r h, not_equal (diagram_cmp d (diagram_of (get_or nodes i r).now)) ne)
    (sym (add-one _))

-- an index is at most the length
index_of_le : (d : Diagram) (ds : List Diagram) → index_of d ds ≤ length ds
index_of_le d [] = omega arith
index_of_le d (e ∷ ds) = go (is_same d e) (index_of_le d ds)
  where
    go : (b : Bool) → index_of d ds ≤ length ds → cond b 0 (suc (index_of d ds)) ≤ suc (length ds)
    go true h = omega arith
    go false h = omega arith

-- a list lacks a diagram whose index is the list's length
lacks : (d : Diagram) (ds : List Diagram) → index_of d ds ≡ length ds → is_among d ds ≡ false
lacks d [] h = refl
lacks d (e ∷ ds) h = go (is_same d e) (lacks d ds) h
  where
    go : (b : Bool) → (index_of d ds ≡ length ds → is_among d ds ≡ false) →
        cond b 0 (suc (index_of d ds)) ≡ suc (length ds) → (b || is_among d ds) ≡ false
    go true ih h = absurd (omega arith)
    go false ih h = ih (omega arith)

-- it has one with another index
has : (d : Diagram) (ds : List Diagram) → index_of d ds ≢ length ds → is_among d ds ≡ true
has d [] h = absurd (h refl)
has d (e ∷ ds) h = go (is_same d e) (has d ds) h
  where
    go : (b : Bool) → (index_of d ds ≢ length ds → is_among d ds ≡ true) →
        cond b 0 (suc (index_of d ds)) ≢ suc (length ds) → (b || is_among d ds) ≡ true
    go true ih h = refl
    go false ih h = ih (λ e. h (ap suc e))

-- what is lacking is added at the end
pub add_new : (ds : List Diagram) (d : Diagram) → index_of d ds ≡ length ds → add ds (d ∷ []) ≡ ds ++ d ∷ []
add_new ds d h = rw (lacks d ds h)

-- what is there is not added
pub add_old : (ds : List Diagram) (d : Diagram) → index_of d ds ≢ length ds → add ds (d ∷ []) ≡ ds
add_old ds d h = rw (has d ds h)

-- the diagrams behind references are as many as the references
pub length_diagrams_of : (nodes : List (Bor OwnedDiagram)) → length (diagrams_of nodes) ≡ length nodes
length_diagrams_of [] = refl
length_diagrams_of (r ∷ nodes) = ap suc (length_diagrams_of nodes)

-- the walk over a decomposition is that over its elements, and then itself
pub add_decomposition : (ds : List Diagram) (d : OwnedDiagram) (p : ℕ) (v : Vec OwnedElement Global) →
    d ≡ OwnedDecomposition p v →
    add ds (walk (diagram_of d)) ≡ add (add ds (walk_elements (elements_of v.items))) (diagram_of d ∷ [])
add_decomposition ds d p v e =
    rw (seen_decomposition d p v e) (add_append ds (walk_elements (elements_of v.items)) _)

-- the walk over the elements from an index on
pub add_element : (ds : List Diagram) (es : List OwnedElement) (i : ℕ) (e : OwnedElement) → i < length es →
    add ds (walk_elements (elements_of (drop i es)))
    ≡ add (add (add ds (walk (diagram_of (get_or es i e).prime))) (walk (diagram_of (get_or es i e).sub)))
    (walk_elements (elements_of (drop (i + 1) es)))
add_element ds es i e h =
    ap (λ v. add ds (walk_elements v)) (elements_of_drop es i e h)
    ∙ add_pair ds (diagram_of (get_or es i e).prime) (diagram_of (get_or es i e).sub) (elements_of (drop (i + 1) es))

-- the list of references grows by a diagram that it lacks
pub node_added : (old new : List (Bor OwnedDiagram)) (d : Bor OwnedDiagram) → new ≡ old ++ d ∷ [] →
    index_of (diagram_of d.now) (diagrams_of old) ≡ length old →
    diagrams_of new ≡ add (diagrams_of old) (diagram_of d.now ∷ [])
node_added old new d e h =
    ap diagrams_of e
    ∙ map-append (λ (r : Bor OwnedDiagram). diagram_of r.now) old (d ∷ [])
    ∙ sym (add_new (diagrams_of old) (diagram_of d.now) (h ∙ sym (length_diagrams_of old)))

-- and stays as it is where the diagram is there
pub node_there : (old : List (Bor OwnedDiagram)) (d : Bor OwnedDiagram) →
    index_of (diagram_of d.now) (diagrams_of old) ≢ length old →
    diagrams_of old ≡ add (diagrams_of old) (diagram_of d.now ∷ [])
node_there old d h = sym (add_old (diagrams_of old) (diagram_of d.now) (λ e. h (e ∙ length_diagrams_of old)))

-- the walk over the roots from an index on
pub add_root : (ds : List Diagram) (roots : List OwnedDiagram) (i : ℕ) (r : OwnedDiagram) → i < length roots →
    add ds (flat_map walk (map diagram_of (drop i roots)))
    ≡ add (add ds (walk (diagram_of (get_or roots i r)))) (flat_map walk (map diagram_of (drop (i + 1) roots)))
add_root ds roots i r h =
    rw (add-one, drop-cons roots i r h)
    (add_append ds (walk (diagram_of (get_or roots i r))) (flat_map walk (map diagram_of (drop (suc i) roots))))

-- before the first root nothing was added
pub roots_begun : (roots : List OwnedDiagram) (nodes : List (Bor OwnedDiagram)) → nodes ≡ [] →
    add (diagrams_of nodes) (flat_map walk (map diagram_of roots)) ≡ completed (map diagram_of roots)
roots_begun roots nodes e =
    ap (λ ns. add (diagrams_of ns) (flat_map walk (map diagram_of roots))) e
    ∙ sym (completed_walks (map diagram_of roots))

-- after the last one all are
pub roots_done : (roots : List OwnedDiagram) (nodes : List (Bor OwnedDiagram)) (i : ℕ) → length roots ≤ i →
    add (diagrams_of nodes) (flat_map walk (map diagram_of (drop i roots))) ≡ completed (map diagram_of roots) →
    diagrams_of nodes ≡ completed (map diagram_of roots)
roots_done roots nodes i ended h =
    sym (ap (λ rs. add (diagrams_of nodes) (flat_map walk (map diagram_of rs))) (drop_all i roots ended)) ∙ h
