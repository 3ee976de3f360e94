-- Steps of the functions that write the text of diagrams.
use Rattle.std.proofs.Common.{◌≡◌, ℕ, List, [], ◌∷◌, ◌++◌, length, map, sym, ◌∙◌, ap, subst, append_assoc, append-nil}
use Rattle.std.specs.List.{flat_map}
use Rattle.std.proofs.lemmas.List.Concat.{flat_map-append}
use Rattle.std.specs.declared.vec.Vec.{Vec}
use Rattle.std.specs.declared.alloc.Global.{Global}
use denote.Bor.{Bor}
use Rattle.sd_model.specs.declared.diagrams.Diagram.{Diagram as OwnedDiagram, Decomposition as OwnedDecomposition}
use Rattle.sd_model.specs.declared.diagrams.Element.{Element as OwnedElement}
use Rattle.sd_model.specs.Diagram.{Diagram}
use Rattle.sd_model.specs.Size.{completed}
use Rattle.sd_model.specs.Text.{number_text, spaced, line_text, index_of}
use Rattle.sd_model.specs.Text.{element_words, node_words, naming_lines, sdd_lines, roots_text}
use Rattle.sd_model.specs.Seen.{diagram_of, elements_of, diagrams_of}
use Rattle.sd_model.proofs.NodeSteps.{length_diagrams_of}
use Rattle.sd_model.proofs.PlainTexts.{roots_text_plain}
use Rattle.sd_model.proofs.SeenLemmas.{seen_decomposition, count_elements_of}

-- the pieces of a decomposition's line, in the order in which they are written behind what is there
abbrev pub pieces : List ℕ → List Diagram → Diagram → ℕ → List OwnedElement → List ℕ
pieces old nodes d p es =
    old ++ 68 ∷ 32 ∷ number_text (index_of d nodes) ++ 32 ∷ number_text p ++ 32 ∷ number_text (length es)
    ++ spaced (element_words nodes (elements_of es)) ++ 10 ∷ []

-- they are its line
pub decomposition_line : (old : List ℕ) (nodes : List Diagram) (d : OwnedDiagram) (p : ℕ)
    (v : Vec OwnedElement Global) → d ≡ OwnedDecomposition p v →
    pieces old nodes (diagram_of d) p v.items ≡ old ++ line_text (node_words nodes (diagram_of d))
decomposition_line old nodes d p v e =
    subst (λ x. pieces old nodes x p v.items ≡ old ++ line_text (node_words nodes x)) (sym (seen_decomposition d p v e))
    (rw count_elements_of (simp append_assoc))

-- a header with a number of nodes, the nodes' lines, and those that name the roots
abbrev pub all_pieces : ℕ → List Diagram → List Diagram → List ℕ
all_pieces count nodes roots =
    (115 ∷ 100 ∷ 100 ∷ []) ++ 32 ∷ number_text count ++ 10 ∷ [] ++ flat_map line_text (map (node_words nodes) nodes)
    ++ flat_map line_text (naming_lines nodes roots)

-- they are the lines of the text
whole_lines : (roots : List Diagram) (nodes : List (Bor OwnedDiagram)) → diagrams_of nodes ≡ completed roots →
    all_pieces (length nodes) (diagrams_of nodes) roots ≡ flat_map line_text (sdd_lines roots)
whole_lines roots nodes h =
    rw (← length_diagrams_of nodes)
    (subst (λ ns. all_pieces (length ns) ns roots ≡ flat_map line_text (sdd_lines roots)) (sym h)
    (rw (flat_map-append line_text (map (node_words all) all) (naming_lines all roots))
    (ap (λ number. (115 ∷ 100 ∷ 100 ∷ 32 ∷ (number ++ 10 ∷ [])) ++ lines ++ naming)
    (sym (append-nil (number_text (length all))))
    ∙ append_assoc (115 ∷ 100 ∷ 100 ∷ 32 ∷ ((number_text (length all) ++ []) ++ 10 ∷ [])) lines naming)))
  where
    all : List Diagram
    all = completed roots

    lines : List ℕ
    lines = flat_map line_text (map (node_words all) all)

    naming : List ℕ
    naming = flat_map line_text (naming_lines all roots)

-- they are the text
pub whole_text : (roots : List Diagram) (nodes : List (Bor OwnedDiagram)) → diagrams_of nodes ≡ completed roots →
    all_pieces (length nodes) (diagrams_of nodes) roots ≡ roots_text roots
whole_text roots nodes h = whole_lines roots nodes h ∙ sym (roots_text_plain roots)
