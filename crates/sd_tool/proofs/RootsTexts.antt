-- Two texts of roots, of which there may be none, are equal exactly if the formulas are one function at each place.
use Rattle.std.proofs.Common.{◌≡◌, ◌↔◌, ℕ, ◌≤◌, true, List, [], ◌∷◌, ◌++◌, length, map, refl, sym, ◌∙◌, ap}
use Rattle.std.proofs.Common.{arith, length-append}
use Rattle.std.proofs.Math.ListN.{length-map}
use Rattle.std.specs.List.{AllZip, flat_map}
use Rattle.sd_model.specs.Expression.{Expression, AreOneFunction}
use Rattle.sd_model.specs.Tree.{Tree, IsVtree, leaves}
use Rattle.sd_model.specs.Diagram.{Diagram}
use Rattle.sd_model.specs.Listing.{is_among}
use Rattle.sd_model.specs.Size.{IsDiagramOf, completed}
use Rattle.sd_model.specs.Text.{number_text, line_text, spaced, node_words, naming_lines, roots_text}
use Rattle.sd_model.proofs.ClosedLists.{roots_among}
use Rattle.sd_model.proofs.PlainTexts.{roots_text_plain}
use Rattle.sd_model.proofs.Determined.{roots_texts_equal}

-- a line has its line feed
line_long : (words : List (List ℕ)) → 1 ≤ length (line_text words)
line_long [] = omega arith
line_long (word ∷ words) = omega (arith, length-append (word ++ spaced words) (10 ∷ []))

-- a text has as many bytes as lines, or more
text_long : (lines : List (List (List ℕ))) → length lines ≤ length (flat_map line_text lines)
text_long [] = omega arith
text_long (line ∷ lines) =
    omega (arith, length-append (line_text line) (flat_map line_text lines), line_long line, text_long lines)

-- a list with a member is not empty
some_there : (d : Diagram) (ds : List Diagram) → is_among d ds ≡ true → 1 ≤ length ds
some_there d [] h = cc
some_there d (e ∷ es) h = omega arith

-- the number of nodes is told in one digit or more, and then lines follow
no_room : (number rest : List ℕ) → 1 ≤ length rest → 48 ∷ 10 ∷ [] ≡ ((number ++ []) ++ 10 ∷ []) ++ rest → ⊥
no_room [] rest some e = let same : ◌≡◌ {A = ℕ} 48 10 = cc in omega (arith, same)
no_room (digit ∷ digits) rest some e =
    omega (
      arith,
      some,
      ap length e,
      length-append ((digits ++ []) ++ 10 ∷ []) rest,
      length-append (digits ++ []) (10 ∷ []),
    )

-- the text of no roots
no_roots : roots_text [] ≡ 115 ∷ 100 ∷ 100 ∷ 32 ∷ 48 ∷ 10 ∷ []
unfolding roots_text completed number_text
no_roots = refl

-- the lines behind the first
abbrev lines_of : List Diagram → List (List (List ℕ))
lines_of roots = map (node_words (completed roots)) (completed roots) ++ naming_lines (completed roots) roots

-- a text begins with the number of its nodes
text_begins : (roots : List Diagram) → roots_text roots
    ≡ 115 ∷ 100 ∷ 100 ∷ 32
    ∷ (((number_text (length (completed roots)) ++ []) ++ 10 ∷ []) ++ flat_map line_text (lines_of roots))
text_begins roots = roots_text_plain roots

-- roots have a line
some_lines : (d : Diagram) (ds : List Diagram) → 1 ≤ length (flat_map line_text (lines_of (d ∷ ds)))
some_lines d ds =
    let nodes : List Diagram = completed (d ∷ ds) in
    omega (
      arith,
      some_there d nodes (roots_among (d ∷ ds)).0,
      length-map nodes (node_words nodes),
      length-append (map (node_words nodes) nodes) (naming_lines nodes (d ∷ ds)),
      text_long (lines_of (d ∷ ds)),
    )

-- so no roots have another text than some
empty_apart : (d : Diagram) (ds : List Diagram) → roots_text [] ≡ roots_text (d ∷ ds) → ⊥
empty_apart d ds e =
    let all = sym no_roots ∙ e ∙ text_begins (d ∷ ds) in
    no_room (number_text (length (completed (d ∷ ds)))) (flat_map line_text (lines_of (d ∷ ds))) (some_lines d ds) (cc)

-- two texts for a vtree are equal exactly if their formulas are as many, and one function at each place
pub texts_of_roots : (t : Tree) (fs gs : List Expression) (ds es : List Diagram) → IsVtree t
    → AllZip (IsDiagramOf t) fs ds → AllZip (IsDiagramOf t) gs es
    → (roots_text ds ≡ roots_text es) ↔ AllZip (AreOneFunction (leaves t)) fs gs
texts_of_roots t [] [] [] [] v h k = ((λ e. tt), (λ s. refl))
texts_of_roots t (f ∷ fs) gs [] es v h k = absurd h
texts_of_roots t fs (g ∷ gs) ds [] v h k = absurd k
texts_of_roots t [] gs (d ∷ ds) es v h k = absurd h
texts_of_roots t fs [] ds (e ∷ es) v h k = absurd k
texts_of_roots t [] (g ∷ gs) [] (e ∷ es) v h k = ((λ same. absurd (empty_apart e es same)), (λ s. absurd s))
texts_of_roots t (f ∷ fs) [] (d ∷ ds) [] v h k = ((λ same. absurd (empty_apart d ds (sym same))), (λ s. absurd s))
texts_of_roots t (f ∷ fs) (g ∷ gs) (d ∷ ds) (e ∷ es) v h k =
    roots_texts_equal t (f ∷ fs) (g ∷ gs) (d ∷ ds) (e ∷ es) v h k (omega arith) (omega arith)
