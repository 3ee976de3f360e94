-- The texts, by lines whose words stand each behind a space, and by the lines of roots one after another.
use Rattle.std.proofs.Common.{◌≡◌, ℕ, suc, ◌+◌, ◌-◌, ◌*◌, List, [], ◌∷◌, ◌++◌, map, length, refl, sym, ◌∙◌, ap}
use Rattle.std.proofs.Common.{arith, append-nil, le-ltb}
use Rattle.std.specs.Prelude.{codes}
use Rattle.std.specs.List.{flat_map, join_with_byte, enumerate_from}
use Rattle.sd_model.specs.Diagram.{Diagram}
use Rattle.sd_model.specs.Size.{completed}
use Rattle.sd_model.specs.Tree.{Tree, leaves}
use Rattle.sd_model.specs.Text.{number_text, index_of, node_words, line_of_words, lines_of_names, roots_text}
use Rattle.sd_model.specs.Text.{vtree_node_lines, vtree_text, spaced, line_text, root_lines, naming_lines, sdd_lines}

-- words with a space between each two are the first one and the others behind a space each
pub words_plain : (w : List ℕ) (ws : List (List ℕ)) → join_with_byte 32 (w ∷ ws) ≡ w ++ spaced ws
words_plain w [] = sym (append-nil w)
words_plain w (v ∷ ws) = ap (λ l. w ++ 32 ∷ l) (words_plain v ws)

-- so are lines
pub line_plain : (words : List (List ℕ)) → line_of_words words ≡ line_text words
line_plain [] = refl
line_plain (w ∷ ws) = ap (λ l. l ++ 10 ∷ []) (words_plain w ws)

pub lines_plain : (lines : List (List (List ℕ))) → flat_map line_of_words lines ≡ flat_map line_text lines
lines_plain [] = refl
lines_plain (l ∷ ls) =
    ap (λ line. line ++ flat_map line_of_words ls) (line_plain l) ∙ ap (λ rest. line_text l ++ rest) (lines_plain ls)

-- the lines of roots, one after another
roots_plain : (nodes : List Diagram) (n : ℕ) (roots : List Diagram)
    → map (λ (i, root). codes "c" ∷ codes "root" ∷ number_text i ∷ number_text (index_of root nodes) ∷ [])
    (enumerate_from n roots) ≡ root_lines nodes n roots
roots_plain nodes n [] = refl
roots_plain nodes n (root ∷ roots) =
    ap (λ ls. (codes "c" ∷ codes "root" ∷ number_text n ∷ number_text (index_of root nodes) ∷ []) ∷ ls)
    (let more : n + 1 ≡ suc n = omega arith in
    ap (λ k. map (λ (i, r). codes "c" ∷ codes "root" ∷ number_text i ∷ number_text (index_of r nodes) ∷ [])
    (enumerate_from k roots)) more ∙ roots_plain nodes (suc n) roots)

-- whether or not there are several
pub names_plain : (nodes roots : List Diagram) → lines_of_names nodes roots ≡ naming_lines nodes roots
names_plain nodes [] = refl
names_plain nodes (root ∷ []) = refl
names_plain nodes (root ∷ second ∷ roots) =
    rw (le-ltb (length (root ∷ second ∷ roots)) 2 (omega arith)) (roots_plain nodes 0 (root ∷ second ∷ roots))

-- the text of roots
pub roots_text_plain : (roots : List Diagram) → roots_text roots ≡ flat_map line_text (sdd_lines roots)
unfolding roots_text
roots_text_plain roots =
    let nodes : List Diagram = completed roots in
    ap (λ names. flat_map line_of_words
    ((codes "sdd" ∷ number_text (length nodes) ∷ []) ∷ map (node_words nodes) nodes ++ names))
    (names_plain nodes roots) ∙ lines_plain (sdd_lines roots)

-- the text of a vtree
pub vtree_text_plain : (t : Tree) → vtree_text t
    ≡ flat_map line_text ((codes "vtree" ∷ number_text (2 * leaves t - 1) ∷ []) ∷ vtree_node_lines t 0)
unfolding vtree_text
vtree_text_plain t = lines_plain ((codes "vtree" ∷ number_text (2 * leaves t - 1) ∷ []) ∷ vtree_node_lines t 0)
