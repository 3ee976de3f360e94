-- The pieces of the writer are the text.
use Rattle.std.proofs.Common.{◌≡◌, ◌-◌, ◌*◌, [], ◌∷◌, ◌++◌, sym, ap, ◌∙◌, append-nil}
use Rattle.std.specs.Prelude.{codes}
use Rattle.std.specs.List.{flat_map}
use Rattle.sd_model.specs.Text.{number_text, line_text, vtree_node_lines, vtree_text}
use Rattle.sd_model.specs.Tree.{Tree, leaves}
use Rattle.sd_model.proofs.PlainTexts.{vtree_text_plain}

-- the header and the lines of the nodes
pub whole_text : (t : Tree) → ((codes "vtree" ++ 32 ∷ number_text (2 * leaves t - 1)) ++ 10 ∷ [])
    ++ flat_map line_text (vtree_node_lines t 0) ≡ vtree_text t
whole_text t =
    ap (λ number. ((codes "vtree" ++ 32 ∷ number) ++ 10 ∷ []) ++ flat_map line_text (vtree_node_lines t 0))
    (sym (append-nil (number_text (2 * leaves t - 1)))) ∙ sym (vtree_text_plain t)
