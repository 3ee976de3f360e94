use Rattle.std.proofs.Common.{sym, ◌∙◌, subst, [], ◌∷◌}
use Rattle.std.proofs.lemmas.Result.{IfOk-weaker}
use Rattle.std.specs.List.{AllZip}
use Rattle.sd_model.proofs.TextBack.{single_text}
use Rattle.sd_manager.specs.Shown.{ShowsCanonical}
use Rattle.sd_file.proofs.Added.{held_shown}
use Rattle.sd_file.proofs.ReadBack.{single_last}
use Rattle.sd_file.proofs.writer.write_sdd.Goals as goal

-- the text of the list of the root's node alone
pub returns-clause-text : goal.returns-clause-text
returns-clause-text c =
    IfOk-weaker c.write_nodes.result _ _
    (λ text is d held. is (d ∷ [])
    (subst (λ cs. AllZip (ShowsCanonical c.args.m.now) cs (d ∷ [])) (sym c.from_ref.ensures.value)
    (held_shown c.args.m.now c.args.root.now c.node_of-node.result d held c.node_of-node.ensures.held, tt))
    ∙ sym (single_text d))
    c.write_nodes.ensures.text

-- whose diagram is the last of those under it
pub returns-clause-read_back : goal.returns-clause-read_back
returns-clause-read_back c =
    IfOk-weaker c.write_nodes.result _ _
    (λ text back d held. back (d ∷ [])
    (subst (λ cs. AllZip (ShowsCanonical c.args.m.now) cs (d ∷ [])) (sym c.from_ref.ensures.value)
    (held_shown c.args.m.now c.args.root.now c.node_of-node.result d held c.node_of-node.ensures.held, tt)) d
    (single_last d))
    c.write_nodes.ensures.read_back
