use Rattle.std.proofs.Common.{◌++◌, sym, ap, ◌∙◌}
use Rattle.sd_vfile.specs.Reads.{vtree_fault_text}
use Rattle.sd_tool.proofs.PartLemmas.{nodes_text}
use Rattle.sd_tool.proofs.refusal.vtree_parts.Goals as goal

pub returns-in-NodesRange : goal.returns-in-NodesRange
returns-in-NodesRange c =
    c.numbered-in-NodesRange.ensures ∙ nodes_text c.args.file.now c.in-NodesRange.found
    ∙ ap (λ fault. c.args.file.now ++ vtree_fault_text fault) (sym c.in-NodesRange.is)
