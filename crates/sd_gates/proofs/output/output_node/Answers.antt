-- Behind the gates comes the node of the wire.
use Rattle.sd_compile.proofs.Kept.{all_extended}
use Rattle.sd_gates.proofs.Holding.{all_both}
use Rattle.sd_gates.proofs.output.output_node.Goals as goal

pub returns-in-Ok-clause-kept : goal.returns-in-Ok-clause-kept
returns-in-Ok-clause-kept c =
    all_both c.args.m.now c.make_wire-made.new.m c.wire_node.new.m c.make_wire-made.ensures.kept
    (all_extended c.make_wire-made.new.m c.wire_node.new.m c.wire_node.ensures.kept)
