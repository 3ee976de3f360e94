use Rattle.sd_vfile.proofs.nodes.check.Goals as goal

pub returns-in-InnerLine : goal.returns-in-InnerLine
returns-in-InnerLine c = rw c.in-InnerLine.is (c.check_inner.ensures c.args.variables)
