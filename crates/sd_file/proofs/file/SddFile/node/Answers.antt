use Rattle.sd_file.proofs.FitLaws.{kind_at}
use Rattle.sd_file.proofs.file.SddFile.node.Goals as goal

-- it fits behind the earlier ones
pub returns-clause-fits : goal.returns-clause-fits
returns-clause-fits c =
    kind_at c.args.self.now c.args.index c.node_in.result c.node_in.ensures.file c.requires c.node_in.ensures.value
