use Rattle.sd_file.proofs.FitLaws.{earlier_at}
use Rattle.sd_file.proofs.file.SddFile.pair.Goals as goal

-- both are earlier nodes
pub returns-clause-earlier : goal.returns-clause-earlier
returns-clause-earlier c =
    earlier_at c.args.self.now c.args.index c.args.element c.pair_in.result c.pair_in.ensures.file c.requires.node
    c.pair_in.ensures.value
