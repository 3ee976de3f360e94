use Rattle.std.proofs.Common.{arith}
use Rattle.sd_runs.proofs.Written.{two_written}
use Rattle.sd_runs.proofs.writing.write.Goals as goal

pub returns-in-len2 : goal.returns-in-len2
returns-in-len2 c =
    two_written c.args.start c.args.elements.now c.args.list.now (omega arith) (omega arith) c.requires
