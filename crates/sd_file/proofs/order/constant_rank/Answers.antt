use Rattle.sd_file.proofs.Collecting.{constant_fits}
use Rattle.sd_file.proofs.order.constant_rank.Goals as goal

pub returns : goal.returns
returns c = constant_fits c.args.value
