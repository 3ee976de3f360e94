use Rattle.sd_apply.proofs.Lent.{serves_back}
use Rattle.sd_apply.proofs.recent.Recent.give_back.Goals as goal

pub returns : goal.returns
returns c =
    serves_back c.args.c.now c.take_back.new.self c.args.m.now c.args.self.table c.epoch.result c.epoch.ensures.epoch
    c.take_back.ensures c.requires.knows.right c.requires.serves
