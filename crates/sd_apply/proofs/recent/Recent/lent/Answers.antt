use Rattle.sd_apply.proofs.Lent.{lent_right, serves_lent}
use Rattle.sd_apply.proofs.recent.Recent.lent.Goals as goal

pub returns : goal.returns
returns c = record {
  knows = record {
    right = lent_right c.args.c.now c.args.m.now c.lend.result c.epoch.result c.epoch.ensures.epoch c.requires
        c.lend.ensures.lent c.lend.ensures.other c.lend.ensures.late;
  };
  serves = serves_lent c.args.c.now c.lend.new.self c.args.m.now c.lend.ensures.rest c.requires;
}
