use Rattle.sd_manager.proofs.Valid.{empty_stored}
use Rattle.sd_manager.proofs.CountsAfter.{counts_none}
use Rattle.sd_manager.proofs.manager.Manager.new.Goals as goal

pub invariant_of-result : goal.invariant_of-result
invariant_of-result c = record {
  stored = empty_stored c.args.vtree c.args.bound c.in_ok-new.field-0 c.new-2.result c.variables.ensures.numbered
      c.requires c.in_ok-new.ensures.nodes c.in_ok-new.ensures.empty c.new-2.ensures;
  counted = counts_none c.args.bound c.in_ok-new.field-0 c.new-4.result c.in_ok-new.ensures.empty c.new-4.ensures;
}

pub returns-clause-table : goal.returns-clause-table
returns-clause-table c = (invariant_of-result c).stored.table
