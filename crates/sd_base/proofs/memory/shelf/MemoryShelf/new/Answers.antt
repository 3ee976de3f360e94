use Rattle.sd_base.specs.declared.memory.fault_plan.ShelfCall.TheVariants.{StartRead, StartWrite}
use Rattle.sd_base.proofs.memory.shelf.MemoryShelf.new.Goals as goal

-- no call was made
pub returns-clause-asked : goal.returns-clause-asked
returns-clause-asked c = record {
  readings = c.new.ensures.calls StartRead;
  writings = c.new.ensures.calls StartWrite;
}
