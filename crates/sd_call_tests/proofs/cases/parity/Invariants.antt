use Rattle.sd_manager.specs.Shown.{IsNodeOf}
use Rattle.sd_manager.specs.Making.{Extends}
use Rattle.sd_call_tests.specs.Ready.{IsFresh}
use Rattle.sd_call_tests.proofs.cases.parity.Given as goal

abbrev pub invariant-loop-index : goal.invariant-loop-index
invariant-loop-index l = record {
  shown : IsNodeOf l.m l.node;
  kept : Extends l.fn.m l.m;
  fresh : IsFresh l.m l.c;
}
