use Rattle.std.proofs.Common.{arith, length-set}
use Rattle.std.proofs.lemmas.List.Elements.{All-set}
use Rattle.sd_apply.specs.declared.node_answers.NodeEntry.{NodeEntry}
use Rattle.sd_apply.specs.GroupCalls.{IsRightEntry}
use Rattle.sd_apply.proofs.node_answers.refill.Goals as goal

pub loop-i-preserved : goal.loop-i-preserved
loop-i-preserved c = (
  omega (arith, length-set {A = NodeEntry}, c.loop-i.invariant.0),
  λ t o g h w. All-set (IsRightEntry t o g) c.loop-i.wider.items c.entry_of-index.result _
      (h c.loop-i.i _ c.loop-i-test.true) (c.loop-i.invariant.1 t o g h w),
)
