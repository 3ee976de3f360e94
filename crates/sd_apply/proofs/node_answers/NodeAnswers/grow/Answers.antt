use Rattle.std.proofs.Common.{sym, subst}
use Rattle.sd_apply.specs.GroupCalls.{AreRightEntries}
use Rattle.sd_apply.proofs.node_answers.NodeAnswers.grow.Goals as goal

pub returns : goal.returns
returns c = record {
  right = λ t o g k. record {
    right = c.refill.ensures t o g (subst (λ es. AreRightEntries t o g es) (sym c.deref.ensures.value) k.right)
        (c.in-Ok.ensures.right t o g);
  };
}
