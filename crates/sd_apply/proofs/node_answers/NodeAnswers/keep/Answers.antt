use Rattle.sd_apply.proofs.node_answers.NodeAnswers.keep.Goals as goal
use Rattle.std.proofs.lemmas.List.Elements.{All-set}
use Rattle.sd_apply.specs.GroupCalls.{Remembers, IsRightEntry}
use Rattle.sd_apply.proofs.node_answers.NodeAnswers.keep.Goals.{then-self-len, else-self-len}

pub returns : goal.returns
returns c = record {
  right = λ t o g k r.
      let known : Remembers c.if-self-len.self t o g = elim c.if-self-len.branch [
        | then-self-len w ↦ rw w.self-is (w.grow.ensures.right t o g k)
        | else-self-len w ↦ rw w.self-is k
      ] in
      record {
        right = All-set (IsRightEntry t o g) c.if-self-len.self.entries.items c.entry_of-index.result _ r
            known.right;
      };
}
