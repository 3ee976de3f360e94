use Rattle.std.proofs.Common.{sym, subst}
use Rattle.sd_cond.specs.Calls.{IsAnswer}
use Rattle.sd_cond.specs.Kept.{AreAnswers}
use Rattle.sd_cond.proofs.kept.KeptAnswers.keep.Goals as goal
use Rattle.sd_cond.proofs.kept.KeptAnswers.keep.Goals.{then-self-len+in_ok-grow, else-self-len}

pub returns : goal.returns
returns c = λ t f h one.
    let known : AreAnswers t f c.if-self-len.self = elim c.if-self-len.branch [
      | then-self-len+in_ok-grow w ↦ rw w.self-is (w.grow.ensures t f h)
      | else-self-len w ↦ rw w.self-is h
    ] in
    record {
      right = c.put_entry.ensures t f known.right
          (λ some. subst (λ n. IsAnswer t f n c.answer.inside.0) (sym c.node.view_is)
          (subst (λ n. IsAnswer t f c.args.node n) (sym c.answer.view_is) one));
    }
