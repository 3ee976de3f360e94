use Rattle.std.proofs.Common.{◌+◌, subst}
use Rattle.sd_apply.specs.GroupCalls.{AreLiteralsBelow}
use Rattle.sd_apply.proofs.Trees.{right_there}
use Rattle.sd_apply.proofs.JoiningPlaces.{literals_after, fork_range}
use Rattle.sd_apply.proofs.join.halves_at.Goals as goal

-- the literals that are no literal of the variable are below the right child
pub returns-clause-right : goal.returns-clause-right
returns-clause-right c =
    let m = c.args.m.now in
    let i = c.requires.table in
    let l = c.args.literals.now in
    let s = c.in-Some.split in
    let below : AreLiteralsBelow m s.right c.next_right-next.result l = c.are_right.ensures c.if-not-are_right.false in
    record {
      there = right_there m.vtree i.numbered c.args.at s.left s.right c.in-Some.ensures.children;
      variable = (fork_range m.vtree i.numbered c.args.at s.left s.right s.variable c.in-Some.ensures).0;
      rest = literals_after m s.right c.next_right-next.result (c.args.from + 1) l c.next_right-next.ensures.most below;
      past = λ e there differ. subst (λ k. AreLiteralsBelow m s.right k l)
          (c.next_right-next.ensures.begins e there differ) below;
    }
