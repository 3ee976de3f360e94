use Rattle.std.proofs.lemmas.Result.{IfOk-weaker}
use Rattle.sd_apply.specs.Answers.{HasAnswer, Combines}
use Rattle.sd_model.specs.Assignment.{literal_holds}
use Rattle.sd_compile.specs.Joined.{joined, literal_of_place}
use Rattle.sd_compile.proofs.Joining.{answer_node, answer_on}
use Rattle.sd_compile.proofs.Grouping.{parts_joined}
use Rattle.sd_compile.proofs.groups.+join_placed.Goals as goal

pub connect-requires-clause-first : goal.connect-requires-clause-first
connect-requires-clause-first t c =
    answer_node _ _ _ (answer_on _ _ _ _ c.in_ok-second.ensures.kept c.in_ok-first.ensures.ok)

pub returns-clause-ok : goal.returns-clause-ok
returns-clause-ok t c =
    IfOk-weaker c.connect.result
    (λ r. Combines c.join_placed-2.new.m c.connect.new.m c.args.operation c.in_ok-first.first c.in_ok-second.second r)
    (λ r. HasAnswer c.connect.new.m
    (λ g. joined c.args.operation (λ e. literal_holds g (literal_of_place e)) c.args.placed.now) r)
    (λ r both. parts_joined c.join_placed.new.m c.join_placed-2.new.m c.connect.new.m c.args.operation
    c.parting-split.result c.args.placed.now c.in_ok-first.first c.in_ok-second.second r c.in_ok-second.ensures.kept
    c.in_ok-first.ensures.ok c.in_ok-second.ensures.ok both) c.connect.ensures.ok
