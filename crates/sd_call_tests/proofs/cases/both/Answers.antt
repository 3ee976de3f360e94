use Rattle.std.proofs.lemmas.Result.{IfOk-weaker}
use Rattle.sd_model.specs.declared.trees.Operation.TheVariants.{And}
use Rattle.sd_manager.specs.Shown.{IsNodeOf}
use Rattle.sd_apply.specs.Answers.{Combines}
use Rattle.sd_call_tests.proofs.Tried.{combined_node}
use Rattle.sd_call_tests.proofs.Steps.{fresh_on}
use Rattle.sd_call_tests.proofs.cases.both.Goals as goal

pub returns-clause-shown : goal.returns-clause-shown
returns-clause-shown c =
    let a = c.literal-first in
    let b = c.literal-second in
    IfOk-weaker c.and.result (Combines c.args.m.now c.and.new.m And a.result b.result) (IsNodeOf c.and.new.m)
    (λ r h. combined_node c.args.m.now c.and.new.m And a.result b.result r
    (record { diagram = a.ensures.shown.0; is = a.ensures.shown.1 })
    (record { diagram = b.ensures.shown.0; is = b.ensures.shown.1 }) h)
    c.and.ensures.ok

pub returns-clause-fresh : goal.returns-clause-fresh
returns-clause-fresh c =
    fresh_on c.args.m.now c.and.new.m c.args.c.now c.and.new.c c.requires.fresh c.and.ensures.kept c.and.ensures.serves
