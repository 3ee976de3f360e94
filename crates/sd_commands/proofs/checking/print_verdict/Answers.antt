use Rattle.std.proofs.Common.{refl, sym, ap, subst, ◌∙◌, arith}
use Rattle.std.specs.FinMap.{get}
use Rattle.sd_vtree.specs.Numbered.{plain_tree}
use Rattle.sd_check.specs.Rules.{HasVerdict}
use Rattle.sd_commands.specs.Commands.{verdict_line}
use Rattle.sd_commands.specs.Standing.{StopsAt}
use Rattle.sd_commands.specs.declared.command.RunCommand.TheVariants.{Check}
use Rattle.sd_commands.proofs.Standing.{stands_on, as_before_on}
use Rattle.sd_commands.proofs.Stepping.{printed, operation_stops}
use Rattle.sd_commands.proofs.checking.print_verdict.Goals as goal

pub verdict_text-requires : goal.verdict_text-requires
verdict_text-requires c = (plain_tree c.args.state.now.manager.vtree, get c.args.ids.now, c.in-Ok.ensures.ok)

pub returns-in-Ok-verdict_text-clause-done : goal.returns-in-Ok-verdict_text-clause-done
returns-in-Ok-verdict_text-clause-done c = λ input seen was.
    printed input seen (Check c.args.file.now c.args.ids.now) _ c.in-Ok-verdict_text.line
    (verdict_line c.args.file.now c.in-Ok.verdict)
    (stands_on c.args.state.now c.check.new.m c.check.new.c seen was c.in-Ok.ensures.kept c.in-Ok.ensures.serves) (
      c.in-Ok.verdict,
      subst (λ t. HasVerdict t (get c.args.ids.now) c.args.file.now c.in-Ok.verdict) (sym was.tree) c.in-Ok.ensures.ok,
      refl,
    )
    c.in-Ok-verdict_text.ensures

pub returns-in-Err-clause-stops : goal.returns-in-Err-clause-stops
returns-in-Err-clause-stops c = λ input seen was.
    let command = Check c.args.file.now c.args.ids.now in
    subst (λ e. StopsAt input seen command c.check.new.m e) (sym c.operation_error.ensures)
    (operation_stops input seen command c.check.new.m c.in-Err.e tt (c.in-Err.ensures.kept.bound ∙ was.bound)
    c.in-Err.ensures.rule)

pub returns-in-Err-clause-err : goal.returns-in-Err-clause-err
returns-in-Err-clause-err c = as_before_on c.args.state.now _ _ c.in-Err.ensures.kept c.in-Err.ensures.serves

pub returns-in-Err-verdict_text-clause-err : goal.returns-in-Err-verdict_text-clause-err
returns-in-Err-verdict_text-clause-err c =
    as_before_on c.args.state.now _ _ c.in-Ok.ensures.kept c.in-Ok.ensures.serves
