-- The parts are joined and bound, or the first refusal among them, the join or the want of memory stops the command.
use Rattle.std.proofs.Common.{sym, subst, ◌∙◌, length}
use Rattle.sd_formula.specs.Formulas.{expression_of}
use Rattle.sd_parts.specs.Work.{first_refusal}
use Rattle.sd_commands.specs.Commands.{with_name}
use Rattle.sd_commands.specs.Joining.{IsJoinStopped}
use Rattle.sd_commands.specs.declared.command.RunCommand.TheVariants.{InputByParts}
use Rattle.sd_commands.proofs.Standing.{stands_compiled, as_before_compiled, holds_compiled}
use Rattle.sd_commands.proofs.Standing.{as_before_kept, before_both}
use Rattle.sd_commands.proofs.ByParts.{parts_bound, join_stops, name_stops}
use Rattle.sd_commands.proofs.opening.bind_joined.Goals as goal

pub join_parts-requires-clause-answers : goal.join_parts-requires-clause-answers
join_parts-requires-clause-answers c =
    let h = c.requires.answers in
    record { bound = 2147483647; at_least_one = h.at_least_one; at_most = h.at_most; each = h.each }

pub name_root-requires-clause-represents : goal.name_root-requires-clause-represents
name_root-requires-clause-represents c = (
  c.requires.represents.0,
  stands_compiled c.args.state.now _ _ c.in-Ok.root _ c.requires.represents.1 c.in-Ok.ensures.absent
      c.in-Ok.ensures.kept c.in-Ok.ensures.serves c.in-Ok.ensures.unmarked c.requires.forgotten,
)

pub name_root-requires-clause-holds : goal.name_root-requires-clause-holds
name_root-requires-clause-holds c =
    (expression_of c.args.input.now, holds_compiled c.join_parts.new.m c.in-Ok.root _ c.in-Ok.ensures.ok)

pub returns-in-Ok-name_root-clause-done : goal.returns-in-Ok-name_root-clause-done
returns-in-Ok-name_root-clause-done c = λ seen was.
    let f = expression_of c.args.input.now in
    record {
      next = with_name seen c.args.name f;
      step =
          parts_bound c.args.state.now seen c.total_of_formulas.ensures.table.numbered was c.args.input.now c.args.name
          (length c.args.answers.now) c.in-Ok.ensures.joined;
      represents =
          c.in-Ok-name_root.ensures.represents seen f
          (stands_compiled c.args.state.now _ _ c.in-Ok.root seen was c.in-Ok.ensures.absent c.in-Ok.ensures.kept
          c.in-Ok.ensures.serves c.in-Ok.ensures.unmarked c.requires.forgotten)
          (holds_compiled c.join_parts.new.m c.in-Ok.root f c.in-Ok.ensures.ok);
    }

pub returns-in-Err-clause-stops : goal.returns-in-Err-clause-stops
returns-in-Err-clause-stops c = λ seen was.
    subst (λ e. IsJoinStopped c.args.input.now seen (InputByParts c.args.name (length c.args.answers.now))
    (first_refusal c.args.answers.now) c.join_parts.new.m e) (sym c.compiling_error.ensures)
    (join_stops c.args.state.now seen c.total_of_formulas.ensures.table.numbered was c.args.input.now c.args.name
    (length c.args.answers.now) c.join_parts.new.m c.in-Err.error (first_refusal c.args.answers.now)
    (c.in-Err.ensures.all_kept.bound ∙ was.bound) c.in-Err.ensures.passed
    (λ r is. let e = (c.in-Err.ensures.refused r is).0 in cc) c.in-Err.ensures.full)

pub returns-in-Err-clause-err : goal.returns-in-Err-clause-err
returns-in-Err-clause-err c =
    as_before_kept c.args.state.now _ _ c.in-Err.ensures.all_kept c.in-Err.ensures.serves c.in-Err.ensures.unmarked
    (c.requires.forgotten c.join_parts.new.m)

pub returns-in-Err-name_root-clause-stops : goal.returns-in-Err-name_root-clause-stops
returns-in-Err-name_root-clause-stops c = λ seen was.
    name_stops c.args.input.now seen (InputByParts c.args.name (length c.args.answers.now)) _
    (first_refusal c.args.answers.now) (λ r is. let e = (c.in-Ok.ensures.refused r is).0 in cc)

pub returns-in-Err-name_root-clause-err : goal.returns-in-Err-name_root-clause-err
returns-in-Err-name_root-clause-err c =
    before_both c.args.state.now _ _
    (as_before_compiled c.args.state.now _ _ c.in-Ok.root c.in-Ok.ensures.absent c.in-Ok.ensures.kept
    c.in-Ok.ensures.serves c.in-Ok.ensures.unmarked c.requires.forgotten)
    c.in-Err-name_root.ensures.err
