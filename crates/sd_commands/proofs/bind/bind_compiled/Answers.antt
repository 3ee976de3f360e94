use Rattle.std.proofs.Common.{refl, sym, subst, ◌∙◌, inl, length, arith}
use Rattle.sd_formula.specs.Formulas.{expression_of}
use Rattle.sd_commands.specs.Commands.{with_name, formulas_of}
use Rattle.sd_commands.specs.Standing.{StopsAt}
use Rattle.sd_commands.specs.declared.command.RunCommand.TheVariants.{Input}
use Rattle.sd_commands.proofs.Standing.{stands_compiled, as_before_compiled, holds_compiled}
use Rattle.sd_commands.proofs.Standing.{as_before_kept, before_both}
use Rattle.sd_commands.proofs.Limits.{groups_within, input_stops}
use Rattle.sd_commands.proofs.bind.bind_compiled.Goals as goal

pub name_root-requires-clause-represents : goal.name_root-requires-clause-represents
name_root-requires-clause-represents c = (
  c.requires.represents.0,
  stands_compiled c.args.state.now _ _ c.in-Ok.root _ c.requires.represents.1 c.in-Ok.ensures.absent
      c.in-Ok.ensures.kept c.in-Ok.ensures.serves c.in-Ok.ensures.unmarked c.requires.forgotten,
)

pub name_root-requires-clause-holds : goal.name_root-requires-clause-holds
name_root-requires-clause-holds c =
    (expression_of c.args.input.now, holds_compiled c.compile.new.m c.in-Ok.root _ c.in-Ok.ensures.ok)

pub returns-in-Ok-name_root-clause-done : goal.returns-in-Ok-name_root-clause-done
returns-in-Ok-name_root-clause-done c = λ seen was.
    let f = expression_of c.args.input.now in
    record {
      next = with_name seen c.args.name f;
      step = inl (
        seen.tree,
        groups_within c.args.state.now seen c.total_of_formulas.ensures.table.numbered was
            (λ g n are total. c.total_of_formulas.ensures.total g (formulas_of seen) n are total) c.args.input.now
            c.args.state.now.limit (length c.args.input.now.groups) refl (was.every ∙ c.requires.every)
            c.in-Ok.ensures.within (length c.args.input.now.groups) (omega arith),
        refl,
      );
      represents =
          c.in-Ok-name_root.ensures.represents seen f
          (stands_compiled c.args.state.now _ _ c.in-Ok.root seen was c.in-Ok.ensures.absent c.in-Ok.ensures.kept
          c.in-Ok.ensures.serves c.in-Ok.ensures.unmarked c.requires.forgotten)
          (holds_compiled c.compile.new.m c.in-Ok.root f c.in-Ok.ensures.ok);
    }

pub returns-in-Err-clause-stops : goal.returns-in-Err-clause-stops
returns-in-Err-clause-stops c = λ seen was.
    subst (λ e. StopsAt c.args.input.now seen (Input c.args.name) c.compile.new.m e) (sym c.compiling_error.ensures)
    (input_stops c.args.state.now seen c.total_of_formulas.ensures.table.numbered was
    (λ g n are total. c.total_of_formulas.ensures.total g (formulas_of seen) n are total) c.args.input.now c.args.name
    c.compile.new.m c.in-Err.error (c.in-Err.ensures.all_kept.bound ∙ was.bound) (was.every ∙ c.requires.every)
    c.in-Err.ensures.err)

pub returns-in-Err-clause-err : goal.returns-in-Err-clause-err
returns-in-Err-clause-err c =
    as_before_kept c.args.state.now _ _ c.in-Err.ensures.all_kept c.in-Err.ensures.serves c.in-Err.ensures.unmarked
    (c.requires.forgotten _)

pub returns-in-Err-name_root-clause-err : goal.returns-in-Err-name_root-clause-err
returns-in-Err-name_root-clause-err c =
    before_both c.args.state.now _ _
    (as_before_compiled c.args.state.now _ _ c.in-Ok.root c.in-Ok.ensures.absent c.in-Ok.ensures.kept
    c.in-Ok.ensures.serves c.in-Ok.ensures.unmarked c.requires.forgotten)
    c.in-Err-name_root.ensures.err
