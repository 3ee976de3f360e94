use Rattle.std.proofs.Common.{refl, sym, subst, arith}
use Rattle.sd_commands.specs.Commands.{formulas_of, with_name}
use Rattle.sd_commands.specs.Standing.{Represents, IsAsBefore, IsNotSettled}
use Rattle.sd_commands.proofs.Standing.{code_regained, newly_holds, one_root_more, as_before}
use Rattle.sd_commands.proofs.Limits.{within_with, not_held}
use Rattle.sd_commands.proofs.state.RunState.bind_unswept.Goals as goal

pub hold_within-requires : goal.hold_within-requires
hold_within-requires c = record {
  no_move = c.requires.represents.1.no_move;
  unmarked = c.requires.represents.1.unmarked;
  shown = record { diagram = c.requires.shown.1.diagram; is = c.requires.shown.1.is };
  room = c.requires.room;
}

pub insert_root-requires : goal.insert_root-requires
insert_root-requires c = record {
  represents = (
    c.requires.represents.0,
    subst (λ code. Represents code c.requires.represents.0)
        (sym (code_regained c.args.self.now _ c.in-Ok.root c.args.node c.in-Ok.ensures.absent c.in-Ok.ensures.ok))
        c.requires.represents.1,
  );
  holds = (
    c.requires.shown.0,
    newly_holds c.args.self.now.manager _ c.in-Ok.root c.args.node _ c.in-Ok.ensures.ok c.requires.shown.1,
  );
  free = c.requires.free;
}

pub returns-in-Ok-insert_root-clause-represents : goal.returns-in-Ok-insert_root-clause-represents
returns-in-Ok-insert_root-clause-represents c = λ seen f was shows.
    c.in-Ok-insert_root.ensures.represents seen f
    (subst (λ code. Represents code seen)
    (sym (code_regained c.args.self.now _ c.in-Ok.root c.args.node c.in-Ok.ensures.absent c.in-Ok.ensures.ok)) was)
    (newly_holds c.args.self.now.manager _ c.in-Ok.root c.args.node f c.in-Ok.ensures.ok shows)

pub returns-in-Ok-insert_root-clause-within : goal.returns-in-Ok-insert_root-clause-within
returns-in-Ok-insert_root-clause-within c = λ seen f was shows.
    within_with c.args.self.now seen c.total_of_formulas.ensures.table.numbered was
    (λ g n are total. c.total_of_formulas.ensures.total g (formulas_of seen) n are total) f c.args.self.now.limit refl
    (c.in-Ok.ensures.within f shows.diagram shows.is shows.of_value)

pub returns-in-Err-clause-refused : goal.returns-in-Err-clause-refused
returns-in-Err-clause-refused c = λ seen f was shows.
    subst (λ e. IsNotSettled (with_name seen c.args.name f) e) (sym c.holding_error.ensures)
    (not_held c.args.self.now seen c.total_of_formulas.ensures.table.numbered was
    (λ g n are total. c.total_of_formulas.ensures.total g (formulas_of seen) n are total) c.args.name f c.in-Err.error
    (c.in-Err.ensures.err f shows.diagram shows.is shows.of_value))

pub returns-in-Err-clause-err : goal.returns-in-Err-clause-err
returns-in-Err-clause-err c = as_before c.args.self.now _ c.in-Err.ensures.unchanged refl refl refl refl refl
    (λ q. refl)

pub returns-in-Err-insert_root-clause-err : goal.returns-in-Err-insert_root-clause-err
returns-in-Err-insert_root-clause-err c =
    subst (λ code. IsAsBefore code c.insert_root.new.self)
    (code_regained c.args.self.now _ c.in-Ok.root c.args.node c.in-Ok.ensures.absent c.in-Ok.ensures.ok)
    c.in-Err-insert_root.ensures.err

pub returns-in-Ok-insert_root-clause-roots : goal.returns-in-Ok-insert_root-clause-roots
returns-in-Ok-insert_root-clause-roots c =
    let more = one_root_more c.args.self.now.manager _ c.in-Ok.root c.args.node c.in-Ok.ensures.ok in
    let named = c.insert_root.ensures.roots in
    omega (arith, more, named)

pub returns-in-Err-insert_root-clause-roots : goal.returns-in-Err-insert_root-clause-roots
returns-in-Err-insert_root-clause-roots c =
    let more = one_root_more c.args.self.now.manager _ c.in-Ok.root c.args.node c.in-Ok.ensures.ok in
    let named = c.insert_root.ensures.roots in
    omega (arith, more, named)
