use Rattle.std.proofs.Common.{refl, sym, ap, subst, ◌∙◌}
use Rattle.sd_model.specs.Tree.{leaves}
use Rattle.sd_vtree.specs.Numbered.{plain_tree}
use Rattle.sd_commands.specs.Standing.{StopsAt}
use Rattle.sd_commands.specs.declared.command.RunCommand.TheVariants.{Input}
use Rattle.sd_commands.proofs.Growing.{growing_serves, grown_added, not_added, growth_stops}
use Rattle.sd_commands.proofs.growth.add_next.Goals as goal

pub add_group_past-requires-clause-no_move : goal.add_group_past-requires-clause-no_move
add_group_past-requires-clause-no_move c = c.requires.growing.1.represents.no_move

pub add_group_past-requires-clause-unmarked : goal.add_group_past-requires-clause-unmarked
add_group_past-requires-clause-unmarked c = c.requires.growing.1.represents.unmarked

pub add_group_past-requires-clause-serves : goal.add_group_past-requires-clause-serves
add_group_past-requires-clause-serves c = growing_serves c.args.state.now c.args.work.now.root _
    c.requires.growing.1.represents

pub add_group_past-requires-clause-holds : goal.add_group_past-requires-clause-holds
add_group_past-requires-clause-holds c = c.requires.growing.1.holds

pub returns-in-Ok-clause-ok : goal.returns-in-Ok-clause-ok
returns-in-Ok-clause-ok c = λ seen was.
    grown_added c.args.input.now seen c.args.state.now c.args.work.now c.total_of_formulas.ensures.table.numbered was
    c.add_group_past.new.m c.add_group_past.new.c c.add_group_past.new.work c.in-Ok.ensures.kept c.in-Ok.ensures.serves
    c.in-Ok.ensures.unmarked c.in-Ok.ensures.root c.in-Ok.ensures.next c.in-Ok.ensures.ok c.in-Ok.ensures.within

pub returns-in-Err-clause-stops : goal.returns-in-Err-clause-stops
returns-in-Err-clause-stops c = λ seen was name.
    subst (λ e. StopsAt c.args.input.now seen (Input name) c.add_group_past.new.m e) (sym c.compiling_error.ensures)
    (growth_stops c.args.input.now seen c.args.state.now c.args.work.now c.total_of_formulas.ensures.table.numbered was
    name c.add_group_past.new.m c.in-Err.error (c.in-Err.ensures.kept.bound ∙ was.represents.bound) c.requires.left
    c.in-Err.ensures.err)

pub returns-in-Err-clause-broken : goal.returns-in-Err-clause-broken
returns-in-Err-clause-broken c = λ seen was.
    not_added c.args.input.now seen c.args.state.now c.args.work.now c.total_of_formulas.ensures.table.numbered was
    c.add_group_past.new.m c.add_group_past.new.c c.add_group_past.new.work
    c.in-Err.ensures.kept c.in-Err.ensures.serves c.in-Err.ensures.unmarked c.in-Err.ensures.unchanged
    c.in-Err.ensures.all_kept.reached.roots

pub returns-in-Ok-clause-beside : goal.returns-in-Ok-clause-beside
returns-in-Ok-clause-beside c = record {
  rest = refl;
  roots = c.in-Ok.ensures.kept.reached.roots;
  variables = ap (λ v. leaves (plain_tree v)) c.in-Ok.ensures.kept.reached.vtree;
}

pub returns-in-Err-clause-beside : goal.returns-in-Err-clause-beside
returns-in-Err-clause-beside c = record {
  rest = refl;
  roots = c.in-Err.ensures.kept.reached.roots;
  variables = ap (λ v. leaves (plain_tree v)) c.in-Err.ensures.kept.reached.vtree;
}
