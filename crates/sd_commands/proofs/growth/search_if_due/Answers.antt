use Rattle.std.proofs.Common.{refl, sym, ap, subst, ◌∙◌}
use Rattle.std.specs.FinMap.{remove}
use Rattle.sd_vtree.specs.Numbered.{plain_tree}
use Rattle.sd_search.specs.Search.{Found}
use Rattle.sd_commands.specs.Commands.{is_due}
use Rattle.sd_commands.specs.Standing.{StopsAt}
use Rattle.sd_commands.specs.declared.command.RunCommand.TheVariants.{Input}
use Rattle.sd_commands.proofs.Growing.{growing_serves, grown_searched, growth_broken, searches_stop, not_searched}
use Rattle.sd_commands.proofs.growth.search_if_due.Goals as goal

pub minimise-requires-clause-no_move : goal.minimise-requires-clause-no_move
minimise-requires-clause-no_move c = c.requires.added.1.represents.no_move

pub minimise-requires-clause-unmarked : goal.minimise-requires-clause-unmarked
minimise-requires-clause-unmarked c = c.requires.added.1.represents.unmarked

pub minimise-requires-clause-serves : goal.minimise-requires-clause-serves
minimise-requires-clause-serves c = growing_serves c.args.state.now c.args.work.now.root _ c.requires.added.1.represents

pub returns-in-Ok-clause-ok : goal.returns-in-Ok-clause-ok
returns-in-Ok-clause-ok c = λ seen was.
    let found : Found = record {
      tree = plain_tree c.minimise.new.m.vtree;
      before = c.in-Ok.found.before;
      after = c.in-Ok.found.after;
      rounds = c.in-Ok.found.rounds;
    } in
    grown_searched c.args.input.now seen c.args.state.now c.args.work.now c.total_of_formulas.ensures.table.numbered was
    c.minimise.new.m c.minimise.new.c found c.in-Ok.ensures.kept c.in-Ok.ensures.serves c.in-Ok.ensures.unmarked
    (ap (λ e. is_due e c.args.work.now.groups) was.represents.every ∙ c.requires.due ∙ c.if-due.true)
    refl c.in-Ok.ensures.search

pub returns-in-Err-clause-stops : goal.returns-in-Err-clause-stops
returns-in-Err-clause-stops c = λ seen was name.
    subst (λ e. StopsAt c.args.input.now seen (Input name) c.minimise.new.m e) (sym c.search_error.ensures)
    (searches_stop c.args.input.now seen name c.minimise.new.m c.in-Err.error
    (c.in-Err.ensures.kept.bound ∙ was.represents.bound) c.in-Err.ensures.refused)

pub returns-in-Err-clause-broken : goal.returns-in-Err-clause-broken
returns-in-Err-clause-broken c = λ seen was.
    growth_broken c.args.input.now seen c.args.state.now c.args.work.now c.total_of_formulas.ensures.table.numbered was
    c.minimise.new.m c.minimise.new.c c.in-Err.ensures.kept c.in-Err.ensures.serves c.in-Err.ensures.unmarked
    (ap (λ e. is_due e c.args.work.now.groups) was.represents.every ∙ c.requires.due ∙ c.if-due.true)
    c.in-Err.ensures.begun

pub returns-in-Ok-clause-beside : goal.returns-in-Ok-clause-beside
returns-in-Ok-clause-beside c = record {
  rest = refl;
  roots = ap (λ m. remove m c.args.work.now.root) c.in-Ok.ensures.kept.roots;
  variables = c.in-Ok.ensures.kept.variables;
}

pub returns-in-Err-clause-beside : goal.returns-in-Err-clause-beside
returns-in-Err-clause-beside c = record {
  rest = refl;
  roots = ap (λ m. remove m c.args.work.now.root) c.in-Err.ensures.kept.roots;
  variables = c.in-Err.ensures.kept.variables;
}

-- none is due
pub returns-clause-ok : goal.returns-clause-ok
returns-clause-ok c = λ seen was.
    not_searched c.args.input.now seen c.args.state.now c.args.work.now was
    (ap (λ e. is_due e c.args.work.now.groups) was.represents.every ∙ c.requires.due ∙ c.if-due.false)

pub returns-clause-beside : goal.returns-clause-beside
returns-clause-beside c = record { rest = refl; roots = refl; variables = refl }
