use Rattle.std.proofs.Common.{◌+◌, sym, ap, subst, ◌∙◌, arith, Some}
use Rattle.sd_commands.specs.Commands.{is_due}
use Rattle.sd_commands.specs.Growing.{IsSameBeside, IsBrokenOff}
use Rattle.sd_commands.proofs.Growing.{beside_both, on_ok}
use Rattle.sd_commands.proofs.growth.grow_next.Goals as goal

pub search_if_due-requires-clause-added : goal.search_if_due-requires-clause-added
search_if_due-requires-clause-added c = (
  c.requires.growing.0,
  c.in_default.ensures.ok c.requires.growing.0 c.requires.growing.1,
)

pub search_if_due-requires-clause-due : goal.search_if_due-requires-clause-due
search_if_due-requires-clause-due c =
    ap (λ e. is_due e c.add_next.new.work.groups)
    (ap (λ s. s.every) c.in_default.ensures.beside.rest ∙ c.requires.every)
    ∙ ap (is_due (Some c.args.every)) (c.in_default.ensures.next ∙ ap (λ n. n + 1) c.requires.at)
    ∙ sym c.is_due_at-due.ensures

pub returns-clause-ok : goal.returns-clause-ok
returns-clause-ok c = λ seen was. c.search_if_due.ensures.ok seen (c.in_default.ensures.ok seen was)

pub returns-clause-stops : goal.returns-clause-stops
returns-clause-stops c = λ seen was name. c.search_if_due.ensures.stops seen (c.in_default.ensures.ok seen was) name

pub returns-clause-broken : goal.returns-clause-broken
returns-clause-broken c = λ seen was. c.search_if_due.ensures.broken seen (c.in_default.ensures.ok seen was)

pub returns-clause-beside : goal.returns-clause-beside
returns-clause-beside c =
    beside_both c.args.state.now c.add_next.new.state c.search_if_due.new.state c.args.work.now.root
    c.in_default.ensures.beside
    (subst (IsSameBeside c.add_next.new.state c.search_if_due.new.state) c.in_default.ensures.root
    c.search_if_due.ensures.beside)

pub add_next-requires-clause-left : goal.add_next-requires-clause-left
add_next-requires-clause-left c = let here = c.requires.at in omega (arith, here, c.requires.left)

pub returns-clause-next : goal.returns-clause-next
returns-clause-next c =
    on_ok c.search_if_due.result (c.in_default.ensures.next ∙ ap (λ n. n + 1) c.requires.at)

pub returns-clause-root : goal.returns-clause-root
returns-clause-root c = c.in_default.ensures.root
