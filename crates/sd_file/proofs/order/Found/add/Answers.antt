use Rattle.std.proofs.Common.{sym, ◌∙◌}
use Rattle.sd_file.proofs.Collected.{seen_also}
use Rattle.sd_file.proofs.Grouping.{on_ok, added_found}
use Rattle.sd_file.proofs.Standing.{added_also}
use Rattle.sd_file.proofs.order.Found.add.Goals as goal

pub returns-then-has-clause-more : goal.returns-then-has-clause-more
returns-then-has-clause-more c = λ t found.
    seen_also t c.args.self.now c.args.code found (sym c.has.ensures ∙ c.if-has.true)

pub returns-else-has-clause-found : goal.returns-else-has-clause-found
returns-else-has-clause-found c =
    on_ok c.put.result
    (λ added t found at.
    added_found t c.args.self.now c.put.new.self c.args.position c.args.code found added at
    (sym c.has.ensures ∙ c.if-has.false))
    c.put.ensures

pub returns-else-has-clause-more : goal.returns-else-has-clause-more
returns-else-has-clause-more c =
    on_ok c.put.result
    (λ added t found. added_also c.args.self.now c.put.new.self c.args.position c.args.code added)
    c.put.ensures
